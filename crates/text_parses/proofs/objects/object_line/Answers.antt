use Rattle.text_parses.proofs.objects.object_line.Goals as goal

pub returns-in-Ok : goal.returns-in-Ok
returns-in-Ok c =
    let found = c.in_ok-object.ensures in
    record {
      object = record c.in_ok-object.object { next = c.in_ok-object-2.field-0 };
      is = record { version = found.version; path = found.path; line = found.line; found = found.found };
      next = c.in_ok-object-2.ensures;
      is_line = c.in-Ok.ensures;
    }
