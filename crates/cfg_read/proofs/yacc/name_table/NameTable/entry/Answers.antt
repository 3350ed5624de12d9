use Rattle.std.proofs.Common.{◌≡◌, ◌<◌, Bool, refl, ap, sym, ◌∙◌, slice_get, Some, length}
use Rattle.std.proofs.lemmas.Option.{slice_get_read}
use Rattle.cfg_read.specs.declared.yacc.name_table.Entry.{Entry}
use Rattle.cfg_read.specs.Names.{is_among}
use Rattle.cfg_read.specs.NameTexts.{name_text}
use Rattle.cfg_read.specs.NameTables.{TableParts, is_marked}
use Rattle.cfg_read.proofs.Marks.{marked_none, marked_at, within_entries}
use Rattle.cfg_read.proofs.yacc.name_table.NameTable.entry.Goals as goal

pub returns-in-Some-clause-declared : goal.returns-in-Some-clause-declared
returns-in-Some-clause-declared c =
    let mark : Entry → Bool = λ (e : Entry). e.is_declared in
    let ts = c.self.inside.names in
    let es = c.self.inside.entries.items in
    let q = name_text c.args.name.now in
    let within : c.in-Some.place < length es = within_entries ts es c.in-Some.place q c.self.invariant.size c.in-Some.ensures.there in
    let at : slice_get es c.in-Some.place ≡ Some c.index.result.now = slice_get_read es (length es) c.in-Some.place c.index.result.now refl within c.index.ensures in
    sym (marked_at mark ts es c.in-Some.place q c.index.result.now c.find.ensures.unique c.in-Some.ensures.there at)
    ∙ ap (λ (t : TableParts). is_marked mark t.names t.entries q) c.self.view_is

pub returns-in-Some-clause-rule : goal.returns-in-Some-clause-rule
returns-in-Some-clause-rule c =
    let mark : Entry → Bool = λ (e : Entry). e.is_rule in
    let ts = c.self.inside.names in
    let es = c.self.inside.entries.items in
    let q = name_text c.args.name.now in
    let within : c.in-Some.place < length es = within_entries ts es c.in-Some.place q c.self.invariant.size c.in-Some.ensures.there in
    let at : slice_get es c.in-Some.place ≡ Some c.index.result.now = slice_get_read es (length es) c.in-Some.place c.index.result.now refl within c.index.ensures in
    sym (marked_at mark ts es c.in-Some.place q c.index.result.now c.find.ensures.unique c.in-Some.ensures.there at)
    ∙ ap (λ (t : TableParts). is_marked mark t.names t.entries q) c.self.view_is

pub returns-in-None-clause-declared : goal.returns-in-None-clause-declared
returns-in-None-clause-declared c =
    let mark : Entry → Bool = λ (e : Entry). e.is_declared in
    let q = name_text c.args.name.now in
    sym (marked_none mark c.self.inside.names c.self.inside.entries.items q (sym c.in-None.ensures.found))
    ∙ ap (λ (t : TableParts). is_marked mark t.names t.entries q) c.self.view_is

pub returns-in-None-clause-rule : goal.returns-in-None-clause-rule
returns-in-None-clause-rule c =
    let mark : Entry → Bool = λ (e : Entry). e.is_rule in
    let q = name_text c.args.name.now in
    sym (marked_none mark c.self.inside.names c.self.inside.entries.items q (sym c.in-None.ensures.found))
    ∙ ap (λ (t : TableParts). is_marked mark t.names t.entries q) c.self.view_is

pub returns-in-Some-clause-token : goal.returns-in-Some-clause-token
returns-in-Some-clause-token c =
    let mark : Entry → Bool = λ (e : Entry). e.is_token in
    let ts = c.self.inside.names in
    let es = c.self.inside.entries.items in
    let q = name_text c.args.name.now in
    let within : c.in-Some.place < length es = within_entries ts es c.in-Some.place q c.self.invariant.size c.in-Some.ensures.there in
    let at : slice_get es c.in-Some.place ≡ Some c.index.result.now = slice_get_read es (length es) c.in-Some.place c.index.result.now refl within c.index.ensures in
    sym (marked_at mark ts es c.in-Some.place q c.index.result.now c.find.ensures.unique c.in-Some.ensures.there at)
    ∙ (λ j. c.self.invariant.are_tokens j q)
    ∙ ap (λ (t : TableParts). is_among t.tokens q) c.self.view_is

pub returns-in-None-clause-token : goal.returns-in-None-clause-token
returns-in-None-clause-token c =
    let mark : Entry → Bool = λ (e : Entry). e.is_token in
    let q = name_text c.args.name.now in
    sym (marked_none mark c.self.inside.names c.self.inside.entries.items q (sym c.in-None.ensures.found))
    ∙ (λ j. c.self.invariant.are_tokens j q)
    ∙ ap (λ (t : TableParts). is_among t.tokens q) c.self.view_is
