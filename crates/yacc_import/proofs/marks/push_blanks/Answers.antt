use Rattle.std.proofs.Common.{◌+◌, ◌++◌, ◌∷◌, [], ◌∙◌, ap, sym, append_assoc, get_or, take}
use Rattle.yacc_import.specs.Changes.{blank_of, mark, blanks_of}
use Rattle.yacc_import.proofs.Parts.{blanks_more}
use Rattle.yacc_import.proofs.marks.push_blanks.Goals as goal

pub bytes-preserved : goal.bytes-preserved
bytes-preserved c =
    let m = mark (c.args.at + c.bytes.i) (blank_of (get_or c.args.bytes.now c.bytes.i 0)) in
    c.in_ok-push.ensures.items
    ∙ ap (λ b. c.bytes.out.items ++ mark (c.args.at + c.bytes.i) b ∷ []) c.blank_of-byte.ensures
    ∙ ap (λ l. l ++ m ∷ []) c.bytes.invariant
    ∙ append_assoc c.args.out.now.items (blanks_of c.args.at (take c.bytes.i c.args.bytes.now)) (m ∷ [])
    ∙ ap (λ l. c.args.out.now.items ++ l) (sym (blanks_more c.args.at c.args.bytes.now c.bytes.i 0 c.bytes-test.true))
