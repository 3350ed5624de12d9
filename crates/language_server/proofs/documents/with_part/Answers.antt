use Rattle.std.proofs.Common.{List, ℕ, sym, subst, arith}
use Rattle.std.specs.Str.{IsCharBoundary}
use Rattle.std.proofs.lemmas.Str.{IsCharBoundary-end, IsCharBoundary-start}
use Rattle.language_server.proofs.documents.with_part.Goals.{in_default-via-in-Some+in_default, in_default-via-in_default}
use Rattle.language_server.proofs.documents.with_part.Goals as goal

pub returns-in_default : goal.returns-in_default
returns-in_default c = λ a b.
    let whole = c.as_str-whole.result.now in
    let e = c.as_str-whole.ensures.value in
    let first = subst (λ (xs : List ℕ). IsCharBoundary xs c.args.first) (sym e) a in
    let past = subst (λ (xs : List ℕ). IsCharBoundary xs c.args.past) (sym e) b in
    absurd (elim c.in_default.branch [
      | in_default-via-in-Some+in_default w ↦ w.in_default.ensures'.cases past.0 past (IsCharBoundary-end whole)
      | in_default-via-in_default w ↦ w.in_default.ensures.cases (omega arith) (IsCharBoundary-start whole c.as_str-whole.utf8) first
    ])
