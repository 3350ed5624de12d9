use Rattle.std.proofs.Common.{◌≡◌, take, set, length}
use Rattle.std.specs.List.{fold}
use Rattle.cfgrammar.proofs.yacc.from_ast.heads.note_all.Given as goal

abbrev pub invariant-pidxs : goal.invariant-pidxs
invariant-pidxs l = (l.heads.items ≡ fold (λ hs p. set hs p l.index) l.initial.heads.items (take l.pidx-index l.pidxs)) × (length l.heads.items ≡ length l.initial.heads.items)
