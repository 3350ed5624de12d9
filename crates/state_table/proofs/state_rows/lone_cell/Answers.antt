use Rattle.std.proofs.Common.{◌≡◌, ℕ, Bool, true, false, cond, List, [], ◌∷◌, inr, refl, sym, ap, ◌∙◌, subst, get_or}
use Rattle.std.specs.Prelude.{IfSome}
use Rattle.vob.specs.Sets.{is_set}
use Rattle.state_table.specs.CellRows.{IsPlain}
use Rattle.state_table.specs.CellViews.{action_of, state_of}
use Rattle.state_table.specs.Meeting.{rows_in}
use Rattle.state_table.specs.declared.cells.Action.{Action as TableAction}
use Rattle.state_table.proofs.state_rows.lone_cell.Goals as goal

pub returns-then-not-has_token : goal.returns-then-not-has_token
returns-then-not-has_token g c =
    let number = g.S.IndexStorage.number in
    let p = number c.args.reduction.pidx.0 in
    let e : is_set (get_or (rows_in c.args.sets.now) c.args.reduction.set []) c.args.number ≡ false = sym c.has_token.ensures ∙ c.if-not-has_token.true in
    let f : [] ≡ cond (is_set (get_or (rows_in c.args.sets.now) c.args.reduction.set []) c.args.number) (p ∷ []) [] = sym (ap (λ (b : Bool). cond b (p ∷ []) []) e) in
    subst (λ (l : List ℕ). IfSome c.shift_cell.result (λ (a : TableAction g.row.S.Denot). IsPlain l (state_of number c.args.edge) (action_of number a))) f c.shift_cell.ensures

pub returns-in-None : goal.returns-in-None
returns-in-None g c =
    let number = g.S.IndexStorage.number in
    let p = number c.args.reduction.pidx.0 in
    let e : is_set (get_or (rows_in c.args.sets.now) c.args.reduction.set []) c.args.number ≡ true = sym c.has_token.ensures ∙ c.if-not-has_token.false in
    inr (p, ap (λ (b : Bool). cond b (p ∷ []) []) e, ap (state_of number) c.in-None.is, refl)
