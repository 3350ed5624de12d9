use Rattle.std.proofs.Common.{◌≡◌, ℕ, ◌⊎◌, sym, ap, ◌∙◌, subst}
use Rattle.std.specs.List.{Contains}
use Rattle.cfg_theory.specs.Grammar.{Sym, rule}
use Rattle.cfg_numbered.specs.Symbols.{sym_of}
use Rattle.cfg_sets.specs.Paths.{Reaches, with_rule}
use Rattle.cfg_sets.proofs.PathFills.{reaches_same, reaches_rule}
use Rattle.cfg_sets.proofs.paths.reach.Goals as goal

pub returns-then-not-add_symbol : goal.returns-then-not-add_symbol
returns-then-not-add_symbol g c = reaches_same (sym_of g.S.IndexStorage.number c.args.symbol) c.args.reached.now.bits c.add_symbol.new.reached.bits c.args.work.now c.add_symbol.ensures.bits (c.add_symbol.ensures.steps.still c.if-not-add_symbol.true)

pub returns-in_ok-put-in-Rule : goal.returns-in_ok-put-in-Rule
returns-in_ok-put-in-Rule g c =
    let number = g.S.IndexStorage.number in
    let R = number c.in-Rule.rule.0 in
    let old = c.args.reached.now.bits in
    let new = c.add_symbol.new.reached.bits in
    let was = c.args.work.now in
    let is = c.put.new.self in
    let put = c.in_ok-put-in-Rule.ensures in
    let e : sym_of number c.args.symbol ≡ rule R = ap (sym_of number) c.in-Rule.is in
    let value = c.to_usize.ensures.value in
    subst (λ (X : Sym). Reaches X old new was is) (sym e)
    (reaches_rule R old new was is (c.add_symbol.ensures.bits ∙ ap (with_rule old) e) (c.add_symbol.ensures.steps.fewer c.if-not-add_symbol.false) (subst (Contains is.list) value put.waits) put.kept
    (subst (λ (n : ℕ). (A : ℕ) → Contains is.list A → Contains was.list A ⊎ (A ≡ n)) value put.only) put.rules put.longer)
