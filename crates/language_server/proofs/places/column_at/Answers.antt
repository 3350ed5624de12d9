use Rattle.std.proofs.Common.{◌≡◌, ◌<◌, ◌⊎◌, true, get_or, if◌then◌else◌, sym, ◌∙◌, subst, rules}
use Rattle.language_server.specs.Positions.{begins_character}
use Rattle.language_server.proofs.Positions.{goes_on, ends_here}
use Rattle.language_server.proofs.places.column_at.Goals as goal

pub loop-index-preserved : goal.loop-index-preserved
loop-index-preserved c = (
  search rules,
  λ a is.
      let v = c.loop-index.invariant.1 a is in
      goes_on c.args.encoding c.args.bytes.now c.args.start c.args.units a c.loop-index.index c.loop-index.left is c.loop-index-test.true v.0 v.1 c.units_of-needed.result c.units_of-needed.ensures (c.ends_before.ensures.enough c.if-ends_before.false) (λ z. sym c.begins_character-begins.ensures ∙ c.ends_before.ensures.within c.if-ends_before.false z),
)

pub returns-then-ends_before-clause-behind : goal.returns-then-ends_before-clause-behind
returns-then-ends_before-clause-behind c = λ a is.
    let v = c.loop-index.invariant.1 a is in
    let begin : c.if-begins.begin ≡ (if begins_character (get_or c.args.bytes.now c.loop-index.index 0) then c.loop-index.index else c.loop-index.begin) = search rules in
    begin ∙ ends_here c.args.encoding c.args.bytes.now c.args.start c.args.units a c.loop-index.index c.loop-index.left is c.loop-index-test.true v.0 v.1 c.units_of-needed.result c.loop-index.begin c.units_of-needed.ensures c.loop-index.auto.index
    (subst (λ b. (get_or c.args.bytes.now c.loop-index.index 0 ≡ 10) ⊎ (get_or c.args.bytes.now c.loop-index.index 0 ≡ 13) ⊎ (c.loop-index.left < c.units_of-needed.result) ⊎ ((b ≡ true) × (c.loop-index.left ≡ 0))) c.begins_character-begins.ensures (c.ends_before.ensures.why c.if-ends_before.true))
