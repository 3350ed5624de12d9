use Rattle.std.proofs.Common.{◌≡◌, ℕ, ◌<◌, length, ap, ◌∙◌, subst, arith}
use Rattle.std.specs.Prelude.{IsTrue}
use Rattle.vob.specs.Sets.{is_set}
use Rattle.cfg_sentences.specs.CostTable.{cost_of}
use Rattle.cfg_sentences.specs.CheapestTable.{IsHandedOn}
use Rattle.cfg_sentences.proofs.WantedSteps.{first_wanted, first_waits, handed_all}
use Rattle.cfg_sentences.proofs.sentences.needed.find_wanted.Goals as goal

pub fill-requires-clause-sound : goal.fill-requires-clause-sound
fill-requires-clause-sound g c =
    let n : c.to_usize-rules.result ≡ c.args.least.now.grammar.rules = c.to_usize-rules.ensures.value ∙ c.rules_len.ensures in
    let A = c.to_usize-rule.ensures.value in
    let lt = c.requires.rule in
    let r = first_wanted c.to_usize-rules.result c.to_usize-rule.result c.in_ok-wanted.wanted.bits c.set.new.self.bits (omega (arith, n, A, lt)) c.in_ok-wanted.ensures.bits c.set.ensures.bits in
    r.0 ∙ n

pub fill-requires-clause-closed : goal.fill-requires-clause-closed
fill-requires-clause-closed g c =
    let n : c.to_usize-rules.result ≡ c.args.least.now.grammar.rules = c.to_usize-rules.ensures.value ∙ c.rules_len.ensures in
    let A = c.to_usize-rule.ensures.value in
    let lt = c.requires.rule in
    first_waits c.args.least.now.grammar (cost_of c.args.least.now.costs) c.args.least.now.table c.to_usize-rules.result c.to_usize-rule.result c.in_ok-wanted.wanted.bits c.set.new.self.bits c.put.new.self.list (omega (arith, n, A, lt)) c.in_ok-wanted.ensures.bits c.set.ensures.bits c.in_ok-put.ensures.waits

pub returns-clause-width : goal.returns-clause-width
returns-clause-width g c = c.in_ok-fill.ensures.sound ∙ ap (λ v. v.grammar.rules) c.in_ok-fill.ensures.same.0

pub returns-clause-rule : goal.returns-clause-rule
returns-clause-rule g c =
    let n : c.to_usize-rules.result ≡ c.args.least.now.grammar.rules = c.to_usize-rules.ensures.value ∙ c.rules_len.ensures in
    let A = c.to_usize-rule.ensures.value in
    let lt = c.requires.rule in
    let r = first_wanted c.to_usize-rules.result c.to_usize-rule.result c.in_ok-wanted.wanted.bits c.set.new.self.bits (omega (arith, n, A, lt)) c.in_ok-wanted.ensures.bits c.set.ensures.bits in
    let bits = c.fill.new.table.wanted.bits in
    subst (λ (i : ℕ). IsTrue (is_set bits i)) A (c.in_ok-fill.ensures.same.1 c.to_usize-rule.result r.1)

pub returns-clause-handed_on : goal.returns-clause-handed_on
returns-clause-handed_on g c =
    let t = c.fill.new.table in
    let all = handed_all t.least.now.grammar (cost_of t.least.now.costs) t.least.now.table t.wanted.bits c.in_ok-fill.ensures.closed in
    subst (λ v. (p : ℕ) → p < length v.grammar.productions → IsHandedOn v.grammar (cost_of v.costs) v.table p t.wanted.bits) c.in_ok-fill.ensures.same.0 all
