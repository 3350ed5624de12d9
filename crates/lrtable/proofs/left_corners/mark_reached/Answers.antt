use Rattle.std.proofs.Common.{◌≡◌, ℕ, [], List, false, length, ap, ◌∙◌, subst, arith, rules}
use Rattle.std.specs.List.{Contains}
use Rattle.std.proofs.lemmas.List.{length-replicate}
use Rattle.std.proofs.lemmas.List.Elements.{Contains-push}
use Rattle.lrtable.specs.Opening.{Front}
use Rattle.lrtable.specs.Pruning.{Marks}
use Rattle.lrtable.specs.Reaching.{PassedIn}
use Rattle.lrtable.proofs.Marking.{flag_within}
use Rattle.lrtable.proofs.Passing.{ArePassing, passing_begins, passing_goes_on, passing_ends}
use Rattle.lrtable.proofs.left_corners.mark_reached.Goals as goal

pub mark-requires : goal.mark-requires
mark-requires c =
    let n = ap length c.set_all.ensures.bits ∙ length-replicate (length c.args.passed.now.bits) false in
    let w = c.requires.width in
    let lt = c.requires.rule in
    omega (arith, n, w, lt)

pub waiting-init : goal.waiting-init
waiting-init c = passing_begins c.args.openers.now c.args.rule c.set_all.new.self.bits c.mark.new.marked.bits (length c.args.passed.now.bits) c.args.waiting.now.items c.mark.new.waiting.items c.requires.width c.set_all.ensures.bits c.requires.none_waits c.in_ok-mark.ensures

pub of_rule-requires : goal.of_rule-requires
of_rule-requires c =
    let h = subst (λ (l : List ℕ). ArePassing c.args.openers.now c.args.rule c.waiting.passed.bits l) c.in-Some.ensures.items c.waiting.invariant in
    let low = flag_within c.waiting.passed.bits c.in-Some.number (h.waits c.in-Some.number (Contains-push c.pop.new.self.items c.in-Some.number)) in
    let size = h.size in
    omega (arith, low, size)

pub mark_all_passed-requires : goal.mark_all_passed-requires
mark_all_passed-requires c = λ e m.
    let lt = c.requires.fit c.in-Some.number e (subst (λ (l : List Front). Contains l e) c.of_rule.ensures m) in
    let size = c.waiting.invariant.size in
    omega (arith, lt, size)

pub waiting-preserved : goal.waiting-preserved
waiting-preserved c =
    let h = subst (λ (l : List ℕ). ArePassing c.args.openers.now c.args.rule c.waiting.passed.bits l) c.in-Some.ensures.items c.waiting.invariant in
    passing_goes_on c.args.openers.now c.args.rule c.waiting.passed.bits c.mark_all_passed.new.passed.bits c.in-Some.number c.pop.new.self.items c.mark_all_passed.new.waiting.items h
    (subst (λ (l : List Front). Marks (PassedIn l) c.waiting.passed.bits c.mark_all_passed.new.passed.bits c.pop.new.self.items c.mark_all_passed.new.waiting.items) c.of_rule.ensures c.in_ok-mark_all_passed.ensures)

pub returns-clause-width : goal.returns-clause-width
returns-clause-width c = c.waiting.invariant.size

pub returns-clause-passed : goal.returns-clause-passed
returns-clause-passed c =
    let e : c.waiting.waiting.items ≡ [] = search rules in
    passing_ends c.args.openers.now c.args.rule c.waiting.passed.bits (subst (λ (l : List ℕ). ArePassing c.args.openers.now c.args.rule c.waiting.passed.bits l) e c.waiting.invariant)
