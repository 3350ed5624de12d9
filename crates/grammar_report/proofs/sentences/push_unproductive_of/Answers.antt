use Rattle.std.proofs.Common.{◌≡◌, ℕ, List, [], ◌∷◌, ◌++◌, ap, append_assoc, map, subst, sym, ◌∙◌}
use Rattle.std.proofs.lemmas.List.{append-nil, map-append}
use Rattle.std.specs.Map.Iter.{deref_pair}
use Rattle.cfg_read.specs.Asts.{RuleAst}
use Rattle.cfg_read.specs.AstModels.{named_rule}
use Rattle.text_messages.specs.Added.{AddsOne, AddsSome, MessagesValue, OneForEach, Said}
use Rattle.text_messages.proofs.AddedMessages.{nothing_told, passed_over, told_more}
use Rattle.grammar_report.specs.Messages.{IsOfUnproductive, IsUnproductive, is_start}
use Rattle.grammar_report.proofs.sentences.push_unproductive_of.Goals as goal

pub rules-init : goal.rules-init
rules-init c =
    let P = λ (r : RuleAst). IsUnproductive c.args.grm.now r.name.text in
    let F = λ (t : List ℕ) (r : RuleAst) (m : Said). IsOfUnproductive t (is_start c.args.ast.now r.name.text) r.name.span m in
    (ap (map named_rule) c.into_iter-name-iterator.ensures.into_iter_gives.0 ∙ c.rules-name-items.ensures.rules, nothing_told P F c.args.messages.now)

module _ {X Y Z : Type 0} (f : Y → Z) (g : X → Y) where
  -- one element more
  steps : (ys : List X) (x : X) (s t : List Y) (all : List Z) → map f (map g ys ++ s) ≡ all → s ≡ g x ∷ t → map f (map g (ys ++ x ∷ []) ++ t) ≡ all
  steps ys x s t all e h = ap (map f) (ap (λ l. l ++ t) (map-append g ys (x ∷ [])) ∙ append_assoc (map g ys) (g x ∷ []) t ∙ ap (λ l. map g ys ++ l) (sym h)) ∙ e

  grows : (ys : List X) (x : X) → map f (map g (ys ++ x ∷ [])) ≡ map f (map g ys) ++ f (g x) ∷ []
  grows ys x = ap (map f) (map-append g ys (x ∷ [])) ∙ map-append f (map g ys) (g x ∷ [])

  module _ (P : Z → Type 0) (F : List ℕ → Z → Said → Type 0) (a b : MessagesValue) (ys : List X) (x : X) (s t : List Y) (all : List Z) where
    more : (c : MessagesValue) → (map f (map g ys ++ s) ≡ all) × AddsSome (OneForEach P (F a.text) (map f (map g ys))) a b → s ≡ g x ∷ t → P (f (g x)) → AddsOne (F b.text (f (g x))) b c →
        (map f (map g (ys ++ x ∷ []) ++ t) ≡ all) × AddsSome (OneForEach P (F a.text) (map f (map g (ys ++ x ∷ [])))) a c
    more c (e, told) h p one = (steps ys x s t all e h, subst (λ (l : List Z). AddsSome (OneForEach P (F a.text) l) a c) (sym (grows ys x)) (told_more P F a b c (map f (map g ys)) (f (g x)) told p one))

    over : (map f (map g ys ++ s) ≡ all) × AddsSome (OneForEach P (F a.text) (map f (map g ys))) a b → s ≡ g x ∷ t → (P (f (g x)) → ⊥) →
        (map f (map g (ys ++ x ∷ []) ++ t) ≡ all) × AddsSome (OneForEach P (F a.text) (map f (map g (ys ++ x ∷ [])))) a b
    over (e, told) h not = (steps ys x s t all e h, subst (λ (l : List Z). AddsSome (OneForEach P (F a.text) l) a b) (sym (grows ys x)) (passed_over P F a b (map f (map g ys)) (f (g x)) told not))

pub rules-preserved-in-Continue-1 : goal.rules-preserved-in-Continue-1
rules-preserved-in-Continue-1 c =
    let P = λ (r : RuleAst). IsUnproductive c.args.grm.now r.name.text in
    let F = λ (t : List ℕ) (r : RuleAst) (m : Said). IsOfUnproductive t (is_start c.args.ast.now r.name.text) r.name.span m in
    let is = rw c.as_str.ensures.value at c.if-is_unproductive.ensures in
    let one = rw (c.is_start-starts.ensures, c.as_str-then-is_unproductive.ensures.value) at c.in_ok-push_unproductive_rule.ensures in
    more named_rule deref_pair P F c.args.messages.now c.rules.messages c.rules.yielded _ c.rules.name-iterator c.next.new.self c.args.ast.now.rules c.push_unproductive_rule.new.messages c.rules.invariant c.in-Some.ensures.steps is one

pub rules-preserved : goal.rules-preserved
rules-preserved c =
    let P = λ (r : RuleAst). IsUnproductive c.args.grm.now r.name.text in
    let F = λ (t : List ℕ) (r : RuleAst) (m : Said). IsOfUnproductive t (is_start c.args.ast.now r.name.text) r.name.span m in
    let not = rw c.as_str.ensures.value at c.if-is_unproductive.ensures in
    over named_rule deref_pair P F c.args.messages.now c.rules.messages c.rules.yielded _ c.rules.name-iterator c.next.new.self c.args.ast.now.rules c.rules.invariant c.in-Some.ensures.steps not

pub returns : goal.returns
returns c =
    let a = c.args.messages.now in
    let (same, told) = c.rules.invariant in
    let all = ap (map named_rule) (sym (append-nil (map deref_pair c.rules.yielded)) ∙ ap (λ l. map deref_pair c.rules.yielded ++ l) (sym c.in-None.ensures.steps.0)) ∙ same in
    subst (λ (l : List RuleAst). AddsSome (OneForEach (λ (r : RuleAst). IsUnproductive c.args.grm.now r.name.text) (λ (r : RuleAst) (m : Said). IsOfUnproductive a.text (is_start c.args.ast.now r.name.text) r.name.span m) l) a c.rules.messages) all told
