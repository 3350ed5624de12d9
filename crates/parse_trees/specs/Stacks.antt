-- Stacks of values and spans beside the machine's stack of trees. Their tops are last.
use Rattle.std.specs.Prelude.{◌≡◌, ℕ, ◌-◌, ◌++◌, List, [], ◌∷◌, map, reverse, length, take, drop, slice_get, Some, ◌≤◌, Vec, Result, Ok}
use Rattle.std.specs.declared.alloc.Global.{Global}
use Rattle.std.specs.declared.alloc.AllocError.{AllocError}
use Rattle.cfg_base.specs.declared.symbol.PIdx.{PIdx}
use Rattle.cfg_base.specs.declared.symbol.RIdx.{RIdx}
use Rattle.cfg_base.specs.SpanModel.{SpanModel}
use Rattle.cfg_theory.specs.Grammar.{Grammar}
use Rattle.cfg_theory.specs.Tree.{Tree}
use Rattle.cfg_theory.specs.Fold.{Span, Answers}
use Rattle.lr_theory.specs.StackValues.{stack_spans, StackFolds, reduction_span}

abbrev pub span_of_places : SpanModel → Span
span_of_places s = record { from = s.start; to = s.end }

abbrev pub spans_of : List SpanModel → List Span
spans_of spans = map span_of_places spans

-- v is an answer of the function for lexemes at x, with memory at hand
abbrev pub TermGives : {L V : Type 0} → (Global → L → Result V AllocError → Type 0) → Global → L → V → Type 0
TermGives post alloc x v = post alloc x (Ok v)

-- v is an answer of the function for nodes at a production, its rule, the span and the children's values
abbrev pub NodeGives : {S V : Type 0} → (S → ℕ) → (Global → PIdx S → RIdx S → SpanModel → Vec V Global → Result V AllocError → Type 0) → Global → ℕ → ℕ → Span → List V → V → Type 0
NodeGives {S} {V} number post alloc p r span vs v = (i : PIdx S) × (j : RIdx S) × (at : SpanModel) × (args : Vec V Global) ×
    (number i.0 ≡ p) × (number j.0 ≡ r) × (span_of_places at ≡ span) × (args.items ≡ vs) × post alloc i j at args (Ok v)

-- a reduction of n entries by the production p of the rule r took its arguments and its span from the stacks, and put an answer on them
pub record IsFolded {V : Type 0} (says : ℕ → ℕ → Span → List V → V → Type 0) (p r n : ℕ) (values : List V) (spans : List SpanModel) (values' : List V) (spans' : List SpanModel) : Type 0 where
  pub value : V
  pub place : SpanModel
  pub span_is : span_of_places place ≡ reduction_span n (reverse (spans_of spans))
  pub says_so : says p r (span_of_places place) (drop (length values - n) values) value
  pub values_are : values' ≡ take (length values - n) values ++ value ∷ []
  pub spans_are : spans' ≡ take (length spans - n) spans ++ place ∷ []

-- the values and spans are those of the trees, whose top comes first
pub record Beside {L V : Type 0} (G : Grammar) (by : Answers L V) (at : L → Span) (values : List V) (spans : List SpanModel) (ts : List (Tree L)) : Type 0 where
  pub folds : StackFolds G by at ts (reverse values)
  pub spans_are : reverse (spans_of spans) ≡ stack_spans at ts

-- no span starts before one below it
pub record StartsAscend (spans : List SpanModel) : Type 0 where
  pub ascend : (j k : ℕ) (x y : SpanModel) → j ≤ k → slice_get spans j ≡ Some x → slice_get spans k ≡ Some y → x.start ≤ y.start

-- no span on the stack starts after this place
pub record StartBy (spans : List SpanModel) (place : ℕ) : Type 0 where
  pub by : (k : ℕ) (x : SpanModel) → slice_get spans k ≡ Some x → x.start ≤ place

-- what functions give, each time with some memory at hand
abbrev pub values_by : {S L V : Type 0} → (S → ℕ) → (Global → L → Result V AllocError → Type 0) → (Global → PIdx S → RIdx S → SpanModel → Vec V Global → Result V AllocError → Type 0) → Answers L V
values_by number term nonterm = record { term = λ x v. (alloc : Global) × TermGives term alloc x v; says = λ p r span vs v. (alloc : Global) × NodeGives number nonterm alloc p r span vs v }

-- v is an answer of a function for nodes that looks at a rule and the children's values alone, with memory at hand
abbrev pub RuleGives : {S V : Type 0} → (S → ℕ) → (Global → RIdx S → Vec V Global → Result V AllocError → Type 0) → Global → ℕ → List V → V → Type 0
RuleGives {S} {V} number post alloc r vs v = (j : RIdx S) × (args : Vec V Global) × (number j.0 ≡ r) × (args.items ≡ vs) × post alloc j args (Ok v)

-- what such functions give
abbrev pub mapped_by : {S L V : Type 0} → (S → ℕ) → (Global → L → Result V AllocError → Type 0) → (Global → RIdx S → Vec V Global → Result V AllocError → Type 0) → Answers L V
mapped_by number term nonterm = record { term = λ x v. (alloc : Global) × TermGives term alloc x v; says = λ p r span vs v. (alloc : Global) × RuleGives number nonterm alloc r vs v }

-- the values and spans are those of the trees, starts ascend, and the functions may be called
pub record FoldedStand {L V : Type 0} (term nonterm : Type 0) (G : Grammar) (by : Answers L V) (at : L → Span) (values : List V) (spans : List SpanModel) (ts : List (Tree L)) : Type 0 where
  pub term_callable : term
  pub nonterm_callable : nonterm
  pub beside : Beside G by at values spans ts
  pub level : length spans ≡ length values
  pub ascend : StartsAscend spans
