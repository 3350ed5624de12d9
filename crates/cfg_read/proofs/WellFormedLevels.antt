-- Precedences of one level stand in one line, so they have one kind.
use Rattle.std.proofs.Common.{◌≡◌, ℕ, suc, ◌+◌, Bool, true, false, List, [], ◌∷◌, ◌++◌, fold, option_map, Some, slice_get, if◌then◌else◌, All, refl, sym, ap, ◌∙◌, arith}
use Rattle.std.proofs.lemmas.List.Elements.{All-append, All-head, All-map, All-nil, All-push, All-tail, All-weaker}
use Rattle.std.proofs.lemmas.Option.{same_Some}
use Rattle.cfg_base.specs.declared.precedence.AssocKind.{AssocKind}
use Rattle.cfg_read.specs.SyntaxTexts.{LevelText}
use Rattle.cfg_read.specs.Names.{words_in}
use Rattle.cfg_read.specs.Asts.{PrecedenceAst, precedence_ast, level_precedences, precedences_at, has_precedence, with_precedence_of, precedences_of}
use Rattle.cfg_read.specs.WellFormedAst.{AstLevelsHaveOneKind}
use Rattle.cfg_read.proofs.WellFormedNumbers.{all_at}

-- The line of this number, counted from n, has this kind.
abbrev HasKind : ℕ → List LevelText → ℕ → AssocKind → Type 0
HasKind n ls level kind = (k : ℕ) × (level ≡ n + k) × (option_map (λ (l : LevelText). l.kind) (slice_get ls k) ≡ Some kind)

-- that of a precedence's level has its kind
abbrev StandsIn : ℕ → List LevelText → PrecedenceAst → Type 0
StandsIn n ls p = HasKind n ls p.level p.kind

behind : (n : ℕ) (l : LevelText) (ls : List LevelText) (p : PrecedenceAst) → StandsIn (suc n) ls p → StandsIn n (l ∷ ls) p
behind n l ls p h = let number : p.level ≡ suc n + h.0 = h.1 in (suc h.0, omega (arith, number), h.2)

all_stand : (n : ℕ) (ls : List LevelText) → All (StandsIn n ls) (precedences_at n ls)
all_stand n [] = All-nil (StandsIn n [])
all_stand n (l ∷ ls) =
    let number : n ≡ n + 0 = omega arith in
    All-append (StandsIn n (l ∷ ls)) (level_precedences n l) (precedences_at (suc n) ls)
    (All-map (StandsIn n (l ∷ ls)) (precedence_ast n l.kind) (words_in l.tokens) (λ k d below. (0, number, refl)))
    (All-weaker (StandsIn (suc n) ls) (StandsIn n (l ∷ ls)) (behind n l ls) (precedences_at (suc n) ls) (all_stand (suc n) ls))

-- what is so of each precedence is so of each that is kept
All-kept : (P : PrecedenceAst → Type 0) (ps acc : List PrecedenceAst) → All P acc → All P ps → All P (fold with_precedence_of acc ps)
All-kept P [] acc a b = a
All-kept P (p ∷ ps) acc a b = All-kept P ps (with_precedence_of acc p) (by (has_precedence acc p.token.text)) (All-tail P p ps b)
  where
    by : (c : Bool) → All P (if c then acc else acc ++ p ∷ [])
    by true = a
    by false = All-push P acc p a (All-head P p ps b)

kind_of_line : (n : ℕ) (ls : List LevelText) (a b : ℕ) (j k : AssocKind) → HasKind n ls a j → HasKind n ls b k → a ≡ b → j ≡ k
kind_of_line n ls a b j k g h same =
    let left : a ≡ n + g.0 = g.1 in
    let right : b ≡ n + h.0 = h.1 in
    let place : g.0 ≡ h.0 = omega (arith, left, right, same) in
    same_Some j k (sym g.2 ∙ ap (λ m. option_map (λ (l : LevelText). l.kind) (slice_get ls m)) place ∙ h.2)

pub one_kind : (ls : List LevelText) → AstLevelsHaveOneKind (precedences_of ls)
one_kind ls =
    let all = All-kept (StandsIn 0 ls) (precedences_at 0 ls) [] (All-nil (StandsIn 0 ls)) (all_stand 0 ls) in
    λ i j p q at there same. kind_of_line 0 ls p.level q.level p.kind q.kind (all_at (StandsIn 0 ls) (precedences_of ls) i p all at) (all_at (StandsIn 0 ls) (precedences_of ls) j q all there) same
