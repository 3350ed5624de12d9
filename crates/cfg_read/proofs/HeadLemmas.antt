-- Headings, for each of their alternatives the name of its rule.
use Rattle.std.proofs.Common.{◌≡◌, ℕ, suc, ◌+◌, ◌<◌, ◌≤◌, List, [], ◌∷◌, ◌++◌, map, take, length, get_or, replicate, refl, sym, ap, ◌∙◌, arith}
use Rattle.std.specs.List.{flat_map}
use Rattle.std.proofs.lemmas.List.{map-append, flat_map_more, take_more, length-map, length-replicate, length-append}
use Rattle.std.proofs.lemmas.List.Folds.{length-flat_map-take}
use Rattle.cfg_read.specs.declared.yacc.ast.build.Head.{Head}
use Rattle.cfg_read.specs.declared.yacc.parser.syntax.Rule.{Rule}
use Rattle.cfg_read.specs.Asts.{heads_in}
use Rattle.cfg_read.specs.NameTexts.{name_text}
use Rattle.cfg_read.specs.SyntaxModels.{alternative_of, rule_of}
use Rattle.cfg_read.specs.Judging.{head_names, heads_of, both_of, both_heads}
use Rattle.cfg_read.specs.Settling.{FreshAst}
use Rattle.cfg_read.proofs.RuleNumbers.{one_for_each}

-- one more heading
pub heads_more : (hs : List Head) (i : ℕ) (h : Head) → i < length hs → h ≡ get_or hs i h → heads_of (take (i + 1) hs) ≡ heads_of (take i hs) ++ head_names h
heads_more hs i h l is =
    ap heads_of (take_more hs i h l ∙ ap (λ x. take i hs ++ x ∷ []) (sym is))
    ∙ sym (flat_map_more head_names [] (take i hs) h)

pub heads_count : (hs : List Head) (i : ℕ) (h : Head) → i < length hs → h ≡ get_or hs i h → length (heads_of (take (i + 1) hs)) ≡ length (heads_of (take i hs)) + h.count
heads_count hs i h l is =
    ap length (heads_more hs i h l is)
    ∙ length-append (heads_of (take i hs)) (head_names h)
    ∙ ap (λ n. length (heads_of (take i hs)) + n) (length-replicate h.count (name_text h.name))

pub heads_fit : (hs : List Head) (i : ℕ) (h : Head) → i < length hs → h ≡ get_or hs i h → length (heads_of (take i hs)) + h.count ≤ length (heads_of hs)
heads_fit hs i h l is =
    let all = length-flat_map-take head_names hs i h l in
    let count : length (head_names (get_or hs i h)) ≡ h.count = ap (λ x. length (head_names x)) (sym is) ∙ length-replicate h.count (name_text h.name) in
    omega (arith, all, count)

-- one more that is read
pub heads_read : (old : List Head) (h : Head) (rs : List Rule) (i : ℕ) (r : Rule) → i < length rs → r ≡ get_or rs i r → heads_of old ≡ flat_map heads_in (map rule_of (take i rs))
    → name_text h.name ≡ name_text r.name → h.count ≡ length r.alternatives.items → heads_of (old ++ h ∷ []) ≡ flat_map heads_in (map rule_of (take (i + 1) rs))
heads_read old h rs i r l is same name count =
    let q = name_text r.name in
    let alternatives = map alternative_of r.alternatives.items in
    let here : head_names h ≡ heads_in (rule_of r) =
    ap (λ t. replicate h.count t) name
    ∙ ap (λ n. replicate n q) (count ∙ sym (length-map r.alternatives.items alternative_of))
    ∙ one_for_each q alternatives in
    let more : map rule_of (take (i + 1) rs) ≡ map rule_of (take i rs) ++ rule_of r ∷ [] =
    ap (map rule_of) (take_more rs i r l ∙ ap (λ x. take i rs ++ x ∷ []) (sym is)) ∙ map-append rule_of (take i rs) (r ∷ []) in
    sym (flat_map_more head_names [] old h)
    ∙ ap (λ l. l ++ head_names h) same
    ∙ ap (λ l. flat_map heads_in (map rule_of (take i rs)) ++ l) here
    ∙ flat_map_more heads_in [] (map rule_of (take i rs)) (rule_of r)
    ∙ sym (ap (flat_map heads_in) more)

-- as many names as productions
pub both_as_many : (fs : List FreshAst) → length (flat_map both_heads fs) ≡ length (flat_map both_of fs)
both_as_many [] = refl
both_as_many (f ∷ fs) = ap (λ n. suc (suc n)) (both_as_many fs)
