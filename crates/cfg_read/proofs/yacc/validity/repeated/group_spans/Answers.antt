use Rattle.std.proofs.Common.{◌≡◌, ◌+◌, ◌++◌, [], ◌∷◌, ℕ, map, take, refl, sym, ap, ◌∙◌, arith, List, Bor}
use Rattle.std.specs.List.{position_or_len}
use Rattle.std.specs.Str.{bytes_eq}
use Rattle.std.proofs.lemmas.List.{take_more, map-append}
use Rattle.cfg_read.specs.Names.{distinct, texts}
use Rattle.cfg_read.specs.Validity.{groups_of}
use Rattle.cfg_read.specs.NameModels.{mention_of, words_at}
use Rattle.cfg_read.specs.ErrorModels.{with_span}
use Rattle.cfg_read.proofs.NameLemmas.{names_step}
use Rattle.cfg_read.proofs.Grouping.{groups_step, groups_counted, number_at, position_le}
use Rattle.cfg_read.proofs.yacc.validity.repeated.group_spans.Goals as goal

pub words-preserved : goal.words-preserved
words-preserved c =
    let xs = c.args.words.now in
    let i = c.words.word-index in
    let x = c.word-item.result in
    let ws = words_at (take i xs) in
    let more : take (i + 1) xs ≡ take i xs ++ x ∷ [] = take_more xs i x (omega arith) ∙ ap (λ y. take i xs ++ y ∷ []) (sym c.word-item.is) in
    let all : ws ++ mention_of x ∷ [] ≡ words_at (take (i + 1) xs) = sym (map-append mention_of (take i xs) (x ∷ [])) ∙ sym (ap words_at more) in
    let index : c.in-Ok.index ≡ position_or_len (λ (k : Bor (List ℕ)). bytes_eq x.0.now k.now) c.words.names.keys = c.in-Ok.ensures.index in
    record {
      names = ap (map (λ (k : Bor (List ℕ)). k.now)) c.in-Ok.ensures.keys
          ∙ names_step c.words.names.keys ws x.0 (mention_of x) c.words.invariant.names refl
          ∙ ap (λ l. texts (distinct l)) all;
      groups = c.in-Ok-add_span.ensures
          ∙ ap (λ gs. with_span gs c.in-Ok.index x.1) c.words.invariant.groups
          ∙ ap (λ n. with_span (groups_of ws) n x.1) (index ∙ number_at c.words.names.keys (distinct ws) x.0.now c.words.invariant.names)
          ∙ sym (groups_step ws (mention_of x))
          ∙ ap groups_of all;
    }

pub add_span-requires : goal.add_span-requires
add_span-requires c =
    let index : c.in-Ok.index ≡ position_or_len (λ (k : Bor (List ℕ)). bytes_eq c.word-item.result.0.now k.now) c.words.names.keys = c.in-Ok.ensures.index in
    let bound = position_le (λ (k : Bor (List ℕ)). bytes_eq c.word-item.result.0.now k.now) c.words.names.keys in
    let counted = groups_counted c.words.names.keys c.words.groups.items (words_at (take c.words.word-index c.args.words.now)) c.words.invariant.names c.words.invariant.groups in
    omega (arith, index, bound, counted)
