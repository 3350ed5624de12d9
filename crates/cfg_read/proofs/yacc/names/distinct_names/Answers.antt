use Rattle.std.proofs.Common.{◌≡◌, ◌+◌, ◌++◌, [], ◌∷◌, map, take, refl, sym, ap, ◌∙◌, arith, Bor}
use Rattle.std.proofs.lemmas.List.{take_more, take_all, map-append}
use Rattle.cfg_read.specs.Names.{distinct, texts}
use Rattle.cfg_read.specs.NameModels.{mention_of, words_at}
use Rattle.cfg_read.proofs.NameLemmas.{has_all, names_step}
use Rattle.cfg_read.proofs.yacc.names.distinct_names.Goals as goal

pub words-preserved : goal.words-preserved
words-preserved c =
    let xs = c.args.words.now in
    let i = c.words.word-index in
    let x = c.word-item.result in
    let more : take (i + 1) xs ≡ take i xs ++ x ∷ [] = take_more xs i x (omega arith) ∙ ap (λ y. take i xs ++ y ∷ []) (sym c.word-item.is) in
    ap (map (λ (k : Bor _). k.now)) c.in_ok-insert.ensures.keys
    ∙ names_step c.words.names.keys (words_at (take i xs)) x.0 (mention_of x) c.words.invariant refl
    ∙ ap (λ l. texts (distinct l)) (sym (map-append mention_of (take i xs) (x ∷ [])) ∙ sym (ap words_at more))

pub returns-clause-has : goal.returns-clause-has
returns-clause-has c =
    λ j q. has_all c.words.names.keys (words_at c.args.words.now) (c.words.invariant ∙ ap (λ l. texts (distinct (words_at l))) (take_all c.words.word-index c.args.words.now (omega arith))) q j
