use Rattle.std.proofs.Common.{◌≡◌, length, sym, ap, ◌∙◌, arith, Bor, ℕ, List}
use Rattle.cfg_read.specs.SyntaxTexts.{WordText}
use Rattle.cfg_read.specs.Names.{distinct}
use Rattle.cfg_read.specs.NameModels.{mention_of, words_at}
use Rattle.std.proofs.lemmas.List.{length-map}
use Rattle.cfg_read.proofs.Grouping.{as_many}
use Rattle.cfg_read.proofs.yacc.validity.repeated.all_differ.Goals as goal

pub returns : goal.returns
returns c = λ yes named k.
    let keys = c.args.names.now.keys in
    let words = c.args.words.now in
    let counted : length keys ≡ length words = grind (arith, yes) in
    as_many k (words_at words)
    (sym (length-map (distinct (words_at words)) (λ (w : WordText). w.text))
    ∙ sym (ap length named)
    ∙ length-map keys (λ (x : Bor (List ℕ)). x.now)
    ∙ counted
    ∙ sym (length-map words mention_of))
