use Rattle.std.proofs.Common.{◌≡◌, ℕ, ◌+◌, ◌-◌, ◌<◌, min, rules, List, ◌∷◌, length, get_or, drop, ap, ◌∙◌, sym, subst}
use Rattle.std.proofs.lemmas.List.{drop_all, drop_more}
use Rattle.std.proofs.lemmas.Result.{on_ok_weaker}
use Rattle.serde.specs.Event.{Log}
use Rattle.language_server.specs.declared.answers.Nested.{Nested}
use Rattle.language_server.specs.Texts.{ClosesSymbols, OpensSymbol, WritesNested}
use Rattle.language_server.proofs.nested.write_nested.Goals as goal

-- one symbol, and those behind it
one_more : (xs : List Nested) (i left depth : ℕ) (x : Nested) (old mid behind last : Log) → i < length xs → x ≡ get_or xs i x → depth ≡ min x.depth left → ClosesSymbols (left - depth) old mid → OpensSymbol x.symbol mid behind → WritesNested (depth + 1) (drop (i + 1) xs) behind last → WritesNested left (drop i xs) old last
one_more xs i left depth x old mid behind last lt is least closed opened h =
    subst (λ ys. WritesNested left ys old last) (sym (drop_more xs i x lt ∙ ap (λ y. y ∷ drop (i + 1) xs) (sym is)))
    (mid, subst (λ n. ClosesSymbols (left - n) old mid) least closed, (behind, opened, subst (λ n. WritesNested (n + 1) (drop (i + 1) xs) behind last) least h))

pub symbols-preserved : goal.symbols-preserved
symbols-preserved g c = (search rules, λ last h. c.symbols.invariant.1 last (one_more c.args.symbols.now c.symbols.index c.symbols.left c.min-depth.result c.index-symbols-index.result _ _ _ last c.symbols-test.true c.index-symbols-index.is (search rules) c.in_ok-close_symbols.ensures c.in_ok-open_symbol.ensures h))

pub returns : goal.returns
returns g c = on_ok_weaker c.close_symbols-2.result (λ ended. c.symbols.invariant.1 _ (rw (drop_all _ _ c.symbols-test.false) ended)) c.close_symbols-2.ensures
