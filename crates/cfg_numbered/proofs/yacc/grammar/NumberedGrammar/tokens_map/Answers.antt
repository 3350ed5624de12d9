use Rattle.std.proofs.Common.{◌≡◌, ◌<◌, ◌≤◌, ◌++◌, ◌∷◌, [], Some, length, take, sym, ap, ◌∙◌, arith}
use Rattle.std.specs.Prelude.{map, option_map, slice_get}
use Rattle.std.specs.List.{enumerate_from, filter_map}
use Rattle.std.specs.Map.Iter.{deref_pair}
use Rattle.std.proofs.lemmas.List.{length-take-le, take_all, take_more}
use Rattle.std.proofs.lemmas.Option.{slice_get_within, get_or_from_slice_get}
use Rattle.cfg_numbered.specs.Value.{GrammarValue, TokenFacts}
use Rattle.cfg_numbered.proofs.Named.{names_in, names_listed, count_names, name_at, token_at}
use Rattle.cfg_numbered.proofs.Placed.{place_more}
use Rattle.cfg_numbered.proofs.yacc.grammar.NumberedGrammar.tokens_map.Goals as goal

pub names-preserved : goal.names-preserved
names-preserved g c =
    let es = c.self.inside.tokens.entries in
    let n = c.names.number in
    let k = c.as_str.result in
    let names = filter_map (λ (k : TokenFacts). k.name) c.args.self.now.tokens in
    let listed : names_in es ≡ names = sym (names_listed es) ∙ ap (λ (v : GrammarValue). filter_map (λ (k : TokenFacts). k.name) v.tokens) c.self.view_is in
    let e = deref_pair c.unwrap.result in
    let found : slice_get es n ≡ Some e = sym c.get_index.ensures.entry ∙ ap (option_map deref_pair) c.unwrap.ensures in
    let here : slice_get (names_in es) n ≡ Some k.now = name_at es n e found ∙ ap Some (sym c.as_str.ensures.value) in
    let at : slice_get names n ≡ Some k.now = ap (λ l. slice_get l n) (sym listed) ∙ here in
    let lt : n < length names = slice_get_within names n k.now at in
    let le : n ≤ length names = omega (arith, lt) in
    ap (map (λ e. (g.S.IndexStorage.number e.1.0, e.0.now))) c.in_ok-insert.ensures.entries
    ∙ place_more g.S.IndexStorage.number names n c.names.indices.entries k _ c.names.invariant at (length-take-le n names le) c.index_of.ensures
    (take_more names n k.now lt ∙ ap (λ y. take n names ++ y ∷ []) (get_or_from_slice_get names n k.now k.now at))
    (λ j h. c.self.invariant.0.token_names j n k.now (record { at = token_at es j k.now (ap (λ l. slice_get l j) listed ∙ h) }) (record { at = token_at es n k.now here }))

pub returns : goal.returns
returns g c =
    let es = c.self.inside.tokens.entries in
    let names = filter_map (λ (k : TokenFacts). k.name) c.args.self.now.tokens in
    let listed : names_in es ≡ names = sym (names_listed es) ∙ ap (λ (v : GrammarValue). filter_map (λ (k : TokenFacts). k.name) v.tokens) c.self.view_is in
    let len = ap length (sym listed) ∙ count_names es in
    let end = c.names-test.false in
    let count = c.len-number-end.ensures.len in
    let all : length names ≤ c.names.number = omega (arith, len, end, count) in
    c.names.invariant ∙ ap (enumerate_from 0) (take_all c.names.number names all)
