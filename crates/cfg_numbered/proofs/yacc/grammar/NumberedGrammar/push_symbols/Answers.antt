use Rattle.std.proofs.Common.{◌≡◌, ◌<◌, ◌+◌, ◌++◌, ◌∷◌, [], Some, length, take, sym, ap, ◌∙◌, arith}
use Rattle.std.specs.Prelude.{option_map, slice_get}
use Rattle.std.specs.List.{flat_map}
use Rattle.std.specs.String.{string_bytes}
use Rattle.std.proofs.lemmas.List.{take_more, map-append}
use Rattle.std.proofs.lemmas.Option.{slice_get-get_or, slice_get-map}
use Rattle.cfg_numbered.specs.Symbols.{sym_of, syms_of}
use Rattle.cfg_numbered.specs.PrettyPrint.{name_of, quoted}
use Rattle.cfg_numbered.proofs.Printing.{text_more}
use Rattle.cfg_numbered.proofs.yacc.grammar.NumberedGrammar.push_symbols.Goals as goal

pub symbol_name-requires : goal.symbol_name-requires
symbol_name-requires g c =
    let number = g.S.IndexStorage.number in
    let xs = c.args.symbols.now in
    let i = c.symbols.symbol-index in
    let x = c.symbol-item.result in
    let lt : i < length xs = omega arith in
    let at : slice_get xs i ≡ Some x = slice_get-get_or xs i x lt ∙ ap Some (sym c.symbol-item.is) in
    c.requires i (sym_of number x) (slice_get-map (sym_of number) xs i ∙ ap (option_map (sym_of number)) at)

pub symbols-preserved : goal.symbols-preserved
symbols-preserved g c =
    let number = g.S.IndexStorage.number in
    let v = c.args.self.now in
    let xs = c.args.symbols.now in
    let i = c.symbols.symbol-index in
    let x = c.symbol-item.result in
    let lt : i < length xs = omega arith in
    let more : take (i + 1) xs ≡ take i xs ++ x ∷ [] = take_more xs i x lt ∙ ap (λ y. take i xs ++ y ∷ []) (sym c.symbol-item.is) in
    c.in_ok-push_quoted.ensures
    ∙ ap (λ n. string_bytes c.symbols.text ++ quoted n) c.symbol_name.ensures
    ∙ text_more (λ X. quoted (name_of v X)) (string_bytes c.args.text.now) (string_bytes c.symbols.text) (syms_of number (take i xs)) (sym_of number x) c.symbols.invariant
    ∙ ap (λ l. string_bytes c.args.text.now ++ flat_map (λ X. quoted (name_of v X)) l) (sym (map-append (sym_of number) (take i xs) (x ∷ [])) ∙ sym (ap (syms_of number) more))
