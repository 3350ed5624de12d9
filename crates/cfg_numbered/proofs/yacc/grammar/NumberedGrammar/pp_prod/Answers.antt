use Rattle.std.proofs.Common.{◌≡◌, ℕ, List, ◌++◌, ◌∷◌, [], sym, ap, ◌∙◌, subst}
use Rattle.std.specs.Prelude.{slice_get}
use Rattle.std.specs.List.{flat_map}
use Rattle.cfg_theory.specs.Grammar.{Sym, IsOf, rule, head_of}
use Rattle.cfg_numbered.specs.Symbols.{syms_of}
use Rattle.cfg_numbered.specs.Value.{IsGrammar}
use Rattle.cfg_numbered.specs.PrettyPrint.{name_of, quoted}
use Rattle.cfg_numbered.proofs.Printing.{rule_named}
use Rattle.cfg_numbered.proofs.yacc.grammar.NumberedGrammar.pp_prod.Goals as goal

pub rule_name_str-requires : goal.rule_name_str-requires
rule_name_str-requires g c =
    let number = g.S.IndexStorage.number in
    let good = subst (IsGrammar g.S.IndexStorage.MAX) c.self.view_is c.self.invariant.0 in
    let o : IsOf c.args.self.now.grammar (number c.args.pidx.0) (number c.prod_to_rule.result.0) = record { in_range = c.requires; head = sym c.prod_to_rule.ensures } in
    good.well_formed.heads (number c.args.pidx.0) (number c.prod_to_rule.result.0) o

pub push_symbols-requires : goal.push_symbols-requires
push_symbols-requires g c = λ d X e.
    let good = subst (IsGrammar g.S.IndexStorage.MAX) c.self.view_is c.self.invariant.0 in
    good.well_formed.symbols (g.S.IndexStorage.number c.args.pidx.0) d X (record { at = ap (λ l. slice_get l d) (sym c.prod.ensures) ∙ e })

pub returns : goal.returns
returns g c =
    let number = g.S.IndexStorage.number in
    let v = c.args.self.now in
    let A = number c.prod_to_rule.result.0 in
    let f : Sym → List ℕ = λ X. quoted (name_of v X) in
    let shown : c.rule_name_str.result.now ≡ name_of v (rule (head_of v.grammar (number c.args.pidx.0))) = rule_named v A c.rule_name_str.result.now c.rule_name_str.ensures ∙ ap (λ B. name_of v (rule B)) c.prod_to_rule.ensures in
    let front = c.in_ok-push_str-2.ensures.bytes ∙ ap (λ l. l ++ 58 ∷ []) (c.in_ok-push_str.ensures.bytes ∙ ap (λ l. l ++ c.rule_name_str.result.now) c.new-text.ensures.bytes ∙ shown) in
    c.in_ok-push_symbols.ensures
    ∙ ap (λ l. l ++ flat_map f (syms_of number c.prod.result.now)) front
    ∙ ap (λ l. (name_of v (rule (head_of v.grammar (number c.args.pidx.0))) ++ 58 ∷ []) ++ flat_map f l) c.prod.ensures
