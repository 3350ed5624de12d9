use Rattle.std.proofs.Common.{◌≡◌, ◌<◌, length, vec_len, sym, ◌∙◌, arith}
use Rattle.std.proofs.lemmas.Bool.{eqb-true, eqb-false}
use Rattle.cfg_read.specs.SyntaxModels.{symbol_of}
use Rattle.cfg_read.specs.Reading.{here, empty}
use Rattle.cfg_read.specs.SyntaxErrors.{empty_after_symbol, late_empty}
use Rattle.cfg_read.proofs.Chains.{one, and_stops}
use Rattle.cfg_read.proofs.Drafts.{map_nil, map_cons, both_hold}
use Rattle.cfg_read.proofs.yacc.parser.scan.Scanner.parse_empty.Goals as goal

pub returns-then-not-is_empty-clause-err : goal.returns-then-not-is_empty-clause-err
returns-then-not-is_empty-clause-err c =
    let symbols = c.args.draft.now.symbols in
    let some : 0 < length symbols.items = omega (arith, symbols.ok.0, eqb-false (vec_len symbols) 0 (sym c.is_empty.ensures ∙ c.if-not-is_empty.true)) in
    λ r x. and_stops here (empty_after_symbol c.requires.literal (map_cons symbol_of symbols.items some))

pub returns-then-not-takes_empty-clause-err : goal.returns-then-not-takes_empty-clause-err
returns-then-not-takes_empty-clause-err c =
    let symbols = c.args.draft.now.symbols in
    let nil : length symbols.items ≡ 0 = omega (arith, symbols.ok.0, eqb-true (vec_len symbols) 0 (sym c.is_empty.ensures ∙ c.if-not-is_empty.false)) in
    λ r x. and_stops here (late_empty c.requires.literal (map_nil symbol_of symbols.items nil) (sym c.takes_empty.ensures ∙ c.if-not-takes_empty.true))

pub returns-clause-ok : goal.returns-clause-ok
returns-clause-ok c =
    let symbols = c.args.draft.now.symbols in
    let nil : length symbols.items ≡ 0 = omega (arith, symbols.ok.0, eqb-true (vec_len symbols) 0 (sym c.is_empty.ensures ∙ c.if-not-is_empty.false)) in
    let both = both_hold _ _ (sym c.takes_empty.ensures ∙ c.if-not-takes_empty.false) in
    λ r x. rw c.add_empty.ensures.value (one (empty c.requires.literal (map_nil symbol_of symbols.items nil) both.0 both.1))
