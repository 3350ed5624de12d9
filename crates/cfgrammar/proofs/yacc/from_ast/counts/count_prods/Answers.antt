use Rattle.std.proofs.Common.{◌≡◌, ◌+◌, true, false, length, sym, ap, ◌∙◌, arith}
use Rattle.std.proofs.lemmas.List.{length-map}
use Rattle.cfg_read.specs.AstModels.{production_of, named_span}
use Rattle.cfgrammar.specs.FromAst.{as_told, productions_of}
use Rattle.cfgrammar.proofs.FromAstCounts.{count_productions, told_twice}
use Rattle.cfgrammar.proofs.yacc.from_ast.counts.count_prods.Goals as goal

pub returns-then-implicit : goal.returns-then-implicit
returns-then-implicit c =
    let prods = length-map c.prods.result.now production_of in
    let same = ap length c.prods.ensures in
    let words = length-map c.implicit_tokens.result.now.entries named_span in
    let named = ap length c.implicit_tokens.ensures in
    let len = c.len.ensures.len in
    let all = count_productions true c.args.ast.now in
    let front = c.saturating_add-prods.ensures in
    let sum = c.saturating_add.ensures in
    told_twice c.saturating_add-prods.result c.saturating_add.result (length c.prods.result.now) (length c.args.ast.now.implicit_tokens) (length (productions_of true c.args.ast.now)) front (sum ∙ ap (λ n. as_told (c.saturating_add-prods.result + (n + 2))) (let e : c.len.result ≡ length c.args.ast.now.implicit_tokens = omega (arith, len, words, named) in e)) (omega (arith, all, prods, same))
    ∙ ap (λ b. as_told (length (productions_of b c.args.ast.now))) (sym c.if-implicit.true)

pub returns-else-implicit : goal.returns-else-implicit
returns-else-implicit c =
    let prods = length-map c.prods.result.now production_of in
    let same = ap length c.prods.ensures in
    let all = count_productions false c.args.ast.now in
    let front = c.saturating_add-prods.ensures in
    front
    ∙ ap as_told (let e : length c.prods.result.now + 1 ≡ length (productions_of false c.args.ast.now) = omega (arith, all, prods, same) in e)
    ∙ ap (λ b. as_told (length (productions_of b c.args.ast.now))) (sym c.if-implicit.false)
