use Rattle.std.proofs.Common.{◌≡◌, ◌<◌, ◌∙◌, ◌++◌, ◌∷◌, length, Some, refl, sym, ap, arith}
use Rattle.std.specs.Prelude.{slice_get}
use Rattle.std.proofs.lemmas.Result.{on_ok_weaker}
use Rattle.cfg_numbered.specs.Value.{GrammarValue}
use Rattle.cfg_theory.specs.Grammar.{end_token}
use Rattle.lrpar.proofs.FullSteps.{row_within, row_told}
use Rattle.parse_trees.specs.Shapes.{lexeme_line, token_text}
use Rattle.word_lines.specs.Lexing.{lex_of}
use Rattle.word_lines.specs.NodeRows.{IsNamed, IsTokenRow}
use Rattle.word_lines.proofs.NodeRows.{is_lexeme_line}
use Rattle.word_lines.proofs.node_lines.NodeLines.push_lexeme.Goals.{After-row_at}
use Rattle.word_lines.proofs.node_lines.NodeLines.push_lexeme.Goals as goal

pub row_at-requires : goal.row_at-requires
row_at-requires g c =
    let number = g.S.IndexStorage.number in
    let i = c.self.inside in
    let seen = ap (λ (v : GrammarValue). end_token v.grammar) c.self.view_is in
    let asked = c.requires.inside in
    let lt : number c.args.lexeme.token < end_token i.grm.now.grammar = omega (arith, seen, asked) in
    let w = row_within (IsTokenRow i.grm.now) (end_token i.grm.now.grammar) i.tokens.items (number c.args.lexeme.token) c.self.invariant.1 lt in
    let n = ap (λ l. length l) c.as_slice.ensures.value in
    let e = c.to_usize.ensures.value in
    omega (arith, w, n, e)

-- the row that was taken
row : (g : _) (c : After-row_at g) → IsTokenRow c.self.inside.grm.now (g.S.IndexStorage.number c.args.lexeme.token) c.row_at.result.now.items
row g c =
    let number = g.S.IndexStorage.number in
    let i = c.self.inside in
    let t = number c.args.lexeme.token in
    let seen = ap (λ (v : GrammarValue). end_token v.grammar) c.self.view_is in
    let asked = c.requires.inside in
    let lt : t < end_token i.grm.now.grammar = omega (arith, seen, asked) in
    let at : slice_get i.tokens.items t ≡ Some c.row_at.result.now = ap (slice_get i.tokens.items) (sym c.to_usize.ensures.value) ∙ (ap (λ l. slice_get l c.to_usize.result) (sym c.as_slice.ensures.value) ∙ c.row_at.ensures) in
    row_told (IsTokenRow i.grm.now) (end_token i.grm.now.grammar) i.tokens.items t c.row_at.result.now c.self.invariant.1 lt at

pub push_row-requires : goal.push_row-requires
push_row-requires g c =
    let name = token_text c.self.inside.grm.now (g.S.IndexStorage.number c.args.lexeme.token) in
    (name ++ 32 ∷ name, 10, c.as_slice-2.ensures.value ∙ row g (goal.at.push_row-requires g c).After-row_at)

pub returns : goal.returns
returns g c =
    let number = g.S.IndexStorage.number in
    let v = c.self.inside.grm.now in
    let old = c.args.text.now.items in
    let name = token_text v (number c.args.lexeme.token) in
    let told = c.push_row.ensures (name ++ 32 ∷ name) 10 (c.as_slice-2.ensures.value ∙ row g (goal.at.returns g c).After-row_at) in
    let named : IsNamed number v c.args.line.now c.args.lexeme = c.requires.named ∙ ap (λ (x : GrammarValue). token_text x (number c.args.lexeme.token)) (sym c.self.view_is) in
    let line = is_lexeme_line number v c.args.line.now c.args.depth c.args.lexeme named in
    let same = line ∙ ap (λ (x : GrammarValue). lexeme_line x (lex_of number) c.args.line.now c.args.depth c.args.lexeme) c.self.view_is in
    on_ok_weaker c.push_row.result (λ e. e ∙ ap (λ l. old ++ l) same) told
