use Rattle.std.proofs.Common.{◌≡◌, ◌<◌, ℕ, ap, arith}
use Rattle.std.specs.Prelude.{IfOk}
use Rattle.std.proofs.lemmas.Result.{IfOk-weaker}
use Rattle.cfg_theory.specs.Grammar.{end_token}
use Rattle.state_table.specs.Tables.{automaton_of}
use Rattle.parse_trees.specs.Lex.{Lex, token_by}
use Rattle.lrpar.specs.NextStates.{TellsAfter}
use Rattle.lrpar.proofs.NextTold.{tells_none, tells_sound, tells_sound_end, tells_exact, tells_exact_end, tells_begins}
use Rattle.lrpar.proofs.parserdata.ParserData.next_tokens.Goals as goal

told : (g : _) (c : goal.After-told_behind g) → IfOk c.told_behind.result (TellsAfter c.args.self.now.grammar.grammar (automaton_of c.args.self.now.graph c.args.self.now.table) (token_by g.L.Lexeme.lex) c.args.lexemes.now)
told g c = rw (c.machine.ensures.grammar, c.machine.ensures.graph, c.machine.ensures.table) at c.told_behind.ensures

-- each token has a lexeme
lexeme : (g : _) (c : goal.After-told_behind g) (k : ℕ) → k < end_token c.args.self.now.grammar.grammar → (y : g.row.L.Denot) × (token_by g.L.Lexeme.lex y ≡ k)
lexeme g c k lt =
    let value = c.to_usize-end.ensures.value in
    let bound = c.to_usize-end.ensures.bound in
    let end = rw c.grm.ensures at c.eof_token_idx.ensures.value in
    (g.L.Lexeme.faulty_of k 0 0, ap (λ (l : Lex). l.token) (g.met.L.Lexeme.faulty_is k 0 0 (omega (arith, lt, value, bound, end))))

pub returns-clause-none : goal.returns-clause-none
returns-clause-none g c =
    let d = c.args.self.now in
    IfOk-weaker _ _ _ (λ o h. tells_none d.grammar d.graph d.table (token_by g.L.Lexeme.lex) c.facts.ensures.table.well_formed c.facts.ensures.pair.safe c.args.lexemes.now o h) (told g c)

pub returns-clause-sound : goal.returns-clause-sound
returns-clause-sound g c =
    let d = c.args.self.now in
    IfOk-weaker _ _ _ (λ o h. tells_sound d.grammar d.graph d.table (token_by g.L.Lexeme.lex) c.facts.ensures.table.well_formed c.facts.ensures.pair.safe c.args.lexemes.now (lexeme g c) o h) (told g c)

pub returns-clause-sound_end : goal.returns-clause-sound_end
returns-clause-sound_end g c =
    let d = c.args.self.now in
    IfOk-weaker _ _ _ (λ o h. tells_sound_end d.grammar d.graph d.table (token_by g.L.Lexeme.lex) c.facts.ensures.table.well_formed c.facts.ensures.pair.safe c.args.lexemes.now o h) (told g c)

pub returns-clause-exact : goal.returns-clause-exact
returns-clause-exact g c =
    let d = c.args.self.now in
    IfOk-weaker _ _ _ (λ o h. tells_exact d.grammar d.graph d.table (token_by g.L.Lexeme.lex) c.facts.ensures.table.well_formed c.facts.ensures.pair.safe c.args.lexemes.now (lexeme g c) d.cap (c.facts.ensures.chains d.graph) o h) (told g c)

pub returns-clause-exact_end : goal.returns-clause-exact_end
returns-clause-exact_end g c =
    let d = c.args.self.now in
    IfOk-weaker _ _ _ (λ o h. tells_exact_end d.grammar d.graph d.table (token_by g.L.Lexeme.lex) c.facts.ensures.table.well_formed c.facts.ensures.pair.safe c.args.lexemes.now (lexeme g c) d.cap (c.facts.ensures.chains d.graph) o h) (told g c)

pub returns-clause-begins : goal.returns-clause-begins
returns-clause-begins g c =
    let d = c.args.self.now in
    IfOk-weaker _ _ _ (λ o h. tells_begins d.grammar d.graph d.table (token_by g.L.Lexeme.lex) c.facts.ensures.table.well_formed c.facts.ensures.pair.safe c.args.lexemes.now o h) (told g c)
