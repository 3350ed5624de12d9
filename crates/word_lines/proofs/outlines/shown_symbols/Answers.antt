use Rattle.std.proofs.Common.{refl}
use Rattle.cfg_theory.specs.Tree.{yield}
use Rattle.parse_trees.proofs.OutlineLines.{all_lines, all_symbols}
use Rattle.word_lines.specs.Lexing.{lex_of}
use Rattle.word_lines.proofs.outlines.shown_symbols.Goals as goal

pub returns-clause-can : goal.returns-clause-can
returns-clause-can g c = λ t can. all_symbols c.args.shown.now (lex_of g.S.IndexStorage.number) c.args.line.now (yield t) t refl can

pub returns-clause-text : goal.returns-clause-text
returns-clause-text g c = λ t. all_lines c.args.shown.now (lex_of g.S.IndexStorage.number) c.args.line.now (yield t) t refl
