use Rattle.std.proofs.Common.{◌≡◌, take, fold}
use Rattle.cfg_read.specs.Names.{with_distinct, words_in}
use Rattle.cfg_read.specs.AstModels.{named_spans}
use Rattle.cfg_read.specs.SyntaxModels.{symbols_of}
use Rattle.cfg_read.proofs.yacc.ast.parts.take_all_first.Given as goal

abbrev pub invariant-symbols : goal.invariant-symbols
invariant-symbols l = named_spans l.spans ≡ fold with_distinct (named_spans l.fn.spans) (words_in (symbols_of (take l.symbol-index l.symbols)))
