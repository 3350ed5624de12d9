use Rattle.std.proofs.Common.{◌≡◌, map, take}
use Rattle.std.specs.List.{flat_map}
use Rattle.cfg_read.specs.Names.{distinct, words_in}
use Rattle.cfg_read.specs.AstModels.{named_spans}
use Rattle.cfg_read.specs.SyntaxModels.{line_of}
use Rattle.cfg_read.proofs.yacc.ast.parts.first_spans.Given as goal

abbrev pub invariant-lines : goal.invariant-lines
invariant-lines l = named_spans l.spans ≡ distinct (flat_map words_in (map line_of (take l.line-index l.lines)))
