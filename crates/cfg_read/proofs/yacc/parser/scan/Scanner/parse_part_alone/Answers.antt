use Rattle.std.proofs.Common.{ap, ◌∙◌}
use Rattle.cfg_read.specs.declared.yacc.parser.scan.TokenKind.TheVariants as tokens
use Rattle.cfg_read.specs.SyntaxErrors.{token_fault}
use Rattle.cfg_read.proofs.Tokens.{of_kind, part_token}
use Rattle.cfg_read.proofs.yacc.parser.scan.Scanner.parse_part_alone.Goals as goal

pub parse_percent_part-requires-clause-within : goal.parse_percent_part-requires-clause-within
parse_percent_part-requires-clause-within c = (of_kind c.args.self.now.text.now c.args.offset c.args.kind tokens.Percent c.in-Percent.is c.requires.fits).0

pub parse_action-requires-clause-fits : goal.parse_action-requires-clause-fits
parse_action-requires-clause-fits c = of_kind c.args.self.now.text.now c.args.offset c.args.kind tokens.Brace c.in-Brace.is c.requires.fits

pub parse_symbol-requires-clause-token : goal.parse_symbol-requires-clause-token
parse_symbol-requires-clause-token c = ap token_fault c.requires.kind ∙ part_token c.args.kind c.requires.part c.in_default.not-Percent c.in_default.not-Brace
