use Rattle.std.proofs.Common.{}
use Rattle.std.proofs.lemmas.Str.Pattern.{strip_prefix_char}
use Rattle.lex_files.proofs.Cuts.{after_byte_is}
use Rattle.lex_files.proofs.pieces.after_byte.Goals as goal

pub returns : goal.returns
returns c = after_byte_is c.args.c c.args.text.now c.strip_prefix.result (strip_prefix_char c.args.c c.args.text.now c.strip_prefix.result c.strip_prefix.ensures.cases c.requires)
