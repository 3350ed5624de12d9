use Rattle.std.proofs.Common.{}
use Rattle.lex_files.proofs.Cuts.{name_cut}
use Rattle.lex_files.proofs.pieces.cut_name.Goals as goal

pub split_at-requires : goal.split_at-requires
split_at-requires c = rw c.name_len.ensures.value (rw c.as_bytes.ensures.value (name_cut c.args.line.now c.utf8.line))
