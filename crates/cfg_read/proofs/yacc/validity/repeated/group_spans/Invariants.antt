use Rattle.std.proofs.Common.{◌≡◌, take}
use Rattle.cfg_read.specs.Names.{distinct, texts}
use Rattle.cfg_read.specs.NameModels.{words_at, names_in}
use Rattle.cfg_read.specs.ErrorModels.{span_lists}
use Rattle.cfg_read.specs.Validity.{groups_of}
use Rattle.cfg_read.proofs.yacc.validity.repeated.group_spans.Given as goal

abbrev pub invariant-words : goal.invariant-words
invariant-words l = record {
  names : names_in l.names ≡ texts (distinct (words_at (take l.word-index l.words)));
  groups : span_lists l.groups.items ≡ groups_of (words_at (take l.word-index l.words));
}
