use Rattle.std.proofs.Common.{None, [], sym, ap}
use Rattle.std.specs.Prelude.{option_map}
use Rattle.cfg_read.specs.SyntaxUpdates.{Part, alternative}
use Rattle.cfg_read.specs.SyntaxModels.{word_of, boxed_word, symbols_of}
use Rattle.cfg_read.proofs.Symbols.{only_symbols}
use Rattle.cfg_read.proofs.yacc.parser.draft.Draft.take_plain.Goals as goal

pub returns-clause-made : goal.returns-clause-made
returns-clause-made c =
    let old = c.args.self.now in
    rw (c.in_ok-boxed.ensures.ok, c.in_ok-symbols.ensures.taken, c.span_or-span.ensures)
    (sym (ap (λ (p : Part). alternative p c.args.offset) (only_symbols (symbols_of old.symbols.items) old.is_empty (option_map boxed_word old.precedence) (option_map word_of old.action) old.span c.requires)))

pub returns-clause-anew : goal.returns-clause-anew
returns-clause-anew c =
    let old = c.args.self.now in
    rw c.in_ok-symbols.ensures.left (only_symbols [] old.is_empty (option_map boxed_word old.precedence) (option_map word_of old.action) None c.requires)
