use Rattle.std.specs.Prelude.{codes}
use Rattle.std.specs.String.{string_bytes}
use Rattle.cfg_numbered.specs.Symbols.{numbers_of}
use Rattle.grammar_names.specs.Names.{prod_text}
use Rattle.refused_tables.specs.Cycles.{ahead_text, others_text}
use Rattle.refused_tables.proofs.Rounds.{chained}
use Rattle.refused_tables.proofs.words.push_round.Goals as goal

pub returns : goal.returns
returns c =
    let v = c.args.grm.now in
    chained (string_bytes c.args.text.now) (ahead_text v c.args.token.0) (prod_text v c.args.first.0) (others_text v (numbers_of (λ n. n) c.args.others.now)) (codes ", again and again") (string_bytes c.push_ahead.new.text) (string_bytes c.push_prod.new.text) (string_bytes c.push_others.new.text) (string_bytes c.push_str.new.self)
    c.in_ok-push_ahead.ensures c.in_ok-push_prod.ensures c.in_ok-push_others.ensures c.in_ok-push_str.ensures.bytes
