use Rattle.std.proofs.Common.{true, false, sym, ap, ◌∙◌, subst, length, drop, arith}
use Rattle.cfg_theory.specs.Grammar.{end_token}
use Rattle.state_table.specs.Tables.{automaton_of}
use Rattle.lrpar.specs.Made.{made_by, end_of, next_start}
use Rattle.lrpar.specs.Parses.{HoldsValue, IsParsed}
use Rattle.lrpar.specs.Parsing.{error_of, errors_of, Underway}
use Rattle.parse_trees.specs.Lex.{token_by}
use Rattle.lrpar.proofs.Mending.{are_begun, starts_stand, no_end_of, more_errors, fewer_left}
use Rattle.lrpar.proofs.ParseFacts.{is_parse}
use Rattle.lrpar.proofs.Underways.{begun, accepts_with, few_errors_yet, gives_up_with, goes_on_with}
use Rattle.lrpar.proofs.parse.parse_lexemes.Goals as goal

pub errors-init : goal.errors-init
errors-init g c =
    let number = g.S.IndexStorage.number in
    let lex = g.L.Lexeme.lex in
    let G = c.args.machine.now.grm.now.grammar in
    let v = c.args.machine.now.stable.now in
    let s = c.in_ok-stack.stack in
    let first = number c.start_state.result.0 in
    let next = next_start lex (end_of lex c.args.lexemes.now) c.args.lexemes.now in
    record {
      within = omega arith;
      stacks = are_begun number v s first c.in_ok-stack.ensures.states c.start_state.ensures.value c.start_state.ensures.within;
      starts = subst (λ w. g.V.ValueStack.starts_by w next) (sym c.in_ok-stack.ensures.values) (c.requires.starts next);
      kept = subst (g.V.ValueStack.keeps c.args.values) (sym c.in_ok-stack.ensures.values) (g.V.ValueStack.keeps_all c.args.values);
      on =
          let x = c.args.machine.now.sgraph.now in
          let safe = c.args.machine.now.pair.safe in
          let start = c.args.machine.now.pair.counts.start in
          begun number lex G x v (g.V.ValueStack.stands G) (made_by g.L.Lexeme.faulty_of lex (end_of lex c.args.lexemes.now)) (g.R.Recoverer.answers c.args.recoverer.now) c.args.lexemes.now s (errors_of number c.new-errors.result.items) (ap (errors_of number) c.new-errors.ensures.items)
          (starts_stand number lex G x v (g.V.ValueStack.stands G) c.args.machine.now.table.well_formed safe c.args.lexemes.now c.requires.lexemes s c.args.values first c.in_ok-stack.ensures.states c.in_ok-stack.ensures.values (c.start_state.ensures.value ∙ start) c.requires.empty);
    }

pub returns-in-Accepted-clause-parse : goal.returns-in-Accepted-clause-parse
returns-in-Accepted-clause-parse g c =
    let x = c.args.machine.now.sgraph.now in
    let safe = c.args.machine.now.pair.safe in
    let number = g.S.IndexStorage.number in
    let lex = g.L.Lexeme.lex in
    let G = c.args.machine.now.grm.now.grammar in
    let v = c.args.machine.now.stable.now in
    let holds = g.V.ValueStack.stands G in
    let make = made_by g.L.Lexeme.faulty_of lex (end_of lex c.args.lexemes.now) in
    let answers = g.R.Recoverer.answers c.args.recoverer.now in
    let lexemes = c.args.lexemes.now in
    let errors = errors_of number c.errors.errors.items in
    let u = c.errors.invariant.on in
    let e = rw c.in-Accepted.is at (c.in-Ok.ensures.ended u.input u.goes.config u.goes.stand u.goes.rest_is) in
    let p = accepts_with number lex G x v holds make answers lexemes errors c.errors.stack (drop c.errors.at lexemes) u e.0 c.run_from.new.stacks.values e.1 in
    is_parse G (automaton_of x v) (token_by lex) make answers lexemes c.args.machine.now.table.well_formed safe (HoldsValue (holds c.run_from.new.stacks.values) true) (no_end_of (token_by lex) (end_token G) lexemes c.requires.lexemes.inside) errors p

pub repair_at-mended-requires-clause-index : goal.repair_at-mended-requires-clause-index
repair_at-mended-requires-clause-index g c =
    let u = c.errors.invariant.on in
    (rw c.in-Failed.is at (c.in-Ok.ensures.ended u.input u.goes.config u.goes.stand u.goes.rest_is)).0

pub repair_at-mended-requires-clause-stand : goal.repair_at-mended-requires-clause-stand
repair_at-mended-requires-clause-stand g c =
    let u = c.errors.invariant.on in
    let e = rw c.in-Failed.is at (c.in-Ok.ensures.ended u.input u.goes.config u.goes.stand u.goes.rest_is) in
    (u.input, e.1.1.config, e.1.1.stand, e.1.1.rest_is)

pub errors-smaller : goal.errors-smaller
errors-smaller g c =
    let number = g.S.IndexStorage.number in
    let lex = g.L.Lexeme.lex in
    let G = c.args.machine.now.grm.now.grammar in
    let v = c.args.machine.now.stable.now in
    let lexemes = c.args.lexemes.now in
    let x = c.args.machine.now.sgraph.now in
    let u = c.errors.invariant.on in
    let e = rw c.in-Failed.is at (c.in-Ok.ensures.ended u.input u.goes.config u.goes.stand u.goes.rest_is) in
    let few = few_errors_yet number lex G x v (g.V.ValueStack.stands G) (made_by g.L.Lexeme.faulty_of lex (end_of lex c.args.lexemes.now)) (g.R.Recoverer.answers c.args.recoverer.now) lexemes (errors_of number c.errors.errors.items) c.errors.stack (drop c.errors.at lexemes) u e.1.0 c.run_from.new.stacks (drop c.in-Failed.index lexemes) e.1.1 in
    fewer_left number (length lexemes) c.errors.errors.items c.push.new.self.items c.in-Ok-mended.mended.found few c.in_ok-push-in-Failed.ensures.items

pub errors-preserved : goal.errors-preserved
errors-preserved g c =
    let number = g.S.IndexStorage.number in
    let lex = g.L.Lexeme.lex in
    let G = c.args.machine.now.grm.now.grammar in
    let v = c.args.machine.now.stable.now in
    let holds = g.V.ValueStack.stands G in
    let make = made_by g.L.Lexeme.faulty_of lex (end_of lex c.args.lexemes.now) in
    let answers = g.R.Recoverer.answers c.args.recoverer.now in
    let lexemes = c.args.lexemes.now in
    let errors = errors_of number c.errors.errors.items in
    let found = c.in-Ok-mended.mended.found in
    let after = rw c.in-Some.is at c.in-Ok-mended.ensures.stacks in
    record {
      within = after.0;
      stacks = after.1;
      starts = after.2;
      kept = g.V.ValueStack.keeps_on c.args.values c.run_from.new.stacks.values c.repair_at-mended.new.stacks.values (g.V.ValueStack.keeps_on c.args.values c.errors.stack.values c.run_from.new.stacks.values c.errors.invariant.kept c.in-Ok.ensures.keeps) c.in-Ok-mended.ensures.keeps;
      on =
          let x = c.args.machine.now.sgraph.now in
          let u = c.errors.invariant.on in
          let e = rw c.in-Failed.is at (c.in-Ok.ensures.ended u.input u.goes.config u.goes.stand u.goes.rest_is) in
          let m = c.in-Ok-mended.ensures.mended u.input e.1.1.config e.1.1.stand e.1.1.rest_is in
          let mended = rw c.in-Some.is at m.resumes in
          let on = goes_on_with number lex G x v holds make answers lexemes errors c.errors.stack (drop c.errors.at lexemes) u e.1.0 c.run_from.new.stacks (drop c.in-Failed.index lexemes) e.1.1 m.offered (error_of number found) m.told c.repair_at-mended.new.stacks (drop c.in-Some.index lexemes) mended in
          subst (λ es. Underway number lex G x v holds make answers lexemes es c.repair_at-mended.new.stacks (drop c.in-Some.index lexemes)) (sym (more_errors number c.errors.errors.items c.push.new.self.items found c.in_ok-push-in-Failed.ensures.items)) on;
    }

pub returns-in-None-clause-parse : goal.returns-in-None-clause-parse
returns-in-None-clause-parse g c =
    let x = c.args.machine.now.sgraph.now in
    let safe = c.args.machine.now.pair.safe in
    let number = g.S.IndexStorage.number in
    let lex = g.L.Lexeme.lex in
    let G = c.args.machine.now.grm.now.grammar in
    let v = c.args.machine.now.stable.now in
    let holds = g.V.ValueStack.stands G in
    let make = made_by g.L.Lexeme.faulty_of lex (end_of lex c.args.lexemes.now) in
    let answers = g.R.Recoverer.answers c.args.recoverer.now in
    let lexemes = c.args.lexemes.now in
    let errors = errors_of number c.errors.errors.items in
    let found = c.in-Ok-mended.mended.found in
    let u = c.errors.invariant.on in
    let e = rw c.in-Failed.is at (c.in-Ok.ensures.ended u.input u.goes.config u.goes.stand u.goes.rest_is) in
    let m = c.in-Ok-mended.ensures.mended u.input e.1.1.config e.1.1.stand e.1.1.rest_is in
    let p = gives_up_with number lex G x v holds make answers lexemes errors c.errors.stack (drop c.errors.at lexemes) u e.1.0 c.run_from.new.stacks (drop c.in-Failed.index lexemes) e.1.1 m.offered (error_of number found) m.told c.repair_at-mended.new.stacks.values (rw c.in-None.is at m.resumes) in
    let told = subst (IsParsed G (automaton_of x v) (token_by lex) make answers (HoldsValue (holds c.repair_at-mended.new.stacks.values) false) lexemes) (sym (more_errors number c.errors.errors.items c.push.new.self.items found c.in_ok-push-in-Failed.ensures.items)) p in
    is_parse G (automaton_of x v) (token_by lex) make answers lexemes c.args.machine.now.table.well_formed safe (HoldsValue (holds c.repair_at-mended.new.stacks.values) false) (no_end_of (token_by lex) (end_token G) lexemes c.requires.lexemes.inside) (errors_of number c.push.new.self.items) told

pub returns-in-Accepted-clause-keeps : goal.returns-in-Accepted-clause-keeps
returns-in-Accepted-clause-keeps g c = g.V.ValueStack.keeps_on c.args.values c.errors.stack.values c.run_from.new.stacks.values c.errors.invariant.kept c.in-Ok.ensures.keeps

pub returns-in-None-clause-keeps : goal.returns-in-None-clause-keeps
returns-in-None-clause-keeps g c = g.V.ValueStack.keeps_on c.args.values c.run_from.new.stacks.values c.repair_at-mended.new.stacks.values (g.V.ValueStack.keeps_on c.args.values c.errors.stack.values c.run_from.new.stacks.values c.errors.invariant.kept c.in-Ok.ensures.keeps) c.in-Ok-mended.ensures.keeps
