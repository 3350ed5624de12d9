use Rattle.std.proofs.Common.{◌≡◌, ◌<◌, ◌≤◌, ◌↔◌, ℕ, Bool, true, false, [], ◌∷◌, ◌++◌, sym, ap, ◌∙◌, subst, arith}
use Rattle.std.specs.Prelude.{IsTrue}
use Rattle.std.proofs.lemmas.List.{map-append}
use Rattle.cfg_theory.specs.Derivation.{AllProductive, BeginsSentence}
use Rattle.cfg_theory.specs.Grammar.{end_token, start_symbol}
use Rattle.lr_theory.specs.Automaton.{Complete}
use Rattle.lrpar.specs.Checked.{IsData}
use Rattle.lrpar.specs.NextTokens.{HasError}
use Rattle.lrpar.specs.Prefixes.{PrefixValue, grammar_in, machine_in, IsTableIn, IsPrefix, own, tokens_of}
use Rattle.lrpar.specs.Reducing.{AreStates, stack_of}
use Rattle.lrpar.specs.Replay.{ShiftsNot, ShiftsTo}
use Rattle.lrpar.proofs.Prefixes.{error_more, outside_last, prefix_more, push_refused, push_taken, taken}
use Rattle.lrpar.proofs.prefix.Prefix.push.Goals as goal

-- the clauses, of the data and the tokens that are seen
abbrev Fails : ℕ → PrefixValue → Type 0
Fails t v = HasError (grammar_in v.parser) (machine_in v.parser) own (v.tokens ++ t ∷ [])

abbrev Begins : ℕ → Bool → PrefixValue → Type 0
Begins t told v = IsTableIn v.parser → Complete (grammar_in v.parser) (machine_in v.parser) → AllProductive (grammar_in v.parser) → IsTrue told ↔ BeginsSentence (grammar_in v.parser) (start_symbol (grammar_in v.parser)) (v.tokens ++ t ∷ [])

pub returns-then-to_usize-clause-error : goal.returns-then-to_usize-clause-error
returns-then-to_usize-clause-error g c = λ _.
    let number = g.S.IndexStorage.number in
    let d = c.self.inside.data.now in
    let t = number c.args.tidx.0 in
    let ts = tokens_of number c.self.inside.tokens.items in
    let ss = stack_of number c.self.inside.states.items in
    let ge = c.if-to_usize.true in
    let value = c.to_usize.ensures.value in
    let other = c.to_usize-2.ensures.value in
    let end = rw c.grm-grm.ensures at c.eof_token_idx.ensures.value in
    let le : end_token (grammar_in d) ≤ t = omega (arith, ge, value, other, end) in
    subst (Fails t) c.self.view_is (outside_last (grammar_in d) (machine_in d) ts t le)

pub returns-then-to_usize-clause-begins : goal.returns-then-to_usize-clause-begins
returns-then-to_usize-clause-begins g c =
    let number = g.S.IndexStorage.number in
    let d = c.self.inside.data.now in
    let t = number c.args.tidx.0 in
    let ts = tokens_of number c.self.inside.tokens.items in
    let ss = stack_of number c.self.inside.states.items in
    let ge = c.if-to_usize.true in
    let value = c.to_usize.ensures.value in
    let other = c.to_usize-2.ensures.value in
    let end = rw c.grm-grm.ensures at c.eof_token_idx.ensures.value in
    let le : end_token (grammar_in d) ≤ t = omega (arith, ge, value, other, end) in
    let checked : IsData (grammar_in d) d.graph d.table d.cap = record { pair = c.facts.ensures.pair; table = c.facts.ensures.table; chains = c.facts.ensures.chains } in
    subst (Begins t false) c.self.view_is (λ is. push_refused d checked ts ss c.self.invariant is (ts ++ t ∷ []) (outside_last (grammar_in d) (machine_in d) ts t le))

pub returns-then-not-branch-clause-error : goal.returns-then-not-branch-clause-error
returns-then-not-branch-clause-error g c = λ _.
    let number = g.S.IndexStorage.number in
    let d = c.self.inside.data.now in
    let t = number c.args.tidx.0 in
    let ts = tokens_of number c.self.inside.tokens.items in
    let ss = stack_of number c.self.inside.states.items in
    let less = c.if-to_usize.false in
    let value = c.to_usize.ensures.value in
    let other = c.to_usize-2.ensures.value in
    let end = rw c.grm-grm.ensures at c.eof_token_idx.ensures.value in
    let lt : t < end_token (grammar_in d) = omega (arith, less, value, other, end) in
    let checked : IsData (grammar_in d) d.graph d.table d.cap = record { pair = c.facts.ensures.pair; table = c.facts.ensures.table; chains = c.facts.ensures.chains } in
    let not : ShiftsNot (grammar_in d) (machine_in d) t ss = rw (c.if-not-branch.true, c.machine-machine.ensures.grammar, c.machine-machine.ensures.table) at (c.in_ok-shift_whole.ensures.shifts d.graph) in
    subst (Fails t) c.self.view_is (error_more d checked ts ss c.self.invariant t lt not)

pub returns-then-not-branch-clause-begins : goal.returns-then-not-branch-clause-begins
returns-then-not-branch-clause-begins g c =
    let number = g.S.IndexStorage.number in
    let d = c.self.inside.data.now in
    let t = number c.args.tidx.0 in
    let ts = tokens_of number c.self.inside.tokens.items in
    let ss = stack_of number c.self.inside.states.items in
    let less = c.if-to_usize.false in
    let value = c.to_usize.ensures.value in
    let other = c.to_usize-2.ensures.value in
    let end = rw c.grm-grm.ensures at c.eof_token_idx.ensures.value in
    let lt : t < end_token (grammar_in d) = omega (arith, less, value, other, end) in
    let checked : IsData (grammar_in d) d.graph d.table d.cap = record { pair = c.facts.ensures.pair; table = c.facts.ensures.table; chains = c.facts.ensures.chains } in
    let not : ShiftsNot (grammar_in d) (machine_in d) t ss = rw (c.if-not-branch.true, c.machine-machine.ensures.grammar, c.machine-machine.ensures.table) at (c.in_ok-shift_whole.ensures.shifts d.graph) in
    subst (Begins t false) c.self.view_is (λ is. push_refused d checked ts ss c.self.invariant is (ts ++ t ∷ []) (error_more d checked ts ss c.self.invariant t lt not))

pub invariant_of-self-2 : goal.invariant_of-self-2
invariant_of-self-2 g c =
    let number = g.S.IndexStorage.number in
    let d = c.self.inside.data.now in
    let t = number c.args.tidx.0 in
    let ts = tokens_of number c.self.inside.tokens.items in
    let ss = stack_of number c.self.inside.states.items in
    let less = c.if-to_usize.false in
    let value = c.to_usize.ensures.value in
    let other = c.to_usize-2.ensures.value in
    let end = rw c.grm-grm.ensures at c.eof_token_idx.ensures.value in
    let lt : t < end_token (grammar_in d) = omega (arith, less, value, other, end) in
    let checked : IsData (grammar_in d) d.graph d.table d.cap = record { pair = c.facts.ensures.pair; table = c.facts.ensures.table; chains = c.facts.ensures.chains } in
    let now = stack_of number c.shift_whole.new.states.items in
    let shifts : ShiftsTo (grammar_in d) (machine_in d) t ss now = rw (c.if-not-branch.false, c.machine-machine.ensures.grammar, c.machine-machine.ensures.table) at (c.in_ok-shift_whole.ensures.shifts d.graph) in
    let are : AreStates d.table now = rw c.machine-machine.ensures.table at c.in_ok-shift_whole.ensures.states in
    let more : IsPrefix d (ts ++ t ∷ []) now = prefix_more d checked ts ss c.self.invariant t lt now shifts are in
    let items : c.push.new.self.items ≡ c.self.inside.tokens.items ++ c.args.tidx ∷ [] = taken c.push.result c.unwrap.result _ _ _ c.unwrap.ensures c.push.ensures.items ∙ ap (λ l. l ++ c.args.tidx ∷ []) c.reserve.ensures.items in
    let tokens : tokens_of number c.push.new.self.items ≡ ts ++ t ∷ [] = ap (tokens_of number) items ∙ map-append (λ q. number q.0) c.self.inside.tokens.items (c.args.tidx ∷ []) in
    subst (λ l. IsPrefix d l now) (sym tokens) more

pub returns-clause-begins : goal.returns-clause-begins
returns-clause-begins g c =
    let number = g.S.IndexStorage.number in
    let d = c.self.inside.data.now in
    let t = number c.args.tidx.0 in
    let ts = tokens_of number c.self.inside.tokens.items in
    let ss = stack_of number c.self.inside.states.items in
    let less = c.if-to_usize.false in
    let value = c.to_usize.ensures.value in
    let other = c.to_usize-2.ensures.value in
    let end = rw c.grm-grm.ensures at c.eof_token_idx.ensures.value in
    let lt : t < end_token (grammar_in d) = omega (arith, less, value, other, end) in
    let checked : IsData (grammar_in d) d.graph d.table d.cap = record { pair = c.facts.ensures.pair; table = c.facts.ensures.table; chains = c.facts.ensures.chains } in
    let now = stack_of number c.shift_whole.new.states.items in
    let shifts : ShiftsTo (grammar_in d) (machine_in d) t ss now = rw (c.if-not-branch.false, c.machine-machine.ensures.grammar, c.machine-machine.ensures.table) at (c.in_ok-shift_whole.ensures.shifts d.graph) in
    let are : AreStates d.table now = rw c.machine-machine.ensures.table at c.in_ok-shift_whole.ensures.states in
    let more : IsPrefix d (ts ++ t ∷ []) now = prefix_more d checked ts ss c.self.invariant t lt now shifts are in
    subst (Begins t true) c.self.view_is (λ is. push_taken d checked (ts ++ t ∷ []) now more is)
