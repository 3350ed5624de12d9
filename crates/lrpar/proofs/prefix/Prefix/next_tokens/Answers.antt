use Rattle.std.proofs.Common.{◌<◌, ◌↔◌, ℕ, [], ◌∷◌, ◌++◌, subst}
use Rattle.std.specs.Prelude.{IfOk}
use Rattle.std.proofs.lemmas.Result.{IfOk-weaker}
use Rattle.cfg_theory.specs.Derivation.{AllProductive, BeginsSentence, IsSentence}
use Rattle.cfg_theory.specs.Grammar.{end_token, start_symbol}
use Rattle.lr_theory.specs.Automaton.{Complete}
use Rattle.lr_theory.specs.Machine.{Config}
use Rattle.state_table.specs.Graphs.{GraphValue}
use Rattle.state_table.specs.Tables.{automaton_of}
use Rattle.vob.specs.Packed.{Contents}
use Rattle.lrpar.specs.Checked.{IsData}
use Rattle.lrpar.specs.NextStates.{TellBelow}
use Rattle.lrpar.specs.NextTokens.{Reaches, IsSet, AreNext}
use Rattle.lrpar.specs.Prefixes.{PrefixValue, grammar_in, machine_in, IsTableIn, own, tokens_of}
use Rattle.lrpar.specs.Reducing.{stack_of}
use Rattle.lrpar.proofs.Prefixes.{told_next, told_sound, told_sound_end, told_exact, told_exact_end}
use Rattle.lrpar.proofs.prefix.Prefix.next_tokens.Goals as goal

-- what is so of the data
checked : (g : _) (c : goal.After-tokens_behind g) → IsData (grammar_in c.self.inside.data.now) c.self.inside.data.now.graph c.self.inside.data.now.table c.self.inside.data.now.cap
checked g c = record { pair = c.facts.ensures.pair; table = c.facts.ensures.table; chains = c.facts.ensures.chains }

-- what is told of the states
told : (g : _) (c : goal.After-tokens_behind g) → IfOk c.tokens_behind.result (λ (b : Contents). (x : GraphValue) → TellBelow (grammar_in c.self.inside.data.now) (automaton_of x c.self.inside.data.now.table) (stack_of g.S.IndexStorage.number c.self.inside.states.items) (grammar_in c.self.inside.data.now).tokens b.bits)
told g c = rw (c.machine.ensures.grammar, c.machine.ensures.table, c.as_slice.ensures.value) at c.tokens_behind.ensures

pub returns-clause-told : goal.returns-clause-told
returns-clause-told g c =
    let number = g.S.IndexStorage.number in
    let ts = tokens_of number c.self.inside.tokens.items in
    let ss = stack_of number c.self.inside.states.items in
    subst (λ (v : PrefixValue). IfOk c.tokens_behind.result (λ b. (d : Config ℕ) × Reaches (grammar_in v.parser) (machine_in v.parser) own v.tokens [] d × AreNext (grammar_in v.parser) (machine_in v.parser) own d b.bits)) c.self.view_is
    (IfOk-weaker _ _ _ (λ b h. told_next c.self.inside.data.now (checked g c) ts ss c.self.invariant b h) (told g c))

pub returns-clause-sound : goal.returns-clause-sound
returns-clause-sound g c =
    let number = g.S.IndexStorage.number in
    let ts = tokens_of number c.self.inside.tokens.items in
    let ss = stack_of number c.self.inside.states.items in
    subst (λ (v : PrefixValue). IfOk c.tokens_behind.result (λ b. IsTableIn v.parser → AllProductive (grammar_in v.parser) → (t : ℕ) → t < end_token (grammar_in v.parser) → IsSet b.bits t → BeginsSentence (grammar_in v.parser) (start_symbol (grammar_in v.parser)) (v.tokens ++ t ∷ []))) c.self.view_is
    (IfOk-weaker _ _ _ (λ b h. told_sound c.self.inside.data.now (checked g c) ts ss c.self.invariant b h) (told g c))

pub returns-clause-sound_end : goal.returns-clause-sound_end
returns-clause-sound_end g c =
    let number = g.S.IndexStorage.number in
    let ts = tokens_of number c.self.inside.tokens.items in
    let ss = stack_of number c.self.inside.states.items in
    subst (λ (v : PrefixValue). IfOk c.tokens_behind.result (λ b. IsSet b.bits (end_token (grammar_in v.parser)) → IsSentence (grammar_in v.parser) (start_symbol (grammar_in v.parser)) v.tokens)) c.self.view_is
    (IfOk-weaker _ _ _ (λ b h. told_sound_end c.self.inside.data.now (checked g c) ts ss c.self.invariant b h) (told g c))

pub returns-clause-exact : goal.returns-clause-exact
returns-clause-exact g c =
    let number = g.S.IndexStorage.number in
    let ts = tokens_of number c.self.inside.tokens.items in
    let ss = stack_of number c.self.inside.states.items in
    subst (λ (v : PrefixValue). IfOk c.tokens_behind.result (λ b. IsTableIn v.parser → Complete (grammar_in v.parser) (machine_in v.parser) → AllProductive (grammar_in v.parser) → (t : ℕ) → t < end_token (grammar_in v.parser) → IsSet b.bits t ↔ BeginsSentence (grammar_in v.parser) (start_symbol (grammar_in v.parser)) (v.tokens ++ t ∷ []))) c.self.view_is
    (IfOk-weaker _ _ _ (λ b h. told_exact c.self.inside.data.now (checked g c) ts ss c.self.invariant b h) (told g c))

pub returns-clause-exact_end : goal.returns-clause-exact_end
returns-clause-exact_end g c =
    let number = g.S.IndexStorage.number in
    let ts = tokens_of number c.self.inside.tokens.items in
    let ss = stack_of number c.self.inside.states.items in
    subst (λ (v : PrefixValue). IfOk c.tokens_behind.result (λ b. IsTableIn v.parser → Complete (grammar_in v.parser) (machine_in v.parser) → AllProductive (grammar_in v.parser) → IsSet b.bits (end_token (grammar_in v.parser)) ↔ IsSentence (grammar_in v.parser) (start_symbol (grammar_in v.parser)) v.tokens)) c.self.view_is
    (IfOk-weaker _ _ _ (λ b h. told_exact_end c.self.inside.data.now (checked g c) ts ss c.self.invariant b h) (told g c))
