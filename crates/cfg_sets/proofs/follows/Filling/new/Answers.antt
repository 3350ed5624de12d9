use Rattle.std.proofs.Common.{◌≡◌, ℕ, ◌<◌, false, length, ap, ◌∙◌, subst}
use Rattle.std.proofs.lemmas.List.{length-replicate}
use Rattle.vob.specs.Sets.{SetRows}
use Rattle.cfg_sets.specs.Follows.{FollowSets}
use Rattle.cfg_sets.proofs.FollowSteps.{Begins, begins}
use Rattle.cfg_sets.proofs.follows.Filling.new.Goals as goal

pub returns-clause-sound : goal.returns-clause-sound
returns-clause-sound g c =
    let G = c.args.grm.now.grammar in
    let n = c.to_usize-rules.result in
    let m = c.to_usize-tokens.result in
    let rules : n ≡ G.rules = c.to_usize-rules.ensures.value ∙ c.rules_len.ensures in
    let tokens : m ≡ G.tokens = c.to_usize-tokens.ensures.value ∙ c.tokens_len.ensures in
    let number = g.S.IndexStorage.number in
    let z = c.in_ok-empty.field-0 in
    let old : FollowSets = record { tokens = z.width; rows = z.rows } in
    let b : Begins G c.put.new.self = begins G n m (number c.start_rule_idx.result.0) (number c.eof_token_idx.result.0) old c.put.new.self rules tokens c.start_rule_idx.ensures.value c.eof_token_idx.ensures.value c.start_rule_idx.ensures.within
    (subst (λ (k : ℕ). k < G.tokens) c.eof_token_idx.ensures.value c.eof_token_idx.ensures.within) (ap (λ (s : SetRows). s.width) c.in_ok-empty.ensures) (ap (λ (s : SetRows). s.rows) c.in_ok-empty.ensures) c.put.ensures.tokens c.put.ensures.rows in
    record { sizes = b.sizes; sound = b.sound; width = ap length c.in_ok-row.ensures.bits ∙ length-replicate m false ∙ tokens }

pub returns-clause-end : goal.returns-clause-end
returns-clause-end g c =
    let G = c.args.grm.now.grammar in
    let n = c.to_usize-rules.result in
    let m = c.to_usize-tokens.result in
    let rules : n ≡ G.rules = c.to_usize-rules.ensures.value ∙ c.rules_len.ensures in
    let tokens : m ≡ G.tokens = c.to_usize-tokens.ensures.value ∙ c.tokens_len.ensures in
    let number = g.S.IndexStorage.number in
    let z = c.in_ok-empty.field-0 in
    let old : FollowSets = record { tokens = z.width; rows = z.rows } in
    let b : Begins G c.put.new.self = begins G n m (number c.start_rule_idx.result.0) (number c.eof_token_idx.result.0) old c.put.new.self rules tokens c.start_rule_idx.ensures.value c.eof_token_idx.ensures.value c.start_rule_idx.ensures.within
    (subst (λ (k : ℕ). k < G.tokens) c.eof_token_idx.ensures.value c.eof_token_idx.ensures.within) (ap (λ (s : SetRows). s.width) c.in_ok-empty.ensures) (ap (λ (s : SetRows). s.rows) c.in_ok-empty.ensures) c.put.ensures.tokens c.put.ensures.rows in
    b.end
