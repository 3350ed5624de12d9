use Rattle.std.proofs.Common.{◌≡◌, ◌<◌, ◌≤◌, Bool, true, false, length, refl, arith}
use Rattle.std.proofs.lemmas.Bool.{lt-ltb, ltb-true}
use Rattle.cfg_sentences.specs.TokenLists.{tokens_of}
use Rattle.cfg_sentences.proofs.Dictionary.{as_before, read_is, drop_tokens, tokens_count, less_here, more_here, same_here, at_end, at_other_end}
use Rattle.cfg_sentences.proofs.sentences.token_lists.is_before.Goals as goal

wrong : ◌≡◌ {A = Bool} false true → ⊥
wrong e = cc

pub indices-init : goal.indices-init
indices-init g c = record { within = omega arith; rests = as_before (tokens_of g.S.IndexStorage.number c.args.a.now) (tokens_of g.S.IndexStorage.number c.args.b.now) }

pub returns-then-b-index : goal.returns-then-b-index
returns-then-b-index g c =
    let number = g.S.IndexStorage.number in
    let count = tokens_count number c.args.b.now in
    let le = c.if-b-index.true in
    (λ e. absurd (wrong e), λ h. absurd (at_other_end (tokens_of number c.args.a.now) (tokens_of number c.args.b.now) c.indices.index (omega (arith, count, le)) c.indices.invariant.rests h))

pub returns-then-left-right : goal.returns-then-left-right
returns-then-left-right g c =
    let number = g.S.IndexStorage.number in
    let i = c.indices.index in
    let a = drop_tokens number c.args.a.now i c.index-a-index.result c.indices-test.true c.index-a-index.is in
    let b = drop_tokens number c.args.b.now i c.index-b-index.result c.if-b-index.false c.index-b-index.is in
    let x : c.to_usize-left.result ≡ number c.index-a-index.result.0 = read_is number c.to_usize-left.result c.index-a-index.result c.index-a-index.is c.to_usize-left.ensures.value in
    let y : c.to_usize-right.result ≡ number c.index-b-index.result.0 = read_is number c.to_usize-right.result c.index-b-index.result c.index-b-index.is c.to_usize-right.ensures.value in
    let lt : c.to_usize-left.result < c.to_usize-right.result = c.if-left-right.true in
    (λ e. less_here (tokens_of number c.args.a.now) (tokens_of number c.args.b.now) i (number c.index-a-index.result.0) (number c.index-b-index.result.0) a b c.indices.invariant.rests (omega (arith, x, y, lt)), λ h. refl)

pub returns-then-right-left : goal.returns-then-right-left
returns-then-right-left g c =
    let number = g.S.IndexStorage.number in
    let i = c.indices.index in
    let a = drop_tokens number c.args.a.now i c.index-a-index.result c.indices-test.true c.index-a-index.is in
    let b = drop_tokens number c.args.b.now i c.index-b-index.result c.if-b-index.false c.index-b-index.is in
    let x : c.to_usize-left.result ≡ number c.index-a-index.result.0 = read_is number c.to_usize-left.result c.index-a-index.result c.index-a-index.is c.to_usize-left.ensures.value in
    let y : c.to_usize-right.result ≡ number c.index-b-index.result.0 = read_is number c.to_usize-right.result c.index-b-index.result c.index-b-index.is c.to_usize-right.ensures.value in
    let lt : c.to_usize-right.result < c.to_usize-left.result = c.if-right-left.true in
    (λ e. absurd (wrong e), λ h. absurd (more_here (tokens_of number c.args.a.now) (tokens_of number c.args.b.now) i (number c.index-a-index.result.0) (number c.index-b-index.result.0) a b c.indices.invariant.rests (omega (arith, x, y, lt)) h))

pub indices-preserved : goal.indices-preserved
indices-preserved g c =
    let number = g.S.IndexStorage.number in
    let i = c.indices.index in
    let a = drop_tokens number c.args.a.now i c.index-a-index.result c.indices-test.true c.index-a-index.is in
    let b = drop_tokens number c.args.b.now i c.index-b-index.result c.if-b-index.false c.index-b-index.is in
    let x : c.to_usize-left.result ≡ number c.index-a-index.result.0 = read_is number c.to_usize-left.result c.index-a-index.result c.index-a-index.is c.to_usize-left.ensures.value in
    let y : c.to_usize-right.result ≡ number c.index-b-index.result.0 = read_is number c.to_usize-right.result c.index-b-index.result c.index-b-index.is c.to_usize-right.ensures.value in
    let ge : c.to_usize-right.result ≤ c.to_usize-left.result = c.if-left-right.false in
    let le : c.to_usize-left.result ≤ c.to_usize-right.result = c.if-right-left.false in
    let within = c.if-b-index.false in
    record {
      within = omega (arith, within);
      rests = same_here (tokens_of number c.args.a.now) (tokens_of number c.args.b.now) i (number c.index-a-index.result.0) (number c.index-b-index.result.0) a b c.indices.invariant.rests (omega (arith, x, y, ge)) (omega (arith, x, y, le));
    }

pub returns : goal.returns
returns g c =
    let number = g.S.IndexStorage.number in
    let i = c.indices.index in
    let ca = tokens_count number c.args.a.now in
    let cb = tokens_count number c.args.b.now in
    let done = c.indices-test.false in
    let at = c.indices.auto.index-end in
    let within = c.indices.invariant.within in
    let r = at_end (tokens_of number c.args.a.now) (tokens_of number c.args.b.now) i (omega (arith, ca, done)) c.indices.invariant.rests in
    (λ e. r.0 (let lt = ltb-true (length c.args.a.now) (length c.args.b.now) e in omega (arith, lt, cb, at)), λ h. lt-ltb (length c.args.a.now) (length c.args.b.now) (let lt = r.1 h in omega (arith, lt, cb, done)))
