use Rattle.std.proofs.Common.{◌≡◌, ℕ, ◌<◌, ◌++◌, [], cond}
use Rattle.std.specs.Prelude.{true, codes}
use Rattle.std.specs.List.{join_by}
use Rattle.std.specs.String.{string_bytes}
use Rattle.std.specs.declared.ops.Bound.TheVariants.{Unbounded}
use Rattle.std.proofs.lemmas.List.Elements.{All-rest}
use Rattle.vob.specs.Walk.{walk}
use Rattle.state_table.specs.GraphTexts.{token_text, tokens_of}
use Rattle.state_table.proofs.GraphTexts.{walk_below, walk_begins, gap_more}
use Rattle.state_table.proofs.graph_texts.push_looks.Goals as goal

pub looks-init : goal.looks-init
looks-init g c =
    let bits = c.args.looks.now.bits in
    let e : c.into_iter-token-iterator.result ≡ walk true bits Unbounded Unbounded = cc in
    (tt, tt, walk_below bits c.args.grm.now.grammar.tokens c.into_iter-token-iterator.result e c.requires, walk_begins (token_text c.args.grm.now) (codes ", ") (string_bytes c.push_str.new.self) bits c.into_iter-token-iterator.result e)

pub looks-preserved : goal.looks-preserved
looks-preserved g c =
    let v = c.args.grm.now in (
      tt,
      tt,
      All-rest (λ (t : ℕ). t < v.grammar.tokens) c.in-Some.token c.next.new.self c.looks.token-iterator c.in-Some.ensures.steps c.looks.invariant.2,
      gap_more (token_text v) (codes ", ") (cond c.looks.follows (codes ", ") []) (string_bytes c.looks.text) (string_bytes c.push_look.new.text) (string_bytes c.push_str.new.self ++ join_by (token_text v) (codes ", ") (tokens_of c.args.looks.now.bits))
          c.in-Some.token c.next.new.self c.looks.token-iterator c.in-Some.ensures.steps c.looks.invariant.3 c.in_ok-push_look.ensures,
    )
