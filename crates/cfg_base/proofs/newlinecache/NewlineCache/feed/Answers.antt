use Rattle.std.proofs.Common.{◌≡◌, ◌++◌, List, ℕ, ap, ◌∙◌}
use Rattle.cfg_base.specs.Newlines.{newline_offsets}
use Rattle.cfg_base.proofs.NewlineOffsets.{fed_is_joined, fed_is_of_text}
use Rattle.cfg_base.proofs.newlinecache.NewlineCache.feed.Goals as goal

pub invariant_of-self-2 : goal.invariant_of-self-2
invariant_of-self-2 c =
    let items : c.push_newlines.new.newlines.items ≡ c.self.inside.newlines.items ++ newline_offsets c.self.inside.bytes c.args.piece.now =
    c.push_newlines.ensures ∙ (ap (λ (xs : List ℕ). xs ++ newline_offsets c.self.inside.bytes c.as_bytes-2.result.now) c.in_ok-reserve.ensures.items ∙ ap (λ (xs : List ℕ). c.self.inside.newlines.items ++ newline_offsets c.self.inside.bytes xs) c.as_bytes-2.ensures.value) in
    fed_is_of_text c.self.inside.newlines.items c.push_newlines.new.newlines.items c.self.inside.bytes c.args.piece.now c.self.invariant items

pub returns-clause-ok : goal.returns-clause-ok
returns-clause-ok c =
    let items : c.push_newlines.new.newlines.items ≡ c.self.inside.newlines.items ++ newline_offsets c.self.inside.bytes c.args.piece.now =
    c.push_newlines.ensures ∙ (ap (λ (xs : List ℕ). xs ++ newline_offsets c.self.inside.bytes c.as_bytes-2.result.now) c.in_ok-reserve.ensures.items ∙ ap (λ (xs : List ℕ). c.self.inside.newlines.items ++ newline_offsets c.self.inside.bytes xs) c.as_bytes-2.ensures.value) in
    fed_is_joined c.self.inside.newlines.items c.push_newlines.new.newlines.items c.self.inside.bytes c.args.self.now c.args.piece.now c.self.view_is items
