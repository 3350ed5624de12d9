use Rattle.std.proofs.Common.{[], ◌∙◌, ap}
use Rattle.cfg_base.specs.Newlines.{Newlines, joined, newlines_of}
use Rattle.cfg_base.proofs.NewlineOffsets.{joined_is_append}
use Rattle.cfg_base.proofs.newlinecache.NewlineCache.from_str.Goals as goal

pub returns : goal.returns
returns c =
    c.in_ok-feed.ensures.ok ∙ (ap (λ (v : Newlines). joined v (newlines_of c.args.text.now)) c.new-cache.ensures ∙ joined_is_append [] c.args.text.now)
