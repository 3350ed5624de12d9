use Rattle.std.proofs.Common.{◌≡◌, ◌++◌, ◌∷◌, [], length, ap, arith}
use Rattle.std.proofs.iter.Next.{Yields-more}
use Rattle.cfg_base.specs.Newlines.{Newlines}
use Rattle.cfg_base.specs.Pieces.{text_of}
use Rattle.cfg_base.proofs.Pieces.{length-text_of-push, more_pieces}
use Rattle.cfg_base.proofs.newlinecache.NewlineCache.from_iter.Goals as goal

pub feed-requires : goal.feed-requires
feed-requires g c =
    let it = c.into_iter-piece-iterator in
    let xs = c.loop-piece.yielded in
    let x = c.in-Some.piece in
    let more = Yields-more g.U.IntoIter.Iterator.next_gives it.result xs c.loop-piece.piece-iterator x c.next.new.self c.loop-piece.yielded_by c.in-Some.ensures.steps in
    let fits = (c.requires it.result it.ensures.into_iter_gives).2 (xs ++ x ∷ []) c.next.new.self more in
    let bytes : c.loop-piece.cache.bytes ≡ length (text_of xs) = ap (λ (v : Newlines). v.bytes) c.loop-piece.invariant in
    omega (arith, bytes, fits, length-text_of-push xs x)

pub loop-piece-preserved : goal.loop-piece-preserved
loop-piece-preserved g c = more_pieces c.loop-piece.cache c.feed.new.self c.loop-piece.yielded c.in-Some.piece c.loop-piece.invariant c.in_ok-feed.ensures.ok
