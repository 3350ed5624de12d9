use Rattle.std.proofs.Common.{◌≡◌, ◌≤◌, ◌+◌, ◌++◌, take, drop, vec_len, vec_capacity, count_by}
use Rattle.cfg_base.specs.Text.{is_line_feed}
use Rattle.cfg_base.specs.Newlines.{newline_offsets}
use Rattle.cfg_base.proofs.newlinecache.push_newlines.Given as goal

-- the offsets among the bytes so far are there, and there is room for the others
abbrev pub invariant-loop-offset : goal.invariant-loop-offset
invariant-loop-offset l = record {
  items : l.newlines.items ≡ l.fn.newlines.items ++ newline_offsets l.from (take l.offset l.bytes);
  room : vec_len l.newlines + count_by is_line_feed (drop l.offset l.bytes) ≤ vec_capacity l.newlines;
}
