use Rattle.std.proofs.Common.{◌<◌, [], length, arith}
use Rattle.std.specs.String.{string_bytes}
use Rattle.lr_theory.specs.Itemset.{Entry}
use Rattle.state_table.specs.GraphTexts.{item_text}
use Rattle.state_table.proofs.GraphTexts.{shown_more}
use Rattle.state_table.proofs.graph_texts.push_items.Goals as goal

none : Entry
none = record { production = 0; dot = 0; lookaheads = [] }

pub items-preserved : goal.items-preserved
items-preserved g c =
    let lt : c.items.i < length c.args.set.now = omega arith in
    shown_more string_bytes (item_text c.args.grm.now) c.args.lines.now.items c.items.lines.items c.push.new.self.items c.args.set.now c.items.i none c.in_ok-shown.shown lt c.items.invariant c.in_ok-push.ensures.items (c.in_ok-shown.ensures none)
