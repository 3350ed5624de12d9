use Rattle.std.proofs.Common.{◌≡◌, All, Contains, Some, map, rules}
use Rattle.refused_tables.specs.Blocks.{all_listed, go_together, groups}
use Rattle.refused_tables.proofs.EachListed.{each_listed}
use Rattle.refused_tables.proofs.Groups.{all_from_map}
use Rattle.refused_tables.proofs.listed.blocks_of.Goals as goal

pub returns-clause-listed : goal.returns-clause-listed
returns-clause-listed c =
    let are : map (λ b. b.items) c.push_blocks.new.blocks.items ≡ groups (go_together c.args.each) c.in_ok-listed.listed.items = search rules in
    all_from_map (All (Contains (all_listed (Some c.args.conflicts.now)))) (λ b. b.items) c.push_blocks.new.blocks.items (each_listed _ (go_together c.args.each) _ c.in_ok-listed.listed.items _ c.in_ok-listed.ensures are)
