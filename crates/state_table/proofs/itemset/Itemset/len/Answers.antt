use Rattle.std.proofs.Common.{◌≡◌, length, sym, ◌∙◌, rules}
use Rattle.state_table.proofs.Reading.{shared_length}
use Rattle.state_table.proofs.itemset.Itemset.len.Goals as goal

pub returns : goal.returns
returns g c =
    let len : c.len.result ≡ length c.self.inside.set.entries.items = search rules in
    len ∙ sym (shared_length g.S.IndexStorage.number c.self.inside.set c.args.self.now c.self.view_is)
