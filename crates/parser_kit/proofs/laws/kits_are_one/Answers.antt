use Rattle.parser_kit.proofs.Tabled.{one_kit}
use Rattle.parser_kit.proofs.laws.kits_are_one.Goals as goal

pub returns : goal.returns
returns c = λ top top' k l x y same_grammar same_cap. one_kit c.tables_are_one.ensures.graphs c.tables_are_one.ensures.tables top top' k l x y same_grammar same_cap
