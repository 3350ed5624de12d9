use Rattle.std.proofs.Common.{ap}
use Rattle.parser_kit.specs.Kit.{KitValue}
use Rattle.parser_kit.proofs.ParsedAlike.{kits_parse_alike}
use Rattle.parser_kit.proofs.laws.kits_of_texts_parse_alike.Goals as goal

pub returns : goal.returns
returns g c = λ top top' cap kind text k l x y. kits_parse_alike c.parses_are_one.ensures k.parser l.parser (ap (λ (v : KitValue). v.parser) (c.kits_of_texts_are_one.ensures top top' cap kind text k l x y))
