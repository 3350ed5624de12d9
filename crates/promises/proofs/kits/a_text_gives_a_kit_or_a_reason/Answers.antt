use Rattle.promises.proofs.kits.a_text_gives_a_kit_or_a_reason.Goals as goal

pub returns-clause-kit : goal.returns-clause-kit
returns-clause-kit g c = c.new.ensures.kit

pub returns-clause-refused : goal.returns-clause-refused
returns-clause-refused g c = c.new.ensures.refused
