use Rattle.serde_json.specs.View.{view}
use Rattle.language_server.specs.Reading.{IsRead}
use Rattle.language_server.proofs.reading.read_message.Goals as goal

pub returns-in-Ok-message : goal.returns-in-Ok-message
returns-in-Ok-message c = IsRead.value (view c.in-Ok.value) c.in-Ok.ensures.ok.0 c.in-Ok.ensures.ok.1 c.in-Ok-message.ensures
