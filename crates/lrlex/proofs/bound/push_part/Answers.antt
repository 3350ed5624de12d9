use Rattle.lrlex.proofs.Items.{put_lexeme}
use Rattle.lrlex.proofs.bound.push_part.Goals as goal

pub returns-in_ok-push-in-Token : goal.returns-in_ok-push-in-Token
returns-in_ok-push-in-Token g c =
    put_lexeme c.args.meaning c.in-Token.token c.args.part c.new-span.result c.args.items.now.items c.push.new.self.items c.in-Token.is c.new-span.ensures.start c.new-span.ensures.end c.in_ok-push-in-Token.ensures.items
