use Rattle.bot_crew.proofs.Results.{place_is, read_bot, read_nothing, read_other}
use Rattle.bot_crew.proofs.crew.Crew.bot.Goals as goal

pub returns-in_default : goal.returns-in_default
returns-in_default c = read_nothing c.self.inside.bots.items c.args.self.now c.deref.result.now c.self.invariant c.self.view_is c.deref.ensures.0 c.args.bid c.place_among.result (place_is c.self.inside.bots.items c.deref-2.result.now c.args.bid c.place_among.result c.deref-2.ensures.0 c.place_among.ensures.within c.place_among.ensures.before c.place_among.ensures.from) c.in_default.ensures.lookup.0

pub returns-then-bot-bid : goal.returns-then-bot-bid
returns-then-bot-bid c = read_bot c.self.inside.bots.items c.args.self.now c.deref.result.now c.self.invariant c.self.view_is c.deref.ensures.0 c.args.bid c.place_among.result (place_is c.self.inside.bots.items c.deref-2.result.now c.args.bid c.place_among.result c.deref-2.ensures.0 c.place_among.ensures.within c.place_among.ensures.before c.place_among.ensures.from) c.in-Some.bot.now c.in-Some.ensures.lookup.0 c.in-Some.ensures.lookup.1 c.if-bot-bid.true

pub returns-else-bot-bid : goal.returns-else-bot-bid
returns-else-bot-bid c = read_other c.self.inside.bots.items c.args.self.now c.deref.result.now c.self.invariant c.self.view_is c.deref.ensures.0 c.args.bid c.place_among.result (place_is c.self.inside.bots.items c.deref-2.result.now c.args.bid c.place_among.result c.deref-2.ensures.0 c.place_among.ensures.within c.place_among.ensures.before c.place_among.ensures.from) c.in-Some.bot.now c.in-Some.ensures.lookup.0 c.in-Some.ensures.lookup.1 c.if-bot-bid.false
