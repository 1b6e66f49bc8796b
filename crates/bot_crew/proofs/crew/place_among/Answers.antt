use Rattle.std.proofs.Common.{◌≡◌, ◌<◌, ◌∙◌, ap, arith, get_or}
use Rattle.std.proofs.lemmas.List.{get_or_default}
use Rattle.nano_spec.specs.declared.system.Bot.{Bot}
use Rattle.bot_crew.proofs.crew.place_among.Goals as goal

-- the result of a read past the end
abbrev blank : Bot
blank = record { bid = 0; pos = record { x = 0; y = 0; z = 0 }; seeds = 0 }

pub returns-then-bots-likely-clause-before : goal.returns-then-bots-likely-clause-before
returns-then-bots-likely-clause-before c = λ k d lt.
    let bots = c.args.bots.now in
    let likely = c.from-likely.result in
    let rises : (get_or bots k d).bid < (get_or bots likely d).bid = c.requires k likely d lt c.if-likely-bots.true in
    let here : (get_or bots likely d).bid ≡ c.args.bid = ap (λ (b : Bot). b.bid) (get_or_default bots likely d blank c.if-likely-bots.true) ∙ c.if-bots-likely.true in
    omega arith
