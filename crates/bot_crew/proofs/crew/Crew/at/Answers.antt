use Rattle.std.proofs.Common.{arith, ◌≡◌, ◌<◌, ◌∙◌, ap, sym, subst, get_or, length}
use Rattle.std.specs.Prelude.{option_map}
use Rattle.nano_spec.specs.declared.system.Bot.{Bot}
use Rattle.bot_crew.proofs.Heirs.{stood}
use Rattle.bot_crew.proofs.Results.{found_there, look_there, nobody, none_stands}
use Rattle.bot_crew.proofs.crew.Crew.at.Goals as goal

pub returns-then-eq : goal.returns-then-eq
returns-then-eq c =
    let same = c.as_slice-bot-items.ensures.value ∙ c.self.view_is in
    let here = get_or c.as_slice-bot-items.result.now c.loop-bot.bot-index nobody in
    let found = found_there c.args.self.now c.args.c c.loop-bot.bot-index here (subst (λ v. c.loop-bot.bot-index < length v) same c.loop-bot-test.true) c.loop-bot.invariant (look_there c.args.self.now c.as_slice-bot-items.result.now c.loop-bot.bot-index same c.loop-bot-test.true) (stood c.args.c here (sym c.eq.ensures ∙ c.if-eq.true)) in
    ap (λ o. option_map (λ (b : Bot). b.bid) o) (sym found)

pub returns : goal.returns
returns c =
    let same = c.as_slice-bot-items.ensures.value ∙ c.self.view_is in
    let all : length c.args.self.now ≡ length c.as_slice-bot-items.result.now = ap length (sym same) in
    ap (λ o. option_map (λ (b : Bot). b.bid) o) (sym (none_stands c.args.self.now c.args.c (λ k d l. c.loop-bot.invariant k d (omega arith))))
