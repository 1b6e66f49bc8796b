use Rattle.std.proofs.Common.{◌∷◌, ◌++◌, ◌∙◌, [], ap, arith, get_or, sym}
use Rattle.std.proofs.lemmas.List.{get_or_default}
use Rattle.nano_spec.specs.declared.commands.Command.TheVariants.{Wait}
use Rattle.step_groups.proofs.Telling.{follows_by_number, leads_by_number, tells_after}
use Rattle.step_groups.proofs.Mates.{blank}
use Rattle.system_state.proofs.Listed.{no_turn_more, numbered_more}
use Rattle.system_state.proofs.turns.push_turn.Goals as goal

pub returns-then-from-i-clause-turns : goal.returns-then-from-i-clause-turns
returns-then-from-i-clause-turns c = λ commands lengths are.
    let bots = c.args.bots.now in
    let numbers = c.args.numbers.now in
    let i = c.args.i in
    let number = get_or numbers i 0 in
    let bot = get_or bots i blank in
    let command = get_or commands i Wait in
    let here = get_or_default bots i blank bot c.requires.i in
    let there = get_or_default commands i Wait command (omega (arith, lengths, c.requires.i)) in
    no_turn_more bots commands i bot command c.requires.i lengths here there c.requires.crew.rising c.args.turns.now.items
    (follows_by_number bots commands lengths c.requires.crew numbers are i command c.requires.i there (λ e. c.if-from-i.true (c.from.ensures ∙ e)))

pub returns-clause-turns : goal.returns-clause-turns
returns-clause-turns c = λ commands lengths are.
    let bots = c.args.bots.now in
    let numbers = c.args.numbers.now in
    let i = c.args.i in
    let number = get_or numbers i 0 in
    let bot = get_or bots i blank in
    let command = get_or commands i Wait in
    let here = get_or_default bots i blank bot c.requires.i in
    let there = get_or_default commands i Wait command (omega (arith, lengths, c.requires.i)) in
    let first = sym c.from.ensures ∙ c.if-from-i.false in
    let leads = leads_by_number bots commands lengths c.requires.crew numbers are i command c.requires.i there first in
    let tell = tells_after bots commands lengths c.requires.crew numbers are i command c.requires.i there in
    numbered_more bots commands i bot command c.requires.i lengths here there c.requires.crew.rising c.args.turns.now.items c.push.new.self.items numbers number c.first_numbered.result
    (c.push.ensures.items ∙ ap (λ place. c.args.turns.now.items ++ record { leader = bot.bid; place = place; partner = c.first_numbered.result } ∷ []) first) leads tell c.first_numbered.ensures
