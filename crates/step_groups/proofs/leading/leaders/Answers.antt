use Rattle.std.proofs.Common.{◌≡◌, ◌++◌, ◌∙◌, ◌∷◌, [], ap, arith, get_or, length, subst, sym, List}
use Rattle.std.proofs.lemmas.List.{get_or_default}
use Rattle.nano_spec.specs.declared.commands.Command.TheVariants.{Wait}
use Rattle.nano_spec.specs.declared.system.Bot.{Bot}
use Rattle.nano_spec.specs.Act.{acts}
use Rattle.bot_crew.specs.Crew.{IsCrew}
use Rattle.step_groups.specs.Numbers.{AreNumbers}
use Rattle.step_groups.proofs.Mates.{blank}
use Rattle.step_groups.proofs.Led.{follows, leads_one}
use Rattle.step_groups.proofs.Telling.{as_many_numbers, follows_by_number, leads_by_number}
use Rattle.step_groups.proofs.leading.leaders.Goals as goal

pub bounds-deref-i : goal.bounds-deref-i
bounds-deref-i c =
    let bots = c.bots-bots.result.now in
    let commands = c.args.commands.now in
    let numbers = c.deref.result.now in
    let i = c.loop-i.i in
    let lengths : length commands ≡ length bots = c.requires ∙ sym (ap length c.bots-bots.ensures.value) in
    let crew : IsCrew bots = subst (λ (bs : List Bot). IsCrew bs) (sym c.bots-bots.ensures.value) c.bots-bots.ensures.crew in
    let are : AreNumbers (acts bots commands) numbers = c.deref.ensures.0 ∙ c.number_groups-numbers.ensures in
    let same : length numbers ≡ length bots = as_many_numbers bots commands numbers lengths are in
    omega (arith, same, c.loop-i-test.true)

pub loop-i-preserved-then-from-i : goal.loop-i-preserved-then-from-i
loop-i-preserved-then-from-i c =
    let bots = c.bots-bots.result.now in
    let commands = c.args.commands.now in
    let numbers = c.deref.result.now in
    let i = c.loop-i.i in
    let lengths : length commands ≡ length bots = c.requires ∙ sym (ap length c.bots-bots.ensures.value) in
    let crew : IsCrew bots = subst (λ (bs : List Bot). IsCrew bs) (sym c.bots-bots.ensures.value) c.bots-bots.ensures.crew in
    let are : AreNumbers (acts bots commands) numbers = c.deref.ensures.0 ∙ c.number_groups-numbers.ensures in
    let bot = get_or bots i blank in
    let command = get_or commands i Wait in
    let here = get_or_default bots i blank bot c.loop-i-test.true in
    let there = get_or_default commands i Wait command (omega (arith, lengths, c.loop-i-test.true)) in
    let behind = follows_by_number bots commands lengths crew numbers are i command c.loop-i-test.true there (λ e. c.if-from-i.true (c.from.ensures ∙ e)) in
    record {
      bids = c.loop-i.invariant.bids ∙ sym (follows bots commands i bot command c.loop-i-test.true lengths here there crew.rising behind);
      len = let len_so_far = c.loop-i.invariant.len in omega arith;
    }

pub loop-i-preserved : goal.loop-i-preserved
loop-i-preserved c =
    let bots = c.bots-bots.result.now in
    let commands = c.args.commands.now in
    let numbers = c.deref.result.now in
    let i = c.loop-i.i in
    let lengths : length commands ≡ length bots = c.requires ∙ sym (ap length c.bots-bots.ensures.value) in
    let crew : IsCrew bots = subst (λ (bs : List Bot). IsCrew bs) (sym c.bots-bots.ensures.value) c.bots-bots.ensures.crew in
    let are : AreNumbers (acts bots commands) numbers = c.deref.ensures.0 ∙ c.number_groups-numbers.ensures in
    let bot = get_or bots i blank in
    let command = get_or commands i Wait in
    let here = get_or_default bots i blank bot c.loop-i-test.true in
    let there = get_or_default commands i Wait command (omega (arith, lengths, c.loop-i-test.true)) in
    let leads = leads_by_number bots commands lengths crew numbers are i command c.loop-i-test.true there (sym c.from.ensures ∙ c.if-from-i.false) in
    record {
      bids = c.push.ensures.items ∙ (ap (λ bids. bids ++ bot.bid ∷ []) c.loop-i.invariant.bids ∙ sym (leads_one bots commands i bot command c.loop-i-test.true lengths here there crew.rising leads));
      len = let len_so_far = c.loop-i.invariant.len in let push_len = c.push.ensures.len in omega arith;
    }
