use Rattle.std.proofs.Common.{◌+◌, ◌∙◌, ap, arith, get_or, length, sym}
use Rattle.std.proofs.lemmas.List.{get_or_default}
use Rattle.step_groups.proofs.Mates.{blank}
use Rattle.step_groups.proofs.Lists.{to_end}
use Rattle.step_groups.proofs.Pushed.{alone_here, few_here, joined_here, none_here, stays_here}
use Rattle.step_groups.proofs.Telling.{as_many_numbers, follows_by_number, leads_by_number, rest_lengths, tells_after}
use Rattle.step_groups.proofs.members.push_group.Goals as goal

pub bounds-numbers-i : goal.bounds-numbers-i
bounds-numbers-i c =
    let same = as_many_numbers c.args.bots.now c.args.commands.now c.args.numbers.now c.requires.lengths c.requires.numbers in
    omega (arith, same, c.requires.i)

pub lone_group-group-requires-clause-stays : goal.lone_group-group-requires-clause-stays
lone_group-group-requires-clause-stays c =
    let bots = c.args.bots.now in
    let i = c.args.i in
    stays_here c.args.planes.now.resolution bots c.args.commands.now i (get_or bots i blank) c.index-commands-i.result c.requires.i c.requires.lengths (get_or_default bots i blank (get_or bots i blank) c.requires.i) c.index-commands-i.is c.requires.judged.stays

pub returns-then-from-i-clause-groups : goal.returns-then-from-i-clause-groups
returns-then-from-i-clause-groups c =
    let bots = c.args.bots.now in
    let commands = c.args.commands.now in
    let numbers = c.args.numbers.now in
    let i = c.args.i in
    let number = get_or numbers i 0 in
    let bot = get_or bots i blank in
    let command = c.index-commands-i.result in
    let here = get_or_default bots i blank bot c.requires.i in
    let follows = follows_by_number bots commands c.requires.lengths c.requires.crew numbers c.requires.numbers i command c.requires.i c.index-commands-i.is (λ e. c.if-from-i.true (c.from.ensures ∙ e)) in
    none_here c.args.planes.now.resolution bots commands i bot command c.requires.i c.requires.lengths here c.index-commands-i.is c.requires.crew.rising c.args.groups.now.items follows

pub returns-then-acts_alone-clause-groups : goal.returns-then-acts_alone-clause-groups
returns-then-acts_alone-clause-groups c =
    let bots = c.args.bots.now in
    let i = c.args.i in
    let bot = get_or bots i blank in
    let lone = c.lone_group-group.ensures in
    alone_here c.args.planes.now.resolution bots c.args.commands.now i bot c.index-commands-i.result c.requires.i c.requires.lengths (get_or_default bots i blank bot c.requires.i) c.index-commands-i.is c.requires.crew.rising
    c.args.groups.now.items c.push.new.self.items c.lone_group-group.result c.push.ensures.items (sym c.acts_alone.ensures ∙ c.if-acts_alone.true) lone.leader lone.members lone.boxes lone.space

pub join-requires-clause-lengths : goal.join-requires-clause-lengths
join-requires-clause-lengths c =
    let bots = c.args.bots.now in
    let numbers = c.args.numbers.now in
    let rest = c.args.i + 1 in
    let same = as_many_numbers bots c.args.commands.now numbers c.requires.lengths c.requires.numbers in
    ap length (to_end numbers rest) ∙ (rest_lengths bots numbers rest same ∙ sym (ap length (to_end bots rest)))

pub join-requires-clause-members : goal.join-requires-clause-members
join-requires-clause-members c =
    let bots = c.args.bots.now in
    let commands = c.args.commands.now in
    let numbers = c.args.numbers.now in
    let i = c.args.i in
    let number = get_or numbers i 0 in
    let bot = get_or bots i blank in
    let command = c.index-commands-i.result in
    let here = get_or_default bots i blank bot c.requires.i in
    let leads = leads_by_number bots commands c.requires.lengths c.requires.crew numbers c.requires.numbers i command c.requires.i c.index-commands-i.is (sym c.from.ensures ∙ c.if-from-i.false) in
    let tell = tells_after bots commands c.requires.lengths c.requires.crew numbers c.requires.numbers i command c.requires.i c.index-commands-i.is in
    let few = few_here c.args.planes.now.resolution bots commands i bot command c.requires.i c.requires.lengths here c.index-commands-i.is c.requires.crew.rising numbers number tell leads c.requires.judged.few in
    let one = ap length c.lone_group-group.ensures.members in
    omega (arith, one, few)

pub join-requires-clause-boxes : goal.join-requires-clause-boxes
join-requires-clause-boxes c =
    let bots = c.args.bots.now in
    let commands = c.args.commands.now in
    let numbers = c.args.numbers.now in
    let i = c.args.i in
    let number = get_or numbers i 0 in
    let bot = get_or bots i blank in
    let command = c.index-commands-i.result in
    let here = get_or_default bots i blank bot c.requires.i in
    let leads = leads_by_number bots commands c.requires.lengths c.requires.crew numbers c.requires.numbers i command c.requires.i c.index-commands-i.is (sym c.from.ensures ∙ c.if-from-i.false) in
    let tell = tells_after bots commands c.requires.lengths c.requires.crew numbers c.requires.numbers i command c.requires.i c.index-commands-i.is in
    let few = few_here c.args.planes.now.resolution bots commands i bot command c.requires.i c.requires.lengths here c.index-commands-i.is c.requires.crew.rising numbers number tell leads c.requires.judged.few in
    omega (arith, c.lone_group-group.ensures.few, few)

pub returns-clause-groups : goal.returns-clause-groups
returns-clause-groups c =
    let bots = c.args.bots.now in
    let commands = c.args.commands.now in
    let numbers = c.args.numbers.now in
    let i = c.args.i in
    let number = get_or numbers i 0 in
    let bot = get_or bots i blank in
    let command = c.index-commands-i.result in
    let here = get_or_default bots i blank bot c.requires.i in
    let leads = leads_by_number bots commands c.requires.lengths c.requires.crew numbers c.requires.numbers i command c.requires.i c.index-commands-i.is (sym c.from.ensures ∙ c.if-from-i.false) in
    let tell = tells_after bots commands c.requires.lengths c.requires.crew numbers c.requires.numbers i command c.requires.i c.index-commands-i.is in
    let lone = c.lone_group-group.ensures in
    joined_here c.args.planes.now.resolution bots commands i bot command c.requires.i c.requires.lengths here c.index-commands-i.is c.requires.crew.rising numbers number tell leads
    c.args.groups.now.items c.push-2.new.self.items c.lone_group-group.result c.join.new.group c.push-2.ensures.items lone.leader lone.members lone.boxes lone.space
    c.join.ensures.leader c.join.ensures.members c.join.ensures.boxes c.requires.within
