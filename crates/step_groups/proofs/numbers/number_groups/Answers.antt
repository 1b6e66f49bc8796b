use Rattle.std.proofs.Common.{◌≡◌, ◌+◌, ◌∙◌, ◌++◌, ◌∷◌, [], ap, get_or, map, rules, sym, take}
use Rattle.std.proofs.lemmas.List.{get_or_default, map-append}
use Rattle.nano_spec.specs.Act.{acts}
use Rattle.step_groups.specs.Judging.{act}
use Rattle.step_groups.specs.Numbers.{group_number}
use Rattle.step_groups.proofs.Mates.{blank, take_more}
use Rattle.step_groups.proofs.Telling.{alone_before, first_before}
use Rattle.step_groups.proofs.numbers.number_groups.Goals as goal

pub first_mate-first-requires-clause-alone : goal.first_mate-first-requires-clause-alone
first_mate-first-requires-clause-alone c =
    let bots = c.args.bots.now in
    let i = c.loop-i.i in
    let bot = get_or bots i blank in
    alone_before bots c.args.commands.now i bot c.index-commands-i.result c.loop-i-test.true c.requires.lengths (get_or_default bots i blank bot c.loop-i-test.true) c.index-commands-i.is c.requires.crew.rising

pub loop-i-preserved : goal.loop-i-preserved
loop-i-preserved c =
    let bots = c.args.bots.now in
    let commands = c.args.commands.now in
    let i = c.loop-i.i in
    let bot = get_or bots i blank in
    let command = c.index-commands-i.result in
    let here = get_or_default bots i blank bot c.loop-i-test.true in
    let number = group_number (acts bots commands) in
    let more : acts (take (i + 1) bots) (take (i + 1) commands) ≡ acts (take i bots) (take i commands) ++ act bot command ∷ [] = take_more bots commands i bot command c.loop-i-test.true c.requires.lengths here c.index-commands-i.is in
    let own : c.first_mate-first.result ≡ number (act bot command) = c.first_mate-first.ensures.value ∙ first_before bots commands i bot command c.loop-i-test.true c.requires.lengths here c.index-commands-i.is in
    record {
      numbers = c.push.ensures.items ∙ ((λ n. c.loop-i.invariant.numbers n ++ own n ∷ []) ∙ sym (ap (map number) more ∙ map-append number (acts (take i bots) (take i commands)) (act bot command ∷ [])));
      len = search rules;
    }
