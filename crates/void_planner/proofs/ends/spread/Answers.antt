use Rattle.std.proofs.Common.{rules, refl}
use Rattle.plan_tape.specs.Progress.{spot}
use Rattle.void_planner.specs.Square.{two}
use Rattle.void_planner.proofs.Openings.{becomes_four, becomes_stands, risen_stands}
use Rattle.void_planner.proofs.ends.spread.Goals as goal

pub split-requires-clause-can : goal.split-requires-clause-can
split-requires-clause-can c = record { high = search rules; full = search rules; stand = risen_stands c.args.tape.now c.requires.risen c.requires.some; limit = search rules }

pub split_both-requires-clause-can : goal.split_both-requires-clause-can
split_both-requires-clause-can c = record {
  high = search rules;
  full = search rules;
  stand = becomes_stands c.args.tape.now c.split.new.tape (two (spot c.args.tape.now.bots)) 1 1 1 c.in_ok-split.ensures refl (risen_stands c.args.tape.now c.requires.risen c.requires.some);
  limit = search rules;
}

pub set_width-requires-clause-rectangle : goal.set_width-requires-clause-rectangle
set_width-requires-clause-rectangle c = becomes_four c.split.new.tape c.split_both.new.tape 2 c.in_ok-split_both.ensures (becomes_stands c.args.tape.now c.split.new.tape (two (spot c.args.tape.now.bots)) 1 1 1 c.in_ok-split.ensures refl (risen_stands c.args.tape.now c.requires.risen c.requires.some))
