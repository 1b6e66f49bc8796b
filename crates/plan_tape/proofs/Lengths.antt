-- The number of commands of a tape.
use Rattle.std.proofs.Common.{◌≡◌, ◌+◌, ◌∙◌, ap, arith, List, [], ◌∷◌, ◌++◌, length, length-append}
use Rattle.vox_geom.specs.declared.coordinate.Coord.{Coord}
use Rattle.nano_spec.specs.declared.commands.Command.{Command}
use Rattle.plan_tape.specs.Leg.{Moves, moves_to}
use Rattle.plan_tape.specs.Progress.{TapeState, spot}

pub push_length : (old new : List Command) (k : Command) → new ≡ old ++ k ∷ [] → length new ≡ length old + 1
push_length old new k e = ap length e ∙ length-append old (k ∷ [])

pub legs_length : (p q : TapeState) (to : Coord) → Moves p q to
    → length q.commands ≡ length p.commands + moves_to (spot p.bots) to
legs_length p q to m =
    let legs = m.legs in
    let added = ap length m.added ∙ length-append p.commands m.commands in
    let joined = ap length legs.joined ∙ (length-append (legs.x ++ legs.y) legs.z ∙ ap (λ n. n + length legs.z) (length-append legs.x legs.y)) in
    let along_x_least = legs.along_x.least in
    let along_y_least = legs.along_y.least in
    let least = legs.along_z.least in
    omega (arith, added, joined, along_x_least, along_y_least, least)
