-- The effect of a step of the bot, and that its commands are plain.
use Rattle.std.proofs.Common.{◌≡◌, ℕ, ◌+◌, refl, sym, ◌∙◌, ap, subst, arith, List, [], ◌∷◌, ◌++◌, true, length, All, append-nil}
use Rattle.std.specs.Prelude.{ℤ}
use Rattle.std.proofs.lemmas.List.Elements.{All-append, All-cons, All-nil}
use Rattle.vox_geom.specs.declared.coordinate.Coord.{Coord}
use Rattle.vox_geom.specs.Point.{plus, point, down}
use Rattle.vox_geom.specs.Space.{IsInSpace, coordinate}
use Rattle.vox_geom.proofs.Sums.{unsigned_less_one, unsigned_plus_none as there}
use Rattle.nano_spec.specs.declared.commands.Command.{Command}
use Rattle.nano_spec.specs.declared.commands.Command.TheVariants.{Fill}
use Rattle.vox_planes.specs.Voxel.{with_voxel}
use Rattle.plan_tape.specs.declared.axis.Axis.{Axis}
use Rattle.plan_tape.specs.declared.axis.Axis.TheVariants.{X, Y, Z}
use Rattle.plan_tape.specs.Leg.{AreLegs, IsLeg, IsLeastLeg, Moves, moves, moves_to}
use Rattle.plan_tape.specs.Progress.{TapeState, Writes, beside, spot}
use Rattle.low_planner.specs.Build.{IsWorking, Works, above}
use Rattle.low_planner.specs.Commands.{IsPlain}

-- ---- plain commands

plain_more : (c : Command) (cs : List Command) → IsPlain c → All IsPlain cs → All IsPlain (c ∷ cs)
plain_more c cs h k = All-cons IsPlain c cs h k

leg_is_plain : (axis : Axis) (a b : ℕ) (cs : List Command) → IsLeg axis a b cs → All IsPlain cs
leg_is_plain axis a b [] h = All-nil IsPlain
leg_is_plain axis a b (c ∷ cs) h = plain_more c cs (subst IsPlain (sym h.1) tt) (leg_is_plain axis h.0 b cs h.3)

legs_are_plain : (a b : Coord) (cs : List Command) → AreLegs a b cs → All IsPlain cs
legs_are_plain a b cs h =
    subst (All IsPlain) (sym h.joined)
    (All-append IsPlain (h.x ++ h.y) h.z (All-append IsPlain h.x h.y (leg_is_plain X a.x b.x h.x h.along_x.leg) (leg_is_plain Y a.y b.y h.y h.along_y.leg)) (leg_is_plain Z a.z b.z h.z h.along_z.leg))

pub plain_and : (cs : List Command) (c : Command) → IsPlain c → All IsPlain cs → All IsPlain (cs ++ c ∷ [])
plain_and cs c h k = All-append IsPlain cs (c ∷ []) k (plain_more c [] h (All-nil IsPlain))

-- ---- a path

pub went : (old new : TapeState) (to : Coord) → IsWorking old → Moves old new to
    → Works old new to old.matrix (moves_to (spot old.bots) to)
went old new to w m = record {
  source = m.source;
  working = record { alone = m.alone; low = m.harmonics ∙ w.low; light = m.profile ∙ w.light };
  there = m.there;
  matrix = m.matrix;
  steps = m.steps;
  plain = λ p. subst (All IsPlain) (sym m.added) (All-append IsPlain old.commands m.commands p (legs_are_plain (spot old.bots) to m.commands m.legs));
}

no_moves : (a : ℕ) → moves a a ≡ 0
no_moves a = omega arith

none_of : {A : Type 0} (xs : List A) → length xs ≡ 0 → xs ≡ []
none_of [] e = refl
none_of (x ∷ xs) e = absurd (omega arith)

no_leg : (axis : Axis) (a b : ℕ) (cs : List Command) → a ≡ b → IsLeastLeg axis a b cs → cs ≡ []
no_leg axis a b cs e h = none_of cs (h.least ∙ (ap (λ (n : ℕ). moves a n) (sym e) ∙ no_moves a))

-- no commands if the bot is there
pub went_nowhere : (old new : TapeState) (to : Coord) → spot old.bots ≡ to → Moves old new to
    → new.commands ≡ old.commands
went_nowhere old new to e m =
    let legs = m.legs in
    let no_leg_here_x = no_leg X (spot old.bots).x to.x legs.x (ap (λ (q : Coord). q.x) e) legs.along_x in
    let no_leg_here_y = no_leg Y (spot old.bots).y to.y legs.y (ap (λ (q : Coord). q.y) e) legs.along_y in
    let no_leg_here_z = no_leg Z (spot old.bots).z to.z legs.z (ap (λ (q : Coord). q.z) e) legs.along_z in
    let none : m.commands ≡ [] = legs.joined ∙ (λ i. no_leg_here_x i ++ no_leg_here_y i ++ no_leg_here_z i) in
    m.added ∙ (ap (λ (cs : List Command). old.commands ++ cs) none ∙ append-nil old.commands)

-- ---- a voxel that is filled from above

pub below_spot : (p : TapeState) (c : Coord) → spot p.bots ≡ above c → beside p down ≡ c
below_spot p c e = ap (λ (q : Coord). coordinate (plus (point q) down)) e ∙ (λ i. record { x = there c.x i; y = unsigned_less_one c.y i; z = there c.z i })

pub filled : (a b c : TapeState) (at : Coord) (n : ℕ) (cost : ℤ) → Works a b (above at) a.matrix n
    → Writes b c (Fill down) (with_voxel b.matrix (beside b down) true) b.harmonics b.bots cost
    → Works a c (above at) (with_voxel a.matrix at true) (n + 1)
filled a b c at n cost w f = record {
  source = f.source ∙ w.source;
  working = record { alone = ap length f.bots_are ∙ w.working.alone; low = f.harmonics ∙ w.working.low; light = f.profile ∙ w.working.light };
  there = ap spot f.bots_are ∙ w.there;
  matrix = f.matrix ∙ (λ i. with_voxel (w.matrix i) (below_spot b at w.there i) true);
  steps = (let its_steps = w.steps in let steps = f.steps in omega arith);
  plain = λ p. subst (All IsPlain) (sym f.commands) (plain_and b.commands (Fill down) tt (w.plain p));
}

pub lower_in_space : (r : ℕ) (c : Coord) → IsInSpace r (above c) → IsInSpace r c
lower_in_space r c h = record { x = h.x; y = (let along_y = h.y in omega arith); z = h.z }
