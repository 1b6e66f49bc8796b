-- Steps of all bots.
use Rattle.std.proofs.Common.{◌≡◌, refl, sym, ◌∙◌, ap, subst, inr, List, [], ◌∷◌}
use Rattle.std.specs.Prelude.{IsTrue, IsFalse, None}
use Rattle.std.specs.List.{AllByRecursion}
use Rattle.vox_geom.specs.Point.{Point}
use Rattle.vox_geom.specs.Region.{Span, between}
use Rattle.nano_spec.specs.declared.commands.Command.{Command}
use Rattle.nano_spec.specs.declared.commands.Command.TheVariants.{Wait, SMove}
use Rattle.nano_spec.specs.declared.system.Bot.{Bot}
use Rattle.nano_spec.specs.declared.system.Harmonics.{Harmonics}
use Rattle.nano_spec.specs.declared.system.Harmonics.TheVariants.{High, Low}
use Rattle.nano_spec.specs.Act.{Act, is_flip, position}
use Rattle.nano_spec.specs.Grounded.{FirstUngrounded}
use Rattle.nano_spec.specs.Matrix.{Matrix}
use Rattle.nano_spec.specs.State.{State}
use Rattle.nano_spec.specs.Step.{after}
use Rattle.nano_spec.specs.Volatile.{volatile_regions}
use Rattle.step_order.specs.Acting.{goal_of, leaves_voxels, stays_one}
use Rattle.step_order.specs.Apart.{AreApart, DoNotInterfere, LieApart, MayMeet}
use Rattle.step_order.specs.Unbroken.{AreFree, IsFree, MayAct}
use Rattle.plan_tape.specs.Crowd.{AllStep, AreWaysApart, CanGo, MayGo, way}
use Rattle.plan_tape.specs.Progress.{IsHeld, TapeState, state_of, tape_stepped}
use Rattle.plan_tape.proofs.AfterSteps.{bytes_stepped}

-- ---- bots that wait or move

may_act : (s : State) (all : List Act) (a : Act) (k : Command) → MayGo s.matrix (position a) k → MayAct s all a k
may_act s all a Wait h = h
may_act s all a (SMove d) h = h
may_act s all a _ h = absurd h

one_region : (m : Matrix) (p : Point) (k : Command) → MayGo m p k → volatile_regions p k ≡ between p (goal_of p k) ∷ []
one_region m p Wait h = refl
one_region m p (SMove d) h = refl
one_region m p _ h = absurd h

goes_on_as_one : (m : Matrix) (p : Point) (k : Command) → MayGo m p k → IsTrue (stays_one k)
goes_on_as_one m p Wait h = refl
goes_on_as_one m p (SMove d) h = refl
goes_on_as_one m p _ h = absurd h

leaves_all : (m : Matrix) (p : Point) (k : Command) → MayGo m p k → IsTrue (leaves_voxels k)
leaves_all m p Wait h = refl
leaves_all m p (SMove d) h = refl
leaves_all m p _ h = absurd h

flips_not : (m : Matrix) (p : Point) (k : Command) → MayGo m p k → IsFalse (is_flip k)
flips_not m p Wait h = refl
flips_not m p (SMove d) h = refl
flips_not m p _ h = absurd h

module _ (p : TapeState) where
  -- a consequence for each bot
  pub each_by : (P : Act → Type 0) → ((a : Act) → CanGo p a → P a) → (xs : List Act) → AllByRecursion (CanGo p) xs
      → AllByRecursion P xs
  each_by P f [] h = tt
  each_by P f (a ∷ xs) h = (f a h.0, each_by P f xs h.1)

  apart_by : (a b : Act) → CanGo p a → CanGo p b → LieApart (way a) (way b) → AreApart a b
  apart_by a b g k h =
      subst (λ (ss : List Span). AllByRecursion (λ s. AllByRecursion (λ t. LieApart s t) (volatile_regions (position b) b.command)) ss) (sym (one_region p.matrix (position a) a.command g.may))
      (subst (λ (ts : List Span). AllByRecursion (λ t. LieApart (way a) t) ts) (sym (one_region p.matrix (position b) b.command k.may)) (h, tt), tt)

  meet_by : (a : Act) → CanGo p a → (xs : List Act) → AllByRecursion (CanGo p) xs
      → AllByRecursion (λ b. LieApart (way a) (way b)) xs → AllByRecursion (λ b. MayMeet a b) xs
  meet_by a g [] h k = tt
  meet_by a g (b ∷ xs) h k = (inr (apart_by a b g h.0 k.0), meet_by a g xs h.1 k.1)

  untangled_by : (xs : List Act) → AllByRecursion (CanGo p) xs → AreWaysApart xs → DoNotInterfere xs
  untangled_by [] h k = tt
  untangled_by (a ∷ xs) h k = (meet_by a h.0 xs h.1 k.0, untangled_by xs h.1 k.1)

  pub free_by : (all : List Act) → AllByRecursion (CanGo p) all → AreWaysApart all → AreFree (state_of p) all
  free_by all h k = record {
    each = each_by (IsFree (state_of p) all) (λ a g. record { allowed = g.allowed; may = may_act (state_of p) all a a.command g.may }) all h;
    untangled = untangled_by all h k;
  }

  pub stay_by : (all : List Act) → AllByRecursion (CanGo p) all → AllByRecursion (λ a. IsTrue (stays_one a.command)) all
  stay_by = each_by (λ a. IsTrue (stays_one a.command)) (λ a g. goes_on_as_one p.matrix (position a) a.command g.may)

  pub leave_by : (all : List Act) → AllByRecursion (CanGo p) all
      → AllByRecursion (λ a. IsTrue (leaves_voxels a.command)) all
  leave_by = each_by (λ a. IsTrue (leaves_voxels a.command)) (λ a g. leaves_all p.matrix (position a) a.command g.may)

  pub flip_by : (all : List Act) → AllByRecursion (CanGo p) all → AllByRecursion (λ a. IsFalse (is_flip a.command)) all
  flip_by = each_by (λ a. IsFalse (is_flip a.command)) (λ a g. flips_not p.matrix (position a) a.command g.may)

-- ---- the tape afterwards

-- if matrix and harmonics stay, all stays held
pub held_as : (s t : State) → t.matrix ≡ s.matrix → t.harmonics ≡ s.harmonics → IsHeld s.harmonics s.matrix
    → IsHeld t.harmonics t.matrix
held_as s t em eh held = λ low. subst (λ (m : Matrix). FirstUngrounded m None) (sym em) (held (sym eh ∙ low))

-- under High nothing has to be grounded
pub held_under_high : (t : State) (h : Harmonics) → t.harmonics ≡ h → h ≡ High → IsHeld t.harmonics t.matrix
held_under_high t h e f = λ low. absurd (high_low (sym f ∙ (sym e ∙ low)))
  where
    high_low : High ≡ Low → ⊥
    high_low g = cc

pub stepped_is : (p q : TapeState) (k : List Command) (m : Matrix) (h : Harmonics) (bots : List Bot)
    → q ≡ tape_stepped p k → (after (state_of p) k).matrix ≡ m → (after (state_of p) k).harmonics ≡ h
    → (after (state_of p) k).bots ≡ bots → AllStep p q k m h bots
stepped_is p q k m h bots e em eh eb = record {
  source = ap (λ (x : TapeState). x.source) e;
  profile = ap (λ (x : TapeState). x.profile) e;
  added = ap (λ (x : TapeState). x.commands) e;
  matrix = ap (λ (x : TapeState). x.matrix) e ∙ em;
  harmonics = ap (λ (x : TapeState). x.harmonics) e ∙ eh;
  bots_are = ap (λ (x : TapeState). x.bots) e ∙ eb;
  energy = ap (λ (x : TapeState). x.energy) e;
  steps = ap (λ (x : TapeState). x.steps) e;
  bytes_are = bytes_stepped p q k e;
}

-- the effect of such a step, restated
pub step_as : (p q : TapeState) (k : List Command) (m n : Matrix) (h : Harmonics) (xs ys : List Bot) → m ≡ n → xs ≡ ys
    → AllStep p q k m h xs → AllStep p q k n h ys
step_as p q k m n h xs ys e f s = subst (λ (x : Matrix). AllStep p q k x h ys) e (subst (λ (bots : List Bot). AllStep p q k m h bots) f s)
