-- The conditions under which a step of a single bot breaks no rule, by command.
use Rattle.std.proofs.Common.{◌≡◌, ℕ, refl, ap, [], ◌∷◌, Bool, true, false, cond}
use Rattle.std.specs.Prelude.{ℤ, None}
use Rattle.vox_geom.specs.declared.difference.Diff.{Diff}
use Rattle.vox_geom.specs.Point.{point, plus, same_point}
use Rattle.vox_geom.specs.Region.{between, is_within}
use Rattle.vox_geom.specs.Space.{in_space}
use Rattle.vox_geom.proofs.Truths.{and_false}
use Rattle.nano_spec.specs.declared.commands.Command.{Command}
use Rattle.nano_spec.specs.declared.commands.Command.TheVariants.{Halt, Flip, SMove, Fill, Void}
use Rattle.nano_spec.specs.declared.outcomes.Rule.{Rule}
use Rattle.nano_spec.specs.declared.outcomes.Rule.TheVariants.{Forbidden, HaltOrigin, HaltLow, OutOfSpace, Blocked}
use Rattle.nano_spec.specs.declared.system.Bot.{Bot}
use Rattle.nano_spec.specs.declared.system.Harmonics.{Harmonics}
use Rattle.nano_spec.specs.declared.system.Harmonics.TheVariants.{Low}
use Rattle.nano_spec.specs.declared.system.Profile.{Profile}
use Rattle.nano_spec.specs.Act.{Act}
use Rattle.nano_spec.specs.First.{first_value}
use Rattle.nano_spec.specs.Group.{is_leader}
use Rattle.nano_spec.specs.Matrix.{Matrix, is_full, all_of}
use Rattle.nano_spec.specs.Profile.{is_allowed}
use Rattle.nano_spec.specs.Rules.{broken, fault, judge_pairs}
use Rattle.nano_spec.specs.State.{State, origin}
use Rattle.step_order.proofs.Lists.{none_find}
use Rattle.step_order.specs.Unbroken.{IsVoid}
use Rattle.step_order.proofs.Faultless.{one_way}

-- a single bot and its command
abbrev pub lone : Bot → Command → Act
lone b k = record { bot = b; command = k }

-- a state with one bot
abbrev pub with_one : Matrix → Harmonics → Bot → ℤ → Profile → State
with_one m h b e profile = record { matrix = m; harmonics = h; bots = b ∷ []; energy = e; profile = profile }

-- with this command the bot breaks no rule that is judged bot by bot
abbrev pub BreaksNoBotRule : Matrix → Harmonics → Bot → ℤ → Profile → Command → Type 0
BreaksNoBotRule m h b e profile k = (rule : Rule) → fault (with_one m h b e profile) (lone b k ∷ []) (lone b k) rule ≡ None

no_pairs : (m : Matrix) (a : Act) (step : ℕ) (leads : Bool) → judge_pairs m (a ∷ []) step (cond leads (a ∷ []) []) ≡ []
no_pairs m a step true = refl
no_pairs m a step false = refl

-- if so, the step breaks no rule that is judged at its start
pub unbroken : (m : Matrix) (h : Harmonics) (b : Bot) (e : ℤ) (profile : Profile) (k : Command) (step : ℕ)
    → BreaksNoBotRule m h b e profile k → broken (with_one m h b e profile) (k ∷ []) step ≡ None
unbroken m h b e profile k step f = simp f (ap first_value (no_pairs m (lone b k) step (is_leader (lone b k ∷ []) (lone b k))))

module _ (m : Matrix) (h : Harmonics) (b : Bot) (e : ℤ) (profile : Profile) where
  pub flip_faults : is_allowed profile Flip ≡ true → BreaksNoBotRule m h b e profile Flip
  flip_faults a Forbidden = rw a refl
  flip_faults a Blocked = none_find _ (all_of m) (λ c i. and_false (is_full m c))
  flip_faults a _ = refl

  pub fill_faults : (d : Diff) → is_allowed profile (Fill d) ≡ true
      → in_space m.resolution (plus (point b.pos) d) ≡ true → BreaksNoBotRule m h b e profile (Fill d)
  fill_faults d a i Forbidden = rw a refl
  fill_faults d a i OutOfSpace = rw i refl
  fill_faults d a i Blocked = none_find _ (all_of m) (λ c i. and_false (is_full m c))
  fill_faults d a i _ = refl

  pub void_faults : (d : Diff) → is_allowed profile (Void d) ≡ true
      → in_space m.resolution (plus (point b.pos) d) ≡ true → BreaksNoBotRule m h b e profile (Void d)
  void_faults d a i Forbidden = rw a refl
  void_faults d a i OutOfSpace = rw i refl
  void_faults d a i Blocked = none_find _ (all_of m) (λ c i. and_false (is_full m c))
  void_faults d a i _ = refl

  pub move_faults : (d : Diff) → is_allowed profile (SMove d) ≡ true
      → in_space m.resolution (plus (point b.pos) d) ≡ true → IsVoid m (between (point b.pos) (plus (point b.pos) d))
      → BreaksNoBotRule m h b e profile (SMove d)
  move_faults d a i v Forbidden = rw a refl
  move_faults d a i v OutOfSpace = rw i refl
  move_faults d a i v Blocked = none_find _ (all_of m) (λ c j. one_way (is_within (between (point b.pos) (plus (point b.pos) d)) (point c)) (is_full m c) (v c))
  move_faults d a i v _ = refl

  pub halt_faults : is_allowed profile Halt ≡ true → same_point (point b.pos) (point origin) ≡ true → h ≡ Low
      → BreaksNoBotRule m h b e profile Halt
  halt_faults a o l Forbidden = rw a refl
  halt_faults a o l HaltOrigin = rw o refl
  halt_faults a o l HaltLow = rw l refl
  halt_faults a o l Blocked = none_find _ (all_of m) (λ c i. and_false (is_full m c))
  halt_faults a o l _ = refl
