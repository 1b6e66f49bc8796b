-- Worked steps: eight bots void a block of 27 voxels, and a bot flips the harmonics.
use Rattle.std.specs.Prelude.{◌≡◌, ℕ, ℤ, pos, List, [], ◌∷◌, ◌&&◌, nat_le}
use Rattle.nano_spec.specs.declared.commands.Command.{Command}
use Rattle.nano_spec.specs.declared.commands.Command.TheVariants.{Flip, GVoid}
use Rattle.nano_spec.specs.declared.system.Bot.{Bot}
use Rattle.nano_spec.specs.declared.system.Harmonics.{Harmonics}
use Rattle.nano_spec.specs.declared.system.Harmonics.TheVariants.{Low, High}
use Rattle.nano_spec.specs.Act.{acts}
use Rattle.nano_spec.specs.Matrix.{Matrix, empty, matrix_where}
use Rattle.nano_spec.specs.Next.{Next, Goes}
use Rattle.nano_spec.specs.Profile.{full_profile}
use Rattle.nano_spec.specs.State.{State}
use Rattle.nano_spec.specs.Step.{after, harmonics_after}
use Rattle.nano_spec.specs.Worked.{diff, below_zero}
use Rattle.vox_geom.specs.Point.{coord}

-- the block from (1,0,1) to (3,2,3), at resolution 5
abbrev pub block : Matrix
block = matrix_where 5 (λ c. nat_le 1 c.x && nat_le c.x 3 && nat_le c.y 2 && nat_le 1 c.z && nat_le c.z 3)

-- a bot without seeds
abbrev pub bot : ℕ → ℕ → ℕ → ℕ → Bot
bot bid x y z = record { bid = bid; pos = coord x y z; seeds = 0 }

-- a bot next to each corner of the block
abbrev pub eight_bots : List Bot
eight_bots =
    bot 1 0 0 1 ∷ bot 2 4 0 1 ∷ bot 3 0 0 3 ∷ bot 4 4 0 3 ∷ bot 5 0 2 1 ∷ bot 6 4 2 1 ∷ bot 7 0 2 3 ∷ bot 8 4 2 3 ∷ []

-- each voids the whole block from its corner on
abbrev pub eight_commands : List Command
eight_commands =
    GVoid (diff (pos 1) (pos 0) (pos 0)) (diff (pos 2) (pos 2) (pos 2))
    ∷ GVoid (diff (below_zero 1) (pos 0) (pos 0)) (diff (below_zero 2) (pos 2) (pos 2))
    ∷ GVoid (diff (pos 1) (pos 0) (pos 0)) (diff (pos 2) (pos 2) (below_zero 2))
    ∷ GVoid (diff (below_zero 1) (pos 0) (pos 0)) (diff (below_zero 2) (pos 2) (below_zero 2))
    ∷ GVoid (diff (pos 1) (pos 0) (pos 0)) (diff (pos 2) (below_zero 2) (pos 2))
    ∷ GVoid (diff (below_zero 1) (pos 0) (pos 0)) (diff (below_zero 2) (below_zero 2) (pos 2))
    ∷ GVoid (diff (pos 1) (pos 0) (pos 0)) (diff (pos 2) (below_zero 2) (below_zero 2))
    ∷ GVoid (diff (below_zero 1) (pos 0) (pos 0)) (diff (below_zero 2) (below_zero 2) (below_zero 2)) ∷ []

-- the state with these voxels and this energy, and the eight bots
abbrev pub with_eight : Matrix → ℤ → State
with_eight m energy = record { matrix = m; harmonics = Low; bots = eight_bots; energy = energy; profile = full_profile }

-- the step costs 375 for the space, 160 for the bots, and -324 for the voxels
abbrev pub EightBotsVoidABlock : Type 0
EightBotsVoidABlock = Next (with_eight block (pos 0)) eight_commands 1 (Goes (with_eight (empty 5) (pos 211)))

-- the only bot at the origin, in an empty space of resolution 3
abbrev pub with_one : Harmonics → ℤ → State
with_one harmonics energy =
    record { matrix = empty 3; harmonics = harmonics; bots = bot 1 0 0 0 ∷ []; energy = energy; profile = full_profile }

-- a Flip pays 81 + 20 if it begins under Low, and 810 + 20 if it begins under High; three Flips are as one
pub record FlipsPayByTheirStart : Type 0 where
  pub from_low : after (with_one Low (pos 0)) (Flip ∷ []) ≡ with_one High (pos 101)
  pub from_high : after (with_one High (pos 0)) (Flip ∷ []) ≡ with_one Low (pos 830)
  pub three_flips :
      harmonics_after Low (acts (bot 1 0 0 0 ∷ bot 2 0 0 1 ∷ bot 3 0 0 2 ∷ []) (Flip ∷ Flip ∷ Flip ∷ [])) ≡ High
