-- Disjoint regions, and bots whose volatile regions are disjoint.
use Rattle.std.specs.Prelude.{ℤ, ◌<ℤ◌, ◌⊎◌, List, [], ◌∷◌, IsTrue}
use Rattle.std.specs.List.{AllByRecursion}
use Rattle.vox_geom.specs.Region.{Span}
use Rattle.nano_spec.specs.Act.{Act, position}
use Rattle.nano_spec.specs.Group.{are_partners}
use Rattle.nano_spec.specs.Volatile.{volatile_regions}

-- the first two numbers are less than the other two
pub record AreBelow (a b c d : ℤ) : Type 0 where
  pub near : a <ℤ c
  pub far : a <ℤ d
  pub next_near : b <ℤ c
  pub next_far : b <ℤ d

-- on some axis the one region ends before the other begins
pub data LieApart (s t : Span) : Type 0 where
  before_x : AreBelow s.from.x s.to.x t.from.x t.to.x → LieApart s t
  before_y : AreBelow s.from.y s.to.y t.from.y t.to.y → LieApart s t
  before_z : AreBelow s.from.z s.to.z t.from.z t.to.z → LieApart s t
  after_x : AreBelow t.from.x t.to.x s.from.x s.to.x → LieApart s t
  after_y : AreBelow t.from.y t.to.y s.from.y s.to.y → LieApart s t
  after_z : AreBelow t.from.z t.to.z s.from.z s.to.z → LieApart s t

-- each region that is volatile for the one bot is disjoint from each that is volatile for the other
abbrev pub AreApart : Act → Act → Type 0
AreApart a b =
    AllByRecursion (λ s. AllByRecursion (λ t. LieApart s t) (volatile_regions (position b) b.command))
    (volatile_regions (position a) a.command)

-- the two bots fuse, or have disjoint volatile regions
abbrev pub MayMeet : Act → Act → Type 0
MayMeet a b = IsTrue (are_partners a b) ⊎ AreApart a b

-- any two bots fuse, or have disjoint volatile regions
abbrev pub DoNotInterfere : List Act → Type 0
DoNotInterfere [] = Unit {0}
DoNotInterfere (a ∷ more) = AllByRecursion (λ b. MayMeet a b) more × DoNotInterfere more
