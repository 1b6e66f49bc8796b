-- Bots whose volatile regions are in columns of their own.
use Rattle.std.proofs.Common.{ℕ, ◌+◌, ◌<◌, ◌≤◌, inl, inr, arith, List, [], ◌∷◌}
use Rattle.std.specs.Prelude.{pos, ◌≤ℤ◌, IsTrue}
use Rattle.std.specs.List.{AllByRecursion}
use Rattle.std.proofs.lemmas.Int.{ints}
use Rattle.vox_geom.specs.Region.{Span}
use Rattle.nano_spec.specs.Act.{Act, position}
use Rattle.nano_spec.specs.Group.{are_partners}
use Rattle.nano_spec.specs.Volatile.{volatile_regions}
use Rattle.step_order.specs.Apart.{AreApart, DoNotInterfere, LieApart, MayMeet}

-- the region is in columns from one to another
pub record IsInColumns (low high : ℕ) (s : Span) : Type 0 where
  pub from_low : pos low ≤ℤ s.from.x
  pub from_high : s.from.x ≤ℤ pos high
  pub to_low : pos low ≤ℤ s.to.x
  pub to_high : s.to.x ≤ℤ pos high

-- so does each that is volatile for the bot
abbrev pub IsFenced : ℕ → ℕ → Act → Type 0
IsFenced low high a = AllByRecursion (IsInColumns low high) (volatile_regions (position a) a.command)

-- this holds for all bots, each in columns past those of the bots before it, except for two at the end, which fuse
pub data AreFenced : ℕ → List Act → Type 0 where
  none : {low : ℕ} → AreFenced low []
  one : {low : ℕ} {a : Act} {more : List Act} (high : ℕ) → low ≤ high → IsFenced low high a → AreFenced (high + 1) more
      → AreFenced low (a ∷ more)
  two : {low : ℕ} {a b : Act} (high : ℕ) → IsFenced low high a → IsFenced low high b → IsTrue (are_partners a b)
      → AreFenced low (a ∷ b ∷ [])

all_map : {X : Type 0} (P Q : X → Type 0) → ((x : X) → P x → Q x) → (xs : List X) → AllByRecursion P xs
    → AllByRecursion Q xs
all_map P Q f [] h = tt
all_map P Q f (x ∷ xs) h = (f x h.0, all_map P Q f xs h.1)

apart : (low high next end : ℕ) (s t : Span) → high < next → IsInColumns low high s → IsInColumns next end t
    → LieApart s t
apart low high next end s t l h k =
    let from_high = h.from_high in
    let to_high = h.to_high in
    let from_low = k.from_low in
    let to_low = k.to_low in
    LieApart.before_x (record { near = omega (arith, ints); far = omega (arith, ints); next_near = omega (arith, ints); next_far = omega (arith, ints) })

fenced_apart : (low high next end : ℕ) (a b : Act) → high < next → IsFenced low high a → IsFenced next end b
    → AreApart a b
fenced_apart low high next end a b l h k =
    all_map (IsInColumns low high) (λ s. AllByRecursion (λ t. LieApart s t) (volatile_regions (position b) b.command))
    (λ s i. all_map (IsInColumns next end) (λ t. LieApart s t) (λ t j. apart low high next end s t l i j) (volatile_regions (position b) b.command) k)
    (volatile_regions (position a) a.command) h

past : (low high : ℕ) (a : Act) → IsFenced low high a → {next : ℕ} {more : List Act} → high < next → AreFenced next more
    → AllByRecursion (λ b. MayMeet a b) more
past low high a h l none = tt
past low high a h {next} l (one {a = b} end up k rest) = (inr (fenced_apart low high next end a b l h k), past low high a h (omega arith) rest)
past low high a h {next} l (two {a = b} {b = c} end k m p) = (inr (fenced_apart low high next end a b l h k), (inr (fenced_apart low high next end a c l h m), tt))

pub untangled : {low : ℕ} {all : List Act} → AreFenced low all → DoNotInterfere all
untangled none = tt
untangled {low} (one {a = a} high up k rest) = (past low high a k (omega arith) rest, untangled rest)
untangled (two high k m p) = ((inl p, tt), (tt, tt))
