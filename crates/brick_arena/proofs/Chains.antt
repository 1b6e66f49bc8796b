-- The chain of vacant slots, as words change.
use Rattle.std.proofs.Common.{◌≡◌, ◌⊎◌, ℕ, zero, suc, ◌+◌, ◌-◌, ◌*◌, ◌<◌, true, false, List, ◌∷◌, refl, sym, ap, ◌∙◌, arith}
use Rattle.brick_arena.specs.Arena.{is_listed, chain}

pub among-first : (s : ℕ) (ts : List ℕ) → is_listed s (s ∷ ts) ≡ true
among-first s ts = grind arith

pub among-rest : (t s : ℕ) (ts : List ℕ) → is_listed t ts ≡ true → is_listed t (s ∷ ts) ≡ true
among-rest t s ts e = grind arith

pub among-beside : (t s : ℕ) (ts : List ℕ) → (t ≡ s → ⊥) → is_listed t (s ∷ ts) ≡ is_listed t ts
among-beside t s ts ne = grind arith

pub among-cases : (t s : ℕ) (ts : List ℕ) → is_listed t (s ∷ ts) ≡ true → (t ≡ s) ⊎ (is_listed t ts ≡ true)
among-cases t s ts e = grind arith

-- a listed slot differs from one that is not
pub apart : (s t : ℕ) (ts : List ℕ) → is_listed s ts ≡ false → is_listed t ts ≡ true → t ≡ s → ⊥
apart s t ts unheld held e = let true_is_false : true ≡ false = sym held ∙ ap (λ k. is_listed k ts) e ∙ unheld in cc

pub chain-same : (m m' : ℕ → ℕ) (s n : ℕ) → ((t : ℕ) → is_listed t (chain m s n) ≡ true → m' (512 * t) ≡ m (512 * t))
    → chain m' s n ≡ chain m s n
unfolding chain
chain-same m m' s zero h = refl
chain-same m m' s (suc n) h =
    ap (λ l. s ∷ l) (ap (λ k. chain m' k n) (h s (among-first s (chain m (m (512 * s)) n))) ∙ chain-same m m' (m (512 * s)) n (λ t held. h t (among-rest t s (chain m (m (512 * s)) n) held)))

-- only the slot s changes, and it is not in the chain
pub chain-stays : (m m' : ℕ → ℕ) (s f n : ℕ) → ((t : ℕ) → (t ≡ s → ⊥) → m' (512 * t) ≡ m (512 * t))
    → is_listed s (chain m f n) ≡ false → chain m' f n ≡ chain m f n
chain-stays m m' s f n others free_of = chain-same m m' f n (λ t held. others t (apart s t (chain m f n) free_of held))

pub chain-opens : (m : ℕ → ℕ) (s n : ℕ) → 0 < n → chain m s n ≡ s ∷ chain m (m (512 * s)) (n - 1)
unfolding chain
chain-opens m s zero lt = absurd (omega arith)
chain-opens m s (suc n) lt = let n_is : n ≡ suc n - 1 = omega arith in ap (λ k. s ∷ chain m (m (512 * s)) k) n_is

pub chain-adds : (m : ℕ → ℕ) (s n : ℕ) → chain m s (n + 1) ≡ s ∷ chain m (m (512 * s)) n
unfolding chain
chain-adds m s n = let sum_is : n + 1 ≡ suc n = omega arith in ap (λ k. chain m s k) sum_is
