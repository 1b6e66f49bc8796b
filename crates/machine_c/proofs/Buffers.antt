-- Buffers that are written from the front on.
use Rattle.std.proofs.Common.{◌≡◌, ℕ, zero, suc, ◌+◌, ◌<◌, ◌≤◌, refl, ap, arith, List, [], ◌∷◌, ◌++◌, length, map, take, drop, set, get_or, ◌∙◌}

-- the first n elements are written, and the others are as they were
abbrev pub written_to : {X Y : Type 0} → (X → Y) → List X → List Y → ℕ → List Y
written_to f xs ys n = map f (take n xs) ++ drop n ys

write_one : {X Y : Type 0} (f : X → Y) (d : X) (xs : List X) (ys : List Y) (i : ℕ) → i < length xs
    → length xs ≤ length ys → set (written_to f xs ys i) i (f (get_or xs i d)) ≡ written_to f xs ys (suc i)
write_one f d [] ys i h l = absurd (no_less i h)
  where
    no_less : (i : ℕ) → i < 0 → ⊥
    no_less i h = omega (arith, h)
write_one f d (x ∷ xs) [] i h l = absurd (no_less l)
  where
    no_less : length (x ∷ xs) ≤ 0 → ⊥
    no_less l = omega (arith, l)
write_one f d (x ∷ xs) (y ∷ ys) zero h l = refl
write_one {X} {Y} f d (x ∷ xs) (y ∷ ys) (suc i) h l = ap (λ (zs : List Y). f x ∷ zs) (write_one f d xs ys i (omega (arith, h)) (omega (arith, l)))

pub write_next : {X Y : Type 0} (f : X → Y) (d : X) (xs : List X) (ys : List Y) (i : ℕ) → i < length xs
    → length xs ≤ length ys → set (written_to f xs ys i) i (f (get_or xs i d)) ≡ written_to f xs ys (i + 1)
write_next {X} {Y} f d xs ys i h l =
    let same : suc i ≡ i + 1 = omega arith in
    write_one f d xs ys i h l ∙ ap (written_to f xs ys) same
