-- The first of the tallest columns is the one whose line the roof has.
use Rattle.std.proofs.Common.{◌≡◌, ℕ, suc, ◌+◌, ◌-◌, ◌<◌, ◌≤◌, refl, sym, ◌∙◌, ap, subst, inl, inr, ◌⊎◌, arith, Bool, true, false, cond, ◌==◌, List, [], ◌∷◌, ◌++◌, map}
use Rattle.std.specs.Prelude.{Some, flat_map, find, max, nat_lt, option_map, unwrap_or}
use Rattle.std.proofs.lemmas.Bool.{cases_order}
use Rattle.std.proofs.lemmas.Bool.Decides.{nat_tests}
use Rattle.vox_geom.specs.Space.{numbers_from}
use Rattle.nano_spec.specs.Forge.{Column, columns, greatest, column_height, line_of_tallest, tallest}
use Rattle.model_forge.specs.declared.tower.Tower.{Tower}
use Rattle.model_forge.specs.Tower.{columns_from, higher, highest, columns_of}

-- before any column
abbrev pub none : Tower
none = record { height = 0; z = 0 }

-- the columns of n x, from one on
abbrev pub walls_from : ℕ → ℕ → ℕ → List Column
walls_from r first count = flat_map (columns_of r) (numbers_from first count)

-- ---- one column after another

pub some_left : (a b : ℕ) → a < b → b - a ≡ suc (b - (a + 1))
some_left a b l = omega arith

pub highest-append : (number r : ℕ) (tower : Tower) (xs ys : List Column)
    → highest number r tower (xs ++ ys) ≡ highest number r (highest number r tower xs) ys
highest-append number r tower [] ys = refl
highest-append number r tower (k ∷ xs) ys = highest-append number r (higher tower (column_height number r k.x k.z) k.z) xs ys

-- one more column of a wall
pub column_more : (number r x z : ℕ) (tower new whole : Tower) → z < r - 1
    → highest number r tower (columns_from x z (r - 1 - z)) ≡ whole → new ≡ higher tower (column_height number r x z) z
    → highest number r new (columns_from x (z + 1) (r - 1 - (z + 1))) ≡ whole
column_more number r x z tower new whole l e en =
    ap (λ t. highest number r t (columns_from x (z + 1) (r - 1 - (z + 1)))) en
    ∙ (ap (λ n. highest number r tower (columns_from x z n)) (sym (some_left z (r - 1) l)) ∙ e)

-- one more wall
pub wall_more : (number r x : ℕ) (tower new whole : Tower) → x < r - 1
    → highest number r tower (walls_from r x (r - 1 - x)) ≡ whole → new ≡ highest number r tower (columns_of r x)
    → highest number r new (walls_from r (x + 1) (r - 1 - (x + 1))) ≡ whole
wall_more number r x tower new whole l e en =
    ap (λ t. highest number r t (walls_from r (x + 1) (r - 1 - (x + 1)))) en
    ∙ (sym (highest-append number r tower (columns_of r x) (walls_from r (x + 1) (r - 1 - (x + 1))))
    ∙ (ap (λ n. highest number r tower (walls_from r x n)) (sym (some_left x (r - 1) l)) ∙ e))

-- ---- the tallest of all

module _ (number r : ℕ) where
  abbrev of_column : Column → ℕ
  of_column k = column_height number r k.x k.z

  -- the line of the first column of a height
  abbrev line : ℕ → List Column → ℕ
  line t ks = unwrap_or (option_map (λ (k : Column). k.z) (find (λ k. of_column k == t) ks)) 0

  -- the tower among columns: its height is the greatest, and its line that of the first of this height
  record IsTallest (tower : Tower) (ks : List Column) (found : Tower) : Type 0 where
    height_is : found.height ≡ max tower.height (greatest (map of_column ks))
    kept : found.height ≡ tower.height → found.z ≡ tower.z
    newer : tower.height < found.height → found.z ≡ line found.height ks

  -- a column that is less high is skipped
  passed : (t : ℕ) (k : Column) (ks : List Column) → (of_column k ≡ t → ⊥) → line t (k ∷ ks) ≡ line t ks
  passed t k ks n = ap (λ b. unwrap_or (option_map (λ (j : Column). j.z) (cond b (Some k) (find (λ j. of_column j == t) ks))) 0) (other (of_column k) t n)
    where
      other : (a b : ℕ) → (a ≡ b → ⊥) → (a == b) ≡ false
      other a b m = grind (arith, nat_tests)

  met : (t : ℕ) (k : Column) (ks : List Column) → of_column k ≡ t → line t (k ∷ ks) ≡ k.z
  met t k ks e = ap (λ b. unwrap_or (option_map (λ (j : Column). j.z) (cond b (Some k) (find (λ j. of_column j == t) ks))) 0) (same (of_column k) t e)
    where
      same : (a b : ℕ) → a ≡ b → (a == b) ≡ true
      same a b m = grind (arith, nat_tests)

  less : (a b : ℕ) → nat_lt a b ≡ true → a < b
  less a b m = grind (arith, nat_tests)

  not_less : (a b : ℕ) → nat_lt a b ≡ false → b ≤ a
  not_less a b m = grind (arith, nat_tests)

  -- the first column is higher than the tower
  module _ (tower : Tower) (k : Column) (ks : List Column) (found : Tower) where
    new_tower : tower.height < of_column k → IsTallest (record { height = of_column k; z = k.z }) ks found
        → IsTallest tower (k ∷ ks) found
    new_tower l h = record {
      height_is = h.height_is ∙ omega arith;
      kept = λ g. absurd (omega (arith, h.height_is, g));
      newer = λ _. here (cases_order (of_column k) found.height);
    }
      where
        here : (of_column k ≡ found.height) ⊎ ((of_column k < found.height) ⊎ (found.height < of_column k))
            → found.z ≡ line found.height (k ∷ ks)
        here (inl g) = h.kept (sym g) ∙ sym (met found.height k ks g)
        here (inr (inl g)) = h.newer g ∙ sym (passed found.height k ks (λ m. absurd (omega (arith, m))))
        here (inr (inr g)) = absurd (omega (arith, h.height_is))

    same_tower : of_column k ≤ tower.height → IsTallest tower ks found → IsTallest tower (k ∷ ks) found
    same_tower l h = record {
      height_is = h.height_is ∙ omega arith;
      kept = h.kept;
      newer = λ g. h.newer g ∙ sym (passed found.height k ks (λ m. absurd (omega (arith, m, g))));
    }

  tallest_of : (tower : Tower) (ks : List Column) → IsTallest tower ks (highest number r tower ks)
  tallest_of tower [] = record { height_is = omega arith; kept = λ _. refl; newer = λ l. absurd (omega (arith, l)) }
  tallest_of tower (k ∷ ks) = by (nat_lt tower.height (of_column k)) refl (tallest_of (record { height = of_column k; z = k.z }) ks) (tallest_of tower ks)
    where
      by : (b : Bool) → nat_lt tower.height (of_column k) ≡ b → IsTallest (record { height = of_column k; z = k.z }) ks
          (highest number r (record { height = of_column k; z = k.z }) ks)
          → IsTallest tower ks (highest number r tower ks)
          → IsTallest tower (k ∷ ks) (highest number r (cond b (record { height = of_column k; z = k.z }) tower) ks)
      by true e new same = new_tower tower k ks _ (less tower.height (of_column k) e) new
      by false e new same = same_tower tower k ks _ (not_less tower.height (of_column k) e) same

  -- the tower that is found among all columns
  pub height_is : (found : Tower) → highest number r found [] ≡ highest number r none (columns r)
      → found.height ≡ tallest number r
  height_is found e = ap (λ (t : Tower). t.height) e ∙ ((tallest_of none (columns r)).height_is ∙ omega arith)

  pub line_is : (found : Tower) → highest number r found [] ≡ highest number r none (columns r) → 0 < found.height
      → found.z ≡ line_of_tallest number r
  line_is found e l =
      let is_tallest = tallest_of none (columns r) in
      let high : 0 < (highest number r none (columns r)).height = subst (λ (f : Tower). 0 < f.height) e l in
      ap (λ (f : Tower). f.z) e ∙ (is_tallest.newer high ∙ ap (λ n. line n (columns r)) (is_tallest.height_is ∙ omega arith))

-- ---- one column next to the tower

pub taller : (tower : Tower) (h z : ℕ) → tower.height < h → record { height = h; z = z } ≡ higher tower h z
taller tower h z l = ap (λ b. cond b (record { height = h; z = z }) tower) (sym (yes_lower tower.height h l))
  where
    yes_lower : (a b : ℕ) → a < b → nat_lt a b ≡ true
    yes_lower a b m = grind (arith, nat_tests)

pub not_taller : (tower : Tower) (h z : ℕ) → h ≤ tower.height → tower ≡ higher tower h z
not_taller tower h z l = ap (λ b. cond b (record { height = h; z = z }) tower) (sym (not_lower tower.height h l))
  where
    not_lower : (a b : ℕ) → b ≤ a → nat_lt a b ≡ false
    not_lower a b m = grind (arith, nat_tests)
