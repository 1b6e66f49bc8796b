-- Rows of values of a function.
use Rattle.std.proofs.Common.{◌≡◌, ℕ, zero, suc, ◌+◌, ◌<◌, ◌∷◌, refl, sym, ap, ◌∙◌, arith, length, get_or, set, replicate}
use Rattle.brick_arena.specs.Arena.{values}

module _ {X : Type 0} where
  pub length-row : (f : ℕ → X) (a n : ℕ) → length (values f a n) ≡ n
  unfolding values
  length-row f a zero = refl
  length-row f a (suc n) = ap suc (length-row f (suc a) n)

  pub get-row : (f : ℕ → X) (a n i : ℕ) (d : X) → i < n → get_or (values f a n) i d ≡ f (a + i)
  unfolding values
  get-row f a zero i d lt = absurd (omega arith)
  get-row f a (suc n) zero d lt = let a_is : a ≡ a + 0 = omega arith in ap f a_is
  get-row f a (suc n) (suc i) d lt = let sum_is : suc a + i ≡ a + suc i = omega arith in get-row f (suc a) n i d (omega arith) ∙ ap f sum_is

  pub row-same : (f g : ℕ → X) (a n : ℕ) → ((i : ℕ) → i < n → g (a + i) ≡ f (a + i)) → values g a n ≡ values f a n
  unfolding values
  row-same f g a zero h = refl
  row-same f g a (suc n) h =
      let sum_is : a + 0 ≡ a = omega arith in let here : g a ≡ f a = ap g (sym sum_is) ∙ h 0 (omega arith) ∙ ap f sum_is in
      ap (λ x. x ∷ values g (suc a) n) here ∙ ap (λ l. f a ∷ l) (row-same f g (suc a) n (λ i lt. let e' : suc a + i ≡ a + suc i = omega arith in ap g e' ∙ h (suc i) (omega arith) ∙ ap f (sym e')))

  pub row-set : (f g : ℕ → X) (a n i : ℕ) (w : X) → i < n → g (a + i) ≡ w
      → ((k : ℕ) → k < n → (k ≡ i → ⊥) → g (a + k) ≡ f (a + k)) → values g a n ≡ set (values f a n) i w
  unfolding values
  row-set f g a zero i w lt here h = absurd (omega arith)
  row-set f g a (suc n) zero w lt here h =
      let a_is : a ≡ a + 0 = omega arith in
      ap (λ x. x ∷ values g (suc a) n) (ap g a_is ∙ here) ∙ ap (λ l. w ∷ l) (row-same f g (suc a) n (λ i lt'. let e' : suc a + i ≡ a + suc i = omega arith in ap g e' ∙ h (suc i) (omega arith) (λ z. let z' : suc i ≡ 0 = z in absurd (omega arith)) ∙ ap f (sym e')))
  row-set f g a (suc n) (suc i) w lt here h =
      let sum_is : a + 0 ≡ a = omega arith in let first : g a ≡ f a = ap g (sym sum_is) ∙ h 0 (omega arith) (λ z. let z' : 0 ≡ suc i = z in absurd (omega arith)) ∙ ap f sum_is in
      let e₁ : suc a + i ≡ a + suc i = omega arith in
      ap (λ x. x ∷ values g (suc a) n) first ∙ ap (λ l. f a ∷ l) (row-set f g (suc a) n i w (omega arith) (ap g e₁ ∙ here)
      (λ k lt' ne. let e' : suc a + k ≡ a + suc k = omega arith in ap g e' ∙ h (suc k) (omega arith) (λ z. let z' : suc k ≡ suc i = z in ne (omega arith)) ∙ ap f (sym e')))

  pub row-const : (f : ℕ → X) (a n : ℕ) (x : X) → ((i : ℕ) → i < n → f (a + i) ≡ x) → values f a n ≡ replicate n x
  unfolding values
  row-const f a zero x h = refl
  row-const f a (suc n) x h =
      let a_is : a ≡ a + 0 = omega arith in
      ap (λ y. y ∷ values f (suc a) n) (ap f a_is ∙ h 0 (omega arith)) ∙ ap (λ l. x ∷ l) (row-const f (suc a) n x (λ i lt. let e' : suc a + i ≡ a + suc i = omega arith in ap f e' ∙ h (suc i) (omega arith)))
