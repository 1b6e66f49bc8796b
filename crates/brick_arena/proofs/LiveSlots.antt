-- The map of the live slots at each number, and the effect of a change at one number.
use Rattle.std.proofs.Common.{◌≡◌, ℕ, zero, suc, ◌+◌, ◌-◌, ◌<◌, ◌≤◌, Bool, true, false, cond, List, refl, sym, ap, ◌∙◌, arith, Some, None, is_some, inl, inr}
use Rattle.std.proofs.lemmas.Bool.{cases_lt, cases_eq, cases_Bool, eq-eqb, ne_eqb}
use Rattle.std.specs.Ordering.{nat_cmp}
use Rattle.std.specs.Cmp.{nat_cmp_total, unsigned_tied}
use Rattle.std.specs.FinMap.{get, insert, remove, len, get-empty, get-insert, get-remove, len-insert, len-remove, empty_of_len, same_map, nat_cmp-IsAntisymmetric}
use Rattle.brick_arena.specs.Arena.{is_listed, slot_words, live_slots}
use Rattle.brick_arena.specs.Slots.{Slots, IsLive}

module _ (v : Slots) (s : ℕ) where
  pub get-insert_here : (words : List ℕ) (q : ℕ) → q ≡ s → get (insert v s words) q ≡ Some words
  get-insert_here words q e = get-insert nat_cmp_total v s words q ∙ ap (λ b. cond b (Some words) (get v q)) (unsigned_tied q s ∙ eq-eqb q s e)

  pub get-insert_other : (words : List ℕ) (q : ℕ) → (q ≡ s → ⊥) → get (insert v s words) q ≡ get v q
  get-insert_other words q ne = get-insert nat_cmp_total v s words q ∙ ap (λ b. cond b (Some words) (get v q)) (unsigned_tied q s ∙ ne_eqb q s ne)

  -- a map that differs from v at s alone
  pub inserted : (w : Slots) (words : List ℕ) → get w s ≡ Some words → ((q : ℕ) → (q ≡ s → ⊥) → get w q ≡ get v q)
      → w ≡ insert v s words
  inserted w words here others = same_map nat_cmp_total nat_cmp-IsAntisymmetric w (insert v s words) (λ q. elim (cases_eq q s) [
    | inl e ↦ ap (get w) e ∙ here ∙ sym (get-insert_here words q e)
    | inr ne ↦ others q ne ∙ sym (get-insert_other words q ne)
  ])

  pub removed : (w : Slots) → get w s ≡ None → ((q : ℕ) → (q ≡ s → ⊥) → get w q ≡ get v q) → w ≡ remove v s
  removed w here others = same_map nat_cmp_total nat_cmp-IsAntisymmetric w (remove v s) (λ q. elim (cases_eq q s) [
    | inl e ↦ ap (get w) e ∙ here ∙ sym (get-remove nat_cmp_total v s q ∙ ap (λ b. cond b None (get v q)) (unsigned_tied q s ∙ eq-eqb q s e))
    | inr ne ↦ others q ne ∙ sym (get-remove nat_cmp_total v s q ∙ ap (λ b. cond b None (get v q)) (unsigned_tied q s ∙ ne_eqb q s ne))
  ])

  pub len_replaced : (words : List ℕ) → IsLive v s → len (insert v s words) ≡ len v
  len_replaced words live = len-insert nat_cmp_total v s words ∙ ap (λ b. cond b (len v) (len v + 1)) live

  pub len_added : (words : List ℕ) → get v s ≡ None → len (insert v s words) ≡ len v + 1
  len_added words fresh = len-insert nat_cmp_total v s words ∙ ap (λ o. cond (is_some o) (len v) (len v + 1)) fresh

  some_live : IsLive v s → 0 < len v
  some_live live = elim (cases_lt 0 (len v)) [
    | inl lt ↦ lt
    | inr none ↦
        let len_is : len v ≡ 0 = omega (arith, none) in
        let false_is_true : false ≡ true = sym (ap is_some (ap (λ w. get w s) (empty_of_len v len_is) ∙ get-empty nat_cmp s)) ∙ live in cc
  ]

  pub len_removed : IsLive v s → len (remove v s) + 1 ≡ len v
  len_removed live = let e = len-remove nat_cmp_total v s ∙ ap (λ b. cond b (len v - 1) (len v)) live in let lt = some_live live in omega (arith, e, lt)

step : (v : Slots) (n : ℕ) (words : List ℕ) (b : Bool) (q : ℕ) → (q ≡ n → ⊥)
    → get (cond b v (insert v n words)) q ≡ get v q
step v n words true q ne = refl
step v n words false q ne = get-insert_other v n words q ne

module _ (m : ℕ → ℕ) (fs : List ℕ) where
  pub get_past : (n q : ℕ) → n ≤ q → get (live_slots m fs n) q ≡ None
  unfolding live_slots
  get_past zero q le = get-empty nat_cmp q
  get_past (suc n) q le = step (live_slots m fs n) n (slot_words m n) (is_listed n fs) q (λ e. absurd (omega (arith, e, le))) ∙ get_past n q (omega (arith, le))

  pub get_vacant : (n q : ℕ) → is_listed q fs ≡ true → get (live_slots m fs n) q ≡ None
  unfolding live_slots
  get_vacant zero q held = get-empty nat_cmp q
  get_vacant (suc n) q held =
      let live_ones = live_slots m fs n in
      elim (cases_eq q n) [
        | inl e ↦ ap (λ b. get (cond b live_ones (insert live_ones n (slot_words m n))) q) (ap (λ k. is_listed k fs) (sym e) ∙ held) ∙ get_vacant n q held
        | inr ne ↦ step live_ones n (slot_words m n) (is_listed n fs) q ne ∙ get_vacant n q held
      ]

  pub get_live : (n q : ℕ) → q < n → is_listed q fs ≡ false → get (live_slots m fs n) q ≡ Some (slot_words m q)
  unfolding live_slots
  get_live zero q lt unheld = absurd (omega (arith, lt))
  get_live (suc n) q lt unheld =
      let live_ones = live_slots m fs n in
      elim (cases_eq q n) [
        | inl e ↦ ap (λ b. get (cond b live_ones (insert live_ones n (slot_words m n))) q) (ap (λ k. is_listed k fs) (sym e) ∙ unheld) ∙ get-insert_here live_ones n (slot_words m n) q e ∙ ap (λ k. Some (slot_words m k)) (sym e)
        | inr ne ↦ step live_ones n (slot_words m n) (is_listed n fs) q ne ∙ get_live n q (omega (arith, lt, ne)) unheld
      ]

  pub live_inside : (n q : ℕ) → IsLive (live_slots m fs n) q → (q < n) × (is_listed q fs ≡ false)
  live_inside n q live = elim (cases_lt q n) [
    | inr past ↦ let false_is_true : false ≡ true = sym (ap is_some (get_past n q past)) ∙ live in cc
    | inl lt ↦ elim (cases_Bool (is_listed q fs)) [
      | inl held ↦ let false_is_true : false ≡ true = sym (ap is_some (get_vacant n q held)) ∙ live in cc
      | inr unheld ↦ (lt, unheld)
    ]
  ]

-- at a number whose slot does not change
pub same_slot : (m m' : ℕ → ℕ) (fs fs' : List ℕ) (n n' q : ℕ) → (q < n' → q < n) → (q < n → q < n')
    → is_listed q fs' ≡ is_listed q fs → (q < n → slot_words m' q ≡ slot_words m q)
    → get (live_slots m' fs' n') q ≡ get (live_slots m fs n) q
same_slot m m' fs fs' n n' q in_old in_new among words = elim (cases_lt q n) [
  | inr past ↦ get_past m' fs' n' q (elim (cases_lt q n') [ inl lt ↦ absurd (let lt' = in_old lt in omega (arith, lt', past)) | inr ge ↦ ge ]) ∙ sym (get_past m fs n q past)
  | inl lt ↦ elim (cases_Bool (is_listed q fs)) [
    | inl held ↦ get_vacant m' fs' n' q (among ∙ held) ∙ sym (get_vacant m fs n q held)
    | inr unheld ↦ get_live m' fs' n' q (in_new lt) (among ∙ unheld) ∙ ap Some (words lt) ∙ sym (get_live m fs n q lt unheld)
  ]
]
