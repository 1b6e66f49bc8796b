-- The effects of writes into a live slot.
use Rattle.std.proofs.Common.{◌≡◌, ℕ, zero, suc, ◌+◌, ◌-◌, ◌*◌, ◌%◌, ◌<◌, ◌≤◌, ◌⊎◌, inl, inr, true, false, List, [], length, length-set, get_or, refl, sym, ap, ◌∙◌, subst, arith, Option, Some, None, is_some, unwrap_or, set}
use Rattle.std.proofs.lemmas.Bool.{cases_lt, cases_eq}
use Rattle.std.proofs.lemmas.List.{ext_get_or, get_or-set_same, get_or-set_other}
use Rattle.std.specs.FinMap.{get, insert, len}
use Rattle.brick_arena.specs.Arena.{is_listed, AreDistinct, chain, slot_words, live_slots, view_of, IsArena}
use Rattle.brick_arena.specs.Chunks.{chunk_word, AreChunks, IsRowStored, IsStored}
use Rattle.brick_arena.specs.Slots.{Slots, IsLive, swapped, with_row, words_of}
use Rattle.brick_arena.proofs.Chains.{chain-stays}
use Rattle.brick_arena.proofs.LiveSlots.{get-insert_here, get-insert_other, get_live, inserted, len_replaced, same_slot}
use Rattle.brick_arena.proofs.SlotWords.{length_slot, row_ends, slot_same, slot_set, swapped_apart, swapped_row, swapped_twice, word_in_slot}
use Rattle.brick_arena.proofs.Standing.{words-live}

-- ---- the words of one slot become others

-- the offset is of another slot
abbrev pub IsElsewhere : ℕ → ℕ → Type 0
IsElsewhere s q = (q < 512 * s) ⊎ (512 * s + 512 ≤ q)

elsewhere : (s t k : ℕ) → (t ≡ s → ⊥) → k < 512 → IsElsewhere s (512 * t + k)
elsewhere s t k ne l = elim (cases_lt t s) [ inl b ↦ inl (omega arith) | inr b ↦ inr (let below_t : s < t = elim (cases_lt s t) [ inl d ↦ d | inr d ↦ absurd (ne (omega arith)) ] in omega arith) ]

module _ (cs ds : List (List ℕ)) (free vacant reached s : ℕ) (ws : List ℕ) (old : IsArena cs free vacant reached) (same_length : length ds ≡ length cs) (chunks : AreChunks ds)
    (here : slot_words (chunk_word ds) s ≡ ws) (others : (q : ℕ) → IsElsewhere s q → chunk_word ds q ≡ chunk_word cs q)
    (lt : s < reached) (live : is_listed s (chain (chunk_word cs) free vacant) ≡ false) where
  abbrev m : ℕ → ℕ
  m = chunk_word cs

  abbrev m' : ℕ → ℕ
  m' = chunk_word ds

  abbrev fs : List ℕ
  fs = chain m free vacant

  abbrev v : Slots
  v = view_of cs free vacant reached

  kept_words : (t : ℕ) → (t ≡ s → ⊥) → slot_words m' t ≡ slot_words m t
  kept_words t ne = slot_same m m' t (λ p lk. others (512 * t + p) (elsewhere s t p ne lk))

  first_stays : (t : ℕ) → (t ≡ s → ⊥) → m' (512 * t) ≡ m (512 * t)
  first_stays t ne = let product_is : 512 * t ≡ 512 * t + 0 = omega arith in ap m' product_is ∙ (others (512 * t + 0) (elsewhere s t 0 ne (omega arith)) ∙ ap m (sym product_is))

  kept_links : chain m' free vacant ≡ fs
  kept_links = chain-stays m m' s free vacant first_stays live

  view_changed : view_of ds free vacant reached ≡ insert v s ws
  view_changed =
      ap (λ l. live_slots m' l reached) kept_links
      ∙ inserted v s (live_slots m' fs reached) ws (get_live m' fs reached s lt live ∙ ap Some here)
      (λ q ne. same_slot m m' fs fs reached reached q (λ l. l) (λ l. l) refl (λ _. kept_words q ne))

  same_count : len (view_of ds free vacant reached) ≡ len v
  same_count = ap len view_changed ∙ len_replaced v s ws (ap is_some (get_live m fs reached s lt live))

  arena_changed : IsArena ds free vacant reached
  arena_changed = record {
    chunks = chunks;
    room = subst (λ n. reached ≤ 64 * n) (sym same_length) old.room;
    limit = old.limit;
    below = subst (λ l. (t : ℕ) → is_listed t l ≡ true → t < reached) (sym kept_links) old.below;
    distinct = subst AreDistinct (sym kept_links) old.distinct;
    blank = λ q past. others q (inr (omega (arith, past, lt))) ∙ old.blank q past;
    count = omega (arith, old.count, same_count);
  }

-- ---- one word

module _ (cs ds : List (List ℕ)) (free vacant reached s place w p : ℕ) (old : IsArena cs free vacant reached) (stored : IsStored cs ds p w) (at : p ≡ s * 512 + place) (li : place < 512)
    (lt : s < reached) (live : is_listed s (chain (chunk_word cs) free vacant) ≡ false) where
  others : (q : ℕ) → (q ≡ 512 * s + place → ⊥) → chunk_word ds q ≡ chunk_word cs q
  others q ne = stored.others q (λ e. ne (omega (arith, e, at)))

  word_here : chunk_word ds (512 * s + place) ≡ w
  word_here = let sum_is : 512 * s + place ≡ p = omega (arith, at) in ap (chunk_word ds) sum_is ∙ stored.here

  words_set : slot_words (chunk_word ds) s ≡ set (words_of (view_of cs free vacant reached) s) (swapped place) w
  words_set =
      slot_set (chunk_word cs) (chunk_word ds) s place w li word_here (λ k lk ne. others (512 * s + k) (λ e. ne (omega (arith, e))))
      ∙ ap (λ ws. set ws (swapped place) w) (sym (words-live cs free vacant reached old s lt live))

  apart : (q : ℕ) → IsElsewhere s q → chunk_word ds q ≡ chunk_word cs q
  apart q (inl b) = others q (λ e. absurd (omega arith))
  apart q (inr b) = others q (λ e. absurd (omega arith))

  pub words_stay : (t : ℕ) → (t ≡ s → ⊥) → slot_words (chunk_word ds) t ≡ slot_words (chunk_word cs) t
  words_stay = kept_words cs ds free vacant reached s _ old stored.same_length stored.chunks words_set apart lt live

  pub links : chain (chunk_word ds) free vacant ≡ chain (chunk_word cs) free vacant
  links = kept_links cs ds free vacant reached s _ old stored.same_length stored.chunks words_set apart lt live

  -- no word past the reached slots changes
  pub past_stay : (q : ℕ) → 512 * reached ≤ q → chunk_word ds q ≡ chunk_word cs q
  past_stay q past = apart q (inr (omega (arith, past, lt)))

  pub view_written : view_of ds free vacant reached
      ≡ insert (view_of cs free vacant reached) s
      (set (words_of (view_of cs free vacant reached) s) (swapped place) w)
  view_written = view_changed cs ds free vacant reached s _ old stored.same_length stored.chunks words_set apart lt live

  pub arena_written : IsArena ds free vacant reached
  arena_written = arena_changed cs ds free vacant reached s _ old stored.same_length stored.chunks words_set apart lt live

-- ---- a word at several offsets

-- the words with one word at n indices from one on
abbrev pub with_words : List ℕ → ℕ → ℕ → ℕ → List ℕ
with_words ws i zero w = ws
with_words ws i (suc n) w = set (with_words ws i n w) (i + n) w

length-with_words : (ws : List ℕ) (i n w : ℕ) → length (with_words ws i n w) ≡ length ws
length-with_words ws i zero w = refl
length-with_words ws i (suc n) w = length-set (with_words ws i n w) (i + n) w ∙ length-with_words ws i n w

inside : (ws : List ℕ) (i n w k : ℕ) → i ≤ k → k < i + n → i + n ≤ length ws → get_or (with_words ws i n w) k 0 ≡ w
inside ws i zero w k f t l = absurd (omega arith)
inside ws i (suc n) w k f t l = elim (cases_eq k (i + n)) [
  | inl e ↦ ap (λ j. get_or (set (with_words ws i n w) (i + n) w) j 0) e ∙ get_or-set_same (with_words ws i n w) (i + n) w 0 (let long = length-with_words ws i n w in omega arith)
  | inr e ↦ get_or-set_other (with_words ws i n w) (i + n) k w 0 e ∙ inside ws i n w k f (grind arith) (omega arith)
]

outside : (ws : List ℕ) (i n w k : ℕ) → ((j : ℕ) → j < n → k ≡ i + j → ⊥)
    → get_or (with_words ws i n w) k 0 ≡ get_or ws k 0
outside ws i zero w k o = refl
outside ws i (suc n) w k o = get_or-set_other (with_words ws i n w) (i + n) k w 0 (o n (omega arith)) ∙ outside ws i n w k (λ j l. o j (omega arith))

the_words : (v : Slots) (s : ℕ) → IsLive v s → get v s ≡ Some (words_of v s)
the_words v s live = by (get v s) live
  where
    by : (o : Option (List ℕ)) → is_some o ≡ true → o ≡ Some (unwrap_or o [])
    by (Some ws) e = refl
    by None e = cc

pub row_inserted : (v : Slots) (s i n w : ℕ) → IsLive v s
    → with_row v s i n w ≡ insert v s (with_words (words_of v s) i n w)
unfolding with_row
row_inserted v s i zero w live = inserted v s v (words_of v s) (the_words v s live) (λ q ne. refl)
row_inserted v s i (suc n) w live =
    let ws = with_words (words_of v s) i n w in
    let with_row_is : with_row v s i n w ≡ insert v s ws = row_inserted v s i n w live in
    let words_is : words_of (with_row v s i n w) s ≡ ws = ap (λ u. words_of u s) with_row_is ∙ ap (λ o. unwrap_or o []) (get-insert_here v s ws s refl) in
    ap (λ u. insert u s (set (words_of (with_row v s i n w) s) (i + n) w)) with_row_is
    ∙ (ap (λ us. insert (insert v s ws) s (set us (i + n) w)) words_is
    ∙ inserted v s (insert (insert v s ws) s (set ws (i + n) w)) (set ws (i + n) w) (get-insert_here (insert v s ws) s (set ws (i + n) w) s refl)
    (λ q ne. get-insert_other (insert v s ws) s (set ws (i + n) w) q ne ∙ get-insert_other v s ws q ne))

-- the last of the written words is there
pub row_last : (v : Slots) (s i k w : ℕ) → IsLive v s → length (words_of v s) ≡ 512 → i + k < 512
    → get_or (words_of (with_row v s i (k + 1) w) s) (i + k) 0 ≡ w
row_last v s i k w live long l =
    let ws = with_words (words_of v s) i (k + 1) w in
    ap (λ u. get_or (words_of u s) (i + k) 0) (row_inserted v s i (k + 1) w live)
    ∙ (ap (λ o. get_or (unwrap_or o []) (i + k) 0) (get-insert_here v s ws s refl) ∙ inside (words_of v s) i (k + 1) w (i + k) (omega arith) (omega arith) (omega arith))

module _ (cs ds : List (List ℕ)) (free vacant reached s place w p : ℕ) (old : IsArena cs free vacant reached) (stored : IsRowStored cs ds p w) (at : p ≡ s * 512 + place) (li : place < 512)
    (whole : place % 8 ≡ 0) (lt : s < reached) (live : is_listed s (chain (chunk_word cs) free vacant) ≡ false) where
  -- the index of the first
  abbrev i : ℕ
  i = swapped place

  row_here : (k : ℕ) → k < 8 → chunk_word ds (512 * s + (place + k)) ≡ w
  row_here k l = let sum_is : 512 * s + (place + k) ≡ p + k = omega (arith, at) in ap (chunk_word ds) sum_is ∙ stored.here k l

  row_others : (q : ℕ) → ((k : ℕ) → k < 8 → q ≡ 512 * s + (place + k) → ⊥) → chunk_word ds q ≡ chunk_word cs q
  row_others q ne = stored.others q (λ k l e. ne k l (omega (arith, e, at)))

  -- a word at another index stays
  kept_there : (k : ℕ) → k < 512 → ((j : ℕ) → j < 8 → k ≡ i + j → ⊥)
      → chunk_word ds (512 * s + swapped k) ≡ chunk_word cs (512 * s + swapped k)
  kept_there k b o = row_others (512 * s + swapped k) (λ j l e. o j l (swapped_apart (place + j) k b (omega (arith, e)) ∙ swapped_row place j whole l))

  row_set : slot_words (chunk_word ds) s ≡ with_words (slot_words (chunk_word cs) s) i 8 w
  row_set =
      let ws = slot_words (chunk_word cs) s in
      let long : length ws ≡ 512 = length_slot (chunk_word cs) s in
      let long' : length (slot_words (chunk_word ds) s) ≡ 512 = length_slot (chunk_word ds) s in
      ext_get_or 0 (slot_words (chunk_word ds) s) (with_words ws i 8 w) (long' ∙ sym (length-with_words ws i 8 w ∙ long))
      (λ k l. let k_below_512 : k < 512 = omega arith in word_in_slot (chunk_word ds) s k k_below_512 ∙ each k k_below_512 (cases_lt k i) (cases_lt k (i + 8)))
    where
      each : (k : ℕ) → k < 512 → (k < i) ⊎ (i ≤ k) → (k < i + 8) ⊎ (i + 8 ≤ k)
          → chunk_word ds (512 * s + swapped k) ≡ get_or (with_words (slot_words (chunk_word cs) s) i 8 w) k 0
      each k b (inl f) o = kept_there k b (λ j l e. absurd (omega arith)) ∙ sym (outside (slot_words (chunk_word cs) s) i 8 w k (λ j l e. absurd (omega arith)) ∙ word_in_slot (chunk_word cs) s k b)
      each k b (inr f) (inr o) = kept_there k b (λ j l e. absurd (omega arith)) ∙ sym (outside (slot_words (chunk_word cs) s) i 8 w k (λ j l e. absurd (omega arith)) ∙ word_in_slot (chunk_word cs) s k b)
      each k b (inr f) (inl o) =
          let there : swapped k ≡ place + (k - i) = ap swapped (let sum_is : k ≡ i + (k - i) = omega arith in sum_is ∙ sym (swapped_row place (k - i) whole (omega arith))) ∙ swapped_twice (place + (k - i)) (omega arith) in
          ap (λ q. chunk_word ds (512 * s + q)) there ∙ (row_here (k - i) (omega arith) ∙ sym (inside (slot_words (chunk_word cs) s) i 8 w k f o (let long : length (slot_words (chunk_word cs) s) ≡ 512 = length_slot (chunk_word cs) s in let fits : i + 8 ≤ 512 = row_ends place li whole in omega arith)))

  row_apart : (q : ℕ) → IsElsewhere s q → chunk_word ds q ≡ chunk_word cs q
  row_apart q (inl b) = row_others q (λ k l e. absurd (omega arith))
  row_apart q (inr b) = row_others q (λ k l e. absurd (omega arith))

  is_live : IsLive (view_of cs free vacant reached) s
  is_live = ap is_some (get_live (chunk_word cs) (chain (chunk_word cs) free vacant) reached s lt live)

  pub view_with_row : view_of ds free vacant reached ≡ with_row (view_of cs free vacant reached) s i 8 w
  view_with_row =
      view_changed cs ds free vacant reached s _ old stored.same_length stored.chunks row_set row_apart lt live
      ∙ (ap (λ ws. insert (view_of cs free vacant reached) s (with_words ws i 8 w)) (sym (words-live cs free vacant reached old s lt live))
      ∙ sym (row_inserted (view_of cs free vacant reached) s i 8 w is_live))

  pub arena_with_row : IsArena ds free vacant reached
  arena_with_row = arena_changed cs ds free vacant reached s _ old stored.same_length stored.chunks row_set row_apart lt live
