-- The state after the first of the vacant slots is taken.
use Rattle.std.proofs.Common.{◌≡◌, ℕ, ◌+◌, ◌-◌, ◌*◌, ◌/◌, ◌%◌, ◌<◌, ◌≤◌, true, false, List, ◌∷◌, sym, ap, ◌∙◌, subst, arith, Some, None, replicate}
use Rattle.std.specs.FinMap.{get, insert, len}
use Rattle.brick_arena.specs.Arena.{is_listed, AreDistinct, chain, slot_words, live_slots, view_of, IsArena}
use Rattle.brick_arena.specs.Chunks.{chunk_word, IsCleared}
use Rattle.brick_arena.specs.Slots.{Slots}
use Rattle.brick_arena.proofs.Chains.{among-first, among-rest, among-beside, apart, chain-same, chain-opens}
use Rattle.brick_arena.proofs.LiveSlots.{get_vacant, get_live, inserted, len_added, same_slot}
use Rattle.brick_arena.proofs.SlotWords.{slot_const, slot_same}

module _ (cs : List (List ℕ)) (free vacant reached : ℕ) (old : IsArena cs free vacant reached) (some : 0 < vacant) where
  abbrev m : ℕ → ℕ
  m = chunk_word cs

  abbrev fs : List ℕ
  fs = chain m free vacant

  abbrev ts : List ℕ
  ts = chain m (m (512 * free)) (vacant - 1)

  abbrev v : Slots
  v = view_of cs free vacant reached

  opens : fs ≡ free ∷ ts
  opens = chain-opens m free vacant some

  held : is_listed free fs ≡ true
  held = ap (λ l. is_listed free l) opens ∙ among-first free ts

  split : (is_listed free ts ≡ false) × AreDistinct ts
  split = subst AreDistinct opens old.distinct

  pub vacant_inside : free < reached
  vacant_inside = old.below free held

  pub vacant_fresh : get v free ≡ None
  vacant_fresh = get_vacant m fs reached free held

  module _ (ds : List (List ℕ)) (next p : ℕ) (at : p ≡ free * 512 + 0) (link : next ≡ chunk_word cs p) (cleared : IsCleared cs ds free) where
    abbrev m' : ℕ → ℕ
    m' = chunk_word ds

    first_stays : (t : ℕ) → (t ≡ free → ⊥) → m' (512 * t) ≡ m (512 * t)
    first_stays t ne = let product_is : 512 * t ≡ 512 * t + 0 = omega arith in ap m' product_is ∙ cleared.others t 0 ne (omega arith) ∙ ap m (sym product_is)

    words_stay : (t : ℕ) → (t ≡ free → ⊥) → slot_words m' t ≡ slot_words m t
    words_stay t ne = slot_same m m' t (λ p lt. cleared.others t p ne lt)

    zeros : slot_words m' free ≡ replicate 512 0
    zeros = slot_const m' free 0 cleared.zeros

    shorter : chain m' next (vacant - 1) ≡ ts
    shorter =
        let p_is : p ≡ 512 * free = omega (arith, at) in
        ap (λ k. chain m' k (vacant - 1)) (link ∙ ap m p_is) ∙ chain-same m m' (m (512 * free)) (vacant - 1) (λ t in_ts. first_stays t (apart free t ts split.0 in_ts))

    pub view_taken : view_of ds next (vacant - 1) reached ≡ insert v free (replicate 512 0)
    view_taken =
        ap (λ l. live_slots m' l reached) shorter
        ∙ inserted v free (live_slots m' ts reached) (replicate 512 0)
        (get_live m' ts reached free vacant_inside split.0 ∙ ap Some zeros)
        (λ q ne. same_slot m m' fs ts reached reached q (λ l. l) (λ l. l) (sym (ap (λ l. is_listed q l) opens ∙ among-beside q free ts ne)) (λ _. words_stay q ne))

    one_more : len (view_of ds next (vacant - 1) reached) ≡ len v + 1
    one_more = ap len view_taken ∙ len_added v free (replicate 512 0) vacant_fresh

    past_stay : (q : ℕ) → 512 * reached ≤ q → m' q ≡ m q
    past_stay q past =
        let q_is : q ≡ 512 * (q / 512) + q % 512 = omega arith in
        ap m' q_is ∙ cleared.others (q / 512) (q % 512) (λ same. absurd (omega (arith, same, past, vacant_inside))) (omega arith) ∙ ap m (sym q_is)

    pub arena_taken : IsArena ds next (vacant - 1) reached
    arena_taken = record {
      chunks = cleared.chunks;
      room = subst (λ n. reached ≤ 64 * n) (sym cleared.same_length) old.room;
      limit = old.limit;
      below = λ t in_chain. old.below t (ap (λ l. is_listed t l) opens ∙ among-rest t free ts (ap (λ l. is_listed t l) (sym shorter) ∙ in_chain));
      distinct = subst AreDistinct (sym shorter) split.1;
      blank = λ q past. past_stay q past ∙ old.blank q past;
      count = omega (arith, old.count, one_more, some);
    }
