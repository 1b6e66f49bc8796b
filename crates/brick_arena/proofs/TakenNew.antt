-- The state after a slot is taken that was never reached.
use Rattle.std.proofs.Common.{◌≡◌, ℕ, ◌+◌, ◌*◌, ◌<◌, ◌≤◌, false, List, refl, sym, ap, ◌∙◌, subst, arith, Some, None, replicate}
use Rattle.std.specs.FinMap.{get, insert, len}
use Rattle.vox_geom.proofs.Truths.{false_by}
use Rattle.brick_arena.specs.Arena.{is_listed, AreDistinct, chain, slot_words, live_slots, view_of, IsArena}
use Rattle.brick_arena.specs.Chunks.{chunk_word, HasRoom}
use Rattle.brick_arena.specs.Slots.{Slots}
use Rattle.brick_arena.proofs.Chains.{chain-same}
use Rattle.brick_arena.proofs.LiveSlots.{get_past, get_live, inserted, len_added, same_slot}
use Rattle.brick_arena.proofs.SlotWords.{slot_const, slot_same}

module _ (cs : List (List ℕ)) (free vacant reached : ℕ) (old : IsArena cs free vacant reached) where
  abbrev m : ℕ → ℕ
  m = chunk_word cs

  abbrev fs : List ℕ
  fs = chain m free vacant

  abbrev v : Slots
  v = view_of cs free vacant reached

  pub new_fresh : get v reached ≡ None
  new_fresh = get_past m fs reached reached (omega arith)

  module _ (ds : List (List ℕ)) (room : HasRoom cs ds reached) (fits : reached + 1 ≤ 1048576) where
    abbrev m' : ℕ → ℕ
    m' = chunk_word ds

    words_stay : (t : ℕ) → slot_words m' t ≡ slot_words m t
    words_stay t = slot_same m m' t (λ p lt. room.same (512 * t + p))

    zeros : slot_words m' reached ≡ replicate 512 0
    zeros = slot_const m' reached 0 (λ p lt. room.same (512 * reached + p) ∙ old.blank (512 * reached + p) (omega arith))

    links : chain m' free vacant ≡ fs
    links = chain-same m m' free vacant (λ t in_chain. room.same (512 * t))

    beyond : is_listed reached fs ≡ false
    beyond = false_by (is_listed reached fs) (λ e. let bad : reached < reached = old.below reached e in absurd (omega (arith, bad)))

    pub view_new : view_of ds free vacant (reached + 1) ≡ insert v reached (replicate 512 0)
    view_new =
        ap (λ l. live_slots m' l (reached + 1)) links
        ∙ inserted v reached (live_slots m' fs (reached + 1)) (replicate 512 0)
        (get_live m' fs (reached + 1) reached (omega arith) beyond ∙ ap Some zeros)
        (λ q ne. same_slot m m' fs fs reached (reached + 1) q (λ l. omega (arith, l, ne)) (λ l. omega (arith, l)) refl (λ _. words_stay q))

    one_more : len (view_of ds free vacant (reached + 1)) ≡ len v + 1
    one_more = ap len view_new ∙ len_added v reached (replicate 512 0) new_fresh

    pub arena_new : IsArena ds free vacant (reached + 1)
    arena_new = record {
      chunks = room.chunks;
      room = let lt = room.room in omega (arith, lt);
      limit = fits;
      below = λ t in_chain. let lt : t < reached = old.below t (ap (λ l. is_listed t l) (sym links) ∙ in_chain) in omega (arith, lt);
      distinct = subst AreDistinct (sym links) old.distinct;
      blank = λ q past. room.same q ∙ old.blank q (omega (arith, past));
      count = omega (arith, old.count, one_more);
    }
