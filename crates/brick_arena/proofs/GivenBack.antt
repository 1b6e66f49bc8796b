-- The state after a slot is freed.
use Rattle.std.proofs.Common.{◌≡◌, ℕ, ◌+◌, ◌*◌, ◌<◌, ◌≤◌, false, List, ◌∷◌, sym, ap, ◌∙◌, subst, arith, is_some, inl, inr}
use Rattle.std.specs.FinMap.{remove, len}
use Rattle.brick_arena.specs.Arena.{is_listed, AreDistinct, chain, live_slots, view_of, IsArena}
use Rattle.brick_arena.specs.Chunks.{chunk_word, IsStored}
use Rattle.brick_arena.specs.Slots.{Slots}
use Rattle.brick_arena.proofs.Chains.{among-first, among-beside, among-cases, chain-adds}
use Rattle.brick_arena.proofs.LiveSlots.{get_vacant, get_live, removed, len_removed, same_slot}
use Rattle.brick_arena.proofs.Written.{words_stay, links, past_stay}

module _ (cs ds : List (List ℕ)) (free vacant reached s p : ℕ) (old : IsArena cs free vacant reached) (stored : IsStored cs ds p free) (first : p ≡ s * 512 + 0)
    (lt : s < reached) (live : is_listed s (chain (chunk_word cs) free vacant) ≡ false) where
  abbrev m : ℕ → ℕ
  m = chunk_word cs

  abbrev m' : ℕ → ℕ
  m' = chunk_word ds

  abbrev fs : List ℕ
  fs = chain m free vacant

  abbrev v : Slots
  v = view_of cs free vacant reached

  small : 0 < 512
  small = omega arith

  longer : chain m' s (vacant + 1) ≡ s ∷ fs
  longer =
      let product_is : 512 * s ≡ p = omega (arith, first) in
      chain-adds m' s vacant ∙ ap (λ k. s ∷ chain m' k vacant) (ap m' product_is ∙ stored.here)
      ∙ ap (λ l. s ∷ l) (links cs ds free vacant reached s 0 free p old stored first small lt live)

  pub view_given : view_of ds s (vacant + 1) reached ≡ remove v s
  view_given =
      ap (λ l. live_slots m' l reached) longer
      ∙ removed v s (live_slots m' (s ∷ fs) reached) (get_vacant m' (s ∷ fs) reached s (among-first s fs))
      (λ q ne. same_slot m m' fs (s ∷ fs) reached reached q (λ l. l) (λ l. l) (among-beside q s fs ne) (λ _. words_stay cs ds free vacant reached s 0 free p old stored first small lt live q ne))

  one_less : len (view_of ds s (vacant + 1) reached) + 1 ≡ len v
  one_less = ap (λ w. len w + 1) view_given ∙ len_removed v s (ap is_some (get_live m fs reached s lt live))

  pub arena_given : IsArena ds s (vacant + 1) reached
  arena_given = record {
    chunks = stored.chunks;
    room = subst (λ n. reached ≤ 64 * n) (sym stored.same_length) old.room;
    limit = old.limit;
    below = λ t held. elim (among-cases t s fs (ap (λ l. is_listed t l) (sym longer) ∙ held)) [ inl e ↦ subst (λ k. k < reached) (sym e) lt | inr h ↦ old.below t h ];
    distinct = subst AreDistinct (sym longer) (live, old.distinct);
    blank = λ q past. past_stay cs ds free vacant reached s 0 free p old stored first small lt live q past ∙ old.blank q past;
    count = omega (arith, old.count, one_less);
  }
