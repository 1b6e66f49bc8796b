-- The invariant of every arena: slots of 512 words below 2^32, and live slots that were reached and are not in the
-- chain.
use Rattle.std.proofs.Common.{◌≡◌, ℕ, ◌+◌, ◌*◌, ◌/◌, ◌%◌, ◌^◌, ◌<◌, false, List, [], ap, subst, sym, ◌∙◌, arith, None, length, get_or, unwrap_or, inl, inr}
use Rattle.std.proofs.lemmas.Bool.{cases_lt, cases_Bool}
use Rattle.std.proofs.lemmas.List.{get_or_past}
use Rattle.std.specs.FinMap.{get}
use Rattle.brick_arena.specs.Arena.{is_listed, chain, slot_words, view_of, IsArena}
use Rattle.brick_arena.specs.Chunks.{AreChunks, chunk_word}
use Rattle.brick_arena.specs.Slots.{Slots, IsLive, words_of, AreSlots, HasSlot, swapped}
use Rattle.brick_arena.proofs.LiveSlots.{get_past, get_vacant, get_live, live_inside}
use Rattle.brick_arena.proofs.SlotWords.{length_slot, swapped_below, swapped_twice, word_in_slot}

word_fits : (cs : List (List ℕ)) (p : ℕ) → AreChunks cs → chunk_word cs p < 2 ^ 32
word_fits cs p chunks = elim (cases_lt (p / 32768) (length cs)) [
  | inl lt ↦ (chunks (p / 32768) lt).fit (p % 32768)
  | inr past ↦ let element_is = ap (λ c. get_or c (p % 32768) 0) (get_or_past cs (p / 32768) [] past) in omega (arith, element_is)
]

module _ (cs : List (List ℕ)) (free vacant reached : ℕ) (arena : IsArena cs free vacant reached) where
  abbrev m : ℕ → ℕ
  m = chunk_word cs

  abbrev fs : List ℕ
  fs = chain m free vacant

  abbrev v : Slots
  v = view_of cs free vacant reached

  pub words-live : (s : ℕ) → s < reached → is_listed s fs ≡ false → words_of v s ≡ slot_words m s
  words-live s lt unheld = ap (λ o. unwrap_or o []) (get_live m fs reached s lt unheld)

  -- the word at an offset of a slot
  pub word_at_place : (s p : ℕ) → p < 512 → get_or (slot_words m s) (swapped p) 0 ≡ m (512 * s + p)
  word_at_place s p lt = word_in_slot m s (swapped p) (swapped_below p lt) ∙ ap (λ k. m (512 * s + k)) (swapped_twice p lt)

  slot_fits : (s i : ℕ) → get_or (slot_words m s) i 0 < 2 ^ 32
  slot_fits s i = elim (cases_lt i 512) [
    | inl lt ↦ let word_is = word_in_slot m s i lt in let fits = word_fits cs (512 * s + swapped i) arena.chunks in omega (arith, word_is, fits)
    | inr past ↦ let long = length_slot m s in let past_is = get_or_past (slot_words m s) i 0 (omega (arith, long, past)) in omega (arith, past_is)
  ]

  no_words : (s i : ℕ) → get v s ≡ None → get_or (words_of v s) i 0 < 2 ^ 32
  no_words s i none = let element_is = ap (λ o. get_or (unwrap_or o []) i 0) none in omega (arith, element_is)

  pub are_slots : AreSlots v
  are_slots = record {
    numbers = λ s live. let inside = live_inside m fs reached s live in omega (arith, inside.0, arena.limit);
    lengths = λ s live. let inside = live_inside m fs reached s live in ap length (words-live s inside.0 inside.1) ∙ length_slot m s;
    words = λ s i. elim (cases_lt s reached) [
      | inr past ↦ no_words s i (get_past m fs reached s past)
      | inl lt ↦ elim (cases_Bool (is_listed s fs)) [
        | inl held ↦ no_words s i (get_vacant m fs reached s held)
        | inr unheld ↦ let element_is = ap (λ ws. get_or ws i 0) (words-live s lt unheld) in let fits = slot_fits s i in omega (arith, element_is, fits)
      ]
    ];
  }

  -- a live slot was reached, and is not in the chain; the chunks have all its words
  pub live_at : (slots : Slots) → v ≡ slots → (s : ℕ) → IsLive slots s
      → (s < reached) × (is_listed s fs ≡ false) × (512 * s + 511 < 32768 * length cs)
  live_at slots is s live =
      let inside = live_inside m fs reached s (subst (λ w. IsLive w s) (sym is) live) in
      (inside.0, inside.1, omega (arith, inside.0, arena.room))

  -- the chunk of a live slot has its words
  pub has_slot : (slots : Slots) → v ≡ slots → (s : ℕ) → IsLive slots s → (chunk : List ℕ)
      → chunk ≡ get_or cs (s / 64) [] → HasSlot slots s chunk
  has_slot slots is s live chunk e =
      let at = live_at slots is s live in
      let below_length : s / 64 < length cs = omega (arith, at.2) in
      record {
        full = ap (λ ws. length ws) e ∙ (arena.chunks (s / 64) below_length).full;
        each = λ p lt.
            let same_quotient : s / 64 ≡ (512 * s + p) / 32768 = omega arith in
            let sum_is : s % 64 * 512 + p ≡ (512 * s + p) % 32768 = omega arith in
            ap (λ ws. get_or ws (s % 64 * 512 + p) 0) e
            ∙ ap (λ k. get_or (get_or cs k []) (s % 64 * 512 + p) 0) same_quotient
            ∙ ap (λ k. get_or (get_or cs ((512 * s + p) / 32768) []) k 0) sum_is
            ∙ sym (word_at_place s p lt)
            ∙ sym (ap (λ words. get_or words (swapped p) 0) (words-live s at.0 at.1))
            ∙ ap (λ w. get_or (words_of w s) (swapped p) 0) is;
      }
