-- The live slots by number, each with its words: the view that callers have of an arena.
use Rattle.std.specs.Prelude.{◌≡◌, ℕ, zero, suc, ◌+◌, ◌*◌, ◌/◌, ◌%◌, ◌^◌, ◌<◌, List, [], length, slice_index, slice_set, IsSome, unwrap_or}
use Rattle.std.specs.Ordering.{nat_cmp}
use Rattle.std.specs.FinMap.{FinMap, get, insert}
use Rattle.brick_arena.specs.declared.TheConstants.{SLOT_WORDS, MOST_SLOTS}
use Rattle.brick_arena.specs.declared.chunk.TheConstants.{CHUNK_WORDS, CHUNK_SLOTS}

abbrev pub Slots : Type 0
Slots = FinMap nat_cmp (List ℕ)

abbrev pub IsLive : Slots → ℕ → Type 0
IsLive slots slot = IsSome (get slots slot)

-- the words of a live slot
abbrev pub words_of : Slots → ℕ → List ℕ
words_of slots slot = unwrap_or (get slots slot) []

-- the slots after n writes of one word into a live slot, from an index on, one after another
unfoldable pub with_row : Slots → ℕ → ℕ → ℕ → ℕ → Slots
with_row slots slot index zero word = slots
with_row slots slot index (suc n) word =
    let now = with_row slots slot index n word in insert now slot (slice_set (words_of now slot) (index + n) word)

-- the invariant of the slots of every arena
pub record AreSlots (slots : Slots) : Type 0 where
  pub numbers : (slot : ℕ) → IsLive slots slot → slot < MOST_SLOTS
  pub lengths : (slot : ℕ) → IsLive slots slot → length (words_of slots slot) ≡ SLOT_WORDS
  pub words : (slot index : ℕ) → slice_index (words_of slots slot) index < 2 ^ 32

-- the index of the word at an offset of its slot, and the offset of the word with an index: of the three digits to base
-- eight, the first two are swapped
unfoldable pub swapped : ℕ → ℕ
swapped index = 64 * (index / 8 % 8) + 8 * (index / 64) + index % 8

-- the offset of a slot's first word in its chunk
abbrev pub start_in_chunk : ℕ → ℕ
start_in_chunk slot = slot % CHUNK_SLOTS * SLOT_WORDS

-- the chunk has the words of the slot, by their offsets
pub record HasSlot (slots : Slots) (slot : ℕ) (chunk : List ℕ) : Type 0 where
  pub full : length chunk ≡ CHUNK_WORDS
  pub each : (place : ℕ) → place < SLOT_WORDS
      → slice_index chunk (start_in_chunk slot + place) ≡ slice_index (words_of slots slot) (swapped place)
