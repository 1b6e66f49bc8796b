-- Chunks of words, and the effects of reads, writes and growth on the word at an offset.
use Rattle.std.specs.Prelude.{◌≡◌, ℕ, ◌+◌, ◌*◌, ◌/◌, ◌%◌, ◌^◌, ◌<◌, ◌≤◌, List, [], length, slice_index, slice_index_or}
use Rattle.brick_arena.specs.declared.TheConstants.{SLOT_WORDS}
use Rattle.brick_arena.specs.declared.chunk.TheConstants.{CHUNK_WORDS, CHUNK_SLOTS}

-- x is at each index from start on and below end, and all else stays; past the end of a list, d is the value
pub record SetsRange {X : Type 0} (x d : X) (old new : List X) (start end : ℕ) : Type 0 where
  pub same_length : length new ≡ length old
  pub inside : (k : ℕ) → start ≤ k → k < end → slice_index_or new k d ≡ x
  pub below : (k : ℕ) → k < start → slice_index_or new k d ≡ slice_index_or old k d
  pub above : (k : ℕ) → end ≤ k → slice_index_or new k d ≡ slice_index_or old k d

pub record IsChunk (words : List ℕ) : Type 0 where
  pub full : length words ≡ CHUNK_WORDS
  pub fit : (k : ℕ) → slice_index words k < 2 ^ 32

-- a chunk of zeros
pub record IsBlank (words : List ℕ) : Type 0 where
  pub full : length words ≡ CHUNK_WORDS
  pub zeros : (k : ℕ) → slice_index words k ≡ 0

abbrev pub AreChunks : List (List ℕ) → Type 0
AreChunks chunks = (k : ℕ) → k < length chunks → IsChunk (slice_index_or chunks k [])

-- the word at an offset, and 0 past the last chunk
abbrev pub chunk_word : List (List ℕ) → ℕ → ℕ
chunk_word chunks place = slice_index (slice_index_or chunks (place / CHUNK_WORDS) []) (place % CHUNK_WORDS)

-- the word at the offset is the new one, and all others stay
pub record IsStored (old new : List (List ℕ)) (place word : ℕ) : Type 0 where
  pub same_length : length new ≡ length old
  pub chunks : AreChunks new
  pub here : chunk_word new place ≡ word
  pub others : (other : ℕ) → (other ≡ place → ⊥) → chunk_word new other ≡ chunk_word old other

-- the word is at eight offsets from this one on, and all others stay
pub record IsRowStored (old new : List (List ℕ)) (place word : ℕ) : Type 0 where
  pub same_length : length new ≡ length old
  pub chunks : AreChunks new
  pub here : (k : ℕ) → k < 8 → chunk_word new (place + k) ≡ word
  pub others : (other : ℕ) → ((k : ℕ) → k < 8 → other ≡ place + k → ⊥) → chunk_word new other ≡ chunk_word old other

-- the words of the slot are 0, and those of all others stay
pub record IsCleared (old new : List (List ℕ)) (slot : ℕ) : Type 0 where
  pub same_length : length new ≡ length old
  pub chunks : AreChunks new
  pub zeros : (k : ℕ) → k < SLOT_WORDS → chunk_word new (SLOT_WORDS * slot + k) ≡ 0
  pub others : (other k : ℕ) → (other ≡ slot → ⊥) → k < SLOT_WORDS
      → chunk_word new (SLOT_WORDS * other + k) ≡ chunk_word old (SLOT_WORDS * other + k)

-- there is a chunk for the slot, and each word stays: those of a new chunk are 0, as past the last one
pub record HasRoom (old new : List (List ℕ)) (slot : ℕ) : Type 0 where
  pub chunks : AreChunks new
  pub room : slot < CHUNK_SLOTS * length new
  pub same : (place : ℕ) → chunk_word new place ≡ chunk_word old place
