-- The chain of vacant slots in the chunks, and the slots that are live in them. Here m is the word at each offset.
use Rattle.std.specs.Prelude.{◌≡◌, ℕ, ◌+◌, ◌*◌, ◌<◌, ◌≤◌, zero, suc, Bool, true, false, nat_eq, ◌||◌, cond, List, [], ◌∷◌, length}
use Rattle.std.specs.FinMap.{empty, insert, len}
use Rattle.brick_arena.specs.declared.TheConstants.{SLOT_WORDS, MOST_SLOTS}
use Rattle.brick_arena.specs.declared.chunk.TheConstants.{CHUNK_SLOTS}
use Rattle.brick_arena.specs.Chunks.{chunk_word, AreChunks}
use Rattle.brick_arena.specs.Slots.{Slots, swapped}

-- n values: f at start, start + 1, ..
unfoldable pub values : {X : Type 0} → (ℕ → X) → ℕ → ℕ → List X
values f start zero = []
values f start (suc count) = f start ∷ values f (suc start) count

abbrev pub is_listed : ℕ → List ℕ → Bool
is_listed slot [] = false
is_listed slot (other ∷ others) = nat_eq slot other || is_listed slot others

abbrev pub AreDistinct : List ℕ → Type 0
AreDistinct [] = Unit {0}
AreDistinct (slot ∷ others) = (is_listed slot others ≡ false) × AreDistinct others

-- n vacant slots from the first on, each linked by its first word
unfoldable pub chain : (ℕ → ℕ) → ℕ → ℕ → List ℕ
chain m first zero = []
chain m first (suc count) = first ∷ chain m (m (SLOT_WORDS * first)) count

-- the words of a slot by their indices
abbrev pub slot_words : (ℕ → ℕ) → ℕ → List ℕ
slot_words m slot = values (λ index. m (SLOT_WORDS * slot + swapped index)) 0 SLOT_WORDS

-- the slots that were reached and are not vacant, each with its words
unfoldable pub live_slots : (ℕ → ℕ) → List ℕ → ℕ → Slots
live_slots m vacant zero = empty
live_slots m vacant (suc slot) =
    cond (is_listed slot vacant) (live_slots m vacant slot) (insert (live_slots m vacant slot) slot (slot_words m slot))

-- the view of an arena: its live slots
abbrev pub view_of : List (List ℕ) → ℕ → ℕ → ℕ → Slots
view_of chunks first_vacant vacant reached =
    live_slots (chunk_word chunks) (chain (chunk_word chunks) first_vacant vacant) reached

-- the invariant of an arena's fields
pub record IsArena (cs : List (List ℕ)) (first_vacant vacant reached : ℕ) : Type 0 where
  pub chunks : AreChunks cs
  pub room : reached ≤ CHUNK_SLOTS * length cs
  pub limit : reached ≤ MOST_SLOTS
  pub below : (slot : ℕ) → is_listed slot (chain (chunk_word cs) first_vacant vacant) ≡ true → slot < reached
  pub distinct : AreDistinct (chain (chunk_word cs) first_vacant vacant)
  pub blank : (place : ℕ) → SLOT_WORDS * reached ≤ place → chunk_word cs place ≡ 0
  pub count : reached ≡ len (view_of cs first_vacant vacant reached) + vacant
