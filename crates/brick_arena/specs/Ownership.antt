-- The resources that a chunk of words owns, and those of a `&` to one. An offset has a word, or is room for one.
use Rattle.std.specs.Prelude.{◌≡◌, ℕ, ◌+◌, List, [], ◌∷◌, Option, Some, None, slice_index_or, replicate}
use base.Fraction.{full_share}
use base.Fml.{Lft, Fml, ftrue, ffalse, fsep, froom}
use mir.Syntax.{Ty, ty_int, ty_array, w32}
use denote.Builtin.{u32}
use denote.Memory.{part_at, shared_of}
use denote.RawPtr.{Ptr, block_ptr, null_ptr}
use denote.Sharing.{nothing, said, beside}

-- room for a whole chunk
abbrev pub chunk_type : Ty
chunk_type = ty_array (ty_int w32) 32768

-- the words of a new chunk
unfoldable pub no_words : List (Option ℕ)
no_words = replicate 32768 None

-- one offset, o bytes into the block b
abbrev pub word_place : ℕ → ℕ → Option ℕ → Fml
word_place b o (Some w) = part_at u32 full_share w b o
word_place b o None = froom (ty_int w32) b o

-- consecutive offsets
abbrev pub word_places : ℕ → ℕ → List (Option ℕ) → Fml
word_places b o [] = ftrue
word_places b o (c ∷ cs) = fsep (word_place b o c) (word_places b (o + 4) cs)

abbrev pub words_own : Ptr → List (Option ℕ) → Fml
words_own (block_ptr b o) cs = word_places b o cs
words_own null_ptr cs = ffalse

abbrev pub place_lent : ℕ → ℕ → Option ℕ → Lft → Fml
place_lent b o (Some w) = shared_of u32 w b o
place_lent b o None = nothing

abbrev pub places_lent : ℕ → ℕ → List (Option ℕ) → Lft → Fml
places_lent b o [] = nothing
places_lent b o (c ∷ cs) = beside (place_lent b o c) (places_lent b (o + 4) cs)

abbrev pub words_lent : Ptr → List (Option ℕ) → Lft → Fml
words_lent (block_ptr b o) cs = places_lent b o cs
words_lent null_ptr cs = said ffalse

-- the i-th offset has a word
abbrev pub IsFilled : List (Option ℕ) → ℕ → Type 0
IsFilled cs i = (w : ℕ) × (slice_index_or cs i None ≡ Some w)
