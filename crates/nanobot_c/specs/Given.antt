-- The bytes that a call copies to the caller's buffer.
use Rattle.std.specs.Prelude.{◌≡◌, ◌⊎◌, ℕ, ◌≤◌, ◌<◌, List, ◌++◌, drop, length, Option, Some, None}
use Rattle.nanobot_rows.specs.declared.status.Status.TheVariants as is
use Rattle.nanobot_rows.specs.Lines.{words_line}
use Rattle.nanobot_rows.specs.Report.{code_of}
use Rattle.nanobot_c.specs.declared.call.TheConstants.{TOO_SMALL}

-- the status is 0
abbrev pub IsDone : ℕ → Type 0
IsDone result = result ≡ code_of is.Done

-- the status is 7
abbrev pub IsMemory : ℕ → Type 0
IsMemory result = result ≡ code_of is.Memory

-- these bytes with this status: they are at the front of the buffer; or they do not fit, and it is unchanged; `size` is their
-- number
pub record Gave (status : ℕ) (bytes old new : List ℕ) (size result : ℕ) : Type 0 where
  pub told : size ≡ length bytes
  pub fits : length bytes ≤ length old → (result ≡ status) × (new ≡ bytes ++ drop (length bytes) old)
  pub small : length old < length bytes → (result ≡ TOO_SMALL) × (new ≡ old)

-- the line of arguments that match no row of the table
abbrev pub GaveNoRow : List ℕ → List ℕ → ℕ → ℕ → Type 0
GaveNoRow old new size result = Gave (code_of is.Words) words_line old new size result

-- allocation failed: nothing was copied
pub record GaveNothing (old new : List ℕ) (size result : ℕ) : Type 0 where
  pub answered : IsMemory result
  pub as_it_was : new ≡ old
  pub none : size ≡ 0

-- one of the two
abbrev pub MayGive : ℕ → List ℕ → List ℕ → List ℕ → ℕ → ℕ → Type 0
MayGive status bytes old new size result = GaveNothing old new size result ⊎ Gave status bytes old new size result

-- the bytes of a stored file, or the line if there is none
abbrev pub file_or_line : Option (List ℕ) → List ℕ → List ℕ
file_or_line None line = line
file_or_line (Some bytes) line = bytes
