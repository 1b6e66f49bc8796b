-- The bytes read of a file so far, piece by piece.
use Rattle.std.proofs.Common.{◌≡◌, ℕ, ◌+◌, ◌<◌, ◌≤◌, List, ◌++◌, length, take, drop, Option, None, Some, IsSomeAnd, refl, sym, ap, ◌∙◌, subst, arith, length-append, length-take}
use Rattle.std.proofs.lemmas.List.{take-take, drop-take, take-append-drop, take_all}
use Rattle.vox_depot.specs.Files.{Files, content, IsPiece, IfTold}

pub take-split : (m n : ℕ) (xs : List ℕ) → take m xs ++ take n (drop m xs) ≡ take (m + n) xs
take-split m n xs =
    let front : take m (take (m + n) xs) ≡ take m xs = take-take m (m + n) xs (omega arith) in
    rw (← drop-take m n xs, ← front) (take-append-drop m (take (m + n) xs))

pub length_joined : (v w buf : List ℕ) (taken : ℕ) → taken ≤ length buf → w ≡ v ++ take taken buf
    → length w ≡ length v + taken
length_joined v w buf taken le is = ap length is ∙ length-append v (take taken buf) ∙ ap (λ k. length v + k) (omega (arith, length-take taken buf))

-- if the file is visible, these are its first bytes
pub record SoFar (told : Option Files) (name v : List ℕ) : Type 0 where
  pub front : (files : Files) (file : List ℕ) → told ≡ Some files → content files name ≡ Some file
      → v ≡ take (length v) file

-- a property of the file if it is visible, in the form of a premise
pub from_told : (told : Option Files) (name : List ℕ) (P : List ℕ → Type 0) → IfTold told name P → (files : Files)
    (file : List ℕ) → told ≡ Some files → content files name ≡ Some file → P file
from_told told name P h files file t c = let here = subst (λ o. IfTold o name P) t h in subst (λ o. IsSomeAnd o P) c here

-- the converse: if files are visible there is such a file, and each such file has P
pub to_told : (told : Option Files) (name : List ℕ) (P Q : List ℕ → Type 0) → IfTold told name P
    → ((files : Files) (file : List ℕ) → told ≡ Some files → content files name ≡ Some file → Q file)
    → IfTold told name Q
to_told None name P Q h all = tt
to_told (Some files) name P Q h all = there (content files name) h (all files)
  where
    there : (o : Option (List ℕ)) → IsSomeAnd o P → ((file : List ℕ) → Some files ≡ Some files → o ≡ Some file → Q file)
        → IsSomeAnd o Q
    there None h all = h
    there (Some file) h all = all file refl refl

module _ (told : Option Files) (name v : List ℕ) (n : ℕ) (buf : List ℕ) (so_far : SoFar told name v) (piece : IfTold told name (λ file. IsPiece file (length v) n buf)) where
  -- a prefix of the piece is added
  pub SoFar-next : (taken : ℕ) (w : List ℕ) → taken ≤ n → n ≤ length buf → w ≡ v ++ take taken buf → SoFar told name w
  SoFar-next taken w le fits is = record {
    front = λ files file t c.
        let piece : IsPiece file (length v) n buf = from_told told name _ piece files file t c in
        let old : v ≡ take (length v) file = so_far.front files file t c in
        let cut : take taken (take n buf) ≡ take taken buf = take-take taken n buf le in
        let cut_file : take taken (take n (drop (length v) file)) ≡ take taken (drop (length v) file) = take-take taken n _ le in
        let new : take taken buf ≡ take taken (drop (length v) file) = sym cut ∙ ap (take taken) piece.same ∙ cut_file in
        let whole : w ≡ take (length v + taken) file = is ∙ ap (λ l. l ++ take taken buf) old ∙ ap (λ l. take (length v) file ++ l) new ∙ take-split (length v) taken file in
        let size : length w ≡ length v + taken = length_joined v w buf taken (omega arith) is in
        whole ∙ ap (λ k. take k file) (sym size);
  }

  -- all requested bytes are there
  pub SoFar-full : (most : ℕ) (w : List ℕ) → SoFar told name w → length w ≡ most
      → IfTold told name (λ file. w ≡ take most file)
  SoFar-full most w next full = to_told told name _ _ piece (λ files file t c. next.front files file t c ∙ ap (λ k. take k file) full)

  -- no byte came
  pub SoFar-end : (most : ℕ) → 0 < length buf → n ≡ 0 → length v ≤ most → IfTold told name (λ file. v ≡ take most file)
  SoFar-end most room none le =
      to_told told name _ _ piece (λ files file t c.
      let piece : IsPiece file (length v) n buf = from_told told name _ piece files file t c in
      let end : length file ≤ length v = piece.ends none room in
      so_far.front files file t c ∙ take_all (length v) file end ∙ sym (take_all most file (omega arith)))
