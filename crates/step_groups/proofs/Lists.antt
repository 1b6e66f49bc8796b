-- Small facts on tests and slices.
use Rattle.std.proofs.Common.{◌≡◌, ℕ, ◌-◌, ◌≤◌, arith, List, drop, length, length-drop, take}
use Rattle.std.proofs.lemmas.List.{take_all}

-- the slice from an index to the end
pub to_end : {X : Type 0} (xs : List X) (j : ℕ) → take (length xs - j) (drop j xs) ≡ drop j xs
to_end xs j = let le : length (drop j xs) ≤ length xs - j = simp length-drop (omega arith) in take_all (length xs - j) (drop j xs) le
