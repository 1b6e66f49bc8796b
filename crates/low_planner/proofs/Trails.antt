-- Trails: each coordinate is next to the one before it.
use Rattle.std.proofs.Common.{◌≡◌, List, [], ◌∷◌, ◌++◌}
use Rattle.vox_geom.specs.declared.coordinate.Coord.{Coord}
use Rattle.low_planner.specs.Sweep.{AreBesideInLayer, IsChain, IsTrail}

chain_push : (x : Coord) (xs : List Coord) (a b : Coord) → IsChain x (xs ++ a ∷ []) → AreBesideInLayer a b
    → IsChain x ((xs ++ a ∷ []) ++ b ∷ [])
chain_push x [] a b h n = (h.0, (n, tt))
chain_push x (y ∷ xs) a b h n = (h.0, chain_push y xs a b h.1 n)

chain_pop : (x : Coord) (xs : List Coord) (a : Coord) → IsChain x (xs ++ a ∷ []) → IsChain x xs
chain_pop x [] a h = tt
chain_pop x (y ∷ xs) a h = (h.0, chain_pop y xs a h.1)

chain_last : (x : Coord) (xs : List Coord) (a b : Coord) → IsChain x ((xs ++ a ∷ []) ++ b ∷ []) → AreBesideInLayer a b
chain_last x [] a b h = h.1.0
chain_last x (y ∷ xs) a b h = chain_last y xs a b h.1

pub trail_push : (at : Coord) (xs : List Coord) (a b : Coord) → IsTrail at (xs ++ a ∷ []) → AreBesideInLayer a b
    → IsTrail at ((xs ++ a ∷ []) ++ b ∷ [])
trail_push at [] a b h n = (h.0, (n, tt))
trail_push at (x ∷ xs) a b h n = (h.0, chain_push x xs a b h.1 n)

pub trail_pop : (at : Coord) (xs : List Coord) (a : Coord) → IsTrail at (xs ++ a ∷ []) → IsTrail at xs
trail_pop at [] a h = tt
trail_pop at (x ∷ xs) a h = (h.0, chain_pop x xs a h.1)

pub trail_last : (at : Coord) (xs : List Coord) (a b : Coord) → IsTrail at ((xs ++ a ∷ []) ++ b ∷ [])
    → AreBesideInLayer a b
trail_last at [] a b h = h.1.0
trail_last at (x ∷ xs) a b h = chain_last x xs a b h.1
