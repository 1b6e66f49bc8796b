-- Adjacent coordinates: one component differs, by one.
use Rattle.std.proofs.Common.{◌≡◌, ℕ, ◌+◌, ◌-◌, ◌<◌, ◌≤◌, sym, subst, arith, inl, inr, false}
use Rattle.std.specs.Prelude.{IsTrue, ◌⊎◌}
use Rattle.std.proofs.lemmas.Bool.{cases_lt}
use Rattle.vox_geom.specs.declared.coordinate.Coord.{Coord}
use Rattle.vox_geom.specs.Point.{are_adjacent, coord}
use Rattle.nano_spec.specs.Matrix.{Matrix, is_full}
use Rattle.low_planner.specs.Sweep.{AreBesideInLayer}
use Rattle.vox_geom.proofs.Adjacent.{Side, adjacent-sym, adjacent_by, right, above, ahead, left, below, behind, side_of}
use Rattle.vox_geom.proofs.Points.{coordinate_by_parts}

-- a voxel and the one right above it are adjacent
pub adjacent_below : (c b : Coord) → b.x ≡ c.x → b.z ≡ c.z → c.y ≡ b.y + 1 → IsTrue (are_adjacent c b)
adjacent_below c b x z y = adjacent_by c b (omega arith)

-- neighbors in a layer
pub beside_by : (a b : Coord) → b.y ≡ a.y → ((a.x - b.x) + (b.x - a.x)) + ((a.z - b.z) + (b.z - a.z)) ≡ 1
    → AreBesideInLayer a b
beside_by a b y e = record { adjacent = adjacent_by a b (omega arith); level = y }

pub beside-sym : (a b : Coord) → AreBesideInLayer a b → AreBesideInLayer b a
beside-sym a b h = record { adjacent = adjacent-sym a b h.adjacent; level = sym h.level }

-- the distance of such coordinates
pub beside_gap : (a b : Coord) → AreBesideInLayer a b → ((a.x - b.x) + (b.x - a.x)) + ((a.z - b.z) + (b.z - a.z)) ≡ 1
beside_gap a b h = by (side_of a b h.adjacent) h.level
  where
    by : Side a b → b.y ≡ a.y → ((a.x - b.x) + (b.x - a.x)) + ((a.z - b.z) + (b.z - a.z)) ≡ 1
    by (right x y z) l = omega arith
    by (above x y z) l = absurd (omega arith)
    by (ahead x y z) l = omega arith
    by (left x y z) l = omega arith
    by (below x y z) l = absurd (omega arith)
    by (behind x y z) l = omega arith

-- none of the four is full
pub none_beside : (m : Matrix) (c : Coord) → is_full m (coord c.x c.y (c.z + 1)) ≡ false
    → (0 < c.z → is_full m (coord c.x c.y (c.z - 1)) ≡ false) → is_full m (coord (c.x + 1) c.y c.z) ≡ false
    → (0 < c.x → is_full m (coord (c.x - 1) c.y c.z) ≡ false) → (d : Coord) → AreBesideInLayer c d → is_full m d ≡ false
none_beside m c e f g h d b = by (beside_gap c d b) b.level (cases_lt c.x d.x) (cases_lt d.x c.x) (cases_lt c.z d.z)
  where
    at : (x y z : ℕ) → d.x ≡ x → d.y ≡ y → d.z ≡ z → is_full m (coord x y z) ≡ false → is_full m d ≡ false
    at x y z i j k v = subst (λ (q : Coord). is_full m q ≡ false) (sym (coordinate_by_parts d (coord x y z) i j k)) v

    by : ((c.x - d.x) + (d.x - c.x)) + ((c.z - d.z) + (d.z - c.z)) ≡ 1 → d.y ≡ c.y → ((c.x < d.x) ⊎ (d.x ≤ c.x))
        → ((d.x < c.x) ⊎ (c.x ≤ d.x)) → ((c.z < d.z) ⊎ (d.z ≤ c.z)) → is_full m d ≡ false
    by s l (inl x) y z = at (c.x + 1) c.y c.z (omega arith) l (omega arith) g
    by s l (inr x) (inl y) z = at (c.x - 1) c.y c.z (omega arith) l (omega arith) (h (omega arith))
    by s l (inr x) (inr y) (inl z) = at c.x c.y (c.z + 1) (omega arith) l (omega arith) e
    by s l (inr x) (inr y) (inr z) = at c.x c.y (c.z - 1) (omega arith) l (omega arith) (f (omega arith))
