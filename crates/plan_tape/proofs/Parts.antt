-- Parts of a matrix grow, and out of space no voxel is full.
use Rattle.std.proofs.Common.{◌≡◌, ℕ, ◌+◌, ◌-◌, ◌≤◌, ◌<◌, refl, ◌∙◌, ap, arith, Bool, true, false, ◌&&◌, ◌||◌, ◌==◌, nat_le, nat_lt}
use Rattle.std.specs.Prelude.{pos}
use Rattle.std.proofs.lemmas.Bool.Decides.{nat_tests}
use Rattle.vox_geom.specs.declared.coordinate.Coord.{Coord}
use Rattle.vox_geom.specs.Point.{point}
use Rattle.vox_geom.specs.Space.{in_range, in_space}
use Rattle.vox_geom.proofs.Truths.{no_first}
use Rattle.nano_spec.specs.Matrix.{Matrix, is_full}
use Rattle.plan_tape.specs.Parts.{below_layer, from_layer, in_layer, in_row, is_in_line, layer, voxel}

-- ---- out of space

-- no voxel is full out of space
pub void_out : (r : ℕ) (n : Matrix) (c : Coord) → n.resolution ≡ r → in_space r (point c) ≡ false → is_full n c ≡ false
void_out r n c e o = no_first (in_space n.resolution (point c)) _ (ap (λ k. in_space k (point c)) e ∙ o)

outside_z : (a b c d : Bool) → c ≡ false → (a && b && c && d) ≡ false
outside_z true true c d e = rw e refl
outside_z true false c d e = refl
outside_z false b c d e = refl

outside_x : (a b c d : Bool) → a ≡ false → (a && b && c && d) ≡ false
outside_x a b c d e = rw e refl

past : (r v : ℕ) → nat_lt v r ≡ false → in_range r (pos v) ≡ false
past r v e = grind (arith, nat_tests)

pub void_past_z : (m : Matrix) (c : Coord) → nat_lt c.z m.resolution ≡ false → is_full m c ≡ false
void_past_z m c e = outside_z (in_range m.resolution (pos c.x)) (in_range m.resolution (pos c.y)) (in_range m.resolution (pos c.z)) _ (past m.resolution c.z e)

pub void_past_x : (m : Matrix) (c : Coord) → nat_lt c.x m.resolution ≡ false → is_full m c ≡ false
void_past_x m c e = outside_x (in_range m.resolution (pos c.x)) (in_range m.resolution (pos c.y)) (in_range m.resolution (pos c.z)) _ (past m.resolution c.x e)

-- ---- one row or layer more

z_more : (a b : Bool) (v z : ℕ) → (a && b && nat_lt v (z + 1)) ≡ ((a && b && v == z) || (a && b && nat_lt v z))
z_more true true v z = grind (arith, nat_tests)
z_more true false v z = refl
z_more false b v z = refl

pub in_row-more : (x y z : ℕ) (c : Coord) → in_row x y (z + 1) c ≡ (voxel x y z c || in_row x y z c)
in_row-more x y z c = z_more (c.x == x) (c.y == y) c.z z

x_more : (b : Bool) (v x : ℕ) → (nat_lt v (x + 1) && b) ≡ ((v == x && b) || (nat_lt v x && b))
x_more true v x = grind (arith, nat_tests)
x_more false v x = grind (arith, nat_tests)

pub in_layer-more : (x y : ℕ) (c : Coord) → in_layer (x + 1) y c ≡ (is_in_line x y c || in_layer x y c)
in_layer-more x y c = x_more (c.y == y) c.x x

pub from_layer-more : (y : ℕ) (c : Coord) → 0 < y → from_layer (y - 1) c ≡ (layer (y - 1) c || from_layer y c)
from_layer-more y c h = by c.y
  where
    by : (v : ℕ) → nat_le (y - 1) v ≡ (v == y - 1 || nat_le y v)
    by v = grind (arith, nat_tests)

pub below_layer-more : (y : ℕ) (c : Coord) → below_layer (y + 1) c ≡ (layer y c || below_layer y c)
below_layer-more y c = by c.y
  where
    by : (v : ℕ) → nat_lt v (y + 1) ≡ (v == y || nat_lt v y)
    by v = grind (arith, nat_tests)

-- ---- above a layer, and before the first row

above_y : (b : Bool) (v y : ℕ) → y + 1 ≤ v → (b && v == y) ≡ false
above_y true v y h = grind (arith, nat_tests)
above_y false v y h = refl

above_yz : (a b : Bool) (v y : ℕ) → y + 1 ≤ v → (a && v == y && b) ≡ false
above_yz true b v y h = rw (above_y true v y h) refl
above_yz false b v y h = refl

pub above_row : (x y z : ℕ) (c : Coord) → y + 1 ≤ c.y → in_row x y z c ≡ false
above_row x y z c h = above_yz (c.x == x) (nat_lt c.z z) c.y y h

pub above_layers : (x y : ℕ) (c : Coord) → y + 1 ≤ c.y → in_layer x y c ≡ false
above_layers x y c h = above_y (nat_lt c.x x) c.y y h

no_z : (a b : Bool) (v : ℕ) → (a && b && nat_lt v 0) ≡ false
no_z true true v = grind (arith, nat_tests)
no_z true false v = refl
no_z false b v = refl

pub none_in_row : (x y : ℕ) (c : Coord) → in_row x y 0 c ≡ false
none_in_row x y c = no_z (c.x == x) (c.y == y) c.z

no_x : (b : Bool) (v : ℕ) → (nat_lt v 0 && b) ≡ false
no_x b v = rw (let not_nat_lt : nat_lt v 0 ≡ false = grind (arith, nat_tests) in not_nat_lt) refl

pub none_in_layer : (y : ℕ) (c : Coord) → in_layer 0 y c ≡ false
none_in_layer y c = no_x (c.y == y) c.x
