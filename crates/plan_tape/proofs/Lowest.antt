-- The lowest layer in which two models differ.
use Rattle.std.proofs.Common.{◌≡◌, ◌≢◌, ℕ, ◌+◌, ◌<◌, ◌≤◌, refl, sym, ◌∙◌, arith, Bool, true, false, not, ◌&&◌, ◌||◌, ◌==◌, inl, inr, ap, None, Some}
use Rattle.std.specs.Prelude.{◌⊎◌, IsTrue}
use Rattle.std.proofs.lemmas.Bool.{cases_lt}
use Rattle.std.proofs.lemmas.Bool.Decides.{nat_tests}
use Rattle.vox_geom.specs.declared.coordinate.Coord.{Coord}
use Rattle.vox_geom.specs.Least.{LeastOf}
use Rattle.vox_geom.specs.Point.{point}
use Rattle.vox_geom.specs.Space.{in_space}
use Rattle.vox_geom.proofs.Tests.{equal_by_test}
use Rattle.vox_geom.proofs.Points.{space_by_test}
use Rattle.nano_spec.specs.Matrix.{Matrix, is_full}
use Rattle.vox_planes.specs.Difference.{in_layer_differ}
use Rattle.vox_planes.specs.Voxel.{IsWhole}
use Rattle.plan_tape.specs.Lowest.{IsLowest}
use Rattle.plan_tape.proofs.Parts.{void_out}
use Rattle.plan_tape.proofs.LegalModels.{alike_is_same}

unlike : (a b t : Bool) → (((a && not b) || (b && not a)) && t) ≡ false → t ≡ true → a ≡ b
unlike true true t e f = refl
unlike true false true e f = cc
unlike true false false e f = cc
unlike false true true e f = cc
unlike false true false e f = cc
unlike false false t e f = refl

differs : (a b t : Bool) → IsTrue (((a && not b) || (b && not a)) && t) → a ≢ b
differs true true t e = cc
differs true false t e = λ f. cc
differs false true t e = λ f. cc
differs false false t e = cc

last : (a t : Bool) → IsTrue (a && t) → t ≡ true
last true true e = refl
last true false e = cc
last false t e = cc

-- if no coordinate of a layer differs, both are the same there
pub same_layer : (m n : Matrix) (y : ℕ) → m.resolution ≡ n.resolution
    → LeastOf m.resolution (in_layer_differ m n y) None → (c : Coord) → c.y ≡ y → is_full m c ≡ is_full n c
same_layer m n y e h c f = by (in_space m.resolution (point c)) refl
  where
    here : (u v : ℕ) → u ≡ v → (u == v) ≡ true
    here u v g = grind (arith, nat_tests)

    by : (t : Bool) → in_space m.resolution (point c) ≡ t → is_full m c ≡ is_full n c
    by true i = unlike (is_full m c) (is_full n c) (c.y == y) (h c (space_by_test m.resolution c i)) (here c.y y f)
    by false o = void_out m.resolution m c refl o ∙ sym (void_out m.resolution n c (sym e) o)

pub layers_more : (m n : Matrix) (y : ℕ) → ((c : Coord) → c.y < y → is_full m c ≡ is_full n c)
    → ((c : Coord) → c.y ≡ y → is_full m c ≡ is_full n c) → (c : Coord) → c.y < y + 1 → is_full m c ≡ is_full n c
layers_more m n y below here c l = by (cases_lt c.y y)
  where
    by : (c.y < y) ⊎ (y ≤ c.y) → is_full m c ≡ is_full n c
    by (inl h) = below c h
    by (inr h) = here c (omega arith)

pub lowest_at : (m n : Matrix) (y : ℕ) (c : Coord) → y < m.resolution
    → ((d : Coord) → d.y < y → is_full m d ≡ is_full n d) → LeastOf m.resolution (in_layer_differ m n y) (Some c)
    → IsLowest m n y
lowest_at m n y c l below h = record {
  within = l;
  below = below;
  at = c;
  here = equal_by_test c.y y (last ((is_full m c && not (is_full n c)) || (is_full n c && not (is_full m c))) (c.y == y) h.passes);
  differ = differs (is_full m c) (is_full n c) (c.y == y) h.passes;
}

pub all_same : (m n : Matrix) (y : ℕ) → IsWhole m → IsWhole n → m.resolution ≡ n.resolution → m.resolution ≤ y
    → ((c : Coord) → c.y < y → is_full m c ≡ is_full n c) → m ≡ n
all_same m n y v w e l h = alike_is_same m n v w e (λ c i. let along_y = i.y in h c (omega arith))

-- models with a difference are not equal
pub not_same : (m n : Matrix) (y : ℕ) → IsLowest m n y → m ≢ n
not_same m n y h e = h.differ (ap (λ (k : Matrix). is_full k h.at) e)
