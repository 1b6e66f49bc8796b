-- The voxels after painting a voxel and sweeping over layers.
use Rattle.std.proofs.Common.{◌≡◌, ℕ, ◌+◌, ◌-◌, ◌*◌, ◌<◌, ◌≤◌, refl, sym, ◌∙◌, ap, subst, arith, Bool, true, false, cond, length, mul-le-mul}
use Rattle.std.specs.Prelude.{ℤ}
use Rattle.vox_geom.specs.declared.coordinate.Coord.{Coord}
use Rattle.vox_geom.specs.Point.{point, plus, coord, down}
use Rattle.vox_geom.specs.Space.{IsInSpace, coordinate}
use Rattle.vox_geom.proofs.Sums.{unsigned_less_one, unsigned_plus_none}
use Rattle.nano_spec.specs.declared.commands.Command.{Command}
use Rattle.nano_spec.specs.Matrix.{Matrix, is_full}
use Rattle.nano_spec.specs.Spelling.{spelling}
use Rattle.vox_planes.specs.Voxel.{with_voxel}
use Rattle.plan_tape.specs.Fissions.{is_fission}
use Rattle.plan_tape.specs.Leg.{Moves, moves_to}
use Rattle.plan_tape.specs.Progress.{TapeState, Writes, beside, spot}
use Rattle.layer_planner.specs.Painting.{CanPaint, IsPartlyBuilt, Paints, layer_bytes}
use Rattle.plan_tape.specs.Parts.{voxel}
use Rattle.layer_planner.proofs.Paints.{painted_set, voxel-is}
use Rattle.plan_tape.proofs.ClearWays.{no_moves}
use Rattle.plan_tape.proofs.Fissions.{moves_make_none, write_makes_none}

-- ---- a voxel that is written from above

pub below_spot : (p : TapeState) (x y z : ℕ) → spot p.bots ≡ coord x (y + 1) z → beside p down ≡ coord x y z
below_spot p x y z e = ap (λ (c : Coord). coordinate (plus (point c) down)) e ∙ (λ i. record { x = unsigned_plus_none x i; y = unsigned_less_one y i; z = unsigned_plus_none z i })

not_there : (y : ℕ) (q c : Coord) → y + 1 ≤ q.y → c.y ≡ y → voxel c.x c.y c.z q ≡ false
not_there y q c l e = by (voxel c.x c.y c.z q) refl
  where
    by : (t : Bool) → voxel c.x c.y c.z q ≡ t → voxel c.x c.y c.z q ≡ false
    by false f = f
    by true f = let same_y = ap (λ (d : Coord). d.y) (voxel-is q c f) in absurd (omega arith)

pub wrote : (a b c : TapeState) (goal : Matrix) (k : Command) (v : Bool) (cost : ℤ) (x y z : ℕ) → CanPaint a goal y
    → x < a.matrix.resolution → z < a.matrix.resolution → Moves a b (coord x (y + 1) z)
    → Writes b c k (with_voxel b.matrix (beside b down) v) b.harmonics b.bots cost → length (spelling k) ≡ 1
    → is_fission k ≡ false → is_full goal (coord x y z) ≡ v
    → Paints a c goal (voxel x y z) (coord x (y + 1) z) (coord x (y + 1) z) 1
wrote a b c goal k v cost x y z ready hx hz m w s n e =
    let sweep = ready.sweep in
    let stands : spot b.bots ≡ coord x (y + 1) z = m.there in
    let stays : spot c.bots ≡ coord x (y + 1) z = ap spot w.bots_are ∙ stands in
    let em : c.matrix ≡ with_voxel a.matrix (coord x y z) v = w.matrix ∙ (λ i. with_voxel (m.matrix i) (below_spot b x y z stands i) v) in
    let er : c.matrix.resolution ≡ a.matrix.resolution = ap (λ (q : Matrix). q.resolution) em in
    let high = ready.within in
    let at : IsInSpace a.matrix.resolution (coord x y z) = record { x = hx; y = omega arith; z = hz } in
    let painted : IsPartlyBuilt c.matrix a.matrix goal (voxel x y z) = subst (λ (q : Matrix). IsPartlyBuilt q a.matrix goal (voxel x y z)) (sym em) (painted_set a.matrix goal (coord x y z) v at e) in
    let none : moves_to (spot c.bots) (coord x (y + 1) z) ≡ 0 = ap (λ (q : Coord). moves_to q (coord x (y + 1) z)) stays ∙ no_moves (coord x (y + 1) z) in
    record {
      source = w.source ∙ m.source;
      resolution = er;
      painted = painted;
      ready = record {
        alone = ap length w.bots_are ∙ m.alone;
        unsplit = write_makes_none b c k w.commands n ∙ (moves_make_none a b (coord x (y + 1) z) m ∙ sweep.unsplit);
        high = w.harmonics ∙ (m.harmonics ∙ sweep.high);
        full = w.profile ∙ (m.profile ∙ sweep.full);
        same = sweep.same ∙ sym er;
        placed = rw (stays, er) (record { x = hx; y = high; z = hz });
        here = λ q l. painted q ∙ (ap (λ t. cond t (is_full goal q) (is_full a.matrix q)) (not_there y q (coord x y z) (let same_y = ap (λ (d : Coord). d.y) stays in omega arith) refl) ∙ ready.above q (let same_y = ap (λ (d : Coord). d.y) stays in omega arith));
      };
      bytes_are = let its_bytes_are = w.bytes_are in let bytes_are = m.bytes_are in omega arith;
      steps_are = let its_steps = w.steps in let steps = m.steps in omega arith;
    }

-- ---- layers

pub fewer_layers : (r y n : ℕ) → (r - 1 - y) * n ≤ (r - 1) * n
fewer_layers r y n = mul-le-mul (let at_most_r : r - 1 - y ≤ r - 1 = omega arith in at_most_r) (let at_most_n : n ≤ n = omega arith in at_most_n)

-- both sweeps together
pub spent : (built cleared shifted start ra rb rs rt : ℕ) → built ≤ shifted + (rb - 1) * layer_bytes rb
    → shifted ≤ cleared + 2 → cleared ≤ start + (ra - 1) * layer_bytes ra → start ≤ rs + 1 → rb ≡ rt → ra ≡ rt → rs ≡ rt
    → built ≤ rt + 3 + 2 * ((rt - 1) * layer_bytes rt)
spent built cleared shifted start ra rb rs rt p m q s eb ea es =
    let product_is = ap (λ r. (r - 1) * layer_bytes r) eb in
    let same_product = ap (λ r. (r - 1) * layer_bytes r) ea in
    omega arith
