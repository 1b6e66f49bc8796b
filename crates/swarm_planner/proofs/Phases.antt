-- The phases of the plan, and the sum of their steps.
use Rattle.std.proofs.Common.{◌≡◌, ℕ, ◌+◌, ◌-◌, ◌*◌, ◌<◌, ◌≤◌, sym, ◌∙◌, ap, subst, arith, mul-le-mul}
use Rattle.vox_geom.specs.declared.coordinate.Coord.{Coord}
use Rattle.nano_spec.specs.Legal.{IsLegal}
use Rattle.nano_spec.specs.Matrix.{Matrix, is_full}
use Rattle.vox_planes.specs.Voxel.{IsWhole}
use Rattle.plan_tape.specs.Leg.{distance}
use Rattle.plan_tape.specs.Progress.{IsVoidFrom, TapeState, spot}
use Rattle.plan_tape.proofs.LegalModels.{alike_is_same}
use Rattle.swarm_planner.specs.Building.{Builds, CanBuild, swarm_layer_steps, layers, crew_steps_to}
use Rattle.swarm_planner.specs.Crew.{MayLead, places}
use Rattle.swarm_planner.specs.Lineup.{HasGathered, IsSpreadOver, SpreadsOver}
use Rattle.swarm_planner.specs.Phases.{IsErected, phase_steps}
use Rattle.swarm_planner.specs.Strips.{count, last, bot_row, strip_row}
use Rattle.swarm_planner.specs.Bounds.{width}
use Rattle.swarm_planner.proofs.Covering.{built_is}
use Rattle.swarm_planner.proofs.Rows.{narrow, spot_of_row}
use Rattle.swarm_planner.proofs.Splitting.{places-lined_up}
use Rattle.vox_geom.specs.Point.{coord}

-- ---- the number of steps

pub layers_fit : (r : ℕ) → r ≤ 400 → (r - 1) * swarm_layer_steps r ≤ 399 * 24060
layers_fit r h =
    let is_narrow = narrow r h in
    let long : 3 * r + 1 ≤ 1201 = omega arith in
    let lines : width r * (3 * r + 1) ≤ 20 * 1201 = mul-le-mul is_narrow long in
    let fewer : r - 1 ≤ 399 = omega arith in
    let layer : swarm_layer_steps r ≤ 24060 = omega arith in
    mul-le-mul fewer layer

sum_of : (s w : ℕ)
    → s * (w * (3 * (s + 1) + 1) + w + 1) + 823 + 20 + (s + 1) + 2 ≤ 4 * w * (s + 1) * (s + 1) + 8 * (s + 1) + 2000
sum_of s w = omega arith

pub total : (r : ℕ) → 1 ≤ r → phase_steps r + 20 + r + 2 ≤ 4 * width r * r * r + 8 * r + 2000
total r h =
    let sum_is : r - 1 + 1 ≡ r = omega arith in
    subst (λ n. (r - 1) * (width r * (3 * n + 1) + width r + 1) + 823 + 20 + n + 2 ≤ 4 * width r * n * n + 8 * n + 2000) sum_is (sum_of (r - 1) (width r))

-- ---- the crew is spread

may_begin : (r : ℕ) → 3 ≤ r → r ≤ 400 → MayLead r (coord 1 1 0)
may_begin r s m = record { some = s; most = m; first = omega arith; wide = omega arith; y = omega arith; z = omega arith }

spread_places : (p : TapeState) (n : ℕ) → IsSpreadOver p n → n ≡ count p.matrix.resolution
    → places p.bots ≡ strip_row p.matrix.resolution (coord 1 1 0)
spread_places p n s e = ap places s.bots_are ∙ (places-lined_up 1 (bot_row (width p.matrix.resolution) (last p.matrix.resolution) n (coord 1 1 0)) ∙ ap (λ k. bot_row (width p.matrix.resolution) (last p.matrix.resolution) k (coord 1 1 0)) e)

module _ (a b : TapeState) (most : ℕ) (spread : SpreadsOver a b (count a.matrix.resolution) most) where
  all : count a.matrix.resolution ≡ count b.matrix.resolution
  all = ap (λ (m : Matrix). count m.resolution) (sym spread.matrix)

  pub begins_at : spot b.bots ≡ coord 1 1 0
  begins_at = spot_of_row b.matrix.resolution b.bots (coord 1 1 0) (may_begin b.matrix.resolution spread.spread.some spread.spread.most) (spread_places b (count a.matrix.resolution) spread.spread all)

  pub can_build : (target : Matrix) → target.resolution ≡ b.matrix.resolution → CanBuild b target
  can_build target same = record {
    swarm = spread.spread.swarm;
    row = record {
      places_are = spread_places b (count a.matrix.resolution) spread.spread all ∙ ap (strip_row b.matrix.resolution) (sym begins_at);
      leads = subst (λ (c : Coord). MayLead b.matrix.resolution c) (sym begins_at) (may_begin b.matrix.resolution spread.spread.some spread.spread.most);
    };
    same = same;
    here = λ c h. spread.spread.void c (omega arith);
  }

  pub no_way_yet : distance (spot b.bots) (coord 1 1 0) ≡ 0
  no_way_yet = ap (λ c. distance c (coord 1 1 0)) begins_at

-- ---- the target is built

pub erected : (a b c d : TapeState) (target : Matrix) → a.steps ≤ 3 → SpreadsOver a b (count a.matrix.resolution) 400
    → IsLegal target → IsWhole d.matrix → IsWhole target → target.resolution ≡ a.matrix.resolution
    → Builds b c target (layers b.matrix.resolution (b.matrix.resolution - 1)) (coord 1 1 0)
    (coord 1 b.matrix.resolution 0) ((b.matrix.resolution - 1) * swarm_layer_steps b.matrix.resolution)
    → HasGathered c d ((spot c.bots).z + 420) → IsErected d target
erected a b c d target few s h wd wt same k g =
    let er : b.matrix.resolution ≡ target.resolution = ap (λ (m : Matrix). m.resolution) s.matrix ∙ sym same in
    let wide : c.matrix.resolution ≡ target.resolution = k.resolution ∙ er in
    let leads = k.ready.row.leads in
    let leads_wide = leads.wide in
    let y = leads.y in
    let is_narrow = narrow c.matrix.resolution leads.most in
    let none = no_way_yet a b 400 s in
    let ss = s.steps_are in
    let ks : crew_steps_to c (coord 1 target.resolution 0) ≤ crew_steps_to b (coord 1 1 0) + (target.resolution - 1) * swarm_layer_steps target.resolution = subst (λ r. crew_steps_to c (coord 1 r 0) ≤ crew_steps_to b (coord 1 1 0) + (r - 1) * swarm_layer_steps r) er k.steps_are in
    let gs = g.steps_are in
    let gx = ap (λ (q : Coord). q.x) g.there in
    let gy = ap (λ (q : Coord). q.y) g.there in
    let gz = ap (λ (q : Coord). q.z) g.there in
    let most = together d.steps c.steps b.steps a.steps (spot d.bots).x (spot d.bots).y (spot c.bots) (distance (spot b.bots) (coord 1 1 0)) ((target.resolution - 1) * swarm_layer_steps target.resolution) target.resolution gs gx gy ks ss few none (omega (arith, leads_wide, is_narrow)) (omega (arith, y, wide)) in
    record {
      swarm = g.swarm;
      alone = g.alone;
      matrix = alike_is_same d.matrix target wd wt (ap (λ (m : Matrix). m.resolution) g.matrix ∙ wide) (λ q _. ap (λ (m : Matrix). is_full m q) g.matrix ∙ built_is c.matrix b.matrix target b.matrix.resolution h er s.spread.void k.raised q);
      clear = subst (λ (m : Matrix). IsVoidFrom m (spot d.bots).y) (sym g.matrix) (subst (λ y. IsVoidFrom c.matrix y) (sym gy) k.ready.here);
      steps_are = omega (arith, most, gz);
    }
  where
    together : (d c b a x y : ℕ) (q : Coord) (way n r : ℕ) → d ≤ c + (q.z + 420) → x ≡ q.x → y ≡ q.y
        → c + distance q (coord 1 r 0) ≤ b + way + n → b ≤ a + 400 → a ≤ 3 → way ≡ 0 → q.x ≤ 20 → q.y < r
        → d + x + y ≤ n + 823 + 20 + r
    together d c b a x y q way n r h ex ey k s f e l m = omega arith
