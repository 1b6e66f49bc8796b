use Rattle.std.proofs.Common.{◌≡◌, ◌∙◌, ℕ, ◌+◌, ◌-◌, ◌<◌, ◌≤◌, ap, subst, arith, [], ◌∷◌, Bool, false, of_z, pos, to_z, w16}
use Rattle.std.specs.Prelude.{ℤ, neg_ℤ, ◌-ℤ◌}
use Rattle.std.proofs.lemmas.Int.{ints}
use Rattle.std.proofs.lemmas.Result.{on_ok_weaker}
use Rattle.vox_geom.specs.declared.difference.Diff.{Diff}
use Rattle.vox_geom.specs.Region.{Span}
use Rattle.nano_spec.specs.declared.commands.Command.TheVariants.{GVoid}
use Rattle.nano_spec.specs.Act.{acts}
use Rattle.step_order.specs.Acting.{with_region}
use Rattle.step_order.specs.Unbroken.{AreOneGroup}
use Rattle.plan_tape.specs.Crowd.{AllStep}
use Rattle.plan_tape.specs.Progress.{spot, state_of}
use Rattle.void_planner.specs.Square.{CanStand, FourVoid, four}
use Rattle.void_planner.specs.Tiles.{far_of, tile}
use Rattle.void_planner.proofs.Corners.{can_void, over, voided_together, voids_together}
use Rattle.void_planner.proofs.four.void_below.Goals as goal
use Rattle.vox_geom.specs.Point.{coord}

forth : (f r : ℕ) → f ≡ far_of r → to_z w16 f ≡ pos f
forth f r e = omega (arith, ints)

back : (f r : ℕ) → f ≡ far_of r → to_z w16 (of_z w16 (pos 0 -ℤ to_z w16 f)) ≡ neg_ℤ (pos f)
back f r e = omega (arith, ints)

overs : (n : Diff) (a b x z : ℤ) → n ≡ over a b → a ≡ x → b ≡ z → n ≡ over x z
overs n a b x z e f g = e ∙ (λ i. over (f i) (g i))

raised : (y : ℕ) → 1 ≤ y → y ≡ y - 1 + 1
raised y h = omega arith

pub paint_all-requires-clause-group : goal.paint_all-requires-clause-group
paint_all-requires-clause-group c =
    let tape = c.args.tape.now in
    let at = spot tape.bots in
    let square = c.requires.square in
    let resolution = tape.matrix.resolution in
    let sx = square.stand.x in
    let sy = square.stand.y in
    let sz = square.stand.z in
    let forth_here = forth c.args.far resolution c.requires.far in
    let back_here = back c.args.far resolution c.requires.far in
    can_void tape c.args.far at.x (at.y - 1) at.z _ _ _ _ _ _ _ _ square.full square.wide sx (omega arith) sz c.down.ensures c.down-2.ensures c.down-3.ensures c.down-4.ensures
    (overs _ _ _ _ _ c.across.ensures forth_here forth_here) (overs _ _ _ _ _ c.across-2.ensures back_here forth_here) (overs _ _ _ _ _ c.across-3.ensures back_here back_here) (overs _ _ _ _ _ c.across-4.ensures forth_here back_here)
    (square.bots_are ∙ ap (λ n. four (coord at.x n at.z) c.args.far c.args.far) (raised at.y c.requires.above))

voided : (c : goal.After-paint_all) → ((region : Span) (full : Bool) → AreOneGroup (state_of c.args.tape.now) region
    full (acts c.args.tape.now.bots (GVoid c.down.result c.across.result ∷ GVoid c.down-2.result c.across-2.result
    ∷ GVoid c.down-3.result c.across-3.result ∷ GVoid c.down-4.result c.across-4.result ∷ [])) → AllStep c.args.tape.now
    c.paint_all.new.self (GVoid c.down.result c.across.result ∷ GVoid c.down-2.result c.across-2.result
    ∷ GVoid c.down-3.result c.across-3.result ∷ GVoid c.down-4.result c.across-4.result ∷ [])
    (with_region c.args.tape.now.matrix region full) c.args.tape.now.harmonics c.args.tape.now.bots) → FourVoid
    c.args.tape.now c.paint_all.new.self c.args.far (tile c.args.far
    (coord (spot c.args.tape.now.bots).x ((spot c.args.tape.now.bots).y - 1) (spot c.args.tape.now.bots).z))
    (with_region c.args.tape.now.matrix (tile c.args.far
    (coord (spot c.args.tape.now.bots).x ((spot c.args.tape.now.bots).y - 1) (spot c.args.tape.now.bots).z)) false)
voided c all =
    let tape = c.args.tape.now in
    let at = spot tape.bots in
    let square = c.requires.square in
    let resolution = tape.matrix.resolution in
    let sx = square.stand.x in
    let sy = square.stand.y in
    let sz = square.stand.z in
    let forth_here = forth c.args.far resolution c.requires.far in
    let back_here = back c.args.far resolution c.requires.far in
    let up = raised at.y c.requires.above in
    let bots = square.bots_are ∙ ap (λ n. four (coord at.x n at.z) c.args.far c.args.far) up in
    let low : at.y - 1 < resolution = omega arith in
    voided_together tape c.args.far at.x (at.y - 1) at.z _ _ _ _ _ _ _ _ square.full square.wide sx low sz c.down.ensures c.down-2.ensures c.down-3.ensures c.down-4.ensures
    (overs _ _ _ _ _ c.across.ensures forth_here forth_here) (overs _ _ _ _ _ c.across-2.ensures back_here forth_here) (overs _ _ _ _ _ c.across-3.ensures back_here back_here) (overs _ _ _ _ _ c.across-4.ensures forth_here back_here)
    bots c.paint_all.new.self square.high (subst (λ n. CanStand tape.matrix c.args.far c.args.far (coord at.x n at.z)) up square.stand)
    (all (tile c.args.far (coord at.x (at.y - 1) at.z)) false
    (voids_together tape c.args.far at.x (at.y - 1) at.z _ _ _ _ _ _ _ _ square.full square.wide sx low sz c.down.ensures c.down-2.ensures c.down-3.ensures c.down-4.ensures
    (overs _ _ _ _ _ c.across.ensures forth_here forth_here) (overs _ _ _ _ _ c.across-2.ensures back_here forth_here) (overs _ _ _ _ _ c.across-3.ensures back_here back_here) (overs _ _ _ _ _ c.across-4.ensures forth_here back_here)
    bots))

pub returns : goal.returns
returns c = on_ok_weaker c.paint_all.result (voided c) c.paint_all.ensures.ok
