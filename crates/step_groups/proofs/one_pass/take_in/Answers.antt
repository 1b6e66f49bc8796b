use Rattle.std.proofs.Common.{ap, arith, sym, subst}
use Rattle.vox_geom.specs.declared.coordinate.Coord.{Coord}
use Rattle.step_groups.specs.Outlines.{LiesBetween}
use Rattle.step_groups.proofs.Outlining.{inside_box}
use Rattle.step_groups.proofs.one_pass.take_in.Goals as goal

pub returns-then-outline : goal.returns-then-outline
returns-then-outline c =
    let hull = c.args.hull.now in
    record {
      keeps = λ d i. record {
        from_x = omega (arith, c.min.ensures, i.from_x);
        from_y = omega (arith, c.min-2.ensures, i.from_y);
        from_z = omega (arith, c.min-3.ensures, i.from_z);
        to_x = omega (arith, c.max.ensures, i.to_x);
        to_y = omega (arith, c.max-2.ensures, i.to_y);
        to_z = omega (arith, c.max-3.ensures, i.to_z);
      };
      takes = λ d t.
          let in_box = inside_box hull d c.low-low.ensures.ordered t in
          record {
            from_x = omega (arith, c.min.ensures, in_box.from_x, ap (λ (v : Coord). v.x) c.low-low.ensures.value);
            from_y = omega (arith, c.min-2.ensures, in_box.from_y, ap (λ (v : Coord). v.y) c.low-low.ensures.value);
            from_z = omega (arith, c.min-3.ensures, in_box.from_z, ap (λ (v : Coord). v.z) c.low-low.ensures.value);
            to_x = omega (arith, c.max.ensures, in_box.to_x, ap (λ (v : Coord). v.x) c.high-high.ensures.value);
            to_y = omega (arith, c.max-2.ensures, in_box.to_y, ap (λ (v : Coord). v.y) c.high-high.ensures.value);
            to_z = omega (arith, c.max-3.ensures, in_box.to_z, ap (λ (v : Coord). v.z) c.high-high.ensures.value);
          };
      was = λ e. c.if-outline.true;
      beside = λ e d t i. c.lie_beside-beside.ensures e d
          (subst (λ (l : Coord). LiesBetween l c.high-high.result d) (sym c.low-low.ensures.value) (subst (λ (h : Coord). LiesBetween hull.low h d) (sym c.high-high.ensures.value) (inside_box hull d c.low-low.ensures.ordered t))) i;
    }
