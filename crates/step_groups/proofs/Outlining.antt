-- One bounding box of all that is volatile for some bots, bot by bot.
use Rattle.std.proofs.Common.{◌≡◌, ℕ, ◌≤◌, refl, ap, sym, ◌∙◌, subst, arith, inl, inr, Bool, true, false, ◌&&◌, ◌||◌, List, [], ◌∷◌, ◌++◌, pos}
use Rattle.std.specs.Prelude.{IsTrue}
use Rattle.std.proofs.lemmas.Bool.Decides.{nat_tests}
use Rattle.vox_geom.specs.declared.coordinate.Coord.{Coord}
use Rattle.vox_geom.specs.declared.difference.Diff.{Diff}
use Rattle.vox_geom.specs.Point.{Point, point, plus}
use Rattle.vox_geom.specs.Region.{Corners, IsOrdered, between, is_between, is_within, just, span}
use Rattle.vox_geom.proofs.Truths.{first_of_two, or_false, second_of_two}
use Rattle.nano_spec.specs.declared.commands.Command.TheVariants.{Fill, LMove, SMove}
use Rattle.nano_spec.specs.declared.system.Bot.{Bot}
use Rattle.nano_spec.specs.Act.{Act}
use Rattle.step_groups.specs.declared.one_pass.Outline.{Outline}
use Rattle.step_groups.specs.Outlines.{LiesBetween, IsOutlineOf, IsVolatileFor, TakesIn}
use Rattle.step_groups.specs.Judging.{act}
use Rattle.step_groups.proofs.Lone.{any_more, apart_more}
use Rattle.step_groups.proofs.Volatiles.{end_within, start_within}

-- ---- a box and its ends

ends : (l h v : ℕ) → l ≤ h → IsTrue (is_between (pos l) (pos h) (pos v)) → (l ≤ v) × (v ≤ h)
ends l h v o t = (grind (arith, nat_tests), grind (arith, nat_tests))

pub inside_box : (k : Corners) (c : Coord) → IsOrdered k → IsTrue (is_within (span k) (point c))
    → LiesBetween k.low k.high c
inside_box k c o t =
    let between_x : Bool = is_between (pos k.low.x) (pos k.high.x) (pos c.x) in
    let between_y : Bool = is_between (pos k.low.y) (pos k.high.y) (pos c.y) in
    let between_z : Bool = is_between (pos k.low.z) (pos k.high.z) (pos c.z) in
    let ex = ends k.low.x k.high.x c.x o.x (first_of_two between_x between_y (first_of_two (between_x && between_y) between_z t)) in
    let ey = ends k.low.y k.high.y c.y o.y (second_of_two between_x between_y (first_of_two (between_x && between_y) between_z t)) in
    let ez = ends k.low.z k.high.z c.z o.z (second_of_two (between_x && between_y) between_z t) in
    record { from_x = ex.0; from_y = ey.0; from_z = ez.0; to_x = ex.1; to_y = ey.1; to_z = ez.1 }

-- ---- a bot's volatile coordinates are in the box between its position and the voxel that it names

either : (a b : Bool) (c : Bool) → (IsTrue a → IsTrue c) → (IsTrue b → IsTrue c) → IsTrue (a || (b || false)) → IsTrue c
either true b c f g h = f refl
either false true c f g h = g refl
either false false c f g h = cc

module _ (bot : Bot) (k : Corners) (to : Coord) (around : (p : Point) → is_within (span k) p ≡ is_within (between (point bot.pos) (point to)) p) where
  pub way_within : (d : Diff) → point to ≡ plus (point bot.pos) d → (c : Coord) → IsVolatileFor (act bot (SMove d)) c
      → IsTrue (is_within (span k) (point c))
  way_within d e c h =
      let reached : Point = plus (point bot.pos) d in
      around (point c) ∙ (ap (λ (w : Point). is_within (between (point bot.pos) w) (point c)) e ∙ (sym (or_false (is_within (between (point bot.pos) reached) (point c))) ∙ h))

  pub named_within : (d : Diff) → point to ≡ plus (point bot.pos) d → (c : Coord) → IsVolatileFor (act bot (Fill d)) c
      → IsTrue (is_within (span k) (point c))
  named_within d e c h =
      let reached : Point = point bot.pos in
      let place_reached : Point = plus reached d in
      around (point c)
      ∙ (ap (λ (w : Point). is_within (between reached w) (point c)) e
      ∙ either (is_within (just reached) (point c)) (is_within (just place_reached) (point c)) (is_within (between reached place_reached) (point c))
      (start_within reached place_reached (point c)) (end_within reached place_reached (point c)) h)

pub ways_within : (bot : Bot) (d e : Diff) (mid to : Coord) (k l all : Corners) → point mid ≡ plus (point bot.pos) d
    → point to ≡ plus (point mid) e
    → ((p : Point) → is_within (span k) p ≡ is_within (between (point bot.pos) (point mid)) p)
    → ((p : Point) → is_within (span l) p ≡ is_within (between (point mid) (point to)) p)
    → ((c : Coord) → IsTrue (is_within (span k) (point c)) → IsTrue (is_within (span all) (point c)))
    → ((c : Coord) → IsTrue (is_within (span l) (point c)) → IsTrue (is_within (span all) (point c))) → (c : Coord)
    → IsVolatileFor (act bot (LMove d e)) c → IsTrue (is_within (span all) (point c))
ways_within bot d e mid to k l all half whole first second f g c h =
    let reached : Point = point bot.pos in
    let place_reached : Point = plus reached d in
    let reached_then : Point = plus place_reached e in
    let end : point to ≡ reached_then = whole ∙ ap (λ w. plus w e) half in
    either (is_within (between reached place_reached) (point c)) (is_within (between place_reached reached_then) (point c)) (is_within (span all) (point c))
    (λ t. f c (first (point c) ∙ (ap (λ (w : Point). is_within (between reached w) (point c)) half ∙ t)))
    (λ t. g c (second (point c) ∙ ((λ i. is_within (between (half i) (end i)) (point c)) ∙ t))) h

-- ---- one bot more

pub outline_more : (xs more : List Act) (a : Act) (old new : Outline) → IsOutlineOf old xs → more ≡ xs ++ a ∷ []
    → TakesIn (IsVolatileFor a) old new → IsOutlineOf new more
outline_more xs more a old new h e t = subst (λ (ys : List Act). IsOutlineOf new ys) (sym e) (record {
  around = λ c v. elim (any_more c xs a v) [ inl o ↦ t.keeps c (h.around c o) | inr o ↦ t.takes c o ];
  apart = λ f. apart_more xs a (h.apart (t.was f)) (λ c v w. t.beside f c v (h.around c w));
})
