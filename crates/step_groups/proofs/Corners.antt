-- The remaining rules of a group command in space.
use Rattle.std.proofs.Common.{◌≡◌, ℕ, ◌+◌, refl, ap, ◌∙◌, sym, arith, Bool, true, false, ◌&&◌, ◌||◌, not, cond, List, [], ◌∷◌, Option, Some, None, find, pos, min, max}
use Rattle.std.specs.Prelude.{IsFalse, IsTrue}
use Rattle.std.specs.List.{list_any}
use Rattle.std.proofs.lemmas.Bool.Decides.{nat_tests}
use Rattle.std.proofs.lemmas.List.Folds.{list_any-append}
use Rattle.vox_geom.specs.declared.coordinate.Coord.{Coord}
use Rattle.vox_geom.specs.declared.difference.Diff.{Diff}
use Rattle.vox_geom.specs.Point.{Point, point, plus}
use Rattle.vox_geom.specs.Region.{Corners, Span, between, corners, span, is_within, dimension, differs}
use Rattle.vox_geom.specs.Space.{coordinate, in_space}
use Rattle.vox_geom.proofs.Covers.{covers}
use Rattle.vox_geom.proofs.Truths.{first_of_two, or_false}
use Rattle.nano_spec.specs.Act.{Act, position}
use Rattle.nano_spec.specs.First.{first_value}
use Rattle.nano_spec.specs.Group.{members}
use Rattle.nano_spec.specs.Matrix.{is_full, all_of}
use Rattle.nano_spec.specs.Rules.{here, broken_by, corners_of}
use Rattle.nano_spec.specs.State.{State}
use Rattle.nano_spec.specs.declared.commands.Command.{Command}
use Rattle.nano_spec.specs.declared.commands.Command.TheVariants.{GFill, GVoid}
use Rattle.nano_spec.specs.declared.outcomes.Broken.{Broken}
use Rattle.nano_spec.specs.declared.outcomes.Rule.TheVariants.{OutOfSpace, Blocked, InRegion, GroupShape}
use Rattle.nano_spec.specs.declared.system.Bot.{Bot}
use Rattle.step_groups.specs.Deeds.{IsDeed}
use Rattle.step_groups.specs.declared.deed.Deed.TheVariants.{Edits}
use Rattle.step_groups.specs.Judging.{act, are_misshapen, is_alone, corner_list, first_fault, later_rules}
use Rattle.step_groups.proofs.BlockedWays.{only_next, skip, unblocked}
use Rattle.step_groups.proofs.Named.{far_of, last_named, near_of, point_of}

-- whether the members of a bot's group do not fit a region
abbrev pub misshape : List Act → Act → Span → Bool
misshape all a s = are_misshapen (members all a) (dimension s)

last_two : (x y : Option Broken) → first_value (x ∷ None ∷ y ∷ []) ≡ first_value (x ∷ y ∷ [])
last_two (Some b) y = refl
last_two None y = refl

group_rest : (s : State) (step : ℕ) (bot : Bot) (a : Act) (inside x y t u : Bool) → IsTrue inside → x ≡ t → y ≡ u
    → first_value (broken_by step OutOfSpace bot.bid (here a (not inside))
    ∷ broken_by step Blocked bot.bid (find (λ c. is_full s.matrix c && false) (all_of s.matrix)) ∷ None
    ∷ broken_by step InRegion bot.bid (cond (x || false) (Some bot.pos) None) ∷ None
    ∷ broken_by step GroupShape bot.bid (cond (y || false) (Some bot.pos) None) ∷ []) ≡ first_value
    (broken_by step InRegion bot.bid (cond t (Some bot.pos) None)
    ∷ broken_by step GroupShape bot.bid (cond u (Some bot.pos) None) ∷ [])
group_rest s step bot a inside x y t u i g h =
    let blocked : Option Broken = broken_by step Blocked bot.bid (find (λ c. is_full s.matrix c && false) (all_of s.matrix)) in
    let in_region : Option Broken = broken_by step InRegion bot.bid (cond (x || false) (Some bot.pos) None) in
    let group_shape : Option Broken = broken_by step GroupShape bot.bid (cond (y || false) (Some bot.pos) None) in
    (skip step bot.bid OutOfSpace a (not inside) (blocked ∷ None ∷ in_region ∷ None ∷ group_shape ∷ []) (ap not i)
    ∙ (unblocked step bot.bid s.matrix (all_of s.matrix) (None ∷ in_region ∷ None ∷ group_shape ∷ []) ∙ last_two in_region group_shape))
    ∙ (λ n. first_value (broken_by step InRegion bot.bid (cond ((or_false x ∙ g) n) (Some bot.pos) None) ∷ broken_by step GroupShape bot.bid (cond ((or_false y ∙ h) n) (Some bot.pos) None) ∷ []))

axis : (a b : ℕ) → differs (pos (min a b)) (pos (max a b)) ≡ differs (pos a) (pos b)
axis a b = grind (arith, nat_tests)

-- a region has the dimension of its two corners
dimension_is : (a b : Coord) → dimension (span (corners a b)) ≡ dimension (between (point a) (point b))
dimension_is a b = λ i. axis a.x b.x i + axis a.y b.y i + axis a.z b.z i

-- ---- a group command whose region is in space

module _ (s : State) (all : List Act) (step : ℕ) (bot : Bot) (near far : Coord) (region : Corners) (corners_are : region ≡ corners near far) where
  -- the region between the two named points
  module _ (d f : Diff) (inside : IsTrue (in_space s.matrix.resolution (plus (point bot.pos) d) && (in_space s.matrix.resolution (plus (plus (point bot.pos) d) f) && true))) (near_is : near ≡ coordinate (plus (point bot.pos) d)) (far_is : far ≡ coordinate (plus (plus (point bot.pos) d) f)) where
    abbrev p : Point
    p = plus (point bot.pos) d

    abbrev q : Point
    q = plus p f

    named : between (point near) (point far) ≡ between p q
    named =
        let in_p = first_of_two (in_space s.matrix.resolution p) (in_space s.matrix.resolution q && true) inside in
        let in_q = last_named (in_space s.matrix.resolution p) (in_space s.matrix.resolution q) inside in
        λ i. between ((ap point near_is ∙ point_of s.matrix.resolution p in_p) i) ((ap point far_is ∙ point_of s.matrix.resolution q in_q) i)

    same_place : is_within (between p q) (point bot.pos) ≡ is_within (span region) (point bot.pos)
    same_place = ap (λ w. is_within w (point bot.pos)) (sym named) ∙ sym (covers region near far (point bot.pos) corners_are)

    same_dimension : dimension (between p q) ≡ dimension (span region)
    same_dimension = ap dimension (sym named) ∙ (sym (dimension_is near far) ∙ ap (λ k. dimension (span k)) (sym corners_are))

  left : (k : Command) (full together : Bool) → IsFalse (is_alone k)
      → IsDeed s.matrix.resolution bot k (Edits near far full together) → (t u : Bool)
      → is_within (span region) (point bot.pos) ≡ t → misshape all (act bot k) (span region) ≡ u
      → first_fault s all step (act bot k) later_rules ≡ first_value
      (broken_by step InRegion bot.bid (cond t (Some bot.pos) None)
      ∷ broken_by step GroupShape bot.bid (cond u (Some bot.pos) None) ∷ [])
  left (GFill d f) full together alone h t u g e =
      let near_is = ap near_of h.is in
      let far_is = ap far_of h.is in
      group_rest s step bot (act bot (GFill d f)) _ _ _ t u h.stays (same_place d f h.stays near_is far_is ∙ g) (ap (are_misshapen (members all (act bot (GFill d f)))) (same_dimension d f h.stays near_is far_is) ∙ e)
  left (GVoid d f) full together alone h t u g e =
      let near_is = ap near_of h.is in
      let far_is = ap far_of h.is in
      group_rest s step bot (act bot (GVoid d f)) _ _ _ t u h.stays (same_place d f h.stays near_is far_is ∙ g) (ap (are_misshapen (members all (act bot (GVoid d f)))) (same_dimension d f h.stays near_is far_is) ∙ e)
  left k full together alone h t u g e = let is = h.is in cc

  pub stands_inside : (k : Command) (full together : Bool) → IsFalse (is_alone k)
      → IsDeed s.matrix.resolution bot k (Edits near far full together) → is_within (span region) (point bot.pos) ≡ true
      → broken_by step InRegion bot.bid (Some bot.pos) ≡ first_fault s all step (act bot k) later_rules
  stands_inside k full together alone h g = sym (left k full together alone h true (misshape all (act bot k) (span region)) g refl)

  pub stands_outside : (k : Command) (full together : Bool) → IsFalse (is_alone k)
      → IsDeed s.matrix.resolution bot k (Edits near far full together)
      → is_within (span region) (point bot.pos) ≡ false → (shape : Bool)
      → are_misshapen (members all (act bot k)) (dimension (span region)) ≡ shape
      → broken_by step GroupShape bot.bid (cond shape (Some bot.pos) None)
      ≡ first_fault s all step (act bot k) later_rules
  stands_outside k full together alone h g shape e = sym (
      left k full together alone h false shape g e
      ∙ only_next step bot.bid InRegion None (broken_by step GroupShape bot.bid (cond shape (Some bot.pos) None)) refl)

-- a bot with another corner
pub skip_corner : (T : Point → Bool) (a : Act) (bs : List Act) → list_any T (corners_of (position a) a.command) ≡ false
    → list_any T (corner_list (a ∷ bs)) ≡ list_any T (corner_list bs)
skip_corner T a bs h = list_any-append T (corners_of (position a) a.command) (corner_list bs) ∙ ap (λ t. t || list_any T (corner_list bs)) h
