-- The region that a bot fills or voids, by its action.
use Rattle.std.proofs.Common.{◌≡◌, ℕ, ◌≤◌, refl, ap, sym, subst, ◌∙◌, Bool, true, false, ◌&&◌, cond, [], ◌∷◌}
use Rattle.std.specs.Prelude.{IsTrue}
use Rattle.vox_geom.specs.declared.coordinate.Coord.{Coord}
use Rattle.vox_geom.specs.Difference.{is_far, is_near}
use Rattle.vox_geom.specs.Point.{Point, plus, point}
use Rattle.vox_geom.specs.Region.{Corners, IsOrdered, between, corners, is_within, size}
use Rattle.vox_geom.specs.Space.{IsInSpace, coordinate, in_space}
use Rattle.vox_geom.proofs.Covers.{covers}
use Rattle.vox_geom.proofs.Truths.{first_of_two, second_of_two}
use Rattle.nano_spec.specs.declared.commands.Command.{Command}
use Rattle.nano_spec.specs.declared.commands.Command.TheVariants.{Fill, Void, GFill, GVoid}
use Rattle.nano_spec.specs.declared.system.Bot.{Bot}
use Rattle.nano_spec.specs.Act.{filled, voided}
use Rattle.nano_spec.specs.Command.{IsCommand}
use Rattle.energy_sum.proofs.Bounds.{size_far, size_just}
use Rattle.step_groups.specs.Deeds.{IsDeed}
use Rattle.step_groups.specs.declared.deed.Deed.TheVariants.{Edits}
use Rattle.step_groups.proofs.Named.{far_of, full_of, last_named, near_of, only_named, point_of, within_of}
use Rattle.step_groups.proofs.Touching.{high_within}
use Rattle.system_state.specs.Edited.{IsEditedRegion}

module _ (r : ℕ) (bot : Bot) (near far : Coord) (full together : Bool) (region : Corners) (corners_are : region ≡ corners near far) (ordered : IsOrdered region) where
  -- the region between two points that the command names
  between_named : (k : Command) (p q : Point) (filling : Bool) → near ≡ coordinate p → far ≡ coordinate q
      → full ≡ filling → IsTrue (in_space r p) → IsTrue (in_space r q) → size (between p q) ≤ 29791
      → filled (point bot.pos) k ≡ cond filling (between p q ∷ []) []
      → voided (point bot.pos) k ≡ cond filling [] (between p q ∷ [])
      → IsEditedRegion r bot k (record { region = region; full = full })
  between_named k p q filling near_is far_is full_is in_p in_q small fills voids =
      let low = ap point near_is ∙ point_of r p in_p in
      let high = ap point far_is ∙ point_of r q in_q in
      let near_in = subst (λ (c : Coord). IsInSpace r c) (sym near_is) (within_of r p in_p) in
      let far_in = subst (λ (c : Coord). IsInSpace r c) (sym far_is) (within_of r q in_q) in
      record {
        named = between p q;
        filled = fills ∙ ap (λ b. cond b (between p q ∷ []) []) (sym full_is);
        voided = voids ∙ ap (λ b. cond b [] (between p q ∷ [])) (sym full_is);
        covers = λ w. covers region near far w corners_are ∙ (λ i. is_within (between (low i) (high i)) w);
        ordered = ordered;
        within = high_within r region near far corners_are near_in far_in;
        small = small;
      }

  pub is_edited_region : (k : Command) → IsCommand k → IsDeed r bot k (Edits near far full together)
      → IsEditedRegion r bot k (record { region = region; full = full })
  is_edited_region (Fill d) known h =
      let reached : Point = plus (point bot.pos) d in
      let in_p = only_named (in_space r reached) h.stays in
      between_named (Fill d) reached reached true (ap near_of h.is) (ap far_of h.is) (ap full_of h.is) in_p in_p (size_just reached) refl refl
  is_edited_region (Void d) known h =
      let reached : Point = plus (point bot.pos) d in
      let in_p = only_named (in_space r reached) h.stays in
      between_named (Void d) reached reached false (ap near_of h.is) (ap far_of h.is) (ap full_of h.is) in_p in_p (size_just reached) refl refl
  is_edited_region (GFill d f) known h =
      let reached : Point = plus (point bot.pos) d in
      let place_reached : Point = plus reached f in
      between_named (GFill d f) reached place_reached true (ap near_of h.is) (ap far_of h.is) (ap full_of h.is)
      (first_of_two (in_space r reached) (in_space r place_reached && true) h.stays) (last_named (in_space r reached) (in_space r place_reached) h.stays) (size_far reached f (second_of_two (is_near d) (is_far f) known)) refl refl
  is_edited_region (GVoid d f) known h =
      let reached : Point = plus (point bot.pos) d in
      let place_reached : Point = plus reached f in
      between_named (GVoid d f) reached place_reached false (ap near_of h.is) (ap far_of h.is) (ap full_of h.is)
      (first_of_two (in_space r reached) (in_space r place_reached && true) h.stays) (last_named (in_space r reached) (in_space r place_reached) h.stays) (size_far reached f (second_of_two (is_near d) (is_far f) known)) refl refl
  is_edited_region k known h = let is = h.is in cc
