-- The region that a command fills or voids: the matrix afterwards, and the edited voxels.
use Rattle.std.proofs.Common.{◌≡◌, ℕ, ◌+◌, ◌-◌, ◌*◌, refl, sym, ◌∙◌, ap, arith, List, [], ◌∷◌, ◌++◌, Bool, true, false, cond, ◌&&◌, ◌||◌, length}
use Rattle.std.specs.Prelude.{not, count_by}
use Rattle.std.specs.List.{list_any}
use Rattle.std.proofs.lemmas.List.Sums.{sum_by-cons}
use Rattle.vox_geom.specs.declared.coordinate.Coord.{Coord}
use Rattle.vox_geom.specs.Point.{Point, point}
use Rattle.vox_geom.specs.Region.{Corners, Span, is_within, span}
use Rattle.nano_spec.specs.declared.commands.Command.{Command}
use Rattle.nano_spec.specs.declared.system.Bot.{Bot}
use Rattle.nano_spec.specs.Act.{filled, voided}
use Rattle.nano_spec.specs.Matrix.{Matrix, all_of, is_full, matrix_where}
use Rattle.nano_spec.specs.Step.{matrix_after}
use Rattle.energy_sum.specs.Costs.{met_full_count, is_met, met, void_count}
use Rattle.energy_sum.proofs.Prices.{fulls-one, voids-and-fulls, voids-one}
use Rattle.step_order.proofs.Voxels.{as_it_is, matrix_same}
use Rattle.system_state.specs.Painting.{full_in, met_count, size_in, void_in, with_span}
use Rattle.vox_planes.specs.Painting.{other_count, with_box}
use Rattle.step_groups.specs.Judging.{act}

-- ---- a region by its corners and by two points

module _ (m : Matrix) (k : Corners) (s : Span) (same : (p : Point) → is_within (span k) p ≡ is_within s p) where
  pub same_painted : (full : Bool) → with_box m k full ≡ with_span m s full
  same_painted full = λ i. matrix_where m.resolution (λ d. cond (same (point d) i) full (is_full m d))

  pub same_void : void_in m (span k) ≡ void_in m s
  same_void = λ i. count_by (λ c. same (point c) i && not (is_full m c)) (all_of m)

  pub same_full : full_in m (span k) ≡ full_in m s
  same_full = λ i. count_by (λ c. same (point c) i && is_full m c) (all_of m)

  pub same_size : count_by (λ c. is_within (span k) (point c)) (all_of m) ≡ size_in m s
  same_size = λ i. count_by (λ c. same (point c) i) (all_of m)

  turned : (a b : Bool) → (a && b) ≡ (b && a)
  turned true true = refl
  turned true false = refl
  turned false true = refl
  turned false false = refl

  others_void : other_count m k true ≡ void_in m s
  others_void = λ i. count_by (λ c. (turned (not (is_full m c)) (is_within (span k) (point c)) ∙ ap (λ b. b && not (is_full m c)) (same (point c))) i) (all_of m)

  others_full : other_count m k false ≡ full_in m s
  others_full = λ i. count_by (λ c. (turned (is_full m c) (is_within (span k) (point c)) ∙ ap (λ b. b && is_full m c) (same (point c))) i) (all_of m)

  both_states : void_in m s + full_in m s ≡ size_in m s
  both_states = voids-and-fulls m (λ c. is_within s (point c)) (all_of m)

  pub void_met : (full : Bool) (others size : ℕ) → others ≡ other_count m k full
      → size ≡ count_by (λ c. is_within (span k) (point c)) (all_of m) → cond full others (size - others) ≡ void_in m s
  void_met true others size h e = h ∙ others_void
  void_met false others size h e =
      let others_is : others ≡ full_in m s = h ∙ others_full in
      let size_is : size ≡ size_in m s = e ∙ same_size in
      let void_is : void_in m s + full_in m s ≡ size_in m s = both_states in
      omega arith

  pub full_met : (full : Bool) (others size : ℕ) → others ≡ other_count m k full
      → size ≡ count_by (λ c. is_within (span k) (point c)) (all_of m) → cond full (size - others) others ≡ full_in m s
  full_met false others size h e = h ∙ others_full
  full_met true others size h e =
      let others_is : others ≡ void_in m s = h ∙ others_void in
      let size_is : size ≡ size_in m s = e ∙ same_size in
      let void_is : void_in m s + full_in m s ≡ size_in m s = both_states in
      omega arith

-- ---- a command that fills or voids one region

filled_or_not : (w u : Bool) → cond w true u ≡ (((w || false) || false) || (u && not (false || false)))
filled_or_not true u = refl
filled_or_not false true = refl
filled_or_not false false = refl

voided_or_not : (w u : Bool) → cond w false u ≡ ((false || false) || (u && not ((w || false) || false)))
voided_or_not true true = refl
voided_or_not true false = refl
voided_or_not false true = refl
voided_or_not false false = refl

untouched : (u : Bool) → ((false || false) || (u && not (false || false))) ≡ u
untouched true = refl
untouched false = refl

module _ (m : Matrix) (bot : Bot) (command : Command) where
  -- whether the coordinate is full afterwards, by the regions that are filled and voided
  full_by : List Span → List Span → Coord → Bool
  full_by fill void c = (list_any (λ r. is_within r (point c)) fill || false) || (is_full m c && not (list_any (λ r. is_within r (point c)) void || false))

  pub after_work : (s : Span) (full : Bool) → filled (point bot.pos) command ≡ cond full (s ∷ []) []
      → voided (point bot.pos) command ≡ cond full [] (s ∷ [])
      → with_span m s full ≡ matrix_after m (act bot command ∷ [])
  unfolding full_by
  after_work s true h k = matrix_same m.resolution (λ d. cond (is_within s (point d)) true (is_full m d)) (full_by (filled (point bot.pos) command) (voided (point bot.pos) command)) (λ c w.
      filled_or_not (is_within s (point c)) (is_full m c) ∙ (λ i. full_by (sym h i) (sym k i) c))
  after_work s false h k = matrix_same m.resolution (λ d. cond (is_within s (point d)) false (is_full m d)) (full_by (filled (point bot.pos) command) (voided (point bot.pos) command)) (λ c w.
      voided_or_not (is_within s (point c)) (is_full m c) ∙ (λ i. full_by (sym h i) (sym k i) c))

  pub after_none : length m.voxels ≡ m.resolution * m.resolution * m.resolution → filled (point bot.pos) command ≡ []
      → voided (point bot.pos) command ≡ [] → m ≡ matrix_after m (act bot command ∷ [])
  unfolding full_by
  after_none e h k =
      sym (as_it_is m e)
      ∙ matrix_same m.resolution (is_full m) (full_by (filled (point bot.pos) command) (voided (point bot.pos) command)) (λ c w.
      sym (untouched (is_full m c)) ∙ (λ i. full_by (sym h i) (sym k i) c))

  met_is : (s : Span) (full : Bool) → filled (point bot.pos) command ≡ cond full (s ∷ []) []
      → voided (point bot.pos) command ≡ cond full [] (s ∷ []) → met (point bot.pos) command ≡ s ∷ []
  met_is s true h k = λ i. h i ++ k i
  met_is s false h k = λ i. h i ++ k i

  met_none : filled (point bot.pos) command ≡ [] → voided (point bot.pos) command ≡ []
      → met (point bot.pos) command ≡ []
  met_none h k = λ i. h i ++ k i

  module _ (s : Span) (full : Bool) (h : filled (point bot.pos) command ≡ cond full (s ∷ []) []) (k : voided (point bot.pos) command ≡ cond full [] (s ∷ [])) where
    pub void_is : void_in m s ≡ void_count m (point bot.pos) command
    void_is = sym (voids-one m s) ∙ (λ i. count_by (λ c. is_met (sym (met_is s full h k) i) c && not (is_full m c)) (all_of m))

    pub full_is : full_in m s ≡ met_full_count m (point bot.pos) command
    full_is = sym (fulls-one m s) ∙ (λ i. count_by (λ c. is_met (sym (met_is s full h k) i) c && is_full m c) (all_of m))

    pub size_is : size_in m s ≡ met_count m bot command
    size_is = (λ i. count_by (λ c. with_false (is_within s (point c)) i) (all_of m)) ∙ (λ i. count_by (is_met (sym (met_is s full h k) i)) (all_of m))
      where
        with_false : (b : Bool) → b ≡ (b || false)
        with_false true = refl
        with_false false = refl

  none_of : (xs : List Coord) → 0 ≡ count_by (λ c. false) xs
  none_of [] = refl
  none_of (x ∷ xs) =
      let count_is : 0 ≡ count_by (λ c. false) xs = none_of xs in
      let same_count : count_by (λ c. false) (x ∷ xs) ≡ 0 + count_by (λ c. false) xs = sum_by-cons (λ (c : Coord). cond false 1 0) x xs in
      omega arith

  pub no_void : filled (point bot.pos) command ≡ [] → voided (point bot.pos) command ≡ []
      → 0 ≡ void_count m (point bot.pos) command
  no_void h k = none_of (all_of m) ∙ (λ i. count_by (λ c. is_met (sym (met_none h k) i) c && not (is_full m c)) (all_of m))

  pub no_full : filled (point bot.pos) command ≡ [] → voided (point bot.pos) command ≡ []
      → 0 ≡ met_full_count m (point bot.pos) command
  no_full h k = none_of (all_of m) ∙ (λ i. count_by (λ c. is_met (sym (met_none h k) i) c && is_full m c) (all_of m))
