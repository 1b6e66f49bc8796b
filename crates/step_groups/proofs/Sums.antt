-- The touches of all bots: a bot that reads voxels is alone, so it leads a group whose volatile coordinates pay for
-- them.
use Rattle.std.proofs.Common.{◌≡◌, ℕ, ◌+◌, ◌*◌, ◌<◌, ◌≤◌, refl, ap, sym, ◌∙◌, subst, arith, inl, inr, Bool, true, false, ◌&&◌, not, cond, List, [], ◌∷◌, ◌++◌, count_by, filter, length, map}
use Rattle.std.specs.Prelude.{IsTrue, AllPairs, sum, sum_by}
use Rattle.std.specs.List.{list_any}
use Rattle.std.proofs.lemmas.List.Sums.{sum_by-cons}
use Rattle.vox_geom.specs.Point.{point}
use Rattle.vox_geom.proofs.Truths.{or_false}
use Rattle.nano_spec.specs.declared.commands.Command.{Command}
use Rattle.nano_spec.specs.declared.system.Bot.{Bot}
use Rattle.nano_spec.specs.Act.{Act, acts, stays_in_space}
use Rattle.nano_spec.specs.Group.{is_leader, members}
use Rattle.nano_spec.specs.Matrix.{Matrix, all_of}
use Rattle.nano_spec.specs.Volatile.{is_volatile_of}
use Rattle.nano_spec.specs.Work.{volatile_count, volatile_total}
use Rattle.step_order.proofs.Facts.{Rising, rising_is}
use Rattle.step_order.proofs.Lists.{In}
use Rattle.step_order.proofs.Judgements.{all_bots}
use Rattle.step_groups.specs.Judging.{is_alone, touches_of}
use Rattle.step_groups.proofs.Mates.{group, leads, none_after, none_before}

-- the elements before one and after it
record Within {X : Type 0} (x : X) (xs : List X) : Type 0 where
  before : List X
  after : List X
  whole : xs ≡ before ++ x ∷ after

found : {X : Type 0} (x : X) (xs : List X) → In x xs → Within x xs
found x [] i = absurd i
found x (y ∷ ys) (inl e) = record { before = []; after = ys; whole = λ i. sym e i ∷ ys }
found x (y ∷ ys) (inr i) = let found_here = found x ys i in record { before = y ∷ found_here.before; after = found_here.after; whole = ap (λ zs. y ∷ zs) found_here.whole }

module _ (m : Matrix) (all : List Act) (up : Rising (map (λ (x : Act). x.bot) all)) where
  pub alone_members : (a : Act) → In a all → IsTrue (is_alone a.command) → members all a ≡ a ∷ []
  alone_members a i h =
      let found_here = found a all i in
      let up' : Rising (map (λ (x : Act). x.bot) (found_here.before ++ a ∷ found_here.after)) = subst (λ (zs : List Act). Rising (map (λ (x : Act). x.bot) zs)) found_here.whole up in
      ap (λ (zs : List Act). members zs a) found_here.whole
      ∙ (group found_here.before found_here.after a up' (none_before found_here.before found_here.after a up' h) ∙ ap (λ zs. a ∷ zs) (none_after found_here.before found_here.after a up' h))

  pub alone_leads : (a : Act) → In a all → IsTrue (is_alone a.command) → is_leader all a ≡ true
  alone_leads a i h =
      let found_here = found a all i in
      let up' : Rising (map (λ (x : Act). x.bot) (found_here.before ++ a ∷ found_here.after)) = subst (λ (zs : List Act). Rising (map (λ (x : Act). x.bot) zs)) found_here.whole up in
      ap (λ (zs : List Act). is_leader zs a) found_here.whole
      ∙ (leads found_here.before found_here.after a up' ∙ ap not (none_before found_here.before found_here.after a up' h))

  -- the volatile coordinates of a bot that is alone and stays in space are so for its group
  alone_count : (a : Act) → In a all → IsTrue (is_alone a.command) → IsTrue (stays_in_space m.resolution a)
      → volatile_count m all a ≡ count_by (λ c. is_volatile_of (point c) a) (all_of m)
  alone_count a i h s =
      ap (λ ms. count_by (λ c. list_any (is_volatile_of (point c)) (filter (stays_in_space m.resolution) ms)) (all_of m)) (alone_members a i h)
      ∙ (ap (λ t. count_by (λ c. list_any (is_volatile_of (point c)) (cond t (a ∷ []) [])) (all_of m)) s
      ∙ ap (λ t. count_by t (all_of m)) (λ n c. or_false (is_volatile_of (point c) a) n))

  pays : (a : Act) → In a all → touches_of m a ≤ cond (is_leader all a) (2 * volatile_count m all a) 0
  pays a i = by (is_alone a.command) (stays_in_space m.resolution a) refl refl
    where
      by : (x y : Bool) → is_alone a.command ≡ x → stays_in_space m.resolution a ≡ y
          → cond {A = ℕ} (x && y) (2 * count_by (λ c. is_volatile_of (point c) a) (all_of m)) 0
          ≤ cond (is_leader all a) (2 * volatile_count m all a) 0
      by true true e f =
          let count_alone = alone_count a i e f in
          subst (λ (t : Bool). 2 * count_by (λ c. is_volatile_of (point c) a) (all_of m) ≤ cond t (2 * volatile_count m all a) 0) (sym (alone_leads a i e)) (omega (arith, count_alone))
      by true false e f = omega arith
      by false y e f = omega arith

  summed : (xs : List Act) → ((a : Act) → In a xs → In a all)
      → sum_by (touches_of m) xs ≤ 2 * sum (map (volatile_count m all) (filter (is_leader all) xs))
  summed [] h = omega arith
  summed (a ∷ xs) h = by (is_leader all a) (pays a (h a (inl refl))) (summed xs (λ b i. h b (inr i)))
    where
      by : (t : Bool) → touches_of m a ≤ cond t (2 * volatile_count m all a) 0
          → sum_by (touches_of m) xs ≤ 2 * sum (map (volatile_count m all) (filter (is_leader all) xs))
          → sum_by (touches_of m) (a ∷ xs)
          ≤ 2 * sum (map (volatile_count m all) (cond t (a ∷ filter (is_leader all) xs) (filter (is_leader all) xs)))
      by true p s =
          let first_of_sum = sum_by-cons (touches_of m) a xs in
          let sum_is : sum (volatile_count m all a ∷ map (volatile_count m all) (filter (is_leader all) xs)) ≡ volatile_count m all a + sum (map (volatile_count m all) (filter (is_leader all) xs)) = sum_by-cons (λ n. n) (volatile_count m all a) (map (volatile_count m all) (filter (is_leader all) xs)) in
          omega (arith, first_of_sum, sum_is, p, s)
      by false p s =
          let first_of_sum = sum_by-cons (touches_of m) a xs in
          omega (arith, first_of_sum, p, s)

-- the touches of all bots
pub touched : (m : Matrix) (bots : List Bot) (commands : List Command) (old new : ℕ) → length commands ≡ length bots
    → AllPairs (λ a b. a.bid < b.bid) bots → new ≤ old + sum_by (touches_of m) (acts bots commands)
    → new ≤ old + 2 * volatile_total m (acts bots commands)
touched m bots commands old new lengths rising le =
    let all : List Act = acts bots commands in
    let up : Rising (map (λ (x : Act). x.bot) all) = subst (λ (bs : List Bot). Rising bs) (sym (all_bots bots commands lengths)) (rising_is bots rising) in
    let most : sum_by (touches_of m) all ≤ 2 * volatile_total m all = summed m all up all (λ a i. i) in
    omega (arith, most, le)
