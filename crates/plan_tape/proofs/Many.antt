-- A reached state has at most as many bots as there are numbers: those of the seeds, and of the first bot.
use Rattle.std.proofs.Common.{◌≡◌, ℕ, suc, ◌+◌, ◌<◌, ◌≤◌, refl, sym, ◌∙◌, ap, subst, inl, inr, ◌⊎◌, arith, List, [], ◌∷◌, ◌++◌, true, length, drop, None}
use Rattle.std.specs.Prelude.{flat_map}
use Rattle.std.specs.List.{AllByRecursion}
use Rattle.vox_geom.specs.Space.{numbers_from}
use Rattle.nano_spec.specs.declared.commands.Command.{Command}
use Rattle.nano_spec.specs.declared.system.Bot.{Bot}
use Rattle.nano_spec.specs.declared.system.Profile.{Profile}
use Rattle.nano_spec.specs.Act.{Act, acts}
use Rattle.nano_spec.specs.Bots.{successors}
use Rattle.nano_spec.specs.Command.{IsCommand}
use Rattle.nano_spec.specs.Cutting.{AreCommands}
use Rattle.nano_spec.specs.Group.{is_pair}
use Rattle.nano_spec.specs.Matrix.{Matrix}
use Rattle.nano_spec.specs.Next.{Goes, Next}
use Rattle.nano_spec.specs.Rules.{broken}
use Rattle.nano_spec.specs.State.{IsReady, State, first_bot, is_seed, seed_set}
use Rattle.nano_spec.specs.Step.{after}
use Rattle.nano_spec.proofs.Opening.{ready_opening}
use Rattle.nano_spec.proofs.Seeds.{contains, none_above, none_below, numbers_rise, seed_is}
use Rattle.nano_spec.proofs.Accepted.{accepted_step}
use Rattle.vox_planes.specs.Voxel.{IsWhole}
use Rattle.step_order.proofs.After.{ready_is}
use Rattle.step_order.proofs.Crews.{Family, family, order_in, seeded}
use Rattle.step_order.proofs.Facts.{Rising, good_is, rising_is}
use Rattle.step_order.proofs.Kin.{comes}
use Rattle.step_order.proofs.Lists.{In, flat_in}
use Rattle.plan_tape.specs.Reaches.{HasAtMost, Reaches, starts, steps_on}

-- a number from 1 to n
abbrev IsNumber : ℕ → ℕ → Type 0
IsNumber n k = (1 ≤ k) × (k ≤ n)

-- so are the bids and the seeds of all bots
abbrev AreNumbered : ℕ → List Bot → Type 0
AreNumbered n bots = (b : Bot) → In b bots → IsNumber n b.bid × ((k : ℕ) → is_seed b.seeds k ≡ true → IsNumber n k)

-- ---- the opening

first_seeds : (profile : Profile) (k : ℕ) → is_seed (first_bot profile).seeds k ≡ true → IsNumber (profile.seeds + 1) k
first_seeds profile k e = (above, below)
  where
    row : seed_set (drop 2 (numbers_from 0 (profile.seeds + 2))) ≡ seed_set (numbers_from 2 profile.seeds)
    row = let whole : profile.seeds + 2 ≡ suc (suc profile.seeds) = omega arith in ap (λ v. seed_set (drop 2 (numbers_from 0 v))) whole

    here : contains (numbers_from 2 profile.seeds) k ≡ true
    here = sym (seed_is 2 (numbers_from 2 profile.seeds) (numbers_rise 2 profile.seeds) k) ∙ (ap (λ v. is_seed v k) (sym row) ∙ e)

    side : (k < 2) ⊎ ((profile.seeds + 2 ≤ k) ⊎ ((2 ≤ k) × (k < profile.seeds + 2)))
    side = grind arith

    above : 1 ≤ k
    above = of side
      where
        of : (k < 2) ⊎ ((profile.seeds + 2 ≤ k) ⊎ ((2 ≤ k) × (k < profile.seeds + 2))) → 1 ≤ k
        of (inl h) = let impossible = sym here ∙ none_below 2 (numbers_from 2 profile.seeds) (numbers_rise 2 profile.seeds) k h in cc
        of (inr (inl h)) = omega arith
        of (inr (inr h)) = omega arith

    below : k ≤ profile.seeds + 1
    below = of side
      where
        of : (k < 2) ⊎ ((profile.seeds + 2 ≤ k) ⊎ ((2 ≤ k) × (k < profile.seeds + 2))) → k ≤ profile.seeds + 1
        of (inl h) = omega arith
        of (inr (inl h)) = let impossible = sym here ∙ none_above 2 profile.seeds k (omega arith) in cc
        of (inr (inr h)) = omega arith

first_numbered : (profile : Profile) → AreNumbered (profile.seeds + 1) (first_bot profile ∷ [])
first_numbered profile b (inl e) = subst (λ (x : Bot). IsNumber (profile.seeds + 1) x.bid × ((k : ℕ) → is_seed x.seeds k ≡ true → IsNumber (profile.seeds + 1) k)) (sym e) ((omega arith, omega arith), first_seeds profile)
first_numbered profile b (inr i) = absurd i

-- ---- a step

in_acts : (bots : List Bot) (commands : List Command) (a : Act) → In a (acts bots commands) → In a.bot bots
in_acts [] commands a i = absurd i
in_acts (b ∷ bots) [] a i = absurd i
in_acts (b ∷ bots) (k ∷ commands) a (inl e) = inl (ap (λ (x : Act). x.bot) e)
in_acts (b ∷ bots) (k ∷ commands) a (inr i) = inr (in_acts bots commands a i)

module _ (n : ℕ) (s : State) (commands : List Command) (step : ℕ) (ready : IsReady s) (keeps : broken s commands step ≡ None) (numbered : AreNumbered n s.bots) where
  of_family : (a : Act) → In a (acts s.bots commands) → (k : ℕ) → Family a k → IsNumber n k
  of_family a i k (inl e) = subst (IsNumber n) (sym e) (numbered a.bot (in_acts s.bots commands a i)).0
  of_family a i k (inr e) = (numbered a.bot (in_acts s.bots commands a i)).1 k e

  numbered_after : AreNumbered n (after s commands).bots
  numbered_after b i = (of_family w.0 w.1 b.bid (family all w.0 w.0.command b (seeded s all (good_is s commands step ready keeps) w.0 w.1) w.2), λ k e. of_seed k (comes all w.0 w.0.command b k w.2 e))
    where
      all : List Act
      all = acts s.bots commands

      w : (a : Act) × In a all × In b (successors all a a.command)
      w = flat_in (λ (a : Act). successors all a a.command) b all (order_in (flat_map (λ (a : Act). successors all a a.command) all) b i)

      of_seed : (k : ℕ)
          → (is_seed w.0.bot.seeds k ≡ true) ⊎ ((o : Act) × In o all × (is_pair w.0 o ≡ true) × Family o k)
          → IsNumber n k
      of_seed k (inl e) = of_family w.0 w.1 k (inr e)
      of_seed k (inr o) = of_family o.0 o.1 k o.3

-- ---- an accepted step

-- a state is ready and numbered
record IsMade (n : ℕ) (s : State) : Type 0 where
  ready : IsReady s
  numbered : AreNumbered n s.bots

stays_made : (n : ℕ) (s t : State) (commands : List Command) (step : ℕ) → AreCommands commands → IsMade n s
    → Next s commands step (Goes t) → IsMade n t
stays_made n s t commands step are m next =
    let accepted = accepted_step s t commands step next in
    subst (IsMade n) (sym accepted.is) (record { ready = ready_is s commands step are m.ready accepted.keeps; numbered = numbered_after n s commands step m.ready accepted.keeps m.numbered })

-- ---- all steps

pub first_part : (xs ys : List Command) → AllByRecursion IsCommand (xs ++ ys) → AllByRecursion IsCommand xs
first_part [] ys h = tt
first_part (x ∷ xs) ys h = (h.0, first_part xs ys h.1)

pub last_part : (xs ys : List Command) → AllByRecursion IsCommand (xs ++ ys) → AllByRecursion IsCommand ys
last_part [] ys h = h
last_part (x ∷ xs) ys h = last_part xs ys h.1

made : (source : Matrix) (profile : Profile) (commands : List Command) (s : State) (steps : ℕ) → IsWhole source
    → AreCommands commands → Reaches source profile commands s steps → IsMade (profile.seeds + 1) s
made source profile commands s steps whole are (starts e f g) = subst (IsMade (profile.seeds + 1)) (sym f) (record { ready = ready_opening source profile whole.some whole.voxels; numbered = first_numbered profile })
made source profile commands s steps whole are (steps_on t before step done r some l next e f) =
    let joined = subst AreCommands e are in
    stays_made (profile.seeds + 1) t s step (done + 1) (last_part before step joined) (made source profile before t done whole (first_part before step joined) r) next

-- bots with bids that rise are no more than there are numbers
few_rise : (bots : List Bot) (low n : ℕ) → Rising bots → ((b : Bot) → In b bots → (low < b.bid) × (b.bid ≤ n)) → low ≤ n
    → low + length bots ≤ n
few_rise [] low n up h l = omega arith
few_rise (b ∷ bots) low n up h l =
    let first = h b (inl refl) in
    let more = few_rise bots b.bid n up.1 (λ c i. (up.0 c i, (h c (inr i)).1)) first.1 in
    let a = first.0 in
    omega (arith, more, a)

pub has_at_most : (source : Matrix) (profile : Profile) (commands : List Command) → IsWhole source
    → AreCommands commands → HasAtMost source profile commands (profile.seeds + 1)
has_at_most source profile commands whole are before rest s steps e r =
    let made_so = made source profile before s steps whole (first_part before rest (subst AreCommands e are)) r in
    let few = few_rise s.bots 0 (profile.seeds + 1) (rising_is s.bots made_so.ready.rising) (λ b i. (let h = (made_so.numbered b i).0.0 in omega (arith, h), (made_so.numbered b i).0.1)) (omega arith) in
    omega (arith, few)
