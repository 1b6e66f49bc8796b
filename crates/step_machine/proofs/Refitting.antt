-- The list of the voxels that a step changes: first those that it voids, and then those that it fills.
use Rattle.std.proofs.Common.{◌≡◌, ℕ, ◌+◌, ◌*◌, ◌≤◌, refl, sym, ◌∙◌, ap, inl, inr, arith, List, [], ◌∷◌, ◌++◌, Bool, true, false, cond, length, take, drop, subst}
use Rattle.std.specs.Prelude.{None, count_by}
use Rattle.std.proofs.lemmas.List.Sums.{sum_by-cons}
use Rattle.std.proofs.Math.Seq.{drop-append_seam, take-append_seam}
use Rattle.vox_geom.specs.declared.coordinate.Coord.{Coord}
use Rattle.nano_spec.specs.declared.commands.Command.{Command}
use Rattle.nano_spec.specs.declared.commands.Command.TheVariants.{Fill, Void, GFill, GVoid}
use Rattle.nano_spec.specs.declared.system.Bot.{Bot}
use Rattle.nano_spec.specs.Act.{Act, acts}
use Rattle.nano_spec.specs.Group.{leaders}
use Rattle.nano_spec.specs.Cutting.{AreCommands}
use Rattle.nano_spec.specs.Matrix.{Matrix}
use Rattle.nano_spec.specs.Rules.{broken}
use Rattle.nano_spec.specs.State.{IsReady, State}
use Rattle.nano_spec.specs.Step.{after}
use Rattle.nano_spec.specs.Model.{volume}
use Rattle.nano_spec.specs.Work.{Levels, volatile_total, without_voided}
use Rattle.support_forest.specs.ForestView.{AreAdded, AreRemoved, IsCheap, MayAdd, MayRemove, ForestView}
use Rattle.step_order.proofs.Facts.{IsGood, good_is}
use Rattle.step_order.proofs.Lists.{In, any_in}
use Rattle.step_order.proofs.After.{commands_are}
use Rattle.step_order.proofs.Turns.{held}
use Rattle.step_machine.specs.Edits.{edits_of, edits_total, is_edit, is_edited}
use Rattle.step_machine.proofs.Changed.{between_is, cell_of, may_add, may_remove, new_is}
use Rattle.step_machine.specs.Settling.{IsRefitted}
use Rattle.step_machine.proofs.Sizes.{acts_few, changes_most}
use Rattle.step_machine.proofs.Working.{refit_touches}
use Rattle.step_groups.specs.Judging.{act}

pub front_of : (xs ys slice front : List Coord) (n : ℕ) → slice ≡ xs ++ ys → n ≡ length xs → front ≡ take n slice
    → front ≡ xs
front_of xs ys slice front n e f g = g ∙ ((λ i. take (f i) (e i)) ∙ take-append_seam xs ys)

pub back_of : (xs ys slice back : List Coord) (n : ℕ) → slice ≡ xs ++ ys → n ≡ length xs → back ≡ drop n slice
    → back ≡ ys
back_of xs ys slice back n e f g = g ∙ ((λ i. drop (f i) (e i)) ∙ drop-append_seam xs ys)

-- ---- a voxel changes only if some command is an edit

edit_by : (full : Bool) (b : Bot) (k : Command) (c : Coord) → is_edited full (act b k) c ≡ true → is_edit k ≡ true
edit_by full b (Fill d) c h = refl
edit_by full b (Void d) c h = refl
edit_by full b (GFill d f) c h = refl
edit_by full b (GVoid d f) c h = refl
edit_by true b k c h = cc
edit_by false b k c h = cc

pub counted : (bots : List Bot) (commands : List Command) (a : Act) → In a (acts bots commands)
    → is_edit a.command ≡ true → 1 ≤ count_by is_edit commands
counted [] commands a i h = absurd i
counted (b ∷ bots) [] a i h = absurd i
counted (b ∷ bots) (k ∷ commands) a (inl e) h =
    let sum_is = sum_by-cons (λ c. cond {A = ℕ} (is_edit c) 1 0) k commands in
    let edit_count_is : cond {A = ℕ} (is_edit k) 1 0 ≡ 1 = ap (λ t. cond {A = ℕ} t 1 0) (ap (λ (x : Act). is_edit x.command) (sym e) ∙ h) in
    omega (arith, sum_is, edit_count_is)
counted (b ∷ bots) (k ∷ commands) a (inr i) h =
    let sum_is = sum_by-cons (λ c. cond {A = ℕ} (is_edit c) 1 0) k commands in
    let counted_here = counted bots commands a i h in
    omega (arith, sum_is, counted_here)

-- ---- the commands of a step that breaks no rule

module _ (s : State) (commands : List Command) (step : ℕ) (ready : IsReady s) (keeps : broken s commands step ≡ None) where
  good : IsGood s (acts s.bots commands)
  good = good_is s commands step ready keeps

  -- the list has room for their changes
  pub room_for_all : length s.bots ≤ 40 → AreCommands commands
      → edits_total s.matrix true (leaders (acts s.bots commands))
      + edits_total s.matrix false (leaders (acts s.bots commands)) ≤ 148955
  room_for_all few are = changes_most s (acts s.bots commands) good (let acts_bound = acts_few s.bots commands in omega (arith, acts_bound)) (commands_are s.bots commands are)

  pub may_lose : (old : Matrix) (front : List Coord) → old ≡ s.matrix → front ≡ edits_of s commands true
      → MayRemove old front
  may_lose old front e f = subst (λ (m : Matrix). MayRemove m front) (sym e) (subst (λ (cells : List Coord). MayRemove s.matrix cells) (sym f) (may_remove s (acts s.bots commands) good))

  module _ (old between : Matrix) (front back : List Coord) (e : old ≡ s.matrix) (f : front ≡ edits_of s commands true) (g : back ≡ edits_of s commands false) (lost : AreRemoved old between front) where
    lost_is : AreRemoved s.matrix between (edits_of s commands true)
    lost_is = subst (λ (m : Matrix). AreRemoved m between (edits_of s commands true)) e (subst (λ (cells : List Coord). AreRemoved old between cells) f lost)

    pub may_gain : MayAdd between back
    may_gain = subst (λ (cells : List Coord). MayAdd between cells) (sym g) (may_add s (acts s.bots commands) good between lost_is)

    pub between_them : between ≡ without_voided s.matrix (acts s.bots commands)
    between_them = between_is s (acts s.bots commands) good between lost_is

    pub refitted : (new : Matrix) → AreAdded between new back → new ≡ (after s commands).matrix
    refitted new won = new_is s (acts s.bots commands) good between lost_is new (subst (λ (cells : List Coord). AreAdded between new cells) g won)

  -- the forest is that of the step's state and the touches are paid for, if it lost the voided voxels and gained the filled
  -- ones
  pub is_refitted : (old between : Matrix) (forest : ForestView) (front back : List Coord)
      (before listed middle after : ℕ) → old ≡ s.matrix → front ≡ edits_of s commands true
      → back ≡ edits_of s commands false → listed ≤ before + 96 * volatile_total s.matrix (acts s.bots commands)
      → AreRemoved old between front → IsCheap old between front 100 listed middle → AreAdded between forest.matrix back
      → IsCheap between forest.matrix back 100 middle after → forest.spent ≡ false
      → IsRefitted s commands forest before after
  is_refitted old between forest front back before listed middle after e f g l lost lose won win stands =
      let new = refitted old between front back e f g lost forest.matrix won in
      record {
        matrix = new;
        stands = stands;
        touches = λ n w.
            refit_touches s commands step ready keeps between forest.matrix front back before listed middle after n (between_them old between front back e f g lost) new f g l
            (λ first last a b. lose first last (subst (λ (m : Matrix). Levels m first) (sym e) a) b) win w;
      }

  -- a voxel changes only if some command is an edit
  pub edits_some : (full : Bool) (cells : List Coord) → cells ≡ edits_of s commands full → 1 ≤ length cells
      → 1 ≤ count_by is_edit commands
  edits_some full [] e h = absurd (omega arith)
  edits_some full (c ∷ cells) e h =
      let member : In c (edits_of s commands full) = subst (λ (xs : List Coord). In c xs) e (inl refl) in
      let witness = any_in (λ a. is_edited full a c) (acts s.bots commands) (cell_of s (acts s.bots commands) good full c member).2 in
      counted s.bots commands witness.0 witness.1 (edit_by full witness.0.bot witness.0.command c witness.2)

-- ---- no loss, or no gain

pub lost_none : (m : Matrix) → length m.voxels ≡ volume m.resolution → AreRemoved m m []
lost_none m whole = record { resolution = refl; whole = whole; full = λ c h. h; kept = λ c h. inl h; gone = λ c i. absurd (held c [] i) }

pub won_none : (m : Matrix) → length m.voxels ≡ volume m.resolution → AreAdded m m []
won_none m whole = record { resolution = refl; whole = whole; full = λ c h. inl h; kept = λ c h. h; added = λ c i. absurd (held c [] i) }

pub cheap_none : (m n : Matrix) (now : ℕ) → IsCheap m n [] 100 now now
cheap_none m n now = λ first last f l. omega arith
