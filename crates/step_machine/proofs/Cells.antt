-- The voxels that one act changes.
use Rattle.std.proofs.Common.{◌≡◌, ℕ, ◌+◌, ◌≤◌, refl, sym, ◌∙◌, ap, inl, inr, arith, List, [], ◌∷◌, ◌++◌, Bool, false, ◌&&◌, length}
use Rattle.std.specs.Prelude.{count_by, filter}
use Rattle.std.specs.List.{list_any}
use Rattle.std.proofs.lemmas.List.Sums.{length-filter}
use Rattle.std.proofs.Common.{length-append}
use Rattle.std.proofs.lemmas.List.{append-nil}
use Rattle.vox_geom.specs.declared.coordinate.Coord.{Coord}
use Rattle.vox_geom.specs.Point.{point}
use Rattle.vox_geom.specs.Region.{Corners, IsOrdered, is_within, size, span}
use Rattle.vox_geom.specs.Space.{IsInSpace, coordinates}
use Rattle.vox_geom.proofs.Counts.{region_count}
use Rattle.vox_geom.proofs.Truths.{second_of_two}
use Rattle.nano_spec.specs.declared.commands.Command.{Command}
use Rattle.nano_spec.specs.declared.system.Bot.{Bot}
use Rattle.nano_spec.specs.Act.{Act, acts}
use Rattle.nano_spec.specs.Group.{is_leader, leaders}
use Rattle.nano_spec.specs.Matrix.{Matrix, all_of}
use Rattle.vox_planes.specs.Voxel.{is_state}
use Rattle.support_forest.proofs.Counts.{count_le}
use Rattle.step_order.proofs.Lists.{In, any_none, filter_in, not_both}
use Rattle.step_machine.specs.Edits.{cells_of, cells_of_all, edit_count, is_change, is_edited}
use Rattle.step_machine.proofs.Regions.{not_change}

-- the region has the coordinates that the act edits
abbrev pub IsRegionOf : Corners → Bool → Act → Type 0
IsRegionOf k full a = (c : Coord) → is_within (span k) (point c) ≡ is_edited full a c

pub size_is : (m : Matrix) (r : ℕ) (full : Bool) (a : Act) (k : Corners) → r ≡ m.resolution → IsOrdered k
    → IsInSpace r k.high → IsRegionOf k full a → size (span k) ≡ edit_count m full a
size_is m r full a k s o h e = sym (region_count r k o h) ∙ (λ i. count_by (λ c. e c i) (coordinates (s i)))

-- a bound on the changes
few : (m : Matrix) (full : Bool) (a : Act) → length (cells_of m full a) ≤ edit_count m full a
few m full a =
    let filtered_length = length-filter (λ c. is_state m full c && is_edited full a c) (all_of m) in
    let le = count_le (λ c. is_state m full c && is_edited full a c) (is_edited full a) (λ c h. second_of_two (is_state m full c) (is_edited full a c) h) (all_of m) in
    omega (arith, filtered_length, le)

-- the effect of listing the region's voxels
pub record AreListed (m : Matrix) (full : Bool) (a : Act) (old new : List Coord) (spare spare_left before after : ℕ) : Type 0 where
  pub items : new ≡ old ++ cells_of m full a
  pub left : spare ≤ spare_left + edit_count m full a
  pub touches : after ≤ before + edit_count m full a

pub listed : (m : Matrix) (r : ℕ) (full : Bool) (a : Act) (k : Corners) (old new : List Coord)
    (spare left before after : ℕ) → r ≡ m.resolution → IsOrdered k → IsInSpace r k.high → IsRegionOf k full a
    → new ≡ old ++ filter (λ c. is_state m full c && is_within (span k) (point c)) (all_of m)
    → spare + length old ≤ left + length new → after ≤ before + size (span k)
    → AreListed m full a old new spare left before after
listed m r full a k old new spare left before after s o h e items room le =
    let same : new ≡ old ++ cells_of m full a = items ∙ (λ i. old ++ filter (λ c. is_state m full c && e c i) (all_of m)) in
    let long = ap length same in
    let parts = length-append old (cells_of m full a) in
    let most = few m full a in
    let wide = size_is m r full a k s o h e in
    record { items = same; left = omega (arith, long, parts, most, room); touches = omega (arith, wide, le) }

void : (xs : List Coord) → ((c : Coord) → In c xs → ⊥) → xs ≡ []
void [] h = refl
void (x ∷ xs) h = absurd (h x (inl refl))

-- no edit, no change
pub no_cells : (m : Matrix) (full : Bool) (a : Act) → ((c : Coord) → false ≡ is_edited full a c)
    → cells_of m full a ≡ []
no_cells m full a e = void (cells_of m full a) (λ c i. let passed = filter_in (λ d. is_state m full d && is_edited full a d) c (all_of m) i in not_both (second_of_two (is_state m full c) (is_edited full a c) passed.1) (sym (e c)))

pub listed_none : (m : Matrix) (full : Bool) (a : Act) (old : List Coord) (spare before : ℕ)
    → ((c : Coord) → false ≡ is_edited full a c) → AreListed m full a old old spare spare before before
listed_none m full a old spare before e = record { items = sym (append-nil old) ∙ ap (λ cs. old ++ cs) (sym (no_cells m full a e)); left = omega arith; touches = omega arith }

its_command : (a : Act) (bots : List Bot) (commands : List Command) → In a (acts bots commands) → In a.command commands
its_command a [] commands i = absurd i
its_command a (b ∷ bots) [] i = absurd i
its_command a (b ∷ bots) (k ∷ commands) (inl e) = inl (ap (λ (x : Act). x.command) e)
its_command a (b ∷ bots) (k ∷ commands) (inr i) = inr (its_command a bots commands i)

none_of : (m : Matrix) (full : Bool) (all : List Act) → ((a : Act) → In a all → cells_of m full a ≡ [])
    → cells_of_all m full all ≡ []
none_of m full [] h = refl
none_of m full (a ∷ all) h = rw (h a (inl refl)) (none_of m full all (λ x i. h x (inr i)))

-- no voxel changes so unless some command changes so
pub none_change : (m : Matrix) (full : Bool) (bots : List Bot) (commands : List Command)
    → list_any (is_change full) commands ≡ false → cells_of_all m full (leaders (acts bots commands)) ≡ []
none_change m full bots commands none =
    none_of m full (leaders (acts bots commands))
    (λ a i. no_cells m full a (not_change a.bot a.command full (any_none (is_change full) a.command commands none (its_command a bots commands (filter_in (is_leader (acts bots commands)) a (acts bots commands) i).0))))
