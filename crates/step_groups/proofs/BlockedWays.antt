-- The least full coordinate of the paths of a command.
use Rattle.std.proofs.Common.{◌≡◌, ℕ, refl, ap, ◌∙◌, sym, subst, Bool, true, false, ◌&&◌, ◌||◌, not, List, [], ◌∷◌, Option, Some, None, find, length, nat_lt, ◌++◌}
use Rattle.vox_geom.specs.declared.coordinate.Coord.{Coord}
use Rattle.vox_geom.specs.Point.{Point, point}
use Rattle.vox_geom.specs.Region.{Corners, Span, span, between, just, is_within}
use Rattle.nano_spec.specs.Act.{Act}
use Rattle.std.specs.Prelude.{IsTrue, IsFalse, nat_le}
use Rattle.vox_geom.specs.declared.difference.Diff.{Diff}
use Rattle.vox_geom.specs.Point.{plus, same_point}
use Rattle.vox_geom.specs.Space.{in_space}
use Rattle.nano_spec.specs.First.{first_value}
use Rattle.nano_spec.specs.Matrix.{Matrix, is_full, all_of}
use Rattle.std.specs.List.{list_any}
use Rattle.nano_spec.specs.Group.{are_partners}
use Rattle.nano_spec.specs.declared.commands.Command.{Command}
use Rattle.nano_spec.specs.State.{State, is_high, origin, seed_list}
use Rattle.nano_spec.specs.declared.system.Bot.{Bot}
use Rattle.nano_spec.specs.declared.commands.Command.TheVariants.{Halt, Wait, SMove, LMove, FusionP, FusionS, Fission, Fill}
use Rattle.nano_spec.specs.declared.outcomes.Rule.TheVariants.{HaltAlone, HaltOrigin, HaltLow, OutOfSpace, Blocked, Seeds, Partner}
use Rattle.vox_planes.specs.Difference.{earlier}
use Rattle.vox_planes.proofs.Differences.{earlier-least}
use Rattle.vox_geom.proofs.Firsts.{first_is, first_of}
use Rattle.vox_geom.proofs.Truths.{and_false, or_false}
use Rattle.step_groups.specs.Deeds.{IsDeed}
use Rattle.step_groups.specs.declared.deed.Deed.TheVariants.{Fuses}
use Rattle.step_groups.specs.Judging.{act, first_fault, later_rules}
use Rattle.nano_spec.specs.Rules.{here, broken_by}
use Rattle.nano_spec.specs.declared.outcomes.Broken.{Broken}
use Rattle.nano_spec.specs.declared.outcomes.Rule.{Rule}

-- two equal tests find the same
pub find-same : {A : Type 0} (f g : A → Bool) (xs : List A) → ((x : A) → f x ≡ g x) → find f xs ≡ find g xs
find-same f g xs h = ap (λ t. find t xs) (λ i x. h x i)

find-never : {A : Type 0} (xs : List A) → find (λ _. false) xs ≡ None
find-never [] = refl
find-never (x ∷ xs) = find-never xs

-- if there is no path, nothing blocks it
pub no_way : (m : Matrix) (cs : List Coord) → find (λ c. is_full m c && false) cs ≡ None
no_way m cs = find-same (λ c. is_full m c && false) (λ _. false) cs (λ c. and_false (is_full m c)) ∙ find-never cs

-- one path
pub one_way : (m : Matrix) (k : Corners) (s : Span) (cs : List Coord)
    → ((p : Point) → is_within (span k) p ≡ is_within s p) → find (λ c. is_full m c && is_within (span k) (point c)) cs
    ≡ find (λ c. is_full m c && (is_within s (point c) || false)) cs
one_way m k s cs covers = find-same (λ c. is_full m c && is_within (span k) (point c)) (λ c. is_full m c && (is_within s (point c) || false)) cs (λ c i. is_full m c && (covers (point c) ∙ sym (or_false (is_within s (point c)))) i)

-- the lists of judgements of one bot

pub skip : (step bid : ℕ) (rule : Rule) (a : Act) (t : Bool) (more : List (Option Broken)) → t ≡ false
    → first_value (broken_by step rule bid (here a t) ∷ more) ≡ first_value more
skip step bid rule a t more h = ap (λ b. first_value (broken_by step rule bid (here a b) ∷ more)) h

pub lone : (o : Option Broken) → first_value (o ∷ None ∷ None ∷ None ∷ None ∷ []) ≡ o
lone None = refl
lone (Some b) = refl

pub unblocked : (step bid : ℕ) (m : Matrix) (cs : List Coord) (more : List (Option Broken))
    → first_value (broken_by step Blocked bid (find (λ c. is_full m c && false) cs) ∷ more) ≡ first_value more
unblocked step bid m cs more = ap (λ o. first_value (broken_by step Blocked bid o ∷ more)) (no_way m cs)

-- ---- each command

within : (b : Bool) → IsTrue b → not (b && true) ≡ false
within true h = refl
within false h = cc

pub within_two : (b c : Bool) → IsTrue b → IsTrue c → not (b && (c && true)) ≡ false
within_two true true h k = refl
within_two true false h k = cc
within_two false c h k = cc

out_two : (b c : Bool) → IsFalse c → not (b && (c && true)) ≡ true
out_two true true k = cc
out_two true false k = refl
out_two false c k = refl

pub drop_none : (xs ys : List (Option Broken)) → first_value (xs ++ None ∷ ys) ≡ first_value (xs ++ ys)
drop_none [] ys = refl
drop_none (Some b ∷ xs) ys = refl
drop_none (None ∷ xs) ys = drop_none xs ys

-- a judgement that finds nothing may be omitted
pub mute : (xs ys : List (Option Broken)) (o : Option Broken) → o ≡ None
    → first_value (xs ++ o ∷ ys) ≡ first_value (xs ++ ys)
mute xs ys o e = ap (λ v. first_value (xs ++ v ∷ ys)) e ∙ drop_none xs ys

pub no_block : (step bid : ℕ) (m : Matrix)
    → broken_by step Blocked bid (find (λ c. is_full m c && false) (all_of m)) ≡ None
no_block step bid m = ap (broken_by step Blocked bid) (no_way m (all_of m))

pub halt : (s : State) (all : List Act) (step : ℕ) (bot : Bot) → first_fault s all step (act bot Halt) later_rules
    ≡ first_value (broken_by step HaltAlone bot.bid (here (act bot Halt) (nat_lt 1 (length s.bots)))
    ∷ broken_by step HaltOrigin bot.bid (here (act bot Halt) (not (same_point (point bot.pos) (point origin))))
    ∷ broken_by step HaltLow bot.bid (here (act bot Halt) (is_high s.harmonics)) ∷ [])
halt s all step bot =
    let halt_alone : Option Broken = broken_by step HaltAlone bot.bid (here (act bot Halt) (nat_lt 1 (length s.bots))) in
    let halt_origin : Option Broken = broken_by step HaltOrigin bot.bid (here (act bot Halt) (not (same_point (point bot.pos) (point origin)))) in
    let halt_low : Option Broken = broken_by step HaltLow bot.bid (here (act bot Halt) (is_high s.harmonics)) in
    mute (halt_alone ∷ halt_origin ∷ halt_low ∷ None ∷ []) (None ∷ None ∷ None ∷ None ∷ []) _ (no_block step bot.bid s.matrix) ∙ three halt_alone halt_origin halt_low
  where
    three : (x y z : Option Broken)
        → first_value (x ∷ y ∷ z ∷ None ∷ None ∷ None ∷ None ∷ None ∷ []) ≡ first_value (x ∷ y ∷ z ∷ [])
    three (Some b) y z = refl
    three None (Some b) z = refl
    three None None (Some b) = refl
    three None None None = refl

pub quiet : (s : State) (all : List Act) (step : ℕ) (bot : Bot)
    → first_fault s all step (act bot Wait) later_rules ≡ None
quiet s all step bot = unblocked step bot.bid s.matrix (all_of s.matrix) (None ∷ None ∷ None ∷ None ∷ [])

pub near : (s : State) (all : List Act) (step : ℕ) (bot : Bot) (d : Diff)
    → first_fault s all step (act bot (Fill d)) later_rules ≡ broken_by step OutOfSpace bot.bid
    (here (act bot (Fill d)) (not (in_space s.matrix.resolution (plus (point bot.pos) d) && true)))
near s all step bot d =
    let out_of_space : Option Broken = broken_by step OutOfSpace bot.bid (here (act bot (Fill d)) (not (in_space s.matrix.resolution (plus (point bot.pos) d) && true))) in
    mute (out_of_space ∷ []) (None ∷ None ∷ None ∷ None ∷ []) _ (no_block step bot.bid s.matrix) ∙ lone out_of_space

-- a command that stays in space is not out of space
pub stays : (step : ℕ) (a : Act) (r : ℕ) (p : Point) → IsTrue (in_space r p)
    → broken_by step OutOfSpace a.bot.bid (here a (not (in_space r p && true))) ≡ None
stays step a r p h = ap (λ b. broken_by step OutOfSpace a.bot.bid (here a b)) (within (in_space r p) h)

-- two paths
pub two_ways : (m : Matrix) (k l : Corners) (s t : Span) (x y : Option Coord)
    → ((p : Point) → is_within (span k) p ≡ is_within s p) → ((p : Point) → is_within (span l) p ≡ is_within t p)
    → x ≡ find (λ c. is_full m c && is_within (span k) (point c)) (all_of m)
    → y ≡ find (λ c. is_full m c && is_within (span l) (point c)) (all_of m)
    → find (λ c. is_full m c && (is_within s (point c) || (is_within t (point c) || false))) (all_of m) ≡ earlier x y
two_ways m k l s t x y p q e f =
    let f1 : Coord → Bool = λ c. is_full m c && is_within (span k) (point c) in
    let g1 : Coord → Bool = λ c. is_full m c && is_within (span l) (point c) in
    let both : (c : Coord) → (is_full m c && (is_within s (point c) || (is_within t (point c) || false))) ≡ (f1 c || g1 c) = λ c. (λ i. is_full m c && (sym (p (point c)) i || (sym (q (point c)) i || false))) ∙ spread (is_full m c) (is_within (span k) (point c)) (is_within (span l) (point c)) in
    find-same (λ c. is_full m c && (is_within s (point c) || (is_within t (point c) || false))) (λ c. f1 c || g1 c) (all_of m) both
    ∙ (first_is m.resolution (λ c. f1 c || g1 c) (earlier (find f1 (all_of m)) (find g1 (all_of m))) (earlier-least m.resolution f1 g1 (find f1 (all_of m)) (find g1 (all_of m)) (first_of m.resolution f1) (first_of m.resolution g1))
    ∙ (λ i. earlier (sym e i) (sym f i)))
  where
    spread : (a b c : Bool) → (a && (b || (c || false))) ≡ ((a && b) || (a && c))
    spread true b c = ap (λ v. b || v) (or_false c)
    spread false b c = refl

pub lmove : (s : State) (all : List Act) (step : ℕ) (bot : Bot) (d e : Diff) (k l : Corners) (mid to : Coord)
    (x y : Option Coord) → IsTrue (in_space s.matrix.resolution (plus (point bot.pos) d))
    → IsTrue (in_space s.matrix.resolution (plus (point mid) e)) → point mid ≡ plus (point bot.pos) d
    → point to ≡ plus (point mid) e
    → ((p : Point) → is_within (span k) p ≡ is_within (between (point bot.pos) (point mid)) p)
    → ((p : Point) → is_within (span l) p ≡ is_within (between (point mid) (point to)) p)
    → x ≡ find (λ c. is_full s.matrix c && is_within (span k) (point c)) (all_of s.matrix)
    → y ≡ find (λ c. is_full s.matrix c && is_within (span l) (point c)) (all_of s.matrix)
    → first_fault s all step (act bot (LMove d e)) later_rules ≡ broken_by step Blocked bot.bid (earlier x y)
lmove s all step bot d e k l mid to x y i j a b p q u v =
    let reached : Point = plus (point bot.pos) d in
    let place_reached : Point = plus reached e in
    let resolution : ℕ = s.matrix.resolution in
    let j2 : IsTrue (in_space resolution place_reached) = subst (λ (w : Point). IsTrue (in_space resolution (plus w e))) a j in
    let b2 : point to ≡ place_reached = b ∙ ap (λ w. plus w e) a in
    let cover1 : (w : Point) → is_within (span k) w ≡ is_within (between (point bot.pos) reached) w = λ w. p w ∙ ap (λ z. is_within (between (point bot.pos) z) w) a in
    let cover2 : (w : Point) → is_within (span l) w ≡ is_within (between reached place_reached) w = λ w. q w ∙ (λ n. is_within (between (a n) (b2 n)) w) in
    let blocked : Option Broken = broken_by step Blocked bot.bid (find (λ c. is_full s.matrix c && (is_within (between (point bot.pos) reached) (point c) || (is_within (between reached place_reached) (point c) || false))) (all_of s.matrix)) in
    (skip step bot.bid OutOfSpace (act bot (LMove d e)) (not (in_space resolution reached && (in_space resolution place_reached && true))) (blocked ∷ None ∷ None ∷ None ∷ None ∷ []) (within_two (in_space resolution reached) (in_space resolution place_reached) i j2) ∙ lone blocked)
    ∙ ap (broken_by step Blocked bot.bid) (two_ways s.matrix k l (between (point bot.pos) reached) (between reached place_reached) x y cover1 cover2 u v)

pub lmove_out : (s : State) (all : List Act) (step : ℕ) (bot : Bot) (d e : Diff) (mid : Coord)
    → point mid ≡ plus (point bot.pos) d → IsFalse (in_space s.matrix.resolution (plus (point mid) e))
    → first_fault s all step (act bot (LMove d e)) later_rules ≡ broken_by step OutOfSpace bot.bid (Some bot.pos)
lmove_out s all step bot d e mid a j =
    let reached : Point = plus (point bot.pos) d in
    let place_reached : Point = plus reached e in
    let resolution : ℕ = s.matrix.resolution in
    let j2 : IsFalse (in_space resolution place_reached) = subst (λ (w : Point). IsFalse (in_space resolution (plus w e))) a j in
    let blocked : Option Broken = broken_by step Blocked bot.bid (find (λ c. is_full s.matrix c && (is_within (between (point bot.pos) reached) (point c) || (is_within (between reached place_reached) (point c) || false))) (all_of s.matrix)) in
    ap (λ t. first_value (broken_by step OutOfSpace bot.bid (here (act bot (LMove d e)) t) ∷ blocked ∷ None ∷ None ∷ None ∷ None ∷ [])) (out_two (in_space resolution reached) (in_space resolution place_reached) j2)

pub fission : (s : State) (all : List Act) (step : ℕ) (bot : Bot) (d : Diff) (n : ℕ) (k : Corners) (to : Coord)
    (x : Option Coord) → IsTrue (in_space s.matrix.resolution (plus (point bot.pos) d))
    → point to ≡ plus (point bot.pos) d
    → ((p : Point) → is_within (span k) p ≡ is_within (between (point to) (point to)) p)
    → x ≡ find (λ c. is_full s.matrix c && is_within (span k) (point c)) (all_of s.matrix)
    → first_fault s all step (act bot (Fission d n)) later_rules ≡ first_value (broken_by step Blocked bot.bid x
    ∷ broken_by step Seeds bot.bid (here (act bot (Fission d n)) (nat_le (length (seed_list bot.seeds)) n)) ∷ [])
fission s all step bot d n k to x i e covers f =
    let way : Span = just (plus (point bot.pos) d) in
    let cover : (p : Point) → is_within (span k) p ≡ is_within way p = λ p. covers p ∙ ap (λ q. is_within (just q) p) e in
    let blocked : Option Broken = broken_by step Blocked bot.bid (find (λ c. is_full s.matrix c && (is_within way (point c) || false)) (all_of s.matrix)) in
    let seeds : Option Broken = broken_by step Seeds bot.bid (here (act bot (Fission d n)) (nat_le (length (seed_list bot.seeds)) n)) in
    skip step bot.bid OutOfSpace (act bot (Fission d n)) (not (in_space s.matrix.resolution (plus (point bot.pos) d) && true)) (blocked ∷ seeds ∷ None ∷ None ∷ None ∷ []) (within (in_space s.matrix.resolution (plus (point bot.pos) d)) i)
    ∙ (two blocked seeds ∙ ap (λ o. first_value (broken_by step Blocked bot.bid o ∷ seeds ∷ [])) (sym (f ∙ one_way s.matrix k way (all_of s.matrix) cover)))
  where
    two : (x y : Option Broken) → first_value (x ∷ y ∷ None ∷ None ∷ None ∷ []) ≡ first_value (x ∷ y ∷ [])
    two (Some b) y = refl
    two None (Some b) = refl
    two None None = refl

pub smove : (s : State) (all : List Act) (step : ℕ) (bot : Bot) (d : Diff) (k : Corners) (to : Coord)
    → IsTrue (in_space s.matrix.resolution (plus (point bot.pos) d)) → point to ≡ plus (point bot.pos) d
    → ((p : Point) → is_within (span k) p ≡ is_within (between (point bot.pos) (point to)) p)
    → first_fault s all step (act bot (SMove d)) later_rules
    ≡ broken_by step Blocked bot.bid (find (λ c. is_full s.matrix c && is_within (span k) (point c)) (all_of s.matrix))
smove s all step bot d k to i e covers =
    let way : Span = between (point bot.pos) (plus (point bot.pos) d) in
    let cover : (p : Point) → is_within (span k) p ≡ is_within way p = λ p. covers p ∙ ap (λ q. is_within (between (point bot.pos) q) p) e in
    let blocked : Option Broken = broken_by step Blocked bot.bid (find (λ c. is_full s.matrix c && (is_within way (point c) || false)) (all_of s.matrix)) in
    (skip step bot.bid OutOfSpace (act bot (SMove d)) (not (in_space s.matrix.resolution (plus (point bot.pos) d) && true)) (blocked ∷ None ∷ None ∷ None ∷ None ∷ []) (within (in_space s.matrix.resolution (plus (point bot.pos) d)) i) ∙ lone blocked)
    ∙ ap (broken_by step Blocked bot.bid) (sym (one_way s.matrix k way (all_of s.matrix) cover))

pub blocked_at : (step bid : ℕ) (rule : Rule) (x : Option Coord) (c : Coord) (more : List (Option Broken)) → x ≡ Some c
    → first_value (broken_by step rule bid x ∷ more) ≡ broken_by step rule bid (Some c)
blocked_at step bid rule x c more e = ap (λ o. first_value (broken_by step rule bid o ∷ more)) e

pub only_next : (step bid : ℕ) (rule : Rule) (x : Option Coord) (y : Option Broken) → x ≡ None
    → first_value (broken_by step rule bid x ∷ y ∷ []) ≡ y
only_next step bid rule x y e = ap (λ o. first_value (broken_by step rule bid o ∷ y ∷ [])) e ∙ one y
  where
    one : (y : Option Broken) → first_value (y ∷ []) ≡ y
    one None = refl
    one (Some b) = refl

-- the remaining rules of a fusion in space
past_space : (s : State) (step : ℕ) (bot : Bot) (a : Act) (inside : Bool) (p : Option Broken) → IsTrue inside
    → first_value (broken_by step OutOfSpace bot.bid (here a (not inside))
    ∷ broken_by step Blocked bot.bid (find (λ c. is_full s.matrix c && false) (all_of s.matrix)) ∷ None ∷ None ∷ p
    ∷ None ∷ []) ≡ p
past_space s step bot a inside p i =
    skip step bot.bid OutOfSpace a (not inside) (broken_by step Blocked bot.bid (find (λ c. is_full s.matrix c && false) (all_of s.matrix)) ∷ None ∷ None ∷ p ∷ None ∷ []) (ap not i)
    ∙ (unblocked step bot.bid s.matrix (all_of s.matrix) (None ∷ None ∷ p ∷ None ∷ []) ∙ last p)
  where
    last : (p : Option Broken) → first_value (p ∷ None ∷ []) ≡ p
    last None = refl
    last (Some b) = refl

-- the rule that a bot without a partner breaks
abbrev lacks_partner : ℕ → Act → List Act → Option Broken
lacks_partner step a all = broken_by step Partner a.bot.bid (here a (not (list_any (are_partners a) all)))

pub fusion : (s : State) (all : List Act) (step : ℕ) (bot : Bot) (k : Command) (partner : Coord) (primary : Bool)
    → IsDeed s.matrix.resolution bot k (Fuses partner primary)
    → first_fault s all step (act bot k) later_rules ≡ lacks_partner step (act bot k) all
fusion s all step bot (FusionP d) partner primary h = past_space s step bot (act bot (FusionP d)) (in_space s.matrix.resolution (plus (point bot.pos) d) && true) (lacks_partner step (act bot (FusionP d)) all) h.stays
fusion s all step bot (FusionS d) partner primary h = past_space s step bot (act bot (FusionS d)) (in_space s.matrix.resolution (plus (point bot.pos) d) && true) (lacks_partner step (act bot (FusionS d)) all) h.stays
fusion s all step bot k partner primary h = let is = h.is in cc

pub at_command : (s : State) (all : List Act) (step : ℕ) (bot : Bot) (k l : Command) (r : Option Broken) → k ≡ l
    → r ≡ first_fault s all step (act bot k) later_rules → r ≡ first_fault s all step (act bot l) later_rules
at_command s all step bot k l r e h = h ∙ ap (λ v. first_fault s all step (act bot v) later_rules) e
