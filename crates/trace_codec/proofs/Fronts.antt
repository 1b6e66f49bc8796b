-- A first byte and the bytes after it, if they agree with the spelling of a command.
use Rattle.std.proofs.Common.{◌≡◌, ◌≢◌, ℕ, suc, zero, ◌+◌, ◌*◌, ◌/◌, ◌%◌, ◌<◌, ◌≤◌, refl, sym, ◌∙◌, ap, arith, true, List, [], ◌∷◌, ◌++◌, get_or, length, pos}
use Rattle.std.specs.Prelude.{nat_lt}
use Rattle.std.proofs.lemmas.List.{append-nil}
use Rattle.vox_geom.specs.declared.difference.Diff.{Diff}
use Rattle.vox_geom.specs.Difference.{IsNear, IsFar, IsShort, IsLong, is_near, is_far, is_short}
use Rattle.vox_geom.proofs.Truths.{both_true, first_of_two, second_of_two}
use Rattle.nano_spec.specs.declared.commands.Command.{Command}
use Rattle.nano_spec.specs.declared.commands.Command.TheVariants.{Halt, Wait, Flip, SMove, LMove, FusionP, FusionS, Fission, Fill, Void, GFill, GVoid}
use Rattle.nano_spec.specs.Command.{IsCommand}
use Rattle.nano_spec.specs.Cutting.{BeginsSpelling}
use Rattle.nano_spec.specs.Spelling.{near_code, far_bytes, axis, component, raised, spelling}
use Rattle.nano_spec.proofs.Codes.{along, linear, near_code_below}
use Rattle.nano_spec.proofs.Decoder.{long_is, short_is, short_raised}
use Rattle.trace_codec.specs.declared.one.FarFront.TheVariants as far
use Rattle.trace_codec.specs.FarFront.{SaysFar}
use Rattle.trace_codec.specs.One.{IsNoCommand}
use Rattle.trace_codec.proofs.Far.{tail_is}

-- the bytes begin with those of a far difference
abbrev pub HasFar : List ℕ → Type 0
HasFar bytes = (f : Diff) × (more : List ℕ) × IsFar f × (bytes ≡ far_bytes f ++ more)

-- the bytes begin with a byte
abbrev pub HasByte : List ℕ → ℕ → Type 0
HasByte bytes b = (more : List ℕ) × (bytes ≡ b ∷ more)

-- a first byte and the bytes after it agree with the spelling of a command
pub data Front (h : ℕ) (bytes : List ℕ) : Type 0 where
  alone : 253 ≤ h → Front h bytes
  by_near : (d : Diff) (k : ℕ) → IsNear d → near_code d ≤ 26 → k < 8 → k ≢ 4 → h ≡ 8 * near_code d + k
      → (k < 2 → HasFar bytes) → Front h bytes
  by_long : (d : Diff) → IsLong d → 1 ≤ axis d → axis d ≤ 3 → h ≡ 16 * axis d + 4
      → HasByte bytes (raised (component d) 15) → Front h bytes
  by_short : (d e : Diff) → IsShort d → IsShort e → 1 ≤ axis d → axis d ≤ 3 → 1 ≤ axis e → axis e ≤ 3
      → h ≡ 64 * axis e + 16 * axis d + 12 → HasByte bytes (16 * raised (component e) 5 + raised (component d) 5)
      → Front h bytes

same_head : (h b : ℕ) (x y : List ℕ) → h ∷ x ≡ b ∷ y → h ≡ b
same_head h b x y e = cc

near_front : (h k : ℕ) (d : Diff) (bytes y : List ℕ) → IsNear d → k < 8 → k ≢ 4 → h ∷ bytes ≡ (8 * near_code d + k) ∷ y
    → (k < 2 → HasFar bytes) → Front h bytes
near_front h k d bytes y n l m e f = by_near d k n (near_code_below d n) l m (same_head h _ bytes y e) f

far_front : (h k : ℕ) (d f : Diff) (bytes y : List ℕ) → IsNear d → IsFar f → k < 8 → k ≢ 4
    → h ∷ bytes ≡ (8 * near_code d + k) ∷ (far_bytes f ++ y) → Front h bytes
far_front h k d f bytes y n g l m e = near_front h k d bytes (far_bytes f ++ y) n l m e (λ _. (f, y, g, tail_is h _ bytes (far_bytes f ++ y) e))

-- the front of a command's spelling
pub front : (c : Command) (h : ℕ) (bytes y : List ℕ) → IsCommand c → h ∷ bytes ≡ spelling c ++ y → Front h bytes
front Halt h bytes y i e = let heads_same = same_head h _ bytes y e in alone (omega arith)
front Wait h bytes y i e = let heads_same = same_head h _ bytes y e in alone (omega arith)
front Flip h bytes y i e = let heads_same = same_head h _ bytes y e in alone (omega arith)
front (SMove d) h bytes y i e =
    let is_linear = linear d (long_is d i).0 in
    by_long d i is_linear.low is_linear.high (same_head h _ bytes (raised (component d) 15 ∷ y) e) (y, tail_is h _ bytes (raised (component d) 15 ∷ y) e)
front (LMove d g) h bytes y i e =
    let first_holds = first_of_two (is_short d) (is_short g) i in
    let second_holds = second_of_two (is_short d) (is_short g) i in
    let is_linear = linear d (short_is d first_holds).0 in
    let linear_here = linear g (short_is g second_holds).0 in
    by_short d g first_holds second_holds is_linear.low is_linear.high linear_here.low linear_here.high (same_head h _ bytes _ e) (y, tail_is h _ bytes _ e)
front (FusionP d) h bytes y i e = near_front h 7 d bytes y i (omega arith) (omega arith) e (λ (l : 7 < 2). absurd (omega arith))
front (FusionS d) h bytes y i e = near_front h 6 d bytes y i (omega arith) (omega arith) e (λ (l : 6 < 2). absurd (omega arith))
front (Fission d m) h bytes y i e = near_front h 5 d bytes (m ∷ y) (first_of_two (is_near d) (nat_lt m 256) i) (omega arith) (omega arith) e (λ (l : 5 < 2). absurd (omega arith))
front (Fill d) h bytes y i e = near_front h 3 d bytes y i (omega arith) (omega arith) e (λ (l : 3 < 2). absurd (omega arith))
front (Void d) h bytes y i e = near_front h 2 d bytes y i (omega arith) (omega arith) e (λ (l : 2 < 2). absurd (omega arith))
front (GFill d f) h bytes y i e = far_front h 1 d f bytes y (first_of_two (is_near d) (is_far f) i) (second_of_two (is_near d) (is_far f) i) (omega arith) (omega arith) e
front (GVoid d f) h bytes y i e = far_front h 0 d f bytes y (first_of_two (is_near d) (is_far f) i) (second_of_two (is_near d) (is_far f) i) (omega arith) (omega arith) e

-- bytes are refused if they agree with no spelling, however both go on
pub refused : (bytes : List ℕ) → ((c : Command) (x y : List ℕ) → IsCommand c → bytes ++ x ≡ spelling c ++ y → ⊥)
    → IsNoCommand bytes
refused bytes none = (λ c y i e. none c [] y i (append-nil bytes ∙ e), λ b. none b.0 b.1 [] b.2 (b.4 ∙ sym (append-nil (spelling b.0))))

-- the same for a first byte and the bytes after it
pub refused_by : (h : ℕ) (bytes : List ℕ) → ((x : List ℕ) → Front h (bytes ++ x) → ⊥) → IsNoCommand (h ∷ bytes)
refused_by h bytes none = refused (h ∷ bytes) (λ c x y i e. none x (front c h (bytes ++ x) y i e))

-- ---- bytes that begin a spelling

empty_below : (bytes : List ℕ) → length bytes < 1 → bytes ≡ []
empty_below [] l = refl
empty_below (b ∷ bytes) l = absurd (omega arith)

-- one byte begins a spelling of two
begins_two : (c : Command) (h s : ℕ) (bytes : List ℕ) → length bytes < 1 → IsCommand c → spelling c ≡ h ∷ s ∷ []
    → BeginsSpelling (h ∷ bytes)
begins_two c h s bytes l i e = (c, s ∷ [], i, λ n. cc, ap (λ b. h ∷ (b ++ s ∷ [])) (empty_below bytes l) ∙ sym e)

pub begins_fission : (d : Diff) (k : ℕ) (bytes : List ℕ) → k ≡ 5 → length bytes < 1 → IsNear d
    → BeginsSpelling ((8 * near_code d + k) ∷ bytes)
begins_fission d k bytes e l n = begins_two (Fission d 0) (8 * near_code d + k) 0 bytes l (both_true (is_near d) true n refl) (ap (λ v. (8 * near_code d + v) ∷ 0 ∷ []) (sym e))

pub begins_group : (d : Diff) (k : ℕ) (bytes : List ℕ) → k < 2 → IsNear d → SaysFar bytes far.More
    → BeginsSpelling ((8 * near_code d + k) ∷ bytes)
begins_group d zero bytes l n (f, more, g, m, e) = (GVoid d f, more, both_true (is_near d) (is_far f) n g, m, ap (λ v. (8 * near_code d + 0) ∷ v) e)
begins_group d (suc zero) bytes l n (f, more, g, m, e) = (GFill d f, more, both_true (is_near d) (is_far f) n g, m, ap (λ v. (8 * near_code d + 1) ∷ v) e)
begins_group d (suc (suc k)) bytes l n h = absurd (omega arith)

-- a difference of one step along an axis
stepped : (a : ℕ) → 1 ≤ a → a ≤ 3 → (d : Diff) × IsShort d × IsLong d × (axis d ≡ a)
stepped zero l m = absurd (omega arith)
stepped (suc zero) l m = (along 1 (pos 1), refl, refl, refl)
stepped (suc (suc zero)) l m = (along 2 (pos 1), refl, refl, refl)
stepped (suc (suc (suc zero))) l m = (along 3 (pos 1), refl, refl, refl)
stepped (suc (suc (suc (suc a)))) l m = absurd (omega arith)

pub begins_long : (a : ℕ) (bytes : List ℕ) → 1 ≤ a → a ≤ 3 → length bytes < 1 → BeginsSpelling ((16 * a + 4) ∷ bytes)
begins_long a bytes l m b =
    let stepped_here = stepped a l m in
    begins_two (SMove stepped_here.0) (16 * a + 4) (raised (component stepped_here.0) 15) bytes b stepped_here.2 (ap (λ v. (16 * v + 4) ∷ raised (component stepped_here.0) 15 ∷ []) stepped_here.3)

pub begins_short : (a b : ℕ) (bytes : List ℕ) → 1 ≤ a → a ≤ 3 → 1 ≤ b → b ≤ 3 → length bytes < 1
    → BeginsSpelling ((64 * b + 16 * a + 12) ∷ bytes)
begins_short a b bytes l m n o z =
    let stepped_here = stepped a l m in
    let stepped_here_too = stepped b n o in
    let sum = 16 * raised (component stepped_here_too.0) 5 + raised (component stepped_here.0) 5 in
    begins_two (LMove stepped_here.0 stepped_here_too.0) (64 * b + 16 * a + 12) sum bytes z (both_true (is_short stepped_here.0) (is_short stepped_here_too.0) stepped_here.1 stepped_here_too.1) (ap (λ v. (64 * axis stepped_here_too.0 + 16 * v + 12) ∷ sum ∷ []) stepped_here.3 ∙ ap (λ v. (64 * v + 16 * a + 12) ∷ sum ∷ []) stepped_here_too.3)

-- ---- refused bytes

pub refused_group : (d : Diff) (k : ℕ) (bytes : List ℕ) → k < 2 → IsNear d → SaysFar bytes far.Bad
    → IsNoCommand ((8 * near_code d + k) ∷ bytes)
refused_group d k bytes l n h = refused_by (8 * near_code d + k) bytes (λ x f. no_group x f)
  where
    no_group : (x : List ℕ) → Front (8 * near_code d + k) (bytes ++ x) → ⊥
    no_group x (alone p) = let near_code_below_here = near_code_below d n in omega arith
    no_group x (by_near e j m b p q s t) = let same : j ≡ k = omega arith in let small : j < 2 = omega arith in let g = t small in h g.0 x g.1 g.2 g.3
    no_group x (by_long e m p q s t) = omega arith
    no_group x (by_short e g m p q r s t u v) = omega arith

-- the byte after the first of two short moves
no_short_at : (a b v : ℕ) (bytes : List ℕ) → a ≤ 3 → b ≤ 3 → Front (64 * b + 16 * a + 12) (v ∷ bytes) → (d : Diff)
    × (e : Diff) × IsShort d × IsShort e × (axis d ≡ a) × (axis e ≡ b) × (raised (component d) 5 ≡ v % 16)
    × (raised (component e) 5 ≡ v / 16)
no_short_at a b v bytes l m (alone p) = absurd (omega arith)
no_short_at a b v bytes l m (by_near e j n o p q s t) = absurd (omega arith)
no_short_at a b v bytes l m (by_long e n p q s t) = absurd (omega arith)
no_short_at a b v bytes l m (by_short d e n o p q r s t u) =
    let raised_bound = short_raised d n in
    let raised_bound_here = short_raised e o in
    let v_is : v ≡ 16 * raised (component e) 5 + raised (component d) 5 = same_head v _ bytes u.0 u.1 in
    (d, e, n, o, omega arith, omega arith, omega arith, omega arith)

pub refused_first : (a b : ℕ) (bytes : List ℕ) → a ≤ 3 → b ≤ 3 → 1 ≤ length bytes
    → ((d : Diff) → IsShort d → axis d ≡ a → raised (component d) 5 ≡ get_or bytes 0 0 % 16 → ⊥)
    → IsNoCommand ((64 * b + 16 * a + 12) ∷ bytes)
refused_first a b [] l m n h = absurd (omega arith)
refused_first a b (v ∷ bytes) l m n h = refused_by _ (v ∷ bytes) (λ x f. let not_short = no_short_at a b v (bytes ++ x) l m f in h not_short.0 not_short.2 not_short.4 not_short.6)

pub refused_second : (a b : ℕ) (bytes : List ℕ) → a ≤ 3 → b ≤ 3 → 1 ≤ length bytes
    → ((d : Diff) → IsShort d → axis d ≡ b → raised (component d) 5 ≡ get_or bytes 0 0 / 16 → ⊥)
    → IsNoCommand ((64 * b + 16 * a + 12) ∷ bytes)
refused_second a b [] l m n h = absurd (omega arith)
refused_second a b (v ∷ bytes) l m n h = refused_by _ (v ∷ bytes) (λ x f. let not_short = no_short_at a b v (bytes ++ x) l m f in h not_short.1 not_short.3 not_short.5 not_short.7)
