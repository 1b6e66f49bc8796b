-- The beginning of bytes is unique.
use Rattle.std.proofs.Common.{◌≡◌, ℕ, ◌<◌, refl, sym, ◌∙◌, ap, arith, List, [], ◌∷◌, ◌++◌, length, drop}
use Rattle.std.proofs.lemmas.List.{append-nil, append_assoc, length-take-le, take-append-drop}
use Rattle.nano_spec.specs.declared.commands.Command.{Command}
use Rattle.nano_spec.specs.declared.commands.Command.TheVariants.{Halt}
use Rattle.nano_spec.specs.Command.{IsCommand}
use Rattle.nano_spec.specs.Cutting.{BeginsSpelling}
use Rattle.nano_spec.specs.Spelling.{spelling}
use Rattle.nano_spec.proofs.Traces.{one_spelling}
use Rattle.trace_codec.specs.declared.one.One.{One}
use Rattle.trace_codec.specs.declared.one.One.TheVariants.{Got, More, Bad}
use Rattle.trace_codec.specs.One.{Spells, BeginsWith}

-- no bytes begin a spelling
pub begins_nil : BeginsSpelling []
begins_nil = (Halt, spelling Halt, refl, λ e. cc, refl)

pub begins_below : (bytes : List ℕ) → length bytes < 1 → BeginsSpelling bytes
begins_below [] l = begins_nil
begins_below (b ∷ bytes) l = absurd (omega arith)

-- bytes whose front spells a command are the spelling and a rest
pub split : (bytes : List ℕ) (c : Command) (len : ℕ) → Spells bytes c len → bytes ≡ spelling c ++ drop len bytes
split bytes c len s = sym (take-append-drop len bytes) ∙ ap (λ x. x ++ drop len bytes) s.spelling_is

pub len_is : (bytes : List ℕ) (c : Command) (len : ℕ) → Spells bytes c len → len ≡ length (spelling c)
len_is bytes c len s = sym (length-take-le len bytes s.within) ∙ ap length s.spelling_is

pub nil_of : (x y : List ℕ) → x ++ y ≡ [] → y ≡ []
nil_of [] y e = e
nil_of (b ∷ x) y e = cc

-- a spelling with anything after it is no proper part of a spelling
pub no_part : (bytes rest : List ℕ) (c : Command) → IsCommand c → bytes ≡ spelling c ++ rest → BeginsSpelling bytes → ⊥
no_part bytes rest c i e b =
    b.3 (nil_of rest b.1 (one_spelling c b.0 (rest ++ b.1) [] i b.2 (sym (append_assoc (spelling c) rest b.1) ∙ (ap (λ x. x ++ b.1) (sym e) ∙ (b.4 ∙ sym (append-nil (spelling b.0)))))).1)

-- bytes begin with one command at most
pub same_command : (bytes : List ℕ) (c d : Command) (x y : List ℕ) → IsCommand c → IsCommand d → bytes ≡ spelling c ++ x
    → bytes ≡ spelling d ++ y → c ≡ d
same_command bytes c d x y i j e f = (one_spelling c d x y i j (sym e ∙ f)).0

pub Says-unique : (bytes : List ℕ) (a b : One) → BeginsWith bytes a → BeginsWith bytes b → a ≡ b
Says-unique bytes (Got c n) (Got d m) s t =
    let command_is = same_command bytes c d _ _ s.is_command t.is_command (split bytes c n s) (split bytes d m t) in
    let n_is : n ≡ m = len_is bytes c n s ∙ (ap (λ x. length (spelling x)) command_is ∙ sym (len_is bytes d m t)) in
    λ i. Got (command_is i) (n_is i)
Says-unique bytes (Got c n) More s t = absurd (no_part bytes (drop n bytes) c s.is_command (split bytes c n s) t)
Says-unique bytes (Got c n) Bad s t = absurd (t.0 c (drop n bytes) s.is_command (split bytes c n s))
Says-unique bytes More (Got d m) s t = absurd (no_part bytes (drop m bytes) d t.is_command (split bytes d m t) s)
Says-unique bytes More More s t = refl
Says-unique bytes More Bad s t = absurd (t.1 s)
Says-unique bytes Bad (Got d m) s t = absurd (s.0 d (drop m bytes) t.is_command (split bytes d m t))
Says-unique bytes Bad More s t = absurd (s.1 t)
Says-unique bytes Bad Bad s t = refl
