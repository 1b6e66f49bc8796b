-- Properties of a result that hold whether it is `Ok` or `Err`.
use Rattle.std.proofs.Common.{Result, Ok, Err, IfOk, OnErr}

pub if_ok : {T E : Type 0} (r : Result T E) (P : T → Type 0) → ((x : T) → P x) → IfOk r P
if_ok (Ok x) P p = p x
if_ok (Err e) P p = tt

pub on_err : {T E P : Type 0} (r : Result T E) → P → OnErr r P
on_err (Ok x) p = tt
on_err (Err e) p = p
