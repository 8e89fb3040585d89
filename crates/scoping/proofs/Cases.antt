-- Results, whichever they are.
use Rattle.std.proofs.Common.{Result, Ok, Err, OnOk, OnErr}

-- what follows both from what holds on a success and from what holds on an error
pub either : {T E : Type 0} {P Q R : Type 0} (r : Result T E) → (P → R) → (Q → R) → OnOk r P → OnErr r Q → R
either (Ok x) f g p q = f p
either (Err e) f g p q = g q
