-- Results.
use Rattle.std.proofs.Common.{◌≡◌, Option, None, Some, Result, Ok, Err, IsOk, OnOk, OnErr}

-- what holds in any case holds on an error
pub on_err : {T E : Type 0} {P : Type 0} (r : Result T E) → P → OnErr r P
on_err (Ok x) p = tt
on_err (Err e) p = p

-- what holds on a success holds of one
pub from_ok : {T E : Type 0} {P : Type 0} (r : Result T E) → IsOk r → OnOk r P → P
from_ok (Ok x) is p = p
from_ok (Err e) is p = absurd (cc)

-- where an error would deny what is there
pub where_present : {T E X : Type 0} {P : Type 0} (r : Result T E) (o : Option X) (x : X) → OnErr r (o ≡ None) → o ≡ Some x → OnOk r P → P
where_present (Ok t) o x absent is p = p
where_present (Err e) o x absent is p = absurd (cc)

-- what follows from what holds on a success, or on an error
pub on_ok_then : {T E : Type 0} {P Q : Type 0} (r : Result T E) → (P → Q) → OnOk r P → OnOk r Q
on_ok_then (Ok x) f p = f p
on_ok_then (Err e) f p = p

pub on_err_then : {T E : Type 0} {P Q : Type 0} (r : Result T E) → (P → Q) → OnErr r P → OnErr r Q
on_err_then (Ok x) f p = p
on_err_then (Err e) f p = f p
