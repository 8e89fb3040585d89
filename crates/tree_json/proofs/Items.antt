-- What options and lists of items give.
use Rattle.std.proofs.Common.{◌≡◌, suc, List, [], ◌∷◌, length, Option, Some, None, option_and_then, Ok, ok_or, refl, ap}
use Rattle.serde_json.specs.Data.{Data, Items, no_items, item}
use Rattle.serde_json.specs.Events.{items_len}
use Rattle.tree_json.specs.Comments.{all_items}

pub some_bind : {A B : Type 0} (o : Option A) (f : A → Option B) (y : B) → option_and_then f o ≡ Some y → (x : A) × (o ≡ Some x) × (f x ≡ Some y)
some_bind None f y h = absurd (cc)
some_bind (Some x) f y h = (x, refl, h)

pub ok_or-ok : {A E : Type 0} (o : Option A) (e : E) (a : A) → ok_or o e ≡ Ok a → o ≡ Some a
ok_or-ok None e a h = absurd (cc)
ok_or-ok (Some b) e a h = cc

-- the first item has the form, and so have the others
pub all_items-some : {A : Type 0} (form : Data → Option A) (d : Data) (ds : Items) (xs : List A) → all_items form (item d ds) ≡ Some xs
    → (x : A) × (rest : List A) × (form d ≡ Some x) × (all_items form ds ≡ Some rest) × ((x ∷ rest) ≡ xs)
all_items-some form d ds xs h =
    let (x, is, more) = some_bind (form d) _ xs h in
    let (rest, are, whole) = some_bind (all_items form ds) _ xs more in
    (x, rest, is, are, cc)

pub all_items-len : {A : Type 0} (form : Data → Option A) (ds : Items) (xs : List A) → all_items form ds ≡ Some xs → items_len ds ≡ length xs
all_items-len form no_items [] h = refl
all_items-len form no_items (x ∷ xs) h = absurd (cc)
all_items-len form (item d ds) xs h =
    let (x, rest, is, are, whole) = all_items-some form d ds xs h in
    rw (← whole) (ap suc (all_items-len form ds rest are))
