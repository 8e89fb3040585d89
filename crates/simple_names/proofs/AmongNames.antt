-- Whether a name is among others.
use Rattle.std.proofs.Common.{◌≡◌, ℕ, List, [], ◌∷◌, ◌++◌, ◌||◌, Option, Some, None, Result, Ok, Err, IfOk, bytes_eq, length, refl, sym, ap, ◌∙◌}
use Rattle.std.specs.Str.{chars, IsUtf8}
use Rattle.std.proofs.lemmas.Str.{encodes-chars}
use Rattle.semantic_syntax.proofs.Truth.{or_assoc}
use Rattle.semantic_syntax.specs.Tables.{Name}
use Rattle.mangle_model.specs.Assignment.{first_name}
use Rattle.mangle_model.specs.Written.{size_of}
use Rattle.simple_names.specs.Telling.{is_name_among}

pub has_append : (q : Name) (xs ys : List Name) → is_name_among (xs ++ ys) q ≡ (is_name_among xs q || is_name_among ys q)
has_append q [] ys = refl
has_append q (x ∷ xs) ys = ap (λ b. bytes_eq q x || b) (has_append q xs ys) ∙ sym (or_assoc (bytes_eq q x) (is_name_among xs q) (is_name_among ys q))

pub first_assoc : (a b c : Option Name) → first_name (first_name a b) c ≡ first_name a (first_name b c)
first_assoc None b c = refl
first_assoc (Some name) b c = refl

pub none_after : (a : Option Name) → first_name a None ≡ a
none_after None = refl
none_after (Some name) = refl

-- a text has as many bytes as its name
pub sizes : (bytes : List ℕ) → IsUtf8 bytes → length bytes ≡ size_of (chars bytes)
sizes bytes u = sym (ap length (encodes-chars bytes u))

-- what holds of a value implies what holds of it
pub if_ok : {A E : Type 0} {P Q : A → Type 0} (r : Result A E) → ((x : A) → P x → Q x) → IfOk r P → IfOk r Q
if_ok (Ok x) f h = f x h
if_ok (Err e) f h = tt
