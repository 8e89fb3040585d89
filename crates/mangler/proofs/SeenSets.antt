-- Sets that grow item by item.
use Rattle.std.proofs.Common.{◌≡◌, ◌||◌, ◌+◌, ◌<◌, ◌≤◌, ℕ, List, Bool, Option, Some, None, Result, Ok, Err, IfOk, IfSome, length, drop, get_or, ap, sym, ◌∙◌}
use Rattle.std.specs.List.{list_any}
use Rattle.std.proofs.Math.ListN.{drop_of_length-le}
use Rattle.semantic_syntax.proofs.Truth.{or_false, drop_here}
use Rattle.mangler.proofs.AnyOf.{or_assoc}

module _ {A : Type 0} (test : A → Bool) where
  -- what one item more adds, and one less that is left
  pub more_any : (items : List A) (i : ℕ) (item : A) (before now whole : Bool) → i < length items → item ≡ get_or items i item → now ≡ (before || test item)
      → (before || list_any test (drop i items)) ≡ whole → (now || list_any test (drop (i + 1) items)) ≡ whole
  more_any items i item before now whole h e grown rest =
      ap (λ b. b || list_any test (drop (i + 1) items)) grown
      ∙ or_assoc before (test item) (list_any test (drop (i + 1) items))
      ∙ ap (λ xs. before || list_any test xs) (sym (drop_here items i item h e))
      ∙ rest

  pub no_more : (items : List A) (i : ℕ) (now whole : Bool) → length items ≤ i → (now || list_any test (drop i items)) ≡ whole → now ≡ whole
  no_more items i now whole h rest = sym (or_false now) ∙ sym (ap (λ xs. now || list_any test xs) (drop_of_length-le items h)) ∙ rest

-- what holds of a value implies what holds of it
pub if_ok : {A E : Type 0} {P Q : A → Type 0} (r : Result A E) → ((x : A) → P x → Q x) → IfOk r P → IfOk r Q
if_ok (Ok x) f h = f x h
if_ok (Err e) f h = tt

pub if_some : {A : Type 0} {P Q : A → Type 0} (o : Option A) → ((x : A) → P x → Q x) → IfSome o P → IfSome o Q
if_some (Some x) f h = f x h
if_some None f h = tt
