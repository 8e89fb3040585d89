-- The classes that a walk shows, as a body is entered and left.
use Rattle.std.proofs.Common.{◌≡◌, ℕ, zero, suc, ◌<◌, List, [], ◌∷◌, ◌++◌, Option, None, Some, IfSome, refl, sym, ap, ◌∙◌, map, length, arith, slice_index_or}
use Rattle.std.specs.List.{AllByRecursion}
use Rattle.std.specs.Option.{option_map_or}
use Rattle.semantic_model.specs.Element.{Element}
use Rattle.class_table.specs.Lists.{ClassLists, IsInside, with_class, with_use}
use Rattle.semantic_model.specs.Class.{PrivateUse}
use Rattle.class_table.specs.Outward.{parent_class, StandBefore, classes_outward_within, classes_outward_from}
use Rattle.class_table.proofs.Parents.{stand_before}
use Rattle.class_table.proofs.Entering.{entered_outward, left_outward}
use Rattle.check_model.specs.Context.{seen_class, classes_from}

pub map_same : {A B : Type 0} (P : A → Type 0) (f g : A → B) (xs : List A) → AllByRecursion P xs → ((x : A) → P x → f x ≡ g x) → map f xs ≡ map g xs
map_same P f g [] h k = refl
map_same P f g (x ∷ xs) h k = λ i. k x h.0 i ∷ map_same P f g xs h.1 k i

all_below : (ps : List (ℕ × ℕ)) (n k c : ℕ) → StandBefore ps → c < n → AllByRecursion (λ i. i < n) (classes_outward_within k ps c)
all_below ps n zero c before l = tt
all_below ps n (suc k) c before l = (l, by (parent_class ps c) (before c) (λ p h. all_below ps n k p before (omega (arith, h, l))))
  where
    by : (o : Option ℕ) → IfSome o (λ p. p < c) → ((p : ℕ) → p < c → AllByRecursion (λ i. i < n) (classes_outward_within k ps p)) → AllByRecursion (λ i. i < n) (option_map_or (classes_outward_within k ps) o [])
    by None h f = tt
    by (Some p) h f = f p h

pub from_below : (ps : List (ℕ × ℕ)) (n : ℕ) (current : Option ℕ) → StandBefore ps → IfSome current (λ c. c < n) → AllByRecursion (λ i. i < n) (classes_outward_from ps current)
from_below ps n None before h = tt
from_below ps n (Some c) before h = all_below ps n (suc c) c before h

before_last : {A : Type 0} (xs : List A) (y d : A) (c : ℕ) → c < length xs → slice_index_or (xs ++ y ∷ []) c d ≡ slice_index_or xs c d
before_last [] y d c l = absurd (omega (arith, l))
before_last (x ∷ xs) y d zero l = refl
before_last (x ∷ xs) y d (suc c) l = before_last xs y d c (omega (arith, l))

the_last : {A : Type 0} (xs : List A) (y d : A) (n : ℕ) → n ≡ length xs → slice_index_or (xs ++ y ∷ []) n d ≡ y
the_last [] y d zero e = refl
the_last [] y d (suc n) e = absurd (omega (arith, e))
the_last (x ∷ xs) y d zero e = absurd (omega (arith, e))
the_last (x ∷ xs) y d (suc n) e = the_last xs y d n (omega (arith, e))

-- once a body is entered, its class stands in front
pub body_entered : (lists : ClassLists) (current : Option ℕ) (node : ℕ) (es : List Element)
    → AllByRecursion (IsInside (length lists.nodes)) lists.parents → length lists.elements ≡ length lists.nodes → StandBefore (with_class lists current node es).parents → IfSome current (λ c. c < length lists.nodes)
    → classes_from (with_class lists current node es) (Some (length lists.nodes)) ≡ record { node = node; elements = es } ∷ classes_from lists current
body_entered lists current node es inside same before h =
    let n : ℕ = length lists.nodes in
    let new : ClassLists = with_class lists current node es in
    let old : StandBefore lists.parents = stand_before n lists.parents inside in
    let first : seen_class new n ≡ record { node = node; elements = es } =
    λ i. record { node = the_last lists.nodes node 0 n refl i; elements = the_last lists.elements es [] n (sym same) i } in
    let others : map (seen_class new) (classes_outward_from lists.parents current) ≡ classes_from lists current =
    map_same (λ c. c < n) (seen_class new) (seen_class lists) (classes_outward_from lists.parents current) (from_below lists.parents n current old h)
    (λ c l. λ i. record { node = before_last lists.nodes node 0 c l i; elements = before_last lists.elements es [] c (omega (arith, l, same)) i }) in
    ap (map (seen_class new)) (entered_outward lists current node es inside before h)
    ∙ (λ i. first i ∷ others i)

-- once it is left, its class is taken from the front
pub body_left : (lists : ClassLists) (c : ℕ) → StandBefore lists.parents → classes_from lists (Some c) ≡ seen_class lists c ∷ classes_from lists (parent_class lists.parents c)
body_left lists c before = ap (map (seen_class lists)) (left_outward lists c before)

-- a use of a private name changes none of them
pub use_noted : (lists : ClassLists) (current : Option ℕ) (c : ℕ) (used : PrivateUse) → classes_from (with_use lists c used) current ≡ classes_from lists current
use_noted lists current c used = refl
