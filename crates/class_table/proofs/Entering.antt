-- The classes outward as a body is entered and left.
use Rattle.std.proofs.Common.{◌≡◌, ℕ, zero, suc, ◌<◌, List, [], ◌∷◌, ◌++◌, cond, Option, None, Some, IfSome, inl, inr, refl, ap, ◌∙◌, length, arith}
use Rattle.std.specs.List.{AllByRecursion}
use Rattle.std.specs.Option.{option_map, option_map_or, option_to_list}
use Rattle.std.specs.Prelude.{nat_eq}
use Rattle.std.proofs.lemmas.Bool.Decides.{eqb_tells}
use Rattle.semantic_model.specs.Element.{Element}
use Rattle.class_table.specs.Lists.{ClassLists, IsInside, with_class}
use Rattle.class_table.specs.Outward.{parent_class, StandBefore, classes_outward_within, classes_outward_from}
use Rattle.class_table.proofs.Parents.{stand_before, outward_steps}

-- the entry of a new class
abbrev entry : ℕ → Option ℕ → List (ℕ × ℕ)
entry n current = option_to_list (option_map (λ p. (n, p)) current)

not_entry : (n c : ℕ) (current : Option ℕ) → c < n → parent_class (entry n current) c ≡ None
not_entry n c None l = refl
not_entry n c (Some p) l = elim (eqb_tells c n) [ inl q ↦ absurd (omega (arith, l, q.1)) | inr q ↦ rw q.0 refl ]

-- entries of none of the classes before the n-th leave these as they are
module _ (n : ℕ) (more : List (ℕ × ℕ)) (later : (c : ℕ) → c < n → parent_class more c ≡ None) where
  parent_kept : (ps : List (ℕ × ℕ)) (c : ℕ) → c < n → parent_class (ps ++ more) c ≡ parent_class ps c
  parent_kept [] c l = later c l
  parent_kept (e ∷ ps) c l = ap (λ o. cond (nat_eq c e.0) (Some e.1) o) (parent_kept ps c l)

  within_kept : (ps : List (ℕ × ℕ)) (k c : ℕ) → StandBefore ps → c < n → classes_outward_within k (ps ++ more) c ≡ classes_outward_within k ps c
  within_kept ps zero c before l = refl
  within_kept ps (suc k) c before l =
      ap (λ o. c ∷ option_map_or (classes_outward_within k (ps ++ more)) o []) (parent_kept ps c l)
      ∙ ap (λ ids. c ∷ ids) (by (parent_class ps c) (before c) (λ p h. within_kept ps k p before (omega (arith, h, l))))
    where
      by : (o : Option ℕ) → IfSome o (λ p. p < c) → ((p : ℕ) → p < c → classes_outward_within k (ps ++ more) p ≡ classes_outward_within k ps p) → option_map_or (classes_outward_within k (ps ++ more)) o [] ≡ option_map_or (classes_outward_within k ps) o []
      by None h f = refl
      by (Some p) h f = f p h

  pub outward_kept : (ps : List (ℕ × ℕ)) (current : Option ℕ) → StandBefore ps → IfSome current (λ c. c < n) → classes_outward_from (ps ++ more) current ≡ classes_outward_from ps current
  outward_kept ps None before h = refl
  outward_kept ps (Some c) before h = within_kept ps (suc c) c before h

own_entry : (n : ℕ) (current : Option ℕ) → parent_class (entry n current) n ≡ current
own_entry n None = refl
own_entry n (Some p) = elim (eqb_tells n n) [ inl q ↦ rw q.0 refl | inr q ↦ absurd (q.1 refl) ]

-- and its own is the current class
own_parent : (ps : List (ℕ × ℕ)) (n : ℕ) (current : Option ℕ) → AllByRecursion (IsInside n) ps → parent_class (ps ++ entry n current) n ≡ current
own_parent [] n current h = own_entry n current
own_parent (e ∷ ps) n current h = elim (eqb_tells n e.0) [ inl q ↦ absurd (omega (arith, h.0.0, q.1)) | inr q ↦ rw q.0 (own_parent ps n current h.1) ]

-- once a body is entered, its class stands in front of the classes outward
pub entered_outward : (lists : ClassLists) (current : Option ℕ) (node : ℕ) (es : List Element)
    → AllByRecursion (IsInside (length lists.nodes)) lists.parents → StandBefore (with_class lists current node es).parents → IfSome current (λ c. c < length lists.nodes)
    → classes_outward_from (with_class lists current node es).parents (Some (length lists.nodes)) ≡ length lists.nodes ∷ classes_outward_from lists.parents current
entered_outward lists current node es inside before h =
    outward_steps (with_class lists current node es).parents (length lists.nodes) before
    ∙ ap (λ o. length lists.nodes ∷ classes_outward_from (with_class lists current node es).parents o) (own_parent lists.parents (length lists.nodes) current inside)
    ∙ ap (λ ids. length lists.nodes ∷ ids) (outward_kept (length lists.nodes) (entry (length lists.nodes) current) (λ c l. not_entry (length lists.nodes) c current l) lists.parents current (stand_before (length lists.nodes) lists.parents inside) h)

-- once a body is left, its class is taken from the front
pub left_outward : (lists : ClassLists) (c : ℕ) → StandBefore lists.parents → classes_outward_from lists.parents (Some c) ≡ c ∷ classes_outward_from lists.parents (parent_class lists.parents c)
left_outward lists c before = outward_steps lists.parents c before
