-- In a program without a fault each class ends with its body, and there are no other bodies.
use Rattle.std.proofs.Common.{◌≡◌, ℕ, List, [], ◌∷◌, ◌++◌, Bool, true, false, not, ◌&&◌, cond, take, drop, length, None, refl, subst, inl, inr, ◌==◌, arith}
use Rattle.std.specs.List.{list_all}
use Rattle.std.proofs.lemmas.Bool.{cases_Bool, eqb-true, and_from}
use Rattle.std.proofs.lemmas.List.{take-append-drop}
use Rattle.semantic_syntax.proofs.Truth.{and_first, and_second}
use Rattle.semantic_kinds.specs.Kinds.{same_kind}
use Rattle.semantic_kinds.specs.Classes.{is_of}
use Rattle.semantic_kinds.specs.Parts.{parts}
use Rattle.semantic_kinds.specs.declared.kind.AstType.{AstType}
use Rattle.semantic_kinds.specs.declared.kind.AstType.TheVariants as kind
use Rattle.semantic_kinds.specs.declared.role.Role.{Role}
use Rattle.semantic_kinds.specs.declared.role.Role.TheVariants as role
use Rattle.semantic_kinds.specs.declared.part.Count.TheVariants as count
use Rattle.semantic_kinds.specs.declared.class.Class.TheVariants as class
use Rattle.semantic_kinds.specs.declared.part.Part.{Part}
use Rattle.semantic_tree.specs.Forest.{Forest, nothing, tree}
use Rattle.semantic_tree.specs.Tree.{Tree}
use Rattle.semantic_tree.specs.Nodes.{trees}
use Rattle.semantic_tree.specs.Fit.{lead, all_of, is_run, fit}
use Rattle.semantic_tree.specs.Place.{root_place, child_place, placed_below}
use Rattle.semantic_tree.specs.Faults.{first_fault}
use Rattle.semantic_tree.specs.declared.node.Node.{Node}
use Rattle.semantic_tree.specs.declared.place.Place.{Place}
use Rattle.semantic_model.proofs.form.Clauses.{kind_is}
use Rattle.semantic_model.proofs.fold.Orders.{HasForm}
use Rattle.semantic_model.proofs.form.Shape.{NoneMisshapen, first_formed, rest_formed, table_kept, fit_kept, none_misshapen, has_form}
use Rattle.class_table.specs.Bodies.{is_nothing, ends_with_body, has_no_body, end_rightly, all_end_rightly}

-- the last of the children is a class body, and no other is
abbrev last_is_body : List (Role × Node) → Bool
last_is_body [] = false
last_is_body (c ∷ cs) = cond (same_kind c.1.kind kind.ClassBody) (length cs == 0) (last_is_body cs)

-- none of the children is a class body
abbrev none_is_body : List (Role × Node) → Bool
none_is_body cs = list_all (λ c. not (same_kind c.1.kind kind.ClassBody)) cs

-- no child of the part is a body, or it is that of a class
takes : Bool → List ℕ → Part → Bool
takes of_class text part = cond of_class true (not (is_of part.class kind.ClassBody text))

-- no child of these parts is a body
abbrev TakeNone : List Part → Type 0
TakeNone ps = (text : List ℕ) → list_all (takes false text) ps ≡ true

-- bodies stand under classes alone
all_parts : (k : AstType) (text : List ℕ) → list_all (takes (same_kind k kind.Class) text) (parts k) ≡ true
unfolding takes
all_parts kind.Program text = refl
all_parts _ text = refl

other_parts : (k : AstType) → same_kind k kind.Class ≡ false → TakeNone (parts k)
other_parts k e text = subst (λ c. list_all (takes c text) (parts k) ≡ true) e (all_parts k text)

own_none : (part : Part) (k : AstType) (text : List ℕ) → takes false text part ≡ true → is_of part.class k text ≡ true → not (same_kind k kind.ClassBody) ≡ true
unfolding takes
own_none part k text h i = elim (cases_Bool (same_kind k kind.ClassBody)) [
  | inl e ↦
      (let taken : is_of part.class kind.ClassBody text ≡ true = subst (λ q. is_of part.class q text ≡ true) (kind_is k kind.ClassBody e) i in
      let q : false ≡ true = rw taken at h in absurd cc)
  | inr e ↦ rw e refl
]

run_none : (part : Part) (cs : List (Role × Node)) → ((text : List ℕ) → takes false text part ≡ true) → all_of part.class cs ≡ true → none_is_body cs ≡ true
run_none part [] h i = refl
run_none part (c ∷ cs) h i =
    and_from (not (same_kind c.1.kind kind.ClassBody)) (none_is_body cs)
    (own_none part c.1.kind c.1.text (h c.1.text) (and_first (is_of part.class c.1.kind c.1.text) _ i))
    (run_none part cs h (and_second (is_of part.class c.1.kind c.1.text) _ i))

none_append : (xs ys : List (Role × Node)) → none_is_body xs ≡ true → none_is_body ys ≡ true → none_is_body (xs ++ ys) ≡ true
none_append [] ys h i = i
none_append (x ∷ xs) ys h i = and_from (not (same_kind x.1.kind kind.ClassBody)) (none_is_body (xs ++ ys)) (and_first (not (same_kind x.1.kind kind.ClassBody)) _ h) (none_append xs ys (and_second (not (same_kind x.1.kind kind.ClassBody)) _ h) i)

last_append : (xs ys : List (Role × Node)) → none_is_body xs ≡ true → last_is_body ys ≡ true → last_is_body (xs ++ ys) ≡ true
last_append [] ys h i = i
last_append (x ∷ xs) ys h i = by (same_kind x.1.kind kind.ClassBody) (and_first (not (same_kind x.1.kind kind.ClassBody)) _ h) (last_append xs ys (and_second (not (same_kind x.1.kind kind.ClassBody)) _ h) i)
  where
    by : (b : Bool) → not b ≡ true → last_is_body (xs ++ ys) ≡ true → cond b (length (xs ++ ys) == 0) (last_is_body (xs ++ ys)) ≡ true
    by false n l = l
    by true n l = absurd cc

-- the first part and those behind it
runs : (part : Part) (ps : List Part) (cs : List (Role × Node)) → fit (part ∷ ps) cs ≡ true → (is_run part (take (lead part.role cs) cs) ≡ true) × (fit ps (drop (lead part.role cs) cs) ≡ true)
runs part ps cs f = (and_first (is_run part (take (lead part.role cs) cs)) _ f, and_second (is_run part (take (lead part.role cs) cs)) _ f)

fit_none : (ps : List Part) (cs : List (Role × Node)) → TakeNone ps → fit ps cs ≡ true → none_is_body cs ≡ true
fit_none [] [] h f = refl
fit_none [] (c ∷ cs) h f = let q : length (c ∷ cs) ≡ 0 = eqb-true (length (c ∷ cs)) 0 f in absurd (omega arith)
fit_none (p ∷ ps) cs h f =
    let n : ℕ = lead p.role cs in
    let r = runs p ps cs f in
    subst (λ xs. none_is_body xs ≡ true) (take-append-drop n cs)
    (none_append (take n cs) (drop n cs) (run_none p (take n cs) (λ text. and_first (takes false text p) _ (h text)) (and_second _ (all_of p.class (take n cs)) r.0)) (fit_none ps (drop n cs) (λ text. and_second (takes false text p) _ (h text)) r.1))

abbrev body_part : Part
body_part = record { role = role.Body; count = count.One; class = class.Only kind.ClassBody }

one_body : (xs ys : List (Role × Node)) → (length xs == 1) ≡ true → all_of (class.Only kind.ClassBody) xs ≡ true → (length ys == 0) ≡ true → last_is_body (xs ++ ys) ≡ true
one_body [] ys n h e = absurd cc
one_body (x ∷ []) [] n h e = rw (and_first (same_kind x.1.kind kind.ClassBody) true h) refl
one_body (x ∷ []) (y ∷ ys) n h e = let q : length (y ∷ ys) ≡ 0 = eqb-true (length (y ∷ ys)) 0 e in absurd (omega arith)
one_body (x ∷ y ∷ xs) ys n h e = let q : length (x ∷ y ∷ xs) ≡ 1 = eqb-true (length (x ∷ y ∷ xs)) 1 n in absurd (omega arith)

fit_last : (ps : List Part) (cs : List (Role × Node)) → TakeNone ps → fit (ps ++ body_part ∷ []) cs ≡ true → last_is_body cs ≡ true
fit_last [] cs h f =
    let n : ℕ = lead role.Body cs in
    let r = runs body_part [] cs f in
    subst (λ xs. last_is_body xs ≡ true) (take-append-drop n cs)
    (one_body (take n cs) (drop n cs) (and_first (length (take n cs) == 1) _ r.0) (and_second (length (take n cs) == 1) (all_of (class.Only kind.ClassBody) (take n cs)) r.0) r.1)
fit_last (p ∷ ps) cs h f =
    let n : ℕ = lead p.role cs in
    let r = runs p (ps ++ body_part ∷ []) cs f in
    subst (λ xs. last_is_body xs ≡ true) (take-append-drop n cs)
    (last_append (take n cs) (drop n cs) (run_none p (take n cs) (λ text. and_first (takes false text p) _ (h text)) (and_second _ (all_of p.class (take n cs)) r.0)) (fit_last ps (drop n cs) (λ text. and_second (takes false text p) _ (h text)) r.1))

-- without the last one
abbrev before_last : List Part → List Part
before_last [] = []
before_last (p ∷ []) = []
before_last (p ∷ q ∷ ps) = p ∷ before_last (q ∷ ps)

class_parts : TakeNone (before_last (parts kind.Class))
unfolding takes
class_parts text = refl

-- the tests on lists are those on forests
last_of : (f : Forest) → last_is_body (trees f) ≡ true → ends_with_body f ≡ true
last_of nothing h = h
last_of (tree r k span text marks below id after) h = by (same_kind k kind.ClassBody) h (last_of after)
  where
    alone : (f : Forest) → (length (trees f) == 0) ≡ true → is_nothing f ≡ true
    alone nothing e = refl
    alone (tree r k span text marks below id after) e = let q : length (trees (tree r k span text marks below id after)) ≡ 0 = eqb-true (length (trees (tree r k span text marks below id after))) 0 e in absurd (omega arith)

    by : (b : Bool) → cond b (length (trees after) == 0) (last_is_body (trees after)) ≡ true → (last_is_body (trees after) ≡ true → ends_with_body after ≡ true) → cond b (is_nothing after) (ends_with_body after) ≡ true
    by true e ih = alone after e
    by false e ih = ih e

none_of : (f : Forest) → none_is_body (trees f) ≡ true → has_no_body f ≡ true
none_of nothing h = refl
none_of (tree r k span text marks below id after) h =
    and_from (not (same_kind k kind.ClassBody)) (has_no_body after) (and_first (not (same_kind k kind.ClassBody)) _ h) (none_of after (and_second (not (same_kind k kind.ClassBody)) _ h))

-- the children of a node that keeps the table
own_end : (k : AstType) (f : Forest) → fit (parts k) (trees f) ≡ true → end_rightly k f ≡ true
own_end k f h = elim (cases_Bool (same_kind k kind.Class)) [
  | inl e ↦ rw e (last_of f (fit_last (before_last (parts kind.Class)) (trees f) class_parts (subst (λ q. fit (parts q) (trees f) ≡ true) (kind_is k kind.Class e) h)))
  | inr e ↦ rw e (none_of f (fit_none (parts k) (trees f) (other_parts k e) h))
]

forest_ends : (place : Place) (k : AstType) (f : Forest) → NoneMisshapen (placed_below place k f) → all_end_rightly f ≡ true
forest_ends place k nothing h = refl
forest_ends place k (tree r k2 span text marks below id after) h =
    let node : Node = record { kind = k2; span = span; text = text; marks = marks; children = below; node_id = id } in
    let here : Place = child_place place k r in
    let q = first_formed (here, node) (placed_below here k2 below ++ placed_below place k after) h in
    let w : NoneMisshapen (placed_below here k2 below) × NoneMisshapen (placed_below place k after) = rest_formed (placed_below here k2 below) (placed_below place k after) q.1 in
    and_from (end_rightly k2 below) (all_end_rightly below && all_end_rightly after) (own_end k2 below (fit_kept node (table_kept here node q.0)))
    (and_from (all_end_rightly below) (all_end_rightly after) (forest_ends here k2 below w.0) (forest_ends place k after w.1))

-- the program is no class, and below it classes end with their bodies
pub bodies_stand : (p : Tree) → first_fault p ≡ None → (p.root.kind ≡ kind.Program) × (has_no_body p.root.children ≡ true) × (all_end_rightly p.root.children ≡ true)
bodies_stand p h =
    let all : NoneMisshapen ((root_place, p.root) ∷ placed_below root_place p.root.kind p.root.children) = none_misshapen p h in
    let q = first_formed (root_place, p.root) (placed_below root_place p.root.kind p.root.children) all in
    let form : HasForm p = has_form p h in
    let own : end_rightly p.root.kind p.root.children ≡ true = own_end p.root.kind p.root.children (fit_kept p.root (table_kept root_place p.root q.0)) in
    (form.root, subst (λ k. end_rightly k p.root.children ≡ true) form.root own, forest_ends root_place p.root.kind p.root.children q.1)
