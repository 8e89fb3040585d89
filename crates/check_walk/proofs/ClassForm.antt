-- In a program without a fault classes have their shape.
use Rattle.std.proofs.Common.{◌≡◌, ℕ, List, ◌∷◌, ◌++◌, Bool, true, false, not, ◌&&◌, cond, refl, sym, subst, inl, inr, None}
use Rattle.std.specs.List.{list_all}
use Rattle.std.proofs.lemmas.Bool.{cases_Bool, and_from}
use Rattle.semantic_syntax.proofs.Truth.{and_first, and_second}
use Rattle.semantic_kinds.specs.Kinds.{same_kind}
use Rattle.semantic_kinds.specs.Roles.{same_role}
use Rattle.semantic_kinds.specs.Classes.{is_of}
use Rattle.semantic_kinds.specs.Parts.{parts}
use Rattle.semantic_kinds.specs.declared.kind.AstType.{AstType}
use Rattle.semantic_kinds.specs.declared.kind.AstType.TheVariants as kind
use Rattle.semantic_kinds.specs.declared.role.Role.{Role}
use Rattle.semantic_kinds.specs.declared.role.Role.TheVariants as role
use Rattle.semantic_kinds.specs.declared.class.Class.{Class}
use Rattle.semantic_kinds.specs.declared.class.Class.TheVariants as class
use Rattle.semantic_kinds.specs.declared.part.Part.{Part}
use Rattle.semantic_tree.specs.Forest.{Forest, nothing, tree}
use Rattle.semantic_tree.specs.Tree.{Tree}
use Rattle.semantic_tree.specs.Nodes.{trees}
use Rattle.semantic_tree.specs.Fit.{fit}
use Rattle.semantic_tree.specs.Place.{root_place, child_place, placed_below}
use Rattle.semantic_tree.specs.Faults.{first_fault}
use Rattle.semantic_tree.specs.declared.node.Node.{Node}
use Rattle.semantic_tree.specs.declared.place.Place.{Place}
use Rattle.semantic_model.proofs.form.Clauses.{kind_is}
use Rattle.semantic_model.proofs.form.PartsHold.{hold, passed_hold, fit_holds}
use Rattle.semantic_model.proofs.form.Shape.{NoneMisshapen, first_formed, rest_formed, table_kept, fit_kept, none_misshapen}
use Rattle.class_table.specs.Bodies.{end_rightly, all_end_rightly}
use Rattle.class_table.proofs.BodiesStand.{bodies_stand}
use Rattle.check_walk.specs.Shaped.{has_own_role, have_own_role, is_class_shape, are_class_shapes}

-- the class has class bodies alone
is_body_class : Class → Bool
is_body_class (class.Only k) = same_kind k kind.ClassBody
is_body_class _ = false

-- the part is that of class bodies, or takes none
takes_rightly : AstType → List ℕ → Part → Bool
takes_rightly parent text part =
    cond (same_kind parent kind.Class) (cond (same_role part.role role.Body) (is_body_class part.class) (not (is_of part.class kind.ClassBody text))) true

all_parts : (k : AstType) (text : List ℕ) → list_all (takes_rightly k text) (parts k) ≡ true
unfolding takes_rightly is_body_class
all_parts kind.Program text = refl
all_parts _ text = refl

body_of_class : (c : Class) (k : AstType) (text : List ℕ) → is_body_class c ≡ true → is_of c k text ≡ true → same_kind k kind.ClassBody ≡ true
unfolding is_body_class
body_of_class (class.Only k2) k text h i = subst (λ q. same_kind k q ≡ true) (kind_is k2 kind.ClassBody h) i
body_of_class _ k text h i = absurd cc

part_own : (parent : AstType) (part : Part) (k : AstType) (text : List ℕ) → takes_rightly parent text part ≡ true → is_of part.class k text ≡ true → has_own_role parent part.role k ≡ true
unfolding takes_rightly
part_own parent part k text h i = elim (cases_Bool (same_kind parent kind.Class)) [
  | inl e ↦
      (let taken : cond (same_role part.role role.Body) (is_body_class part.class) (not (is_of part.class kind.ClassBody text)) ≡ true = rw e at h in
      rw e (elim (cases_Bool (same_role part.role role.Body)) [
        | inl f ↦ rw (f, body_of_class part.class k text (rw f at taken) i) refl
        | inr f ↦
            (let none : not (is_of part.class kind.ClassBody text) ≡ true = rw f at taken in
            rw f (elim (cases_Bool (same_kind k kind.ClassBody)) [
              | inl g ↦
                  (let is_body : is_of part.class kind.ClassBody text ≡ true = subst (λ q. is_of part.class q text ≡ true) (kind_is k kind.ClassBody g) i in
                  let q : false ≡ true = rw is_body at none in absurd cc)
              | inr g ↦ rw g refl
            ]))
      ]))
  | inr e ↦ rw e refl
]

-- the test of all parts
abbrev is_own : AstType → Role → AstType → List ℕ → Bool
is_own parent r k text = has_own_role parent r k

-- the tests on lists are those on forests
own_forest : (parent : AstType) (f : Forest) → hold is_own parent (trees f) ≡ true → have_own_role parent f ≡ true
own_forest parent nothing h = refl
own_forest parent (tree r k span text marks below id after) h =
    and_from (has_own_role parent r k) (have_own_role parent after) (and_first (has_own_role parent r k) _ h) (own_forest parent after (and_second (has_own_role parent r k) _ h))

-- the children of a node that keeps the table
kept_own : (k : AstType) (f : Forest) → fit (parts k) (trees f) ≡ true → have_own_role k f ≡ true
kept_own k f h = own_forest k f (fit_holds is_own k (parts k) (trees f) (passed_hold is_own (takes_rightly k) k (part_own k) (parts k) (all_parts k)) h)

forest_shapes : (place : Place) (k : AstType) (f : Forest) → NoneMisshapen (placed_below place k f) → all_end_rightly f ≡ true → are_class_shapes f ≡ true
forest_shapes place k nothing h e = refl
forest_shapes place k (tree r k2 span text marks below id after) h e =
    let node : Node = record { kind = k2; span = span; text = text; marks = marks; children = below; node_id = id } in
    let here : Place = child_place place k r in
    let q = first_formed (here, node) (placed_below here k2 below ++ placed_below place k after) h in
    let w : NoneMisshapen (placed_below here k2 below) × NoneMisshapen (placed_below place k after) = rest_formed (placed_below here k2 below) (placed_below place k after) q.1 in
    let ends : end_rightly k2 below ≡ true = and_first (end_rightly k2 below) _ e in
    let rest : (all_end_rightly below && all_end_rightly after) ≡ true = and_second (end_rightly k2 below) _ e in
    and_from (is_class_shape k2 below) (are_class_shapes below && are_class_shapes after)
    (and_from (end_rightly k2 below) (have_own_role k2 below) ends (kept_own k2 below (fit_kept node (table_kept here node q.0))))
    (and_from (are_class_shapes below) (are_class_shapes after)
    (forest_shapes here k2 below w.0 (and_first (all_end_rightly below) _ rest))
    (forest_shapes place k after w.1 (and_second (all_end_rightly below) _ rest)))

-- the root of a program, and the nodes below it
pub classes_formed : (p : Tree) → first_fault p ≡ None → (is_class_shape p.root.kind p.root.children ≡ true) × (are_class_shapes p.root.children ≡ true)
classes_formed p h =
    let all : NoneMisshapen ((root_place, p.root) ∷ placed_below root_place p.root.kind p.root.children) = none_misshapen p h in
    let q = first_formed (root_place, p.root) (placed_below root_place p.root.kind p.root.children) all in
    let stand = bodies_stand p h in
    let ends : end_rightly p.root.kind p.root.children ≡ true = subst (λ k. end_rightly k p.root.children ≡ true) (sym stand.0) stand.1 in (
      and_from (end_rightly p.root.kind p.root.children) (have_own_role p.root.kind p.root.children) ends (kept_own p.root.kind p.root.children (fit_kept p.root (table_kept root_place p.root q.0))),
      forest_shapes root_place p.root.kind p.root.children q.1 stand.2,
    )

-- so classes end with their bodies
pub shapes_end : (f : Forest) → are_class_shapes f ≡ true → all_end_rightly f ≡ true
shapes_end nothing h = refl
shapes_end (tree r k span text marks below id after) h =
    let own : is_class_shape k below ≡ true = and_first (is_class_shape k below) _ h in
    let rest : (are_class_shapes below && are_class_shapes after) ≡ true = and_second (is_class_shape k below) _ h in
    and_from (end_rightly k below) (all_end_rightly below && all_end_rightly after) (and_first (end_rightly k below) _ own)
    (and_from (all_end_rightly below) (all_end_rightly after) (shapes_end below (and_first (are_class_shapes below) _ rest)) (shapes_end after (and_second (are_class_shapes below) _ rest)))
