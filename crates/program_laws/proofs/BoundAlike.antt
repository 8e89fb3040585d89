-- The names by role of nodes of a program without a fault are those by kind and role.
use Rattle.std.proofs.Common.{◌≡◌, List, [], ◌∷◌, ◌++◌, Bool, true, false, not, ◌&&◌, cond, if◌then◌else◌, refl, subst, ◌∙◌, inl, inr, None, flat_map}
use Rattle.std.proofs.lemmas.Bool.{cases_Bool, not-true}
use Rattle.semantic_syntax.proofs.Truth.{and_first, and_second}
use Rattle.semantic_kinds.specs.Kinds.{same_kind}
use Rattle.semantic_kinds.specs.Roles.{same_role}
use Rattle.semantic_kinds.specs.Classes.{holds_kind}
use Rattle.semantic_kinds.specs.declared.kind.AstType.{AstType}
use Rattle.semantic_kinds.specs.declared.kind.AstType.TheVariants as kind
use Rattle.semantic_kinds.specs.declared.role.Role.{Role}
use Rattle.semantic_tree.specs.BoundNames as by_role
use Rattle.semantic_tree.specs.Forest.{Forest, nothing, tree}
use Rattle.semantic_tree.specs.Faults.{first_fault}
use Rattle.semantic_tree.specs.Nodes.{trees}
use Rattle.semantic_tree.specs.Place.{child_place, placed_below}
use Rattle.semantic_tree.specs.Rules.{is_well_formed}
use Rattle.semantic_tree.specs.Tree.{Tree}
use Rattle.semantic_tree.specs.Views.{is_role_of, children_of}
use Rattle.semantic_tree.specs.declared.node.Node.{Node}
use Rattle.semantic_tree.specs.declared.place.Place.{Place}
use Rattle.semantic_model.specs.Names as by_kind
use Rattle.semantic_model.proofs.form.Clauses.{kind_is}
use Rattle.semantic_model.proofs.form.Shape.{NoneMisshapen, first_formed, rest_formed, table_kept, fit_kept}
use Rattle.program_laws.specs.NamesAlike.{binding_kinds, operand_kinds, NamesAlike, NamesInRole, NoOtherNames}
use Rattle.program_laws.proofs.FormedNodes.{IsFormed, formed_in}
use Rattle.program_laws.proofs.FitChildren.{all_pass}
use Rattle.program_laws.proofs.BindingParts.{naming_kinds, is_silent_child, is_alike_child, silent_children, alike_children}

is_no_name : (k : AstType) → not (holds_kind naming_kinds k) ≡ true → same_kind k kind.BindingIdentifier ≡ false
is_no_name k h = elim (cases_Bool (same_kind k kind.BindingIdentifier)) [
  | inl e ↦ (let q : not (holds_kind naming_kinds kind.BindingIdentifier) ≡ true = subst (λ x. not (holds_kind naming_kinds x) ≡ true) (kind_is k kind.BindingIdentifier e) h in absurd cc)
  | inr e ↦ e
]

-- the names that one child gives, where it gives none by role
own_silent : (b : Bool) (k : AstType) (node : Node) (names : List Node) → cond b (not (holds_kind naming_kinds k)) true ≡ true → (not (holds_kind naming_kinds k) ≡ true → names ≡ []) → (if b then (if same_kind k kind.BindingIdentifier then node ∷ [] else names) else []) ≡ []
own_silent true k node names h f = rw (is_no_name k h) (f h)
own_silent false k node names h f = refl

-- below a node of a kind that binds no names there are none by role
silent_below : (place : Place) (k : AstType) (f : Forest) → holds_kind naming_kinds k ≡ false → all_pass (is_silent_child k) (trees f) ≡ true → NoneMisshapen (placed_below place k f) → by_role.bound_below k f ≡ []
silent_below place k nothing l s h = refl
silent_below place k (tree r k2 span text marks below id after) l s h =
    let node : Node = record { kind = k2; span = span; text = text; marks = marks; children = below; node_id = id } in
    let here : Place = child_place place k r in
    let q = first_formed (here, node) (placed_below here k2 below ++ placed_below place k after) h in
    let w : NoneMisshapen (placed_below here k2 below) × NoneMisshapen (placed_below place k after) = rest_formed (placed_below here k2 below) (placed_below place k after) q.1 in
    let own : cond (by_role.binds_by k r) (not (holds_kind naming_kinds k2)) true ≡ true = rw l at (and_first (is_silent_child k r k2) _ s) in
    rw (
      own_silent (by_role.binds_by k r) k2 node (by_role.bound_below k2 below) own (λ e. silent_below here k2 below (not-true (holds_kind naming_kinds k2) e) (silent_children k2 below (fit_kept node (table_kept here node q.0))) w.0),
      silent_below place k after l (and_second (is_silent_child k r k2) _ s) w.1,
    ) refl

-- the names that one child gives, by role and by kind and role
own_alike : (a b : Bool) (k : AstType) (node : Node) (names others : List Node) → cond a (b && not (holds_kind operand_kinds k)) (cond b (not (holds_kind naming_kinds k)) true) ≡ true → (not (holds_kind operand_kinds k) ≡ true → names ≡ others) → (not (holds_kind naming_kinds k) ≡ true → names ≡ []) → (if b then (if same_kind k kind.BindingIdentifier then node ∷ [] else names) else []) ≡ cond a (cond (same_kind k kind.BindingIdentifier) (node ∷ []) others) []
own_alike true true k node names others h f g = rw (f h) refl
own_alike true false k node names others h f g = absurd cc
own_alike false true k node names others h f g = rw (is_no_name k h) (g h)
own_alike false false k node names others h f g = refl

alike_below : (place : Place) (k : AstType) (f : Forest) → holds_kind operand_kinds k ≡ false → all_pass (is_alike_child k) (trees f) ≡ true → NoneMisshapen (placed_below place k f) → by_role.bound_below k f ≡ by_kind.bound_below k f
alike_below place k nothing l s h = refl
alike_below place k (tree r k2 span text marks below id after) l s h =
    let node : Node = record { kind = k2; span = span; text = text; marks = marks; children = below; node_id = id } in
    let here : Place = child_place place k r in
    let q = first_formed (here, node) (placed_below here k2 below ++ placed_below place k after) h in
    let w : NoneMisshapen (placed_below here k2 below) × NoneMisshapen (placed_below place k after) = rest_formed (placed_below here k2 below) (placed_below place k after) q.1 in
    let fits = fit_kept node (table_kept here node q.0) in
    let own : cond (is_role_of r (by_kind.binding_roles k)) (by_role.binds_by k r && not (holds_kind operand_kinds k2)) (cond (by_role.binds_by k r) (not (holds_kind naming_kinds k2)) true) ≡ true = rw l at (and_first (is_alike_child k r k2) _ s) in
    rw (
      own_alike (is_role_of r (by_kind.binding_roles k)) (by_role.binds_by k r) k2 node (by_role.bound_below k2 below) (by_kind.bound_below k2 below) own
          (λ e. alike_below here k2 below (not-true (holds_kind operand_kinds k2) e) (alike_children k2 below fits) w.0)
          (λ e. silent_below here k2 below (not-true (holds_kind naming_kinds k2) e) (silent_children k2 below fits) w.0),
      alike_below place k after l (and_second (is_alike_child k r k2) _ s) w.1,
    ) refl

alike_at : (place : Place) (node : Node) → is_well_formed place node ≡ true → NoneMisshapen (placed_below place node.kind node.children) → holds_kind operand_kinds node.kind ≡ false → by_role.bound_names node ≡ by_kind.bound_names node
alike_at place node e h l = go (same_kind node.kind kind.BindingIdentifier)
  where
    below : by_role.bound_below node.kind node.children ≡ by_kind.bound_below node.kind node.children
    below = alike_below place node.kind node.children l (alike_children node.kind node.children (fit_kept node (table_kept place node e))) h

    go : (b : Bool) → (if b then node ∷ [] else by_role.bound_below node.kind node.children) ≡ cond b (node ∷ []) (by_kind.bound_below node.kind node.children)
    go true = refl
    go false = below

silent_at : (place : Place) (node : Node) → is_well_formed place node ≡ true → NoneMisshapen (placed_below place node.kind node.children) → holds_kind naming_kinds node.kind ≡ false → by_role.bound_names node ≡ []
silent_at place node e h l =
    rw (is_no_name node.kind (rw l refl)) (silent_below place node.kind node.children l (silent_children node.kind node.children (fit_kept node (table_kept place node e))) h)

in_neither : (xs ys : List AstType) (k : AstType) → holds_kind xs k ≡ false → holds_kind ys k ≡ false → holds_kind (xs ++ ys) k ≡ false
in_neither [] ys k h i = i
in_neither (x ∷ xs) ys k h i = elim (cases_Bool (same_kind x k)) [
  | inl e ↦ (let q : true ≡ false = rw e at h in absurd cc)
  | inr e ↦ rw e (in_neither xs ys k (rw e at h) i)
]

pub names_alike : (p : Tree) → first_fault p ≡ None → NamesAlike p
names_alike p h place node a =
    let f : IsFormed (place, node) = formed_in p (place, node) h a.0 in
    alike_at place node f.0 f.1 a.1

pub no_other_names : (p : Tree) → first_fault p ≡ None → NoOtherNames p
no_other_names p h place node a b =
    let f : IsFormed (place, node) = formed_in p (place, node) h a.0 in
    silent_at place node f.0 f.1 (in_neither operand_kinds binding_kinds node.kind a.1 b)

-- what is bound below a kind that binds under one role
below_role : (k : AstType) (r : Role) (f : Forest) → by_kind.binding_roles k ≡ r ∷ [] → by_kind.bound_below k f ≡ flat_map by_kind.bound_names (children_of r f)
below_role k r nothing e = refl
below_role k r (tree q k2 span text marks below id after) e =
    let rest : by_kind.bound_below k after ≡ flat_map by_kind.bound_names (children_of r after) = below_role k r after e in
    elim (cases_Bool (same_role q r)) [
      | inl h ↦ rw (e, h, rest) refl
      | inr h ↦ rw (e, h, rest) refl
    ]

pub names_in_role : (p : Tree) → first_fault p ≡ None → NamesInRole p
names_in_role p h place node r a n e =
    let named : by_kind.bound_names node ≡ by_kind.bound_below node.kind node.children = rw n refl in
    names_alike p h place node a ∙ named ∙ below_role node.kind r node.children e
