-- The cases of a `switch` are its children in the role of cases, and no rest element stands directly in a list of parameters.
use Rattle.std.proofs.Common.{◌≡◌, ℕ, List, [], ◌∷◌, ◌++◌, Bool, true, false, ◌&&◌, cond, not, refl, sym, ap, subst, ◌∙◌, inl, inr}
use Rattle.std.specs.List.{list_all}
use Rattle.std.proofs.lemmas.Bool.{cases_Bool, and_from, not-true}
use Rattle.semantic_syntax.proofs.Truth.{and_first, and_second, and_false}
use Rattle.semantic_kinds.specs.Classes.{is_of}
use Rattle.semantic_kinds.specs.Kinds.{same_kind}
use Rattle.semantic_kinds.specs.Parts.{parts}
use Rattle.semantic_kinds.specs.Roles.{same_role}
use Rattle.semantic_kinds.specs.declared.class.Class.TheVariants as class
use Rattle.semantic_kinds.specs.declared.kind.AstType.{AstType}
use Rattle.semantic_kinds.specs.declared.kind.AstType.TheVariants as kind
use Rattle.semantic_kinds.specs.declared.role.Role.{Role}
use Rattle.semantic_kinds.specs.declared.role.Role.TheVariants as role
use Rattle.semantic_tree.specs.Faults.{first_fault}
use Rattle.semantic_tree.specs.Fit.{fit}
use Rattle.semantic_tree.specs.Forest.{Forest, nothing, tree}
use Rattle.semantic_tree.specs.Nodes.{trees}
use Rattle.semantic_tree.specs.Place.{child_place, placed_below, root_place}
use Rattle.semantic_tree.specs.Rules.{is_well_formed}
use Rattle.semantic_tree.specs.Tree.{Tree}
use Rattle.semantic_tree.specs.Views.{is}
use Rattle.semantic_model.specs.Place.{parent_holds}
use Rattle.semantic_tree.specs.declared.node.Node.{Node}
use Rattle.semantic_tree.specs.declared.place.Place.{Place}
use Rattle.std.specs.Prelude.{None}
use Rattle.semantic_model.proofs.form.Clauses.{kind_is}
use Rattle.semantic_model.proofs.form.PartsHold.{HoldParts, fit_holds}
use Rattle.semantic_model.proofs.form.Shape.{NoneMisshapen, first_formed, rest_formed, table_kept, fit_kept, none_misshapen}

-- a child of a `switch` is a case exactly in that role, one of a list of parameters is no rest element
abbrev pub is_case_by_role : AstType → Role → AstType → Bool
is_case_by_role k r k2 =
    cond (same_kind k kind.SwitchStatement)
    (cond (same_role r role.Cases) (same_kind k2 kind.SwitchCase) (cond (same_kind k2 kind.SwitchCase) false true))
    (cond (same_kind k kind.FormalParameters) (not (same_kind k2 kind.BindingRestElement)) true)

abbrev test : AstType → Role → AstType → List ℕ → Bool
test k r k2 text = is_case_by_role k r k2

no_case : (k2 : AstType) (text : List ℕ) → is_of class.Expression k2 text ≡ true → cond (same_kind k2 kind.SwitchCase) false true ≡ true
no_case k2 text h = elim (cases_Bool (same_kind k2 kind.SwitchCase)) [
  | inl e ↦ (let q : is_of class.Expression kind.SwitchCase text ≡ true = subst (λ k. is_of class.Expression k text ≡ true) (kind_is k2 kind.SwitchCase e) h in absurd cc)
  | inr e ↦ rw e refl
]

switch_parts : HoldParts test kind.SwitchStatement (parts kind.SwitchStatement)
switch_parts = (λ k2 text h. no_case k2 text h, (λ k2 text h. h, tt))

other_kind : (k2 k : AstType) → same_kind k2 k ≡ true → same_kind k kind.BindingRestElement ≡ false → not (same_kind k2 kind.BindingRestElement) ≡ true
other_kind k2 k h e = subst (λ q. not (same_kind q kind.BindingRestElement) ≡ true) (sym (kind_is k2 k h)) (ap not e)

parameter_parts : HoldParts test kind.FormalParameters (parts kind.FormalParameters)
parameter_parts = (λ k2 text h. other_kind k2 kind.FormalParameter h refl, (λ k2 text h. other_kind k2 kind.FormalParameterRest h refl, tt))

abbrev pub all_cases : AstType → List (Role × Node) → Bool
all_cases k cs = list_all (λ c. is_case_by_role k c.0 c.1.kind) cs

all_others : (k : AstType) (cs : List (Role × Node)) → same_kind k kind.SwitchStatement ≡ false → same_kind k kind.FormalParameters ≡ false → all_cases k cs ≡ true
all_others k [] e f = refl
all_others k (c ∷ cs) e f = and_from (is_case_by_role k c.0 c.1.kind) (all_cases k cs) (rw (e, f) refl) (all_others k cs e f)

by_parts : (k q : AstType) (f : Forest) → HoldParts test q (parts q) → same_kind k q ≡ true → fit (parts k) (trees f) ≡ true → all_cases k (trees f) ≡ true
by_parts k q f all e h = subst (λ x. all_cases x (trees f) ≡ true) (sym (kind_is k q e)) (fit_holds test q (parts q) (trees f) all (subst (λ x. fit (parts x) (trees f) ≡ true) (kind_is k q e) h))

table_cases : (k : AstType) (f : Forest) → fit (parts k) (trees f) ≡ true → all_cases k (trees f) ≡ true
table_cases k f h = elim (cases_Bool (same_kind k kind.SwitchStatement)) [
  | inl e ↦ by_parts k kind.SwitchStatement f switch_parts e h
  | inr e ↦ elim (cases_Bool (same_kind k kind.FormalParameters)) [
    | inl g ↦ by_parts k kind.FormalParameters f parameter_parts g h
    | inr g ↦ all_others k (trees f) e g
  ]
]

-- of all nodes of a forest below a node of the kind
abbrev pub cases_stand : AstType → Forest → Bool
cases_stand k nothing = true
cases_stand k (tree r k2 span text marks below id after) = is_case_by_role k r k2 && (cases_stand k2 below && cases_stand k after)

forest_cases : (place : Place) (k : AstType) (f : Forest) → all_cases k (trees f) ≡ true → NoneMisshapen (placed_below place k f) → cases_stand k f ≡ true
forest_cases place k nothing s h = refl
forest_cases place k (tree r k2 span text marks below id after) s h =
    let node : Node = record { kind = k2; span = span; text = text; marks = marks; children = below; node_id = id } in
    let here : Place = child_place place k r in
    let q : (is_well_formed here node ≡ true) × NoneMisshapen (placed_below here k2 below ++ placed_below place k after) = first_formed (here, node) (placed_below here k2 below ++ placed_below place k after) h in
    let w : NoneMisshapen (placed_below here k2 below) × NoneMisshapen (placed_below place k after) = rest_formed (placed_below here k2 below) (placed_below place k after) q.1 in
    and_from (is_case_by_role k r k2) (cases_stand k2 below && cases_stand k after) (and_first (is_case_by_role k r k2) (all_cases k (trees after)) s)
    (and_from (cases_stand k2 below) (cases_stand k after) (forest_cases here k2 below (table_cases k2 below (fit_kept node (table_kept here node q.0))) w.0)
    (forest_cases place k after (and_second (is_case_by_role k r k2) (all_cases k (trees after)) s) w.1))

-- in a program without a fault
pub program_cases : (p : Tree) → first_fault p ≡ None → cases_stand p.root.kind p.root.children ≡ true
program_cases p h =
    let q : (is_well_formed root_place p.root ≡ true) × NoneMisshapen (placed_below root_place p.root.kind p.root.children) = first_formed (root_place, p.root) (placed_below root_place p.root.kind p.root.children) (none_misshapen p h) in
    forest_cases root_place p.root.kind p.root.children (table_cases p.root.kind p.root.children (fit_kept p.root (table_kept root_place p.root q.0))) q.1

-- a rest element directly in a list of parameters
abbrev pub is_bare_rest : Node → List Node → Bool
is_bare_rest x path = is kind.BindingRestElement x && parent_holds (is kind.FormalParameters) path

-- there is none
pub none_bare : (k : AstType) (r : Role) (k2 : AstType) → is_case_by_role k r k2 ≡ true → (same_kind k2 kind.BindingRestElement && same_kind k kind.FormalParameters) ≡ false
none_bare k r k2 h = elim (cases_Bool (same_kind k kind.FormalParameters)) [
  | inl e ↦ (let q : not (same_kind k2 kind.BindingRestElement) ≡ true = subst (λ x. is_case_by_role x r k2 ≡ true) (kind_is k kind.FormalParameters e) h in
      ap (λ b. b && same_kind k kind.FormalParameters) (not-true (same_kind k2 kind.BindingRestElement) q))
  | inr e ↦ ap (λ b. same_kind k2 kind.BindingRestElement && b) e ∙ and_false (same_kind k2 kind.BindingRestElement)
]
