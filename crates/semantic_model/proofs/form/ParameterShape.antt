-- Parameters stand in lists of parameters, and these inside the scopes of functions.
use Rattle.std.proofs.Common.{◌≡◌, ℕ, List, Bool, true, false, not, ◌&&◌, ◌||◌, cond, refl, subst, inl, inr}
use Rattle.std.specs.List.{list_all}
use Rattle.std.proofs.lemmas.Bool.{cases_Bool}
use Rattle.semantic_syntax.proofs.Truth.{and_first, and_second}
use Rattle.semantic_tree.specs.Forest.{Forest, nothing, tree}
use Rattle.semantic_tree.specs.Nodes.{trees}
use Rattle.semantic_tree.specs.Fit.{fit}
use Rattle.semantic_tree.specs.declared.node.Node.{Node}
use Rattle.semantic_kinds.specs.Kinds.{same_kind}
use Rattle.semantic_kinds.specs.Classes.{is_of}
use Rattle.semantic_kinds.specs.Parts.{parts}
use Rattle.semantic_kinds.specs.declared.kind.AstType.{AstType}
use Rattle.semantic_kinds.specs.declared.kind.AstType.TheVariants as kind
use Rattle.semantic_kinds.specs.declared.role.Role.{Role}
use Rattle.semantic_kinds.specs.declared.part.Part.{Part}
use Rattle.semantic_model.specs.Inside.{is_inside, is_parameter_decorator}
use Rattle.semantic_model.proofs.form.PartsHold.{passed_hold, fit_holds}
use Rattle.semantic_model.proofs.form.Clauses.{kind_is}

-- a child in the role stands in the own scope of a node of the kind, which is no block and no catch clause
abbrev pub holds_inside : AstType → Role → Bool
holds_inside k r = is_inside k r && not (is_parameter_decorator k r) && not (same_kind k kind.BlockStatement) && not (same_kind k kind.CatchClause)

abbrev pub is_parameter : AstType → Bool
is_parameter k = same_kind k kind.FormalParameter || same_kind k kind.FormalParameterRest

-- a child of the kind stands where parameters do
abbrev pub stands_under : AstType → Role → AstType → Bool
stands_under k r k2 = cond (same_kind k2 kind.FormalParameters) (holds_inside k r) (cond (is_parameter k2) (same_kind k kind.FormalParameters) true)

-- what the parts of a kind may hold stands so
holds_part : AstType → List ℕ → Part → Bool
holds_part k text part =
    (not (is_of part.class kind.FormalParameters text) || holds_inside k part.role)
    && ((not (is_of part.class kind.FormalParameter text) || same_kind k kind.FormalParameters)
    && (not (is_of part.class kind.FormalParameterRest text) || same_kind k kind.FormalParameters))

all_parts : (k : AstType) (text : List ℕ) → list_all (holds_part k text) (parts k) ≡ true
unfolding holds_part
all_parts kind.Program text = refl
all_parts _ text = refl

-- each parameter below a node of the kind stands where parameters do
abbrev pub parameters_stand : AstType → Forest → Bool
parameters_stand k nothing = true
parameters_stand k (tree r k2 span text marks below id after) = stands_under k r k2 && (parameters_stand k2 below && parameters_stand k after)

not_or : (a b : Bool) → (not a || b) ≡ true → a ≡ true → b ≡ true
not_or true b h e = h
not_or false b h e = absurd cc

part_stands : (k : AstType) (part : Part) (k2 : AstType) (text : List ℕ) → holds_part k text part ≡ true → is_of part.class k2 text ≡ true → stands_under k part.role k2 ≡ true
unfolding holds_part
part_stands k part k2 text h i =
    let first : (not (is_of part.class kind.FormalParameters text) || holds_inside k part.role) ≡ true = and_first (not (is_of part.class kind.FormalParameters text) || holds_inside k part.role) _ h in
    let rest : ((not (is_of part.class kind.FormalParameter text) || same_kind k kind.FormalParameters) && (not (is_of part.class kind.FormalParameterRest text) || same_kind k kind.FormalParameters)) ≡ true = and_second (not (is_of part.class kind.FormalParameters text) || holds_inside k part.role) _ h in
    let second : (not (is_of part.class kind.FormalParameter text) || same_kind k kind.FormalParameters) ≡ true = and_first (not (is_of part.class kind.FormalParameter text) || same_kind k kind.FormalParameters) _ rest in
    let third : (not (is_of part.class kind.FormalParameterRest text) || same_kind k kind.FormalParameters) ≡ true = and_second (not (is_of part.class kind.FormalParameter text) || same_kind k kind.FormalParameters) _ rest in
    elim (cases_Bool (same_kind k2 kind.FormalParameters)) [
      | inl e ↦ rw e (not_or (is_of part.class kind.FormalParameters text) (holds_inside k part.role) first (subst (λ q. is_of part.class q text ≡ true) (kind_is k2 kind.FormalParameters e) i))
      | inr e ↦ rw e (elim (cases_Bool (same_kind k2 kind.FormalParameter)) [
        | inl f ↦ rw f (not_or (is_of part.class kind.FormalParameter text) (same_kind k kind.FormalParameters) second (subst (λ q. is_of part.class q text ≡ true) (kind_is k2 kind.FormalParameter f) i))
        | inr f ↦ rw f (elim (cases_Bool (same_kind k2 kind.FormalParameterRest)) [
          | inl g ↦ rw g (not_or (is_of part.class kind.FormalParameterRest text) (same_kind k kind.FormalParameters) third (subst (λ q. is_of part.class q text ≡ true) (kind_is k2 kind.FormalParameterRest g) i))
          | inr g ↦ rw g refl
        ])
      ])
    ]

-- these children stand where parameters do
abbrev pub all_stand : AstType → List (Role × Node) → Bool
all_stand k cs = list_all (λ c. stands_under k c.0 c.1.kind) cs

-- the children of a node that keeps the table stand so
pub table_stands : (k : AstType) (f : Forest) → fit (parts k) (trees f) ≡ true → all_stand k (trees f) ≡ true
table_stands k f h = fit_holds (λ k r k2 text. stands_under k r k2) k (parts k) (trees f) (passed_hold (λ k r k2 text. stands_under k r k2) (holds_part k) k (part_stands k) (parts k) (all_parts k)) h
