-- Among parameters without an expression stands no reference.
use Rattle.std.proofs.Common.{◌≡◌, ℕ, List, [], ◌∷◌, Bool, true, false, ◌&&◌, ◌||◌, not, None, inl, inr, ◌⊎◌, refl, sym, subst, ◌∙◌}
use Rattle.std.specs.List.{list_all}
use Rattle.std.proofs.lemmas.Bool.{cases_Bool, or_parts}
use Rattle.semantic_syntax.proofs.Truth.{and_first, and_second}
use Rattle.semantic_kinds.specs.Classes.{is_of, is_pattern, holds_kind}
use Rattle.semantic_kinds.specs.Kinds.{same_kind}
use Rattle.semantic_kinds.specs.MarkSets.{has_mark}
use Rattle.semantic_kinds.specs.Parts.{parts}
use Rattle.semantic_kinds.specs.Roles.{same_role}
use Rattle.semantic_kinds.specs.declared.class.Class.{Class}
use Rattle.semantic_kinds.specs.declared.class.Class.TheVariants as class
use Rattle.semantic_kinds.specs.declared.kind.AstType.{AstType}
use Rattle.semantic_kinds.specs.declared.kind.AstType.TheVariants as kind
use Rattle.semantic_kinds.specs.declared.mark.Mark.TheVariants as mark
use Rattle.semantic_kinds.specs.declared.part.Part.{Part}
use Rattle.semantic_kinds.specs.declared.role.Role.{Role}
use Rattle.semantic_kinds.specs.declared.role.Role.TheVariants as role
use Rattle.semantic_tree.specs.Faults.{first_fault}
use Rattle.semantic_tree.specs.Forest.{Forest, nothing, tree}
use Rattle.semantic_tree.specs.Tree.{Tree}
use Rattle.semantic_model.proofs.form.Clauses.{kind_is}
use Rattle.semantic_model.proofs.form.PartsHold.{passed_hold}
use Rattle.walk_model.proofs.places.Shapes.{only_is, holds_below, tree_holds}
use Rattle.binding_laws.proofs.SmallLaws.{never, implied}
use Rattle.language_ties.specs.EcmaScript.{is_ecmascript_kind, is_ecmascript_forest}
use Rattle.language_ties.specs.Environments.{refers, key_refers, contains_expression}
use Rattle.language_ties.proofs.headers.ListsOnce.{is_list_role}
use Rattle.language_ties.proofs.shared.PlainNodes.{forests_plain}

-- ---- the shape

-- what parameters are made of but for expressions
abbrev pub is_binding : AstType → Bool
is_binding k = holds_kind (kind.FormalParameters ∷ kind.FormalParameter ∷ kind.FormalParameterRest ∷ kind.BindingRestElement ∷ kind.ObjectPattern ∷ kind.BindingProperty ∷ kind.ArrayPattern ∷ kind.BindingIdentifier ∷ []) k

abbrev is_bound_part : AstType → Bool
is_bound_part k = is_binding k || (same_kind k kind.AssignmentPattern || not (is_ecmascript_kind k))

abbrev is_apart : AstType → Role → Bool
is_apart k r = same_role r role.Initializer || (same_kind k kind.BindingProperty && same_role r role.Key)

-- below it stands more of it, a default, an initializer or a key
abbrev pub is_pattern_child : AstType → Role → AstType → List ℕ → Bool
is_pattern_child k r k2 text = not (is_binding k) || (is_apart k r || is_bound_part k2)

abbrev is_bound_class : Class → Bool
is_bound_class class.Pattern = true
is_bound_class (class.Only k) = is_bound_part k
is_bound_class _ = false

of_pattern : (k : AstType) → is_pattern k ≡ true → is_bound_part k ≡ true
of_pattern kind.BindingIdentifier h = refl
of_pattern kind.ObjectPattern h = refl
of_pattern kind.ArrayPattern h = refl
of_pattern kind.AssignmentPattern h = refl
of_pattern _ h = absurd cc

of_class : (c : Class) (k : AstType) (text : List ℕ) → is_bound_class c ≡ true → is_of c k text ≡ true → is_bound_part k ≡ true
of_class class.Pattern k text h i = of_pattern k i
of_class (class.Only j) k text h i = subst (λ z. is_bound_part z ≡ true) (sym (kind_is k j (sym (only_is j k text) ∙ i))) h
of_class _ k text h i = absurd cc

part_binds : AstType → List ℕ → Part → Bool
part_binds k text part = not (is_binding k) || (is_apart k part.role || is_bound_class part.class)

all_bind : (k : AstType) (text : List ℕ) → list_all (part_binds k text) (parts k) ≡ true
unfolding part_binds
all_bind kind.Program text = refl
all_bind _ text = refl

part_holds : (k : AstType) (part : Part) (k2 : AstType) (text : List ℕ) → part_binds k text part ≡ true → is_of part.class k2 text ≡ true → is_pattern_child k part.role k2 text ≡ true
unfolding part_binds
part_holds k part k2 text h i = by (is_binding k) (is_apart k part.role) (is_bound_class part.class) refl h
  where
    by : (a b c : Bool) → is_bound_class part.class ≡ c → (not a || (b || c)) ≡ true → (not a || (b || is_bound_part k2)) ≡ true
    by false b c e w = refl
    by true true c e w = refl
    by true false true e w = of_class part.class k2 text e i
    by true false false e w = absurd cc

pub tree_patterns : (p : Tree) → first_fault p ≡ None → holds_below is_pattern_child p.root.kind p.root.children ≡ true
tree_patterns p h = tree_holds is_pattern_child (λ k. passed_hold is_pattern_child (part_binds k) k (part_holds k) (parts k) (all_bind k)) p h

-- a list of parameters stands in its role
abbrev pub is_list_child : AstType → Role → AstType → List ℕ → Bool
is_list_child k r k2 text = not (same_kind k2 kind.FormalParameters) || is_list_role k r

part_lists : AstType → List ℕ → Part → Bool
part_lists k text part = not (is_of part.class kind.FormalParameters text) || is_list_role k part.role

all_list : (k : AstType) (text : List ℕ) → list_all (part_lists k text) (parts k) ≡ true
unfolding part_lists
all_list kind.Program text = refl
all_list _ text = refl

list_holds : (k : AstType) (part : Part) (k2 : AstType) (text : List ℕ) → part_lists k text part ≡ true → is_of part.class k2 text ≡ true → is_list_child k part.role k2 text ≡ true
unfolding part_lists
list_holds k part k2 text h i = by (same_kind k2 kind.FormalParameters) refl
  where
    by : (b : Bool) → same_kind k2 kind.FormalParameters ≡ b → (not b || is_list_role k part.role) ≡ true
    by false e = refl
    by true e = implied (is_of part.class kind.FormalParameters text) (is_list_role k part.role) h (subst (λ z. is_of part.class z text ≡ true) (kind_is k2 kind.FormalParameters e) i)

pub tree_lists : (p : Tree) → first_fault p ≡ None → holds_below is_list_child p.root.kind p.root.children ≡ true
tree_lists p h = tree_holds is_list_child (λ k. passed_hold is_list_child (part_lists k) k (list_holds k) (parts k) (all_list k)) p h

-- ---- no reference

-- what a tree without an expression is
pub record NoExpression (r : Role) (k : AstType) (computed : Bool) (below after : Forest) : Type 0 where
  pub no_initializer : same_role r role.Initializer ≡ false
  pub no_default : same_kind k kind.AssignmentPattern ≡ false
  pub no_key : (same_kind k kind.BindingProperty && computed) ≡ false
  pub inner : contains_expression below ≡ false
  pub others : contains_expression after ≡ false

no_expression : (r : Role) (k : AstType) (computed : Bool) (below after : Forest) → (same_role r role.Initializer || same_kind k kind.AssignmentPattern || (same_kind k kind.BindingProperty && computed) || contains_expression below || contains_expression after) ≡ false → NoExpression r k computed below after
no_expression r k computed below after h = by (same_role r role.Initializer) (same_kind k kind.AssignmentPattern) (same_kind k kind.BindingProperty && computed) (contains_expression below) (contains_expression after) refl refl refl refl refl h
  where
    by : (a b c d e : Bool) → same_role r role.Initializer ≡ a → same_kind k kind.AssignmentPattern ≡ b → (same_kind k kind.BindingProperty && computed) ≡ c → contains_expression below ≡ d → contains_expression after ≡ e → (a || b || c || d || e) ≡ false → NoExpression r k computed below after
    by false false false false false i j l m n w = record { no_initializer = i; no_default = j; no_key = l; inner = m; others = n }
    by true b c d e i j l m n w = absurd cc
    by false true c d e i j l m n w = absurd cc
    by false false true d e i j l m n w = absurd cc
    by false false false true e i j l m n w = absurd cc
    by false false false false true i j l m n w = absurd cc

-- a kind of them is no reference
binding_no_reference : (k : AstType) → is_binding k ≡ true → same_kind k kind.IdentifierReference ≡ false
binding_no_reference k h = elim (cases_Bool (same_kind k kind.IdentifierReference)) [
  | inl e ↦ (let w : is_binding kind.IdentifierReference ≡ true = subst (λ z. is_binding z ≡ true) (kind_is k kind.IdentifierReference e) h in absurd (never (sym w)))
  | inr e ↦ e
]

-- the children of a property don't refer in a key
abbrev HasQuietKey : AstType → Forest → Type 0
HasQuietKey k f = same_kind k kind.BindingProperty ≡ true → key_refers f ≡ false

quiet_key : (k : AstType) (marked : Bool) (f : Forest) → (same_kind k kind.BindingProperty && (marked || key_refers f)) ≡ false → HasQuietKey k f
quiet_key k marked f n e = by (same_kind k kind.BindingProperty) marked (key_refers f) e n
  where
    by : (a b c : Bool) → a ≡ true → (a && (b || c)) ≡ false → c ≡ false
    by true false c u v = v
    by true true c u v = absurd (never v)
    by false b c u v = absurd (never (sym u))

kind_here : (k : AstType) (r : Role) (rest more : Bool) → ((is_ecmascript_kind k && not (same_role r role.Decorators)) && rest && more) ≡ true → is_ecmascript_kind k ≡ true
kind_here k r rest more h = and_first (is_ecmascript_kind k) (not (same_role r role.Decorators)) (and_first (is_ecmascript_kind k && not (same_role r role.Decorators)) rest (and_first ((is_ecmascript_kind k && not (same_role r role.Decorators)) && rest) more h))

-- which child it is: a key, or more of them
which : (k : AstType) (r : Role) (k2 : AstType) → (is_apart k r || is_bound_part k2) ≡ true → same_role r role.Initializer ≡ false → same_kind k2 kind.AssignmentPattern ≡ false → is_ecmascript_kind k2 ≡ true → ((same_kind k kind.BindingProperty ≡ true) × (same_role r role.Key ≡ true)) ⊎ (is_binding k2 ≡ true)
which k r k2 h i d e = by (same_role r role.Initializer) (same_kind k kind.BindingProperty) (same_role r role.Key) (is_binding k2) (same_kind k2 kind.AssignmentPattern) (is_ecmascript_kind k2) refl refl refl i d e h
  where
    by : (a b c u v w : Bool) → same_kind k kind.BindingProperty ≡ b → same_role r role.Key ≡ c → is_binding k2 ≡ u → a ≡ false → v ≡ false → w ≡ true → ((a || (b && c)) || (u || (v || not w))) ≡ true → ((same_kind k kind.BindingProperty ≡ true) × (same_role r role.Key ≡ true)) ⊎ (is_binding k2 ≡ true)
    by false true true u false true l m n i d e z = inl (l, m)
    by false b c true false true l m n i d e z = inr n
    by false true false false false true l m n i d e z = absurd cc
    by false false c false false true l m n i d e z = absurd cc
    by true b c u v w l m n i d e z = absurd (never i)
    by false b c u true w l m n i d e z = absurd (never d)
    by false b c u false false l m n i d e z = absurd (never (sym e))

pub unread : (k : AstType) (f : Forest) → is_binding k ≡ true → HasQuietKey k f → is_ecmascript_forest f ≡ true → holds_below is_pattern_child k f ≡ true → contains_expression f ≡ false → refers f ≡ false
unread k nothing b q e h n = refl
unread k (tree r k2 span text marks below id after) b q e h n =
    let none : NoExpression r k2 (has_mark marks mark.Computed || key_refers below) below after = no_expression r k2 (has_mark marks mark.Computed || key_refers below) below after n in
    let forests : (is_ecmascript_forest below ≡ true) × (is_ecmascript_forest after ≡ true) = forests_plain _ below after e in
    let more : (holds_below is_pattern_child k2 below && holds_below is_pattern_child k after) ≡ true = and_second (is_pattern_child k r k2 text) (holds_below is_pattern_child k2 below && holds_below is_pattern_child k after) h in
    let child : (is_apart k r || is_bound_part k2) ≡ true = rw b at (and_first (is_pattern_child k r k2 text) (holds_below is_pattern_child k2 below && holds_below is_pattern_child k after) h) in
    let rest : refers after ≡ false = unread k after b (λ i. (or_parts (same_role r role.Key && (same_kind k2 kind.IdentifierReference || refers below)) (key_refers after) (q i)).1) forests.1 (and_second (holds_below is_pattern_child k2 below) (holds_below is_pattern_child k after) more) none.others in
    elim (which k r k2 child none.no_initializer none.no_default (kind_here k2 r _ _ e)) [
      | inl key ↦ (let here : (same_role r role.Key && (same_kind k2 kind.IdentifierReference || refers below)) ≡ false = (or_parts (same_role r role.Key && (same_kind k2 kind.IdentifierReference || refers below)) (key_refers after) (q key.0)).0 in
          let two : (same_kind k2 kind.IdentifierReference ≡ false) × (refers below ≡ false) = or_parts (same_kind k2 kind.IdentifierReference) (refers below) (rw key.1 at here) in
          rw (two.0, two.1, rest) refl)
      | inr binds ↦ (let quiet : HasQuietKey k2 below = quiet_key k2 (has_mark marks mark.Computed) below none.no_key in
          let inner : refers below ≡ false = unread k2 below binds quiet forests.0 (and_first (holds_below is_pattern_child k2 below) (holds_below is_pattern_child k after) more) none.inner in
          rw (binding_no_reference k2 binds, inner, rest) refl)
    ]
