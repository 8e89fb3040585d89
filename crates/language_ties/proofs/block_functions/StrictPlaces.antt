-- Code that is strict by the nodes round it is strict by the scope where it stands.
use Rattle.std.proofs.Common.{◌≡◌, ℕ, ◌==◌, List, [], ◌∷◌, Option, Some, None, Bool, true, false, ◌&&◌, ◌||◌, not, cond, inl, inr, ◌⊎◌, refl, sym, ap, subst, ◌∙◌, bytes_eq, codes}
use Rattle.std.proofs.lemmas.Bool.{cases_Bool, not-true}
use Rattle.std.proofs.lemmas.Nat.{and_or_self}
use Rattle.semantic_syntax.proofs.Truth.{and_first, and_second, or_true}
use Rattle.semantic_kinds.specs.Classes.{holds_kind}
use Rattle.semantic_kinds.specs.Kinds.{same_kind}
use Rattle.semantic_kinds.specs.Roles.{same_role}
use Rattle.semantic_kinds.specs.declared.kind.AstType.{AstType}
use Rattle.semantic_kinds.specs.declared.kind.AstType.TheVariants as kind
use Rattle.semantic_kinds.specs.declared.role.Role.{Role}
use Rattle.semantic_kinds.specs.declared.role.Role.TheVariants as role
use Rattle.semantic_syntax.specs.Sets.{meets, union}
use Rattle.semantic_syntax.specs.SourceTypes.{is_module, is_typescript}
use Rattle.semantic_syntax.specs.declared.scope_flags.TheConstants.ScopeFlags as scope
use Rattle.semantic_syntax.specs.declared.source_type.SourceType.{SourceType}
use Rattle.semantic_tree.specs.Faults.{first_fault}
use Rattle.semantic_tree.specs.Forest.{Forest, nothing, tree}
use Rattle.semantic_tree.specs.Tree.{Tree}
use Rattle.semantic_tree.specs.Views.{has_text, has_use_strict, child_of, holds}
use Rattle.semantic_tree.specs.declared.node.Node.{Node}
use Rattle.semantic_model.specs.Cursor.{on_entering}
use Rattle.semantic_model.specs.EachStep.{EachStep}
use Rattle.semantic_model.specs.Inside.{is_inside, is_in_header, is_parameter_decorator}
use Rattle.semantic_model.specs.Place.{Place, OpenScope, outside, is_strict}
use Rattle.semantic_model.specs.ScopeKind.{strict_if, accessor, value_of, method_flags, flags_of_kind, opened_scope}
use Rattle.semantic_model.specs.Step.{Step, entering, opening, header_ending, closing, leaving, steps_below, steps, root_place, scope_at, child_place, child_scopes}
use Rattle.semantic_model.proofs.form.ParameterChains.{is_open_inside}
use Rattle.semantic_model.proofs.form.Shape.{has_form}
use Rattle.semantic_model.proofs.steps.EachStep.{each_of_node, each_of_turn}
use Rattle.semantic_model.proofs.steps.Turn.{Turn, turn_at}
use Rattle.semantic_model.proofs.steps.TurnCases.{opening_case, ending_case, last_case}
use Rattle.binding_laws.proofs.ChildChains.{no_decorator}
use Rattle.binding_laws.proofs.SmallLaws.{never}
use Rattle.language_ties.specs.Bound as language
use Rattle.language_ties.specs.Bound.{makes_strict}
use Rattle.language_ties.specs.EcmaScript.{is_ecmascript_kind, is_ecmascript_forest, is_ecmascript}
use Rattle.language_ties.proofs.shared.PlainNodes.{forests_plain}

-- ---- flags

-- a function with these flags besides is strict, where its body says so
abbrev StrictBeside : ℕ → Type 0
StrictBeside m = (b : Bool) → meets (union (union scope.Function.bits (union scope.StrictMode.bits m)) (strict_if b)) scope.StrictMode.bits ≡ true

beside_none : StrictBeside 0
beside_none true = refl
beside_none false = refl

beside_constructor : StrictBeside scope.Constructor.bits
beside_constructor true = refl
beside_constructor false = refl

beside_getter : StrictBeside scope.GetAccessor.bits
beside_getter true = refl
beside_getter false = refl

beside_setter : StrictBeside scope.SetAccessor.bits
beside_setter true = refl
beside_setter false = refl

beside_cond : (c : Bool) (m n : ℕ) → StrictBeside m → StrictBeside n → StrictBeside (cond c m n)
beside_cond true m n h k = h
beside_cond false m n h k = k

beside_accessor : (text : List ℕ) → StrictBeside (accessor text)
beside_accessor text = beside_cond (bytes_eq text (codes "get")) scope.GetAccessor.bits _ beside_getter (beside_cond (bytes_eq text (codes "set")) scope.SetAccessor.bits 0 beside_setter beside_none)

beside_value : (k : AstType) (text : List ℕ) (node : Node) → StrictBeside (value_of k text node)
beside_value kind.MethodDefinition text node = beside_cond (bytes_eq text (codes "constructor")) scope.Constructor.bits (accessor text) beside_constructor (beside_accessor text)
beside_value kind.ObjectProperty text node = beside_cond (has_text (codes "expression") node) (accessor text) 0 (beside_accessor text) beside_none
beside_value _ text node = beside_none

beside_method : (path : List Node) (node : Node) → StrictBeside (method_flags path node)
beside_method [] node = beside_none
beside_method (parent ∷ path) node = beside_value parent.kind parent.text node

-- what makes the code in a node of the kind strict
abbrev pub made_strict : AstType → Node → Bool
made_strict k x =
    same_kind k kind.Class || (same_kind k kind.Program && has_use_strict x)
    || (holds_kind (kind.Function ∷ kind.ArrowFunctionExpression ∷ []) k && holds has_use_strict (child_of role.Body x))

abbrev pub IsStrictFlag : ℕ → Type 0
IsStrictFlag m = meets m scope.StrictMode.bits ≡ true

strict_with : (x : ℕ) → IsStrictFlag (union x scope.StrictMode.bits)
strict_with x = ap (λ y. not (y == 0)) (and_or_self scope.StrictMode.bits x)

class_strict : (b : Bool) → IsStrictFlag (union scope.StrictMode.bits (strict_if b))
class_strict true = refl
class_strict false = refl

program_strict : (b : Bool) → IsStrictFlag (union (union scope.Top.bits (strict_if true)) (strict_if b))
program_strict true = refl
program_strict false = refl

arrow_strict : (b : Bool) → IsStrictFlag (union (union scope.Function.bits (union scope.Arrow.bits (strict_if true))) (strict_if b))
arrow_strict true = refl
arrow_strict false = refl

-- its scope is strict
strict_kind : (k : AstType) (q : Place) → made_strict k q.node ≡ true → (b : Bool) → IsStrictFlag (union (flags_of_kind k q) (strict_if b))
strict_kind kind.Class q h b = class_strict b
strict_kind kind.Program q h b = elim (cases_Bool (has_use_strict q.node)) [
  | inl e ↦ (let w : (is_module q.source_type || has_use_strict q.node) ≡ true = ap (λ t. is_module q.source_type || t) e ∙ or_true (is_module q.source_type) in
      subst (λ t. IsStrictFlag (union (union scope.Top.bits (strict_if t)) (strict_if b))) (sym w) (program_strict b))
  | inr e ↦ (let w : false ≡ true = rw e at h in absurd cc)
]
strict_kind kind.Function q h b =
    let more : ℕ = cond (same_role q.role role.Value) (method_flags q.path q.node) 0 in
    subst (λ t. IsStrictFlag (union (union scope.Function.bits (union (strict_if t) more)) (strict_if b))) (sym h)
    (beside_cond (same_role q.role role.Value) (method_flags q.path q.node) 0 (beside_method q.path q.node) beside_none b)
strict_kind kind.ArrowFunctionExpression q h b = subst (λ t. IsStrictFlag (union (union scope.Function.bits (union scope.Arrow.bits (strict_if t))) (strict_if b))) (sym h) (arrow_strict b)
strict_kind _ q h b = absurd cc

-- all but decorators stands in such a scope
outer_plain : (k : AstType) (r : Role) (x : Node) → same_role r role.Decorators ≡ false → is_inside k r ≡ false → (made_strict k x ≡ false) × (k ≡ kind.Program → ⊥)
outer_plain kind.Program r x d i = absurd (never i)
outer_plain kind.Class r x d i = absurd (never (sym (ap not d) ∙ i))
outer_plain kind.Function r x d i = absurd (never i)
outer_plain kind.ArrowFunctionExpression r x d i = absurd (never i)
outer_plain _ r x d i = (refl, λ e. absurd cc)

-- ---- places

module _ (s : SourceType) where
  -- strict code stands in a strict scope, or is the program itself
  abbrev pub Strict : Place → Type 0
  Strict q = language.is_strict s q.path ≡ true → (is_strict q.chain ≡ true) ⊎ ((q.path ≡ []) × (q.node.kind ≡ kind.Program) × (q.source_type ≡ s))

  abbrev pub StrictAt : Step → Type 0
  StrictAt (entering q) = Strict q
  StrictAt (opening q o) = Unit {0}
  StrictAt (header_ending q o) = Unit {0}
  StrictAt (closing q o) = Unit {0}
  StrictAt (leaving q) = Unit {0}

  -- code in the node is strict
  abbrev Within : Place → Type 0
  Within q = (makes_strict q.node || language.is_strict s q.path) ≡ true

  around : (q : Place) → Within q → makes_strict q.node ≡ false → language.is_strict s q.path ≡ true
  around q h e = subst (λ t. (t || language.is_strict s q.path) ≡ true) e h

  opened_strict : (q : Place) (n : ℕ) → Strict q → Within q → IsStrictFlag (opened_scope q n).flags
  opened_strict q n k h = elim (cases_Bool (makes_strict q.node)) [
    | inl e ↦ strict_kind q.node.kind q e (is_strict q.chain)
    | inr e ↦ elim (k (around q h e)) [
      | inl c ↦ subst (λ b. IsStrictFlag (union (flags_of_kind q.node.kind q) (strict_if b))) (sym c) (strict_with (flags_of_kind q.node.kind q))
      | inr r ↦ (let m : is_module q.source_type ≡ true = ap is_module r.2 ∙ subst (λ l. language.is_strict s l ≡ true) r.0 (around q h e) in
          subst (λ i. IsStrictFlag (union (flags_of_kind i q) (strict_if (is_strict q.chain)))) (sym r.1)
          (subst (λ t. IsStrictFlag (union (union scope.Top.bits (strict_if (t || has_use_strict q.node))) (strict_if (is_strict q.chain)))) (sym m) (program_strict (is_strict q.chain))))
    ]
  ]

  abbrev OwnStrict : Place → Option OpenScope → Type 0
  OwnStrict q None = Unit {0}
  OwnStrict q (Some o) = Within q → IsStrictFlag o.flags

  own_strict : (q : Place) (r : Role) (own : Option OpenScope) (n : ℕ) → Strict q → OwnStrict q own → OwnStrict q (scope_at q r own n)
  own_strict q r (Some o) n k h = h
  own_strict q r None n k h = go (is_inside q.node.kind r)
    where
      go : (b : Bool) → OwnStrict q (cond b (Some (opened_scope q n)) None)
      go true = opened_strict q n k
      go false = tt

  outer_strict : (q : Place) (r : Role) → Strict q → same_role r role.Decorators ≡ false → is_inside q.node.kind r ≡ false → Within q → is_strict q.chain ≡ true
  outer_strict q r k d i h =
      let plain : (made_strict q.node.kind q.node ≡ false) × (q.node.kind ≡ kind.Program → ⊥) = outer_plain q.node.kind r q.node d i in
      elim (k (around q h plain.0)) [
        | inl c ↦ c
        | inr w ↦ absurd (plain.1 w.1)
      ]

  within_strict : (q : Place) (r : Role) (own : Option OpenScope) → Strict q → same_role r role.Decorators ≡ false → (is_inside q.node.kind r ≡ true → own ≡ None → ⊥) → OwnStrict q own → Within q → is_strict (child_scopes q r own) ≡ true
  within_strict q r None k d reached o h = go (is_inside q.node.kind r) refl
    where
      go : (b : Bool) → is_inside q.node.kind r ≡ b → is_strict q.chain ≡ true
      go true i = absurd (reached i refl)
      go false i = outer_strict q r k d i h
  within_strict q r (Some c) k d reached o h = go (is_inside q.node.kind r) refl
    where
      go : (b : Bool) → is_inside q.node.kind r ≡ b → is_strict (cond b (record c { in_header = is_in_header q.node.kind r } ∷ q.chain) q.chain) ≡ true
      go true i = o h
      go false i = outer_strict q r k d i h

  child_strict : (q : Place) (r : Role) (own : Option OpenScope) (cursor : ℕ) (node : Node) → Strict q → same_role r role.Decorators ≡ false → (is_inside q.node.kind r ≡ true → own ≡ None → ⊥) → OwnStrict q own → Strict (child_place q own cursor r node)
  child_strict q r own cursor node k d reached o = λ h.
      let none_decorates : is_parameter_decorator q.node.kind r ≡ false = no_decorator q.node.kind r d in
      inl (subst (λ b. is_strict (cond b (outside q.chain) (child_scopes q r own)) ≡ true) (sym none_decorates) (within_strict q r own k d reached o h))

  undecorated : (k : AstType) (r : Role) (rest more : Bool) → ((is_ecmascript_kind k && not (same_role r role.Decorators)) && rest && more) ≡ true → same_role r role.Decorators ≡ false
  undecorated k r rest more h = not-true (same_role r role.Decorators) (and_second (is_ecmascript_kind k) (not (same_role r role.Decorators)) (and_first (is_ecmascript_kind k && not (same_role r role.Decorators)) rest (and_first ((is_ecmascript_kind k && not (same_role r role.Decorators)) && rest) more h)))

  strict_steps : (q : Place) (own : Option OpenScope) (n cursor : ℕ) (f : Forest) → Strict q → OwnStrict q own → is_ecmascript_forest f ≡ true → EachStep StrictAt (steps_below q own n cursor f)
  strict_steps q own n cursor nothing k o e = last_case (EachStep StrictAt) q own n tt (tt, (tt, tt))
  strict_steps q own n cursor (tree r k2 span text marks below id after) k o e =
      let node : Node = record { kind = k2; span = span; text = text; marks = marks; children = below; node_id = id } in
      let turn : Turn = turn_at q own n cursor r node after in
      let forests : (is_ecmascript_forest below ≡ true) × (is_ecmascript_forest after ≡ true) = forests_plain _ below after e in
      let scope_strict : OwnStrict q turn.scope = own_strict q r own n k o in
      let child : Strict turn.child = child_strict q r turn.scope cursor node k (undecorated k2 r _ _ e) (is_open_inside q r own n) scope_strict in
      each_of_turn StrictAt turn (record {
        before = opening_case (EachStep StrictAt) q r own n tt (tt, tt);
        whole = each_of_node StrictAt turn.child turn.below child (strict_steps turn.child None turn.next turn.inner below child tt forests.0) tt;
        behind = ending_case (EachStep StrictAt) q r turn.scope after tt (λ c. (tt, tt)) (λ c. (tt, tt)) (λ c. (tt, (tt, tt)));
        others = strict_steps q turn.scope turn.rest turn.past after k scope_strict forests.1;
      })

pub strict_program : (p : Tree) → first_fault p ≡ None → is_ecmascript p ≡ true → EachStep (StrictAt p.source_type) (steps p)
strict_program p h e =
    let root : Place = root_place p in
    let n : ℕ = on_entering p.root.kind 0 in
    let first : Strict p.source_type root = λ w. inr (refl, (has_form p h).root, refl) in
    each_of_node (StrictAt p.source_type) root (steps_below root None 0 n p.root.children) first
    (strict_steps p.source_type root None 0 n p.root.children first tt (and_second (not (is_typescript p.source_type)) (is_ecmascript_forest p.root.children) e)) tt
