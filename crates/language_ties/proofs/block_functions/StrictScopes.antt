-- Code that is strict by the scope where it stands is strict by the nodes round it.
use Rattle.std.proofs.Common.{◌≡◌, ℕ, List, [], ◌∷◌, Option, Some, None, Bool, true, false, ◌&&◌, ◌||◌, not, cond, inl, inr, ◌⊎◌, refl, sym, ap, subst, ◌∙◌, bytes_eq, codes}
use Rattle.std.proofs.lemmas.Bool.{not-true}
use Rattle.semantic_syntax.proofs.Truth.{and_first, and_second, or_true}
use Rattle.semantic_kinds.specs.Roles.{same_role}
use Rattle.semantic_kinds.specs.declared.kind.AstType.{AstType}
use Rattle.semantic_kinds.specs.declared.kind.AstType.TheVariants as kind
use Rattle.semantic_kinds.specs.declared.role.Role.{Role}
use Rattle.semantic_kinds.specs.declared.role.Role.TheVariants as role
use Rattle.semantic_syntax.specs.Sets.{meets, union}
use Rattle.semantic_syntax.specs.SourceTypes.{is_module, is_typescript}
use Rattle.semantic_syntax.specs.declared.scope_flags.TheConstants.ScopeFlags as scope
use Rattle.semantic_syntax.specs.declared.source_type.SourceType.{SourceType}
use Rattle.semantic_tree.specs.Faults.{first_fault}
use Rattle.semantic_tree.specs.Forest.{Forest, nothing, tree}
use Rattle.semantic_tree.specs.Tree.{Tree}
use Rattle.semantic_tree.specs.Views.{has_text, has_use_strict, child_of, holds}
use Rattle.semantic_tree.specs.declared.node.Node.{Node}
use Rattle.semantic_model.specs.Cursor.{on_entering}
use Rattle.semantic_model.specs.EachStep.{EachStep}
use Rattle.semantic_model.specs.Inside.{is_inside, is_in_header, is_parameter_decorator}
use Rattle.semantic_model.specs.Place.{Place, OpenScope, outside, is_strict}
use Rattle.semantic_model.specs.ScopeKind.{strict_if, accessor, value_of, method_flags, flags_of_kind, opened_scope}
use Rattle.semantic_model.specs.Step.{Step, entering, opening, header_ending, closing, leaving, steps_below, steps, root_place, scope_at, child_scopes}
use Rattle.semantic_model.proofs.form.Shape.{has_form}
use Rattle.semantic_model.proofs.steps.EachStep.{each_of_node, each_of_turn}
use Rattle.semantic_model.proofs.steps.Turn.{Turn, turn_at}
use Rattle.semantic_model.proofs.steps.TurnCases.{opening_case, ending_case, last_case}
use Rattle.binding_laws.proofs.ChildChains.{no_decorator}
use Rattle.binding_laws.proofs.SmallLaws.{never}
use Rattle.language_ties.specs.Bound as language
use Rattle.language_ties.specs.Bound.{makes_strict}
use Rattle.language_ties.specs.EcmaScript.{is_ecmascript_kind, is_ecmascript_forest, is_ecmascript}
use Rattle.language_ties.specs.StrictCode.{IsStrictAlike, StrictnessAgrees}
use Rattle.language_ties.proofs.block_functions.StrictPlaces.{made_strict, IsStrictFlag, StrictAt, strict_program}
use Rattle.language_ties.proofs.shared.PlainNodes.{forests_plain}

-- ---- flags

-- a function with these flags besides is not strict by itself
abbrev SloppyBeside : ℕ → Type 0
SloppyBeside m = meets (union (union scope.Function.bits (union 0 m)) 0) scope.StrictMode.bits ≡ false

sloppy_cond : (c : Bool) (m n : ℕ) → SloppyBeside m → SloppyBeside n → SloppyBeside (cond c m n)
sloppy_cond true m n h k = h
sloppy_cond false m n h k = k

sloppy_accessor : (text : List ℕ) → SloppyBeside (accessor text)
sloppy_accessor text = sloppy_cond (bytes_eq text (codes "get")) scope.GetAccessor.bits _ refl (sloppy_cond (bytes_eq text (codes "set")) scope.SetAccessor.bits 0 refl refl)

sloppy_value : (k : AstType) (text : List ℕ) (node : Node) → SloppyBeside (value_of k text node)
sloppy_value kind.MethodDefinition text node = sloppy_cond (bytes_eq text (codes "constructor")) scope.Constructor.bits (accessor text) refl (sloppy_accessor text)
sloppy_value kind.ObjectProperty text node = sloppy_cond (has_text (codes "expression") node) (accessor text) 0 (sloppy_accessor text) refl
sloppy_value _ text node = refl

sloppy_method : (path : List Node) (node : Node) → SloppyBeside (method_flags path node)
sloppy_method [] node = refl
sloppy_method (parent ∷ path) node = sloppy_value parent.kind parent.text node

-- a scope that is strict by itself is that of a node which makes it so, or of a module
strict_by_kind : (k : AstType) (q : Place) → is_ecmascript_kind k ≡ true → IsStrictFlag (union (flags_of_kind k q) 0) → (made_strict k q.node ≡ true) ⊎ (is_module q.source_type ≡ true)
strict_by_kind kind.Class q i h = inl refl
strict_by_kind kind.Program q i h = go (is_module q.source_type) (has_use_strict q.node) refl refl h
  where
    go : (m u : Bool) → is_module q.source_type ≡ m → has_use_strict q.node ≡ u → IsStrictFlag (union (union scope.Top.bits (strict_if (m || u))) 0) → (made_strict kind.Program q.node ≡ true) ⊎ (is_module q.source_type ≡ true)
    go true u a b h = inr a
    go false true a b h = inl (rw b refl)
    go false false a b h = absurd cc
strict_by_kind kind.Function q i h = go (holds has_use_strict (child_of role.Body q.node)) refl h
  where
    more : ℕ
    more = cond (same_role q.role role.Value) (method_flags q.path q.node) 0

    go : (v : Bool) → holds has_use_strict (child_of role.Body q.node) ≡ v → IsStrictFlag (union (union scope.Function.bits (union (strict_if v) more)) 0) → (made_strict kind.Function q.node ≡ true) ⊎ (is_module q.source_type ≡ true)
    go true a h = inl a
    go false a h = absurd (never (sym h ∙ sloppy_cond (same_role q.role role.Value) (method_flags q.path q.node) 0 (sloppy_method q.path q.node) refl))
strict_by_kind kind.ArrowFunctionExpression q i h = go (holds has_use_strict (child_of role.Body q.node)) refl h
  where
    go : (v : Bool) → holds has_use_strict (child_of role.Body q.node) ≡ v → IsStrictFlag (union (union scope.Function.bits (union scope.Arrow.bits (strict_if v))) 0) → (made_strict kind.ArrowFunctionExpression q.node ≡ true) ⊎ (is_module q.source_type ≡ true)
    go true a h = inl a
    go false a h = absurd cc
strict_by_kind kind.TSNamespaceDeclaration q i h = absurd cc
strict_by_kind kind.TSExternalModuleDeclaration q i h = absurd cc
strict_by_kind kind.TSGlobalDeclaration q i h = absurd cc
strict_by_kind _ q i h = absurd cc

-- in a module all code is strict
module_strict : (s : SourceType) (path : List Node) → is_module s ≡ true → language.is_strict s path ≡ true
module_strict s [] m = m
module_strict s (x ∷ path) m = ap (λ b. makes_strict x || b) (module_strict s path m) ∙ or_true (makes_strict x)

-- ---- places

module _ (s : SourceType) where
  -- what stands in a strict scope is strict code
  record Told (q : Place) : Type 0 where
    strict : is_strict q.chain ≡ true → language.is_strict s q.path ≡ true
    source : q.source_type ≡ s
    ecmascript : is_ecmascript_kind q.node.kind ≡ true

  abbrev ToldAt : Step → Type 0
  ToldAt (entering q) = Told q
  ToldAt (opening q o) = Unit {0}
  ToldAt (header_ending q o) = Unit {0}
  ToldAt (closing q o) = Unit {0}
  ToldAt (leaving q) = Unit {0}

  abbrev Within : Place → Type 0
  Within q = (makes_strict q.node || language.is_strict s q.path) ≡ true

  around_within : (q : Place) → language.is_strict s q.path ≡ true → Within q
  around_within q h = ap (λ b. makes_strict q.node || b) h ∙ or_true (makes_strict q.node)

  opened_told : (q : Place) (n : ℕ) → Told q → IsStrictFlag (opened_scope q n).flags → Within q
  opened_told q n t h = go (is_strict q.chain) refl h
    where
      go : (b : Bool) → is_strict q.chain ≡ b → IsStrictFlag (union (flags_of_kind q.node.kind q) (strict_if b)) → Within q
      go true a i = around_within q (t.strict a)
      go false a i = elim (strict_by_kind q.node.kind q t.ecmascript i) [
        | inl m ↦ ap (λ b. b || language.is_strict s q.path) m
        | inr m ↦ around_within q (module_strict s q.path (ap is_module (sym t.source) ∙ m))
      ]

  abbrev OwnTold : Place → Option OpenScope → Type 0
  OwnTold q None = Unit {0}
  OwnTold q (Some o) = IsStrictFlag o.flags → Within q

  own_told : (q : Place) (r : Role) (own : Option OpenScope) (n : ℕ) → Told q → OwnTold q own → OwnTold q (scope_at q r own n)
  own_told q r (Some o) n t h = h
  own_told q r None n t h = go (is_inside q.node.kind r)
    where
      go : (b : Bool) → OwnTold q (cond b (Some (opened_scope q n)) None)
      go true = opened_told q n t
      go false = tt

  within_told : (q : Place) (r : Role) (own : Option OpenScope) → Told q → OwnTold q own → is_strict (child_scopes q r own) ≡ true → Within q
  within_told q r None t o h = around_within q (t.strict h)
  within_told q r (Some c) t o h = go (is_inside q.node.kind r) h
    where
      go : (b : Bool) → is_strict (cond b (record c { in_header = is_in_header q.node.kind r } ∷ q.chain) q.chain) ≡ true → Within q
      go true i = o i
      go false i = around_within q (t.strict i)

  both_here : (k : AstType) (r : Role) (rest more : Bool) → ((is_ecmascript_kind k && not (same_role r role.Decorators)) && rest && more) ≡ true → (is_ecmascript_kind k ≡ true) × (same_role r role.Decorators ≡ false)
  both_here k r rest more h =
      let two : (is_ecmascript_kind k && not (same_role r role.Decorators)) ≡ true = and_first (is_ecmascript_kind k && not (same_role r role.Decorators)) rest (and_first ((is_ecmascript_kind k && not (same_role r role.Decorators)) && rest) more h) in
      (and_first (is_ecmascript_kind k) (not (same_role r role.Decorators)) two, not-true (same_role r role.Decorators) (and_second (is_ecmascript_kind k) (not (same_role r role.Decorators)) two))

  told_steps : (q : Place) (own : Option OpenScope) (n cursor : ℕ) (f : Forest) → Told q → OwnTold q own → is_ecmascript_forest f ≡ true → EachStep ToldAt (steps_below q own n cursor f)
  told_steps q own n cursor nothing t o e = last_case (EachStep ToldAt) q own n tt (tt, (tt, tt))
  told_steps q own n cursor (tree r k2 span text marks below id after) t o e =
      let node : Node = record { kind = k2; span = span; text = text; marks = marks; children = below; node_id = id } in
      let turn : Turn = turn_at q own n cursor r node after in
      let forests : (is_ecmascript_forest below ≡ true) × (is_ecmascript_forest after ≡ true) = forests_plain _ below after e in
      let here : (is_ecmascript_kind k2 ≡ true) × (same_role r role.Decorators ≡ false) = both_here k2 r _ _ e in
      let scope_told : OwnTold q turn.scope = own_told q r own n t o in
      let none_decorates : is_parameter_decorator q.node.kind r ≡ false = no_decorator q.node.kind r here.1 in
      let child : Told turn.child = record {
        strict = λ h. within_told q r turn.scope t scope_told (subst (λ b. is_strict (cond b (outside q.chain) (child_scopes q r turn.scope)) ≡ true) none_decorates h);
        source = t.source;
        ecmascript = here.0;
      } in
      each_of_turn ToldAt turn (record {
        before = opening_case (EachStep ToldAt) q r own n tt (tt, tt);
        whole = each_of_node ToldAt turn.child turn.below child (told_steps turn.child None turn.next turn.inner below child tt forests.0) tt;
        behind = ending_case (EachStep ToldAt) q r turn.scope after tt (λ c. (tt, tt)) (λ c. (tt, tt)) (λ c. (tt, (tt, tt)));
        others = told_steps q turn.scope turn.rest turn.past after t scope_told forests.1;
      })

  -- both ways
  alike : (a b : Bool) → (a ≡ true → b ≡ true) → (b ≡ true → a ≡ true) → a ≡ b
  alike true b f g = sym (f refl)
  alike false true f g = g refl
  alike false false f g = refl

  each_alike : (ss : List Step) → EachStep ToldAt ss → EachStep (StrictAt s) ss → EachStep (IsStrictAlike s) ss
  each_alike [] t k = tt
  each_alike (entering q ∷ ss) t k = ((λ n. alike (is_strict q.chain) (language.is_strict s q.path) t.0.strict (λ h. elim (k.0 h) [ inl c ↦ c | inr r ↦ absurd (n r.0) ])), each_alike ss t.1 k.1)
  each_alike (opening q o ∷ ss) t k = (tt, each_alike ss t.1 k.1)
  each_alike (header_ending q o ∷ ss) t k = (tt, each_alike ss t.1 k.1)
  each_alike (closing q o ∷ ss) t k = (tt, each_alike ss t.1 k.1)
  each_alike (leaving q ∷ ss) t k = (tt, each_alike ss t.1 k.1)

pub strictness_agrees : (p : Tree) → first_fault p ≡ None → is_ecmascript p ≡ true → StrictnessAgrees p
strictness_agrees p h e =
    let root : Place = root_place p in
    let n : ℕ = on_entering p.root.kind 0 in
    let first : Told p.source_type root = record { strict = λ w. absurd (never (sym w)); source = refl; ecmascript = subst (λ k. is_ecmascript_kind k ≡ true) (sym (has_form p h).root) refl } in
    each_alike p.source_type (steps p)
    (each_of_node (ToldAt p.source_type) root (steps_below root None 0 n p.root.children) first
    (told_steps p.source_type root None 0 n p.root.children first tt (and_second (not (is_typescript p.source_type)) (is_ecmascript_forest p.root.children) e)) tt)
    (strict_program p h e)
