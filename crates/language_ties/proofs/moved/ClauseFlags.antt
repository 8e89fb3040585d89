-- A scope with the flag of a catch clause is opened by one, so no function that is a statement stands in it.
use Rattle.std.proofs.Common.{◌≡◌, ℕ, List, [], ◌∷◌, Option, Some, None, Bool, true, false, ◌&&◌, ◌||◌, not, cond, inl, inr, refl, sym, ap, ◌∙◌, bytes_eq, codes}
use Rattle.std.proofs.lemmas.Bool.{cases_Bool}
use Rattle.semantic_syntax.proofs.Truth.{and_second}
use Rattle.semantic_kinds.specs.Kinds.{same_kind}
use Rattle.semantic_kinds.specs.Roles.{same_role}
use Rattle.semantic_kinds.specs.declared.kind.AstType.{AstType}
use Rattle.semantic_kinds.specs.declared.kind.AstType.TheVariants as kind
use Rattle.semantic_kinds.specs.declared.role.Role.TheVariants as role
use Rattle.semantic_syntax.specs.Sets.{meets, union}
use Rattle.semantic_syntax.specs.SourceTypes.{is_module}
use Rattle.semantic_syntax.specs.declared.scope_flags.TheConstants.ScopeFlags as scope
use Rattle.semantic_tree.specs.Faults.{first_fault}
use Rattle.semantic_tree.specs.Forest.{Forest, nothing, tree}
use Rattle.semantic_tree.specs.Tree.{Tree, IsNumbered}
use Rattle.semantic_tree.specs.Views.{has_text, has_use_strict, child_of, holds}
use Rattle.semantic_tree.specs.declared.node.Node.{Node}
use Rattle.semantic_model.specs.Binder.{is_clause, is_statement}
use Rattle.semantic_model.specs.Cursor.{on_entering}
use Rattle.semantic_model.specs.EachStep.{EachStep}
use Rattle.semantic_model.specs.Entries.{Among}
use Rattle.semantic_model.specs.Place as place
use Rattle.semantic_model.specs.Place.{Place, OpenScope, is_strict}
use Rattle.semantic_model.specs.ScopeKind.{strict_if, accessor, value_of, method_flags, flags_of_kind, opened_scope}
use Rattle.semantic_model.specs.Step.{Step, entering, opening, header_ending, closing, leaving, steps_below, steps, root_place}
use Rattle.semantic_model.proofs.steps.EachStep.{EachOfTurn, each_left, each_of_node, each_of_turn, turn_of_each}
use Rattle.semantic_model.proofs.steps.Turn.{Turn, turn_at}
use Rattle.semantic_model.proofs.steps.TurnCases.{opening_case, ending_case, last_case}
use Rattle.walk_model.proofs.headers.NoStatements.{is_loose, is_statement_text}
use Rattle.binding_laws.proofs.ListLaws.{each_at}
use Rattle.binding_laws.proofs.ScopesRound.{AllRound, OwnRound, own_round, child_round}
use Rattle.binding_laws.proofs.SmallLaws.{never}
use Rattle.language_ties.specs.EcmaScript.{is_ecmascript}
use Rattle.language_ties.proofs.agree.FamiliarPlaces.{IsFamiliar, FamiliarAt, familiar_program}
use Rattle.language_ties.proofs.agree.KnownNodes.{node_at}
use Rattle.language_ties.proofs.caught.CalmPlaces.{IsCalm, IsQuietPlace, QuietAt, quiet_program}
use Rattle.language_ties.proofs.caught.ClausePlaces.{IsClausal, ClausalAt, clausal_program, body_kind}

-- ---- flags

abbrev NoClauseFlag : ℕ → Type 0
NoClauseFlag m = meets m scope.CatchClause.bits ≡ false

-- a function with these flags besides
abbrev NoneBeside : ℕ → Type 0
NoneBeside m = (c b : Bool) → NoClauseFlag (union (union scope.Function.bits (union (strict_if c) m)) (strict_if b))

beside_none : NoneBeside 0
beside_none true true = refl
beside_none true false = refl
beside_none false true = refl
beside_none false false = refl

beside_constructor : NoneBeside scope.Constructor.bits
beside_constructor true true = refl
beside_constructor true false = refl
beside_constructor false true = refl
beside_constructor false false = refl

beside_getter : NoneBeside scope.GetAccessor.bits
beside_getter true true = refl
beside_getter true false = refl
beside_getter false true = refl
beside_getter false false = refl

beside_setter : NoneBeside scope.SetAccessor.bits
beside_setter true true = refl
beside_setter true false = refl
beside_setter false true = refl
beside_setter false false = refl

beside_cond : (c : Bool) (m n : ℕ) → NoneBeside m → NoneBeside n → NoneBeside (cond c m n)
beside_cond true m n h k = h
beside_cond false m n h k = k

beside_accessor : (text : List ℕ) → NoneBeside (accessor text)
beside_accessor text = beside_cond (bytes_eq text (codes "get")) scope.GetAccessor.bits _ beside_getter (beside_cond (bytes_eq text (codes "set")) scope.SetAccessor.bits 0 beside_setter beside_none)

beside_value : (k : AstType) (text : List ℕ) (node : Node) → NoneBeside (value_of k text node)
beside_value kind.MethodDefinition text node = beside_cond (bytes_eq text (codes "constructor")) scope.Constructor.bits (accessor text) beside_constructor (beside_accessor text)
beside_value kind.ObjectProperty text node = beside_cond (has_text (codes "expression") node) (accessor text) 0 (beside_accessor text) beside_none
beside_value _ text node = beside_none

beside_method : (path : List Node) (node : Node) → NoneBeside (method_flags path node)
beside_method [] node = beside_none
beside_method (parent ∷ path) node = beside_value parent.kind parent.text node

top_flags : (a b : Bool) → NoClauseFlag (union (union scope.Top.bits (strict_if a)) (strict_if b))
top_flags true true = refl
top_flags true false = refl
top_flags false true = refl
top_flags false false = refl

arrow_flags : (a b : Bool) → NoClauseFlag (union (union scope.Function.bits (union scope.Arrow.bits (strict_if a))) (strict_if b))
arrow_flags true true = refl
arrow_flags true false = refl
arrow_flags false true = refl
arrow_flags false false = refl

module_flags : (a b : Bool) → NoClauseFlag (union (union scope.TsModuleBlock.bits (strict_if a)) (strict_if b))
module_flags true true = refl
module_flags true false = refl
module_flags false true = refl
module_flags false false = refl

class_flags : (b : Bool) → NoClauseFlag (union scope.StrictMode.bits (strict_if b))
class_flags true = refl
class_flags false = refl

with_flags : (b : Bool) → NoClauseFlag (union scope.With.bits (strict_if b))
with_flags true = refl
with_flags false = refl

static_flags : (b : Bool) → NoClauseFlag (union scope.ClassStaticBlock.bits (strict_if b))
static_flags true = refl
static_flags false = refl

global_flags : (b : Bool) → NoClauseFlag (union scope.TsModuleBlock.bits (strict_if b))
global_flags true = refl
global_flags false = refl

conditional_flags : (b : Bool) → NoClauseFlag (union scope.TsConditional.bits (strict_if b))
conditional_flags true = refl
conditional_flags false = refl

no_flags : (b : Bool) → NoClauseFlag (union 0 (strict_if b))
no_flags true = refl
no_flags false = refl

-- of the kinds but that of catch clauses, none has the flag
other_flags : (k : AstType) (q : Place) (b : Bool) → same_kind k kind.CatchClause ≡ false → NoClauseFlag (union (flags_of_kind k q) (strict_if b))
other_flags kind.Program q b h = top_flags (is_module q.source_type || has_use_strict q.node) b
other_flags kind.Class q b h = class_flags b
other_flags kind.Function q b h =
    beside_cond (same_role q.role role.Value) (method_flags q.path q.node) 0 (beside_method q.path q.node) beside_none (holds has_use_strict (child_of role.Body q.node)) b
other_flags kind.ArrowFunctionExpression q b h = arrow_flags (holds has_use_strict (child_of role.Body q.node)) b
other_flags kind.WithStatement q b h = with_flags b
other_flags kind.CatchClause q b h = absurd (never h)
other_flags kind.StaticBlock q b h = static_flags b
other_flags kind.TSNamespaceDeclaration q b h = module_flags (holds has_use_strict (child_of role.Body q.node)) b
other_flags kind.TSExternalModuleDeclaration q b h = module_flags (holds has_use_strict (child_of role.Body q.node)) b
other_flags kind.TSGlobalDeclaration q b h = global_flags b
other_flags kind.TSConditionalType q b h = conditional_flags b
other_flags _ q b h = no_flags b

-- ---- scopes

module _ (g : ℕ → Option Node) where
  abbrev pub IsFlagged : OpenScope → Type 0
  IsFlagged s = is_clause s ≡ true → (x : Node) × (g s.opener ≡ Some x) × (same_kind x.kind kind.CatchClause ≡ true)

  abbrev pub AllFlagged : List OpenScope → Type 0
  AllFlagged chain = AllRound IsFlagged chain

  opened_flagged : (p : Place) (n : ℕ) → g p.node.node_id ≡ Some p.node → IsFlagged (opened_scope p n)
  opened_flagged p n k flag = elim (cases_Bool (same_kind p.node.kind kind.CatchClause)) [
    | inl w ↦ (p.node, k, w)
    | inr w ↦ absurd (never (sym flag ∙ other_flags p.node.kind p (is_strict p.chain) w))
  ]

  abbrev pub FlaggedAt : Step → Type 0
  FlaggedAt (entering q) = AllFlagged q.chain
  FlaggedAt (opening q o) = Unit {0}
  FlaggedAt (header_ending q o) = Unit {0}
  FlaggedAt (closing q o) = Unit {0}
  FlaggedAt (leaving q) = Unit {0}

  flagged_steps : (q : Place) (own : Option OpenScope) (n cursor : ℕ) (f : Forest) → AllFlagged q.chain → g q.node.node_id ≡ Some q.node → OwnRound IsFlagged own → EachStep (FamiliarAt g) (steps_below q own n cursor f) → EachStep FlaggedAt (steps_below q own n cursor f)
  flagged_steps q own n cursor nothing a k o h = last_case (EachStep FlaggedAt) q own n tt (tt, (tt, tt))
  flagged_steps q own n cursor (tree r k2 span text marks below id after) a k o h =
      let node : Node = record { kind = k2; span = span; text = text; marks = marks; children = below; node_id = id } in
      let turn : Turn = turn_at q own n cursor r node after in
      let sees : EachOfTurn (FamiliarAt g) turn = turn_of_each (FamiliarAt g) turn h in
      let child_familiar : IsFamiliar g turn.child = sees.whole.0 in
      let o_scope : OwnRound IsFlagged turn.scope = own_round IsFlagged q r own n (opened_flagged q n k) o in
      let child : AllFlagged turn.child.chain = child_round IsFlagged (λ s b h. h) q turn.scope cursor r node a o_scope in
      each_of_turn FlaggedAt turn (record {
        before = opening_case (EachStep FlaggedAt) q r own n tt (tt, tt);
        whole = each_of_node FlaggedAt turn.child turn.below child (flagged_steps turn.child None turn.next turn.inner below child child_familiar.node tt (each_left (FamiliarAt g) turn.below (leaving turn.child ∷ []) sees.whole.1)) tt;
        behind = ending_case (EachStep FlaggedAt) q r turn.scope after tt (λ s. (tt, tt)) (λ s. (tt, tt)) (λ s. (tt, (tt, tt)));
        others = flagged_steps q turn.scope turn.rest turn.past after a k o_scope sees.others;
      })

  innermost_flagged : (chain : List OpenScope) → AllFlagged chain → IsFlagged (place.innermost chain)
  innermost_flagged [] h flag = absurd (never (sym flag))
  innermost_flagged (s ∷ ss) h flag = h.0 flag

flagged_program : (p : Tree) → first_fault p ≡ None → is_ecmascript p ≡ true → IsNumbered p.root → EachStep (FlaggedAt (node_at p)) (steps p)
flagged_program p h e numbered =
    let root : Place = root_place p in
    let n : ℕ = on_entering p.root.kind 0 in
    let below : List Step = steps_below root None 0 n p.root.children in
    let familiar : EachStep (FamiliarAt (node_at p)) (steps p) = familiar_program p h e numbered in
    each_of_node (FlaggedAt (node_at p)) root below tt (flagged_steps (node_at p) root None 0 n p.root.children tt familiar.0.node tt (each_left (FamiliarAt (node_at p)) below (leaving root ∷ []) familiar.1)) tt

-- so a function that is a statement stands in no clause's own scope
pub stands_in_no_clause : (p : Tree) → first_fault p ≡ None → is_ecmascript p ≡ true → IsNumbered p.root → (q : Place) → Among (entering q) (steps p) → q.node.kind ≡ kind.Function → is_statement q.node ≡ true → is_clause (place.innermost q.chain) ≡ false
stands_in_no_clause p h e numbered q a function statement = elim (cases_Bool (is_clause (place.innermost q.chain))) [
  | inr w ↦ w
  | inl w ↦ absurd (by (innermost_flagged (node_at p) q.chain (each_at (FlaggedAt (node_at p)) (steps p) (entering q) (flagged_program p h e numbered) a) w))
]
  where
    clausal : IsClausal (node_at p) q
    clausal = each_at (ClausalAt (node_at p)) (steps p) (entering q) (clausal_program p h e numbered) a

    quiet : IsQuietPlace (node_at p) q
    quiet = each_at (QuietAt (node_at p)) (steps p) (entering q) (quiet_program p h e numbered) a

    no_block : kind.BlockStatement ≡ kind.Function → ⊥
    no_block i = absurd cc

    by : (x : Node) × (node_at p (place.innermost q.chain).opener ≡ Some x) × (same_kind x.kind kind.CatchClause ≡ true) → ⊥
    by (x, found, caught) = elim (clausal.stands x found (kind_of x.kind caught)) [
      | inl header ↦ (let calm : IsCalm q.node = quiet.calm x found (kind_of x.kind caught) header in
          never (sym (and_second (not (is_loose q.node.kind)) (not (same_kind q.node.kind kind.Function && is_statement_text q.node.text)) calm.closed) ∙ rw (ap (λ k. same_kind k kind.Function) function, statement) refl))
      | inr body ↦ no_block (sym (body_kind q body) ∙ function)
    ]
      where
        kind_of : (k : AstType) → same_kind k kind.CatchClause ≡ true → k ≡ kind.CatchClause
        kind_of kind.CatchClause w = refl
        kind_of _ w = absurd (never (sym w))
