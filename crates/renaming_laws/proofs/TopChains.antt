-- Where imports stand among the statements of a program, they stand in its own scope.
use Rattle.std.proofs.Common.{◌≡◌, ℕ, ◌∷◌, Option, Some, None, Bool, true, false, not, ◌&&◌, if◌then◌else◌, ◌||◌, cond, refl, sym, ap, subst, ◌∙◌}
use Rattle.semantic_syntax.proofs.Truth.{and_first, and_second}
use Rattle.semantic_syntax.specs.Sets.{meets, union}
use Rattle.semantic_syntax.specs.declared.scope_flags.TheConstants.ScopeFlags as scope
use Rattle.semantic_syntax.specs.SourceTypes.{is_module}
use Rattle.semantic_kinds.specs.Kinds.{same_kind}
use Rattle.semantic_kinds.specs.declared.kind.AstType.TheVariants as kind
use Rattle.semantic_kinds.specs.declared.role.Role.{Role}
use Rattle.semantic_tree.specs.Forest.{Forest, nothing, tree}
use Rattle.semantic_tree.specs.Tree.{Tree}
use Rattle.semantic_tree.specs.Views.{has_use_strict}
use Rattle.semantic_tree.specs.declared.node.Node.{Node}
use Rattle.semantic_model.specs.Binder.{is_var}
use Rattle.semantic_model.specs.Cursor.{on_entering}
use Rattle.semantic_model.specs.Inside.{is_inside, is_in_header, is_parameter_decorator}
use Rattle.semantic_model.specs.Place.{Place, OpenScope, innermost, outside, is_strict}
use Rattle.semantic_model.specs.ScopeKind.{strict_if, flags_of_kind, opened_scope}
use Rattle.semantic_model.specs.Step.{Step, entering, opening, header_ending, closing, leaving, steps_below, steps, root_place, scope_at, child_place}
use Rattle.semantic_model.proofs.form.Clauses.{kind_is}
use Rattle.semantic_model.proofs.steps.EachStep.{EachStep, each_of_node, each_of_turn}
use Rattle.semantic_model.proofs.steps.Turn.{Turn, turn_at}
use Rattle.semantic_model.proofs.steps.TurnCases.{opening_case, ending_case, last_case}
use Rattle.renaming_laws.specs.ImportsAtTop.{declares_import, has_no_imports, has_none_below, imports_at_top}

-- the program's own scope, where `var` goes
abbrev pub IsTop : OpenScope → Type 0
IsTop s = (s.number ≡ 0) × (is_var s ≡ true)

-- what is imported is declared there
abbrev pub ImportsThere : Step → Type 0
ImportsThere (entering x) = declares_import x.node.kind ≡ true → IsTop (innermost x.chain)
ImportsThere (opening x s) = Unit {0}
ImportsThere (header_ending x s) = Unit {0}
ImportsThere (closing x s) = Unit {0}
ImportsThere (leaving x) = Unit {0}

never : {A : Type 0} → (b : Bool) → not b ≡ true → b ≡ true → A
never true h e = absurd cc
never false h e = absurd cc

none_below : (p : Place) (own : Option OpenScope) (n cursor : ℕ) (f : Forest) → has_no_imports f ≡ true → EachStep ImportsThere (steps_below p own n cursor f)
none_below p own n cursor nothing h = last_case (EachStep ImportsThere) p own n tt (tt, (tt, tt))
none_below p own n cursor (tree r k span text marks below id after) h =
    let node : Node = record { kind = k; span = span; text = text; marks = marks; children = below; node_id = id } in
    let turn : Turn = turn_at p own n cursor r node after in
    let both : (has_no_imports below && has_no_imports after) ≡ true = and_second (not (declares_import k)) (has_no_imports below && has_no_imports after) h in
    each_of_turn ImportsThere turn (record {
      before = opening_case (EachStep ImportsThere) p r own n tt (tt, tt);
      whole = each_of_node ImportsThere turn.child turn.below (λ e. never (declares_import k) (and_first (not (declares_import k)) (has_no_imports below && has_no_imports after) h) e) (none_below turn.child None turn.next turn.inner below (and_first (has_no_imports below) (has_no_imports after) both)) tt;
      behind = ending_case (EachStep ImportsThere) p r turn.scope after tt (λ s. (tt, tt)) (λ s. (tt, tt)) (λ s. (tt, (tt, tt)));
      others = none_below p turn.scope turn.rest turn.past after (and_second (has_no_imports below) (has_no_imports after) both);
    })

-- an import declaration opens no scope
no_scope : (p : Place) (r : Role) (n : ℕ) → p.node.kind ≡ kind.ImportDeclaration → scope_at p r None n ≡ None
no_scope p r n e = ap (λ k. cond (is_inside k r) (Some (opened_scope p n)) None) e

same_chain : (p : Place) (r : Role) (cursor : ℕ) (node : Node) → p.node.kind ≡ kind.ImportDeclaration → (child_place p None cursor r node).chain ≡ p.chain
same_chain p r cursor node e = ap (λ k. cond (is_parameter_decorator k r) (outside p.chain) p.chain) e

specified : (p : Place) → p.node.kind ≡ kind.ImportDeclaration → IsTop (innermost p.chain) → (n cursor : ℕ) (f : Forest) → has_none_below f ≡ true → EachStep ImportsThere (steps_below p None n cursor f)
specified p e top n cursor nothing h = last_case (EachStep ImportsThere) p None n tt (tt, (tt, tt))
specified p e top n cursor (tree r k span text marks below id after) h =
    let node : Node = record { kind = k; span = span; text = text; marks = marks; children = below; node_id = id } in
    let turn : Turn = turn_at p None n cursor r node after in
    let chain : IsTop (innermost turn.child.chain) = subst (λ o. IsTop (innermost (child_place p o cursor r node).chain)) (sym (no_scope p r n e)) (subst (λ c. IsTop (innermost c)) (sym (same_chain p r cursor node e)) top) in
    each_of_turn ImportsThere turn (record {
      before = opening_case (EachStep ImportsThere) p r None n tt (tt, tt);
      whole = each_of_node ImportsThere turn.child turn.below (λ i. chain) (none_below turn.child None turn.next turn.inner below (and_first (has_no_imports below) (has_none_below after) h)) tt;
      behind = ending_case (EachStep ImportsThere) p r turn.scope after tt (λ s. (tt, tt)) (λ s. (tt, tt)) (λ s. (tt, (tt, tt)));
      others = subst (λ o. EachStep ImportsThere (steps_below p o turn.rest turn.past after)) (sym (no_scope p r n e)) (specified p e top turn.rest turn.past after (and_second (has_no_imports below) (has_none_below after) h));
    })

-- ---- the statements of the program

var_flags : (a b : Bool) → meets (union (union scope.Top.bits (strict_if a)) (strict_if b)) scope.Var.bits ≡ true
var_flags true true = refl
var_flags true false = refl
var_flags false true = refl
var_flags false false = refl

-- the scope is to open as the first one, or is open
abbrev OwnTop : Option OpenScope → ℕ → Type 0
OwnTop None n = n ≡ 0
OwnTop (Some s) n = IsTop s

opens_top : (p : Place) (r : Role) (own : Option OpenScope) (n : ℕ) → p.node.kind ≡ kind.Program → OwnTop own n → (o : OpenScope) × (scope_at p r own n ≡ Some o) × IsTop o
opens_top p r (Some s) n e t = (s, refl, t)
opens_top p r None n e t = (opened_scope p n, ap (λ k. cond (is_inside k r) (Some (opened_scope p n)) None) e, (t, ap (λ k. meets (union (flags_of_kind k p) (strict_if (is_strict p.chain))) scope.Var.bits) e ∙ var_flags (is_module p.source_type || has_use_strict p.node) (is_strict p.chain)))

child_top : (p : Place) (r : Role) (cursor : ℕ) (node : Node) (o : OpenScope) → p.node.kind ≡ kind.Program → IsTop o → IsTop (innermost (child_place p (Some o) cursor r node).chain)
child_top p r cursor node o e t = subst (λ k. IsTop (innermost (cond (is_parameter_decorator k r) (outside p.chain) (cond (is_inside k r) (record o { in_header = is_in_header k r } ∷ p.chain) p.chain)))) (sym e) t

at_top : (p : Place) → p.node.kind ≡ kind.Program → (own : Option OpenScope) (n cursor : ℕ) (f : Forest) → OwnTop own n → imports_at_top f ≡ true → EachStep ImportsThere (steps_below p own n cursor f)
at_top p e own n cursor nothing t h = last_case (EachStep ImportsThere) p own n tt (tt, (tt, tt))
at_top p e own n cursor (tree r k span text marks below id after) t h =
    let node : Node = record { kind = k; span = span; text = text; marks = marks; children = below; node_id = id } in
    let turn : Turn = turn_at p own n cursor r node after in
    let (o, is, top) = opens_top p r own n e t in
    let chain : IsTop (innermost turn.child.chain) = subst (λ x. IsTop (innermost (child_place p x cursor r node).chain)) (sym is) (child_top p r cursor node o e top) in
    let test : Bool = if same_kind k kind.ImportDeclaration then has_none_below below else has_no_imports below in
    each_of_turn ImportsThere turn (record {
      before = opening_case (EachStep ImportsThere) p r own n tt (tt, tt);
      whole = each_of_node ImportsThere turn.child turn.below (λ i. chain) (inside turn.child (same_kind k kind.ImportDeclaration) (λ q. kind_is k kind.ImportDeclaration q) chain turn.next turn.inner (and_first test (imports_at_top after) h)) tt;
      behind = ending_case (EachStep ImportsThere) p r turn.scope after tt (λ s. (tt, tt)) (λ s. (tt, tt)) (λ s. (tt, (tt, tt)));
      others = subst (λ x. EachStep ImportsThere (steps_below p x turn.rest turn.past after)) (sym is) (at_top p e (Some o) turn.rest turn.past after top (and_second test (imports_at_top after) h));
    })
  where
    inside : (child : Place) (b : Bool) → (b ≡ true → child.node.kind ≡ kind.ImportDeclaration) → IsTop (innermost child.chain) → (m inner : ℕ) → (if b then has_none_below below else has_no_imports below) ≡ true → EachStep ImportsThere (steps_below child None m inner below)
    inside child true q top m inner i = specified child (q refl) top m inner below i
    inside child false q top m inner i = none_below child None m inner below i

pub imports_there : (p : Tree) → p.root.kind ≡ kind.Program → imports_at_top p.root.children ≡ true → EachStep ImportsThere (steps p)
imports_there p e h =
    let root : Place = root_place p in
    each_of_node ImportsThere root (steps_below root None 0 (on_entering p.root.kind 0) p.root.children) (λ i. let w : false ≡ true = sym (ap declares_import e) ∙ i in absurd cc)
    (at_top root e None 0 (on_entering p.root.kind 0) p.root.children refl h) tt
