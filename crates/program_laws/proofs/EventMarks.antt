-- A program with other marks has the same scopes, references and events, if those that are read are kept.
use Rattle.std.proofs.Common.{◌≡◌, ℕ, List, [], ◌∷◌, ◌++◌, Option, Some, None, cond, not, ◌&&◌, refl, ap, ◌∙◌, map, flat_map, codes}
use Rattle.std.specs.Prelude.{filter_map}
use Rattle.std.specs.List.{cons_option}
use Rattle.semantic_kinds.specs.Roles.{same_role}
use Rattle.semantic_kinds.specs.declared.kind.AstType.TheVariants as kind
use Rattle.semantic_kinds.specs.declared.mark.Mark.TheVariants as mark
use Rattle.semantic_kinds.specs.declared.marks.Marks.{Marks}
use Rattle.semantic_kinds.specs.declared.role.Role.TheVariants as role
use Rattle.semantic_tree.specs.declared.node.Node.{Node}
use Rattle.semantic_model.specs.Declaration.{Declaration}
use Rattle.semantic_model.specs.Event.{takes_over, written_declarations, declared_at, taken_over, declares_all, events_of, events}
use Rattle.semantic_tree.specs.Unwrapped.{inner_expression}
use Rattle.semantic_model.specs.NamespaceStates.{state_at, namespace_states}
use Rattle.semantic_tree.specs.Views.{is, has_text}
use Rattle.semantic_model.specs.Place.{Place, OpenScope, innermost}
use Rattle.semantic_model.specs.Reference.{entered_reference, references}
use Rattle.semantic_model.specs.Step.{Step, entering, opening, header_ending, closing, leaving}
use Rattle.semantic_model.specs.TablesOf.{is_direct_eval, numbers, eval_in, evals, opened_entry, scopes}
use Rattle.program_laws.specs.ReadMarks.{KeepsRead}
use Rattle.program_laws.proofs.Children.{child_holds}
use Rattle.program_laws.proofs.CursorMarks.{inner_same}
use Rattle.program_laws.proofs.DeclarationMarks.{parent_kind, declared_same, inside_same}
use Rattle.program_laws.proofs.NamespaceMarks.{state_same}
use Rattle.program_laws.proofs.ScopeMarks.{remarked_place}
use Rattle.program_laws.proofs.StepMarks.{remarked_step, remarked_steps}
use Rattle.program_laws.specs.Remarked.{remarked_node}

-- what is taken from steps that differ in nothing that is asked is the same
taken_same : {A : Type 0} → (g : Step → Option A) (h : Step → Step) → ((s : Step) → g (h s) ≡ g s) → (ss : List Step) → filter_map g (map h ss) ≡ filter_map g ss
taken_same g h same [] = refl
taken_same g h same (s ∷ ss) = λ i. cons_option (same s i) (taken_same g h same ss i)

lists_same : {A : Type 0} → (g : Step → List A) (h : Step → Step) → ((s : Step) → g (h s) ≡ g s) → (ss : List Step) → flat_map g (map h ss) ≡ flat_map g ss
lists_same g h same [] = refl
lists_same g h same (s ∷ ss) = λ i. same s i ++ lists_same g h same ss i

module _ (f : Node → Marks) where
  reference_same : (s : Step) → entered_reference (remarked_step f s) ≡ entered_reference s
  reference_same (entering p) = refl
  reference_same (opening p s) = refl
  reference_same (header_ending p s) = refl
  reference_same (closing p s) = refl
  reference_same (leaving p) = refl

  pub references_same : (ss : List Step) → references (remarked_steps f ss) ≡ references ss
  references_same ss = taken_same entered_reference (remarked_step f) reference_same ss

  callee_same : (node : Node) → (is kind.IdentifierReference (inner_expression (remarked_node f node)) && has_text (codes "eval") (inner_expression (remarked_node f node))) ≡ (is kind.IdentifierReference (inner_expression node) && has_text (codes "eval") (inner_expression node))
  callee_same node = ap (λ x. is kind.IdentifierReference x && has_text (codes "eval") x) (inner_same f node)

  opened_same : (calls : List (List ℕ)) (s : Step) → opened_entry calls (remarked_step f s) ≡ opened_entry calls s
  opened_same calls (entering p) = refl
  opened_same calls (opening p s) = refl
  opened_same calls (header_ending p s) = refl
  opened_same calls (closing p s) = refl
  opened_same calls (leaving p) = refl

  taken_over_same : (p : Place) (s : OpenScope) → taken_over (remarked_place f p) s ≡ taken_over p s
  taken_over_same p s = ap (λ b. cond (is kind.BlockStatement p.node && same_role p.role role.Body && b) (takes_over (innermost p.chain).number s.number ∷ []) []) (parent_kind f kind.CatchClause p.path)

  module _ (keeps : KeepsRead f) where
    direct_same : (node : Node) → is_direct_eval (remarked_node f node) ≡ is_direct_eval node
    direct_same node =
        λ i. is kind.CallExpression node && not (keeps node mark.Optional refl i)
        && child_holds f role.Callee (λ callee. is kind.IdentifierReference (inner_expression callee) && has_text (codes "eval") (inner_expression callee)) callee_same node i

    eval_same : (s : Step) → eval_in (remarked_step f s) ≡ eval_in s
    eval_same (entering p) = ap (λ b. cond b (Some (numbers p.chain)) None) (direct_same p.node)
    eval_same (opening p s) = refl
    eval_same (header_ending p s) = refl
    eval_same (closing p s) = refl
    eval_same (leaving p) = refl

    pub scopes_same : (ss : List Step) → scopes (remarked_steps f ss) ≡ scopes ss
    scopes_same ss =
        ap (λ calls. filter_map (opened_entry calls) (remarked_steps f ss)) (taken_same eval_in (remarked_step f) eval_same ss)
        ∙ taken_same (opened_entry (evals ss)) (remarked_step f) (opened_same (evals ss)) ss

    state_at_same : (s : Step) → state_at (remarked_step f s) ≡ state_at s
    state_at_same (entering p) = ap (λ w. cond (is kind.TSNamespaceDeclaration p.node) (Some w) None) (state_same f keeps p.node p.path)
    state_at_same (opening p s) = refl
    state_at_same (header_ending p s) = refl
    state_at_same (closing p s) = refl
    state_at_same (leaving p) = refl

    pub states_same : (ss : List Step) → namespace_states (remarked_steps f ss) ≡ namespace_states ss
    states_same ss = taken_same state_at (remarked_step f) state_at_same ss

    declared_at_same : (s : Step) → declared_at (remarked_step f s) ≡ declared_at s
    declared_at_same (entering p) = declared_same f keeps p.node.kind p
    declared_at_same (opening p s) = inside_same f keeps p.node.kind p s
    declared_at_same (header_ending p s) = refl
    declared_at_same (closing p s) = refl
    declared_at_same (leaving p) = refl

    event_same : (ds : List Declaration) (s : Step) → events_of ds (remarked_step f s) ≡ events_of ds s
    event_same ds (entering p) = ap (declares_all ds) (declared_same f keeps p.node.kind p)
    event_same ds (opening p s) = λ i. taken_over_same p s i ++ declares_all ds (inside_same f keeps p.node.kind p s i)
    event_same ds (header_ending p s) = refl
    event_same ds (closing p s) = refl
    event_same ds (leaving p) = refl

    pub events_same : (ss : List Step) → events (remarked_steps f ss) ≡ events ss
    events_same ss =
        ap (λ ds. flat_map (events_of ds) (remarked_steps f ss)) (lists_same declared_at (remarked_step f) declared_at_same ss)
        ∙ lists_same (events_of (written_declarations ss)) (remarked_step f) (event_same (written_declarations ss)) ss
