-- A program with changed names has namespaces of the same states.
use Rattle.std.proofs.Common.{◌≡◌, Some, None, cond, refl, ap, ◌∙◌}
use Rattle.semantic_syntax.specs.Tables.{Name}
use Rattle.semantic_tree.specs.Tree.{Tree}
use Rattle.semantic_kinds.specs.declared.kind.AstType.TheVariants as kind
use Rattle.semantic_tree.specs.Views.{is}
use Rattle.semantic_model.specs.Step.{Step, entering, opening, header_ending, closing, leaving, steps}
use Rattle.semantic_model.specs.NamespaceStates.{state_at, namespace_states}
use Rattle.semantic_tree.specs.Renamed.{renamed_tree}
use Rattle.semantic_model.proofs.swapped.AlikeSteps.{AlikeStep, read_same}
use Rattle.semantic_model.proofs.swapped.AlikeProgram.{Keeps, program_steps}
use Rattle.semantic_model.proofs.swapped.AlikeNamespace.{state_same}

module _ (f : Name → Name) (keeps : Keeps f) where
  state_kept : (x y : Step) → AlikeStep f x y → state_at y ≡ state_at x
  state_kept (entering p) (entering q) s = ap (λ x. state_at (entering x)) s.is ∙ ap (λ w. cond (is kind.TSNamespaceDeclaration p.node) (Some w) None) (state_same f keeps p.node s.u s.g p.path s.path s.node s.above)
  state_kept (opening p s) (opening q t) h = refl
  state_kept (header_ending p s) (header_ending q t) h = refl
  state_kept (closing p s) (closing q t) h = refl
  state_kept (leaving p) (leaving q) h = refl
  state_kept _ _ h = absurd h

  pub states_renamed : (p : Tree) → namespace_states (steps (renamed_tree f p)) ≡ namespace_states (steps p)
  states_renamed p = read_same f state_at state_kept (steps p) (steps (renamed_tree f p)) (program_steps f p)
