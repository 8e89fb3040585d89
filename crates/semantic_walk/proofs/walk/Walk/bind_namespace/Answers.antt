use Rattle.std.proofs.Common.{◌≡◌, sym, ap, ◌∙◌}
use Rattle.semantic_kinds.specs.Kinds.{same_kind}
use Rattle.semantic_kinds.specs.declared.kind.AstType.TheVariants as kind
use Rattle.semantic_tree.specs.declared.node.Node.{Node}
use Rattle.semantic_model.specs.Namespace.{instance_state, nodes_around}
use Rattle.namespace_states.specs.InstanceStates.{state_of}
use Rattle.namespace_states.specs.StatesByMarks.{state_in}
use Rattle.semantic_walk.specs.Walker.{Walker}
use Rattle.semantic_walk.proofs.PlaceRows.{on_ok_same, namespace_acts}
use Rattle.semantic_walk.proofs.walk.Walk.bind_namespace.Goals as goal

pub returns-clause-made : goal.returns-clause-made
returns-clause-made c = λ ds p e within k stated.
    let w : Walker = c.args.self.now in
    let state : state_of c.state-state.result ≡ instance_state p.node p.path (nodes_around p.node p.path) =
    c.state-state.ensures ∙ ap (λ ss. state_in ss c.node_id.result) (ap (λ (v : Walker). v.states) c.self.view_is) ∙ ap (state_in w.states) c.node_id.ensures ∙ ap (λ (n : Node). state_in w.states n.node_id) (sym e) ∙ stated (ap (λ j. same_kind j kind.TSNamespaceDeclaration) k) in
    on_ok_same c.bind_names.result c.bind_names.new.self _ _
    (namespace_acts ds c.args.self.now p within c.args.namespace.node.now c.namespace_row.result (state_of c.state-state.result) e k (c.namespace_row.ensures p e) state)
    c.bind_names.ensures.made
