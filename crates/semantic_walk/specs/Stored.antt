-- What a store keeps while a walk enters and leaves nodes.
use Rattle.std.specs.Prelude.{Bool, List, [], ◌∷◌}
use Rattle.node_store.specs.Store.{emptied, after_entering, after_leaving}
use Rattle.node_store.specs.declared.store.AstNodeStore.{AstNodeStore}
use Rattle.semantic_model.specs.Place.{scope_of_place}
use Rattle.semantic_model.specs.Step.{Step, entering, leaving}

-- a store in which no node is; it keeps all nodes, or a path
abbrev pub empty_store : Bool → AstNodeStore
empty_store keeps = record { current_node_id = 0; count = 0; kind = emptied keeps }

abbrev pub stored_past : AstNodeStore → Step → AstNodeStore
stored_past s (entering p) = after_entering s p.node (scope_of_place p)
stored_past s (leaving p) = after_leaving s
stored_past s _ = s

-- once the steps are done
abbrev pub stored_after : AstNodeStore → List Step → AstNodeStore
stored_after s [] = s
stored_after s (step ∷ more) = stored_after (stored_past s step) more
