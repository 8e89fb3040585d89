-- What is left of the places outward.
use Rattle.std.specs.Prelude.{List, ◌∷◌, Bool, false, ◌&&◌, not}
use Rattle.std.specs.List.{filter}
use Rattle.semantic_kinds.specs.declared.kind.AstType.TheVariants as kinds
use Rattle.semantic_tree.specs.KindGroups.{is_module_declaration}
use Rattle.semantic_tree.specs.Views.{is}
use Rattle.semantic_tree.specs.declared.node.Node.{Node}
use Rattle.node_store.specs.PathLeft.{path_left}
use Rattle.type_checks.specs.declared.places.Places.{Places}

-- the places that are left
abbrev pub places_left : Places → List Node
places_left places = filter (λ node. not (is_module_declaration node.kind)) (path_left places.above)

-- the next places are an external module and a program around it
abbrev pub is_in_module_of_program : List Node → Bool
is_in_module_of_program (module_node ∷ program ∷ above) = is kinds.TSExternalModuleDeclaration module_node && is kinds.Program program
is_in_module_of_program _ = false
