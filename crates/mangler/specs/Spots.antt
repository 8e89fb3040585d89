-- Nodes whose names others see, by where they stand.
use Rattle.std.specs.Prelude.{ℕ, List, [], ◌∷◌, ◌++◌, Bool, ◌&&◌, ◌||◌, false, Option, Some, None, cond}
use Rattle.semantic_kinds.specs.Classes.{holds_kind}
use Rattle.semantic_kinds.specs.Kinds.{same_kind}
use Rattle.semantic_kinds.specs.Roles.{same_role}
use Rattle.semantic_kinds.specs.declared.kind.AstType.{AstType}
use Rattle.semantic_kinds.specs.declared.kind.AstType.TheVariants as kind
use Rattle.semantic_kinds.specs.declared.role.Role.{Role}
use Rattle.semantic_kinds.specs.declared.role.Role.TheVariants as role
use Rattle.semantic_tree.specs.Forest.{Forest, nothing, tree}
use Rattle.semantic_tree.specs.Rules.{is_that_kind}
use Rattle.semantic_tree.specs.Views.{is}
use Rattle.semantic_tree.specs.declared.node.Node.{Node}
use Rattle.mangle_model.specs.MayMangle.{is_property_parameter}
use Rattle.mangler.specs.declared.spot.Spot.{Spot}

-- a child of a node that stands there
abbrev pub child_spot : Spot → Node → Role → Spot
child_spot spot x r = record {
  role = r;
  parent = Some x.kind;
  in_property = is_property_parameter x;
  names_property = is_property_parameter x || (is kind.AssignmentPattern x && spot.in_property);
}

-- the text of a node of the kind is also the name of a property or of a member
abbrev pub names_property : Spot → AstType → Bool
names_property spot k = same_kind k kind.TSEnumMember || (same_role spot.role role.Binding && is_that_kind spot.parent kind.AssignmentTargetPropertyIdentifier)

abbrev pub is_jsx_element : Option AstType → Bool
is_jsx_element None = false
is_jsx_element (Some k) = holds_kind (kind.JSXOpeningElement ∷ kind.JSXClosingElement ∷ []) k

-- or of an element, or of a parameter that is a property too
abbrev pub names_element_or_property : Spot → Bool
names_element_or_property spot = (same_role spot.role role.Name && is_jsx_element spot.parent) || spot.names_property

-- the node, where others see its name or it is exported
abbrev pub seen_at : (exported : ℕ → Bool) → Spot → Node → List ℕ
seen_at exported spot node =
    cond (names_property spot node.kind || (exported node.node_id || names_element_or_property spot)) (node.node_id ∷ []) []

-- the nodes of a forest below a node that stands there
abbrev pub seen_below : (exported : ℕ → Bool) → Spot → Node → Forest → List ℕ
seen_below exported spot x nothing = []
seen_below exported spot x (tree r k span text marks below id after) =
    let node : Node = record { kind = k; span = span; text = text; marks = marks; children = below; node_id = id } in
    let here : Spot = child_spot spot x r in
    seen_at exported here node ++ seen_below exported here node below ++ seen_below exported spot x after

-- and of a node and all below it
abbrev pub seen_from : (exported : ℕ → Bool) → Spot → Node → List ℕ
seen_from exported spot node = seen_at exported spot node ++ seen_below exported spot node node.children
