-- The names that type predicates have.
use Rattle.std.specs.Prelude.{List, [], ◌∷◌, ◌++◌, Bool, ◌&&◌, cond}
use Rattle.semantic_kinds.specs.Kinds.{same_kind}
use Rattle.semantic_kinds.specs.declared.kind.AstType.TheVariants as kind
use Rattle.semantic_syntax.specs.Tables.{Name}
use Rattle.semantic_tree.specs.Forest.{Forest, nothing, tree}
use Rattle.semantic_tree.specs.Views.{is}
use Rattle.semantic_tree.specs.declared.node.Node.{Node}

-- the name of the node, if its parent is a type predicate
abbrev pub predicate_at : (in_predicate : Bool) → Node → List Name
predicate_at in_predicate node = cond (in_predicate && is kind.IdentifierName node) (node.text ∷ []) []

-- those of all nodes of a forest, of which the first level stands in a type predicate or not
abbrev pub predicates_below : (in_predicate : Bool) → Forest → List Name
predicates_below in_predicate nothing = []
predicates_below in_predicate (tree r k span text marks below id after) =
    predicate_at in_predicate (record { kind = k; span = span; text = text; marks = marks; children = below; node_id = id })
    ++ predicates_below (same_kind k kind.TSTypePredicate) below ++ predicates_below in_predicate after

-- and of a node and all below it
abbrev pub predicates_from : (in_predicate : Bool) → Node → List Name
predicates_from in_predicate node = predicate_at in_predicate node ++ predicates_below (same_kind node.kind kind.TSTypePredicate) node.children
