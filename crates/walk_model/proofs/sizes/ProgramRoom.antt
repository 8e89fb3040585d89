-- The steps of a program ask for no more ids than it has nodes.
use Rattle.std.proofs.Common.{◌≡◌, ◌≤◌, List, ◌++◌, None, Bool, true, false, cond, subst, arith}
use Rattle.semantic_kinds.specs.declared.kind.AstType.{AstType}
use Rattle.semantic_kinds.specs.declared.role.Role.TheVariants as role
use Rattle.semantic_tree.specs.Children.{single}
use Rattle.semantic_tree.specs.Faults.{first_fault}
use Rattle.semantic_tree.specs.Forest.{Forest, nothing, tree, count}
use Rattle.semantic_tree.specs.Shaped.{IsShaped}
use Rattle.semantic_tree.specs.Tree.{Tree, IsNumbered}
use Rattle.semantic_tree.proofs.ShapedLaws.{no_fault-IsShaped}
use Rattle.semantic_model.specs.Event.{written_declarations}
use Rattle.semantic_model.specs.Inside.{opens, scopes_in}
use Rattle.semantic_model.specs.Step.{Step, root_place, steps}
use Rattle.semantic_model.proofs.steps.Opened.{opened_by_node}
use Rattle.walk_model.specs.WalkState.{no_tables, nothing_made}
use Rattle.walk_model.specs.Walks.{after_all}
use Rattle.semantic_tree.specs.KindCounts.{how_many}
use Rattle.walk_model.specs.Counted.{declares_symbol, is_reference}
use Rattle.walk_model.specs.Room.{HasRoom}
use Rattle.walk_model.proofs.sizes.InSteps.{openings_are, made_count}
use Rattle.walk_model.proofs.sizes.References.{entered_counted}
use Rattle.walk_model.proofs.sizes.Rooms.{room_past}
use Rattle.walk_model.proofs.sizes.Symbols.{made_counted}

one_or_none : (b : Bool) → cond b 1 0 ≤ 1
one_or_none true = omega arith
one_or_none false = omega arith

-- no more nodes pass a test than there are
pub passes_few : (test : AstType → Bool) (f : Forest) → how_many test f ≤ count f
passes_few test nothing = omega arith
passes_few test (tree r k span text marks below id after) = omega (arith, one_or_none (test k), passes_few test below, passes_few test after)

-- and no more open a scope
opens_few : (f : Forest) → scopes_in f ≤ count f
opens_few nothing = omega arith
opens_few (tree r k span text marks below id after) = omega (arith, one_or_none (opens k), opens_few below, opens_few after)

-- so at the start there is an id for all that a program asks for
pub program_room : (p : Tree) → first_fault p ≡ None → IsNumbered p.root → HasRoom no_tables (steps p)
program_room p h e =
    let shaped : IsShaped p = no_fault-IsShaped p h in
    record {
      scopes = omega (arith, openings_are (steps p), opened_by_node (root_place p) 0, one_or_none (opens p.root.kind), opens_few p.root.children, shaped.nodes);
      symbols = omega (arith, made_count p, made_counted p h e, passes_few declares_symbol (single role.Root p.root), shaped.nodes);
      references = omega (arith, entered_counted p, passes_few is_reference (single role.Root p.root), shaped.nodes);
    }

-- and so there is at each place of the walk
pub walk_room : (p : Tree) → first_fault p ≡ None → IsNumbered p.root → (done more : List Step) → steps p ≡ done ++ more → HasRoom (after_all (written_declarations (steps p)) nothing_made done).tables more
walk_room p h e done more split = room_past (written_declarations (steps p)) nothing_made done more (subst (λ ss. HasRoom no_tables ss) split (program_room p h e))
