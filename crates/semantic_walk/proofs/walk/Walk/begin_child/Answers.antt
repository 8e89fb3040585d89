use Rattle.std.proofs.Common.{◌∷◌, ◌∙◌}
use Rattle.semantic_tree.specs.Children.{forest_of}
use Rattle.table_building.proofs.Growing.{goes-trans}
use Rattle.semantic_walk.proofs.Going.{turn-goes}
use Rattle.semantic_walk.proofs.Visiting.{stands_at_child}
use Rattle.semantic_walk.proofs.walk.Walk.begin_child.Goals as goal

pub returns-clause-comes : goal.returns-clause-comes
returns-clause-comes c = λ ds p own n cursor start rest node role between.
    let opens = c.in_ok-open_for.ensures.opens ds p own n cursor start (forest_of ((c.args.role, c.args.child.node.now) ∷ rest)) node role between in
    (stands_at_child ds p own n cursor start (c.args.role, c.args.child.node.now) rest c.args.parent.node.now c.args.self.now c.open_for.new.self c.stand_at_child.new.self c.args.turn.now c.open_for.new.turn node between opens.0 opens.1 c.stand_at_child.ensures.made, opens.1)

pub open_for-requires-clause-turn : goal.open_for-requires-clause-turn
open_for-requires-clause-turn c = c.requires.turn

pub open_for-requires-clause-ids : goal.open_for-requires-clause-ids
open_for-requires-clause-ids c = c.requires.ids

pub stand_at_child-requires-clause-turn : goal.stand_at_child-requires-clause-turn
stand_at_child-requires-clause-turn c = c.in_ok-open_for.ensures.stands

pub returns-clause-goes : goal.returns-clause-goes
returns-clause-goes c = goes-trans c.args.self.now.made c.open_for.new.self.made c.stand_at_child.new.self.made c.in_ok-open_for.ensures.goes c.stand_at_child.ensures.goes

pub returns-clause-stands : goal.returns-clause-stands
returns-clause-stands c = turn-goes c.open_for.new.self.made c.stand_at_child.new.self.made c.open_for.new.turn c.stand_at_child.ensures.goes c.in_ok-open_for.ensures.stands

pub returns-clause-start : goal.returns-clause-start
returns-clause-start c = c.in_ok-open_for.ensures.start

-- the kind stays
pub stand_at_child-requires-clause-kind : goal.stand_at_child-requires-clause-kind
stand_at_child-requires-clause-kind c = c.in_ok-open_for.ensures.kind ∙ c.requires.kind
