use Rattle.table_building.proofs.Growing.{goes-trans}
use Rattle.semantic_walk.proofs.Going.{turn-goes}
use Rattle.semantic_walk.proofs.walk.Walk.open_empty.Goals as goal

pub open-requires : goal.open-requires
open-requires c = c.requires.ids

pub close-requires : goal.close-requires
close-requires c = c.in_ok-own.ensures.within

pub come_back-requires : goal.come_back-requires
come_back-requires c = turn-goes c.args.self.now.made c.close.new.self.made c.args.turn.now (goes-trans c.args.self.now.made c.open.new.self.made c.close.new.self.made c.in_ok-own.ensures.goes c.close.ensures.goes) c.requires.turn

pub returns-clause-goes : goal.returns-clause-goes
returns-clause-goes c = goes-trans c.args.self.now.made c.close.new.self.made c.come_back.new.self.made (goes-trans c.args.self.now.made c.open.new.self.made c.close.new.self.made c.in_ok-own.ensures.goes c.close.ensures.goes) c.come_back.ensures.goes
