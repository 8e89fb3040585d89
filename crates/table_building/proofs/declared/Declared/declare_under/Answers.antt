use Rattle.std.proofs.Common.{length, map, flat_map, false, sym, ap, ◌∙◌, arith}
use Rattle.walk_model.specs.WalkState.{WalkState}
use Rattle.semantic_tree.specs.ChildIter.{left_of}
use Rattle.table_building.specs.Named.{named_by}
use Rattle.semantic_model.specs.Names.{bound_names}
use Rattle.table_building.specs.Each.{declare_each}
use Rattle.table_building.proofs.Growing.{goes-trans}
use Rattle.table_building.proofs.EachPart.{parts_turn}
use Rattle.table_building.proofs.Rooms.{named_adds, parts_room}
use Rattle.table_building.proofs.declared.Declared.declare_under.Goals as goal

pub loop-part-preserved : goal.loop-part-preserved
loop-part-preserved c =
    let f = named_by c.args.node.node.now c.args.row false in
    let left = left_of c.next.new.self in
    record {
      rest =
          ap (λ (w : WalkState). declare_each w c.args.scope (map f (flat_map bound_names left))) c.in_ok-declare_names.ensures.made
          ∙ sym (parts_turn f c.loop-part.self c.args.scope _ _ left c.in-Some.ensures.steps)
          ∙ c.loop-part.invariant.rest;
      room = parts_room bound_names _ _ left c.in-Some.ensures.steps (length c.loop-part.self.tables.symbols) (length c.declare_names.new.self.tables.symbols) 4294967295 c.loop-part.invariant.room
          (omega (arith, ap (λ (w : WalkState). length w.tables.symbols) c.in_ok-declare_names.ensures.made, named_adds f (bound_names c.in-Some.part.node.now) c.loop-part.self c.args.scope));
      goes = goes-trans _ _ _ c.loop-part.invariant.goes c.in_ok-declare_names.ensures.goes;
    }
