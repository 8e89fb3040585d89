use Rattle.std.proofs.Common.{length, ap, sym, ◌∙◌, arith}
use Rattle.semantic_tree.specs.ChildIter.{left_of}
use Rattle.semantic_model.specs.Names.{bound_names}
use Rattle.walk_model.specs.WalkState.{WalkState}
use Rattle.table_building.specs.Each.{declare_patterns}
use Rattle.table_building.proofs.Growing.{goes-trans}
use Rattle.table_building.proofs.Rooms.{pattern_adds, parts_room}
use Rattle.table_building.proofs.declared.Declared.declare_catch_names.Goals as goal

pub loop-pattern-preserved : goal.loop-pattern-preserved
loop-pattern-preserved c =
    let parameter = c.args.parameter.node.now in
    let pattern = c.in-Some.pattern.node.now in
    let left = left_of c.next.new.self in
    let w = c.loop-pattern.self in
    record {
      rest = ap (λ (v : WalkState). declare_patterns v c.args.scope parameter left) c.in_ok-declare_caught_pattern.ensures.made
          ∙ sym (ap (declare_patterns w c.args.scope parameter) c.in-Some.ensures.steps) ∙ c.loop-pattern.invariant.rest;
      room = parts_room bound_names pattern _ left c.in-Some.ensures.steps (length w.tables.symbols) (length c.declare_caught_pattern.new.self.tables.symbols) 4294967295 c.loop-pattern.invariant.room
          (omega (arith, ap (λ (v : WalkState). length v.tables.symbols) c.in_ok-declare_caught_pattern.ensures.made, pattern_adds w c.args.scope parameter pattern));
      goes = goes-trans _ _ _ c.loop-pattern.invariant.goes c.in_ok-declare_caught_pattern.ensures.goes;
    }
