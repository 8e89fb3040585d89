use Rattle.std.proofs.Common.{length, ap, sym, ◌∙◌, arith}
use Rattle.semantic_tree.specs.ChildIter.{left_of}
use Rattle.semantic_model.specs.Binder.{member_names}
use Rattle.walk_model.specs.WalkState.{WalkState}
use Rattle.table_building.specs.Each.{declare_members}
use Rattle.table_building.specs.Named.{member_naming}
use Rattle.table_building.proofs.Growing.{goes-trans}
use Rattle.table_building.proofs.Rooms.{named_adds, parts_room}
use Rattle.table_building.proofs.declared.Declared.declare_member.Goals as goal

pub loop-id-preserved : goal.loop-id-preserved
loop-id-preserved c =
    let member = c.args.member.node.now in
    let id = c.in-Some.id.node.now in
    let left = left_of c.next.new.self in
    let w = c.loop-id.self in
    record {
      rest = ap (λ (v : WalkState). declare_members v c.args.scope member left) c.in_ok-declare_member_id.ensures.made
          ∙ sym (ap (declare_members w c.args.scope member) c.in-Some.ensures.steps) ∙ c.loop-id.invariant.rest;
      room = parts_room member_names id _ left c.in-Some.ensures.steps (length w.tables.symbols) (length c.declare_member_id.new.self.tables.symbols) 4294967295 c.loop-id.invariant.room
          (omega (arith, ap (λ (v : WalkState). length v.tables.symbols) c.in_ok-declare_member_id.ensures.made, named_adds (member_naming member id) (member_names id) w c.args.scope));
      goes = goes-trans _ _ _ c.loop-id.invariant.goes c.in_ok-declare_member_id.ensures.goes;
    }
