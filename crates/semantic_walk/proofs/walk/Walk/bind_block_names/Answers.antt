use Rattle.std.proofs.Common.{List, length, map, sym, ap, ◌∙◌, arith}
use Rattle.semantic_tree.specs.declared.node.Node.{Node}
use Rattle.semantic_model.specs.Naming.{Naming}
use Rattle.node_rules.specs.BoundIdentifiers.{names_left}
use Rattle.table_building.specs.Named.{named_by}
use Rattle.table_building.proofs.Growing.{goes-trans}
use Rattle.semantic_walk.specs.Binds.{moving}
use Rattle.semantic_walk.specs.Walker.{Walker}
use Rattle.semantic_walk.proofs.MovedNames.{move_adds}
use Rattle.semantic_walk.proofs.walk.Walk.bind_block_names.Goals as goal

pub loop-name-preserved : goal.loop-name-preserved
loop-name-preserved c =
    let f : Node → Naming = named_by c.args.function.node.now c.args.row c.args.is_pure in
    let w : Walker = c.loop-name.self in
    let left : List Node = names_left c.next.new.self in
    record {
      rest = ap (λ (v : Walker). moving v (map f left)) c.in_ok-bind_block_name.ensures.made
          ∙ sym (ap (λ (names : List Node). moving w (map f names)) c.in-Some.ensures.steps)
          ∙ c.loop-name.invariant.rest;
      room = omega (
        arith,
        c.loop-name.invariant.room,
        ap (λ (names : List Node). length names) c.in-Some.ensures.steps,
        ap (λ (v : Walker). length v.made.tables.symbols) c.in_ok-bind_block_name.ensures.made,
        move_adds w (f c.in-Some.name.node.now),
      );
      goes = goes-trans _ _ _ c.loop-name.invariant.goes c.in_ok-bind_block_name.ensures.goes;
    }
