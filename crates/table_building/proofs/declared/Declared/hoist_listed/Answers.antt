use Rattle.std.proofs.Common.{List, length, map, sym, ap, ◌∙◌, arith}
use Rattle.semantic_tree.specs.declared.node.Node.{Node}
use Rattle.semantic_model.specs.Naming.{Naming}
use Rattle.node_rules.specs.BoundIdentifiers.{names_left}
use Rattle.walk_model.specs.WalkState.{WalkState}
use Rattle.walk_model.proofs.sizes.Growth.{hoist_adds}
use Rattle.table_building.specs.Named.{named_by}
use Rattle.table_building.specs.Each.{hoist_each}
use Rattle.table_building.proofs.Growing.{goes-trans}
use Rattle.table_building.proofs.declared.Declared.hoist_listed.Goals as goal

pub loop-name-preserved : goal.loop-name-preserved
loop-name-preserved c =
    let f : Node → Naming = named_by c.args.node.node.now c.args.row c.args.is_pure in
    let w : WalkState = c.loop-name.self in
    let route = c.args.route.now in
    let left : List Node = names_left c.next.new.self in
    record {
      rest = ap (λ (v : WalkState). hoist_each v route.passed.items route.target (map f left)) c.in_ok-hoist_name.ensures.made
          ∙ sym (ap (λ (names : List Node). hoist_each w route.passed.items route.target (map f names)) c.in-Some.ensures.steps)
          ∙ c.loop-name.invariant.rest;
      room = omega (
        arith,
        c.loop-name.invariant.room,
        ap (λ (names : List Node). length names) c.in-Some.ensures.steps,
        ap (λ (v : WalkState). length v.tables.symbols) c.in_ok-hoist_name.ensures.made,
        (hoist_adds w route.passed.items route.target (f c.in-Some.name.node.now)).of_symbols,
      );
      goes = goes-trans _ _ _ c.loop-name.invariant.goes c.in_ok-hoist_name.ensures.goes;
    }
