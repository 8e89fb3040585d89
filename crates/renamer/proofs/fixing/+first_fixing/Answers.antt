use Rattle.std.proofs.Common.{◌≡◌, ◌<◌, Bool, nat_eq, length, Some, None, ap, sym, ◌∙◌, arith}
use Rattle.std.specs.HashSet.{contains as has_key}
use Rattle.semantic_tree.specs.Faults.{first_where}
use Rattle.semantic_tree.specs.Place.{placed_from, child_place}
use Rattle.semantic_tree.specs.declared.node.Node.{Node}
use Rattle.semantic_tree.specs.declared.place.Place.{Place}
use Rattle.semantic_tree.proofs.Faults.{child_passes, child_fails}
use Rattle.renamer.specs.Told.{told_by}
use Rattle.rename_model.specs.Renamed.{bears_name}
use Rattle.renamer.specs.Fixing.{fixes_at}
use Rattle.renamer.proofs.fixing.+first_fixing.Goals as goal

pub returns-in-Some : goal.returns-in-Some
returns-in-Some t c =
    let test : Place → Node → Bool = fixes_at (has_key nat_eq c.args.exported.now) (bears_name (told_by c.args.analysed.now) c.args.symbol) in
    let items = c.as_slice-role-items.result.now in
    let i = c.loop-role.role-index in
    let child = c.loop-role-item.result in
    let node = c.args.node.now in
    let within : i < length items = omega arith in
    let found : first_where test (placed_from (child_place c.args.place node.kind child.0) child.1) ≡ Some c.in-Some.id =
    ap (λ place. first_where test (placed_from place child.1)) (sym c.of_child-inside.ensures) ∙ sym c.in-Some.ensures in
    sym (child_fails test c.args.place node.kind items i child c.in-Some.id within c.loop-role-item.is found) ∙ c.loop-role.invariant.rest

pub loop-role-preserved : goal.loop-role-preserved
loop-role-preserved t c =
    let test : Place → Node → Bool = fixes_at (has_key nat_eq c.args.exported.now) (bears_name (told_by c.args.analysed.now) c.args.symbol) in
    let items = c.as_slice-role-items.result.now in
    let i = c.loop-role.role-index in
    let child = c.loop-role-item.result in
    let node = c.args.node.now in
    let within : i < length items = omega arith in
    let nothing : first_where test (placed_from (child_place c.args.place node.kind child.0) child.1) ≡ None =
    ap (λ place. first_where test (placed_from place child.1)) (sym c.of_child-inside.ensures) ∙ sym c.in-None.ensures in
    record {
      items = c.loop-role.invariant.items;
      rest = child_passes test c.args.place node.kind items i child within c.loop-role-item.is nothing ∙ c.loop-role.invariant.rest;
    }
