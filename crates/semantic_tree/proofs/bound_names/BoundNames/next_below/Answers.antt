use Rattle.std.proofs.Common.{◌+◌, ◌∷◌, ap, sym, ◌∙◌}
use Rattle.semantic_tree.specs.Children.{forest_of}
use Rattle.semantic_tree.specs.BoundNames.{bound_below, rising}
use Rattle.semantic_tree.proofs.Rising.{found_first, passed_first}
use Rattle.semantic_tree.proofs.bound_names.BoundNames.next_below.Goals as goal

pub returns-in-Some-name_in-clause-names : goal.returns-in-Some-name_in-clause-names
returns-in-Some-name_in-clause-names c =
    let here = c.loop-role.self in
    let found = c.in-Some-name_in.found.node.now in
    sym c.loop-role.invariant.names
    ∙ found_first here.from here.parent here.left.now c.in-Some.rest.now c.in-Some.field-0-0.now found c.in-Some.ensures.cases.0 (sym c.in-Some-name_in.ensures)
    ∙ ap (λ n. found ∷ rising (n + 1) (bound_below here.parent (forest_of here.left.now))) (sym (c.index.ensures ∙ c.node_id.ensures))

pub loop-role-preserved : goal.loop-role-preserved
loop-role-preserved c =
    let here = c.loop-role.self in
    record {
      names = sym (passed_first here.from here.parent here.left.now c.in-Some.rest.now c.in-Some.field-0-0.now c.in-Some.ensures.cases.0 (sym c.in-None.ensures)) ∙ c.loop-role.invariant.names;
      own = c.loop-role.invariant.own;
    }
