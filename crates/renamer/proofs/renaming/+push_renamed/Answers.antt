use Rattle.std.proofs.Common.{◌≡◌, ℕ, Option, ◌+◌, ◌<◌, ◌≤◌, length, drop, get_or, ap, sym, ◌∙◌, arith}
use Rattle.semantic_kinds.specs.declared.role.Role.{Role}
use Rattle.semantic_syntax.specs.Tables.{Name}
use Rattle.semantic_tree.specs.Children.{forest_of}
use Rattle.semantic_tree.specs.Falls.{child_is_smaller}
use Rattle.semantic_tree.specs.Forest.{Forest, count, join}
use Rattle.semantic_tree.specs.declared.node.Node.{Node}
use Rattle.mangle_model.specs.WithNames.{with_names}
use Rattle.renamer.proofs.KnownMarks.{known_turn}
use Rattle.renamer.proofs.NamedChildren.{names_turn, names_end}
use Rattle.renamer.proofs.renaming.+push_renamed.Goals as goal

pub push_renamed-requires : goal.push_renamed-requires
push_renamed-requires g t c =
    let items = c.as_slice-role-items.result.now in
    let i = c.loop-role.role-index in
    let child = c.loop-role-item.result in
    let within : i < length items = omega arith in
    let smaller : count (get_or items i child).1.children < count (forest_of items) = child_is_smaller items i child within in
    let size : count child.1.children ≡ count (get_or items i child).1.children = ap (λ (x : Role × Node). count x.1.children) c.loop-role-item.is in
    let all : count (forest_of items) ≡ count c.args.from.now.children = ap count c.loop-role.invariant.items in
    λ lives kept. (omega (arith, smaller, size, all), (kept, (known_turn items i child within c.loop-role-item.is c.loop-role.invariant.known).1))

pub loop-role-preserved : goal.loop-role-preserved
loop-role-preserved g t c =
    let names : ℕ → Option Name = g.N.GivenNames.given c.args.names.now in
    let items = c.as_slice-role-items.result.now in
    let i = c.loop-role.role-index in
    let child = c.loop-role-item.result in
    let into : Node = c.loop-role.into in
    let within : i < length items = omega arith in
    let left : Forest = with_names names (forest_of (drop (i + 1) items)) in
    let made = c.in_ok-push_renamed.ensures ∙ ap (λ (n : Node). record n { children = join n.children (with_names names child.1.children) }) c.in_ok-copy.ensures in
    record {
      items = c.loop-role.invariant.items;
      known = (known_turn items i child within c.loop-role-item.is c.loop-role.invariant.known).2;
      rest = ap (λ (n : Node). record n { children = join n.children left }) c.in-Ok.ensures.ok
          ∙ ap (λ (g : Forest). record into { children = g }) (names_turn names into.children items i child c.push_renamed.new.into within c.loop-role-item.is made)
          ∙ c.loop-role.invariant.rest;
    }

pub returns : goal.returns
returns g t c =
    let names : ℕ → Option Name = g.N.GivenNames.given c.args.names.now in
    let items = c.as_slice-role-items.result.now in
    let into : Node = c.loop-role.into in
    let ended : length items ≤ c.loop-role.role-index = omega arith in
    sym (ap (λ (g : Forest). record into { children = g }) (names_end names into.children items c.loop-role.role-index ended)) ∙ c.loop-role.invariant.rest
