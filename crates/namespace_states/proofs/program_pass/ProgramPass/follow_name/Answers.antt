use Rattle.std.proofs.Common.{◌≡◌, Option, Some, OnOk, option_map, sym, ap, subst, ◌∙◌, rules}
use Rattle.semantic_model.specs.Namespace.{Item, item_reached, target_of}
use Rattle.namespace_states.specs.OpenBlocks.{node_of}
use Rattle.namespace_states.specs.Led.{Passing, led_by}
use Rattle.namespace_states.proofs.Leading.{some_item}
use Rattle.namespace_states.proofs.program_pass.ProgramPass.follow_name.Goals as goal

pub returns-in-Some : goal.returns-in-Some
returns-in-Some c =
    let now : Passing = c.args.self.now in
    let found : Some c.in-Some.target.node.now ≡ option_map node_of (target_of c.args.local.node.now.text now.lists) = search rules in
    let (item, (is, node)) = some_item (target_of c.args.local.node.now.text now.lists) c.in-Some.target.node.now found in
    subst (λ (o : Option Item). OnOk c.follow_target.result (c.follow_target.new.self ≡ record now { led = led_by now.led c.args.from (item_reached o) })) (sym is) (c.follow_target.ensures item node)
