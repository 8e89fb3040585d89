use Rattle.std.proofs.Common.{◌≡◌, [], ◌∷◌, ◌++◌, false, length, sym, ap, ◌∙◌, arith}
use Rattle.semantic_walk.specs.Doings.{acts_on_entering}
use Rattle.semantic_walk.specs.Walker.{Walker}
use Rattle.semantic_walk.proofs.RoomAt.{ids_kept}
use Rattle.semantic_walk.proofs.EnterSteps.{enters_quietly}
use Rattle.semantic_walk.proofs.walk.Walk.enter.Goals as goal

pub step_to-requires : goal.step_to-requires
step_to-requires c = c.requires.kind

pub act_on_entering-requires-clause-references : goal.act_on_entering-requires-clause-references
act_on_entering-requires-clause-references c = omega (arith, c.requires.ids.references, ap (λ (v : Walker). length v.made.tables.references) c.in_ok-step_to.ensures.made)

pub act_on_entering-requires-clause-ids : goal.act_on_entering-requires-clause-ids
act_on_entering-requires-clause-ids c = λ outside.
    let w = c.args.self.now in
    let node = c.args.kind.node.now in
    ids_kept (record w { path = w.path ++ node ∷ [] }) c.step_to.new.self node (ap (λ (v : Walker). length v.made.tables.symbols) c.in_ok-step_to.ensures.made) (ap (λ (v : Walker). v.path) c.in_ok-step_to.ensures.made) (c.requires.ids.names outside)

pub returns-then-acts_on_entering-clause-walks : goal.returns-then-acts_on_entering-clause-walks
returns-then-acts_on_entering-clause-walks c = λ ds p e comes shown.
    c.act_on_entering.ensures.walks ds c.args.self.now p e comes shown c.in_ok-step_to.ensures.made

-- where nothing acts on entering, the walk has but stepped to the node
pub returns-else-acts_on_entering-clause-walks : goal.returns-else-acts_on_entering-clause-walks
returns-else-acts_on_entering-clause-walks c = λ ds p e comes shown.
    let node = c.args.kind.node.now in
    let quiet : acts_on_entering node.kind ≡ false =
    ap acts_on_entering (sym c.requires.kind) ∙ sym c.acts_on_entering.ensures ∙ c.if-acts_on_entering.false in
    enters_quietly ds c.args.self.now p comes shown node c.step_to.new.self e quiet c.in_ok-step_to.ensures.made
