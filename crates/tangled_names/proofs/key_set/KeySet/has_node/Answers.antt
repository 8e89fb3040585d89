use Rattle.std.proofs.Common.{List, ℕ, ap, ◌∙◌}
use Rattle.tangle_model.specs.Repeated.{key_stands}
use Rattle.tangled_names.specs.Stored.{node_key}
use Rattle.tangled_names.proofs.key_set.KeySet.has_node.Goals as goal

pub returns : goal.returns
returns c =
    c.has.ensures
    ∙ ap (λ (x : List ℕ). key_stands (record { name = x; home = c.index.result }) c.args.self.now) c.no_name.ensures
    ∙ ap (λ n. key_stands (node_key n) c.args.self.now) c.index.ensures
