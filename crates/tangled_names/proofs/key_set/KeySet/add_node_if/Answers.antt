use Rattle.std.proofs.Common.{List, ℕ, sym, ap, ◌∙◌}
use Rattle.tangled_names.specs.Stored.{with_key, with_key_if, node_key}
use Rattle.tangled_names.proofs.key_set.KeySet.add_node_if.Goals as goal

pub returns-in_ok-add : goal.returns-in_ok-add
returns-in_ok-add c =
    c.in_ok-add.ensures
    ∙ ap (λ (x : List ℕ). with_key c.args.self.now (record { name = x; home = c.args.node })) c.no_name.ensures
    ∙ ap (λ b. with_key_if b c.args.self.now (node_key c.args.node)) (sym c.if-is.true)
