use Rattle.std.proofs.Common.{[], get_or, sym, ap, ◌∙◌}
use Rattle.std.specs.Map.{values_of}
use Rattle.scoping.proofs.Named.{values-named}
use Rattle.scoping.proofs.Shown.{shown_at, scope_within}
use Rattle.scoping.proofs.scoping.Scoping.iter_bindings_in.Goals as goal

pub returns : goal.returns
returns c =
    let within = scope_within c.self.inside c.self.invariant c.args.scope (rw (← c.self.view_is) at c.requires) in
    rw (← c.self.view_is)
    (c.new.ensures ∙ sym (ap values_of (shown_at _ _ c.self.inside.bindings c.self.invariant.bound c.args.scope within) ∙ values-named c.self.inside.names (get_or c.self.inside.bindings c.args.scope [])))
