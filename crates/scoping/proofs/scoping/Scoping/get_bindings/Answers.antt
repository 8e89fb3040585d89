use Rattle.std.proofs.Common.{sym, ◌∙◌}
use Rattle.scoping.proofs.Shown.{known_at, shown_at, scope_within}
use Rattle.scoping.proofs.scoping.Scoping.get_bindings.Goals as goal

pub new-requires : goal.new-requires
new-requires c = record {
  scope = scope_within c.self.inside c.self.invariant c.args.scope (rw (← c.self.view_is) at c.requires);
  known = known_at _ _ c.self.inside.bindings c.args.scope c.self.invariant.bound;
}

pub returns : goal.returns
returns c =
    let within = scope_within c.self.inside c.self.invariant c.args.scope (rw (← c.self.view_is) at c.requires) in
    rw (← c.self.view_is) (c.new.ensures ∙ sym (shown_at _ _ c.self.inside.bindings c.self.invariant.bound c.args.scope within))
