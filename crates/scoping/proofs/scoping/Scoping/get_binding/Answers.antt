use Rattle.std.proofs.Common.{sym, ◌∙◌}
use Rattle.scoping.proofs.Shown.{shown_lookup_unknown, shown_lookup, scope_within}
use Rattle.scoping.proofs.scoping.Scoping.get_binding.Goals as goal

pub get-requires : goal.get-requires
get-requires c = scope_within c.self.inside c.self.invariant c.args.scope (rw (← c.self.view_is) at c.requires)

pub returns-in_err-number : goal.returns-in_err-number
returns-in_err-number c =
    let within = scope_within c.self.inside c.self.invariant c.args.scope (rw (← c.self.view_is) at c.requires) in
    rw (← c.self.view_is) (c.from_residual.ensures ∙ sym (shown_lookup_unknown _ _ c.self.inside.bindings c.self.invariant.bound c.args.scope within _ c.in_err-number.ensures))

pub returns : goal.returns
returns c =
    let within = scope_within c.self.inside c.self.invariant c.args.scope (rw (← c.self.view_is) at c.requires) in
    rw (← c.self.view_is) (c.get.ensures ∙ sym (shown_lookup _ _ c.self.inside.bindings c.self.invariant.bound c.args.scope within _ _ c.in_ok-number.ensures))
