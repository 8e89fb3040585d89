use Rattle.std.proofs.Common.{sym}
use Rattle.semantic_syntax.proofs.Results.{on_ok_then}
use Rattle.scoping.specs.View.{tables}
use Rattle.scoping.proofs.Cases.{either}
use Rattle.scoping.proofs.Moves.{bound_moved, length_moved, moved_is, moved_unknown}
use Rattle.scoping.proofs.Shown.{scope_within, sound_bindings}
use Rattle.scoping.proofs.scoping.Scoping.move_binding.Goals as goal

pub move_number-requires-clause-from : goal.move_number-requires-clause-from
move_number-requires-clause-from c = scope_within c.self.inside c.self.invariant c.args.from (rw (← c.self.view_is) at c.requires.from)

pub move_number-requires-clause-to : goal.move_number-requires-clause-to
move_number-requires-clause-to c = scope_within c.self.inside c.self.invariant c.args.to (rw (← c.self.view_is) at c.requires.to)

pub invariant_of-self : goal.invariant_of-self
invariant_of-self c =
    let sound = c.self.invariant in
    either c.move_number.result
    (λ is. rw is
    (sound_bindings c.self.inside sound _ (length_moved _ _ c.self.inside.bindings sound.bound c.args.from c.args.to c.in-Some.number)
    (bound_moved _ _ c.self.inside.bindings sound.bound c.args.from c.args.to c.in-Some.number c.in-Some.ensures.within)))
    (λ is. rw is sound)
    c.move_number.ensures.ok c.move_number.ensures.err

pub returns-in-Some-clause-ok : goal.returns-in-Some-clause-ok
returns-in-Some-clause-ok c =
    let first = scope_within c.self.inside c.self.invariant c.args.from (rw (← c.self.view_is) at c.requires.from) in
    let second = scope_within c.self.inside c.self.invariant c.args.to (rw (← c.self.view_is) at c.requires.to) in
    rw (← c.self.view_is)
    (on_ok_then c.move_number.result
    (λ is. rw is (moved_is _ _ c.self.inside.bindings c.self.invariant.bound (tables c.self.inside) c.args.from c.args.to first second _ _ c.in-Some.ensures))
    c.move_number.ensures.ok)

pub returns-in-None-clause-ok : goal.returns-in-None-clause-ok
returns-in-None-clause-ok c =
    let first = scope_within c.self.inside c.self.invariant c.args.from (rw (← c.self.view_is) at c.requires.from) in
    let second = scope_within c.self.inside c.self.invariant c.args.to (rw (← c.self.view_is) at c.requires.to) in
    rw (← c.self.view_is)
    (sym (moved_unknown _ _ c.self.inside.bindings c.self.invariant.bound (tables c.self.inside) c.args.from c.args.to first second _ c.in-None.ensures))
