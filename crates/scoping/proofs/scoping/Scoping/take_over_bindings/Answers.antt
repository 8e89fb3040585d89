use Rattle.std.proofs.Common.{[], length, map, fold, get_or, refl, sym, ap, ◌∙◌}
use Rattle.std.specs.List.{AllByRecursion}
use Rattle.std.specs.Map.{values_of}
use Rattle.std.proofs.Math.ListN.{set}
use Rattle.std.proofs.lemmas.List.{length-set, map-set}
use Rattle.scoping_rows.specs.Names.{named}
use Rattle.scoping_rows.specs.Row.{symbol_of_row}
use Rattle.scoping.specs.View.{IsBoundWithin}
use Rattle.semantic_syntax.specs.Writing.{with_home}
use Rattle.semantic_syntax.proofs.Every.{every-set}
use Rattle.scoping.proofs.Named.{values-named, empty-named}
use Rattle.scoping.proofs.Folds.{length_homes, named_homes, shown_homes, rows_bound, ids_taken_over, rows_taken_over}
use Rattle.scoping.proofs.Shown.{tables_eq, bound_at, shown_at, scope_within, sound_bindings, sound_rows}
use Rattle.scoping.proofs.scoping.Scoping.take_over_bindings.Goals as goal

pub take_over-requires-clause-from : goal.take_over-requires-clause-from
take_over-requires-clause-from c = scope_within c.self.inside c.self.invariant c.args.from (rw (← c.self.view_is) at c.requires.from)

pub take_over-requires-clause-to : goal.take_over-requires-clause-to
take_over-requires-clause-to c = scope_within c.self.inside c.self.invariant c.args.to (rw (← c.self.view_is) at c.requires.to)

pub take_over-requires-clause-empty : goal.take_over-requires-clause-empty
take_over-requires-clause-empty c =
    let target = scope_within c.self.inside c.self.invariant c.args.to (rw (← c.self.view_is) at c.requires.to) in
    empty-named c.self.inside.names _ (sym (shown_at c.self.inside.names _ c.self.inside.bindings c.self.invariant.bound c.args.to target) ∙ rw (← c.self.view_is) at c.requires.empty)

pub set_homes-requires : goal.set_homes-requires
set_homes-requires c =
    let target = scope_within c.self.inside c.self.invariant c.args.to (rw (← c.self.view_is) at c.requires.to) in
    rows_taken_over _ _ c.self.inside.bindings c.self.invariant.bound c.args.from c.args.to target _ c.in_ok-take_over.ensures.ok _ c.new-bound.ensures

pub invariant_of-self-2 : goal.invariant_of-self-2
invariant_of-self-2 c =
    let a = c.self.inside in
    let bs = a.bindings in
    let sound = c.self.invariant in
    let target = scope_within a sound c.args.to (rw (← c.self.view_is) at c.requires.to) in
    let known = rows_taken_over _ a.symbols.items bs sound.bound c.args.from c.args.to target _ c.in_ok-take_over.ensures.ok _ c.new-bound.ensures in
    let all = AllByRecursion (IsBoundWithin (length a.names) (length a.symbols.items)) in
    rw (c.in_ok-take_over.ensures.ok)
    (sound_rows _
    (sound_bindings a sound _ (length-set (set bs c.args.from []) c.args.to (get_or bs c.args.from []) ∙ length-set bs c.args.from [])
    (every-set all (get_or bs c.args.from []) (set bs c.args.from []) c.args.to (every-set all [] bs c.args.from sound.bound tt) (bound_at _ _ bs c.args.from sound.bound)))
    c.set_homes.new.rows
    (ap length (c.set_homes.ensures) ∙ length_homes a.names c.args.to c.new-bound.result a.symbols.items)
    (rw c.set_homes.ensures (named_homes a.names _ c.args.to c.new-bound.result a.symbols.items known sound.named)))

pub returns-clause-ok : goal.returns-clause-ok
returns-clause-ok c =
    let a = c.self.inside in
    let bs = a.bindings in
    let sound = c.self.invariant in
    let list = get_or bs c.args.from [] in
    let source = scope_within a sound c.args.from (rw (← c.self.view_is) at c.requires.from) in
    let target = scope_within a sound c.args.to (rw (← c.self.view_is) at c.requires.to) in
    let ids = ids_taken_over _ a.symbols.items bs sound.bound c.args.from c.args.to target _ c.in_ok-take_over.ensures.ok _ c.new-bound.ensures in
    let known = rows_bound _ a.symbols.items list (bound_at _ _ bs c.args.from sound.bound) in
    let shown = shown_at a.names _ bs sound.bound c.args.from source in
    rw (← c.self.view_is, c.in_ok-take_over.ensures.ok, c.set_homes.ensures, ids)
    (tables_eq _ _ refl
    (map-set (named a.names) (set bs c.args.from []) c.args.to list
    ∙ ap (λ x. set x c.args.to (named a.names list)) (map-set (named a.names) bs c.args.from [])
    ∙ ap (set (set (map (named a.names) bs) c.args.from []) c.args.to) (sym shown))
    (shown_homes a.names c.args.to (values_of list) a.symbols.items known
    ∙ ap (fold (with_home c.args.to) (map (symbol_of_row a.names) a.symbols.items)) (sym (ap values_of shown ∙ values-named a.names list)))
    refl refl refl refl)
