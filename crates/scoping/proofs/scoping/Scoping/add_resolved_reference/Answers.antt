use Rattle.std.proofs.Common.{◌++◌, ◌∷◌, [], ◌<◌, ℕ, length, refl, ap}
use Rattle.std.specs.List.{AllByRecursion}
use Rattle.std.proofs.lemmas.List.{length-set}
use Rattle.semantic_syntax.proofs.Every.{every-push, every-set, every-or}
use Rattle.semantic_syntax.proofs.Results.{on_err}
use Rattle.scoping_rows.proofs.Rows.{rows, rows_kept, rows_changed}
use Rattle.scoping.proofs.Shown.{uses_index, tables_eq, uses_within, sound_uses}
use Rattle.scoping.proofs.scoping.Scoping.add_resolved_reference.Goals as goal

pub invariant_of-self : goal.invariant_of-self
invariant_of-self c =
    let before = c.self.invariant in
    let within = uses_within c.self.inside before c.args.symbol (rw (← c.self.view_is) at c.requires.symbol) in
    let kept = rows_kept c.self.inside.uses.items c.args.symbol c.index.result c.index_mut.result.now c.push.new.self c.index.ensures within c.index_mut.ensures.value (ap (λ v. v.items) c.in_err-push.ensures.err) in
    sound_uses c.self.inside before _ (length-set c.self.inside.uses.items c.index.result c.push.new.self) (rw kept before.uses)

pub returns-in_err-push-clause-err : goal.returns-in_err-push-clause-err
returns-in_err-push-clause-err c =
    let within = uses_within c.self.inside c.self.invariant c.args.symbol (rw (← c.self.view_is) at c.requires.symbol) in
    rw (← c.self.view_is)
    (on_err c.from_residual.result
    (tables_eq _ _ refl refl refl refl
    (rows_kept c.self.inside.uses.items c.args.symbol c.index.result c.index_mut.result.now c.push.new.self c.index.ensures within c.index_mut.ensures.value (ap (λ v. v.items) c.in_err-push.ensures.err))
    refl refl))

pub invariant_of-self-2 : goal.invariant_of-self-2
invariant_of-self-2 c =
    let before = c.self.invariant in
    let within = uses_within c.self.inside before c.args.symbol (rw (← c.self.view_is) at c.requires.symbol) in
    let changed = rows_changed c.self.inside.uses.items c.args.symbol c.index.result c.index_mut.result.now c.push.new.self c.index.ensures within c.index_mut.ensures.value (λ rs. rs ++ c.args.reference ∷ []) c.in_ok-push.ensures.ok in
    let known : ℕ → Type 0 = λ r. r < length c.self.inside.references.items in
    sound_uses c.self.inside before _ (length-set c.self.inside.uses.items c.index.result c.push.new.self)
    (rw changed (every-set (AllByRecursion known) _ (rows c.self.inside.uses.items) c.args.symbol before.uses
    (every-push known c.args.reference _ (every-or (AllByRecursion known) [] (rows c.self.inside.uses.items) c.args.symbol before.uses tt) (rw (← c.self.view_is) at c.requires.reference))))

pub returns-clause-ok : goal.returns-clause-ok
returns-clause-ok c =
    let within = uses_within c.self.inside c.self.invariant c.args.symbol (rw (← c.self.view_is) at c.requires.symbol) in
    rw (← c.self.view_is)
    (tables_eq _ _ refl refl refl refl
    (rows_changed c.self.inside.uses.items c.args.symbol c.index.result c.index_mut.result.now c.push.new.self c.index.ensures within c.index_mut.ensures.value (λ rs. rs ++ c.args.reference ∷ []) c.in_ok-push.ensures.ok)
    refl refl)

pub index_mut-requires : goal.index_mut-requires
index_mut-requires c = uses_index c.self.inside c.self.invariant c.args.symbol c.index.result c.index.ensures (rw (← c.self.view_is) at c.requires.symbol)
