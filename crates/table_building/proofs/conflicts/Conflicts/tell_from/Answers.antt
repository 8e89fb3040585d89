use Rattle.std.proofs.Common.{◌≡◌, ℕ, ◌+◌, ◌<◌, ◌≤◌, List, [], ◌∷◌, ◌++◌, length, get_or, map, drop, sym, ap, ◌∙◌, append_assoc}
use Rattle.std.proofs.Math.ListN.{drop_of_length-le}
use Rattle.std.proofs.lemmas.List.{drop_more, drop-map, append-nil}
use Rattle.std.proofs.lemmas.Bool.{ltb-true, ltb-false}
use Rattle.semantic_diagnostics.specs.declared.diagnostic.Diagnostic.{Diagnostic}
use Rattle.table_building.specs.Conflicting.{conflict_of, noted_conflict_diagnostic}
use Rattle.table_building.specs.declared.conflicts.Conflict.{Conflict}
use Rattle.table_building.proofs.conflicts.Conflicts.tell_from.Goals as goal

turn : (items : List Conflict) (i : ℕ) (c : Conflict) (made : Diagnostic) (before after whole : List Diagnostic) → i < length items → get_or items i c ≡ c
    → made ≡ noted_conflict_diagnostic (conflict_of c) → after ≡ before ++ made ∷ []
    → before ++ map noted_conflict_diagnostic (map conflict_of (drop i items)) ≡ whole → after ++ map noted_conflict_diagnostic (map conflict_of (drop (i + 1) items)) ≡ whole
turn items i c made before after whole within at is pushed rest =
    let here : drop i items ≡ c ∷ drop (i + 1) items = drop_more items i c within ∙ ap (λ (x : Conflict). x ∷ drop (i + 1) items) at in
    rw (pushed, append_assoc, is) (ap (λ left. before ++ map noted_conflict_diagnostic (map conflict_of left)) (sym here) ∙ rest)

pub loop-conflict-preserved : goal.loop-conflict-preserved
loop-conflict-preserved c =
    let within : c.loop-conflict.next < length c.as_slice-entries.result.now = ltb-true c.loop-conflict.next (length c.as_slice-entries.result.now) (sym c.in-Some.ensures.lookup.0) in
    turn c.as_slice-entries.result.now c.loop-conflict.next c.in-Some.conflict.now c.in_ok-diagnostic.diagnostic c.loop-conflict.out _ _ within (sym c.in-Some.ensures.lookup.1)
    c.in_ok-diagnostic.ensures c.in_ok-push.ensures.ok c.loop-conflict.invariant

pub returns : goal.returns
returns c =
    let over : length c.as_slice-entries.result.now ≤ c.loop-conflict.next = ltb-false c.loop-conflict.next (length c.as_slice-entries.result.now) (sym c.in_default.ensures.lookup.0) in
    sym (append-nil c.loop-conflict.out)
    ∙ ap (λ left. c.loop-conflict.out ++ map noted_conflict_diagnostic (map conflict_of left)) (sym (drop_of_length-le c.as_slice-entries.result.now over))
    ∙ c.loop-conflict.invariant
    ∙ ap (λ left. c.args.out.now ++ map noted_conflict_diagnostic left) (sym (drop-map conflict_of c.args.from c.as_slice-entries.result.now))
    ∙ ap (λ cs. c.args.out.now ++ map noted_conflict_diagnostic (drop c.args.from cs)) (ap (map conflict_of) c.as_slice-entries.ensures.value ∙ c.self.view_is)
