use Rattle.std.proofs.Common.{◌≡◌, ℕ, List, ◌++◌, set, length, subst, sym, ap, ◌∙◌, nat_eq, arith}
use Rattle.std.specs.List.{IsDistinct}
use Rattle.std.specs.Map.{keys_of}
use Rattle.indexmap.specs.IndexMap.{insert_entry}
use Rattle.semantic_syntax.proofs.Results.{on_err}
use Rattle.semantic_syntax.specs.NodeEntries.{AreBefore, AreRising, HasNone, IsPositionOf}
use Rattle.scoping_rows.proofs.Apart.{stays_apart}
use Rattle.scoping_rows.proofs.Rising.{insert_at, insert_behind, rise_behind, rise_set, pushed}
use Rattle.scoping_rows.proofs.node_map.NodeMap.insert.Goals as goal

pub invariant_of-self-then-is_behind : goal.invariant_of-self-then-is_behind
invariant_of-self-then-is_behind g c =
    let es = c.self.inside.rising.items in
    let before = subst (λ xs. AreBefore xs c.args.node) c.deref.ensures.value (c.is_behind.ensures c.if-is_behind.true) in
    let late = c.self.inside.late.entries in
    let empty : length late ≡ 0 = c.is_empty.ensures.0 c.if-is_empty.true in (
      subst AreRising (sym c.in_ok-push.ensures.items) (rise_behind es c.self.invariant.0 c.args.node c.args.value before),
      stays_apart es late _ c.args.node c.args.value c.self.invariant.1 (ap (λ xs. xs ++ late) c.in_ok-push.ensures.items ∙ pushed es late c.args.node c.args.value empty before),
    )

pub returns-then-is_behind-clause-ok : goal.returns-then-is_behind-clause-ok
returns-then-is_behind-clause-ok g c =
    let es = c.self.inside.rising.items in
    let before = subst (λ xs. AreBefore xs c.args.node) c.deref.ensures.value (c.is_behind.ensures c.if-is_behind.true) in
    let empty : length c.self.inside.late.entries ≡ 0 = c.is_empty.ensures.0 c.if-is_empty.true in
    ap (λ xs. xs ++ c.self.inside.late.entries) c.in_ok-push.ensures.items ∙ pushed es _ c.args.node c.args.value empty before
    ∙ ap (λ xs. insert_entry nat_eq xs c.args.node c.args.value) c.self.view_is

pub invariant_of-self-in-Some : goal.invariant_of-self-in-Some
invariant_of-self-in-Some g c =
    let es = c.self.inside.rising.items in
    let position = subst (λ xs. IsPositionOf xs c.args.node c.in-Some.position) c.deref-2.ensures.value c.in-Some.ensures in
    let late = c.self.inside.late.entries in (
      subst (λ (e : ℕ × g.row.T.Denot). AreRising (set es c.in-Some.position (e.0, c.args.value))) (sym c.index_mut.ensures.value)
          (rise_set es c.self.invariant.0 c.in-Some.position c.args.value c.index_mut.result.now position.in_range),
      stays_apart es late _ c.args.node c.args.value c.self.invariant.1
          (ap (λ (e : ℕ × g.row.T.Denot). set es c.in-Some.position (e.0, c.args.value) ++ late) c.index_mut.ensures.value
          ∙ sym (insert_at es c.self.invariant.0 late c.args.node c.in-Some.position c.args.value c.index_mut.result.now position)),
    )

pub returns-in-Some-clause-ok : goal.returns-in-Some-clause-ok
returns-in-Some-clause-ok g c =
    let es = c.self.inside.rising.items in
    let late = c.self.inside.late.entries in
    let position = subst (λ xs. IsPositionOf xs c.args.node c.in-Some.position) c.deref-2.ensures.value c.in-Some.ensures in
    ap (λ (e : ℕ × g.row.T.Denot). set es c.in-Some.position (e.0, c.args.value) ++ late) c.index_mut.ensures.value
    ∙ sym (insert_at es c.self.invariant.0 late c.args.node c.in-Some.position c.args.value c.index_mut.result.now position)
    ∙ ap (λ xs. insert_entry nat_eq xs c.args.node c.args.value) c.self.view_is

pub returns-in_ok-insert-in-None-clause-ok : goal.returns-in_ok-insert-in-None-clause-ok
returns-in_ok-insert-in-None-clause-ok g c =
    let es = c.self.inside.rising.items in
    let none = subst (λ xs. HasNone xs c.args.node) c.deref-2.ensures.value c.in-None.ensures in
    ap (λ fs. es ++ fs) c.in_ok-insert-in-None.ensures.entries ∙ sym (insert_behind es c.self.inside.late.entries c.args.node c.args.value none) ∙ ap (λ xs. insert_entry nat_eq xs c.args.node c.args.value) c.self.view_is

pub is_behind-requires : goal.is_behind-requires
is_behind-requires g c = subst AreRising (sym c.deref.ensures.value) c.self.invariant.0

pub position_of-requires : goal.position_of-requires
position_of-requires g c = subst AreRising (sym c.deref-2.ensures.value) c.self.invariant.0

pub index_mut-requires : goal.index_mut-requires
index_mut-requires g c =
    let position = subst (λ xs. IsPositionOf xs c.args.node c.in-Some.position) c.deref-2.ensures.value c.in-Some.ensures in
    omega (arith, position.in_range, c.self.inside.rising.ok.0)

pub invariant_of-self : goal.invariant_of-self
invariant_of-self g c = (
  subst AreRising (sym c.in_err-push.ensures.items) c.self.invariant.0,
  subst (λ (xs : List (ℕ × g.row.T.Denot)). IsDistinct nat_eq (keys_of (xs ++ c.self.inside.late.entries))) (sym c.in_err-push.ensures.items) c.self.invariant.1,
)

pub returns-in_err-push-clause-err : goal.returns-in_err-push-clause-err
returns-in_err-push-clause-err g c = on_err c.from_residual.result (ap (λ xs. xs ++ c.self.inside.late.entries) c.in_err-push.ensures.items ∙ c.self.view_is)

pub invariant_of-self-in_ok-insert-in-None : goal.invariant_of-self-in_ok-insert-in-None
invariant_of-self-in_ok-insert-in-None g c =
    let es = c.self.inside.rising.items in
    let late = c.self.inside.late.entries in
    let none = subst (λ xs. HasNone xs c.args.node) c.deref-2.ensures.value c.in-None.ensures in (
      c.self.invariant.0,
      stays_apart es late _ c.args.node c.args.value c.self.invariant.1
          (ap (λ fs. es ++ fs) c.in_ok-insert-in-None.ensures.entries ∙ sym (insert_behind es late c.args.node c.args.value none)),
    )

pub invariant_of-self-in_err-insert-in-None : goal.invariant_of-self-in_err-insert-in-None
invariant_of-self-in_err-insert-in-None g c = (
  c.self.invariant.0,
  subst (λ (fs : List (ℕ × g.row.T.Denot)). IsDistinct nat_eq (keys_of (c.self.inside.rising.items ++ fs))) (sym c.in_err-insert-in-None.ensures.err) c.self.invariant.1,
)
