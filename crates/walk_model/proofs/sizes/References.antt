-- A program has a reference for each identifier reference.
use Rattle.std.proofs.Common.{◌≡◌, ℕ, ◌+◌, List, [], ◌∷◌, ◌++◌, Option, Some, None, Bool, true, false, cond, length, refl, arith}
use Rattle.std.specs.List.{cons_option}
use Rattle.std.proofs.lemmas.List.{length-map}
use Rattle.semantic_kinds.specs.declared.kind.AstType.TheVariants as kind
use Rattle.semantic_kinds.specs.declared.role.Role.{Role}
use Rattle.semantic_kinds.specs.declared.role.Role.TheVariants as role
use Rattle.semantic_tree.specs.Children.{single}
use Rattle.semantic_tree.specs.Forest.{Forest, nothing, tree}
use Rattle.semantic_tree.specs.Tree.{Tree}
use Rattle.semantic_tree.specs.declared.node.Node.{Node}
use Rattle.semantic_tree.specs.Views.{is}
use Rattle.semantic_model.specs.Place.{Place, OpenScope}
use Rattle.semantic_model.specs.Cursor.{on_entering}
use Rattle.semantic_model.specs.Step.{Step, entering, opening, header_ending, closing, leaving, opening_at, ending_after, opening_last, steps_below, root_place, steps}
use Rattle.semantic_model.proofs.steps.Turn.{Turn, turn_at, turn_sum}
use Rattle.semantic_model.specs.Reference.{reference_at, references}
use Rattle.semantic_model.specs.Event.{Event, events}
use Rattle.semantic_model.specs.Fold.{start}
use Rattle.semantic_model.specs.Hoist.{run}
use Rattle.semantic_model.specs.Tie.{ties}
use Rattle.semantic_model.specs.TablesOf.{entry_of, tables_of}
use Rattle.semantic_model.proofs.steps.TurnCases.{opening_case, ending_case, last_case}
use Rattle.walk_model.proofs.refers.TrackedReferences.{ties_length}
use Rattle.semantic_tree.specs.KindCounts.{how_many}
use Rattle.walk_model.specs.Counted.{is_reference}
use Rattle.walk_model.specs.Room.{referred_by, in_all}
use Rattle.walk_model.proofs.sizes.InSteps.{all-append}

-- how many references the steps enter
abbrev entered : List Step → ℕ
entered ss = in_all referred_by ss

entered_all : (ss : List Step) → length (references ss) ≡ entered ss
entered_all [] = refl
entered_all (entering p ∷ ss) = by (is kind.IdentifierReference p.node) (entered_all ss)
  where
    by : (b : Bool) → length (references ss) ≡ entered ss → length (cons_option (cond b (Some (reference_at p)) None) (references ss)) ≡ cond b 1 0 + entered ss
    by true h = omega (arith, h)
    by false h = omega (arith, h)
entered_all (opening p s ∷ ss) = omega (arith, entered_all ss)
entered_all (header_ending p s ∷ ss) = omega (arith, entered_all ss)
entered_all (closing p s ∷ ss) = omega (arith, entered_all ss)
entered_all (leaving p ∷ ss) = omega (arith, entered_all ss)

entered_append : (xs ys : List Step) → entered (xs ++ ys) ≡ entered xs + entered ys
entered_append = all-append referred_by

none_opening : (p : Place) (r : Role) (own : Option OpenScope) (n : ℕ) → entered (opening_at p r own n) ≡ 0
none_opening p r own n = opening_case (λ ss. entered ss ≡ 0) p r own n refl refl

none_ending : (p : Place) (r : Role) (own : Option OpenScope) (after : Forest) → entered (ending_after p r own after) ≡ 0
none_ending p r own after = ending_case (λ ss. entered ss ≡ 0) p r own after refl (λ s. refl) (λ s. refl) (λ s. refl)

none_last : (p : Place) (own : Option OpenScope) (n : ℕ) → entered (opening_last p own n) ≡ 0
none_last p own n = last_case (λ ss. entered ss ≡ 0) p own n refl refl

entered_below : (p : Place) (own : Option OpenScope) (n cursor : ℕ) (f : Forest) → entered (steps_below p own n cursor f) ≡ how_many is_reference f
entered_below p own n cursor nothing = none_last p own n
entered_below p own n cursor (tree r k span text marks below id after) =
    let node : Node = record { kind = k; span = span; text = text; marks = marks; children = below; node_id = id } in
    let turn : Turn = turn_at p own n cursor r node after in
    omega (
      arith,
      turn_sum entered entered_append turn,
      entered_append turn.below (leaving turn.child ∷ []),
      none_opening p r own n,
      none_ending p r turn.scope after,
      entered_below turn.child None turn.next turn.inner below,
      entered_below p turn.scope turn.rest turn.past after,
    )

-- and the steps of a program
pub entered_counted : (p : Tree) → in_all referred_by (steps p) ≡ how_many is_reference (single role.Root p.root)
entered_counted p =
    let below : List Step = steps_below (root_place p) None 0 (on_entering p.root.kind 0) p.root.children in
    omega (
      arith,
      entered_append below (leaving (root_place p) ∷ []),
      entered_below (root_place p) None 0 (on_entering p.root.kind 0) p.root.children,
    )

pub references_counted : (p : Tree) → length (tables_of p).references ≡ how_many is_reference (single role.Root p.root)
references_counted p =
    let es : List Event = events (steps p) in
    omega (
      arith,
      length-map (ties (run start es) es 0 (references (steps p))) entry_of,
      ties_length (run start es) es 0 (references (steps p)),
      entered_all (steps p),
      entered_counted p,
    )
