use Rattle.std.proofs.Common.{ℕ, Bool, ◌<◌, length, sym, ◌∙◌, arith}
use Rattle.mangle_model.specs.Assignment.{assignment_of}
use Rattle.mangle_model.specs.Renamed.{given}
use Rattle.mangle_model.specs.WithNames.{is_given}
use Rattle.renamer.specs.Told.{told_by}
use Rattle.mangler.proofs.Identified.{next_identified, own_is_not, one_below_is_not}
use Rattle.mangler.proofs.giving.+are_identifiers.Goals as goal

pub returns-then-not-is_identifier_if_given : goal.returns-then-not-is_identifier_if_given
returns-then-not-is_identifier_if_given t c =
    let chosen : ℕ → Bool = is_given (given (assignment_of c.args.names.now) (told_by c.args.analysed.now)) in
    let items = c.as_slice-child-items.result.now in
    let i = c.loop-child.child-index in
    let child = c.loop-child-item.result in
    let within : i < length items = omega arith in
    own_is_not chosen items i child _ within c.loop-child-item.is (sym c.is_identifier_if_given.ensures ∙ c.if-not-is_identifier_if_given.true) c.loop-child.invariant.rest

pub returns-then-not-are_identifiers : goal.returns-then-not-are_identifiers
returns-then-not-are_identifiers t c =
    let chosen : ℕ → Bool = is_given (given (assignment_of c.args.names.now) (told_by c.args.analysed.now)) in
    let items = c.as_slice-child-items.result.now in
    let i = c.loop-child.child-index in
    let child = c.loop-child-item.result in
    let within : i < length items = omega arith in
    one_below_is_not chosen items i child _ within c.loop-child-item.is (sym c.is_identifier_if_given.ensures ∙ c.if-not-is_identifier_if_given.false) (sym c.are_identifiers.ensures ∙ c.if-not-are_identifiers.true) c.loop-child.invariant.rest

pub loop-child-preserved : goal.loop-child-preserved
loop-child-preserved t c =
    let chosen : ℕ → Bool = is_given (given (assignment_of c.args.names.now) (told_by c.args.analysed.now)) in
    let items = c.as_slice-child-items.result.now in
    let i = c.loop-child.child-index in
    let child = c.loop-child-item.result in
    let within : i < length items = omega arith in
    record {
      items = c.loop-child.invariant.items;
      rest = next_identified chosen items i child _ within c.loop-child-item.is (sym c.is_identifier_if_given.ensures ∙ c.if-not-is_identifier_if_given.false) (sym c.are_identifiers.ensures ∙ c.if-not-are_identifiers.false) c.loop-child.invariant.rest;
    }
