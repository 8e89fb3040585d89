use Rattle.std.proofs.Common.{◌≡◌, List, true, ap, ◌∙◌}
use Rattle.semantic_model.specs.Place.{Place}
use Rattle.semantic_model.specs.Binder.{is_statement, is_block_function}
use Rattle.semantic_model.specs.Declaration.{Declaration}
use Rattle.walk_model.specs.Shown.{ShowsChain, HasVar}
use Rattle.semantic_walk.specs.Walker.{Walker}
use Rattle.semantic_walk.specs.AtPlace.{IsWithin}
use Rattle.semantic_walk.proofs.PlaceRows.{on_ok_same}
use Rattle.semantic_walk.proofs.PlaceFunctions.{IsSeen, function_inside, function_stays, function_moves, block_by, never_moves}
use Rattle.semantic_walk.proofs.walk.Walk.bind_function.Goals.{After-may_move}
use Rattle.semantic_walk.proofs.walk.Walk.bind_function.Goals as goal

module _ (c : After-may_move) where
  -- what the walk has looked at
  sees : IsSeen c.args.self.now c.self.inside.source_type c.parent.result c.scope_flags-flags.result
  sees = record { source_is = ap (λ (v : Walker). v.source_type) c.self.view_is; parent_is = c.parent.ensures; flags_are = c.scope_flags-flags.ensures }

  -- says whether a statement may move
  moves : (ds : List Declaration) (p : Place) → p.node ≡ c.args.function.node.now → is_statement p.node ≡ true → IsWithin c.args.self.now p p.chain → ShowsChain c.args.self.now.made.tables p.chain → HasVar p.chain
      → is_block_function p ≡ c.may_move.result
  moves ds p e s within shown some =
      block_by ds c.args.self.now p c.args.function c.parent.result c.self.inside.source_type c.scope_flags-flags.result c.function_row-row.result c.has_mark-is_pure.result e sees
      c.function_row-row.ensures c.has_mark-is_pure.ensures within shown some c.may_move.result s c.may_move.ensures

pub returns-then-may_move-clause-entering : goal.returns-then-may_move-clause-entering
returns-then-may_move-clause-entering c = λ ds p e s within shown some named.
    let at = (goal.at.returns-then-may_move-clause-entering c).After-may_move in
    on_ok_same c.bind_block_function.result c.bind_block_function.new.self _ _
    (function_moves ds c.args.self.now p c.args.function c.parent.result c.self.inside.source_type c.scope_flags-flags.result c.function_row-row.result c.has_mark-is_pure.result e (sees at)
    c.function_row-row.ensures c.has_mark-is_pure.ensures within shown some named (moves at ds p e s within shown some ∙ c.if-may_move.true))
    c.bind_block_function.ensures.made

pub returns-else-may_move-clause-entering : goal.returns-else-may_move-clause-entering
returns-else-may_move-clause-entering c = λ ds p e s within shown some named.
    let at = (goal.at.returns-else-may_move-clause-entering c).After-may_move in
    on_ok_same c.bind_names.result c.bind_names.new.self _ _
    (function_stays ds c.args.self.now p c.args.function c.parent.result c.self.inside.source_type c.scope_flags-flags.result c.function_row-row.result c.has_mark-is_pure.result e (sees at)
    c.function_row-row.ensures c.has_mark-is_pure.ensures within shown some (moves at ds p e s within shown some ∙ c.if-may_move.false))
    c.bind_names.ensures.made

pub returns-then-may_move-clause-opening : goal.returns-then-may_move-clause-opening
returns-then-may_move-clause-opening c = λ ds p own e s within.
    absurd (never_moves ds c.args.self.now p c.args.function c.parent.result c.self.inside.source_type c.scope_flags-flags.result c.function_row-row.result c.has_mark-is_pure.result e
    (sees (goal.at.returns-then-may_move-clause-opening c).After-may_move) c.function_row-row.ensures c.has_mark-is_pure.ensures c.may_move.result s c.may_move.ensures c.if-may_move.true)

pub returns-else-may_move-clause-opening : goal.returns-else-may_move-clause-opening
returns-else-may_move-clause-opening c = λ ds p own e s within.
    on_ok_same c.bind_names.result c.bind_names.new.self _ _
    (function_inside ds c.args.self.now p c.args.function c.parent.result c.self.inside.source_type c.scope_flags-flags.result c.function_row-row.result c.has_mark-is_pure.result e
    (sees (goal.at.returns-else-may_move-clause-opening c).After-may_move) c.function_row-row.ensures c.has_mark-is_pure.ensures own s within)
    c.bind_names.ensures.made
