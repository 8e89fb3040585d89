use Rattle.std.proofs.Common.{◌≡◌, ◌≤◌, ℕ, Option, OnOk, OnErr, ap, subst, ◌∙◌}
use Rattle.std.proofs.lemmas.Result.{on_ok_weaker}
use Rattle.semantic_syntax.specs.Counts.{raised}
use Rattle.semantic_tree.specs.Children.{forest_of}
use Rattle.semantic_model.specs.Place.{Place, OpenScope}
use Rattle.semantic_kinds.specs.declared.kind.AstType.{AstType}
use Rattle.semantic_model.specs.Cursor.{cursor_behind}
use Rattle.semantic_model.specs.Step.{ending_after}
use Rattle.walk_model.specs.WalkState.{WalkState}
use Rattle.walk_model.specs.Waits.{HoldsAt}
use Rattle.walk_model.specs.Probes.{probes_of_steps}
use Rattle.walk_model.specs.Walks.{after_all}
use Rattle.table_building.proofs.Growing.{goes-trans, grows-trans}
use Rattle.semantic_walk.specs.Walker.{Walker}
use Rattle.semantic_walk.proofs.Going.{turn-goes}
use Rattle.semantic_walk.proofs.walk.Walk.finish_child.Given as given
use Rattle.semantic_walk.proofs.Visiting.{behind_child, held_behind, ends_behind}
use Rattle.semantic_walk.proofs.walk.Walk.finish_child.Goals as goal

module _ (g : given.Over) (c : goal.After-end_child g) where
  -- to come back makes nothing
  made_is : c.turn_cursor.new.self.made ≡ c.args.self.now.made
  made_is = ap (λ (w : Walker). w.made) c.turn_cursor.ensures.made ∙ ap (λ (w : Walker). w.made) c.come_back.ensures.made

  -- so the header is kept
  held : (p : Place) (own : Option OpenScope) (start : ℕ) → HoldsAt c.args.self.now.made own start → HoldsAt c.turn_cursor.new.self.made own start
  held p own start holds =
      held_behind p own start c.args.turn.now.doings c.args.role c.args.turn.now c.args.before.bits c.args.self.now c.come_back.new.self c.turn_cursor.new.self c.come_back.ensures.made c.turn_cursor.ensures.made holds

pub returns-clause-ends : goal.returns-clause-ends
returns-clause-ends g c = λ ds p own start turn holds.
    on_ok_weaker c.end_child.result
    (λ ended. ends_behind p own start c.args.turn.now.doings c.args.role c.args.turn.now c.args.before.bits c.args.self.now c.come_back.new.self c.turn_cursor.new.self ds (forest_of c.args.rest.now) c.end_child.new.self turn
    c.come_back.ensures.made c.turn_cursor.ensures.made ended
    ∙ ap (λ (k : AstType). behind_child c.args.self.now (after_all ds c.args.self.now.made (ending_after p c.args.role own (forest_of c.args.rest.now))) p (cursor_behind k c.args.role c.args.before.bits c.args.self.now.cursor)) turn.doings)
    (c.end_child.ensures.ends ds p own start turn (held g c p own start holds))

pub returns-clause-cost : goal.returns-clause-cost
returns-clause-cost g c = λ ds p own start turn holds.
    subst (λ (made : WalkState). OnOk c.end_child.result (c.end_child.new.steps ≡ raised c.args.steps.now (probes_of_steps ds made (ending_after p c.args.role own (forest_of c.args.rest.now)))))
    (made_is g c)
    (c.end_child.ensures.cost ds p own start turn (held g c p own start holds))

pub returns-clause-given_up : goal.returns-clause-given_up
returns-clause-given_up g c = λ ds p own start turn holds.
    subst (λ (made : WalkState). OnErr c.end_child.result (c.end_child.new.steps ≤ raised c.args.steps.now (probes_of_steps ds made (ending_after p c.args.role own (forest_of c.args.rest.now)))))
    (made_is g c)
    (c.end_child.ensures.given_up ds p own start turn (held g c p own start holds))

pub come_back-requires : goal.come_back-requires
come_back-requires g c = c.requires

pub end_child-requires : goal.end_child-requires
end_child-requires g c = turn-goes c.args.self.now.made c.turn_cursor.new.self.made c.args.turn.now (goes-trans c.args.self.now.made c.come_back.new.self.made c.turn_cursor.new.self.made c.come_back.ensures.goes c.turn_cursor.ensures.goes) c.requires

pub returns-clause-stands : goal.returns-clause-stands
returns-clause-stands g c = c.end_child.ensures.stands

pub returns-clause-risen : goal.returns-clause-risen
returns-clause-risen g c = c.end_child.ensures.risen

pub returns-clause-grows : goal.returns-clause-grows
returns-clause-grows g c =
    on_ok_weaker c.end_child.result
    (grows-trans c.args.self.now.made.tables c.turn_cursor.new.self.made.tables c.end_child.new.self.made.tables (goes-trans c.args.self.now.made c.come_back.new.self.made c.turn_cursor.new.self.made c.come_back.ensures.goes c.turn_cursor.ensures.goes).tables)
    c.end_child.ensures.grows
