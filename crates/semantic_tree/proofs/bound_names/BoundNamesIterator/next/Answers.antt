use Rattle.std.proofs.Common.{◌≡◌, ◌∷◌, ◌++◌, Option, Some, None, ap, sym, ◌∙◌}
use Rattle.std.specs.Iterator.{YieldsFirstBy}
use Rattle.semantic_tree.specs.ChildIter.{shown}
use Rattle.semantic_tree.specs.NameIter.{own_name, names_below, names_left}
use Rattle.semantic_tree.specs.declared.view.AstKind.{AstKind}
use Rattle.semantic_tree.specs.declared.bound_names.BoundNames.{BoundNames}
use Rattle.semantic_tree.proofs.bound_names.BoundNamesIterator.next.Goals as goal

-- without a name of its own the names below are all
only_below : (it : BoundNames) → it.own ≡ None → names_left it ≡ names_below it
only_below it h = ap (λ own. own_name own ++ names_below it) h

-- so what is given below is given
steps : (old new : BoundNames) (r : Option AstKind) → old.own ≡ None → new.own ≡ old.own → YieldsFirstBy shown names_below old r new → YieldsFirstBy shown names_left old r new
steps old new None h same (none, after) = (only_below old h ∙ none, only_below new (same ∙ h) ∙ after)
steps old new (Some found) h same e = only_below old h ∙ e ∙ ap (λ rest. shown found ∷ rest) (sym (only_below new (same ∙ h)))

pub returns-in-None-clause-steps : goal.returns-in-None-clause-steps
returns-in-None-clause-steps c = steps c.args.self.now c.next_below.new.self c.next_below.result c.in-None.is c.next_below.ensures.own c.next_below.ensures.names
