-- The tables of a program fit it.
use Rattle.std.proofs.Common.{◌≡◌, None}
use Rattle.semantic_tree.specs.Tree.{Tree}
use Rattle.semantic_tree.specs.Faults.{first_fault}
use Rattle.semantic_model.specs.Step.{steps}
use Rattle.semantic_model.specs.NodeTable.{node_tables}
use Rattle.semantic_model.specs.TablesOf.{tables_of}
use Rattle.semantic_model.specs.Fits.{Fits}
use Rattle.semantic_model.proofs.fold.Orders.{HasForm}
use Rattle.semantic_model.proofs.fits.FitParts.{frames}
use Rattle.semantic_model.proofs.once.ReferencesStand.{stand_once}
use Rattle.semantic_model.proofs.fits.Outwards.{tie_outward}
use Rattle.semantic_model.proofs.alone.OwnSymbol.{lone_declaration}
use Rattle.semantic_model.proofs.fits.NothingInvented.{nothing_invented}
use Rattle.semantic_model.proofs.form.Shape.{has_form}

pub tables_fit : (p : Tree) → first_fault p ≡ None → Fits p (tables_of p) (node_tables (steps p))
tables_fit p h =
    let f : HasForm p = has_form p h in
    record {
      scopes_are_the_trees = frames p;
      references_stand_once = stand_once p f;
      references_tie_outward = tie_outward p f;
      lone_declarations_have_their_symbol = lone_declaration p f;
      nothing_is_invented = nothing_invented p f;
    }
