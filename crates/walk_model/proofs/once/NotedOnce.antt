-- In a numbered program without a fault the walk notes each scope, each declared identifier and each reference once.
use Rattle.std.proofs.Common.{◌≡◌, None, ◌∙◌}
use Rattle.semantic_tree.specs.Tree.{Tree, IsNumbered}
use Rattle.semantic_tree.specs.Faults.{first_fault}
use Rattle.walk_model.specs.Walks.{walked}
use Rattle.walk_model.specs.Agreement.{NotesOnce}
use Rattle.walk_model.proofs.declares.DeclaredAll.{has_declared}
use Rattle.walk_model.proofs.opens.OpenedAll.{has_opened}
use Rattle.walk_model.proofs.refers.GivesTables.{has_referred}
use Rattle.walk_model.proofs.once.NodeIds.{scopes_noted_once, references_noted_once}
use Rattle.walk_model.proofs.once.SymbolsOnce.{symbols_noted_once}

pub notes_once : (p : Tree) → first_fault p ≡ None → IsNumbered p.root → NotesOnce p (walked p)
notes_once p h e = record {
  scopes = (has_opened p h).nodes ∙ scopes_noted_once p e;
  symbols = (has_declared p h).nodes ∙ symbols_noted_once p h e;
  references = (has_referred p h).nodes ∙ references_noted_once p e;
}
