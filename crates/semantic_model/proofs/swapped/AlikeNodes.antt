-- What belongs to the nodes of a program is the same with changed names.
use Rattle.std.proofs.Common.{◌≡◌, List, [], ◌∷◌, refl, ap, ◌∙◌, map}
use Rattle.semantic_syntax.specs.Tables.{Name}
use Rattle.semantic_tree.specs.Tree.{Tree}
use Rattle.semantic_model.specs.Step.{steps}
use Rattle.semantic_model.specs.Reference.{Occurrence, references}
use Rattle.semantic_model.specs.Event.{events}
use Rattle.semantic_model.specs.Fold.{Made, start}
use Rattle.semantic_model.specs.Hoist.{run}
use Rattle.semantic_model.specs.NodeTable.{belonging, symbols_of, node_tables, numbered_from}
use Rattle.semantic_tree.specs.Renamed.{renamed_tree}
use Rattle.semantic_model.specs.Swap.{renamed_occurrence}
use Rattle.semantic_model.proofs.swapped.AlikeProgram.{Keeps, scopes_renamed, references_renamed}
use Rattle.semantic_model.proofs.swapped.AlikeEvents.{events_renamed}
use Rattle.semantic_model.proofs.swapped.AlikeFold.{renamed_made, run_same}

module _ (f : Name → Name) where
  belonging_same : (ms : List Made) → map belonging (map (renamed_made f) ms) ≡ map belonging ms
  belonging_same [] = refl
  belonging_same (m ∷ ms) = λ i. belonging m ∷ belonging_same ms i

  nodes_same : (rs : List Occurrence) → map (λ r. r.node) (map (renamed_occurrence f) rs) ≡ map (λ r. r.node) rs
  nodes_same [] = refl
  nodes_same (r ∷ rs) = λ i. r.node ∷ nodes_same rs i

  pub node_tables_renamed : Keeps f → (p : Tree) → node_tables (steps (renamed_tree f p)) ≡ node_tables (steps p)
  node_tables_renamed keeps p = λ i. record {
    scopes = numbered_from 0 (map (λ s. s.node) (scopes_renamed f keeps p i));
    symbols = (ap (λ es. symbols_of (run start es)) (events_renamed f keeps p) ∙ ap symbols_of (run_same f keeps start (events (steps p))) ∙ belonging_same (run start (events (steps p))).made) i;
    references = numbered_from 0 ((ap (map (λ r. r.node)) (references_renamed f p) ∙ nodes_same (references (steps p))) i);
  }
