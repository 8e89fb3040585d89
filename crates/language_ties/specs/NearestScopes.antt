-- What a reference is tied to, where its way fits every symbol: what the nearest scope outward binds to its name.
use Rattle.std.specs.Prelude.{◌≡◌, ℕ, List, [], ◌∷◌, Option, Some, None, false, codes, bytes_eq, slice_get}
use Rattle.semantic_syntax.specs.Tables.{Name}
use Rattle.semantic_syntax.specs.declared.references.Reference.{Reference}
use Rattle.semantic_tree.specs.Tree.{Tree}
use Rattle.semantic_model.specs.Binding.{get}
use Rattle.semantic_model.specs.Event.{Event, events}
use Rattle.semantic_model.specs.Fold.{State, start, or_else}
use Rattle.semantic_model.specs.Hoist.{run}
use Rattle.semantic_model.specs.Place.{OpenScope}
use Rattle.semantic_model.specs.Reference.{Occurrence, references}
use Rattle.semantic_model.specs.Step.{steps}
use Rattle.semantic_model.specs.TablesOf.{tables_of}
use Rattle.semantic_model.specs.Tie.{view}

-- the symbol that the first of the scopes binds which binds the name at all, each as the reference sees it: a header as it stood when it ended, any other as it stands in the end
abbrev pub nearest_symbol : State → List Event → Name → List OpenScope → Option ℕ
nearest_symbol final es name [] = None
nearest_symbol final es name (s ∷ ss) = or_else (get (view final es s).bindings s.number name) (nearest_symbol final es name ss)

-- each reference has the symbol of the nearest scope that binds its name; `arguments` is another matter
abbrev pub AreTiedNearest : Tree → Type 0
AreTiedNearest p =
    (n : ℕ) (r : Occurrence) (e : Reference) → slice_get (references (steps p)) n ≡ Some r → slice_get (tables_of p).references n ≡ Some e → bytes_eq r.name (codes "arguments") ≡ false
    → e.symbol_id ≡ nearest_symbol (run start (events (steps p))) (events (steps p)) r.name r.chain
