-- What is looked up in tables is what their analysis tells.
use Rattle.std.proofs.Common.{◌≡◌, ℕ, zero, suc, ◌<◌, ◌≤◌, ◌==◌, List, [], ◌∷◌, Option, Some, None, cond, length, map, nat_eq, refl, sym, ap, ◌∙◌, arith}
use Rattle.std.specs.Prelude.{slice_get, option_and_then}
use Rattle.std.specs.Map.{lookup}
use Rattle.std.proofs.lemmas.Option.{slice_get-get_or}
use Rattle.semantic_syntax.specs.NodeEntries.{NodeEntries}
use Rattle.semantic_syntax.specs.Reading.{no_reference, reference_of}
use Rattle.semantic_syntax.specs.Tables.{Tables}
use Rattle.semantic_syntax.specs.declared.references.Reference.{Reference}
use Rattle.semantic_syntax.proofs.Truth.{same_turned}
use Rattle.semantic_model.specs.NodeTable.{Belongs, number_of, node_tables}
use Rattle.semantic_model.specs.Step.{steps}
use Rattle.semantic_model.specs.TablesOf.{tables_of}
use Rattle.semantic_tree.specs.Tree.{Tree}
use Rattle.semantic_model.specs.Analysis.{tied_at, analysis_of}
use Rattle.semantic_queries.specs.Shown.{belonging, entries, shown}

pub number_found : (es : List (ℕ × ℕ)) (node : ℕ) → lookup (nat_eq node) es ≡ number_of (map belonging es) node
number_found [] node = refl
number_found (e ∷ es) node =
    ap (λ b. cond b (Some e.1) (lookup (nat_eq node) es)) (same_turned node e.0) ∙ ap (λ rest. cond (e.0 == node) (Some e.1) rest) (number_found es node)

abbrev symbol : Reference → Option ℕ
symbol r = r.symbol_id

-- the symbol of a reference, if it is there
abbrev symbol_in : Tables → ℕ → Option ℕ
symbol_in t r = option_and_then symbol (slice_get t.references r)

tie_found : (t : Tables) (nodes : NodeEntries) (node : ℕ) (o : Option ℕ) → lookup (nat_eq node) nodes.references ≡ o → tied_at (shown t nodes) node ≡ option_and_then (symbol_in t) o
tie_found t nodes node o e = ap (option_and_then (symbol_in t)) (sym (number_found nodes.references node) ∙ e)

pub no_tie : (t : Tables) (nodes : NodeEntries) (node : ℕ) → lookup (nat_eq node) nodes.references ≡ None → tied_at (shown t nodes) node ≡ None
no_tie t nodes node e = tie_found t nodes node None e

pub tie_inside : (t : Tables) (nodes : NodeEntries) (node r : ℕ) → lookup (nat_eq node) nodes.references ≡ Some r → r < length t.references → tied_at (shown t nodes) node ≡ (reference_of t r).symbol_id
tie_inside t nodes node r e h = tie_found t nodes node (Some r) e ∙ ap (option_and_then symbol) (slice_get-get_or t.references r no_reference h)

none_past : {A : Type 0} → (xs : List A) (i : ℕ) → length xs ≤ i → slice_get xs i ≡ None
none_past [] i h = refl
none_past (x ∷ xs) zero h = absurd (omega arith)
none_past (x ∷ xs) (suc i) h = none_past xs i (omega arith)

pub tie_outside : (t : Tables) (nodes : NodeEntries) (node r : ℕ) → lookup (nat_eq node) nodes.references ≡ Some r → length t.references ≤ r → tied_at (shown t nodes) node ≡ None
tie_outside t nodes node r e h = tie_found t nodes node (Some r) e ∙ ap (option_and_then symbol) (none_past t.references r h)

pairs_again : (bs : List Belongs) → map belonging (entries bs) ≡ bs
pairs_again [] = refl
pairs_again (b ∷ bs) = ap (λ (rest : List Belongs). b ∷ rest) (pairs_again bs)

pub shows : (p : Tree) (t : Tables) (nodes : NodeEntries) → t ≡ tables_of p → nodes.symbols ≡ entries (node_tables (steps p)).symbols → nodes.references ≡ entries (node_tables (steps p)).references → nodes.scopes ≡ entries (node_tables (steps p)).scopes → shown t nodes ≡ analysis_of p
shows p t nodes e symbols references scopes = λ i. record {
  tables = e i;
  owns = record {
    scopes = (ap (map belonging) scopes ∙ pairs_again (node_tables (steps p)).scopes) i;
    symbols = (ap (map belonging) symbols ∙ pairs_again (node_tables (steps p)).symbols) i;
    references = (ap (map belonging) references ∙ pairs_again (node_tables (steps p)).references) i;
  };
}
