-- The lines on nodes and counts, as forms, which tell them.
use Rattle.std.proofs.Common.{◌≡◌, ℕ, ◌+◌, ◌<◌, ◌≤◌, ◌^◌, List, [], ◌∷◌, ◌++◌, length, map, codes, decimal, append_assoc, refl, sym, ap, ◌∙◌, subst, arith}
use Rattle.std.specs.Prelude.{slice_index}
use Rattle.std.specs.List.{AllByRecursion}
use Rattle.semantic_kinds.specs.Kinds.{kind_name}
use Rattle.semantic_syntax.proofs.Every.{every-or}
use Rattle.semantic_syntax.specs.Tables.{Tables}
use Rattle.node_store.specs.NodeList.{NodeList, SeenNode}
use Rattle.node_store.specs.Outward.{numbered_from}
use Rattle.report_lines.specs.CountLines.{node_line, node_line_by, counts_text, table_counts, stats_line}
use Rattle.table_bounds.specs.Tellable.{IsWrittenWhole, AreNumbers, AreTellable}
use Rattle.report_laws.specs.Found.{HaveSameNodes}
use Rattle.report_laws.proofs.Forms.{number, kind_word, Form, end, word, piece, Values, written, AreTold}
use Rattle.report_laws.proofs.Lists.{concat_onto, numbered, numbered_map, beside_back, all_numbered}

-- ---- nodes

abbrev pub node_form : Form
node_form = piece number (word (codes " ") (piece kind_word (word (codes " parent ") (piece number (word (codes " scope ") (piece number (word (codes "\n") end)))))))

abbrev pub node_value : List ℕ → ℕ × SeenNode → Values node_form
node_value parents n = (n.0, (n.1.node.kind, (slice_index parents n.0, (n.1.scope, tt))))

pub node_written : (parents : List ℕ) (n : ℕ × SeenNode) (rest : List ℕ) → node_line_by parents n ++ rest ≡ codes "node " ++ written node_form (node_value parents n) rest
unfolding node_line
node_written parents n rest =
    concat_onto (codes "node " ∷ decimal n.0 ∷ codes " " ∷ kind_name n.1.node.kind ∷ codes " parent " ∷ decimal (slice_index parents n.0) ∷ codes " scope " ∷ decimal n.1.scope ∷ codes "\n" ∷ []) rest

-- numbers have no more than 64 bits, and each node has a parent
pub record AreTellableNodes (list : NodeList) : Type 0 where
  pub numbered : length list.nodes ≤ 2 ^ 64
  pub with_parents : length list.parents ≡ length list.nodes
  pub scopes : AllByRecursion (λ (s : SeenNode). IsWrittenWhole s.scope) list.nodes
  pub parents : AreNumbers list.parents

abbrev node_here : List ℕ → ℕ → SeenNode → Values node_form
node_here parents n s = node_value parents (n, s)

numbered_pairs : (parents : List ℕ) (i : ℕ) (ss : List SeenNode) → map (node_value parents) (numbered_from i ss) ≡ numbered (node_here parents) i ss
numbered_pairs parents i [] = refl
numbered_pairs parents i (s ∷ ss) = ap (λ more. node_value parents (i, s) ∷ more) (numbered_pairs parents (i + 1) ss)

node_told : (list : NodeList) → AreTellableNodes list → (n : ℕ) (s : SeenNode) → n < 2 ^ 64 → IsWrittenWhole s.scope → AreTold node_form (node_here list.parents n s)
node_told list h n s small scope = (small, (tt, (every-or IsWrittenWhole 0 list.parents n h.parents (omega arith), (scope, tt))))

all_nodes_told : (list : NodeList) → AreTellableNodes list → AllByRecursion (AreTold node_form) (numbered (node_here list.parents) 0 list.nodes)
all_nodes_told list h = all_numbered (λ (s : SeenNode). IsWrittenWhole s.scope) (AreTold node_form) (node_here list.parents) (2 ^ 64) (node_told list h) 0 list.nodes (omega (arith, h.numbered)) h.scopes

pub nodes_told : (list : NodeList) → AreTellableNodes list → AllByRecursion (AreTold node_form) (map (node_value list.parents) (numbered_from 0 list.nodes))
nodes_told list h = subst (AllByRecursion (AreTold node_form)) (sym (numbered_pairs list.parents 0 list.nodes)) (all_nodes_told list h)

parents_back : (list : NodeList) → AreTellableNodes list → map (λ (v : Values node_form). v.1.1.0) (numbered (node_here list.parents) 0 list.nodes) ≡ list.parents
parents_back list h = beside_back list.parents 0 (node_here list.parents) (λ v. v.1.1.0) (λ i s. refl) 0 list.nodes (omega (arith, h.with_parents))

kinds_back : (list : NodeList) → map (λ (v : Values node_form). v.1.0) (numbered (node_here list.parents) 0 list.nodes) ≡ map (λ s. s.node.kind) list.nodes
kinds_back list = numbered_map (node_here list.parents) (λ v. v.1.0) (λ s. s.node.kind) (λ i s. refl) 0 list.nodes

scopes_back : (list : NodeList) → map (λ (v : Values node_form). v.1.1.1.0) (numbered (node_here list.parents) 0 list.nodes) ≡ map (λ s. s.scope) list.nodes
scopes_back list = numbered_map (node_here list.parents) (λ v. v.1.1.1.0) (λ s. s.scope) (λ i s. refl) 0 list.nodes

pub nodes_back : (a b : NodeList) → AreTellableNodes a → AreTellableNodes b → map (node_value a.parents) (numbered_from 0 a.nodes) ≡ map (node_value b.parents) (numbered_from 0 b.nodes) → HaveSameNodes a b
nodes_back a b ha hb e =
    let values : numbered (node_here a.parents) 0 a.nodes ≡ numbered (node_here b.parents) 0 b.nodes = sym (numbered_pairs a.parents 0 a.nodes) ∙ e ∙ numbered_pairs b.parents 0 b.nodes in
    record {
      kinds = sym (kinds_back a) ∙ ap (map (λ (v : Values node_form). v.1.0)) values ∙ kinds_back b;
      scopes = sym (scopes_back a) ∙ ap (map (λ (v : Values node_form). v.1.1.1.0)) values ∙ scopes_back b;
      parents = sym (parents_back a ha) ∙ ap (map (λ (v : Values node_form). v.1.1.0)) values ∙ parents_back b hb;
    }

-- ---- counts

abbrev pub stats_form : Form
stats_form = word (codes " nodes ") (piece number (word (codes " scopes ") (piece number (word (codes " symbols ") (piece number (word (codes " references ") (piece number (word (codes "\n") end))))))))

abbrev pub stats_value : Tables → ℕ → Values stats_form
stats_value t count = (count, (length t.scopes, (length t.symbols, (length t.references, tt))))

counts_written : (a b c d : ℕ) (rest : List ℕ)
    → counts_text a b c d ++ rest ≡ codes " nodes " ++ (decimal a ++ (codes " scopes " ++ (decimal b ++ (codes " symbols " ++ (decimal c ++ (codes " references " ++ (decimal d ++ rest)))))))
unfolding counts_text
counts_written a b c d rest =
    append_assoc (codes " nodes " ++ decimal a ++ codes " scopes " ++ decimal b ++ codes " symbols " ++ decimal c ++ codes " references ") (decimal d) rest
    ∙ append_assoc (codes " nodes " ++ decimal a ++ codes " scopes " ++ decimal b ++ codes " symbols " ++ decimal c) (codes " references ") (decimal d ++ rest)
    ∙ append_assoc (codes " nodes " ++ decimal a ++ codes " scopes " ++ decimal b ++ codes " symbols ") (decimal c) (codes " references " ++ (decimal d ++ rest))
    ∙ append_assoc (codes " nodes " ++ decimal a ++ codes " scopes " ++ decimal b) (codes " symbols ") (decimal c ++ (codes " references " ++ (decimal d ++ rest)))
    ∙ append_assoc (codes " nodes " ++ decimal a ++ codes " scopes ") (decimal b) (codes " symbols " ++ (decimal c ++ (codes " references " ++ (decimal d ++ rest))))
    ∙ append_assoc (codes " nodes " ++ decimal a) (codes " scopes ") (decimal b ++ (codes " symbols " ++ (decimal c ++ (codes " references " ++ (decimal d ++ rest)))))
    ∙ append_assoc (codes " nodes ") (decimal a) (codes " scopes " ++ (decimal b ++ (codes " symbols " ++ (decimal c ++ (codes " references " ++ (decimal d ++ rest))))))

pub stats_written : (t : Tables) (count : ℕ) (rest : List ℕ) → stats_line count t ++ rest ≡ codes "stats" ++ written stats_form (stats_value t count) rest
unfolding stats_line
stats_written t count rest =
    concat_onto (codes "stats" ∷ table_counts count t ∷ codes "\n" ∷ []) rest ∙ ap (λ more. codes "stats" ++ more) (counts_written count (length t.scopes) (length t.symbols) (length t.references) (codes "\n" ++ rest))

pub stats_told : (t : Tables) (count : ℕ) → AreTellable t → IsWrittenWhole count → AreTold stats_form (stats_value t count)
stats_told t count h small = (small, (h.scopes_numbered, (h.symbols_numbered, (h.references_numbered, tt))))
