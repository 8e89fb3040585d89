-- The last node of each name, once one more is noted.
use Rattle.std.proofs.Common.{◌≡◌, ℕ, List, [], ◌∷◌, ◌++◌, Bool, true, false, Option, Some, None, cond, if◌then◌else◌, option_map, refl, sym, ap, ◌∙◌}
use Rattle.std.specs.Borrow.{Bor}
use Rattle.std.specs.HashMap.{HashMap, get_by, UpdatesBy}
use Rattle.std.specs.List.{find}
use Rattle.std.specs.Str.{chars, bytes_eq, IsUtf8}
use Rattle.std.proofs.lemmas.List.{reverse-append}
use Rattle.std.proofs.lemmas.Map.Text.{hash_map_updates_str}
use Rattle.semantic_syntax.specs.declared.spans.Span.{Span}
use Rattle.semantic_tree.specs.declared.node.Node.{Node}
use Rattle.semantic_syntax.proofs.SameTexts.{same_texts}
use Rattle.semantic_diagnostics.specs.Names.{redeclaration}
use Rattle.check_model.specs.Methods.{repeated_rows}
use Rattle.check_model.specs.Search.{find_last, rows_of_some}
use Rattle.type_checks.specs.Repeats.{last_span_of, last_span, rows_after, HasLast}

-- the last of a name, once one more node stands at the end
by_text : (b : Bool) (node : Node) (rest : Option Node) → option_map (λ (n : Node). n.span) (if b then Some node else rest) ≡ cond b (Some node.span) (option_map (λ n. n.span) rest)
by_text true node rest = refl
by_text false node rest = refl

last_of_more : (earlier : List Node) (node : Node) (text : List ℕ) → last_span_of (earlier ++ node ∷ []) text ≡ cond (bytes_eq node.text text) (Some node.span) (last_span_of earlier text)
last_of_more earlier node text =
    ap (λ l. option_map (λ (n : Node). n.span) (find (λ other. bytes_eq other.text text) l)) (reverse-append earlier (node ∷ []))
    ∙ by_text (bytes_eq node.text text) node (find_last (λ other. bytes_eq other.text text) earlier)

module _ {S : Type 0} (seen : HashMap (Bor (List ℕ)) Span S) where
  -- what the map has of a name
  pub seen_before : (earlier : List Node) (node : Node) (name : List ℕ) → HasLast earlier seen → IsUtf8 name → chars name ≡ node.text → get_by (λ key. bytes_eq name key.now) seen ≡ last_span earlier node
  seen_before earlier node name h u is = h.spans name u ∙ ap (last_span_of earlier) is

  -- the map after one more node is noted
  pub seen_more : (after : HashMap (Bor (List ℕ)) Span S) (earlier : List Node) (node : Node) (name : List ℕ) → HasLast earlier seen → IsUtf8 name → chars name ≡ node.text
      → UpdatesBy (λ x y. bytes_eq x.now y.now) (λ key. bytes_eq name key.now) seen after (Some node.span) → HasLast (earlier ++ node ∷ []) after
  seen_more after earlier node name h u is updates = record {
    spans = λ other v.
        hash_map_updates_str name seen after (Some node.span) updates other
        ∙ ap (λ b. cond b (Some node.span) (get_by (λ key. bytes_eq other key.now) seen)) (sym (same_texts name other u v) ∙ ap (λ text. bytes_eq text (chars other)) is)
        ∙ ap (cond (bytes_eq node.text (chars other)) (Some node.span)) (h.spans other v)
        ∙ sym (last_of_more earlier node (chars other));
  }

-- the rows of a name are those by where it stood before
rows_by : (found : Option Node) (node : Node) → rows_after (option_map (λ (n : Node). n.span) found) node ≡ rows_of_some (λ same. redeclaration node.text same.span node.span ∷ []) found
rows_by None node = refl
rows_by (Some same) node = refl

pub rows_are_after : (earlier : List Node) (node : Node) → rows_after (last_span earlier node) node ≡ repeated_rows earlier node
rows_are_after earlier node = rows_by (find_last (λ other. bytes_eq other.text node.text) earlier) node
