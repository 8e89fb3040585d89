-- Names that are pushed one after the other.
use Rattle.std.proofs.Common.{◌≡◌, ℕ, ◌+◌, ◌<◌, List, [], ◌∷◌, ◌++◌, true, false, cond, length, drop, get_or, map, sym, ap, ◌∙◌}
use Rattle.std.proofs.lemmas.List.{append_assoc}
use Rattle.semantic_syntax.proofs.Truth.{drop_here}
use Rattle.semantic_kinds.specs.declared.role.Role.{Role}
use Rattle.semantic_tree.specs.Children.{forest_of}
use Rattle.semantic_tree.specs.declared.node.Node.{Node}
use Rattle.semantic_model.specs.Names.{bound_names}
use Rattle.semantic_queries.specs.declared.node_symbols.exports.Export.{Export}
use Rattle.semantic_queries.specs.Given.{gives, names_given, given_below, given_from}

-- what is pushed goes from the names that are left to those that are there
pub turns : (now next here before left all : List ℕ) → next ≡ now ++ here → before ≡ here ++ left → now ++ before ≡ all → next ++ left ≡ all
turns now next here before left all pushed cut h = ap (λ xs. xs ++ left) pushed ∙ append_assoc now here left ∙ ap (λ xs. now ++ xs) (sym cut) ∙ h

abbrev pub ids : List Node → List ℕ
ids nodes = map (λ x. x.node_id) nodes

pub given_turn : (e : Export) (items : List (Role × Node)) (i : ℕ) (child : Role × Node) → i < length items → child ≡ get_or items i child
    → given_below e (forest_of (drop i items)) ≡ given_from e child.1 ++ given_below e (forest_of (drop (i + 1) items))
given_turn e items i child h is = ap (λ xs. given_below e (forest_of xs)) (drop_here items i child h is)

-- a declaration that gives its names, and one that doesn't
pub declared_turn : (e : Export) (d : Node) (ds : List Node) → gives e d ≡ true → names_given e (d ∷ ds) ≡ ids (bound_names d) ++ names_given e ds
declared_turn e d ds g = ap (λ b. cond b (ids (bound_names d)) [] ++ names_given e ds) g

pub undeclared_turn : (e : Export) (d : Node) (ds : List Node) → gives e d ≡ false → names_given e (d ∷ ds) ≡ names_given e ds
undeclared_turn e d ds g = ap (λ b. cond b (ids (bound_names d)) [] ++ names_given e ds) g
