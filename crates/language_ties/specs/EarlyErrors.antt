-- The early error that a variable passes what is declared lexically (ECMA-262, 14.2.1, 14.7.4.1, 14.12.1, 14.15.1 with B.3.4, 15.2.1, 16.1.1).
use Rattle.std.specs.Prelude.{List, [], ◌∷◌, ◌++◌, Bool, ◌&&◌, bytes_eq}
use Rattle.std.specs.List.{list_any}
use Rattle.semantic_syntax.specs.Tables.{Name}
use Rattle.semantic_tree.specs.Tree.{Tree}
use Rattle.language_ties.specs.Bound.{Bound, is_bound_as}
use Rattle.language_ties.specs.Moved.{is_lexical_in, bound_of}
use Rattle.language_ties.specs.declared.bound_as.BoundAs.TheVariants as bound

-- whether a declaration of the name is lexical in an environment that the variable passes, or in its own
abbrev pub meets_lexical : Bound → Bound → Bool
meets_lexical b c = bytes_eq c.name b.name && list_any (λ e. is_lexical_in e c) (b.passed ++ b.environment ∷ [])

abbrev pub clashes : List Bound → Name → Bound → Bool
clashes bs name b = is_bound_as bound.Var b && bytes_eq b.name name && list_any (meets_lexical b) bs

-- whether a variable of the name does so
abbrev pub has_clash : Tree → Name → Bool
has_clash p name = let bs : List Bound = bound_of p in list_any (clashes bs name) bs
