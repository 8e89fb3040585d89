-- Whether code is strict by the tables where the language says so.
use Rattle.std.specs.Prelude.{◌≡◌, []}
use Rattle.semantic_syntax.specs.declared.source_type.SourceType.{SourceType}
use Rattle.semantic_tree.specs.Tree.{Tree}
use Rattle.semantic_model.specs.EachStep.{EachStep}
use Rattle.semantic_model.specs.Place as place
use Rattle.semantic_model.specs.Step.{Step, entering, opening, header_ending, closing, leaving, steps}
use Rattle.language_ties.specs.Bound.{is_strict}

-- by the scope where a node stands as by the nodes above it; the program itself stands in none
abbrev pub IsStrictAlike : SourceType → Step → Type 0
IsStrictAlike s (entering p) = (p.path ≡ [] → ⊥) → place.is_strict p.chain ≡ is_strict s p.path
IsStrictAlike s (opening p o) = Unit {0}
IsStrictAlike s (header_ending p o) = Unit {0}
IsStrictAlike s (closing p o) = Unit {0}
IsStrictAlike s (leaving p) = Unit {0}

-- at each node of the program
abbrev pub StrictnessAgrees : Tree → Type 0
StrictnessAgrees p = EachStep (IsStrictAlike p.source_type) (steps p)
