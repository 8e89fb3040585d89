-- The names that are written agree with the declarations past which a block function doesn't move.
use Rattle.std.specs.Prelude.{◌≡◌, List, [], ◌∷◌, true}
use Rattle.std.specs.List.{AllByRecursion}
use Rattle.semantic_model.specs.Place.{OpenScope}
use Rattle.semantic_model.specs.Declaration.{Declaration}
use Rattle.semantic_model.specs.Step.{Step, entering, opening, header_ending, closing, leaving}
use Rattle.semantic_model.specs.Event.{any_bars}
use Rattle.semantic_model.specs.Binder.{is_block_function}
use Rattle.walk_model.specs.WrittenNames.{WrittenName, is_written}

-- in the scope, the names that are written are those of the declarations past which a block function doesn't move
abbrev pub IsNamedIn : List Declaration → List WrittenName → OpenScope → Type 0
IsNamedIn ds ws c = (d : Declaration) → any_bars d c ds ≡ is_written ws c.opener d.naming.name

abbrev pub AreNamedIn : List Declaration → List WrittenName → List OpenScope → Type 0
AreNamedIn ds ws chain = AllByRecursion (IsNamedIn ds ws) chain

-- so it is in all scopes where a function stands that may move
abbrev pub IsStepNamed : List Declaration → List WrittenName → Step → Type 0
IsStepNamed ds ws (entering p) = is_block_function p ≡ true → AreNamedIn ds ws p.chain
IsStepNamed ds ws (opening p s) = Unit {0}
IsStepNamed ds ws (header_ending p s) = Unit {0}
IsStepNamed ds ws (closing p s) = Unit {0}
IsStepNamed ds ws (leaving p) = Unit {0}

abbrev pub AllNamed : List Declaration → List WrittenName → List Step → Type 0
AllNamed ds ws [] = Unit {0}
AllNamed ds ws (step ∷ more) = IsStepNamed ds ws step × AllNamed ds ws more
