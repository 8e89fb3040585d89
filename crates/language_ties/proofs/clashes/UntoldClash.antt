-- A clash that no rule tells, of a name that isn't tangled, and where tables and language part.
use lib.Utf8.{encode}
use Rattle.std.specs.Str.{chars}
use Rattle.std.proofs.Common.{◌≡◌, [], ◌∷◌, codes, true, None, refl}
use Rattle.semantic_syntax.specs.declared.source_type.Goal.TheVariants as goal
use Rattle.semantic_syntax.specs.declared.source_type.Lang.TheVariants as lang
use Rattle.semantic_kinds.specs.declared.kind.AstType.TheVariants as kind
use Rattle.semantic_kinds.specs.declared.role.Role.TheVariants as role
use Rattle.semantic_kinds.specs.declared.mark.Mark.TheVariants as mark
use Rattle.semantic_tree.specs.Faults.{first_fault}
use Rattle.semantic_tree.specs.Forest.{Forest}
use Rattle.semantic_tree.specs.Tree.{Tree}
use Rattle.semantic_model.specs.Event.{events}
use Rattle.semantic_model.specs.Fold.{start}
use Rattle.semantic_model.specs.Hoist.{run}
use Rattle.semantic_model.specs.Step.{steps}
use Rattle.tangle_model.specs.Tangled.{tangle_reasons}
use Rattle.language_ties.specs.Agreement.{differing}
use Rattle.language_ties.specs.EarlyErrors.{has_clash}
use Rattle.language_ties.specs.Meaning.{meanings, bound}
use Rattle.language_ties.specs.declared.environment_kind.EnvironmentKind.TheVariants.{Global}
use Rattle.tangle_model.proofs.ProgramTrees.{marked, node, program, binding, block, declared, function_parts, mention}

-- `{ async function f() {} var [f, f] = [] }`
abbrev block_with_pattern : Forest
block_with_pattern =
    block role.Body
    (marked (mark.Async ∷ []) role.Body kind.Function (codes "declaration") (function_parts (codes "f") [] [])
    ∷ declared role.Body (codes "var")
    (node role.Id kind.ArrayPattern [] (binding role.Elements (codes "f") ∷ binding role.Elements (codes "f") ∷ [])
    ∷ node role.Init kind.ArrayExpression [] []
    ∷ [])
    ∷ [])

-- twice, and `f` behind it
abbrev pub pattern_twice : Tree
pattern_twice = program goal.Script lang.Js (block_with_pattern ∷ block_with_pattern ∷ mention (codes "f") ∷ [])

pattern_twice_faultless : first_fault pattern_twice ≡ None
unfolding encode chars
pattern_twice_faultless = refl

pattern_twice_f_untangled : tangle_reasons pattern_twice (codes "f") ≡ []
unfolding encode chars
pattern_twice_f_untangled = refl

-- the tables tell no conflict, nor does a rule of early errors where the declaration before the last is a `var`
pattern_twice_told : (run start (events (steps pattern_twice))).conflicts ≡ []
unfolding encode chars
pattern_twice_told = refl

pattern_twice_clashes : has_clash pattern_twice (codes "f") ≡ true
unfolding encode chars
pattern_twice_clashes = refl

pattern_twice_meant : meanings pattern_twice ≡ record { node = 24; meaning = bound (record { kind = Global; maker = 0 }) (9 ∷ 10 ∷ 20 ∷ 21 ∷ []) } ∷ []
unfolding encode chars
pattern_twice_meant = refl

-- the variable has the symbols of both functions
pattern_twice_f_differs : differing pattern_twice (codes "f") ≡ 24 ∷ []
unfolding encode chars
pattern_twice_f_differs = refl
