-- Small programs with functions that leave their blocks, and what their names mean, by computation.
use lib.Utf8.{encode}
use Rattle.std.specs.Str.{chars}
use Rattle.std.proofs.Common.{◌≡◌, [], ◌∷◌, codes, false, refl}
use Rattle.semantic_syntax.specs.declared.source_type.Goal.TheVariants as goal
use Rattle.semantic_syntax.specs.declared.source_type.Lang.TheVariants as lang
use Rattle.semantic_kinds.specs.declared.kind.AstType.TheVariants as kind
use Rattle.semantic_kinds.specs.declared.role.Role.TheVariants as role
use Rattle.semantic_tree.specs.Tree.{Tree}
use Rattle.tangle_model.specs.Tangled.{tangle_reasons}
use Rattle.language_ties.specs.Agreement.{differing}
use Rattle.language_ties.specs.Meaning.{meanings, unbound, bound}
use Rattle.language_ties.specs.Misplaced.{has_misplaced}
use Rattle.language_ties.specs.declared.environment_kind.EnvironmentKind.TheVariants.{Block, Body, Global, Parameters}
use Rattle.tangle_model.proofs.ProgramTrees.{node, program, block, defaulted, function, mention, number, parameter, reference}

-- `switch (1) { case 1: function f() {} } f`
abbrev pub in_case : Tree
in_case =
    program goal.Script lang.Js
    (node role.Body kind.SwitchStatement []
    (number role.Discriminant (codes "1")
    ∷ node role.Cases kind.SwitchCase [] (number role.Test (codes "1") ∷ function role.Consequent (codes "f") [] [] ∷ [])
    ∷ [])
    ∷ mention (codes "f")
    ∷ [])

in_case_meant : meanings in_case ≡ record { node = 10; meaning = bound (record { kind = Global; maker = 0 }) (6 ∷ []) } ∷ []
unfolding encode chars
in_case_meant = refl

in_case_f_untangled : tangle_reasons in_case (codes "f") ≡ []
unfolding encode chars
in_case_f_untangled = refl

in_case_f_well_placed : has_misplaced in_case (codes "f") ≡ false
unfolding encode chars
in_case_f_well_placed = refl

in_case_f_agrees : differing in_case (codes "f") ≡ []
unfolding encode chars
in_case_f_agrees = refl

-- `{ { function f() {} f } f } f`
abbrev pub in_two_blocks : Tree
in_two_blocks =
    program goal.Script lang.Js
    (block role.Body (block role.Body (function role.Body (codes "f") [] [] ∷ mention (codes "f") ∷ []) ∷ mention (codes "f") ∷ [])
    ∷ mention (codes "f")
    ∷ [])

-- the block between has no function, and means that of the script
in_two_blocks_meant : meanings in_two_blocks ≡ record { node = 8; meaning = bound (record { kind = Block; maker = 2 }) (4 ∷ []) } ∷ record { node = 10; meaning = bound (record { kind = Global; maker = 0 }) (4 ∷ []) } ∷ record { node = 12; meaning = bound (record { kind = Global; maker = 0 }) (4 ∷ []) } ∷ []
unfolding encode chars
in_two_blocks_meant = refl

in_two_blocks_f_agrees : differing in_two_blocks (codes "f") ≡ []
unfolding encode chars
in_two_blocks_f_agrees = refl

-- `function g(a = f) { { function f() {} } f }`
abbrev pub past_header : Tree
past_header =
    program goal.Script lang.Js
    (function role.Body (codes "g")
    (defaulted (codes "a") (reference role.Initializer (codes "f")) ∷ [])
    (block role.Body (function role.Body (codes "f") [] [] ∷ []) ∷ mention (codes "f") ∷ [])
    ∷ [])

-- the variable is the body's, which the header doesn't see
past_header_meant : meanings past_header ≡ record { node = 6; meaning = unbound } ∷ record { node = 14; meaning = bound (record { kind = Body; maker = 1 }) (10 ∷ []) } ∷ []
unfolding encode chars
past_header_meant = refl

past_header_f_untangled : tangle_reasons past_header (codes "f") ≡ []
unfolding encode chars
past_header_f_untangled = refl

past_header_f_agrees : differing past_header (codes "f") ≡ []
unfolding encode chars
past_header_f_agrees = refl

-- `function g(a, b = 1) { if (a) function f() {} f }`
abbrev pub if_in_function : Tree
if_in_function =
    program goal.Script lang.Js
    (function role.Body (codes "g")
    (parameter (codes "a") ∷ defaulted (codes "b") (number role.Initializer (codes "1")) ∷ [])
    (node role.Body kind.IfStatement [] (reference role.Test (codes "a") ∷ function role.Consequent (codes "f") [] [] ∷ [])
    ∷ mention (codes "f")
    ∷ [])
    ∷ [])

if_in_function_meant : meanings if_in_function ≡ record { node = 11; meaning = bound (record { kind = Parameters; maker = 1 }) (5 ∷ []) } ∷ record { node = 17; meaning = bound (record { kind = Body; maker = 1 }) (13 ∷ []) } ∷ []
unfolding encode chars
if_in_function_meant = refl

if_in_function_f_well_placed : has_misplaced if_in_function (codes "f") ≡ false
unfolding encode chars
if_in_function_f_well_placed = refl

if_in_function_f_agrees : differing if_in_function (codes "f") ≡ []
unfolding encode chars
if_in_function_f_agrees = refl
