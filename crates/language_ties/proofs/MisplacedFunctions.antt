-- Functions where no grammar has them: trees without a fault that are no programs, and where tables and language part although the name is not tangled.
use lib.Utf8.{encode}
use Rattle.std.specs.Str.{chars}
use Rattle.std.proofs.Common.{◌≡◌, [], ◌∷◌, codes, true, false, None, refl}
use Rattle.semantic_syntax.specs.declared.source_type.Goal.TheVariants as goal
use Rattle.semantic_syntax.specs.declared.source_type.Lang.TheVariants as lang
use Rattle.semantic_kinds.specs.declared.kind.AstType.TheVariants as kind
use Rattle.semantic_kinds.specs.declared.role.Role.TheVariants as role
use Rattle.semantic_tree.specs.Faults.{first_fault}
use Rattle.semantic_tree.specs.Tree.{Tree}
use Rattle.tangle_model.specs.Tangled.{tangle_reasons}
use Rattle.language_ties.specs.Agreement.{differing}
use Rattle.language_ties.specs.EarlyErrors.{has_clash}
use Rattle.language_ties.specs.Meaning.{meanings, unbound, bound}
use Rattle.language_ties.specs.Misplaced.{has_misplaced}
use Rattle.language_ties.specs.declared.environment_kind.EnvironmentKind.TheVariants.{Global, IfBody}
use Rattle.tangle_model.proofs.ProgramTrees.{node, program, function, mention, number, variable}

-- `var f; for (;;) function f() {} f`: a function as the body of a loop (an early error, ECMA-262, 14.7)
abbrev pub under_loop : Tree
under_loop =
    program goal.Script lang.Js
    (variable (codes "var") (codes "f") ∷ node role.Body kind.ForStatement [] (function role.Body (codes "f") [] [] ∷ []) ∷ mention (codes "f") ∷ [])

under_loop_faultless : first_fault under_loop ≡ None
unfolding encode chars
under_loop_faultless = refl

under_loop_f_untangled : tangle_reasons under_loop (codes "f") ≡ []
unfolding encode chars
under_loop_f_untangled = refl

under_loop_without_clash : has_clash under_loop (codes "f") ≡ false
unfolding encode chars
under_loop_without_clash = refl

under_loop_f_misplaced : has_misplaced under_loop (codes "f") ≡ true
unfolding encode chars
under_loop_f_misplaced = refl

-- the script binds the `var` and the variable of the function, which the tables leave in the loop
under_loop_meant : meanings under_loop ≡ record { node = 10; meaning = bound (record { kind = Global; maker = 0 }) (3 ∷ 6 ∷ []) } ∷ []
unfolding encode chars
under_loop_meant = refl

under_loop_f_differs : differing under_loop (codes "f") ≡ 10 ∷ []
unfolding encode chars
under_loop_f_differs = refl

-- `if (1) function f() { f } f` in a module: a function as the body of an `if` in strict code (an early error, B.3.3)
abbrev pub strict_if : Tree
strict_if =
    program goal.Module lang.Js
    (node role.Body kind.IfStatement [] (number role.Test (codes "1") ∷ function role.Consequent (codes "f") [] (mention (codes "f") ∷ []) ∷ [])
    ∷ mention (codes "f")
    ∷ [])

strict_if_faultless : first_fault strict_if ≡ None
unfolding encode chars
strict_if_faultless = refl

strict_if_f_untangled : tangle_reasons strict_if (codes "f") ≡ []
unfolding encode chars
strict_if_f_untangled = refl

strict_if_without_clash : has_clash strict_if (codes "f") ≡ false
unfolding encode chars
strict_if_without_clash = refl

strict_if_f_misplaced : has_misplaced strict_if (codes "f") ≡ true
unfolding encode chars
strict_if_f_misplaced = refl

-- nothing binds the last name, which the tables tie to the function
strict_if_meant : meanings strict_if ≡ record { node = 8; meaning = bound (record { kind = IfBody; maker = 3 }) (4 ∷ []) } ∷ record { node = 10; meaning = unbound } ∷ []
unfolding encode chars
strict_if_meant = refl

strict_if_f_differs : differing strict_if (codes "f") ≡ 10 ∷ []
unfolding encode chars
strict_if_f_differs = refl
