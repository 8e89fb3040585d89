-- What renamings of small programs keep, and what they don't, by computation.
use Rattle.std.proofs.Common.{◌≡◌, List, [], ◌∷◌, Ok, true, codes, map, length, refl}
use Rattle.semantic_kinds.specs.MarkSets.{no_marks}
use Rattle.semantic_syntax.specs.Tables.{Name}
use Rattle.semantic_tree.specs.Tree.{Tree}
use Rattle.semantic_model.specs.Step.{steps}
use Rattle.semantic_model.specs.Namespace.{non_instantiated, instantiated}
use Rattle.semantic_model.specs.NamespaceStates.{namespace_states}
use Rattle.check_model.specs.DiagnosticsOf.{diagnostics_of}
use Rattle.program_laws.specs.SameAnalysis.{conflicts_of}
use Rattle.rename_model.specs.Refusal.{rename}
use Rattle.rename_model.proofs.Programs.{in_object, shorthand}
use Rattle.renaming_laws.specs.WrittenOut.{written_out}
use Rattle.renaming_laws.proofs.Programs.{once, twice, shadowing, passing, reaching}

abbrev names_told : Tree → List Name
names_told p = map (λ c. c.name) (conflicts_of p)

-- the conflict stays, with the new name
conflict_before : names_told (twice (codes "x")) ≡ codes "x" ∷ []
conflict_before = refl

is_renamed : rename (twice (codes "x")) 0 (codes "y") ≡ Ok (twice (codes "y"))
is_renamed = refl

conflict_after : names_told (twice (codes "y")) ≡ codes "y" ∷ []
conflict_after = refl

-- another symbol of the old name keeps its own, and what is told of it
is_renamed_inside : rename (shadowing (codes "x")) 1 (codes "y") ≡ Ok (shadowing (codes "y"))
is_renamed_inside = refl

told_outside : diagnostics_of true (shadowing (codes "y")) ≡ diagnostics_of true (shadowing (codes "x"))
told_outside = refl

-- a `var` that passes the scope of a type no longer finds its symbol on its way, and gives it its flags
keeps_ties : rename (passing (codes "x")) 1 (codes "n") ≡ Ok (passing (codes "n"))
keeps_ties = refl

none_before : names_told (passing (codes "x")) ≡ []
none_before = refl

one_after : names_told (passing (codes "n")) ≡ codes "n" ∷ []
one_after = refl

-- a namespace that exports a parameter reaches a type by its new name
keeps_reaching_ties : rename (reaching (codes "x")) 2 (codes "n") ≡ Ok (reaching (codes "n"))
keeps_reaching_ties = refl

states_before : namespace_states (steps (reaching (codes "x"))) ≡ instantiated ∷ []
states_before = refl

states_after : namespace_states (steps (reaching (codes "n"))) ≡ non_instantiated ∷ []
states_after = refl

one_before : names_told (reaching (codes "x")) ≡ codes "N" ∷ []
one_before = refl

none_after : names_told (reaching (codes "n")) ≡ []
none_after = refl

-- the mark `shorthand` doesn't come back
goes : rename (in_object (codes "a") shorthand) 0 (codes "b") ≡ Ok (in_object (codes "b") no_marks)
goes = refl

comes_back : rename (in_object (codes "b") no_marks) 0 (codes "a") ≡ Ok (in_object (codes "a") no_marks)
comes_back = refl

is_written_out : written_out (in_object (codes "a") shorthand) 0 ≡ in_object (codes "a") no_marks
is_written_out = refl

-- a name for which a rule asks breaks it: `await` in a module
is_taken : rename (once (codes "x")) 0 (codes "await") ≡ Ok (once (codes "await"))
is_taken = refl

unasked : diagnostics_of true (once (codes "x")) ≡ []
unasked = refl

asked : length (diagnostics_of true (once (codes "await"))) ≡ 1
asked = refl
