-- Where a name is a symbol's alone, and another is used nowhere, the renamed program is told the same diagnostics.
use Rattle.std.proofs.Common.{◌≡◌, ℕ, Bool, true, false, Some, None, Ok, sym, ap, subst, ◌∙◌}
use Rattle.std.specs.Prelude.{slice_get}
use Rattle.semantic_syntax.specs.Tables.{Name, Symbol}
use Rattle.semantic_tree.specs.Faults.{first_fault}
use Rattle.semantic_tree.specs.Renamed.{swap, swapped_tree}
use Rattle.semantic_tree.specs.Tree.{Tree, IsNumbered}
use Rattle.semantic_model.specs.Analysis.{analysis_of}
use Rattle.semantic_model.specs.Exported.{exported_names}
use Rattle.semantic_model.specs.Step.{steps}
use Rattle.semantic_model.specs.TablesOf.{tables_of}
use Rattle.check_model.specs.DiagnosticsOf.{diagnostics_of}
use Rattle.rename_model.specs.Alone.{BelongsTo, IsUnused}
use Rattle.rename_model.specs.Refusal.{first_fixed, rename}
use Rattle.rename_model.specs.Renamed.{bears_name}
use Rattle.rename_model.specs.WithName.{sheds}
use Rattle.rename_model.proofs.Refusals.{ends_renamed, none_means_free}
use Rattle.swapped_checks.specs.RuleWords.{is_rule_word}
use Rattle.swapped_checks.specs.SwappedPrograms.{holds_within, is_other_string, keeps_prototype}
use Rattle.swapped_checks.specs.SwappedRows.{AreToldAgain}
use Rattle.swapped_checks.proofs.SwappedTold.{swapped_told, written_told}
use Rattle.renaming_laws.specs.WrittenOut.{written_out}
use Rattle.renaming_laws.proofs.AloneConflicts.{is_swapped}

module _ (p : Tree) (faultless : first_fault p ≡ None) (numbered : IsNumbered p.root) (s : ℕ) (y : Symbol) (there : slice_get (tables_of p).symbols s ≡ Some y) (new : Name) where
  pub alone_told : (q : Tree) (checks : Bool) → is_rule_word y.name ≡ false → is_rule_word new ≡ false → holds_within (is_other_string y.name new) p.root ≡ true → BelongsTo p s y.name → IsUnused p new → written_out p s ≡ p → rename p s new ≡ Ok q → AreToldAgain (swap y.name new) (diagnostics_of checks p) (diagnostics_of checks q)
  alone_told q checks old fresh strings alone unused written e =
      let (bad, none, same, is) = ends_renamed p s new q e in
      let free : first_fixed (exported_names (steps p)) (bears_name (analysis_of p) s) (steps p) ≡ None = none_means_free p s none in
      let swapped : q ≡ swapped_tree y.name new p = is ∙ is_swapped p faultless numbered s y there new free alone unused ∙ ap (swapped_tree y.name new) written in
      subst (λ t. AreToldAgain (swap y.name new) (diagnostics_of checks p) (diagnostics_of checks t)) (sym swapped) (swapped_told y.name new old fresh checks p faultless strings)

  -- the same where properties in short had the symbol as their value
  pub alone_told_out : (q : Tree) (checks : Bool) → is_rule_word y.name ≡ false → is_rule_word new ≡ false → holds_within (is_other_string y.name new) p.root ≡ true → BelongsTo p s y.name → IsUnused p new → holds_within (keeps_prototype (sheds (bears_name (analysis_of p) s))) p.root ≡ true → rename p s new ≡ Ok q → AreToldAgain (swap y.name new) (diagnostics_of checks p) (diagnostics_of checks q)
  alone_told_out q checks old fresh strings alone unused keeps e =
      let (bad, none, same, is) = ends_renamed p s new q e in
      let free : first_fixed (exported_names (steps p)) (bears_name (analysis_of p) s) (steps p) ≡ None = none_means_free p s none in
      let swapped : q ≡ swapped_tree y.name new (written_out p s) = is ∙ is_swapped p faultless numbered s y there new free alone unused in
      subst (λ t. AreToldAgain (swap y.name new) (diagnostics_of checks p) (diagnostics_of checks t)) (sym swapped) (written_told y.name new (sheds (bears_name (analysis_of p) s)) old fresh checks p faultless strings keeps)
