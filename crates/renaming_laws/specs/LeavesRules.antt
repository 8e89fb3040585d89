-- What a renaming leaves alone, so that the rules of early errors tell what they told.
use Rattle.std.specs.Prelude.{◌≡◌, ℕ, Bool, true, false, not, ◌&&◌}
use Rattle.semantic_syntax.specs.SourceTypes.{is_module, is_typescript}
use Rattle.semantic_syntax.specs.Tables.{Name}
use Rattle.semantic_syntax.specs.declared.source_type.SourceType.{SourceType}
use Rattle.semantic_tree.specs.Tree.{Tree}
use Rattle.semantic_model.specs.Analysis.{analysis_of}
use Rattle.rename_model.specs.Renamed.{bears_name}
use Rattle.rename_model.specs.WithName.{sheds}
use Rattle.swapped_checks.specs.RuleWords.{is_rule_word}
use Rattle.swapped_checks.specs.SwappedPrograms.{holds_within, keeps_prototype}
use Rattle.renaming_laws.specs.ImportsAtTop.{imports_at_top}
use Rattle.renaming_laws.specs.KeptSignatures.{keeps_signature}

-- a rule asks whether imports are declared again: in modules in JavaScript
abbrev pub asks_of_imports : SourceType → Bool
asks_of_imports t = not (is_typescript t) && is_module t

-- neither name is a word of the rules, and the tree has what a parser gives it: no property in short of the symbol has the key `__proto__`, no
-- signature has a parameter of the symbol beside another one of either name, and imports stand at the top where a rule asks for them
pub record LeavesRules (p : Tree) (s : ℕ) (old new : Name) : Type 0 where
  pub plain_old : is_rule_word old ≡ false
  pub plain_new : is_rule_word new ≡ false
  pub prototypes : holds_within (keeps_prototype (sheds (bears_name (analysis_of p) s))) p.root ≡ true
  pub signatures : holds_within (keeps_signature (bears_name (analysis_of p) s) old new) p.root ≡ true
  pub imports : asks_of_imports p.source_type ≡ true → imports_at_top p.root.children ≡ true
