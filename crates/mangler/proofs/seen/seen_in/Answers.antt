use Rattle.std.proofs.Common.{subst, ap, ◌∙◌}
use Rattle.std.specs.List.{list_any}
use Rattle.semantic_model.specs.Analysis.{Analysis}
use Rattle.semantic_model.specs.Exported.{exported_names}
use Rattle.semantic_model.specs.Step.{steps}
use Rattle.rename_model.specs.Renamed.{bears_name}
use Rattle.mangle_model.specs.MayMangle.{fixes_symbol}
use Rattle.mangler.specs.Withs.{EndsWith}
use Rattle.mangler.proofs.seen.seen_in.Goals as goal

pub returns : goal.returns
returns c = record {
  withs = subst (λ (a : Analysis). EndsWith a.tables.scopes c.end_of_withs.result) c.requires c.end_of_withs.ensures;
  predicates = c.in_ok-predicates.ensures;
  fixed = λ s. c.in_ok-fixed.ensures s ∙ ap (λ (a : Analysis). list_any (fixes_symbol (exported_names (steps c.args.program.now)) (bears_name a s)) (steps c.args.program.now)) c.requires;
}
