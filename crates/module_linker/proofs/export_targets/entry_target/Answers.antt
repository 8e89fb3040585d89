use Rattle.std.proofs.Common.{◌≡◌, ap, subst, ◌∙◌, Some}
use Rattle.link_model.specs.Exports.{Exported}
use Rattle.link_model.specs.Imports.{imports}
use Rattle.link_model.specs.Leads.{exported_ends}
use Rattle.link_search.specs.Exports.{if_any}
use Rattle.link_targets.specs.Denoted.{AreDenoted}
use Rattle.link_targets.proofs.Growth.{all_stay}
use Rattle.module_entries.specs.Views.{shown_export}
use Rattle.module_linker.specs.AnalysedIn.{analysed_in, ties_in}
use Rattle.module_linker.proofs.export_targets.entry_target.Goals as goal

pub returns-clause-stands : goal.returns-clause-stands
returns-clause-stands c =
    let x = c.args.scope.now.analysed.now in
    let ends : Exported → _ = exported_ends c.args.names.now x.number (ties_in x) (imports (analysed_in x)) in
    record {
      name = c.in_ok-name.ensures.number ∙ ap (λ n. Some n) c.name.ensures;
      stands = all_stay c.export_target.new.texts c.number_of.new.self c.in_ok-name.ensures.grows (if_any c.in_ok-target.target) (ends (shown_export c.args.export.now).what)
          (subst (λ (w : Exported). AreDenoted c.export_target.new.texts (if_any c.in_ok-target.target) (ends w)) c.way.ensures c.in_ok-target.ensures.stands);
    }
