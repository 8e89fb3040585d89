use Rattle.std.proofs.Common.{◌≡◌, List, ap, map, subst, ◌∙◌, nat_eq}
use Rattle.std.specs.Map.{lookup}
use Rattle.indexmap.specs.IndexMap.{get}
use Rattle.link_model.specs.Imports.{Import, imports}
use Rattle.link_model.specs.Leads.{import_end}
use Rattle.link_targets.specs.Denoted.{AreDenoted}
use Rattle.link_targets.proofs.Growth.{all_stay}
use Rattle.module_entries.specs.Views.{shown_import}
use Rattle.module_linker.specs.AnalysedIn.{analysed_in, ties_in}
use Rattle.module_linker.specs.ImportsLead.{ImportsLead}
use Rattle.module_linker.proofs.ImportSteps.{leads_by}
use Rattle.module_linker.proofs.module_targets.entry_targets.Goals as goal

pub returns-clause-targets : goal.returns-clause-targets
returns-clause-targets c =
    let ts = c.in_ok-targets.field-0.targets.items in
    all_stay c.import_targets.new.texts c.exports_of.new.texts c.in_ok-exports.ensures.grows ts (map (import_end c.args.names.now) (imports (analysed_in c.args.analysed.now)))
    (subst (λ (is : List Import). AreDenoted c.import_targets.new.texts ts (map (import_end c.args.names.now) is)) (ap (map shown_import) c.as_slice-imports.ensures.value ∙ c.requires.imports) c.in_ok-targets.ensures.targets)

pub exports_of-requires-clause-leads : goal.exports_of-requires-clause-leads
exports_of-requires-clause-leads c =
    let x = c.args.analysed.now in
    let bound = c.in_ok-targets.field-0.bound.items in
    let texts = c.import_targets.new.texts in
    leads_by c.args.names.now texts (ties_in x) (imports (analysed_in x)) (λ s. lookup (nat_eq s) bound) (get nat_eq c.in_ok-imported.imported)
    (λ s. c.in_ok-imported.ensures s ∙ ap (lookup (nat_eq s)) c.as_slice.ensures.value)
    (subst (λ (is : List Import). ImportsLead c.args.names.now texts (ties_in x) is (λ s. lookup (nat_eq s) bound)) (ap (map shown_import) c.as_slice-imports.ensures.value ∙ c.requires.imports) c.in_ok-targets.ensures.bound)
