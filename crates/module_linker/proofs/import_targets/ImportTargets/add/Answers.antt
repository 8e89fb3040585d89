use Rattle.std.proofs.Common.{◌≡◌, List, ℕ, ap, subst, ◌∙◌, Some}
use Rattle.std.specs.Str.{chars}
use Rattle.link_model.specs.Imports.{Wanted}
use Rattle.link_model.specs.Leads.{symbol_of_name, wanted_end}
use Rattle.link_targets.specs.Denoted.{denoted}
use Rattle.module_entries.specs.Views.{shown_import}
use Rattle.module_linker.specs.AnalysedIn.{ties_in}
use Rattle.module_linker.specs.ImportsLead.{with_bound}
use Rattle.module_linker.proofs.import_targets.ImportTargets.add.Goals as goal

pub returns-clause-added : goal.returns-clause-added
returns-clause-added c =
    let texts : List (List ℕ) = c.wanted_target.new.texts in
    let target = c.in_ok-target.target in
    record {
      target = target;
      stands = subst (λ (s : List ℕ). denoted texts target ≡ Some (wanted_end c.args.names.now s (shown_import c.args.import.now).wanted)) c.source.ensures
          (subst (λ (w : Wanted). denoted texts target ≡ Some (wanted_end c.args.names.now (chars c.source.result.now) w)) c.wanted.ensures c.in_ok-target.ensures.stands);
      targets = c.in_ok-push.ensures.targets;
      bound = c.in_ok-push.ensures.bound ∙ ap (λ o. with_bound c.args.self.now.bound.items o target) (c.symbol_of_name.ensures ∙ ap (symbol_of_name (ties_in c.args.analysed.now)) c.local.ensures);
    }
