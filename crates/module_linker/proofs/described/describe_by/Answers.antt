use Rattle.std.proofs.Common.{◌≡◌, List, ap, subst, ◌∙◌, Some}
use Rattle.std.specs.Prelude.{codes}
use Rattle.link_model.specs.Module.{all_analysed}
use Rattle.module_entries.specs.Names.{names_of}
use Rattle.module_linker.specs.SetTold.{AreSetTargets}
use Rattle.module_linker.proofs.described.describe_by.Goals as goal

pub returns : goal.returns
returns c =
    let modules = c.args.modules.now in
    let texts = c.set_targets.new.texts in
    let told : AreSetTargets (names_of modules) texts modules c.in_ok-made.made = subst (λ names. AreSetTargets names texts modules c.in_ok-made.made) c.requires.named c.in_ok-made.ensures.made in
    record {
      texts = texts;
      apart = c.are_apart.ensures;
      exports = record {
        modules = told.exports;
        many = c.len.ensures;
        default_there = c.in_ok-made.ensures.grows.extends c.in_ok-default_name.default_name (codes "default") (c.in_ok-default_name.ensures.number ∙ ap (λ n. Some n) c.default_name.ensures);
      };
      places = told.places;
      targets = told.targets;
    }
