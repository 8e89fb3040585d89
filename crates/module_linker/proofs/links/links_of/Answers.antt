use Rattle.std.proofs.Common.{List, length, subst, sym}
use Rattle.link_model.specs.Module.{all_analysed}
use Rattle.link_model.specs.Outcome.{AreLinks, all_imports}
use Rattle.link_search.specs.Targets.{AreTargetsWithin}
use Rattle.link_search.specs.declared.target.Target.{Target}
use Rattle.module_set.specs.declared.modules.Module.{Module}
use Rattle.module_linker.proofs.Ending.{stays, wanted_within, linked}
use Rattle.module_linker.proofs.links.links_of.Goals as goal

pub found_all-requires-clause-exports : goal.found_all-requires-clause-exports
found_all-requires-clause-exports c =
    let d = c.in_ok-made.ensures in
    λ p q i. stays d.texts d.apart c.as_slice.result.now c.in_ok-made.made.exports d.exports p q i

pub found_all-requires-clause-wanted : goal.found_all-requires-clause-wanted
found_all-requires-clause-wanted c =
    let d = c.in_ok-made.ensures in
    let s = c.in_ok-made.made.exports in
    let modules = c.as_slice.result.now in
    subst (λ (ts : List Target). AreTargetsWithin (length s.modules.items) s.names ts) (sym c.as_slice-targets.ensures.value)
    (wanted_within d.texts d.apart modules s d.exports (all_imports (all_analysed modules)) c.in_ok-made.made.targets.items d.targets)

pub returns : goal.returns
returns c =
    subst (λ (ms : List Module). AreLinks ms c.in_ok-links.links.items) c.as_slice.ensures.list
    (linked c.as_slice.result.now c.in_ok-made.made c.in_ok-made.ensures c.as_slice-targets.result.now c.as_slice-places.result.now c.in_ok-found.found.items c.as_slice-2.result.now c.in_ok-links.links.items
    c.as_slice-targets.ensures.value c.as_slice-places.ensures.value c.as_slice-2.ensures.value c.in_ok-found.ensures c.in_ok-links.ensures)
