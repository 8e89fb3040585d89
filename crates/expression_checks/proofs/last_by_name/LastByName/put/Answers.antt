use Rattle.std.proofs.Common.{map, ap, ◌∙◌}
use Rattle.class_table.specs.Seen.{element_seen}
use Rattle.expression_checks.specs.Entries.{entry_seen}
use Rattle.expression_checks.specs.Predecessors.{with_last_element}
use Rattle.expression_checks.proofs.SpelledNames.{insert_named, insert_spelled}
use Rattle.expression_checks.proofs.last_by_name.LastByName.put.Goals as goal

pub invariant_of-self-2 : goal.invariant_of-self-2
invariant_of-self-2 c =
    rw c.in_ok-insert.ensures.entries (insert_spelled c.as_str-name.result c.args.element c.spell.ensures c.self.inside.elements.entries c.self.invariant)

pub returns-clause-ok : goal.returns-clause-ok
returns-clause-ok c =
    ap (map entry_seen) c.in_ok-insert.ensures.entries
    ∙ insert_named c.as_str-name.result c.args.element c.spell.ensures c.as_str-name.ensures c.self.inside.elements.entries c.self.invariant
    ∙ ap (λ es. with_last_element es (element_seen c.args.element.now)) c.self.view_is
