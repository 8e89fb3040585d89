use Rattle.std.proofs.Common.{ap, length, ◌<◌}
use Rattle.class_table.specs.Seen.{use_seen}
use Rattle.class_table.specs.View.{lists_of}
use Rattle.class_table.specs.Lists.{with_use}
use Rattle.semantic_syntax.proofs.Results.{on_err}
use Rattle.class_table.proofs.Pushed.{pushed, kept}
use Rattle.class_table.proofs.Sound.{within_uses}
use Rattle.class_table.proofs.table.ClassTable.add_private_identifier_reference.Goals as goal

pub returns-in_err-push-clause-err : goal.returns-in_err-push-clause-err
returns-in_err-push-clause-err c =
    on_err c.from_residual.result
    (rw (kept use_seen (λ v. v.items) c.self.inside.private_identifier_references.items c.index.result c.index_mut.result.now c.push.new.self c.index_mut.ensures.value c.in_err-push.ensures.items) c.self.view_is)

pub returns-clause-ok : goal.returns-clause-ok
returns-clause-ok c =
    let lists = lists_of c.self.inside in
    let within : c.args.c < length lists.nodes = rw (← c.self.view_is) at c.requires in
    rw (pushed use_seen (λ v. v.items) c.self.inside.private_identifier_references.items c.args.c c.index.result c.index_mut.result.now c.push.new.self c.args.reference c.index.ensures c.index_mut.ensures.value c.in_ok-push.ensures.items
    (within_uses lists c.args.c c.self.invariant.lists within))
    (ap (λ ls. with_use ls c.args.c (use_seen c.args.reference)) c.self.view_is)
