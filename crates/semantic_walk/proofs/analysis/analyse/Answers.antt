use Rattle.std.proofs.Common.{◌≡◌, Bool, Result, Ok, List, OnOk, subst, sym, ◌∙◌}
use Rattle.semantic_syntax.specs.Tables.{Tables}
use Rattle.semantic_syntax.specs.NodeEntries.{NodeEntries}
use Rattle.semantic_diagnostics.specs.declared.diagnostic.Diagnostic.{Diagnostic}
use Rattle.promise.specs.Analysis.{IsAnalysis, BelongsToNodes}
use Rattle.semantic_walk.proofs.analysis.analyse.Goals as goal

on_done : {X E : Type 0} (r : Result X E) (x : X) (P : Type 0) → r ≡ Ok x → OnOk r P → P
on_done r x P e h = subst (λ s. OnOk s P) e h

pub run-requires : goal.run-requires
run-requires g c = record { first = c.in_ok-walk.ensures.begins; names = c.in_ok-walk.ensures.names; states = c.in_ok-walk.ensures.states }

pub returns-in-Ok-clause-analysis : goal.returns-in-Ok-clause-analysis
returns-in-Ok-clause-analysis g c =
    let checks : Bool = c.args.settings.checks in
    subst (λ (t : Tables). IsAnalysis checks c.args.program.now t c.finish.result.diagnostics) (sym c.finish.ensures.scoping)
    (subst (λ (ds : List Diagnostic). IsAnalysis checks c.args.program.now c.run.new.walk.made.tables ds) (sym c.finish.ensures.diagnostics)
    (on_done c.run.result _ _ c.in-Ok.is c.run.ensures.analysis))

pub returns-in-Ok-clause-nodes : goal.returns-in-Ok-clause-nodes
returns-in-Ok-clause-nodes g c =
    subst (λ (nodes : NodeEntries). BelongsToNodes c.args.program.now nodes) (sym c.finish.ensures.tables)
    (on_done c.run.result _ _ c.in-Ok.is c.run.ensures.nodes)

pub returns-in-Ok-clause-node_list : goal.returns-in-Ok-clause-node_list
returns-in-Ok-clause-node_list g c =
    c.finish.ensures.node_list
    ∙ on_done c.run.result _ _ c.in-Ok.is c.run.ensures.node_list

pub returns-in-Ok-clause-classes : goal.returns-in-Ok-clause-classes
returns-in-Ok-clause-classes g c =
    c.finish.ensures.classes
    ∙ on_done c.run.result _ _ c.in-Ok.is c.run.ensures.classes

pub returns-in-Ok-clause-labels : goal.returns-in-Ok-clause-labels
returns-in-Ok-clause-labels g c =
    c.finish.ensures.labels
    ∙ on_done c.run.result _ _ c.in-Ok.is c.run.ensures.labels
