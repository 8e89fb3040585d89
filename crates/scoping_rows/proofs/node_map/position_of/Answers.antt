use Rattle.std.proofs.Common.{rules, subst}
use Rattle.std.specs.Prelude.{MatchResult}
use Rattle.std.proofs.lemmas.List.Sorted.{answers_always}
use Rattle.semantic_syntax.specs.NodeEntries.{HasNone, IsPositionOf}
use Rattle.scoping_rows.proofs.Rising.{searched}
use Rattle.scoping_rows.proofs.node_map.position_of.Goals as goal

pub returns-in-Ok : goal.returns-in-Ok
returns-in-Ok g c =
    let facts = c.binary_search_by_key.ensures in
    let by_key = facts.position (λ e. e.0) (answers_always _ _ _ (λ f a r h called. search rules)) in
    subst (λ r. MatchResult r (IsPositionOf c.args.entries.now c.args.node) (λ i. HasNone c.args.entries.now c.args.node)) c.in-Ok.is (searched c.args.entries.now c.requires c.args.node _ facts.bound by_key)

pub returns-in-Err : goal.returns-in-Err
returns-in-Err g c =
    let facts = c.binary_search_by_key.ensures in
    let by_key = facts.position (λ e. e.0) (answers_always _ _ _ (λ f a r h called. search rules)) in
    subst (λ r. MatchResult r (IsPositionOf c.args.entries.now c.args.node) (λ i. HasNone c.args.entries.now c.args.node)) c.in-Err.is (searched c.args.entries.now c.requires c.args.node _ facts.bound by_key)
