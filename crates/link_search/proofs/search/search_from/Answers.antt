use Rattle.std.proofs.Common.{◌<◌, length, ap, sym, subst, ◌∙◌, arith}
use Rattle.std.proofs.lemmas.List.{length-map}
use Rattle.reachability.specs.Rows.{lists}
use Rattle.link_search.specs.Graph.{AreRowsOf}
use Rattle.link_search.specs.Ends.{EndsAreNumbered, ends_from}
use Rattle.link_search.proofs.Numbers.{ends_fit}
use Rattle.link_search.proofs.Searched.{ends_below, searched}
use Rattle.link_search.proofs.Ties.{names_of}
use Rattle.link_search.proofs.search.search_from.Goals as goal

pub ends_of-requires : goal.ends_of-requires
ends_of-requires c =
    let keys = ap length c.as_slice.ensures.keys in
    let many = c.in_ok-graph.ensures.rows.many in
    let rows = length-map c.in_ok-graph.graph.rows.items (λ v. v.items) in
    let same = ap length c.as_slice-rows.ensures.value in
    omega (arith, keys, many, rows, same, c.if-rows.false)

pub reached_terminals-requires-clause-ends : goal.reached_terminals-requires-clause-ends
reached_terminals-requires-clause-ends c =
    let keys = c.in_ok-graph.graph.pairs.keys in
    let numbered = subst (EndsAreNumbered c.numbered.new.terminals.keys c.in_ok-ends.ends.items) (c.as_slice-2.ensures.value ∙ c.in_ok-met.ensures ∙ ap (ends_from c.args.exports.now 0) c.as_slice.ensures.keys) c.in_ok-ends.ensures.numbers in
    ends_fit keys c.in_ok-ends.ends.items c.as_slice-3.result.now c.in_ok-graph.graph.rows.items c.as_slice-rows.result.now
    (ends_below c.args.exports.now keys c.numbered.new.terminals.keys c.in_ok-ends.ends.items numbered)
    c.in_ok-graph.ensures.rows.many c.as_slice-rows.ensures.value c.as_slice-3.ensures.value

pub returns : goal.returns
returns c =
    let exports = c.args.exports.now in
    let keys = c.in_ok-graph.graph.pairs.keys in
    let terminals = c.numbered.new.terminals.keys in
    let rows = lists c.as_slice-rows.result.now in
    let numbered = subst (EndsAreNumbered terminals c.in_ok-ends.ends.items) (c.as_slice-2.ensures.value ∙ c.in_ok-met.ensures ∙ ap (ends_from exports 0) c.as_slice.ensures.keys) c.in_ok-ends.ensures.numbers in
    searched exports c.args.starts.now
    (record { names = c.in_ok-graph.graph.pairs; to_rings = c.in_ok-to_rings.to_rings; reached = c.in_ok-reached.reached; terminals = c.numbered.new.terminals })
    rows c.as_slice-3.result.now c.in_ok-graph.ensures.starts c.in_ok-graph.ensures.distinct
    (subst (λ vs. AreRowsOf (names_of exports) keys (lists vs)) (sym c.as_slice-rows.ensures.value) c.in_ok-graph.ensures.rows)
    (subst (λ es. EndsAreNumbered terminals es (ends_from exports 0 keys)) (sym c.as_slice-3.ensures.value) numbered)
    c.in_ok-ends.ensures.apart c.in_ok-to_rings.ensures.sound
    (λ a within. c.in_ok-to_rings.ensures.complete a (subst (λ n. a < n) (length-map c.as_slice-rows.result.now (λ v. v.items)) within))
    c.in_ok-reached.ensures.tells
