use Rattle.std.proofs.Common.{◌≡◌, ◌<◌, ◌+◌, ◌*◌, ◌∷◌, ◌++◌, [], ℕ, List, Vec, sym, ap, subst, ◌∙◌, length, slice_get, arith, length-append}
use Rattle.std.specs.declared.alloc.Global.{Global}
use Rattle.std.specs.Option.{option_copied}
use Rattle.std.proofs.lemmas.List.{length-map, map-append}
use Rattle.reachability.specs.Rows.{lists}
use Rattle.link_search.specs.Numbering.{with_pairs, ArePairsWithin}
use Rattle.link_search.specs.Graph.{AreRowsSoFar}
use Rattle.link_search.proofs.Graphs.{graph_begins, graph_goes_on, graph_ends, graph_falls}
use Rattle.link_search.proofs.Bounded.{all_within}
use Rattle.link_search.proofs.graph.graph_of.Goals as goal

pushed : (rows next : List (Vec ℕ Global)) (r : Vec ℕ Global) → next ≡ rows ++ r ∷ [] → lists next ≡ lists rows ++ r.items ∷ []
pushed rows next r e = ap lists e ∙ map-append (λ v. v.items) rows (r ∷ [])

many : (rows : List (Vec ℕ Global)) → length (lists rows) ≡ length rows
many rows = length-map rows (λ v. v.items)

pub loop-found-init : goal.loop-found-init
loop-found-init g c =
    subst (AreRowsSoFar (g.W.Ways.firsts c.args.ways.now) (g.W.Ways.seconds c.args.ways.now) (g.W.Ways.leads c.args.ways.now) c.args.starts.now c.numbers_of.new.pairs.keys)
    (sym (ap lists c.new-rows.ensures.items))
    (graph_begins (g.W.Ways.firsts c.args.ways.now) (g.W.Ways.seconds c.args.ways.now) (g.W.Ways.leads c.args.ways.now) c.args.starts.now c.numbers_of.new.pairs.keys c.in_ok-_numbers._numbers.items c.requires (c.in_ok-_numbers.ensures.pairs ∙ ap (λ ks. with_pairs ks c.args.starts.now) c.new-pairs.ensures.empty) c.in_ok-_numbers.ensures.numbers)

pub loop-found-preserved : goal.loop-found-preserved
loop-found-preserved g c =
    subst (AreRowsSoFar (g.W.Ways.firsts c.args.ways.now) (g.W.Ways.seconds c.args.ways.now) (g.W.Ways.leads c.args.ways.now) c.args.starts.now c.numbers_of-in-Some.new.pairs.keys)
    (sym (pushed c.loop-found.rows.items c.push.new.self.items c.in_ok-row.row c.in_ok-push.ensures.items))
    (graph_goes_on (g.W.Ways.firsts c.args.ways.now) (g.W.Ways.seconds c.args.ways.now) (g.W.Ways.leads c.args.ways.now) c.args.starts.now c.loop-found.pairs.keys c.numbers_of-in-Some.new.pairs.keys (lists c.loop-found.rows.items) c.in-Some.found.now c.as_slice.result.now c.in_ok-row.row.items c.loop-found.invariant
    (ap (slice_get c.loop-found.pairs.keys) (many c.loop-found.rows.items ∙ sym c.loop-found.rows.ok.0 ∙ sym c.len.ensures) ∙ sym c.in-Some.ensures.key)
    (c.as_slice.ensures.value ∙ c.in_ok-met.ensures.ways)
    (subst (λ ps. ArePairsWithin (g.W.Ways.firsts c.args.ways.now) (g.W.Ways.seconds c.args.ways.now) ps) (sym c.as_slice.ensures.value) c.in_ok-met.ensures.within)
    c.in_ok-row.ensures.pairs c.in_ok-row.ensures.numbers)

pub loop-found-smaller : goal.loop-found-smaller
loop-found-smaller g c =
    let a : length (lists c.loop-found.rows.items) < g.W.Ways.firsts c.args.ways.now * g.W.Ways.seconds c.args.ways.now =
    graph_falls (g.W.Ways.firsts c.args.ways.now) (g.W.Ways.seconds c.args.ways.now) (g.W.Ways.leads c.args.ways.now) c.args.starts.now c.loop-found.pairs.keys (lists c.loop-found.rows.items) c.in-Some.found.now c.loop-found.invariant
    (ap (slice_get c.loop-found.pairs.keys) (many c.loop-found.rows.items ∙ sym c.loop-found.rows.ok.0 ∙ sym c.len.ensures) ∙ sym c.in-Some.ensures.key) in
    let b : length (lists c.push.new.self.items) ≡ length (lists c.loop-found.rows.items) + 1 =
    ap length (pushed c.loop-found.rows.items c.push.new.self.items c.in_ok-row.row c.in_ok-push.ensures.items) ∙ length-append (lists c.loop-found.rows.items) (c.in_ok-row.row.items ∷ []) in
    omega (arith, a, b)

pub returns-clause-rows : goal.returns-clause-rows
returns-clause-rows g c =
    graph_ends (g.W.Ways.firsts c.args.ways.now) (g.W.Ways.seconds c.args.ways.now) (g.W.Ways.leads c.args.ways.now) c.args.starts.now c.loop-found.pairs.keys (lists c.loop-found.rows.items) c.loop-found.invariant
    (ap (slice_get c.loop-found.pairs.keys) (many c.loop-found.rows.items ∙ sym c.loop-found.rows.ok.0 ∙ sym c.len.ensures) ∙ sym c.get_index.ensures.key ∙ ap option_copied c.in_default.is)

pub returns-clause-within : goal.returns-clause-within
returns-clause-within g c =
    all_within (g.W.Ways.leads c.args.ways.now) c.loop-found.pairs.keys c.loop-found.rows.items
    (graph_ends (g.W.Ways.firsts c.args.ways.now) (g.W.Ways.seconds c.args.ways.now) (g.W.Ways.leads c.args.ways.now) c.args.starts.now c.loop-found.pairs.keys (lists c.loop-found.rows.items) c.loop-found.invariant
    (ap (slice_get c.loop-found.pairs.keys) (many c.loop-found.rows.items ∙ sym c.loop-found.rows.ok.0 ∙ sym c.len.ensures) ∙ sym c.get_index.ensures.key ∙ ap option_copied c.in_default.is))
