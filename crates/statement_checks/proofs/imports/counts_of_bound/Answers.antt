use Rattle.std.proofs.Common.{◌≡◌, ℕ, ◌+◌, ◌<◌, ◌≤◌, List, ◌∷◌, get_or, length, subst, ap, ◌∙◌, arith}
use Rattle.std.proofs.lemmas.List.{get_or_default}
use Rattle.std.proofs.lemmas.Map.Iter.{rest_more}
use Rattle.std.specs.Map.{values_of}
use Rattle.semantic_syntax.specs.Reading.{bindings_of}
use Rattle.statement_checks.specs.Bound.{root_symbols, AreCounting}
use Rattle.statement_checks.proofs.Counts.{count_fits}
use Rattle.statement_checks.proofs.imports.counts_of_bound.Goals as goal

pub overflow_add-index_mut : goal.overflow_add-index_mut
overflow_add-index_mut c =
    let t = c.args.scoping.now in
    let bound = root_symbols t in
    let y = c.in-Some.symbol in
    let counts = c.loop-symbol.counts.items in
    let rest : List ℕ = c.next.new.self in
    let h : AreCounting bound (y ∷ rest) (length t.symbols) counts =
    subst (λ (l : List ℕ). AreCounting bound l (length t.symbols) counts) (rest_more (λ (s : ℕ). s) c.loop-symbol.symbol-iterator rest c.next.result y c.in-Some.is c.next.ensures.steps) c.loop-symbol.invariant in
    let inside : y < length counts = omega (arith, c.if-index-len.true, c.index.ensures, c.len.ensures, c.loop-symbol.counts.ok.0) in
    let within : y < length t.symbols = omega (arith, inside, h.for_each) in
    let fits : get_or counts y 0 + 1 ≤ length bound = count_fits bound rest (length t.symbols) counts y h within in
    let here : c.index_mut.result.now ≡ get_or counts y 0 =
    c.index_mut.ensures.value ∙ ap (λ k. get_or counts k c.index_mut.result.now) c.index-then-index-len.ensures ∙ get_or_default counts y c.index_mut.result.now 0 inside in
    let most : c.len-fits.result ≡ length bound = c.len-fits.ensures ∙ ap length (c.iter_bindings_in-bound.ensures ∙ ap (λ (s : ℕ). values_of (bindings_of t s)) c.root_scope_id.ensures) in
    omega (arith, here, fits, most, c.len-fits.type_inv)
