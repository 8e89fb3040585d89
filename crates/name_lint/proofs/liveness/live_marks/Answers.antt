use Rattle.std.proofs.Common.{◌≡◌, ◌<◌, ◌++◌, ℕ, List, Vec, All, IfOk, length, sym, ap, subst, ◌∙◌}
use Rattle.std.specs.List.{filter_map}
use Rattle.std.specs.declared.alloc.Global.{Global}
use Rattle.semantic_syntax.specs.Tables.{Tables}
use Rattle.reachability.specs.Rows.{lists, rows_from_pairs}
use Rattle.name_lint.specs.Gathered.{symbol_at_node}
use Rattle.name_lint.specs.Live.{sure_from, owned_by, at_once}
use Rattle.name_lint.proofs.MadeRows.{made_count, made_within}
use Rattle.name_lint.proofs.liveness.live_marks.Goals as goal

pub reached-requires-clause-rows : goal.reached-requires-clause-rows
reached-requires-clause-rows c =
    let t : Tables = c.args.scoping.now in
    let made : lists c.deref-3.result.now ≡ rows_from_pairs (length t.symbols) (owned_by t c.args.owners.now) =
    ap (λ (vs : List (Vec ℕ Global)). lists vs) c.deref-3.ensures.value ∙ c.in_ok-rows.ensures ∙ ap (λ n. rows_from_pairs n c.deref-2.result.now) c.symbols_len.ensures.count
    ∙ ap (λ (pairs : List (ℕ × ℕ)). rows_from_pairs (length t.symbols) pairs) (c.deref-2.ensures.value ∙ c.in_ok-uses.ensures.owned) in
    made_within (length t.symbols) c.deref-3.result.now (owned_by t c.args.owners.now) made c.requires.owning c.requires.used

pub reached-requires-clause-seeds : goal.reached-requires-clause-seeds
reached-requires-clause-seeds c =
    let t : Tables = c.args.scoping.now in
    let made : lists c.deref-3.result.now ≡ rows_from_pairs c.symbols_len.result c.deref-2.result.now = ap (λ (vs : List (Vec ℕ Global)). lists vs) c.deref-3.ensures.value ∙ c.in_ok-rows.ensures in
    let count : length c.deref-3.result.now ≡ length t.symbols = made_count c.symbols_len.result c.deref-3.result.now c.deref-2.result.now made ∙ c.symbols_len.ensures.count in
    let seeds : c.deref-4.result.now ≡ at_once t (symbol_at_node c.args.tables.now) c.args.exported.now c.args.owners.now =
    c.deref-4.ensures.value ∙ c.in_ok-seeds.ensures
    ∙ ap (λ (free : List ℕ). sure_from t 0 t.symbols ++ filter_map (symbol_at_node c.args.tables.now) c.args.exported.now ++ free)
    (c.deref.ensures.value ∙ c.in_ok-uses.ensures.free) in
    subst (λ n. All (λ a. a < n) c.deref-4.result.now) (sym count) (subst (All (λ a. a < length t.symbols)) (sym seeds) c.requires.seeds)

pub returns-clause-length : goal.returns-clause-length
returns-clause-length c =
    let made : lists c.deref-3.result.now ≡ rows_from_pairs c.symbols_len.result c.deref-2.result.now = ap (λ (vs : List (Vec ℕ Global)). lists vs) c.deref-3.ensures.value ∙ c.in_ok-rows.ensures in
    let count : length c.deref-3.result.now ≡ length c.args.scoping.now.symbols = made_count c.symbols_len.result c.deref-3.result.now c.deref-2.result.now made ∙ c.symbols_len.ensures.count in
    subst (λ n. IfOk c.reached.result (λ marks. length marks.items ≡ n)) count c.reached.ensures.length
