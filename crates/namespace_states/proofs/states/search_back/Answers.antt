use Rattle.std.proofs.Common.{◌≡◌, ◌<◌, ℕ, List, [], Vec, Bool, All, length, sym, ap, subst, ◌∙◌, arith, rules}
use Rattle.std.specs.declared.alloc.Global.{Global}
use Rattle.reachability.specs.Rows.{lists, rows_from_pairs}
use Rattle.semantic_tree.specs.Children.{node_count}
use Rattle.semantic_tree.specs.declared.node.Node.{Node}
use Rattle.semantic_model.specs.Namespace.{InstanceState, instantiated, const_enum_only}
use Rattle.namespace_states.specs.Reaches.{IsGreatestReached}
use Rattle.namespace_states.proofs.Standing.{below_count}
use Rattle.namespace_states.specs.Led.{Led, led_from, nothing_led}
use Rattle.namespace_states.proofs.Ties.{IsNoted, noted_of}
use Rattle.namespace_states.specs.StatesByMarks.{state_in, states_by}
use Rattle.namespace_states.proofs.FoundStates.{firsts, seconds, seeds_within, values_of, const_enums_of, made_count, made_within, marks_of, state-found, state_at}
use Rattle.namespace_states.proofs.states.search_back.Goals as goal

noted_by : (root : Node) (led : Led) → led ≡ led_from [] root nothing_led → IsNoted root led
noted_by root led e = subst (λ (l : Led). IsNoted root l) (sym e) (noted_of root)

pub rows_of-requires : goal.rows_of-requires
rows_of-requires c =
    let root : Node = c.args.root.node.now in
    let led : Led = c.args.leads.now in
    let pairs : c.as_slice.result.now ≡ led.backward = search rules in
    subst (λ n. All (λ (p : ℕ × ℕ). p.0 < n) c.as_slice.result.now) (sym c.requires.count)
    (subst (λ (ps : List (ℕ × ℕ)). All (λ (p : ℕ × ℕ). p.0 < node_count root) ps) (sym pairs) (firsts root c.requires.numbered led (noted_by root led c.requires.leads)))

pub reached-requires-clause-rows : goal.reached-requires-clause-rows
reached-requires-clause-rows c =
    let root : Node = c.args.root.node.now in
    let led : Led = c.args.leads.now in
    let pairs : c.as_slice.result.now ≡ led.backward = search rules in
    let made : lists c.deref.result.now ≡ rows_from_pairs (node_count root) led.backward =
    ap (λ (vs : List (Vec ℕ Global)). lists vs) c.deref.ensures.value ∙ c.in_ok-rows.ensures ∙ ap (λ n. rows_from_pairs n c.as_slice.result.now) c.requires.count ∙ ap (λ (ps : List (ℕ × ℕ)). rows_from_pairs (node_count root) ps) pairs in
    made_within (node_count root) c.deref.result.now led.backward made (firsts root c.requires.numbered led (noted_by root led c.requires.leads)) (seconds root c.requires.numbered led (noted_by root led c.requires.leads))

pub reached-requires-clause-seeds : goal.reached-requires-clause-seeds
reached-requires-clause-seeds c =
    let root : Node = c.args.root.node.now in
    let led : Led = c.args.leads.now in
    let pairs : c.as_slice.result.now ≡ led.backward = search rules in
    let seeds : c.as_slice-2.result.now ≡ led.values = search rules in
    let noted : IsNoted root led = noted_by root led c.requires.leads in
    let made : lists c.deref.result.now ≡ rows_from_pairs (node_count root) led.backward =
    ap (λ (vs : List (Vec ℕ Global)). lists vs) c.deref.ensures.value ∙ c.in_ok-rows.ensures ∙ ap (λ n. rows_from_pairs n c.as_slice.result.now) c.requires.count ∙ ap (λ (ps : List (ℕ × ℕ)). rows_from_pairs (node_count root) ps) pairs in
    subst (λ n. All (λ a. a < n) c.as_slice-2.result.now) (sym (made_count (node_count root) c.deref.result.now led.backward made))
    (subst (λ (xs : List ℕ). All (λ a. a < node_count root) xs) (sym seeds) (seeds_within root c.requires.numbered led noted instantiated led.values (values_of root c.requires.numbered led noted)))

pub reached-requires-2-clause-rows : goal.reached-requires-2-clause-rows
reached-requires-2-clause-rows c =
    let root : Node = c.args.root.node.now in
    let led : Led = c.args.leads.now in
    let pairs : c.as_slice.result.now ≡ led.backward = search rules in
    let made : lists c.deref-2.result.now ≡ rows_from_pairs (node_count root) led.backward =
    ap (λ (vs : List (Vec ℕ Global)). lists vs) c.deref-2.ensures.value ∙ c.in_ok-rows.ensures ∙ ap (λ n. rows_from_pairs n c.as_slice.result.now) c.requires.count ∙ ap (λ (ps : List (ℕ × ℕ)). rows_from_pairs (node_count root) ps) pairs in
    made_within (node_count root) c.deref-2.result.now led.backward made (firsts root c.requires.numbered led (noted_by root led c.requires.leads)) (seconds root c.requires.numbered led (noted_by root led c.requires.leads))

pub reached-requires-2-clause-seeds : goal.reached-requires-2-clause-seeds
reached-requires-2-clause-seeds c =
    let root : Node = c.args.root.node.now in
    let led : Led = c.args.leads.now in
    let pairs : c.as_slice.result.now ≡ led.backward = search rules in
    let seeds : c.as_slice-3.result.now ≡ led.const_enums = search rules in
    let noted : IsNoted root led = noted_by root led c.requires.leads in
    let made : lists c.deref-2.result.now ≡ rows_from_pairs (node_count root) led.backward =
    ap (λ (vs : List (Vec ℕ Global)). lists vs) c.deref-2.ensures.value ∙ c.in_ok-rows.ensures ∙ ap (λ n. rows_from_pairs n c.as_slice.result.now) c.requires.count ∙ ap (λ (ps : List (ℕ × ℕ)). rows_from_pairs (node_count root) ps) pairs in
    subst (λ n. All (λ a. a < n) c.as_slice-3.result.now) (sym (made_count (node_count root) c.deref-2.result.now led.backward made))
    (subst (λ (xs : List ℕ). All (λ a. a < node_count root) xs) (sym seeds) (seeds_within root c.requires.numbered led noted const_enum_only led.const_enums (const_enums_of root c.requires.numbered led noted)))

pub returns : goal.returns
returns c = λ i a.
    let root : Node = c.args.root.node.now in
    let led : Led = c.args.leads.now in
    let noted : IsNoted root led = noted_by root led c.requires.leads in
    let pairs : c.as_slice.result.now ≡ led.backward = search rules in
    let rows : lists c.in_ok-rows.rows.items ≡ rows_from_pairs (node_count root) led.backward =
    c.in_ok-rows.ensures ∙ ap (λ n. rows_from_pairs n c.as_slice.result.now) c.requires.count ∙ ap (λ (ps : List (ℕ × ℕ)). rows_from_pairs (node_count root) ps) pairs in
    let first : lists c.deref.result.now ≡ rows_from_pairs (node_count root) led.backward = ap (λ (vs : List (Vec ℕ Global)). lists vs) c.deref.ensures.value ∙ rows in
    let second : lists c.deref-2.result.now ≡ rows_from_pairs (node_count root) led.backward = ap (λ (vs : List (Vec ℕ Global)). lists vs) c.deref-2.ensures.value ∙ rows in
    let value_seeds : c.as_slice-2.result.now ≡ led.values = search rules in
    let enum_seeds : c.as_slice-3.result.now ≡ led.const_enums = search rules in
    let values : List Bool = c.in_ok-values.values.items in
    let enums : List Bool = c.in_ok-const_enums.const_enums.items in
    let value_marks = marks_of root c.requires.numbered led noted (lists c.deref.result.now) c.as_slice-2.result.now led.values values first value_seeds c.in_ok-values.ensures.sound c.in_ok-values.ensures.complete in
    let enum_marks = marks_of root c.requires.numbered led noted (lists c.deref-2.result.now) c.as_slice-3.result.now led.const_enums enums second enum_seeds c.in_ok-const_enums.ensures.sound c.in_ok-const_enums.ensures.complete in
    let long : length values ≡ node_count root = c.in_ok-values.ensures.length ∙ made_count (node_count root) c.deref.result.now led.backward first in
    let wide : length enums ≡ node_count root = c.in_ok-const_enums.ensures.length ∙ made_count (node_count root) c.deref-2.result.now led.backward second in
    let low = below_count root i c.requires.numbered a in
    let all : List InstanceState = states_by values enums in
    let made : states_by c.as_slice-4.result.now c.as_slice-5.result.now ≡ all =
    ap (λ (vs : List Bool). states_by vs c.as_slice-5.result.now) c.as_slice-4.ensures.value ∙ ap (λ (cs : List Bool). states_by values cs) c.as_slice-5.ensures.value in
    let found : IsGreatestReached i (state_in all i.node.node_id) =
    subst (λ s. IsGreatestReached i s) (sym (state_at values enums i.node.node_id (wide ∙ sym long) (omega (arith, low, long)))) (state-found root c.requires.numbered led noted values enums value_marks enum_marks i a) in
    subst (λ (ss : List InstanceState). IsGreatestReached i (state_in ss i.node.node_id)) (sym (c.in_ok-states.ensures ∙ made)) found
