use Rattle.std.proofs.Common.{◌≡◌, ◌<◌, ◌∷◌, [], inl, ℕ, refl, sym, ap, subst, ◌∙◌, length, All, List, Vec, replicate}
use Rattle.link_search.specs.declared.terminals.Terminals.{Terminals}
use Rattle.std.specs.declared.alloc.Global.{Global}
use Rattle.std.proofs.lemmas.List.{length-map}
use Rattle.reachability.specs.Rows.{row, lists, rows_from_pairs, AreWithin}
use Rattle.link_search.specs.Reached.{Spread, AnswerTells, known_of, with_ends, backward_from}
use Rattle.link_search.proofs.Spreads.{Knows, work, begins, tells, backward_within}
use Rattle.link_search.proofs.Backward.{back, back_within, turned}
use Rattle.reachability.proofs.Within.{length_rows_of}
use Rattle.link_search.proofs.terminals.reached_terminals.Goals as goal

len : (vs : List (Vec ℕ Global)) → length (lists vs) ≡ length vs
len vs = length-map vs (λ v. v.items)

within : (vs : List (Vec ℕ Global)) → AreWithin (length vs) (lists vs) → AreWithin (length (lists vs)) (lists vs)
within vs w = subst (λ n. AreWithin n (lists vs)) (sym (len vs)) w

-- the rows that were made are those of the steps backward
made : (vs bs : List (Vec ℕ Global)) (ps qs : List (ℕ × ℕ)) (w : AreWithin (length vs) (lists vs)) → lists bs ≡ rows_from_pairs (length vs) ps → ps ≡ qs → qs ≡ backward_from 0 (lists vs) → lists bs ≡ back (lists vs) (within vs w)
made vs bs ps qs w e f g = e ∙ ap (λ n. rows_from_pairs n ps) (sym (len vs)) ∙ ap (rows_from_pairs (length (lists vs))) (f ∙ g)

fresh : ℕ → Spread
fresh n = record { values = replicate n Terminals.Nowhere; news = [] }

pub rows_of-requires : goal.rows_of-requires
rows_of-requires c =
    subst (All (λ p. p.0 < length c.args.rows.now)) (sym (c.as_slice.ensures.value ∙ c.in_ok-pairs.ensures)) (backward_within (length c.args.rows.now) 0 (lists c.args.rows.now) c.requires.rows)

pub loop-b-init : goal.loop-b-init
unfolding fresh
loop-b-init c =
    subst (Knows (lists c.args.rows.now) c.args.ends.now (length (lists c.args.rows.now)))
    (sym (c.in_ok-raise_ends.ensures.ok ∙ ap (λ s. with_ends s c.args.ends.now) (c.in_ok-spreading.ensures ∙ ap fresh (sym (len c.args.rows.now)))))
    (begins (lists c.args.rows.now) c.args.ends.now (length (lists c.args.rows.now)) (subst (λ n. All (λ end. end.0 < n) c.args.ends.now) (sym (len c.args.rows.now)) c.requires.ends))

pub value-reached-requires : goal.value-reached-requires
value-reached-requires c =
    let k : Knows (lists c.args.rows.now) c.args.ends.now (length (lists c.args.rows.now)) (record { values = c.next.new.self.values; news = c.in-Some.b ∷ c.next.new.self.news }) = subst (Knows (lists c.args.rows.now) c.args.ends.now (length (lists c.args.rows.now))) c.in-Some.ensures.some c.loop-b.invariant in
    subst (λ n. c.in-Some.b < n) (sym k.spreads.size) (k.spreads.within c.in-Some.b (inl refl))

pub row-requires : goal.row-requires
row-requires c =
    let k : Knows (lists c.args.rows.now) c.args.ends.now (length (lists c.args.rows.now)) (record { values = c.next.new.self.values; news = c.in-Some.b ∷ c.next.new.self.news }) = subst (Knows (lists c.args.rows.now) c.args.ends.now (length (lists c.args.rows.now))) c.in-Some.ensures.some c.loop-b.invariant in
    subst (λ n. c.in-Some.b < n)
    (sym (ap length c.as_slice-in-Some.ensures.value ∙ sym (len c.in_ok-back.back.items) ∙ ap length (made c.args.rows.now c.in_ok-back.back.items c.as_slice.result.now c.in_ok-pairs.pairs.items c.requires.rows c.in_ok-back.ensures c.as_slice.ensures.value c.in_ok-pairs.ensures) ∙ length_rows_of (length (lists c.args.rows.now)) (backward_from 0 (lists c.args.rows.now))))
    (k.spreads.within c.in-Some.b (inl refl))

pub raise_all-requires : goal.raise_all-requires
raise_all-requires c =
    let k : Knows (lists c.args.rows.now) c.args.ends.now (length (lists c.args.rows.now)) (record { values = c.next.new.self.values; news = c.in-Some.b ∷ c.next.new.self.news }) = subst (Knows (lists c.args.rows.now) c.args.ends.now (length (lists c.args.rows.now))) c.in-Some.ensures.some c.loop-b.invariant in
    subst (λ n. All (λ x. x < n) c.row.result.now) (sym k.spreads.size)
    (subst (All (λ x. x < length (lists c.args.rows.now)))
    (sym (c.row.ensures ∙ ap (λ v. row (lists v) c.in-Some.b) c.as_slice-in-Some.ensures.value ∙ ap (λ r. row r c.in-Some.b) (made c.args.rows.now c.in_ok-back.back.items c.as_slice.result.now c.in_ok-pairs.pairs.items c.requires.rows c.in_ok-back.ensures c.as_slice.ensures.value c.in_ok-pairs.ensures)))
    (back_within (lists c.args.rows.now) (within c.args.rows.now c.requires.rows) c.in-Some.b))

pub loop-b-smaller : goal.loop-b-smaller
loop-b-smaller c =
    let t : Knows (lists c.args.rows.now) c.args.ends.now (length (lists c.args.rows.now)) c.raise_all.new.self × (work c.raise_all.new.self < work (record { values = c.next.new.self.values; news = c.in-Some.b ∷ c.next.new.self.news })) =
    turned (lists c.args.rows.now) (within c.args.rows.now c.requires.rows) c.args.ends.now c.in-Some.b c.next.new.self c.raise_all.new.self c.row.result.now c.value-reached.result
    (subst (Knows (lists c.args.rows.now) c.args.ends.now (length (lists c.args.rows.now))) c.in-Some.ensures.some c.loop-b.invariant)
    (c.row.ensures ∙ ap (λ v. row (lists v) c.in-Some.b) c.as_slice-in-Some.ensures.value ∙ ap (λ r. row r c.in-Some.b) (made c.args.rows.now c.in_ok-back.back.items c.as_slice.result.now c.in_ok-pairs.pairs.items c.requires.rows c.in_ok-back.ensures c.as_slice.ensures.value c.in_ok-pairs.ensures))
    c.value-reached.ensures c.in_ok-raise_all.ensures.ok in
    subst (λ n. work c.raise_all.new.self < n) (ap work (sym c.in-Some.ensures.some)) t.1

pub loop-b-preserved : goal.loop-b-preserved
loop-b-preserved c =
    (turned (lists c.args.rows.now) (within c.args.rows.now c.requires.rows) c.args.ends.now c.in-Some.b c.next.new.self c.raise_all.new.self c.row.result.now c.value-reached.result
    (subst (Knows (lists c.args.rows.now) c.args.ends.now (length (lists c.args.rows.now))) c.in-Some.ensures.some c.loop-b.invariant)
    (c.row.ensures ∙ ap (λ v. row (lists v) c.in-Some.b) c.as_slice-in-Some.ensures.value ∙ ap (λ r. row r c.in-Some.b) (made c.args.rows.now c.in_ok-back.back.items c.as_slice.result.now c.in_ok-pairs.pairs.items c.requires.rows c.in_ok-back.ensures c.as_slice.ensures.value c.in_ok-pairs.ensures))
    c.value-reached.ensures c.in_ok-raise_all.ensures.ok).0

pub returns-clause-tells : goal.returns-clause-tells
returns-clause-tells c = λ a.
    subst (λ (vs : List Terminals). AnswerTells (lists c.args.rows.now) c.args.ends.now (known_of vs a) a)
    (sym (c.into_values.ensures ∙ ap (λ (s : Spread). s.values) c.in_default.ensures.kept))
    (tells (lists c.args.rows.now) c.args.ends.now (length (lists c.args.rows.now)) c.loop-b.spreading a c.loop-b.invariant c.in_default.ensures.none)
