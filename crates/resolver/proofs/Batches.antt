-- References that are looked up batch by batch.
use Rattle.std.proofs.Common.{◌≡◌, ℕ, ◌≤◌, ◌+◌, ◌-◌, arith, length, List, [], ◌++◌, map, take, drop, ap, sym, ◌∙◌}
use Rattle.std.specs.List.{sum_by}
use Rattle.std.proofs.lemmas.List.{take-append-drop, map-append, drop-drop, drop_all, append_assoc, append-nil}
use Rattle.std.proofs.lemmas.List.Sums.{sum_by-append}
use Rattle.semantic_syntax.specs.Counts.{raised}
use Rattle.semantic_syntax.specs.Outcome.{Pending, Outcome}
use Rattle.resolver.specs.declared.pending.UnresolvedReference.{UnresolvedReference}
use Rattle.resolver.specs.Terms.{pending_of}

module _ (es : List UnresolvedReference) (start size : ℕ) where
  abbrev batch : List UnresolvedReference
  batch = take ((start + size) - start) (drop start es)

  abbrev rest : List UnresolvedReference
  rest = drop (start + size) es

  -- what is left is the batch and what is left behind it
  left : map pending_of (drop start es) ≡ map pending_of batch ++ map pending_of rest
  left =
      let is_size : (start + size) - start ≡ size = omega arith in
      let behind : drop ((start + size) - start) (drop start es) ≡ rest = ap (λ n. drop n (drop start es)) is_size ∙ drop-drop size start es in
      sym (ap (map pending_of) (take-append-drop ((start + size) - start) (drop start es))) ∙ map-append pending_of batch (drop ((start + size) - start) (drop start es))
      ∙ ap (λ r. map pending_of batch ++ map pending_of r) behind

  pub outcomes_further : (outcome : Pending → Outcome) (before after whole : List Outcome) → after ≡ before ++ map outcome (map pending_of batch)
      → before ++ map outcome (map pending_of (drop start es)) ≡ whole → after ++ map outcome (map pending_of rest) ≡ whole
  outcomes_further outcome before after whole told so_far =
      ap (λ os. os ++ map outcome (map pending_of rest)) told
      ∙ append_assoc before (map outcome (map pending_of batch)) (map outcome (map pending_of rest))
      ∙ ap (λ os. before ++ os) (sym (ap (map outcome) left ∙ map-append outcome (map pending_of batch) (map pending_of rest)))
      ∙ so_far

  -- nothing is left behind the last batch
  pub outcomes_over : (outcome : Pending → Outcome) (os whole : List Outcome) → os ++ map outcome (map pending_of (drop start es)) ≡ whole → length es ≤ start → os ≡ whole
  outcomes_over outcome os whole so_far over =
      sym (append-nil os) ∙ ap (λ us. os ++ map outcome (map pending_of us)) (sym (drop_all start es over)) ∙ so_far

  module _ (asks : Pending → ℕ) (first before after whole : ℕ) where
    all_asked : sum_by asks (map pending_of (drop start es)) ≡ sum_by asks (map pending_of batch) + sum_by asks (map pending_of rest)
    all_asked = ap (sum_by asks) left ∙ sum_by-append asks (map pending_of batch) (map pending_of rest)

    pub cost_further : after ≡ raised before (sum_by asks (map pending_of batch)) → raised before (sum_by asks (map pending_of (drop start es))) ≡ raised first whole
        → raised after (sum_by asks (map pending_of rest)) ≡ raised first whole
    cost_further told so_far = omega (arith, told, so_far, all_asked)

    pub given_up_within : after ≤ raised before (sum_by asks (map pending_of batch)) → raised before (sum_by asks (map pending_of (drop start es))) ≡ raised first whole
        → after ≤ raised first whole
    given_up_within told so_far = omega (arith, told, so_far, all_asked)
