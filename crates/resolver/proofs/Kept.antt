-- Which references stay, one after the other.
use Rattle.std.proofs.Common.{◌≡◌, ℕ, ◌+◌, ◌<◌, ◌≤◌, List, [], ◌∷◌, ◌++◌, length, take, drop, set, get_or, refl, sym, ap, ◌∙◌, arith, append-nil, add-one, drop-cons}
use Rattle.std.proofs.lemmas.List.{append_assoc, take_more_set, drop-set-lt, drop_all, length-set}
use Rattle.resolver.specs.declared.outcomes.Outcome.{Outcome}
use Rattle.resolver.specs.declared.outcomes.Outcome.TheVariants.{Tied, Free, Pending}
use Rattle.resolver.specs.declared.pending.UnresolvedReference.{UnresolvedReference}
use Rattle.resolver.specs.Terms.{staying}

one_of : (us : List UnresolvedReference) → 0 < length us → UnresolvedReference
one_of [] some = absurd (omega arith)
one_of (u ∷ us) some = u

staying-nil : (us : List UnresolvedReference) → staying us [] ≡ []
staying-nil [] = refl
staying-nil (u ∷ us) = refl

module _ (us : List UnresolvedReference) (os : List Outcome) (kept position i : ℕ) (u : UnresolvedReference) (o : Outcome) where
  pub next_tied : (y : ℕ) → position < length us → i < length os → get_or os i o ≡ Tied y
      → staying (drop position us) (drop i os) ≡ staying (drop (position + 1) us) (drop (i + 1) os)
  next_tied y within more is = rw (drop-cons us position u within, drop-cons os i o more, is, add-one position, add-one i) refl

  pub next_free : position < length us → i < length os → get_or os i o ≡ Free
      → staying (drop position us) (drop i os) ≡ staying (drop (position + 1) us) (drop (i + 1) os)
  next_free within more is = rw (drop-cons us position u within, drop-cons os i o more, is, add-one position, add-one i) refl

  pub next_pending : (s : ℕ) (moved : UnresolvedReference) → moved ≡ record (get_or us position u) { lookup_scope_id = s } → kept ≤ position → position < length us → i < length os → get_or os i o ≡ Pending s
      → take kept us ++ staying (drop position us) (drop i os) ≡ take (kept + 1) (set us kept moved) ++ staying (drop (position + 1) (set us kept moved)) (drop (i + 1) os)
  next_pending s moved moved_is before within more is =
      let here : staying (drop position us) (drop i os) ≡ moved ∷ staying (drop (position + 1) us) (drop (i + 1) os) =
      rw (drop-cons us position u within, drop-cons os i o more, is, add-one position, add-one i, moved_is) refl in
      rw (here, take_more_set us kept moved (omega arith), drop-set-lt (position + 1) us kept moved (omega arith)) (sym (append_assoc (take kept us) (moved ∷ []) (staying (drop (position + 1) us) (drop (i + 1) os))))

-- the outcomes before the place `i` are given: of the references behind `start` the first ones stay, up to `kept`, and those from `position` on are left
pub record HasApplied (start : ℕ) (old : List UnresolvedReference) (os : List Outcome) (kept position i : ℕ) (us : List UnresolvedReference) : Type 0 where
  pub position_is : position ≡ start + i
  pub behind : kept ≤ position
  pub length_is : length us ≡ length old
  pub rest : take kept us ++ staying (drop position us) (drop i os) ≡ take start old ++ staying (drop start old) os

module _ (start : ℕ) (old : List UnresolvedReference) (os : List Outcome) (kept position i : ℕ) (us : List UnresolvedReference) (come : HasApplied start old os kept position i us)
    (fit : start + length os ≡ length old) where
  -- when no outcome is left, nothing more stays
  pub applied_all : length os ≤ i → take kept us ≡ take start old ++ staying (drop start old) os
  applied_all over =
      sym (append-nil (take kept us)) ∙ ap (λ t. take kept us ++ t) (sym (staying-nil (drop position us)) ∙ ap (staying (drop position us)) (sym (drop_all i os over))) ∙ come.rest

  module _ (o : Outcome) (more : i < length os) (is : o ≡ get_or os i o) where
    some : 0 < length us
    some = omega (arith, come.position_is, come.length_is)

    pub applied_tied : (y : ℕ) → o ≡ Tied y → HasApplied start old os kept (position + 1) (i + 1) us
    applied_tied y tied = record {
      position_is = omega (arith, come.position_is);
      behind = omega (arith, come.behind);
      length_is = come.length_is;
      rest = ap (λ t. take kept us ++ t) (sym (next_tied us os kept position i (one_of us some) o y (omega (arith, come.position_is, come.length_is)) more (sym is ∙ tied))) ∙ come.rest;
    }

    pub applied_free : o ≡ Free → HasApplied start old os kept (position + 1) (i + 1) us
    applied_free free = record {
      position_is = omega (arith, come.position_is);
      behind = omega (arith, come.behind);
      length_is = come.length_is;
      rest = ap (λ t. take kept us ++ t) (sym (next_free us os kept position i (one_of us some) o (omega (arith, come.position_is, come.length_is)) more (sym is ∙ free))) ∙ come.rest;
    }

    pub applied_pending : (s : ℕ) (u : UnresolvedReference) → o ≡ Pending s → u ≡ get_or us position u
        → HasApplied start old os (kept + 1) (position + 1) (i + 1) (set us kept (record u { lookup_scope_id = s }))
    applied_pending s u pending u_is = record {
      position_is = omega (arith, come.position_is);
      behind = omega (arith, come.behind);
      length_is = length-set us kept (record u { lookup_scope_id = s }) ∙ come.length_is;
      rest = sym (next_pending us os kept position i u o s (record u { lookup_scope_id = s }) (ap {A = UnresolvedReference} (λ v. record v { lookup_scope_id = s }) u_is) come.behind (omega (arith, come.position_is, come.length_is)) more (sym is ∙ pending)) ∙ come.rest;
    }
