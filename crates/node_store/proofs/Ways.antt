-- The way from a node to the root.
use Rattle.std.proofs.Common.{◌≡◌, ℕ, zero, suc, ◌<◌, ◌==◌, List, [], ◌∷◌, length, drop, slice_index, if◌then◌else◌, All, Option, Some, None, refl, sym, ap, subst, arith}
use Rattle.std.specs.Option.{IfSome}
use Rattle.std.proofs.lemmas.List.Elements.{All-cons}
use Rattle.std.proofs.lemmas.Option.{slice_get-get_or, slice_get-map}
use Rattle.std.proofs.Common.{get_or, map}
use Rattle.node_store.specs.Seen.{seen}
use Rattle.node_store.specs.declared.ast_node.AstNode.{AstNode}
use Rattle.node_store.specs.NodeList.{StandBefore}
use Rattle.node_store.specs.Outward.{outward_within, outward, outward_from, above, parent_above, numbered_of, EndsAtRoot}

-- more steps than a node has before it make no difference
pub enough : (parents : List ℕ) → StandBefore parents → (a b n : ℕ) → n < length parents → n < a → n < b → outward_within a parents n ≡ outward_within b parents n
enough parents before zero b n h ha hb = absurd (omega arith)
enough parents before (suc a) zero n h ha hb = absurd (omega arith)
enough parents before (suc a) (suc b) zero h ha hb = refl
enough parents before (suc a) (suc b) (suc n) h ha hb =
    let up = before (suc n) h in
    ap (λ ns. suc n ∷ ns) (enough parents before a b (slice_index parents (suc n)) (omega arith) (omega arith) (omega arith))

pub outward_steps : (parents : List ℕ) (n : ℕ) → StandBefore parents → n < length parents → outward parents n ≡ n ∷ outward_from parents (parent_above parents n)
outward_steps parents zero before h = refl
outward_steps parents (suc n) before h =
    let up = before (suc n) h in
    ap (λ ns. suc n ∷ ns) (enough parents before (suc n) (suc (slice_index parents (suc n))) (slice_index parents (suc n)) (omega arith) (omega arith) (omega arith))

pub above_is : (parents : List ℕ) (n : ℕ) → StandBefore parents → n < length parents → outward_from parents (parent_above parents n) ≡ above parents n
above_is parents n before h = ap (drop 1) (sym (outward_steps parents n before h))

below_within : (parents : List ℕ) → StandBefore parents → (steps n : ℕ) → n < length parents → All (λ k. k < length parents) (outward_within steps parents n)
below_within parents before zero n h = λ k d lt. absurd (omega arith)
below_within parents before (suc steps) zero h = All-cons (λ k. k < length parents) zero [] h (λ k d lt. absurd (omega arith))
below_within parents before (suc steps) (suc n) h =
    let up = before (suc n) h in
    All-cons (λ k. k < length parents) (suc n) (outward_within steps parents (slice_index parents (suc n))) h
    (below_within parents before steps (slice_index parents (suc n)) (omega arith))

pub outward_is_below : (parents : List ℕ) (n : ℕ) → StandBefore parents → n < length parents → All (λ k. k < length parents) (outward parents n)
outward_is_below parents n before h = below_within parents before (suc n) n h

above_is_below_from : (parents : List ℕ) (n : ℕ) → StandBefore parents → n < length parents → All (λ k. k < length parents) (outward_from parents (parent_above parents n))
above_is_below_from parents zero before h = λ k d lt. absurd (omega arith)
above_is_below_from parents (suc n) before h =
    let up = before (suc n) h in
    outward_is_below parents (slice_index parents (suc n)) before (omega arith)

pub above_is_below : (parents : List ℕ) (n : ℕ) → StandBefore parents → n < length parents → All (λ k. k < length parents) (above parents n)
above_is_below parents n before h = subst (All (λ k. k < length parents)) (above_is parents n before h) (above_is_below_from parents n before h)

-- the parent of a node is within the list, if it has one
pub parent_within : (parents : List ℕ) (n : ℕ) (up : Option ℕ) → StandBefore parents → n < length parents → up ≡ parent_above parents n → IfSome up (λ k. k < length parents)
parent_within parents zero up before h e = rw e tt
parent_within parents (suc n) up before h e = let b = before (suc n) h in rw e (omega arith)

pub parent_is : (parents : List ℕ) (n : ℕ) → (if n == 0 then None else Some (slice_index parents n)) ≡ parent_above parents n
parent_is parents zero = refl
parent_is parents (suc n) = grind arith

pub rest_is_below : (bound n : ℕ) (ids rest : List ℕ) → ids ≡ n ∷ rest → All (λ k. k < bound) ids → All (λ k. k < bound) rest
rest_is_below bound n ids rest e h = λ k d lt. let all : All (λ k. k < bound) (n ∷ rest) = subst (All (λ k. k < bound)) e h in all (suc k) d (omega arith)

first_is_below : (bound n : ℕ) (ids rest : List ℕ) → ids ≡ n ∷ rest → All (λ k. k < bound) ids → n < bound
first_is_below bound n ids rest e h = let all : All (λ k. k < bound) (n ∷ rest) = subst (All (λ k. k < bound)) e h in all zero 0 (omega arith)

-- the first of the nodes with these ids
pub numbered_step : (nodes : List AstNode) (n i : ℕ) (ids rest : List ℕ) (d : AstNode) → i ≡ n → ids ≡ n ∷ rest → All (λ k. k < length nodes) ids
    → numbered_of (map seen nodes) ids ≡ (n, seen (get_or nodes i d)) ∷ numbered_of (map seen nodes) rest
numbered_step nodes n i ids rest d same e h =
    let lt : n < length nodes = first_is_below (length nodes) n ids rest e h in
    rw (e, same, slice_get-map seen nodes n, slice_get-get_or nodes n d lt) refl

ends_within : (parents : List ℕ) → StandBefore parents → (steps n : ℕ) → n < length parents → n < steps → EndsAtRoot (outward_within steps parents n)
ends_within parents before zero n h fits = absurd (omega arith)
ends_within parents before (suc steps) zero h fits = ([], refl)
ends_within parents before (suc steps) (suc n) h fits =
    let up = before (suc n) h in
    let later = ends_within parents before steps (slice_index parents (suc n)) (omega arith) (omega arith) in
    (suc n ∷ later.0, ap (λ ids. suc n ∷ ids) later.1)

ends_from : (parents : List ℕ) (n : ℕ) → StandBefore parents → n < length parents → 0 < n → EndsAtRoot (outward_from parents (parent_above parents n))
ends_from parents zero before h pos = absurd (omega arith)
ends_from parents (suc n) before h pos =
    let up = before (suc n) h in
    ends_within parents before (suc (slice_index parents (suc n))) (slice_index parents (suc n)) (omega arith) (omega arith)

-- the way up from a node that is not the root ends there
pub above_ends : (parents : List ℕ) (n : ℕ) → StandBefore parents → n < length parents → 0 < n → EndsAtRoot (above parents n)
above_ends parents n before h pos = subst EndsAtRoot (above_is parents n before h) (ends_from parents n before h pos)
