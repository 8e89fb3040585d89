-- The parents that the tables tell lead along a chain that they show, and so do ways outward.
use Rattle.std.proofs.Common.{◌≡◌, ℕ, zero, suc, ◌≤◌, List, [], ◌∷◌, Option, Some, None, Bool, true, false, cond, refl, sym, ap, subst, length, map, arith}
use Rattle.semantic_syntax.specs.declared.scope_flags.TheConstants.ScopeFlags as flag
use Rattle.semantic_syntax.specs.Sets.{meets}
use Rattle.semantic_syntax.specs.Tables.{Tables}
use Rattle.semantic_syntax.specs.Reading.{scope_of, no_scope}
use Rattle.semantic_syntax.specs.Reading as reading
use Rattle.semantic_syntax.specs.Source.{chain_within}
use Rattle.semantic_model.specs.Place.{Place, OpenScope, innermost}
use Rattle.semantic_model.specs.Place as place
use Rattle.semantic_model.specs.Declaration.{Route, passed_before, first_with, route_from, outward_to, outward_past}
use Rattle.semantic_model.specs.TablesOf.{numbers}
use Rattle.walk_model.proofs.places.Nested.{Descends}
use Rattle.walk_model.proofs.turns.ChainsShown.{IsOther, ShowsChain, chain_descends}

-- the scopes from one outward, in so many rounds
pub within_shown : (t : Tables) (rounds n : ℕ) (s : OpenScope) (ss : List OpenScope) → n ≤ rounds → Descends n (s ∷ ss) → ShowsChain t (s ∷ ss) → chain_within (reading.parent_of t.scopes) rounds s.number ≡ numbers (s ∷ ss)
unfolding chain_within
within_shown t zero n s ss l d h = absurd (omega (arith, l, d.0))
within_shown t (suc rounds) n s [] l d h = rw h.0.parent refl
within_shown t (suc rounds) n s (r ∷ rs) l d h = rw h.0.parent (ap (λ ns. s.number ∷ ns) (within_shown t rounds s.number r rs (omega (arith, l, d.0)) d.1 h.1))

pub rows_chain : (t : Tables) (s : OpenScope) (ss : List OpenScope) → ShowsChain t (s ∷ ss) → reading.chain t.scopes s.number ≡ numbers (s ∷ ss)
rows_chain t s ss h = within_shown t (length t.scopes) (length t.scopes) s ss (omega arith) (chain_descends t (s ∷ ss) h) h

-- a row as an open scope
abbrev pub open_row : Tables → ℕ → OpenScope
open_row t s = record place.no_scope { number = s; flags = (scope_of t s).flags.bits }

-- two ways through scopes of the same numbers
pub record SameWay (a b : Route) : Type 0 where
  pub passes : numbers a.passed ≡ numbers b.passed
  pub ends : a.target.number ≡ b.target.number

abbrev pub has : ℕ → OpenScope → Bool
has bits s = meets s.flags bits

abbrev pub open_rows : Tables → List OpenScope → List OpenScope
open_rows t ss = map (open_row t) (numbers ss)

-- through the rows of a chain the way is that through the chain
pub passed_shown : (t : Tables) (bits : ℕ) → IsOther bits → (ss : List OpenScope) → ShowsChain t ss → numbers (passed_before (has bits) (open_rows t ss)) ≡ numbers (passed_before (has bits) ss)
passed_shown t bits o [] h = refl
passed_shown t bits o (s ∷ ss) h = rw (h.0.flags bits o) (by (meets s.flags bits) (passed_shown t bits o ss h.1))
  where
    by : (b : Bool) → numbers (passed_before (has bits) (open_rows t ss)) ≡ numbers (passed_before (has bits) ss) → numbers (cond b [] (open_row t s.number ∷ passed_before (has bits) (open_rows t ss))) ≡ numbers (cond b [] (s ∷ passed_before (has bits) ss))
    by true k = refl
    by false k = ap (λ ns. s.number ∷ ns) k

abbrev pub found_number : Option OpenScope → Option ℕ
found_number None = None
found_number (Some s) = Some s.number

pub first_shown : (t : Tables) (bits : ℕ) → IsOther bits → (ss : List OpenScope) → ShowsChain t ss → found_number (first_with (has bits) (open_rows t ss)) ≡ found_number (first_with (has bits) ss)
first_shown t bits o [] h = refl
first_shown t bits o (s ∷ ss) h = rw (h.0.flags bits o) (by (meets s.flags bits) (first_shown t bits o ss h.1))
  where
    by : (b : Bool) → found_number (first_with (has bits) (open_rows t ss)) ≡ found_number (first_with (has bits) ss) → found_number (cond b (Some (open_row t s.number)) (first_with (has bits) (open_rows t ss))) ≡ found_number (cond b (Some s) (first_with (has bits) ss))
    by true k = refl
    by false k = k

same_route : (a b : OpenScope) (cs ds : List OpenScope) (ps qs : List OpenScope) (f g : Option OpenScope) → a.number ≡ b.number → numbers ps ≡ numbers qs → found_number f ≡ found_number g → SameWay (route_from (a ∷ cs) ps f) (route_from (b ∷ ds) qs g)
same_route a b cs ds ps qs None None e p q = record { passes = refl; ends = e }
same_route a b cs ds ps qs None (Some y) e p q = absurd cc
same_route a b cs ds ps qs (Some x) None e p q = absurd cc
same_route a b cs ds ps qs (Some x) (Some y) e p q = record { passes = p; ends = cc }

-- outward to the first scope with one of the flags, by the tables and by the chain
pub way_shown : (t : Tables) (bits : ℕ) (s : OpenScope) (ss : List OpenScope) → IsOther bits → ShowsChain t (s ∷ ss)
    → SameWay (outward_to (has bits) (map (open_row t) (reading.chain t.scopes s.number))) (outward_to (has bits) (s ∷ ss))
way_shown t bits s ss o h =
    subst (λ ns. SameWay (outward_to (has bits) (map (open_row t) ns)) (outward_to (has bits) (s ∷ ss))) (sym (rows_chain t s ss h))
    (same_route (open_row t s.number) s (open_rows t ss) ss (passed_before (has bits) (open_rows t (s ∷ ss))) (passed_before (has bits) (s ∷ ss)) (first_with (has bits) (open_rows t (s ∷ ss))) (first_with (has bits) (s ∷ ss))
    refl (passed_shown t bits o (s ∷ ss) h) (first_shown t bits o (s ∷ ss) h))

-- where the innermost scope isn't one, it makes no difference whether the way begins at it or outside it
pub past_innermost : (test : OpenScope → Bool) (s : OpenScope) (ss : List OpenScope) → test s ≡ false → outward_past test (s ∷ ss) ≡ outward_to test (s ∷ ss)
past_innermost test s ss e = rw e refl

-- the flags that are asked of a scope, by its row
pub strict_shown : (t : Tables) (s : OpenScope) (ss : List OpenScope) → ShowsChain t (s ∷ ss) → meets (scope_of t s.number).flags.bits flag.StrictMode.bits ≡ meets s.flags flag.StrictMode.bits
strict_shown t s ss h = h.0.flags flag.StrictMode.bits refl

pub var_shown : (t : Tables) (s : OpenScope) (ss : List OpenScope) → ShowsChain t (s ∷ ss) → meets (scope_of t s.number).flags.bits flag.Var.bits ≡ meets s.flags flag.Var.bits
var_shown t s ss h = h.0.flags flag.Var.bits refl

pub clause_shown : (t : Tables) (s : OpenScope) (ss : List OpenScope) → ShowsChain t (s ∷ ss) → meets (scope_of t s.number).flags.bits flag.CatchClause.bits ≡ meets s.flags flag.CatchClause.bits
clause_shown t s ss h = h.0.flags flag.CatchClause.bits refl

pub conditional_shown : (t : Tables) (s : OpenScope) (ss : List OpenScope) → ShowsChain t (s ∷ ss) → meets (scope_of t s.number).flags.bits flag.TsConditional.bits ≡ meets s.flags flag.TsConditional.bits
conditional_shown t s ss h = h.0.flags flag.TsConditional.bits refl

-- the same of the innermost scope of a chain
pub flags_at : (t : Tables) (bits : ℕ) (chain : List OpenScope) → IsOther bits → ShowsChain t chain → (chain ≡ [] → ⊥) → meets (scope_of t (innermost chain).number).flags.bits bits ≡ meets (innermost chain).flags bits
flags_at t bits [] o h f = absurd (f refl)
flags_at t bits (s ∷ ss) o h f = h.0.flags bits o

pub way_at : (t : Tables) (bits : ℕ) (chain : List OpenScope) → IsOther bits → ShowsChain t chain → (chain ≡ [] → ⊥)
    → SameWay (outward_to (has bits) (map (open_row t) (reading.chain t.scopes (innermost chain).number))) (outward_to (has bits) chain)
way_at t bits [] o h f = absurd (f refl)
way_at t bits (s ∷ ss) o h f = way_shown t bits s ss o h
