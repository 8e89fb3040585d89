-- Each declaration goes out along the chain of the place where it is written.
use Rattle.std.proofs.Common.{◌≡◌, ℕ, ◌<◌, List, [], ◌∷◌, ◌++◌, Option, Some, None, Bool, true, false, cond, ◌&&◌, ◌||◌, not, refl, sym, ap, if◌then◌else◌, arith}
use Rattle.semantic_kinds.specs.declared.kind.AstType.{AstType}
use Rattle.semantic_syntax.specs.SourceTypes.{is_typescript}
use Rattle.semantic_syntax.proofs.Truth.{and_second}
use Rattle.semantic_model.specs.Place.{Place, OpenScope, no_scope, innermost, outside, is_strict}
use Rattle.semantic_model.specs.Declaration.{How, plain, hoisted, moved, caught, Declaration, Route, here, passed_before, first_with, route_from, outward_to, outward_past, scope_it_stands_in}
use Rattle.semantic_model.specs.Binder.{is_var, is_clause, is_conditional, is_special, is_block_function, declared_by, declared_inside}
use Rattle.semantic_model.proofs.fold.EachDeclared.{EachDeclared, each_on_entering, each_on_opening}
use Rattle.semantic_model.specs.Event.{is_barred, staying_declaration, placed_by}
use Rattle.walk_model.proofs.places.Nested.{Descends}
use Rattle.walk_model.proofs.shows.ShownHoists.{ArePassed}
pub use Rattle.walk_model.specs.Shown.{HasVar}

-- the scopes of a place; outside of all it stands in none that counts
abbrev pub grounded : List OpenScope → List OpenScope
grounded [] = no_scope ∷ []
grounded (s ∷ ss) = s ∷ ss

abbrev pub Leaves : How → List OpenScope → Type 0
Leaves moved passed = passed ≡ [] → ⊥
Leaves _ passed = Unit {0}

-- a way out along the chain; a block function leaves its block
pub record IsWay (chain : List OpenScope) (how : How) (passed : List OpenScope) (target : OpenScope) : Type 0 where
  pub rest : List OpenScope
  pub is : passed ++ target ∷ rest ≡ grounded chain
  pub leaves : Leaves how passed

abbrev pub IsRoute : List OpenScope → How → Route → Type 0
IsRoute chain how r = IsWay chain how r.passed r.target

abbrev pub GoesOut : List OpenScope → Declaration → Type 0
GoesOut chain d = IsRoute chain d.how d.route

abbrev pub AllGoOut : List OpenScope → List Declaration → Type 0
AllGoOut chain = EachDeclared (GoesOut chain)

here_is : (chain : List OpenScope) → IsRoute chain plain (here chain)
here_is [] = record { rest = []; is = refl; leaves = tt }
here_is (s ∷ ss) = record { rest = ss; is = refl; leaves = tt }

-- the chain, parted at the first scope with which the test holds
record Parted (test : OpenScope → Bool) (chain : List OpenScope) (s : OpenScope) : Type 0 where
  rest : List OpenScope
  is : passed_before test chain ++ s ∷ rest ≡ chain

parted : (test : OpenScope → Bool) (chain : List OpenScope) (s : OpenScope) → first_with test chain ≡ Some s → Parted test chain s
parted test [] s h = absurd cc
parted test (c ∷ cs) s h = go (parted test cs s) (test c) refl h
  where
    go : (first_with test cs ≡ Some s → Parted test cs s) → (b : Bool) → test c ≡ b → cond b (Some c) (first_with test cs) ≡ Some s → Parted test (c ∷ cs) s
    go later true e k = let q : c ≡ s = cc in record { rest = cs; is = rw e (ap (λ x. x ∷ cs) (sym q)) }
    go later false e k = let p : Parted test cs s = later k in record { rest = p.rest; is = rw e (ap (λ xs. c ∷ xs) p.is) }

outward_is : (test : OpenScope → Bool) (chain : List OpenScope) (how : How) → ((passed : List OpenScope) → Leaves how passed) → IsRoute chain how (outward_to test chain)
outward_is test chain how l = go (first_with test chain) refl
  where
    bare : (c : List OpenScope) → IsRoute c how (here c)
    bare [] = record { rest = []; is = refl; leaves = l [] }
    bare (s ∷ ss) = record { rest = ss; is = refl; leaves = l [] }

    solid : (c xs : List OpenScope) (s : OpenScope) (rest : List OpenScope) → xs ++ s ∷ rest ≡ c → xs ++ s ∷ rest ≡ grounded c
    solid [] [] s rest e = absurd cc
    solid [] (x ∷ xs) s rest e = absurd cc
    solid (y ∷ ys) xs s rest e = e

    go : (o : Option OpenScope) → first_with test chain ≡ o → IsRoute chain how (route_from chain (passed_before test chain) o)
    go None e = bare chain
    go (Some s) e = let p : Parted test chain s = parted test chain s e in record { rest = p.rest; is = solid chain (passed_before test chain) s p.rest p.is; leaves = l (passed_before test chain) }

pub not_var : (p : Place) → is_block_function p ≡ true → is_var (innermost p.chain) ≡ false
not_var p h = go (is_var (innermost p.chain)) (is_clause (innermost p.chain)) (and_second (not (is_special p.node) && not (is_typescript p.source_type) && not (is_strict p.chain)) (not (is_var (innermost p.chain) || is_clause (innermost p.chain))) h)
  where
    go : (a b : Bool) → not (a || b) ≡ true → a ≡ false
    go true b k = absurd cc
    go false b k = refl

past_is : (chain : List OpenScope) → HasVar chain → is_var (innermost chain) ≡ false → IsRoute chain moved (outward_past is_var chain)
past_is [] v f = absurd (v refl)
past_is (s ∷ ss) v f = go (first_with is_var ss) refl
  where
    go : (o : Option OpenScope) → first_with is_var ss ≡ o → IsRoute (s ∷ ss) moved (route_from (s ∷ ss) (s ∷ passed_before is_var ss) o)
    go None e = absurd (v (rw (f, e) refl))
    go (Some t) e = let p : Parted is_var ss t = parted is_var ss t e in record { rest = p.rest; is = ap (λ xs. s ∷ xs) p.is; leaves = λ q. absurd cc }

caught_is : (chain : List OpenScope) → IsRoute chain caught (here chain)
caught_is [] = record { rest = []; is = refl; leaves = tt }
caught_is (s ∷ ss) = record { rest = ss; is = refl; leaves = tt }

pub entering_goes : (k : AstType) (p : Place) → HasVar p.chain → AllGoOut p.chain (declared_by k p)
entering_goes k p v = each_on_entering (GoesOut p.chain) (IsRoute p.chain) (λ node row is_pure name h. h) k p (record {
  at_home = here_is p.chain;
  when_caught = caught_is p.chain;
  when_hoisted = λ e. outward_is is_var p.chain hoisted (λ xs. tt);
  when_moved = λ e s q. past_is p.chain v (not_var p q);
  when_inferred = outward_is is_conditional p.chain plain (λ xs. tt);
})

own_is : (s : OpenScope) (chain : List OpenScope) → IsRoute (s ∷ chain) plain (here (s ∷ []))
own_is s chain = record { rest = chain; is = refl; leaves = tt }

pub opening_goes : (k : AstType) (p : Place) (own : OpenScope) → AllGoOut (own ∷ p.chain) (declared_inside k p own)
opening_goes k p own = each_on_opening (GoesOut (own ∷ p.chain)) (IsRoute (own ∷ p.chain)) (λ node row is_pure name h. h) k p own (λ e. own_is own p.chain)

stays_is : (chain passed : List OpenScope) (target : OpenScope) (rest : List OpenScope) → passed ++ target ∷ rest ≡ grounded chain → IsWay chain plain [] (innermost (passed ++ target ∷ []))
stays_is chain [] target rest e = record { rest = rest; is = e; leaves = tt }
stays_is chain (s ∷ ss) target rest e = record { rest = ss ++ target ∷ rest; is = e; leaves = tt }

-- a block function that stays does so too
pub placed_goes : (chain : List OpenScope) (how : How) (ds : List Declaration) (d : Declaration) → GoesOut chain d → GoesOut chain (placed_by how ds d)
placed_goes chain plain ds d h = h
placed_goes chain hoisted ds d h = h
placed_goes chain caught ds d h = h
placed_goes chain moved ds d h = go (is_barred ds d (outside d.route.passed))
  where
    go : (b : Bool) → GoesOut chain (if b then staying_declaration d else d)
    go true = let w : IsWay chain plain [] (scope_it_stands_in d) = stays_is chain d.route.passed d.route.target h.rest h.is in record { rest = w.rest; is = w.is; leaves = tt }
    go false = h

-- along a chain that descends, the target is below what is passed
pub target_below : (n : ℕ) (passed : List OpenScope) (target : OpenScope) (rest : List OpenScope) → Descends n (passed ++ target ∷ rest) → target.number < n
target_below n [] target rest h = h.0
target_below n (s ∷ ss) target rest h = omega (arith, target_below s.number ss target rest h.1, h.0)

pub passed_apart : (n : ℕ) (passed : List OpenScope) (target : OpenScope) (rest : List OpenScope) → (c : ℕ) → c < n → Descends c (passed ++ target ∷ rest) → ArePassed n passed target.number
passed_apart n [] target rest c l h = tt
passed_apart n (s ∷ ss) target rest c l h =
    let below : target.number < s.number = target_below s.number ss target rest h.1 in
    (omega (arith, h.0), λ e. absurd (omega (arith, below, e)), passed_apart n ss target rest s.number (omega (arith, h.0)) h.1)
