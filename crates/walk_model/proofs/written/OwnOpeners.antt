-- In a numbered program two scopes have one number just where one node opens both.
use Rattle.std.proofs.Common.{◌≡◌, ℕ, zero, suc, ◌==◌, List, [], ◌∷◌, ◌++◌, None, Some, true, false, ◌&&◌, ◌||◌, inl, inr, refl, sym, ap, subst, ◌∙◌, length, flat_map, arith}
use Rattle.std.specs.Prelude.{slice_get}
use Rattle.std.specs.List.{AllByRecursion}
use Rattle.std.specs.Str.{bytes_eq}
use Rattle.std.proofs.lemmas.List.{length-append, append_assoc}
use Rattle.std.proofs.lemmas.Bool.Decides.{eqb_tells}
use Rattle.semantic_syntax.specs.declared.source_type.SourceType.{SourceType}
use Rattle.semantic_tree.specs.Faults.{first_fault}
use Rattle.semantic_tree.specs.Tree.{Tree}
use Rattle.semantic_model.specs.Place.{Place, OpenScope, innermost}
use Rattle.semantic_model.specs.Declaration.{Declaration, scope_it_stands_in}
use Rattle.semantic_syntax.specs.Members.{contains}
use Rattle.semantic_model.specs.Binder.{declared_by, declared_on_entering, declared_on_opening}
use Rattle.semantic_model.specs.Step.{Step, entering, opening, header_ending, closing, leaving, steps}
use Rattle.semantic_model.specs.Event.{counts_past, written_declarations, any_bars}
use Rattle.semantic_model.specs.TablesOf.{numbers}
use Rattle.walk_model.specs.WrittenNames.{any_standing}
use Rattle.walk_model.proofs.places.Nested.{AreNested, open_past, contains_more}
use Rattle.walk_model.proofs.places.Routes.{HasVar, grounded, GoesOut, AllGoOut, entering_goes, opening_goes}
use Rattle.walk_model.proofs.places.Grounds.{IsGrounded, AllGrounded, all_grounded}
use Rattle.walk_model.proofs.declares.Simulated.{program_nested}
use Rattle.walk_model.proofs.once.NodeIds.{AreDistinct, opener}
use Rattle.walk_model.proofs.written.ScopesAround.{AllHanded, AllHeld, program_held}

at_contains : (xs : List ℕ) (i x : ℕ) → slice_get xs i ≡ Some x → contains xs x ≡ true
at_contains [] i x h = absurd cc
at_contains (y ∷ xs) zero x h = let e : y ≡ x = cc in elim (eqb_tells y x) [ inl q ↦ rw q.0 refl | inr q ↦ absurd (q.1 e) ]
at_contains (y ∷ xs) (suc i) x h = contains_more y xs x (at_contains xs i x h)

not_later : (y : ℕ) (xs : List ℕ) (i x : ℕ) → contains xs y ≡ false → y ≡ x → slice_get xs i ≡ Some x → ⊥
not_later y xs i x d e h = let w : false ≡ true = sym d ∙ ap (contains xs) e ∙ at_contains xs i x h in absurd cc

-- in a list of distinct numbers each stands at one place
same_place : (xs : List ℕ) (i j x : ℕ) → AreDistinct xs → slice_get xs i ≡ Some x → slice_get xs j ≡ Some x → i ≡ j
same_place [] i j x d h k = absurd cc
same_place (y ∷ xs) zero zero x d h k = refl
same_place (y ∷ xs) zero (suc j) x d h k = let e : y ≡ x = cc in absurd (not_later y xs j x d.0 e k)
same_place (y ∷ xs) (suc i) zero x d h k = let e : y ≡ x = cc in absurd (not_later y xs i x d.0 e h)
same_place (y ∷ xs) (suc i) (suc j) x d h k = ap suc (same_place xs i j x d.1 h k)

-- the scope's node stands in the list under the scope's number
abbrev pub IsListed : List ℕ → OpenScope → Type 0
IsListed openers s = slice_get openers s.number ≡ Some s.opener

is_same : (m n : ℕ) → m ≡ n → (m == n) ≡ true
is_same m n e = elim (eqb_tells m n) [ inl q ↦ q.0 | inr q ↦ absurd (q.1 e) ]

is_other : (m n : ℕ) → (m ≡ n → ⊥) → (m == n) ≡ false
is_other m n f = elim (eqb_tells m n) [ inl q ↦ absurd (f q.1) | inr q ↦ q.0 ]

pub one_to_one : (openers : List ℕ) (s c : OpenScope) → AreDistinct openers → IsListed openers s → IsListed openers c → (s.number == c.number) ≡ (s.opener == c.opener)
one_to_one openers s c d h k = elim (eqb_tells s.number c.number) [
  | inl q ↦ q.0 ∙ sym (is_same s.opener c.opener (same_opener q.1))
  | inr q ↦ q.0 ∙ sym (is_other s.opener c.opener (λ e. q.1 (same_place openers s.number c.number c.opener d (subst (λ x. slice_get openers s.number ≡ Some x) e h) k)))
]
  where
    same_opener : s.number ≡ c.number → s.opener ≡ c.opener
    same_opener e = let w : Some s.opener ≡ Some c.opener = sym h ∙ ap (slice_get openers) e ∙ k in cc

get_middle : (xs : List ℕ) (x : ℕ) (ys : List ℕ) (n : ℕ) → n ≡ length xs → slice_get (xs ++ x ∷ ys) n ≡ Some x
get_middle [] x ys zero e = refl
get_middle [] x ys (suc n) e = absurd (omega (arith, e))
get_middle (y ∷ xs) x ys zero e = absurd (omega (arith, e))
get_middle (y ∷ xs) x ys (suc n) e = get_middle xs x ys n (omega (arith, e))

-- scopes are numbered as they open
listed_steps : (all : List ℕ) (t : SourceType) (stack : List ℕ) (seen : List (List ℕ)) (before : List ℕ) (ss : List Step) → length before ≡ length seen → before ++ flat_map opener ss ≡ all → AreNested stack seen ss → AllHanded (IsListed all) t ss
listed_steps all t stack seen before [] l e h = tt
listed_steps all t stack seen before (opening p s ∷ ss) l e h =
    let number_is : s.number ≡ length before = ap (λ o. o.number) h.0.1 ∙ sym l in
    let here : IsListed all s = subst (λ xs. slice_get xs s.number ≡ Some s.opener) e (get_middle before s.opener (flat_map opener ss) s.number number_is) in
    let longer : length (before ++ s.opener ∷ []) ≡ length (seen ++ numbers p.chain ∷ []) = omega (arith, length-append before (s.opener ∷ []), length-append seen (numbers p.chain ∷ []), l) in
    (λ q k. here, listed_steps all t (s.number ∷ stack) (seen ++ numbers p.chain ∷ []) (before ++ s.opener ∷ []) ss longer (append_assoc before (s.opener ∷ []) (flat_map opener ss) ∙ e) h.1)
listed_steps all t stack seen before (entering p ∷ ss) l e h = (tt, listed_steps all t stack seen before ss l e h.1)
listed_steps all t stack seen before (header_ending p s ∷ ss) l e h = (tt, listed_steps all t stack seen before ss l e h.1)
listed_steps all t stack seen before (closing p s ∷ ss) l e h = (tt, listed_steps all t (open_past stack (closing p s)) seen before ss l e h.1)
listed_steps all t stack seen before (leaving p ∷ ss) l e h = (tt, listed_steps all t stack seen before ss l e h.1)

-- the nodes that open a scope, in order
abbrev pub openers_of : Tree → List ℕ
openers_of program = flat_map opener (steps program)

pub all_listed : (program : Tree) → AllHeld (IsListed (openers_of program)) program.source_type (steps program)
all_listed program =
    program_held (IsListed (openers_of program)) program (λ s b h. h) (listed_steps (openers_of program) program.source_type [] [] [] (steps program) refl refl (program_nested program))

-- where a declaration stands
standing_is : (chain : List OpenScope) (d : Declaration) → GoesOut chain d → scope_it_stands_in d ≡ innermost (grounded chain)
standing_is chain d w = go d.route.passed d.route.target w.rest w.is
  where
    go : (passed : List OpenScope) (target : OpenScope) (rest : List OpenScope) → passed ++ target ∷ rest ≡ grounded chain → innermost (passed ++ target ∷ []) ≡ innermost (grounded chain)
    go [] target rest e = ap innermost e
    go (s ∷ ss) target rest e = ap innermost e

module _ (all : List ℕ) where
  abbrev pub StandListed : List Declaration → Type 0
  StandListed ds = AllByRecursion (λ e. IsListed all (scope_it_stands_in e)) ds

  listed-append : (ds es : List Declaration) → StandListed ds → StandListed es → StandListed (ds ++ es)
  listed-append [] es h k = k
  listed-append (d ∷ ds) es h k = (h.0, listed-append ds es h.1 k)

  goes_listed : (chain : List OpenScope) (ds : List Declaration) → IsListed all (innermost (grounded chain)) → AllGoOut chain ds → StandListed ds
  goes_listed chain [] l h = tt
  goes_listed chain (d ∷ ds) l h = (subst (IsListed all) (sym (standing_is chain d h.0)) l, goes_listed chain ds l h.1)

  first_listed : (chain : List OpenScope) → HasVar chain → AllByRecursion (IsListed all) chain → IsListed all (innermost (grounded chain))
  first_listed [] v h = absurd (v refl)
  first_listed (s ∷ ss) v h = h.0

  entering_listed : (p : Place) → IsGrounded p → AllByRecursion (IsListed all) p.chain → StandListed (declared_on_entering p)
  entering_listed p (inl v) h = goes_listed p.chain (declared_on_entering p) (first_listed p.chain v h) (entering_goes p.node.kind p v)
  entering_listed p (inr e) h = subst (λ k. StandListed (declared_by k p)) (sym e) tt

  standing_listed : (t : SourceType) (ss : List Step) → AllGrounded ss → AllHeld (IsListed all) t ss → StandListed (written_declarations ss)
  standing_listed t [] g h = tt
  standing_listed t (entering p ∷ ss) g h = listed-append (declared_on_entering p) (written_declarations ss) (entering_listed p g.0 h.0.1) (standing_listed t ss g.1 h.1)
  standing_listed t (opening p s ∷ ss) g h =
      listed-append (declared_on_opening p s) (written_declarations ss) (goes_listed (s ∷ p.chain) (declared_on_opening p s) h.0.1 (opening_goes p.node.kind p s)) (standing_listed t ss g.1 h.1)
  standing_listed t (header_ending p s ∷ ss) g h = standing_listed t ss g.1 h.1
  standing_listed t (closing p s ∷ ss) g h = standing_listed t ss g.1 h.1
  standing_listed t (leaving p ∷ ss) g h = standing_listed t ss g.1 h.1

  -- so the declarations of a scope are those that stand where its node opens one
  pub bars_standing : (d : Declaration) (c : OpenScope) (ds : List Declaration) → AreDistinct all → IsListed all c → StandListed ds → any_bars d c ds ≡ any_standing c.opener d.naming.name ds
  bars_standing d c [] f l h = refl
  bars_standing d c (e ∷ es) f l h =
      ap (λ b. (counts_past e && b && bytes_eq e.naming.name d.naming.name) || any_bars d c es) (one_to_one all (scope_it_stands_in e) c f h.0 l)
      ∙ ap (λ b. (counts_past e && (scope_it_stands_in e).opener == c.opener && bytes_eq e.naming.name d.naming.name) || b) (bars_standing d c es f l h.1)

pub all_standing : (program : Tree) → first_fault program ≡ None → StandListed (openers_of program) (written_declarations (steps program))
all_standing program h = standing_listed (openers_of program) program.source_type (steps program) (all_grounded program h) (all_listed program)
