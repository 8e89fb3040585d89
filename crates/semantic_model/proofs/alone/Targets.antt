-- A declaration whose target has a body stands in that scope itself.
use Rattle.std.proofs.Common.{◌≡◌, ℕ, List, [], ◌∷◌, Option, Some, None, Bool, true, false, cond, refl, sym, ◌∙◌}
use Rattle.semantic_kinds.specs.Kinds.{same_kind}
use Rattle.semantic_kinds.specs.declared.kind.AstType.{AstType}
use Rattle.semantic_kinds.specs.declared.kind.AstType.TheVariants as kind
use Rattle.semantic_model.specs.Place.{Place, OpenScope, innermost}
use Rattle.semantic_model.specs.Declaration.{How, Route, Declaration, here, passed_before, first_with, route_from, outward_to, outward_past}
use Rattle.semantic_model.specs.Binder.{is_var, is_conditional, declared_by, declared_inside}
use Rattle.semantic_model.proofs.fold.BodyChains.{InTable, AllInTable}
use Rattle.semantic_model.proofs.fold.EachDeclared.{EachDeclared, each_on_entering, each_on_opening}

module _ (table : List (Option ℕ)) where
  -- a scope with a body is the innermost of the chain
  abbrev pub IsOwn : List OpenScope → OpenScope → Type 0
  IsOwn chain s = (b : ℕ) → s.body ≡ Some b → s ≡ innermost chain

  abbrev pub AllOwn : List OpenScope → List Declaration → Type 0
  AllOwn chain = EachDeclared (λ d. IsOwn chain d.route.target)

  here_own : (chain : List OpenScope) → IsOwn chain (here chain).target
  here_own chain b e = refl

  -- a scope that passes the test has no body
  abbrev Bodiless : (OpenScope → Bool) → Type 0
  Bodiless test = (s : OpenScope) → InTable table s → test s ≡ true → (b : ℕ) → s.body ≡ Some b → ⊥

  var_bodiless : Bodiless is_var
  var_bodiless s h t b e = let q : true ≡ false = sym t ∙ (h.plain b e).0 in absurd cc

  conditional_bodiless : Bodiless is_conditional
  conditional_bodiless s h t b e = let q : true ≡ false = sym t ∙ (h.plain b e).1 in absurd cc

  abbrev NoBody : Option OpenScope → Type 0
  NoBody None = Unit {0}
  NoBody (Some s) = (b : ℕ) → s.body ≡ Some b → ⊥

  first_bodiless : (test : OpenScope → Bool) (chain : List OpenScope) → Bodiless test → AllInTable table chain → NoBody (first_with test chain)
  first_bodiless test [] f h = tt
  first_bodiless test (s ∷ ss) f h = go (test s) refl (first_bodiless test ss f h.1)
    where
      go : (b : Bool) → test s ≡ b → NoBody (first_with test ss) → NoBody (cond b (Some s) (first_with test ss))
      go true e k = f s h.0 e
      go false e k = k

  from_own : (chain passed : List OpenScope) (o : Option OpenScope) → NoBody o → IsOwn chain (route_from chain passed o).target
  from_own chain passed None h = here_own chain
  from_own chain passed (Some s) h = λ b e. absurd (h b e)

  outward_own : (test : OpenScope → Bool) (chain : List OpenScope) → Bodiless test → AllInTable table chain → IsOwn chain (outward_to test chain).target
  outward_own test chain f h = from_own chain (passed_before test chain) (first_with test chain) (first_bodiless test chain f h)

  past_own : (chain : List OpenScope) → AllInTable table chain → IsOwn chain (outward_past is_var chain).target
  past_own [] h = here_own []
  past_own (s ∷ ss) h = from_own (s ∷ ss) (s ∷ passed_before is_var ss) (first_with is_var ss) (first_bodiless is_var ss var_bodiless h.1)

  abbrev IsRouteOwn : List OpenScope → How → Route → Type 0
  IsRouteOwn chain how r = IsOwn chain r.target

  pub entering_own : (k : AstType) (p : Place) → AllInTable table p.chain → AllOwn p.chain (declared_by k p)
  entering_own k p h = each_on_entering (λ d. IsOwn p.chain d.route.target) (IsRouteOwn p.chain) (λ node row is_pure name o. o) k p (record {
    at_home = here_own p.chain;
    when_caught = here_own p.chain;
    when_hoisted = λ e. outward_own is_var p.chain var_bodiless h;
    when_moved = λ e s q. past_own p.chain h;
    when_inferred = outward_own is_conditional p.chain conditional_bodiless h;
  })

  abbrev pub AllBodiless : List Declaration → Type 0
  AllBodiless = EachDeclared (λ d. d.route.target.body ≡ None)

  -- an own scope in which something is declared is no clause's
  pub inside_bodiless : (k : AstType) (p : Place) (own : OpenScope) → (same_kind k kind.CatchClause ≡ false → own.body ≡ None) → AllBodiless (declared_inside k p own)
  inside_bodiless k p own h = each_on_opening (λ d. d.route.target.body ≡ None) (λ how r. r.target.body ≡ None) (λ node row is_pure name o. o) k p own h
