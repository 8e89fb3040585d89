-- Of a plain name whose declarations keep clear, a scope binds exactly what the environments of its opener bind, and that of a clause's body what the clause's binds.
use Rattle.std.proofs.Common.{◌≡◌, ℕ, ◌<◌, List, Option, Some, None, true, length, ◌⊎◌, false, sym, ap, subst, ◌∙◌, arith}
use Rattle.std.specs.Prelude.{slice_get}
use Rattle.std.proofs.lemmas.Option.{slice_get_within}
use Rattle.semantic_syntax.specs.Reading as reading
use Rattle.semantic_syntax.specs.Tables.{Name}
use Rattle.semantic_tree.specs.Faults.{first_fault}
use Rattle.semantic_tree.specs.Tree.{Tree, IsNumbered}
use Rattle.semantic_model.specs.Analysis.{analysis_of, symbol_at}
use Rattle.semantic_model.specs.Binding.{get}
use Rattle.semantic_model.specs.Declaration.{Declaration, home, body_or}
use Rattle.semantic_model.specs.Entries.{Among}
use Rattle.semantic_model.specs.Event.{declarations, events}
use Rattle.semantic_model.specs.Fold.{State, start}
use Rattle.semantic_model.specs.Hoist.{run}
use Rattle.semantic_model.specs.Place.{OpenScope}
use Rattle.semantic_model.specs.Step.{steps}
use Rattle.semantic_model.specs.TablesOf.{tables_of, scopes, evals}
use Rattle.semantic_model.proofs.fits.Outwards.{bound_as, scopes_length}
use Rattle.semantic_model.proofs.fold.Orders.{table_of}
use Rattle.binding_laws.proofs.ScopeOpeners.{openers, IsOpened, one_scope}
use Rattle.language_ties.specs.AgreeingNames.{IsPlainName}
use Rattle.language_ties.specs.Bound.{Bound}
use Rattle.language_ties.specs.EcmaScript.{is_ecmascript}
use Rattle.language_ties.specs.Environments.{is_made_for}
use Rattle.language_ties.specs.SharedSymbols.{AllKeepClear, ShareSymbols, HasHomesSymbol, IsDeclaredAt}
use Rattle.language_ties.specs.declared.environment_kind.EnvironmentKind.TheVariants as environment
use Rattle.language_ties.proofs.UndeclaredNames.{each_identifier}
use Rattle.language_ties.proofs.agree.KnownBounds.{KnownBound, bodiless}
use Rattle.language_ties.proofs.clear.SingleNames.{identifier_of, same_declaration, declared_once}
use Rattle.language_ties.proofs.caught.CaughtBounds.{IsTakenBy, made_where}
use Rattle.language_ties.proofs.moved.Settled.{settled, settled_bounds, settled_name, settled_identifier, settled_among}
use Rattle.language_ties.proofs.own_names.AnyBounds.{AnyBound, any_bound, IsDeclared, is_declared}
use Rattle.language_ties.proofs.shared.HomesShared.{share_symbols}
use Rattle.language_ties.proofs.symbols.SymbolNumbers.{symbol_is}

module _ (p : Tree) (h : first_fault p ≡ None) (e : is_ecmascript p ≡ true) (numbered : IsNumbered p.root) (x : Name) (clear : AllKeepClear x (declarations (events (steps p)))) (plain : IsPlainName p x) where
  abbrev table : List (Option ℕ)
  table = table_of p

  abbrev final : State
  final = run start (events (steps p))

  abbrev ws : List Bound
  ws = settled_bounds p

  abbrev shared : ShareSymbols p x
  shared = share_symbols p h e x clear

  -- the symbol
  pub symbol_of : (b : Bound) → KnownBound p h e numbered x plain b → ℕ
  symbol_of b k = (shared.share k.declares.declaration k.declares.among k.declares.named k.declares.visible).symbol

  pub has_symbol : (b : Bound) (k : KnownBound p h e numbered x plain b) → symbol_at (analysis_of p) b.identifier ≡ Some (symbol_of b k)
  unfolding symbol_of
  has_symbol b k =
      let s : HasHomesSymbol p k.declares.declaration = shared.share k.declares.declaration k.declares.among k.declares.named k.declares.visible in
      subst (λ i. symbol_at (analysis_of p) i ≡ Some s.symbol) k.declares.identifier (symbol_is p k.declares.declaration.naming.identifier s.symbol h numbered s.declared)

  within : (c : ℕ) (o : Option ℕ) → slice_get table c ≡ Some o → c < length (scopes (steps p))
  within c o q = omega (arith, slice_get_within table c o q, scopes_length (evals (steps p)) (steps p))

  -- what is bound at its home
  at_home : (b : Bound) (k : KnownBound p h e numbered x plain b) (c : ℕ) → home k.declares.declaration ≡ c → c < length (scopes (steps p)) → get final.bindings c x ≡ Some (symbol_of b k)
  unfolding symbol_of
  at_home b k c q i =
      let d : Declaration = k.declares.declaration in
      let y : HasHomesSymbol p d = shared.share d k.declares.among k.declares.named k.declares.visible in
      let there : reading.bound_in (tables_of p) (home d) x ≡ Some y.symbol = subst (λ n. reading.bound_in (tables_of p) (home d) n ≡ Some y.symbol) k.declares.named y.bound in
      sym (bound_as p c x i) ∙ subst (λ z. reading.bound_in (tables_of p) z x ≡ Some y.symbol) q there

  -- the scope that the maker of the environment opens binds the name to it, unless that is a clause
  pub answers : (b : Bound) (k : KnownBound p h e numbered x plain b) → is_made_for environment.Catch b.environment ≡ false → (s : OpenScope) → IsOpened (openers (steps p)) s → s.opener ≡ b.environment.maker → get final.bindings s.number x ≡ Some (symbol_of b k)
  answers b k apart s o q =
      let d : Declaration = k.declares.declaration in
      let number : d.route.target.number ≡ s.number = one_scope p numbered d.route.target s k.declares.opened o (k.declares.maker ∙ sym q) in
      let home_is : home d ≡ d.route.target.number = ap (body_or d.route.target.number) (bodiless p h e numbered x plain b k apart) in
      subst (λ c. get final.bindings c x ≡ Some (symbol_of b k)) number (at_home b k d.route.target.number home_is (within d.route.target.number d.route.target.body k.declares.entry))

  -- so does the scope that takes it over
  pub body_answers : (b : Bound) (k : KnownBound p h e numbered x plain b) (s : OpenScope) → slice_get table s.number ≡ Some s.body → k.declares.declaration.route.target.body ≡ Some s.number → get final.bindings s.number x ≡ Some (symbol_of b k)
  body_answers b k s entry q = at_home b k s.number (ap (body_or k.declares.declaration.route.target.number) q) (within s.number s.body entry)

  -- what is bound in a scope: by its opener, or by the clause whose body it is
  pub record IsAsked (s : OpenScope) : Type 0 where
    pub bind : Bound
    pub among : Among bind ws
    pub named : bind.name ≡ x
    pub there : (bind.environment.maker ≡ s.opener) ⊎ IsTakenBy p bind s.number

  asked_by : (s : OpenScope) → IsOpened (openers (steps p)) s → (d : Declaration) → Among d (declarations (events (steps p))) → home d ≡ s.number → (b : Bound) → Among b ws → b.name ≡ x → b.identifier ≡ identifier_of d → IsAsked s
  asked_by s o d there stands b a n i =
      let v : AnyBound p h e numbered x plain b = any_bound p h e numbered x plain b a n in
      let k : IsDeclared p h e numbered x plain b = is_declared p h e numbered x plain b v in
      let one : identifier_of d ≡ identifier_of k.declaration = sym i ∙ sym k.identifier in
      let same : d ≡ k.declaration = same_declaration d k.declaration (declarations (events (steps p))) there k.among one (declared_once p (identifier_of d) h numbered) in
      record { bind = b; among = a; named = n; there = made_where p h e numbered x plain b v s o (ap home (sym same) ∙ stands) }

  pub asked : (s : OpenScope) (y : ℕ) → IsOpened (openers (steps p)) s → slice_get table s.number ≡ Some s.body → get final.bindings s.number x ≡ Some y → IsAsked s
  asked s y o entry g =
      let there : reading.bound_in (tables_of p) s.number x ≡ Some y = bound_as p s.number x (within s.number s.body entry) ∙ g in
      let w : IsDeclaredAt p x s.number y = shared.bound s.number y there in
      let (b, a, n, i) = each_identifier p.source_type x (λ j. (b : Bound) × Among b ws × (b.name ≡ x) × (b.identifier ≡ j)) p h e (λ b a n. (settled b, settled_among p b a, settled_name b ∙ n, settled_identifier b)) w.declaration w.among w.named in
      asked_by s o w.declaration w.among w.stands b a n i
