-- As a header ends, its scope binds what the declarations outside of its body bind.
use Rattle.std.proofs.Common.{◌≡◌, ℕ, ◌<◌, ◌==◌, List, [], ◌∷◌, ◌++◌, Option, Some, None, Bool, true, false, cond, inl, inr, refl, sym, ap, subst, ◌∙◌, length, filter, option_map, bytes_eq, arith}
use Rattle.std.specs.Prelude.{slice_get}
use Rattle.std.proofs.lemmas.Bool.{ne_eqb, eq-eqb, and_from, and_left, and_right}
use Rattle.std.proofs.lemmas.List.Sums.{fold-append}
use Rattle.semantic_syntax.specs.declared.symbol_flags.TheConstants.SymbolFlags as symbol
use Rattle.semantic_syntax.specs.Lookup.{Seen}
use Rattle.semantic_syntax.specs.Sets.{meets, union}
use Rattle.semantic_syntax.specs.Tables.{Name, Symbol}
use Rattle.semantic_model.specs.Binding.{get}
use Rattle.semantic_model.specs.Declaration.{Declaration}
use Rattle.semantic_model.specs.Event.{Event, declares, takes_over, ends_header}
use Rattle.semantic_model.specs.Fold.{State, Made, start, make, declare_in, found, or_else, unless_expression, flags_of, flags_or_none, united, redeclared, new_symbol}
use Rattle.semantic_model.specs.Hoist.{act, run, declare_by}
use Rattle.semantic_model.specs.Tie.{seen_as, until_end_of}
use Rattle.semantic_model.proofs.fold.Changes.{Sound, Holds, HasName}
use Rattle.semantic_model.proofs.fold.Orders.{Adds, adds}
use Rattle.semantic_model.proofs.fold.TakeOvers.{Orderly, sound_act}
use Rattle.semantic_model.proofs.lists.BindingLaws.{get-put, get-put_other, get_among}
use Rattle.semantic_model.proofs.lists.Bounds.{IsSound, get_below}
use Rattle.semantic_model.proofs.lists.Growth.{act_grows}
use Rattle.semantic_model.proofs.lists.SymbolLaws.{get-update, get-push, get-last}
use Rattle.semantic_model.proofs.once.ListedUnder.{name_tells}
use Rattle.semantic_model.proofs.once.UseLists.{IsBelow}
use Rattle.walk_model.proofs.headers.Sides.{IsSided, ArePassedOn, act_sided}
use Rattle.walk_model.proofs.headers.OtherSide.{Keeps, run_keeps, capped, capped_beyond, capped_sided}
use Rattle.walk_model.proofs.headers.TouchedScopes.{Touches}
use Rattle.binding_laws.specs.SeenDeclarations.{stands_before_body, is_before_body, seen_alone, with_declaration, bound_by_all}
use Rattle.binding_laws.proofs.CutEvents.{is_scope, IsSimple, InHeader, IsBefore, IsBehind, AllBehind, Cut, no_end, ended, not_yet}
use Rattle.binding_laws.proofs.ListLaws.{filter_push}
use Rattle.binding_laws.proofs.Unremembered.{act_remembers}

pub or_none : (o : Option ℕ) → or_else o None ≡ o
or_none None = refl
or_none (Some s) = refl

abbrev pub seen_with : ℕ → ℕ → Option Seen
seen_with y flags = Some (record { symbol = y; flags = flags })

abbrev pub with_or : ℕ → ℕ → Made → Bool → Option Seen
with_or y flags m t = Some (cond t (record { symbol = y; flags = flags }) (seen_alone m))

module _ (c : ℕ) where
  -- the declarations of the name outside of the body, of those so far
  abbrev pub counted : State → Name → List Made
  counted st x = filter (is_before_body c x) st.made

  -- what the scope binds is what these bind
  abbrev pub IsCounted : State → Type 0
  IsCounted st = (x : Name) → seen_as st (get st.bindings c x) ≡ bound_by_all (counted st x)

  pub record IsHeader (st : State) : Type 0 where
    pub bound : IsCounted st
    pub unremembered : (x : Name) → get st.remembered c x ≡ None
    pub side : ℕ → Bool
    pub sided : IsSided (is_scope c) side st

  bound_below : (st : State) (x : Name) (y : ℕ) → IsSound st → get st.bindings c x ≡ Some y → y < length st.symbols
  bound_below st x y b e = subst (IsBelow (length st.symbols)) e (get_below (length st.symbols) st.bindings c x b.bindings)

  -- a declaration that doesn't count
  uncounted : (x : Name) (ms : List Made) (m : Made) → stands_before_body c m.declaration ≡ false → filter (is_before_body c x) (ms ++ m ∷ []) ≡ filter (is_before_body c x) ms
  uncounted x ms m e =
      let q : is_before_body c x m ≡ false = and_left (stands_before_body c m.declaration) (bytes_eq m.declaration.naming.name x) e in
      filter_push (is_before_body c x) ms m ∙ ap (λ b. cond b (filter (is_before_body c x) ms ++ m ∷ []) (filter (is_before_body c x) ms)) q

  uncounted_act : (st : State) (e : Event) → IsBehind c e → (x : Name) → counted (act st e) x ≡ counted st x
  uncounted_act st (declares d) h x =
      let w : Adds st.made d (act st (declares d)).made = adds st d in
      ap (filter (is_before_body c x)) w.adds ∙ uncounted x st.made (record { declaration = d; symbol = w.symbol }) h
  uncounted_act st (takes_over a b) h x = refl
  uncounted_act st (ends_header d) h x = refl

  uncounted_run : (st : State) (es : List Event) → AllBehind c es → (x : Name) → counted (run st es) x ≡ counted st x
  uncounted_run st [] h x = refl
  uncounted_run st (e ∷ es) h x = uncounted_run (act st e) es h.1 x ∙ uncounted_act st e h.0 x

  -- an event elsewhere
  leaves_alone : (st : State) (e : Event) → Touches (is_scope c) false e → IsBehind c e → IsSound st → IsHeader st → IsHeader (act st e)
  leaves_alone st e t u b h = record {
    bound = λ x. ap (seen_as (act st e)) (kept.bound c x here) ∙ same_seen x (get st.bindings c x) refl ∙ h.bound x ∙ ap bound_by_all (sym (uncounted_act st e u x));
    unremembered = λ x. act_remembers c x st e t ∙ h.unremembered x;
    side = side;
    sided = act_sided (is_scope c) side false st e (t side) (capped_beyond h.side (length st.symbols) false (length st.symbols) (omega arith)) sided;
  }
    where
      here : is_scope c c ≡ true
      here = eq-eqb c c refl

      side : ℕ → Bool
      side = capped h.side (length st.symbols) false

      sided : IsSided (is_scope c) side st
      sided = capped_sided (is_scope c) h.side false st b h.sided

      kept : Keeps (is_scope c) side st (act st e)
      kept = run_keeps (is_scope c) side st (e ∷ []) (t side, tt) (λ n l. capped_beyond h.side (length st.symbols) false n l) sided

      same_seen : (x : Name) (o : Option ℕ) → get st.bindings c x ≡ o → seen_as (act st e) o ≡ seen_as st o
      same_seen x None q = refl
      same_seen x (Some y) q = ap (seen_with y) (kept.flags y (sym (sided.bindings (record { scope = c; name = x; symbol = y }) (get_among st.bindings c x y q)) ∙ here) (bound_below st x y b q))

  -- one more that counts, of the name or of another
  counted_same : (ms : List Made) (m : Made) (x : Name) → stands_before_body c m.declaration ≡ true → bytes_eq m.declaration.naming.name x ≡ true → bound_by_all (filter (is_before_body c x) (ms ++ m ∷ [])) ≡ with_declaration (bound_by_all (filter (is_before_body c x) ms)) m
  counted_same ms m x e q =
      let t : is_before_body c x m ≡ true = and_from (stands_before_body c m.declaration) (bytes_eq m.declaration.naming.name x) e q in
      ap bound_by_all (filter_push (is_before_body c x) ms m ∙ ap (λ b. cond b (filter (is_before_body c x) ms ++ m ∷ []) (filter (is_before_body c x) ms)) t)
      ∙ fold-append with_declaration None (filter (is_before_body c x) ms) (m ∷ [])

  counted_other : (ms : List Made) (m : Made) (x : Name) → bytes_eq m.declaration.naming.name x ≡ false → filter (is_before_body c x) (ms ++ m ∷ []) ≡ filter (is_before_body c x) ms
  counted_other ms m x q =
      let t : is_before_body c x m ≡ false = and_right (stands_before_body c m.declaration) (bytes_eq m.declaration.naming.name x) q in
      filter_push (is_before_body c x) ms m ∙ ap (λ b. cond b (filter (is_before_body c x) ms ++ m ∷ []) (filter (is_before_body c x) ms)) t

  -- a new symbol
  make_counts : (st : State) (d : Declaration) → stands_before_body c d ≡ true → IsSound st → IsCounted st → IsCounted (make st c d)
  make_counts st d e b h x = elim (name_tells d.naming.name x) [
    | inl q ↦ ap (seen_as (make st c d)) (get-put st.bindings c d.naming.name n c x ∙ ap (λ t. cond t (Some n) (get st.bindings c x)) (and_from (c == c) (bytes_eq d.naming.name x) (eq-eqb c c refl) q.0))
        ∙ ap (seen_with n) (ap flags_or_none (get-last st.symbols (new_symbol c d.naming)))
        ∙ sym (new_seen (get st.bindings c x) refl)
        ∙ ap (λ o. with_declaration o m) (h x)
        ∙ sym (counted_same st.made m x e q.0)
    | inr q ↦ ap (seen_as (make st c d)) (get-put_other st.bindings c d.naming.name n c x (and_right (c == c) (bytes_eq d.naming.name x) q.0))
        ∙ old_seen (get st.bindings c x) refl
        ∙ h x
        ∙ ap bound_by_all (sym (counted_other st.made m x q.0))
  ]
    where
      n : ℕ
      n = length st.symbols

      m : Made
      m = record { declaration = d; symbol = n }

      new_seen : (o : Option ℕ) → get st.bindings c x ≡ o → with_declaration (seen_as st o) m ≡ seen_with n d.naming.flags
      new_seen None g = refl
      new_seen (Some s) g = ap (with_or s (union (flags_of st s) d.naming.flags) m) (ne_eqb s n (λ i. absurd (omega (arith, i, bound_below st x s b g))))

      old_seen : (o : Option ℕ) → get st.bindings c x ≡ o → seen_as (make st c d) o ≡ seen_as st o
      old_seen None g = refl
      old_seen (Some s) g = ap (seen_with s) (ap flags_or_none (get-push st.symbols (new_symbol c d.naming) s (bound_below st x s b g)))

  -- a symbol that is bound is there, and has the name
  bound_name : (table : List (Option ℕ)) (st : State) (x : Name) (s : ℕ) → Sound table st → get st.bindings c x ≡ Some s → HasName st.symbols s x
  bound_name table st x s h e =
      let k : Holds table st.made c x s = h.bound (record { scope = c; name = x; symbol = s }) (get_among st.bindings c x s e) in
      subst (λ y. HasName st.symbols s y) k.named (subst (λ r. HasName st.symbols r k.made.declaration.naming.name) k.symbol (h.has_name k.made k.among))

  one_name : (ys : List Symbol) (s : ℕ) (x y : Name) → HasName ys s x → HasName ys s y → x ≡ y
  one_name ys s x y h k =
      let q : Some h.symbol ≡ Some k.symbol = sym h.is_there ∙ k.is_there in
      let i : h.symbol ≡ k.symbol = cc in
      sym h.named ∙ ap (λ z. z.name) i ∙ k.named

  -- a further declaration of the symbol that is bound
  join_counts : (table : List (Option ℕ)) (st : State) (d : Declaration) (s : ℕ) → get st.bindings c d.naming.name ≡ Some s → stands_before_body c d ≡ true → Sound table st → IsCounted st → IsCounted (declare_in st c d (Some s))
  join_counts table st d s g e w h x = elim (name_tells d.naming.name x) [
    | inl q ↦ ap (seen_as (declare_in st c d (Some s))) (here q.1)
        ∙ ap (seen_with s) (joined_flags (bound_name table st d.naming.name s w g))
        ∙ ap (with_or s (union (flags_of st s) d.naming.flags) m) (sym (eq-eqb s s refl))
        ∙ ap (λ o. with_declaration o m) (ap (seen_as st) (sym (here q.1)) ∙ h x)
        ∙ sym (counted_same st.made m x e q.0)
    | inr q ↦ old_seen (get st.bindings c x) refl (λ i. q.1 (sym i)) ∙ h x ∙ ap bound_by_all (sym (counted_other st.made m x q.0))
  ]
    where
      m : Made
      m = record { declaration = d; symbol = s }

      join : Symbol → Symbol
      join y = united d.naming.flags (redeclared d.naming y)

      here : d.naming.name ≡ x → get st.bindings c x ≡ Some s
      here i = subst (λ z. get st.bindings c z ≡ Some s) i g

      joined_flags : HasName st.symbols s d.naming.name → flags_of (declare_in st c d (Some s)) s ≡ union (flags_of st s) d.naming.flags
      joined_flags k =
          ap flags_or_none (get-update join st.symbols s s ∙ ap (λ t. cond t (option_map join (slice_get st.symbols s)) (slice_get st.symbols s)) (eq-eqb s s refl) ∙ ap (option_map join) k.is_there)
          ∙ ap (λ o. union (flags_or_none o) d.naming.flags) (sym k.is_there)

      old_seen : (o : Option ℕ) → get st.bindings c x ≡ o → (x ≡ d.naming.name → ⊥) → seen_as (declare_in st c d (Some s)) o ≡ seen_as st o
      old_seen None f n = refl
      old_seen (Some r) f n =
          ap (seen_with r) (ap flags_or_none (get-update join st.symbols s r ∙ ap (λ t. cond t (option_map join (slice_get st.symbols r)) (slice_get st.symbols r)) (ne_eqb s r apart)))
        where
          apart : s ≡ r → ⊥
          apart i = n (one_name st.symbols r x d.naming.name (bound_name table st x r w f) (subst (λ z. HasName st.symbols z d.naming.name) i (bound_name table st d.naming.name s w g)))

  -- a declaration in the scope
  plain_counts : (table : List (Option ℕ)) (st : State) (d : Declaration) → stands_before_body c d ≡ true → IsSound st → Sound table st → IsHeader st → IsCounted (declare_in st c d (found st c d.naming.name))
  plain_counts table st d e b w h = subst (λ o. IsCounted (declare_in st c d o)) (sym is_found) (by (get st.bindings c d.naming.name) refl)
    where
      is_found : found st c d.naming.name ≡ unless_expression (flags_of st) (get st.bindings c d.naming.name)
      is_found = ap (λ o. unless_expression (flags_of st) (or_else (get st.bindings c d.naming.name) o)) (h.unremembered d.naming.name) ∙ ap (unless_expression (flags_of st)) (or_none (get st.bindings c d.naming.name))

      either : (s : ℕ) (t : Bool) → get st.bindings c d.naming.name ≡ Some s → IsCounted (declare_in st c d (cond t None (Some s)))
      either s true g = make_counts st d e b h.bound
      either s false g = join_counts table st d s g e w h.bound

      by : (o : Option ℕ) → get st.bindings c d.naming.name ≡ o → IsCounted (declare_in st c d (unless_expression (flags_of st) o))
      by None g = make_counts st d e b h.bound
      by (Some s) g = either s (meets (flags_of st s) symbol.FunctionExpression.bits) g

  declare_remembers : (st : State) (d : Declaration) (o : Option ℕ) → (declare_in st c d o).remembered ≡ st.remembered
  declare_remembers st d None = refl
  declare_remembers st d (Some s) = refl

  record Counts (st new : State) : Type 0 where
    counted_new : IsCounted new
    remembered : new.remembered ≡ st.remembered

  simple_counts : (table : List (Option ℕ)) (st : State) (d : Declaration) → InHeader c d → IsSound st → Sound table st → IsHeader st → Counts st (act st (declares d))
  simple_counts table st d i b w h = by i.simple
    where
      by : IsSimple d → Counts st (declare_by d.how st d)
      by (inl e) = subst (λ how. Counts st (declare_by how st d)) (sym e) (subst (λ t. Counts st (declare_in st t d (found st t d.naming.name))) (sym i.target)
          (record { counted_new = plain_counts table st d i.counts b w h; remembered = declare_remembers st d (found st c d.naming.name) }))
      by (inr e) = subst (λ how. Counts st (declare_by how st d)) (sym e) (subst (λ t. Counts st (make st t d)) (sym i.target) (record { counted_new = make_counts st d i.counts b h.bound; remembered = refl }))

  in_header : (table : List (Option ℕ)) (st : State) (d : Declaration) → InHeader c d → IsSound st → Sound table st → IsHeader st → IsHeader (act st (declares d))
  in_header table st d i b w h =
      let k : Counts st (act st (declares d)) = simple_counts table st d i b w h in
      let side : ℕ → Bool = capped h.side (length st.symbols) true in
      record {
        bound = k.counted_new;
        unremembered = λ x. ap (λ bs. get bs c x) k.remembered ∙ h.unremembered x;
        side = side;
        sided = act_sided (is_scope c) side true st (declares d) (eq-eqb d.route.target.number c i.target, quiet side i.simple) (capped_beyond h.side (length st.symbols) true (length st.symbols) (omega arith)) (capped_sided (is_scope c) h.side true st b h.sided);
      }
    where
      quiet : (side : ℕ → Bool) → IsSimple d → ArePassedOn (is_scope c) side true d.how d
      quiet side (inl e) = rw e tt
      quiet side (inr e) = rw e tt

  header_act : (table : List (Option ℕ)) (st : State) (e : Event) → IsBefore c e → IsSound st → Sound table st → IsHeader st → IsHeader (act st e)
  header_act table st (declares d) (inl i) b w h = in_header table st d i b w h
  header_act table st (declares d) (inr t) b w h = leaves_alone st (declares d) t (and_left (d.route.target.number == c) _ (t (λ s. false)).0) b h
  header_act table st (takes_over a d) t b w h = leaves_alone st (takes_over a d) t tt b h
  header_act table st (ends_header d) t b w h = record { bound = h.bound; unremembered = h.unremembered; side = h.side; sided = h.sided }

  -- what holds as the header ends, and what counts then as in the end
  pub record IsCutAt (st : State) (es : List Event) : Type 0 where
    pub header : IsHeader (run st (until_end_of c es))
    pub same : (x : Name) → counted (run st es) x ≡ counted (run st (until_end_of c es)) x

  pub cut_at : (table : List (Option ℕ)) (st : State) {es : List Event} → Cut c es → Orderly table st es → Sound table st → IsSound st → IsHeader st → IsCutAt st es
  cut_at table st no_end o w b h = record { header = h; same = λ x. refl }
  cut_at table st (ended d es q k) o w b h = record {
    header = subst (λ t. IsHeader (run st (cond t [] (ends_header d ∷ until_end_of c es)))) (sym q) h;
    same = λ x. subst (λ t. counted (run st es) x ≡ counted (run st (cond t [] (ends_header d ∷ until_end_of c es))) x) (sym q) (uncounted_run st es k x);
  }
  cut_at table st (not_yet e es q i k) o w b h =
      let rest : IsCutAt (act st e) es = cut_at table (act st e) k o.1 (sound_act table st e o.0 w) (act_grows st e b).sound (header_act table st e i b w h) in
      record {
        header = subst (λ t. IsHeader (run st (cond t [] (e ∷ until_end_of c es)))) (sym q) rest.header;
        same = λ x. subst (λ t. counted (run (act st e) es) x ≡ counted (run st (cond t [] (e ∷ until_end_of c es))) x) (sym q) (rest.same x);
      }

  pub header_start : IsHeader start
  header_start = record { bound = λ x. refl; unremembered = λ x. refl; side = λ s. false; sided = record { bindings = λ e a. absurd a; remembered = λ e a. absurd a } }
