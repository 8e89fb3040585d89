-- A declaration of the name, by each way to come to a symbol, keeps what is bound and remembered of it.
use Rattle.std.proofs.Common.{◌≡◌, ℕ, ◌<◌, List, [], ◌∷◌, ◌++◌, Option, Some, None, true, false, inl, inr, ◌⊎◌, refl, sym, ap, subst, ◌∙◌, length, map}
use Rattle.std.specs.Prelude.{slice_get}
use Rattle.semantic_syntax.specs.Members.{contains}
use Rattle.semantic_syntax.specs.Tables.{Name, Symbol}
use Rattle.semantic_model.specs.Binding.{Binding, get, put, remove, move}
use Rattle.semantic_model.specs.Declaration.{Declaration, How, plain, hoisted, moved, caught, path, stands_in}
use Rattle.semantic_model.specs.Entries.{Among}
use Rattle.semantic_model.specs.Fold.{State, Made, update, redeclared, in_scope, flags_of, flags_or_none, found, make, note_symbol, new_symbol, declare_in, chosen}
use Rattle.semantic_model.specs.Hoist.{PassedSymbol, passed_symbol, asked_symbols, against_all, move_symbol, hoist_by, declare_by}
use Rattle.semantic_model.proofs.fold.Actions.{IsPassedSymbol, is_passed_symbol, changes_against_all, made_against_all}
use Rattle.semantic_model.proofs.fold.Changes.{HasName, Sound, none}
use Rattle.semantic_model.proofs.fold.Soundness.{sound-changes}
use Rattle.semantic_model.proofs.bindings.VarTargets.{AllLead, IsLed}
use Rattle.semantic_model.proofs.lists.BindingLaws.{same_key_tells, get-put, get-remove, get-put_same, get-put_other, get-remove_other}
use Rattle.semantic_model.proofs.lists.Members.{among_left, among_last, among_more}
use Rattle.semantic_model.proofs.lists.SymbolLaws.{get-last}
use Rattle.binding_laws.proofs.Growing.{pushed_flags, same_flags}
use Rattle.binding_laws.proofs.SmallLaws.{none_if}
use Rattle.language_ties.specs.SharedSymbols.{is_own_name, KeepClear}
use Rattle.language_ties.proofs.shared.Shared.{is_hidden, IsBoundNow, BoundBy, RememberedBy, Shared, bound_more, remembered_more}
use Rattle.language_ties.proofs.shared.Declares.{IsFit, stands_on_path, passed_stands, bound_stands, bindings_against_all, all_passed, shared_against_all, shared_remembering, now_bound, found_none, in_target, made_here, found_here, on_the_way, found_visible}

among_declared : (st : State) (d : Declaration) (c : ℕ) (o : Option ℕ) → Among (record { declaration = d; symbol = chosen st o }) (declare_in st c d o).made
among_declared st d c None = among_last (record { declaration = d; symbol = length st.symbols }) st.made
among_declared st d c (Some s) = among_last (record { declaration = d; symbol = s }) st.made

module _ (table : List (Option ℕ)) (v : ℕ → ℕ) (n m k l : ℕ) (st : State) (d : Declaration) (sound : Sound table st) (h : Shared table d.naming.name n m st) (fit : IsFit table n m k l d) (clear : (y : Made) → Among y st.made → y.declaration.naming.name ≡ d.naming.name → KeepClear y.declaration d) where
  abbrev x : Name
  x = d.naming.name

  abbrev t : ℕ
  t = d.route.target.number

  -- ---- `var`

  abbrev noted : State
  noted = against_all st d (asked_symbols st d.route.passed x)

  noted_made : noted.made ≡ st.made
  noted_made = made_against_all st d (asked_symbols st d.route.passed x)

  noted_sound : Sound table noted
  noted_sound = sound-changes table d (changes_against_all table st st d (asked_symbols st d.route.passed x) (none st)) sound

  noted_shared : Shared table x n m noted
  noted_shared = shared_against_all table x n m st d (asked_symbols st d.route.passed x) h

  noted_clear : (y : Made) → Among y noted.made → y.declaration.naming.name ≡ x → KeepClear y.declaration d
  noted_clear y a e = clear y (subst (Among y) noted_made a) e

  flags_against_all : (ss : List ℕ) (a : State) (r : ℕ) → flags_of (against_all a d ss) r ≡ flags_of a r
  flags_against_all [] a r = refl
  flags_against_all (s ∷ ss) a r = flags_against_all ss (record a { conflicts = (against_all a d (s ∷ [])).conflicts }) r

  -- with one more declaration of the symbol
  abbrev got : ℕ → State
  got r = note_symbol (record noted { symbols = update (redeclared d.naming) noted.symbols r }) d r

  by_passing : d.how ≡ hoisted → ((y : Made) → Among y st.made → y.declaration.naming.name ≡ x → IsLed v table y.declaration.how y.declaration.route) → AllLead v table d.route.passed t → (o : Option PassedSymbol) → passed_symbol st d.route.passed x ≡ o → Shared table x k l (hoist_by noted d o)
  by_passing how led lead None e =
      shared_remembering table x k l (declare_in noted t d (found noted t x)) d d.route.passed (chosen noted (found noted t x)) refl how (visible_by how) (fit.below (visible_by how))
      (among_declared noted d t (found noted t x)) (λ c q. q)
      (in_target table x n m k l noted d refl noted_sound noted_shared fit noted_clear)
    where
      visible_by : d.how ≡ hoisted → is_own_name d ≡ false
      visible_by q = fit.visible (λ p. let w : hoisted ≡ plain = sym q ∙ p in absurd cc)
  by_passing how led lead (Some r) e =
      shared_remembering table x k l (move_symbol (got r.symbol) r.scope t x r.symbol (get (got r.symbol).bindings t x)) d d.route.passed r.symbol refl how visible (fit.below visible)
      (subst (λ z. Among (record { declaration = d; symbol = r.symbol }) z.made) (sym stays) (among_last (record { declaration = d; symbol = r.symbol }) noted.made)) (λ c q. q)
      (subst (Shared table x k l) (sym stays) (found_here table x n m k l noted d refl noted_sound noted_shared fit noted_clear (redeclared d.naming) r.symbol noted.conflicts visible there unhidden (λ y. refl)))
    where
      visible : is_own_name d ≡ false
      visible = fit.visible (λ p. let w : hoisted ≡ plain = sym how ∙ p in absurd cc)

      there : get noted.bindings t x ≡ Some r.symbol
      there = ap (λ bs. get bs t x) (bindings_against_all st d (asked_symbols st d.route.passed x)) ∙ on_the_way table x v n m k l st d refl sound h fit clear led how lead r e

      w : IsPassedSymbol st (map (λ s. s.number) d.route.passed) x r
      w = is_passed_symbol st (map (λ s. s.number) d.route.passed) x d.route.passed r (all_passed d.route.passed) e

      unhidden : is_hidden (flags_of noted r.symbol) ≡ false
      unhidden = ap is_hidden (flags_against_all (asked_symbols st d.route.passed x) st r.symbol) ∙ found_visible table x v n m k l st d refl sound h fit clear r.scope r.symbol w.is_found

      stays : move_symbol (got r.symbol) r.scope t x r.symbol (get (got r.symbol).bindings t x) ≡ got r.symbol
      stays = ap (move_symbol (got r.symbol) r.scope t x r.symbol) there

  -- ---- a function in a block

  module _ (how : d.how ≡ moved) where
    abbrev c : ℕ
    c = stands_in d

    abbrev new : ℕ
    new = length st.symbols

    visible : is_own_name d ≡ false
    visible = fit.visible (λ p. let w : moved ≡ plain = sym how ∙ p in absurd cc)

    apart : (y : Made) → Among y st.made → y.declaration.naming.name ≡ x → (e : ℕ) → contains (path y.declaration) e ≡ true → contains (path d) e ≡ true → ⊥
    apart y a q e i j = (clear y a q).1.as_function how (record { same_name = sym q; shared = e; on_left = j; on_right = i })

    on_path : contains (path d) c ≡ true
    on_path = stands_on_path d.route.passed d refl

    target_on_path : contains (path d) t ≡ true
    target_on_path = bound_stands d t (inl refl)

    unbound : (e : ℕ) → contains (path d) e ≡ true → get st.bindings e x ≡ None
    unbound e i = none_if (get st.bindings e x) (λ s q. let w : BoundBy table x n m st.made e s = h.bound e s q in apart w.made w.among w.named e (bound_stands w.made.declaration e (now_bound table x w.made.declaration e w.now)) i)

    forgotten : (e : ℕ) → contains (path d) e ≡ true → get st.remembered e x ≡ None
    forgotten e i = none_if (get st.remembered e x) (λ s q. let w : RememberedBy table x n st.made e s = h.remembered e s q in
        apart w.made w.among w.named e (left_path w.made.declaration e w.left) i)
      where
        left_path : (y : Declaration) (z : ℕ) → ((y.how ≡ hoisted) × (contains (map (λ s. s.number) y.route.passed) z ≡ true)) ⊎ ((y.how ≡ moved) × (stands_in y ≡ z)) → contains (path y) z ≡ true
        left_path y z (inl q) = passed_stands y z q.1
        left_path y z (inr q) = subst (λ r. contains (path y) r ≡ true) q.1 (stands_on_path y.route.passed y refl)

    abbrev bs : List Binding
    bs = put (remove (put st.bindings c x new) c x) t x new

    gone : (e s : ℕ) → get bs e x ≡ Some s → ((t ≡ e) × (new ≡ s)) ⊎ (get st.bindings e x ≡ Some s)
    gone e s q = elim (same_key_tells t e x x) [
      | inl w ↦ (let z : Some new ≡ Some s = sym (get-put (remove (put st.bindings c x new) c x) t x new e x ∙ rw w.0 refl) ∙ q in inl (w.1, cc))
      | inr w ↦ elim (same_key_tells c e x x) [
        | inl i ↦ (let z : None ≡ Some s = sym (get-put_other (remove (put st.bindings c x new) c x) t x new e x w.0 ∙ get-remove (put st.bindings c x new) c x e x ∙ rw i.0 refl) ∙ q in absurd cc)
        | inr i ↦ inr (sym (get-put_other (remove (put st.bindings c x new) c x) t x new e x w.0 ∙ get-remove_other (put st.bindings c x new) c x e x i.0 ∙ get-put_other st.bindings c x new e x i.0) ∙ q)
      ]
    ]

    elsewhere : (e : ℕ) → (t ≡ e → ⊥) → (c ≡ e → ⊥) → get bs e x ≡ get st.bindings e x
    elsewhere e i j = elim (same_key_tells t e x x) [
      | inl w ↦ absurd (i w.1)
      | inr w ↦ elim (same_key_tells c e x x) [
        | inl z ↦ absurd (j z.1)
        | inr z ↦ get-put_other (remove (put st.bindings c x new) c x) t x new e x w.0 ∙ get-remove_other (put st.bindings c x new) c x e x z.0 ∙ get-put_other st.bindings c x new e x z.0
      ]
    ]

    stays : (y : Made) → Among y st.made → y.declaration.naming.name ≡ x → (s : ℕ) → IsBoundNow table x st.bindings y.declaration s → IsBoundNow table x bs y.declaration s
    stays y a q s (inl g) = inl (elsewhere y.declaration.route.target.number
        (λ i. apart y a q t (bound_stands y.declaration t (inl (sym i))) target_on_path)
        (λ i. apart y a q c (bound_stands y.declaration c (inl (sym i))) on_path) ∙ g)
    stays y a q s (inr g) = inr (
      g.0,
      g.1,
      g.2,
      elsewhere g.0
          (λ i. apart y a q t (bound_stands y.declaration t (inr (g.1 ∙ ap Some (sym i)))) target_on_path)
          (λ i. apart y a q c (bound_stands y.declaration c (inr (g.1 ∙ ap Some (sym i)))) on_path) ∙ g.3,
    )

    abbrev both : Made
    both = record { declaration = d; symbol = new }

    abbrev ys : List Symbol
    ys = update (in_scope t) (st.symbols ++ new_symbol c d.naming ∷ []) new

    abbrev out : State
    out = record (make st c d) { bindings = bs; symbols = ys; remembered = put st.remembered c x new }

    older_flags : (y : Made) → Among y st.made → y.declaration.naming.name ≡ x → is_hidden (flags_or_none (slice_get ys y.symbol)) ≡ is_own_name y.declaration
    older_flags y a q =
        let w : HasName st.symbols y.symbol y.declaration.naming.name = sound.has_name y a in
        ap is_hidden (same_flags (in_scope t) (st.symbols ++ new_symbol c d.naming ∷ []) new y.symbol (λ z. refl) ∙ pushed_flags st.symbols (new_symbol c d.naming) w.symbol y.symbol w.is_there) ∙ h.flags y a q

    out_shared : Shared table x k l out
    out_shared = record {
      bound = λ e s q. elim (gone e s q) [
        | inl w ↦ record { made = both; among = among_last both st.made; named = refl; symbol = w.1; now = inl w.0; below = λ z. subst (λ r. r < k) w.0 (fit.below z).target; opened = subst (λ r. r < l) w.0 fit.within }
        | inr w ↦ bound_more table x n m k l st.made (st.made ++ both ∷ []) e s fit.more fit.opens (λ y a. among_left y st.made (both ∷ []) a) (h.bound e s w)
      ];
      remembered = λ e s q. elim (same_key_tells c e x x) [
        | inl w ↦ (let z : Some new ≡ Some s = sym (get-put st.remembered c x new e x ∙ rw w.0 refl) ∙ q in
            record { made = both; among = among_last both st.made; named = refl; symbol = cc; left = inr (how, w.1); visible = visible; below = subst (λ r. r < k) w.1 (fit.below visible).stands })
        | inr w ↦ remembered_more table x n k st.made (st.made ++ both ∷ []) e s fit.more (λ y a. among_left y st.made (both ∷ []) a) (h.remembered e s (sym (get-put_other st.remembered c x new e x w.0) ∙ q))
      ];
      declared = λ y a q o. elim (among_more y both st.made a) [
        | inl b ↦ stays y b q y.symbol (h.declared y b q o)
        | inr b ↦ subst (λ z. IsBoundNow table x bs z.declaration z.symbol) b (inl (get-put_same (remove (put st.bindings c x new) c x) t x new))
      ];
      hidden = λ y a q o. elim (among_more y both st.made a) [
        | inl b ↦ (let w : (s : ℕ) × IsBoundNow table x st.bindings y.declaration s = h.hidden y b q o in (w.0, stays y b q w.0 w.1))
        | inr b ↦ (let w : true ≡ false = sym o ∙ subst (λ z. is_own_name z.declaration ≡ false) b visible in absurd cc)
      ];
      flags = λ y a q. elim (among_more y both st.made a) [
        | inl b ↦ older_flags y b q
        | inr b ↦ subst (λ z. is_hidden (flags_or_none (slice_get ys z.symbol)) ≡ is_own_name z.declaration) b
            (ap is_hidden (same_flags (in_scope t) (st.symbols ++ new_symbol c d.naming ∷ []) new new (λ z. refl)) ∙ ap (λ o. is_hidden (flags_or_none o)) (get-last st.symbols (new_symbol c d.naming)))
      ];
      entries = λ y a q. elim (among_more y both st.made a) [
        | inl b ↦ h.entries y b q
        | inr b ↦ subst (λ z. slice_get table z.declaration.route.target.number ≡ Some z.declaration.route.target.body) b fit.entry
      ];
    }

    moves : move (put st.bindings c x new) c t x ≡ bs
    moves = rw (get-put_same st.bindings c x new, move) refl

    by_moving : Shared table x k l (declare_by moved st d)
    by_moving = rw (found_none table x st c (unbound c on_path) (forgotten c on_path), unbound t target_on_path)
        (subst (λ z. Shared table x k l (record (make st c d) { bindings = z; symbols = ys; remembered = put st.remembered c x new })) (sym moves) out_shared)

  -- ---- all ways

  pub by_way : (how : How) → d.how ≡ how → ((y : Made) → Among y st.made → y.declaration.naming.name ≡ x → IsLed v table y.declaration.how y.declaration.route) → IsLed v table how d.route → Shared table x k l (declare_by how st d)
  by_way plain e led lead = in_target table x n m k l st d refl sound h fit clear
  by_way hoisted e led lead = by_passing e led lead (passed_symbol st d.route.passed x) refl
  by_way moved e led lead = by_moving e
  by_way caught e led lead = made_here table x n m k l st d refl sound h fit clear
      (λ s g. let w : BoundBy table x n m st.made t s = h.bound t s g in absurd ((clear w.made w.among w.named).1.as_catch_name e (now_bound table x w.made.declaration t w.now)))
