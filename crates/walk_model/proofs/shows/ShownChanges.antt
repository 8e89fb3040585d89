-- Each small change of the walk's tables is one of the state that they show.
use Rattle.std.proofs.Common.{◌≡◌, ℕ, ◌<◌, List, [], ◌∷◌, ◌++◌, refl, sym, ap, subst, ◌∙◌, Option, Some, None, cond, Bool, true, false, bytes_eq, nat_eq, length, slice_index_or, arith}
use Rattle.std.specs.Prelude.{slice_get, slice_set}
use Rattle.std.specs.Option.{unwrap_or}
use Rattle.std.specs.Ordering.{nat_cmp}
use Rattle.std.specs.BTreeSet.{insert_key}
use Rattle.std.proofs.lemmas.List.{length-set, length-append}
use Rattle.std.proofs.lemmas.List.Sums.{fold-append}
use Rattle.indexmap.specs.IndexMap.{insert_entry}
use Rattle.semantic_syntax.specs.Tables.{Name, Bindings, Symbol}
use Rattle.semantic_syntax.specs.Reading.{no_symbol}
use Rattle.semantic_model.specs.Binding.{put, remove}
use Rattle.semantic_model.specs.Declaration.{Declaration}
use Rattle.semantic_model.specs.Fold.{State, Made, found, update, redeclared, united, in_scope, new_symbol, note_symbol, make, against, conflict_of, conflict_with, declare_in, chosen}
use Rattle.semantic_model.proofs.lists.Bounds.{update_length}
use Rattle.walk_model.specs.WalkState.{WalkState}
use Rattle.walk_model.specs.Declares as writes
use Rattle.walk_model.specs.Hoists as reaches
use Rattle.walk_model.proofs.shows.BindingLists.{IsSingle, put_single, remove_single}
use Rattle.walk_model.proofs.shows.SymbolLists.{set_is_update, conflict_at, united_at}
use Rattle.walk_model.proofs.shows.Represents.{Shows, Notes, Represents, with_pure, with_noted, AreShown, shown_put, shown_remove, either_order, found_as}

-- the declaration gets the symbol
shows_note_symbol : (n : ℕ) (w : WalkState) (st : State) (y : ℕ) (d : Declaration) → Shows n w st → Shows n (writes.note_symbol w y d.naming) (note_symbol st d y)
shows_note_symbol n w st y d h = by d.naming.is_pure
  where
    by : (b : Bool) → Shows n (record w { nodes = record w.nodes { symbols = insert_entry nat_eq w.nodes.symbols d.naming.identifier y }; tables = cond b (writes.pure_with w.tables y) w.tables }) (note_symbol st d y)
    by true = record { scopes = h.scopes; bindings = h.bindings; single = h.single; symbols = h.symbols; remembered = h.remembered; conflicts = h.conflicts; uses = h.uses }
    by false = record { scopes = h.scopes; bindings = h.bindings; single = h.single; symbols = h.symbols; remembered = h.remembered; conflicts = h.conflicts; uses = h.uses }

notes_note_symbol : (w : WalkState) (ms : List Made) (y : ℕ) (d : Declaration) → Notes w.tables.pure_symbols w.nodes.symbols ms
    → Notes (writes.note_symbol w y d.naming).tables.pure_symbols (writes.note_symbol w y d.naming).nodes.symbols (ms ++ record { declaration = d; symbol = y } ∷ [])
notes_note_symbol w ms y d h = record {
  pure_is = by d.naming.is_pure ∙ ap (λ ps. cond d.naming.is_pure (insert_key nat_cmp ps y) ps) h.pure_is ∙ sym (fold-append with_pure [] ms (record { declaration = d; symbol = y } ∷ []));
  nodes_are = ap (λ es. insert_entry nat_eq es d.naming.identifier y) h.nodes_are ∙ sym (fold-append with_noted [] ms (record { declaration = d; symbol = y } ∷ []));
}
  where
    by : (b : Bool) → (cond b (writes.pure_with w.tables y) w.tables).pure_symbols ≡ cond b (insert_key nat_cmp w.tables.pure_symbols y) w.tables.pure_symbols
    by true = refl
    by false = refl

pub represents_note_symbol : (n : ℕ) (w : WalkState) (st : State) (y : ℕ) (d : Declaration) → Represents n w st → Represents n (writes.note_symbol w y d.naming) (note_symbol st d y)
represents_note_symbol n w st y d h = record { shows = shows_note_symbol n w st y d h.shows; notes = notes_note_symbol w st.made y d h.notes }

-- a new symbol
shows_new : (n : ℕ) (w : WalkState) (st : State) (c : ℕ) (d : Declaration) → c < n → Shows n w st
    → Shows n (writes.make w c d.naming) (record st { bindings = put st.bindings c d.naming.name (length st.symbols); symbols = st.symbols ++ new_symbol c d.naming ∷ [] })
shows_new n w st c d l h = record {
  scopes = length-set w.tables.bindings c _ ∙ h.scopes;
  bindings = subst (λ y. AreShown (slice_set w.tables.bindings c (insert_entry bytes_eq (slice_index_or w.tables.bindings c []) d.naming.name (length w.tables.symbols))) (put st.bindings c d.naming.name y)) (ap length h.symbols)
      (shown_put w.tables.bindings st.bindings c d.naming.name (length w.tables.symbols) (subst (λ m. c < m) (sym h.scopes) l) h.bindings);
  single = put_single st.bindings c d.naming.name (length st.symbols) h.single;
  symbols = ap (λ ys. ys ++ new_symbol c d.naming ∷ []) h.symbols;
  remembered = h.remembered;
  conflicts = h.conflicts;
  uses = omega (arith, length-append w.tables.uses ([] ∷ []), length-append st.symbols (new_symbol c d.naming ∷ []), h.uses);
}

pub represents_make : (n : ℕ) (w : WalkState) (st : State) (c : ℕ) (d : Declaration) → c < n → Represents n w st
    → Represents n (writes.note_symbol (writes.make w c d.naming) (length w.tables.symbols) d.naming) (make st c d)
represents_make n w st c d l h =
    let new : State = record st { bindings = put st.bindings c d.naming.name (length st.symbols); symbols = st.symbols ++ new_symbol c d.naming ∷ [] } in
    subst (λ y. Represents n (writes.note_symbol (writes.make w c d.naming) y d.naming) (make st c d)) (sym (ap length h.shows.symbols))
    (represents_note_symbol n (writes.make w c d.naming) new (length st.symbols) d (record { shows = shows_new n w st c d l h.shows; notes = record { pure_is = h.notes.pure_is; nodes_are = h.notes.nodes_are } }))

-- a symbol changes
represents_symbols : (n : ℕ) (w : WalkState) (st : State) (ys : List Symbol) (f : Symbol → Symbol) (y : ℕ) → ys ≡ update f st.symbols y → Represents n w st
    → Represents n (record w { tables = record w.tables { symbols = ys } }) (record st { symbols = update f st.symbols y })
represents_symbols n w st ys f y e h = record {
  shows = record {
    scopes = h.shows.scopes;
    bindings = h.shows.bindings;
    single = h.shows.single;
    symbols = e;
    remembered = h.shows.remembered;
    conflicts = h.shows.conflicts;
    uses = h.shows.uses ∙ sym (update_length f st.symbols y);
  };
  notes = record { pure_is = h.notes.pure_is; nodes_are = h.notes.nodes_are };
}

pub represents_redeclare : (n : ℕ) (w : WalkState) (st : State) (y : ℕ) (d : Declaration) → Represents n w st
    → Represents n (writes.redeclare w y d.naming) (record st { symbols = update (redeclared d.naming) st.symbols y })
represents_redeclare n w st y d h =
    represents_symbols n w st (writes.redeclare w y d.naming).tables.symbols (redeclared d.naming) y
    (set_is_update (redeclared d.naming) w.tables.symbols y no_symbol ∙ ap (λ ys. update (redeclared d.naming) ys y) h.shows.symbols) h

pub represents_set_symbol_scope : (n : ℕ) (w : WalkState) (st : State) (y c : ℕ) → Represents n w st
    → Represents n (reaches.set_symbol_scope w y c) (record st { symbols = update (in_scope c) st.symbols y })
represents_set_symbol_scope n w st y c h =
    represents_symbols n w st (reaches.set_symbol_scope w y c).tables.symbols (in_scope c) y
    (set_is_update (in_scope c) w.tables.symbols y no_symbol ∙ ap (λ ys. update (in_scope c) ys y) h.shows.symbols) h

pub represents_against : (n : ℕ) (w : WalkState) (st : State) (y : ℕ) (d : Declaration) → Represents n w st → Represents n (writes.against w d.naming y) (against st d y)
represents_against n w st y d h = record {
  shows = record {
    scopes = h.shows.scopes;
    bindings = h.shows.bindings;
    single = h.shows.single;
    symbols = h.shows.symbols;
    remembered = h.shows.remembered;
    conflicts = ap (λ cs. cs ++ conflict_of d.naming (slice_index_or w.tables.symbols y no_symbol)) h.shows.conflicts
        ∙ ap (λ cs. st.conflicts ++ cs) (conflict_at d.naming w.tables.symbols y ∙ ap (λ ys. conflict_with d.naming (slice_get ys y)) h.shows.symbols);
    uses = h.shows.uses;
  };
  notes = record { pure_is = h.notes.pure_is; nodes_are = h.notes.nodes_are };
}

pub represents_unite : (n : ℕ) (w : WalkState) (st : State) (y : ℕ) (d : Declaration) → Represents n w st
    → Represents n (writes.unite w y d.naming) (record (against st d y) { symbols = update (λ z. united d.naming.flags (redeclared d.naming z)) st.symbols y })
represents_unite n w st y d h =
    represents_symbols n (writes.against w d.naming y) (against st d y) (writes.unite w y d.naming).tables.symbols (λ z. united d.naming.flags (redeclared d.naming z)) y
    (united_at d.naming w.tables.symbols y ∙ ap (λ ys. update (λ z. united d.naming.flags (redeclared d.naming z)) ys y) h.shows.symbols)
    (represents_against n w st y d h)

-- declared by what was found
pub represents_declare_in : (n : ℕ) (w : WalkState) (st : State) (c : ℕ) (d : Declaration) (o : Option ℕ) → c < n → Represents n w st
    → Represents n (writes.note_symbol (writes.with_found_symbol w c d.naming o) (unwrap_or o (length w.tables.symbols)) d.naming) (declare_in st c d o)
represents_declare_in n w st c d None l h = represents_make n w st c d l h
represents_declare_in n w st c d (Some y) l h =
    represents_note_symbol n (writes.unite w y d.naming) (record (against st d y) { symbols = update (λ z. united d.naming.flags (redeclared d.naming z)) st.symbols y }) y d (represents_unite n w st y d h)

pub chosen_as : (n : ℕ) (w : WalkState) (st : State) (o : Option ℕ) → Shows n w st → unwrap_or o (length w.tables.symbols) ≡ chosen st o
chosen_as n w st None h = ap length h.symbols
chosen_as n w st (Some y) h = refl

pub represents_declare : (n : ℕ) (w : WalkState) (st : State) (c : ℕ) (d : Declaration) → c < n → Represents n w st
    → Represents n (writes.declare w c d.naming) (declare_in st c d (found st c d.naming.name))
represents_declare n w st c d l h =
    subst (λ o. Represents n (writes.note_symbol (writes.with_found_symbol w c d.naming o) (unwrap_or o (length w.tables.symbols)) d.naming) (declare_in st c d (found st c d.naming.name)))
    (sym (found_as n w st c d.naming.name h.shows)) (represents_declare_in n w st c d (found st c d.naming.name) l h)

pub represents_remember : (n : ℕ) (w : WalkState) (st : State) (c : ℕ) (x : Name) (y : ℕ) → Represents n w st
    → Represents n (reaches.remember w c x y) (record st { remembered = put st.remembered c x y })
represents_remember n w st c x y h = record {
  shows = record {
    scopes = h.shows.scopes;
    bindings = h.shows.bindings;
    single = h.shows.single;
    symbols = h.shows.symbols;
    remembered = ap (λ bs. put bs c x y) h.shows.remembered;
    conflicts = h.shows.conflicts;
    uses = h.shows.uses;
  };
  notes = record { pure_is = h.notes.pure_is; nodes_are = h.notes.nodes_are };
}

-- the symbol moves from one scope to another
pub represents_rebind : (n : ℕ) (w : WalkState) (st : State) (x : Name) (y from to : ℕ) → from < n → to < n → (from ≡ to → ⊥) → Represents n w st
    → Represents n (reaches.rebind w x y from to) (record st { bindings = put (remove st.bindings from x) to x y; symbols = update (in_scope to) st.symbols y })
represents_rebind n w st x y from to l k apart h =
    let bss : List Bindings = w.tables.bindings in
    let more : List Bindings = slice_set bss to (insert_entry bytes_eq (slice_index_or bss to []) x y) in
    let put_first : AreShown more (put st.bindings to x y) = shown_put bss st.bindings to x y (subst (λ m. to < m) (sym h.shows.scopes) k) h.shows.bindings in
    let longer : length more ≡ n = length-set bss to _ ∙ h.shows.scopes in
    let single : IsSingle (put st.bindings to x y) = put_single st.bindings to x y h.shows.single in
    record {
      shows = record {
        scopes = length-set more from _ ∙ longer;
        bindings = λ d. shown_remove more (put st.bindings to x y) from x (subst (λ m. from < m) (sym longer) l) single put_first d
            ∙ either_order st.bindings from to x y d apart h.shows.single single;
        single = put_single (remove st.bindings from x) to x y (remove_single st.bindings from x h.shows.single);
        symbols = set_is_update (in_scope to) w.tables.symbols y no_symbol ∙ ap (λ ys. update (in_scope to) ys y) h.shows.symbols;
        remembered = h.shows.remembered;
        conflicts = h.shows.conflicts;
        uses = h.shows.uses ∙ sym (update_length (in_scope to) st.symbols y);
      };
      notes = record { pure_is = h.notes.pure_is; nodes_are = h.notes.nodes_are };
    }
