-- Each change keeps the state sound.
use Rattle.std.proofs.Common.{◌≡◌, ℕ, ◌<◌, List, [], ◌∷◌, ◌++◌, length, refl, sym, subst, subst₂, ◌∙◌, Option, true, false, ◌⊎◌, inl, inr, ◌==◌, arith}
use Rattle.std.proofs.lemmas.Bool.Decides.{eqb_tells}
use Rattle.semantic_syntax.specs.Tables.{Name, Symbol}
use Rattle.semantic_model.specs.Entries.{Among}
use Rattle.semantic_model.specs.Binding.{Binding, put}
use Rattle.semantic_model.specs.Declaration.{Declaration, path}
use Rattle.semantic_syntax.specs.Members.{contains}
use Rattle.semantic_model.specs.Fold.{State, Made, update, make, note_symbol, new_symbol, in_scope}
use Rattle.semantic_model.proofs.lists.Members.{among_left, among_last, among_more}
use Rattle.semantic_model.proofs.lists.BindingLaws.{among_put, among_remove}
use Rattle.semantic_model.proofs.lists.SymbolLaws.{get-update, length-push, get-push, get-last, get_within}
use Rattle.semantic_model.proofs.lists.Bounds.{update_length}
use Rattle.semantic_model.proofs.fold.Changes.{Sits, Holds, Has, holds_more, has_more, Change, makes, finds, unbinds, binds, remembers, rescopes, notes, Changes, none, more, HasName, Sound}

pub has_name-update : (f : Symbol → Symbol) (ys : List Symbol) (n s : ℕ) (x : Name) → ((y : Symbol) → (f y).name ≡ y.name) → HasName ys s x → HasName (update f ys n) s x
has_name-update f ys n s x keeps h = go (eqb_tells n s)
  where
    go : ((n == s ≡ true) × (n ≡ s)) ⊎ ((n == s ≡ false) × (n ≡ s → ⊥)) → HasName (update f ys n) s x
    go (inl e) = record { symbol = f h.symbol; is_there = rw (get-update f ys n s, e.0, h.is_there) refl; named = keeps h.symbol ∙ h.named }
    go (inr e) = record { symbol = h.symbol; is_there = rw (get-update f ys n s, e.0) h.is_there; named = h.named }

has_name-push : (ys : List Symbol) (y : Symbol) (s : ℕ) (x : Name) → HasName ys s x → HasName (ys ++ y ∷ []) s x
has_name-push ys y s x h = record { symbol = h.symbol; is_there = get-push ys y s (get_within ys s h.symbol h.is_there) ∙ h.is_there; named = h.named }

-- one more declaration, of a symbol that has its name
has_name-more : (ys : List Symbol) (ms : List Made) (n : Made) → ((m : Made) → Among m ms → HasName ys m.symbol m.declaration.naming.name) → HasName ys n.symbol n.declaration.naming.name → (m : Made) → Among m (ms ++ n ∷ []) → HasName ys m.symbol m.declaration.naming.name
has_name-more ys ms n h k m a =
    elim (among_more m n ms a) [
      | inl b ↦ h m b
      | inr e ↦ subst (λ x. HasName ys x.symbol x.declaration.naming.name) e k
    ]

-- what is put is a declaration's
pub holds-put : (table : List (Option ℕ)) (bs : List Binding) (ms : List Made) (d : Declaration) (s c : ℕ) → Sits table d c → Among (record { declaration = d; symbol = s }) ms → ((e : Binding) → Among e bs → Holds table ms e.scope e.name e.symbol) → (e : Binding) → Among e (put bs c d.naming.name s) → Holds table ms e.scope e.name e.symbol
holds-put table bs ms d s c p a h e q =
    elim (among_put e bs c d.naming.name s q) [
      | inl k ↦ h e k
      | inr k ↦ record { made = record { declaration = d; symbol = s }; among = a; named = sym k.1; sits = subst (λ n. Sits table d n) (sym k.0) p; symbol = sym k.2 }
    ]

pub has-put : (bs : List Binding) (ms : List Made) (d : Declaration) (s c : ℕ) → contains (path d) c ≡ true → Among (record { declaration = d; symbol = s }) ms → ((e : Binding) → Among e bs → Has ms e.scope e.name e.symbol) → (e : Binding) → Among e (put bs c d.naming.name s) → Has ms e.scope e.name e.symbol
has-put bs ms d s c p a h e q =
    elim (among_put e bs c d.naming.name s q) [
      | inl k ↦ h e k
      | inr k ↦ record { made = record { declaration = d; symbol = s }; among = a; named = sym k.1; on_path = subst (λ n. contains (path d) n ≡ true) (sym k.0) p; symbol = sym k.2 }
    ]

sound-makes : (table : List (Option ℕ)) (d : Declaration) (st : State) (c : ℕ) → Sits table d c → Sound table st → Sound table (make st c d)
sound-makes table d st c p h =
    let n : Made = record { declaration = d; symbol = length st.symbols } in
    record {
      bound = holds-put table st.bindings (st.made ++ n ∷ []) d (length st.symbols) c p (among_last n st.made) (λ e q. holds_more table st.made (n ∷ []) e.scope e.name e.symbol (h.bound e q));
      remembered = λ e q. has_more st.made (n ∷ []) e.scope e.name e.symbol (h.remembered e q);
      has_name = has_name-more (st.symbols ++ new_symbol c d.naming ∷ []) st.made n
          (λ m a. has_name-push st.symbols (new_symbol c d.naming) m.symbol m.declaration.naming.name (h.has_name m a))
          (record { symbol = new_symbol c d.naming; is_there = get-last st.symbols (new_symbol c d.naming); named = refl });
      has_declaration = λ s q. declared s (below s q);
    }
  where
    below : (s : ℕ) → s < length (st.symbols ++ new_symbol c d.naming ∷ []) → (s < length st.symbols) ⊎ (length st.symbols ≡ s)
    below s q = grind (arith, length-push st.symbols (new_symbol c d.naming))

    declared : (s : ℕ) → (s < length st.symbols) ⊎ (length st.symbols ≡ s) → (m : Made) × Among m (st.made ++ record { declaration = d; symbol = length st.symbols } ∷ []) × (m.symbol ≡ s)
    declared s (inl q) = let (m, a, k) = h.has_declaration s q in (m, among_left m st.made (record { declaration = d; symbol = length st.symbols } ∷ []) a, k)
    declared s (inr k) = (record { declaration = d; symbol = length st.symbols }, among_last (record { declaration = d; symbol = length st.symbols }) st.made, k)

sound-finds : (table : List (Option ℕ)) (d : Declaration) (st : State) (f : Symbol → Symbol) (c s : ℕ) → ((y : Symbol) → (f y).name ≡ y.name) → Has st.made c d.naming.name s → Sound table st → Sound table (note_symbol (record st { symbols = update f st.symbols s }) d s)
sound-finds table d st f c s keeps k h =
    let n : Made = record { declaration = d; symbol = s } in
    let here : HasName st.symbols s d.naming.name = subst₂ (λ (r : ℕ) (x : Name). HasName st.symbols r x) k.symbol k.named (h.has_name k.made k.among) in
    record {
      bound = λ e q. holds_more table st.made (n ∷ []) e.scope e.name e.symbol (h.bound e q);
      remembered = λ e q. has_more st.made (n ∷ []) e.scope e.name e.symbol (h.remembered e q);
      has_name = has_name-more (update f st.symbols s) st.made n
          (λ m a. has_name-update f st.symbols s m.symbol m.declaration.naming.name keeps (h.has_name m a))
          (has_name-update f st.symbols s s d.naming.name keeps here);
      has_declaration = λ r q.
          let (m, a, i) = h.has_declaration r (subst (λ l. r < l) (update_length f st.symbols s) q) in
          (m, among_left m st.made (n ∷ []) a, i);
    }

pub sound-change : (table : List (Option ℕ)) (d : Declaration) {a b : State} → Change table d a b → Sound table a → Sound table b
sound-change table d (makes st c p) h = sound-makes table d st c p h
sound-change table d (finds st f c s keeps p k) h = sound-finds table d st f c s keeps k h
sound-change table d (unbinds st c p) h = record {
  bound = λ e q. h.bound e (among_remove e st.bindings c d.naming.name q).0;
  remembered = h.remembered;
  has_name = h.has_name;
  has_declaration = h.has_declaration;
}
sound-change table d (binds st c s p a) h = record {
  bound = holds-put table st.bindings st.made d s c p a h.bound;
  remembered = h.remembered;
  has_name = λ m b. has_name-update (in_scope c) st.symbols s m.symbol m.declaration.naming.name (λ y. refl) (h.has_name m b);
  has_declaration = λ r q. h.has_declaration r (subst (λ l. r < l) (update_length (in_scope c) st.symbols s) q);
}
sound-change table d (remembers st c s p k) h = record {
  bound = h.bound;
  remembered = has-put st.remembered st.made d s c p k h.remembered;
  has_name = h.has_name;
  has_declaration = h.has_declaration;
}
sound-change table d (rescopes st c s k) h = record {
  bound = h.bound;
  remembered = h.remembered;
  has_name = λ m b. has_name-update (in_scope c) st.symbols s m.symbol m.declaration.naming.name (λ y. refl) (h.has_name m b);
  has_declaration = λ r q. h.has_declaration r (subst (λ l. r < l) (update_length (in_scope c) st.symbols s) q);
}
sound-change table d (notes st cs) h = record { bound = h.bound; remembered = h.remembered; has_name = h.has_name; has_declaration = h.has_declaration }

pub sound-changes : (table : List (Option ℕ)) (d : Declaration) {a b : State} → Changes table d a b → Sound table a → Sound table b
sound-changes table d (none st) h = h
sound-changes table d (more k c) h = sound-change table d c (sound-changes table d k h)
