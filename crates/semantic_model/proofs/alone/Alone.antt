-- What holds of a declaration that meets no other, through each change of the fold.
use Rattle.std.proofs.Common.{◌≡◌, ℕ, ◌+◌, ◌==◌, cond, ◌<◌, List, [], ◌∷◌, ◌++◌, length, refl, sym, ap, subst, ◌∙◌, Some, Option, true, false, ◌⊎◌, inl, inr, arith}
use Rattle.std.specs.Prelude.{slice_get}
use Rattle.std.proofs.lemmas.Bool.Decides.{eqb_tells}
use Rattle.semantic_syntax.specs.Tables.{Name, Symbol}
use Rattle.semantic_model.specs.Entries.{Among}
use Rattle.semantic_model.specs.Binding.{Binding, get, put}
use Rattle.semantic_model.specs.Declaration.{Declaration, path, Meets}
use Rattle.semantic_syntax.specs.Members.{contains}
use Rattle.semantic_model.specs.Fold.{State, Made, update, new_symbol, in_scope}
use Rattle.semantic_model.proofs.lists.Members.{among_more}
use Rattle.semantic_model.proofs.lists.BindingLaws.{same_key, same_key_tells, get-put_other, get-remove_other, among_put, among_remove}
use Rattle.semantic_model.proofs.lists.SymbolLaws.{get-update, get-push, get_within}
use Rattle.semantic_model.proofs.fold.Changes.{Sits, on_path, Has, Change, makes, finds, unbinds, binds, remembers, rescopes, notes, Changes, none, more}

-- how many declarations have the symbol
abbrev pub symbol_times : ℕ → List Made → ℕ
symbol_times s [] = 0
symbol_times s (m ∷ ms) = cond (m.symbol == s) 1 0 + symbol_times s ms

pub times_more : (s : ℕ) (ms : List Made) (n : Made) → symbol_times s (ms ++ n ∷ []) ≡ symbol_times s ms + cond (n.symbol == s) 1 0
times_more s [] n = omega arith
times_more s (m ∷ ms) n = omega (arith, times_more s ms n)

-- one more declaration with another symbol
same_times : (s : ℕ) (ms : List Made) (n : Made) → (n.symbol ≡ s → ⊥) → symbol_times s ms ≡ 1 → symbol_times s (ms ++ n ∷ []) ≡ 1
same_times s ms n i h = elim (eqb_tells n.symbol s) [ inl k ↦ absurd (i k.1) | inr k ↦ times_more s ms n ∙ rw k.0 (omega (arith, h)) ]

-- d got symbol s alone, and scope h binds it, alone
pub record Own (table : List (Option ℕ)) (d : Declaration) (s h : ℕ) (st : State) : Type 0 where
  pub sits : Sits table d h
  pub others : (m : Made) → Among m st.made → (m ≡ record { declaration = d; symbol = s }) ⊎ ((Meets d m.declaration → ⊥) × (m.symbol ≡ s → ⊥))
  pub once : symbol_times s st.made ≡ 1
  pub symbol : slice_get st.symbols s ≡ Some (new_symbol h d.naming)
  pub binds : get st.bindings h d.naming.name ≡ Some s
  pub only : (e : Binding) → Among e st.bindings → e.symbol ≡ s → (e.scope ≡ h) × (e.name ≡ d.naming.name)

-- a declaration that d does not meet touches another binding
apart : (d e : Declaration) (h c : ℕ) → (Meets d e → ⊥) → contains (path d) h ≡ true → contains (path e) c ≡ true → same_key c e.naming.name h d.naming.name ≡ false
apart d e h c n p q =
    elim (same_key_tells c h e.naming.name d.naming.name) [
      | inl k ↦ absurd (n (record { same_name = sym k.2; shared = h; on_left = p; on_right = subst (λ r. contains (path e) r ≡ true) k.1 q }))
      | inr k ↦ k.0
    ]

-- a symbol that such a declaration finds is another one
other_found : (table : List (Option ℕ)) (d e : Declaration) (s h c r : ℕ) (st : State) → Own table d s h st → (Meets d e → ⊥) → contains (path e) c ≡ true → Has st.made c e.naming.name r → r ≡ s → ⊥
other_found table d e s h c r st o n p k i =
    elim (o.others k.made k.among) [
      | inl q ↦ n (record { same_name = subst (λ m. m.declaration.naming.name ≡ e.naming.name) q k.named; shared = c; on_left = subst (λ m. contains (path m.declaration) c ≡ true) q k.on_path; on_right = p })
      | inr q ↦ q.1 (k.symbol ∙ i)
    ]

-- and so is a symbol that it has
other_made : (table : List (Option ℕ)) (d e : Declaration) (s h r : ℕ) (st : State) → Own table d s h st → (Meets d e → ⊥) → Among (record { declaration = e; symbol = r }) st.made → r ≡ s → ⊥
other_made table d e s h r st o n k i =
    elim (o.others (record { declaration = e; symbol = r }) k) [
      | inl q ↦ n (subst (λ x. Meets d x) (sym (ap (λ m. m.declaration) q)) (record { same_name = refl; shared = h; on_left = on_path table d h o.sits; on_right = on_path table d h o.sits }))
      | inr q ↦ q.1 i
    ]

others_more : (d e : Declaration) (s r : ℕ) (ms : List Made) → (Meets d e → ⊥) → (r ≡ s → ⊥) → ((m : Made) → Among m ms → (m ≡ record { declaration = d; symbol = s }) ⊎ ((Meets d m.declaration → ⊥) × (m.symbol ≡ s → ⊥))) → (m : Made) → Among m (ms ++ record { declaration = e; symbol = r } ∷ []) → (m ≡ record { declaration = d; symbol = s }) ⊎ ((Meets d m.declaration → ⊥) × (m.symbol ≡ s → ⊥))
others_more d e s r ms n i h m a =
    elim (among_more m (record { declaration = e; symbol = r }) ms a) [
      | inl b ↦ h m b
      | inr q ↦ inr (subst (λ k. (Meets d k.declaration → ⊥) × (k.symbol ≡ s → ⊥)) q (n, i))
    ]

only_put : (bs : List Binding) (c : ℕ) (x : Name) (r h : ℕ) (y : Name) (s : ℕ) → (r ≡ s → ⊥) → ((e : Binding) → Among e bs → e.symbol ≡ s → (e.scope ≡ h) × (e.name ≡ y)) → (e : Binding) → Among e (put bs c x r) → e.symbol ≡ s → (e.scope ≡ h) × (e.name ≡ y)
only_put bs c x r h y s n o e a i = elim (among_put e bs c x r a) [ inl k ↦ o e k i | inr k ↦ absurd (n (sym k.2 ∙ i)) ]

symbol_kept : (f : Symbol → Symbol) (ys : List Symbol) (r s : ℕ) (y : Symbol) → (r ≡ s → ⊥) → slice_get ys s ≡ Some y → slice_get (update f ys r) s ≡ Some y
symbol_kept f ys r s y n h = grind (arith, get-update f ys r s, eqb_tells r s)

own_change : (table : List (Option ℕ)) (d e : Declaration) (s h : ℕ) {a b : State} → (Meets d e → ⊥) → Change table e a b → Own table d s h a → Own table d s h b
own_change table d e s h n (makes st c p) o =
    let within : s < length st.symbols = get_within st.symbols s (new_symbol h d.naming) o.symbol in
    let i : length st.symbols ≡ s → ⊥ = λ q. omega arith in
    record {
      sits = o.sits;
      others = others_more d e s (length st.symbols) st.made n i o.others;
      once = same_times s st.made (record { declaration = e; symbol = length st.symbols }) i o.once;
      symbol = get-push st.symbols (new_symbol c e.naming) s within ∙ o.symbol;
      binds = get-put_other st.bindings c e.naming.name (length st.symbols) h d.naming.name (apart d e h c n (on_path table d h o.sits) (on_path table e c p)) ∙ o.binds;
      only = only_put st.bindings c e.naming.name (length st.symbols) h d.naming.name s i o.only;
    }
own_change table d e s h n (finds st f c r keeps p k) o =
    let i : r ≡ s → ⊥ = other_found table d e s h c r st o n p k in
    record {
      sits = o.sits;
      others = others_more d e s r st.made n i o.others;
      once = same_times s st.made (record { declaration = e; symbol = r }) i o.once;
      symbol = symbol_kept f st.symbols r s (new_symbol h d.naming) i o.symbol;
      binds = o.binds;
      only = o.only;
    }
own_change table d e s h n (unbinds st c p) o = record {
  sits = o.sits;
  others = o.others;
  once = o.once;
  symbol = o.symbol;
  binds = get-remove_other st.bindings c e.naming.name h d.naming.name (apart d e h c n (on_path table d h o.sits) p) ∙ o.binds;
  only = λ q a i. o.only q (among_remove q st.bindings c e.naming.name a).0 i;
}
own_change table d e s h n (binds st c r p k) o =
    let i : r ≡ s → ⊥ = other_made table d e s h r st o n k in
    record {
      sits = o.sits;
      others = o.others;
      once = o.once;
      symbol = symbol_kept (in_scope c) st.symbols r s (new_symbol h d.naming) i o.symbol;
      binds = get-put_other st.bindings c e.naming.name r h d.naming.name (apart d e h c n (on_path table d h o.sits) (on_path table e c p)) ∙ o.binds;
      only = only_put st.bindings c e.naming.name r h d.naming.name s i o.only;
    }
own_change table d e s h n (remembers st c r p k) o = record { sits = o.sits; others = o.others; once = o.once; symbol = o.symbol; binds = o.binds; only = o.only }
own_change table d e s h n (rescopes st c r k) o =
    let i : r ≡ s → ⊥ = other_made table d e s h r st o n k in
    record { sits = o.sits; others = o.others; once = o.once; symbol = symbol_kept (in_scope c) st.symbols r s (new_symbol h d.naming) i o.symbol; binds = o.binds; only = o.only }
own_change table d e s h n (notes st cs) o = record { sits = o.sits; others = o.others; once = o.once; symbol = o.symbol; binds = o.binds; only = o.only }

pub own_changes : (table : List (Option ℕ)) (d e : Declaration) (s h : ℕ) {a b : State} → (Meets d e → ⊥) → Changes table e a b → Own table d s h a → Own table d s h b
own_changes table d e s h n (none st) o = o
own_changes table d e s h n (more k c) o = own_change table d e s h n c (own_changes table d e s h n k o)
