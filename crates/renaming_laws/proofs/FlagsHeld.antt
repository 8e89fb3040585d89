-- Each symbol has the flags of its declarations, where a `var` finds on its way only what has its own.
use Rattle.std.proofs.Common.{◌≡◌, ℕ, zero, suc, ◌≤◌, ◌<◌, List, [], ◌∷◌, ◌++◌, Option, Some, None, inl, inr, ◌⊎◌, length, true, false, refl, sym, ap, subst, ◌∙◌, arith, bit_or}
use Rattle.std.specs.Int.{bit_at}
use Rattle.std.specs.Prelude.{slice_get}
use Rattle.std.proofs.lemmas.Bool.{cases_Bool}
use Rattle.std.proofs.lemmas.List.{length-map}
use Rattle.std.proofs.lemmas.Nat.Bits.{bit_at_or, same_from_bits}
use Rattle.semantic_syntax.specs.Sets.{meets, union}
use Rattle.semantic_syntax.specs.Tables.{Symbol}
use Rattle.semantic_syntax.specs.declared.symbol_flags.TheConstants.SymbolFlags as symbol
use Rattle.semantic_model.specs.Binding.{bound_by}
use Rattle.semantic_model.specs.Declaration.{hoisted, Declaration}
use Rattle.semantic_model.specs.Entries.{Among}
use Rattle.semantic_model.specs.Event.{declares, takes_over}
use Rattle.semantic_model.specs.Fold.{Made, State, redeclared, united, new_symbol, start}
use Rattle.semantic_model.specs.Hoist.{act}
use Rattle.semantic_model.specs.Naming.{Naming}
use Rattle.semantic_model.specs.Place.{OpenScope}
use Rattle.semantic_model.specs.TablesOf.{numbers}
use Rattle.semantic_model.proofs.fold.Actions.{AllIn, IsPassedSymbol, is_passed_symbol, has_found}
use Rattle.semantic_model.proofs.fold.Changes.{Has, HasName, Sound, sound_start}
use Rattle.semantic_model.proofs.fold.TakeOvers.{IsReady, sound_act}
use Rattle.semantic_model.proofs.lists.Bounds.{IsSound}
use Rattle.semantic_model.proofs.lists.Growth.{act_grows, start_is_sound}
use Rattle.semantic_model.proofs.lists.Members.{among_left, among_right, among_more, contains_first, contains_right}
use Rattle.semantic_model.proofs.lists.SymbolLaws.{get_within}
use Rattle.binding_laws.proofs.Growing.{meets_neither}
use Rattle.renaming_laws.specs.InBlocks.{ShareFlags}
use Rattle.renaming_laws.specs.KeptDeclarations.{declared_as}
use Rattle.renaming_laws.proofs.Looks.{looks, joined, gets, HasFlagsOf, looks_by, made_by, rescoped_looks, gets_within, gets_passed, passed_kept}

-- a `var` excludes what `var`s exclude
abbrev pub IsVarRow : Declaration → Type 0
IsVarRow d = d.how ≡ hoisted → d.naming.excluded ≡ symbol.FunctionScopedVariableExcludes.bits

-- ---- bits

-- flags that are there stay
absorbed : (a n m : ℕ) → union a m ≡ a → union (union a n) m ≡ union a n
absorbed a n m h = same_from_bits (bit_or (bit_or a n) m) (bit_or a n) (λ i. let e : bit_at (bit_or a m) i ≡ bit_at a i = ap (λ b. bit_at b i) h in omega (arith, e, bit_at_or a m i, bit_at_or (bit_or a n) m i, bit_at_or a n i))

twice_joined : (a n : ℕ) → union (union a n) n ≡ union a n
twice_joined a n = same_from_bits (bit_or (bit_or a n) n) (bit_or a n) (λ i. omega (arith, bit_at_or (bit_or a n) n i, bit_at_or a n i))

itself_joined : (n : ℕ) → union n n ≡ n
itself_joined n = same_from_bits (bit_or n n) n (λ i. omega (arith, bit_at_or n n i))

-- what has flags that have others has those
carried : (a k n : ℕ) → union a k ≡ a → union k n ≡ k → union a n ≡ a
carried a k n h j = same_from_bits (bit_or a n) a (λ i.
    let e : bit_at (bit_or a k) i ≡ bit_at a i = ap (λ b. bit_at b i) h in
    let f : bit_at (bit_or k n) i ≡ bit_at k i = ap (λ b. bit_at b i) j in
    omega (arith, e, f, bit_at_or a k i, bit_at_or k n i, bit_at_or a n i))

-- ---- an entry after a declaration

some_look : (k l : Symbol) → ◌≡◌ {A = Option Symbol} (Some k) (Some l) → k ≡ l
some_look k l e = cc

no_look : (l : Symbol) → ◌≡◌ {A = Option Symbol} None (Some l) → ⊥
no_look l e = cc

-- as it was, or that of its symbol
data After (r : ℕ) (n : Naming) (ls : List Symbol) (j : ℕ) (l : Symbol) : Type 0 where
  as_before : slice_get ls j ≡ Some l → After r n ls j l
  is_joined : (k : Symbol) → j ≡ r → slice_get ls r ≡ Some k → l.flags.bits ≡ union k.flags.bits n.flags → After r n ls j l
  is_new : j ≡ length ls → length ls ≤ r → l.flags.bits ≡ n.flags → After r n ls j l

later : (r : ℕ) (n : Naming) (ls : List Symbol) (j : ℕ) (x l : Symbol) → After r n ls j l → After (suc r) n (x ∷ ls) (suc j) l
later r n ls j x l (as_before e) = as_before e
later r n ls j x l (is_joined k i e f) = is_joined k (ap suc i) e f
later r n ls j x l (is_new i k f) = is_new (ap suc i) (omega (arith, k)) f

after_at : (r : ℕ) (n : Naming) (ls : List Symbol) (j : ℕ) (l : Symbol) → slice_get (joined r n ls) j ≡ Some l → After r n ls j l
after_at r n [] zero l e = is_new refl (omega arith) (sym (ap (λ (k : Symbol). k.flags.bits) (some_look (declared_as (new_symbol 0 n)) l e)))
after_at r n [] (suc j) l e = absurd (no_look l e)
after_at zero n (x ∷ ls) zero l e = is_joined x refl refl (sym (ap (λ (k : Symbol). k.flags.bits) (some_look (united n.flags (redeclared n x)) l e)))
after_at zero n (x ∷ ls) (suc j) l e = as_before e
after_at (suc r) n (x ∷ ls) zero l e = as_before e
after_at (suc r) n (x ∷ ls) (suc j) l e = later r n ls j x l (after_at r n ls j l e)

-- the symbol itself has the flags then
has_own : (r : ℕ) (n : Naming) (ls : List Symbol) (l : Symbol) → r ≤ length ls → slice_get (joined r n ls) r ≡ Some l → union l.flags.bits n.flags ≡ l.flags.bits
has_own zero n [] l h e = subst (λ (k : Symbol). union k.flags.bits n.flags ≡ k.flags.bits) (some_look (declared_as (new_symbol 0 n)) l e) (itself_joined n.flags)
has_own (suc r) n [] l h e = absurd (omega (arith, h))
has_own zero n (x ∷ ls) l h e = subst (λ (k : Symbol). union k.flags.bits n.flags ≡ k.flags.bits) (some_look (united n.flags (redeclared n x)) l e) (twice_joined x.flags.bits n.flags)
has_own (suc r) n (x ∷ ls) l h e = has_own r n ls l (omega (arith, h)) e

-- ---- scopes that are passed

more_in : (n : ℕ) (ns : List ℕ) (cs : List OpenScope) → AllIn ns cs → AllIn (n ∷ ns) cs
more_in n ns [] h = tt
more_in n ns (c ∷ cs) h = (contains_right (n ∷ []) ns c.number h.0, more_in n ns cs h.1)

all_in_themselves : (cs : List OpenScope) → AllIn (numbers cs) cs
all_in_themselves [] = tt
all_in_themselves (c ∷ cs) = (contains_first c.number (numbers cs), more_in c.number (numbers cs) cs (all_in_themselves cs))

-- a declaration that gave a flag to its symbol
pub record Source (ms : List Made) (r f : ℕ) : Type 0 where
  pub made : Made
  pub among : Among made ms
  pub symbol : made.symbol ≡ r
  pub has : meets made.declaration.naming.flags f ≡ true

source_more : (ms : List Made) (m : Made) (r f : ℕ) → Source ms r f → Source (ms ++ m ∷ []) r f
source_more ms m r f w = record { made = w.made; among = among_left w.made ms (m ∷ []) w.among; symbol = w.symbol; has = w.has }

-- flags of two sets are of one of them
either_meets : (a b f : ℕ) → meets (union a b) f ≡ true → (meets a f ≡ true) ⊎ (meets b f ≡ true)
either_meets a b f h = go (cases_Bool (meets a f)) (cases_Bool (meets b f))
  where
    go : (meets a f ≡ true) ⊎ (meets a f ≡ false) → (meets b f ≡ true) ⊎ (meets b f ≡ false) → (meets a f ≡ true) ⊎ (meets b f ≡ true)
    go (inl i) k = inl i
    go (inr i) (inl j) = inr j
    go (inr i) (inr j) = let w : true ≡ false = sym h ∙ meets_neither a b f i j in absurd cc

-- ---- states

module _ (table : List (Option ℕ)) where
  -- the state is sound, and each symbol has the flags of the declarations that got it
  pub record Holds (st : State) : Type 0 where
    pub bounded : IsSound st
    pub sound : Sound table st
    pub sourced : (r : ℕ) (l : Symbol) → slice_get (looks st.symbols) r ≡ Some l → (f : ℕ) → meets l.flags.bits f ≡ true → Source st.made r f
    pub flags : (m : Made) → Among m st.made → (l : Symbol) → slice_get (looks st.symbols) m.symbol ≡ Some l → union l.flags.bits m.declaration.naming.flags ≡ l.flags.bits

  pub holds_start : Holds start
  holds_start = record { bounded = start_is_sound; sound = sound_start table; sourced = λ r l e f h. absurd (no_look l e); flags = λ m a l e. absurd a }

  pub holds_taken : (st : State) (c b : ℕ) → IsReady table st (takes_over c b) → Holds st → Holds (act st (takes_over c b))
  holds_taken st c b ready w =
      let same : looks (act st (takes_over c b)).symbols ≡ looks st.symbols = rescoped_looks st.symbols (bound_by st.bindings c) b in
      record {
        bounded = (act_grows st (takes_over c b) w.bounded).sound;
        sound = sound_act table st (takes_over c b) ready w.sound;
        sourced = λ r l e f h. w.sourced r l (sym (ap (λ ls. slice_get ls r) same) ∙ e) f h;
        flags = λ m a l e. w.flags m a l (sym (ap (λ ls. slice_get ls m.symbol) same) ∙ e);
      }

  module _ (F : List Made) (share : ShareFlags F) where
    -- a declaration at its turn
    pub record Turn (st : State) (d : Declaration) : Type 0 where
      pub ready : IsReady table st (declares d)
      pub row : IsVarRow d
      pub among : Among (record { declaration = d; symbol = gets d.how st d }) F
      pub before : (m : Made) → Among m st.made → Among m F

    -- the symbol that a `var` finds on its way has the flags of the `var`
    has_flags : (st : State) (d : Declaration) → Holds st → Turn st d → d.how ≡ hoisted → HasFlagsOf st d
    has_flags st d w t f h e = passed_kept st d w.bounded covers h e
      where
        passed : IsPassedSymbol st (numbers d.route.passed) d.naming.name h
        passed = is_passed_symbol st (numbers d.route.passed) d.naming.name d.route.passed h (all_in_themselves d.route.passed) e

        made : Has st.made h.scope d.naming.name h.symbol
        made = has_found table st h.scope d.naming.name h.symbol w.sound passed.is_found

        it : gets hoisted st d ≡ h.symbol
        it = gets_passed st d h e

        covers : (l : Symbol) → slice_get (looks st.symbols) (gets hoisted st d) ≡ Some l → union l.flags.bits d.naming.flags ≡ l.flags.bits
        covers l q =
            carried l.flags.bits made.made.declaration.naming.flags d.naming.flags
            (w.flags made.made made.among l (ap (slice_get (looks st.symbols)) (made.symbol ∙ sym it) ∙ q))
            (share (record { declaration = d; symbol = gets d.how st d }) made.made h.scope t.among (t.before made.made made.among) (ap (λ g. gets g st d) f ∙ it ∙ sym made.symbol) f passed.inside made.on_path)

    pub looks_next : (st : State) (d : Declaration) → Holds st → Turn st d → looks (act st (declares d)).symbols ≡ joined (gets d.how st d) d.naming (looks st.symbols)
    looks_next st d w t = looks_by d.how st d (λ f. (t.row f, has_flags st d w t f)) w.bounded

    pub holds_next : (st : State) (d : Declaration) → Holds st → Turn st d → Holds (act st (declares d))
    holds_next st d w t = record {
      bounded = (act_grows st (declares d) w.bounded).sound;
      sound = sound_act table st (declares d) t.ready w.sound;
      sourced = λ r l e f h. subst (λ ms. Source ms r f) (sym (made_by d.how st d)) (found_source r l f h (after_at (gets d.how st d) d.naming (looks st.symbols) r l (sym (ap (λ ls. slice_get ls r) (looks_next st d w t)) ∙ e)));
      flags = λ m a l e. go m l (among_more m own st.made (subst (Among m) (made_by d.how st d) a)) (sym (ap (λ ls. slice_get ls m.symbol) (looks_next st d w t)) ∙ e);
    }
      where
        own : Made
        own = record { declaration = d; symbol = gets d.how st d }

        within : gets d.how st d ≤ length (looks st.symbols)
        within = subst (λ n. gets d.how st d ≤ n) (sym (length-map st.symbols declared_as)) (gets_within d.how st d w.bounded)

        not_new : (m : Made) → Among m st.made → m.symbol ≡ length (looks st.symbols) → ⊥
        not_new m a i =
            let n : HasName st.symbols m.symbol m.declaration.naming.name = w.sound.has_name m a in
            let l : m.symbol < length st.symbols = get_within st.symbols m.symbol n.symbol n.is_there in
            let e : m.symbol ≡ length st.symbols = i ∙ length-map st.symbols declared_as in
            omega (arith, l, e)

        old : (m : Made) → Among m st.made → (l : Symbol) → After (gets d.how st d) d.naming (looks st.symbols) m.symbol l → union l.flags.bits m.declaration.naming.flags ≡ l.flags.bits
        old m a l (as_before q) = w.flags m a l q
        old m a l (is_joined k i q f) =
            ap (λ x. union x m.declaration.naming.flags) f
            ∙ absorbed k.flags.bits d.naming.flags m.declaration.naming.flags (w.flags m a k (ap (slice_get (looks st.symbols)) i ∙ q))
            ∙ sym f
        old m a l (is_new i k f) = absurd (not_new m a i)

        own_source : (r f : ℕ) → gets d.how st d ≡ r → meets d.naming.flags f ≡ true → Source (st.made ++ own ∷ []) r f
        own_source r f e h = record { made = own; among = among_right own st.made (own ∷ []) (inl refl); symbol = e; has = h }

        found_source : (r : ℕ) (l : Symbol) (f : ℕ) → meets l.flags.bits f ≡ true → After (gets d.how st d) d.naming (looks st.symbols) r l → Source (st.made ++ own ∷ []) r f
        found_source r l f h (as_before q) = source_more st.made own r f (w.sourced r l q f h)
        found_source r l f h (is_joined k i q g) = elim (either_meets k.flags.bits d.naming.flags f (sym (ap (λ n. meets n f) g) ∙ h)) [
          | inl a ↦ source_more st.made own r f (w.sourced r k (ap (slice_get (looks st.symbols)) i ∙ q) f a)
          | inr a ↦ own_source r f (sym i) a
        ]
        found_source r l f h (is_new i k g) = own_source r f (omega (arith, i, k, within)) (sym (ap (λ n. meets n f) g) ∙ h)

        go : (m : Made) (l : Symbol) → Among m st.made ⊎ (own ≡ m) → slice_get (joined (gets d.how st d) d.naming (looks st.symbols)) m.symbol ≡ Some l → union l.flags.bits m.declaration.naming.flags ≡ l.flags.bits
        go m l (inl a) e = old m a l (after_at (gets d.how st d) d.naming (looks st.symbols) m.symbol l e)
        go m l (inr q) e =
            subst (λ (k : Made). union l.flags.bits k.declaration.naming.flags ≡ l.flags.bits) q
            (has_own (gets d.how st d) d.naming (looks st.symbols) l within (ap (λ (k : Made). slice_get (joined (gets d.how st d) d.naming (looks st.symbols)) k.symbol) q ∙ e))
