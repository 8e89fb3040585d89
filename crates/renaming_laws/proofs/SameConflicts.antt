-- Events that differ in names alone, of which each declaration gets the same symbol, tell the same conflicts.
use Rattle.std.proofs.Common.{◌≡◌, ℕ, zero, suc, List, [], ◌∷◌, ◌++◌, Bool, true, false, cond, Option, Some, None, inl, length, map, refl, sym, ap, subst, subst₂, ◌∙◌, arith}
use Rattle.std.specs.Prelude.{slice_get, option_map}
use Rattle.std.proofs.lemmas.List.{append_assoc, append-nil}
use Rattle.std.proofs.lemmas.Option.{slice_get-map}
use Rattle.semantic_syntax.specs.Sets.{meets}
use Rattle.semantic_syntax.specs.Tables.{Name, Symbol}
use Rattle.semantic_model.specs.Binding.{bound_by}
use Rattle.semantic_model.specs.Declaration.{Declaration}
use Rattle.semantic_model.specs.Entries.{Among}
use Rattle.semantic_model.specs.Event.{Event, declares, takes_over, ends_header}
use Rattle.semantic_model.specs.Fold.{Conflict, Made, State, redeclared, united, new_symbol, conflict_with, start}
use Rattle.semantic_model.specs.Hoist.{act, run}
use Rattle.semantic_model.specs.Naming.{Naming}
use Rattle.semantic_model.proofs.lists.Members.{among_left, among_right}
use Rattle.semantic_model.proofs.fold.TakeOvers.{IsReady, Orderly}
use Rattle.renaming_laws.specs.KeptDeclarations.{declared_as}
use Rattle.renaming_laws.specs.InBlocks.{ShareFlags}
use Rattle.renaming_laws.proofs.FlagsHeld.{IsVarRow, Holds, holds_start, holds_taken, Turn, looks_next, holds_next}
use Rattle.renaming_laws.proofs.Looks.{looks, joined, gets, tells_by, made_by, rescoped_looks}
use Rattle.renaming_laws.proofs.Twins.{unnamed, TwinEvents}

some_look : (k l : Symbol) → ◌≡◌ {A = Option Symbol} (Some k) (Some l) → k ≡ l
some_look k l e = cc

no_look : (l : Symbol) → ◌≡◌ {A = Option Symbol} None (Some l) → ⊥
no_look l e = cc

-- ---- declarations of a state, with those that follow

pub record Grows (ms ns : List Made) : Type 0 where
  pub more : List Made
  pub is : ns ≡ ms ++ more

pub grows_run : (es : List Event) (st : State) → Grows st.made (run st es).made
grows_run [] st = record { more = []; is = sym (append-nil st.made) }
grows_run (declares d ∷ es) st =
    let one : List Made = record { declaration = d; symbol = gets d.how st d } ∷ [] in
    let g : Grows (act st (declares d)).made (run (act st (declares d)) es).made = grows_run es (act st (declares d)) in
    record { more = one ++ g.more; is = g.is ∙ ap (λ ms. ms ++ g.more) (made_by d.how st d) ∙ append_assoc st.made one g.more }
grows_run (takes_over c b ∷ es) st = grows_run es (act st (takes_over c b))
grows_run (ends_header c ∷ es) st = grows_run es (act st (ends_header c))

-- what a declaration makes stands behind what was made
record Stands (before : List Made) (m : Made) (all : List Made) : Type 0 where
  behind : List Made
  is : all ≡ before ++ m ∷ behind

stands : (st : State) (d : Declaration) (es : List Event) → Stands st.made (record { declaration = d; symbol = gets d.how st d }) (run st (declares d ∷ es)).made
stands st d es =
    let m : Made = record { declaration = d; symbol = gets d.how st d } in
    let g : Grows (act st (declares d)).made (run (act st (declares d)) es).made = grows_run es (act st (declares d)) in
    record { behind = g.more; is = g.is ∙ ap (λ ms. ms ++ g.more) (made_by d.how st d) ∙ append_assoc st.made (m ∷ []) g.more }

stands_among : (before : List Made) (m : Made) (all : List Made) → Stands before m all → Among m all
stands_among before m all w = subst (Among m) (sym w.is) (among_right m before (m ∷ w.behind) (inl refl))

abbrev pub symbols_in : List Made → List ℕ
symbols_in ms = map (λ m. m.symbol) ms

-- at the same place of lists that tell the same stands what tells the same
same_place : {A : Type 0} → (g h : Made → A) (ms ns : List Made) (m n : Made) (us vs : List Made) → length ms ≡ length ns → map g (ms ++ m ∷ us) ≡ map h (ns ++ n ∷ vs) → g m ≡ h n
same_place g h [] [] m n us vs l e = first g h m n (map g us) (map h vs) e
  where
    first : {A : Type 0} → (g h : Made → A) (m n : Made) (xs ys : List A) → ◌≡◌ {A = List A} (g m ∷ xs) (h n ∷ ys) → g m ≡ h n
    first g h m n xs ys k = cc
same_place g h [] (y ∷ ns) m n us vs l e = absurd (omega (arith, l))
same_place g h (x ∷ ms) [] m n us vs l e = absurd (omega (arith, l))
same_place g h (x ∷ ms) (y ∷ ns) m n us vs l e = same_place g h ms ns m n us vs (omega (arith, l)) (rest (g x) (h y) (map g (ms ++ m ∷ us)) (map h (ns ++ n ∷ vs)) e)
  where
    rest : {A : Type 0} → (a b : A) (xs ys : List A) → ◌≡◌ {A = List A} (a ∷ xs) (b ∷ ys) → xs ≡ ys
    rest a b xs ys k = cc

length_added : (ms : List Made) (m : Made) → length (ms ++ m ∷ []) ≡ suc (length ms)
length_added [] m = refl
length_added (x ∷ ms) m = omega (arith, length_added ms m)

-- ---- the same conflicts

module _ (F G : List Made) (now next : Made → Name) where
  -- two conflicts of the same declaration with the same symbol
  pub record Twinned (c e : Conflict) : Type 0 where
    pub made : Made
    pub other : Made
    pub among : Among made F
    pub symbol : made.symbol ≡ other.symbol
    pub told : now made ≡ next other
    pub name : c.name ≡ made.declaration.naming.name
    pub other_name : e.name ≡ other.declaration.naming.name
    pub earlier : e.earlier ≡ c.earlier
    pub later : e.later ≡ c.later
    pub placed : c.later ≡ made.declaration.naming.span

  abbrev pub AllTwinned : List Conflict → List Conflict → Type 0
  AllTwinned [] [] = Unit {0}
  AllTwinned (c ∷ cs) (e ∷ es) = Twinned c e × AllTwinned cs es
  AllTwinned _ _ = ⊥

  twinned_append : (cs es ds fs : List Conflict) → AllTwinned cs es → AllTwinned ds fs → AllTwinned (cs ++ ds) (es ++ fs)
  twinned_append [] [] ds fs h i = i
  twinned_append [] (e ∷ es) ds fs h i = absurd h
  twinned_append (c ∷ cs) [] ds fs h i = absurd h
  twinned_append (c ∷ cs) (e ∷ es) ds fs h i = (h.0, twinned_append cs es ds fs h.1 i)

  conflicts_twinned : (m k : Made) → Among m F → m.symbol ≡ k.symbol → now m ≡ next k → unnamed m.declaration.naming ≡ unnamed k.declaration.naming → (y z : Option Symbol) → option_map declared_as y ≡ option_map declared_as z → AllTwinned (conflict_with m.declaration.naming y) (conflict_with k.declaration.naming z)
  conflicts_twinned m k a s t n None None e = tt
  conflicts_twinned m k a s t n None (Some z) e = absurd (no_look (declared_as z) e)
  conflicts_twinned m k a s t n (Some y) None e = absurd (no_look (declared_as y) (sym e))
  conflicts_twinned m k a s t n (Some y) (Some z) e =
      let same : declared_as y ≡ declared_as z = some_look (declared_as y) (declared_as z) e in
      let tests : meets y.flags.bits m.declaration.naming.excluded ≡ meets z.flags.bits k.declaration.naming.excluded = λ i. meets (same i).flags.bits (n i).excluded in
      go (meets y.flags.bits m.declaration.naming.excluded) (meets z.flags.bits k.declaration.naming.excluded) tests (ap (λ (l : Symbol). l.span) same)
    where
      go : (b c : Bool) → b ≡ c → y.span ≡ z.span → AllTwinned (cond b (record { name = m.declaration.naming.name; earlier = y.span; later = m.declaration.naming.span } ∷ []) []) (cond c (record { name = k.declaration.naming.name; earlier = z.span; later = k.declaration.naming.span } ∷ []) [])
      go true true q p = (record { made = m; other = k; among = a; symbol = s; told = t; name = refl; other_name = refl; earlier = sym p; later = ap (λ (x : Naming). x.span) (sym n); placed = refl }, tt)
      go true false q p = absurd cc
      go false true q p = absurd cc
      go false false q p = tt

-- ---- step by step

abbrev pub AreVarRows : List Event → Type 0
AreVarRows [] = Unit {0}
AreVarRows (declares d ∷ es) = IsVarRow d × AreVarRows es
AreVarRows (takes_over c b ∷ es) = AreVarRows es
AreVarRows (ends_header c ∷ es) = AreVarRows es

joined_twins : (r : ℕ) (n k : Naming) (ls : List Symbol) → unnamed n ≡ unnamed k → joined r n ls ≡ joined r k ls
joined_twins r n k [] e = λ i. declared_as (new_symbol 0 (e i)) ∷ []
joined_twins zero n k (l ∷ ls) e = λ i. united (e i).flags (redeclared (e i) l) ∷ ls
joined_twins (suc r) n k (l ∷ ls) e = ap (λ xs. l ∷ xs) (joined_twins r n k ls e)

module _ (F G : List Made) (now next : Made → Name) (tp tq : List (Option ℕ)) (share : ShareFlags F) (share_too : ShareFlags G) where
  -- symbols are declared as the others, and the same was told
  pub record Level (st sw : State) : Type 0 where
    pub left : Holds tp st
    pub right : Holds tq sw
    pub same : looks st.symbols ≡ looks sw.symbols
    pub many : length st.made ≡ length sw.made
    pub told : AllTwinned F G now next st.conflicts sw.conflicts

  looks_at : (ys zs : List Symbol) (r : ℕ) → looks ys ≡ looks zs → option_map declared_as (slice_get ys r) ≡ option_map declared_as (slice_get zs r)
  looks_at ys zs r e = sym (slice_get-map declared_as ys r) ∙ ap (λ ls. slice_get ls r) e ∙ slice_get-map declared_as zs r

  -- a declaration and its twin, which get the same symbol
  record Turns (st sw : State) (d e : Declaration) : Type 0 where
    twin : unnamed d.naming ≡ unnamed e.naming
    left : Turn tp F share st d
    right : Turn tq G share_too sw e
    symbol : gets d.how st d ≡ gets e.how sw e
    names : now (record { declaration = d; symbol = gets d.how st d }) ≡ next (record { declaration = e; symbol = gets e.how sw e })

  told_next : (st sw : State) (d e : Declaration) → Level st sw → Turns st sw d e → AllTwinned F G now next (act st (declares d)).conflicts (act sw (declares e)).conflicts
  told_next st sw d e w t =
      let r : ℕ = gets d.how st d in
      let q : ℕ = gets e.how sw e in
      subst₂ (AllTwinned F G now next) (sym (tells_by d.how st d t.left.row)) (sym (tells_by e.how sw e t.right.row))
      (twinned_append F G now next st.conflicts sw.conflicts (conflict_with d.naming (slice_get st.symbols r)) (conflict_with e.naming (slice_get sw.symbols q)) w.told
      (conflicts_twinned F G now next (record { declaration = d; symbol = r }) (record { declaration = e; symbol = q }) t.left.among t.symbol t.names t.twin
      (slice_get st.symbols r) (slice_get sw.symbols q) (looks_at st.symbols sw.symbols r w.same ∙ ap (λ n. option_map declared_as (slice_get sw.symbols n)) t.symbol)))

  next_level : (st sw : State) (d e : Declaration) → Level st sw → Turns st sw d e → Level (act st (declares d)) (act sw (declares e))
  next_level st sw d e w t =
      let r : ℕ = gets d.how st d in
      let q : ℕ = gets e.how sw e in
      record {
        left = holds_next tp F share st d w.left t.left;
        right = holds_next tq G share_too sw e w.right t.right;
        same = looks_next tp F share st d w.left t.left ∙ (λ i. joined (t.symbol i) d.naming (w.same i)) ∙ joined_twins q d.naming e.naming (looks sw.symbols) t.twin ∙ sym (looks_next tq G share_too sw e w.right t.right);
        many = ap length (made_by d.how st d) ∙ length_added st.made (record { declaration = d; symbol = r }) ∙ ap suc w.many
            ∙ sym (ap length (made_by e.how sw e) ∙ length_added sw.made (record { declaration = e; symbol = q }));
        told = told_next st sw d e w t;
      }

  taken_level : (st sw : State) (c b c' b' : ℕ) → IsReady tp st (takes_over c b) → IsReady tq sw (takes_over c' b') → Level st sw → Level (act st (takes_over c b)) (act sw (takes_over c' b'))
  taken_level st sw c b c' b' r q w = record {
    left = holds_taken tp st c b r w.left;
    right = holds_taken tq sw c' b' q w.right;
    same = rescoped_looks st.symbols (bound_by st.bindings c) b ∙ w.same ∙ sym (rescoped_looks sw.symbols (bound_by sw.bindings c') b');
    many = w.many;
    told = w.told;
  }

  all_levels : (es fs : List Event) (st sw : State) → TwinEvents es fs → AreVarRows es → AreVarRows fs → Orderly tp st es → Orderly tq sw fs → Level st sw → (run st es).made ≡ F → (run sw fs).made ≡ G → symbols_in F ≡ symbols_in G → map now F ≡ map next G → Level (run st es) (run sw fs)
  all_levels [] [] st sw t h k x y w f g e o = w
  all_levels [] (c ∷ fs) st sw t h k x y w f g e o = absurd t
  all_levels (c ∷ es) [] st sw t h k x y w f g e o = absurd t
  all_levels (declares d ∷ es) (declares c ∷ fs) st sw t h k x y w f g e o =
      let m : Made = record { declaration = d; symbol = gets d.how st d } in
      let n : Made = record { declaration = c; symbol = gets c.how sw c } in
      let a : Stands st.made m F = subst (Stands st.made m) f (stands st d es) in
      let b : Stands sw.made n G = subst (Stands sw.made n) g (stands sw c fs) in
      let turns : Turns st sw d c = record {
        twin = t.0;
        left = record { ready = x.0; row = h.0; among = stands_among st.made m F a; before = λ j i. subst (Among j) (sym a.is) (among_left j st.made (m ∷ a.behind) i) };
        right = record { ready = y.0; row = k.0; among = stands_among sw.made n G b; before = λ j i. subst (Among j) (sym b.is) (among_left j sw.made (n ∷ b.behind) i) };
        symbol = same_place (λ j. j.symbol) (λ j. j.symbol) st.made sw.made m n a.behind b.behind w.many (ap symbols_in (sym a.is) ∙ e ∙ ap symbols_in b.is);
        names = same_place now next st.made sw.made m n a.behind b.behind w.many (ap (map now) (sym a.is) ∙ o ∙ ap (map next) b.is);
      } in
      all_levels es fs (act st (declares d)) (act sw (declares c)) t.1 h.1 k.1 x.1 y.1 (next_level st sw d c w turns) f g e o
  all_levels (takes_over c b ∷ es) (takes_over c' b' ∷ fs) st sw t h k x y w f g e o =
      all_levels es fs (act st (takes_over c b)) (act sw (takes_over c' b')) t.1 h k x.1 y.1 (taken_level st sw c b c' b' x.0 y.0 w) f g e o
  all_levels (ends_header c ∷ es) (ends_header c' ∷ fs) st sw t h k x y w f g e o = all_levels es fs st sw t.1 h k x.1 y.1 w f g e o
  all_levels (_ ∷ es) (_ ∷ fs) st sw t h k x y w f g e o = absurd t.0

-- ---- whole programs

-- the events of two programs that differ in names alone, of which each declaration gets the same symbol
pub record AreTwins (es fs : List Event) (now next : Made → Name) (tp tq : List (Option ℕ)) : Type 0 where
  pub twins : TwinEvents es fs
  pub rows : AreVarRows es
  pub other_rows : AreVarRows fs
  pub orderly : Orderly tp start es
  pub others_orderly : Orderly tq start fs
  pub share : ShareFlags (run start es).made
  pub others_share : ShareFlags (run start fs).made
  pub symbols : symbols_in (run start es).made ≡ symbols_in (run start fs).made
  pub names : map now (run start es).made ≡ map next (run start fs).made

module _ (es fs : List Event) (now next : Made → Name) (tp tq : List (Option ℕ)) (w : AreTwins es fs now next tp tq) where
  pub in_the_end : Level (run start es).made (run start fs).made now next tp tq w.share w.others_share (run start es) (run start fs)
  in_the_end =
      all_levels (run start es).made (run start fs).made now next tp tq w.share w.others_share es fs start start w.twins w.rows w.other_rows w.orderly w.others_orderly (record {
        left = holds_start tp;
        right = holds_start tq;
        same = refl;
        many = refl;
        told = tt;
      }) refl refl w.symbols w.names

  pub same_conflicts : AllTwinned (run start es).made (run start fs).made now next (run start es).conflicts (run start fs).conflicts
  same_conflicts = in_the_end.told

  pub same_looks : looks (run start es).symbols ≡ looks (run start fs).symbols
  same_looks = in_the_end.same
