-- Events that differ in names alone, of which each declaration gets the same symbol, make the same so far, wherever they stop.
use Rattle.std.proofs.Common.{◌≡◌, ℕ, List, [], ◌∷◌, ◌++◌, Option, Some, map, refl, sym, ap, subst, ◌∙◌}
use Rattle.std.specs.Prelude.{slice_get}
use Rattle.std.proofs.lemmas.Option.{slice_get_within}
use Rattle.semantic_syntax.specs.Tables.{Name, Symbol}
use Rattle.semantic_model.specs.Entries.{Among}
use Rattle.semantic_model.specs.Event.{Event, declares, takes_over, ends_header}
use Rattle.semantic_model.specs.Fold.{Made, State, start}
use Rattle.semantic_model.specs.Hoist.{act, run}
use Rattle.semantic_model.proofs.fold.Changes.{HasName, Sound}
use Rattle.semantic_model.proofs.fold.TakeOvers.{Orderly}
use Rattle.semantic_model.proofs.lists.Members.{among_left}
use Rattle.semantic_model.proofs.steps.Compose.{run-append}
use Rattle.check_model.specs.SightOf.{symbol_pair}
use Rattle.rename_model.proofs.NamedNodes.{some_is}
use Rattle.renaming_laws.specs.InBlocks.{ShareFlags}
use Rattle.renaming_laws.proofs.KeptSymbols.{head_is, Partner, partner}
use Rattle.renaming_laws.proofs.SameConflicts.{Grows, grows_run, symbols_in, AreVarRows, AreTwins, Level, in_the_end}
use Rattle.renaming_laws.proofs.SameSymbols.{Paired, paired_run}
use Rattle.renaming_laws.proofs.Twins.{TwinEvents}

-- ---- events that stop

rows_front : (es more : List Event) → AreVarRows (es ++ more) → AreVarRows es
rows_front [] more h = tt
rows_front (declares d ∷ es) more h = (h.0, rows_front es more h.1)
rows_front (takes_over c b ∷ es) more h = rows_front es more h
rows_front (ends_header c ∷ es) more h = rows_front es more h

orderly_front : (table : List (Option ℕ)) (st : State) (es more : List Event) → Orderly table st (es ++ more) → Orderly table st es
orderly_front table st [] more h = tt
orderly_front table st (e ∷ es) more h = (h.0, orderly_front table (act st e) es more h.1)

-- what is made by then is made in the end
pub made_front : (es more : List Event) → Grows (run start es).made (run start (es ++ more)).made
made_front es more =
    let g : Grows (run start es).made (run (run start es) more).made = grows_run more (run start es) in
    record { more = g.more; is = ap (λ (st : State). st.made) (run-append es more start) ∙ g.is }

pub among_later : (es more : List Event) (m : Made) → Among m (run start es).made → Among m (run start (es ++ more)).made
among_later es more m a = let g : Grows (run start es).made (run start (es ++ more)).made = made_front es more in subst (Among m) (sym g.is) (among_left m (run start es).made g.more a)

share_front : (es more : List Event) → ShareFlags (run start (es ++ more)).made → ShareFlags (run start es).made
share_front es more h m k c a b = h m k c (among_later es more m a) (among_later es more k b)

-- lists that tell the same of paired declarations do so of those that stand in front
front : {A : Type 0} → (g h : Made → A) (ms ns us vs : List Made) → Paired ms ns → map g (ms ++ us) ≡ map h (ns ++ vs) → map g ms ≡ map h ns
front g h [] [] us vs w e = refl
front g h [] (y ∷ ns) us vs w e = absurd w
front g h (x ∷ ms) [] us vs w e = absurd w
front g h (x ∷ ms) (y ∷ ns) us vs w e =
    let (first, rest) = head_is (g x) (h y) (map g (ms ++ us)) (map h (ns ++ vs)) e in
    λ i. first i ∷ front g h ms ns us vs w.1 rest i

told_front : {A : Type 0} → (g h : Made → A) (es more fs others : List Event) → TwinEvents es fs → map g (run start (es ++ more)).made ≡ map h (run start (fs ++ others)).made → map g (run start es).made ≡ map h (run start fs).made
told_front g h es more fs others t e =
    let left : Grows (run start es).made (run start (es ++ more)).made = made_front es more in
    let right : Grows (run start fs).made (run start (fs ++ others)).made = made_front fs others in
    front g h (run start es).made (run start fs).made left.more right.more (paired_run es fs start start t tt) (ap (map g) (sym left.is) ∙ e ∙ ap (map h) right.is)

module _ (now next : Made → Name) (tp tq : List (Option ℕ)) where
  pub stopped : (es more fs others : List Event) → TwinEvents es fs → AreTwins (es ++ more) (fs ++ others) now next tp tq → AreTwins es fs now next tp tq
  stopped es more fs others t w = record {
    twins = t;
    rows = rows_front es more w.rows;
    other_rows = rows_front fs others w.other_rows;
    orderly = orderly_front tp start es more w.orderly;
    others_orderly = orderly_front tq start fs others w.others_orderly;
    share = share_front es more w.share;
    others_share = share_front fs others w.others_share;
    symbols = told_front (λ m. m.symbol) (λ m. m.symbol) es more fs others t w.symbols;
    names = told_front now next es more fs others t w.names;
  }

  -- ---- what is made so far

  same_pairs : (ms ns : List Made) → Paired ms ns → symbols_in ms ≡ symbols_in ns → map symbol_pair ms ≡ map symbol_pair ns
  same_pairs [] [] h e = refl
  same_pairs [] (y ∷ ns) h e = absurd h
  same_pairs (x ∷ ms) [] h e = absurd h
  same_pairs (x ∷ ms) (y ∷ ns) h e =
      let (first, rest) = head_is x.symbol y.symbol (symbols_in ms) (symbols_in ns) e in
      λ i. ((h.0 i).identifier, first i) ∷ same_pairs ms ns h.1 rest i

  module _ (es fs : List Event) (w : AreTwins es fs now next tp tq) where
    abbrev st : State
    st = run start es

    abbrev sw : State
    sw = run start fs

    pub same_declared : map symbol_pair st.made ≡ map symbol_pair sw.made
    same_declared = same_pairs st.made sw.made (paired_run es fs start start w.twins tt) w.symbols

    its_name : (table : List (Option ℕ)) (state : State) → Sound table state → (m : Made) → Among m state.made → (r : ℕ) (a : Symbol) → m.symbol ≡ r → slice_get state.symbols r ≡ Some a → a.name ≡ m.declaration.naming.name
    its_name table state h m c r a i e =
        let n : HasName state.symbols m.symbol m.declaration.naming.name = h.has_name m c in
        ap (λ (x : Symbol). x.name) (some_is a n.symbol (sym e ∙ subst (λ t. slice_get state.symbols t ≡ Some n.symbol) i n.is_there)) ∙ n.named

    -- the declaration of a symbol, and the name
    pub record Declares (r : ℕ) (a : Symbol) : Type 0 where
      pub made : Made
      pub among : Among made st.made
      pub symbol : made.symbol ≡ r
      pub named : a.name ≡ made.declaration.naming.name
      pub told : (b : Symbol) → slice_get sw.symbols r ≡ Some b → b.name ≡ now made

    pub declares_it : (own : (m : Made) → Among m sw.made → next m ≡ m.declaration.naming.name) (r : ℕ) (a : Symbol) → slice_get st.symbols r ≡ Some a → Declares r a
    declares_it own r a e =
        let level : Level st.made sw.made now next tp tq w.share w.others_share st sw = in_the_end es fs now next tp tq w in
        let (m, c, i) = level.left.sound.has_declaration r (slice_get_within st.symbols r a e) in
        let o : Partner now next m sw.made = partner now next st.made sw.made m w.symbols w.names c in
        record {
          made = m;
          among = c;
          symbol = i;
          named = its_name tp st level.left.sound m c r a i e;
          told = λ b f. its_name tq sw level.right.sound o.other o.among r b (sym o.symbol ∙ i) f ∙ sym (own o.other o.among) ∙ sym o.name;
        }
