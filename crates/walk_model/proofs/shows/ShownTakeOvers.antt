-- What the walk does at a take-over, and what settling, opening and closing leave, shows the same state.
use Rattle.std.proofs.Common.{◌≡◌, ℕ, zero, suc, ◌<◌, ◌≤◌, List, [], ◌∷◌, ◌++◌, refl, sym, ap, subst, ◌∙◌, Option, Some, None, cond, Bool, true, false, inl, inr, length, map, fold, slice_index_or, arith}
use Rattle.std.specs.Prelude.{slice_set}
use Rattle.std.specs.Option.{option_map_or}
use Rattle.std.specs.Map.{values_of}
use Rattle.std.proofs.lemmas.Bool.Decides.{eqb_tells}
use Rattle.std.proofs.lemmas.List.{length-set, length-append, get_or-set_same, get_or-set_other}
use Rattle.semantic_kinds.specs.declared.kind.AstType.TheVariants as kind
use Rattle.semantic_syntax.specs.Sets.{meets}
use Rattle.semantic_syntax.specs.declared.scope_flags.TheConstants.ScopeFlags as scope
use Rattle.semantic_syntax.specs.Tables.{Bindings, Tables}
use Rattle.semantic_syntax.specs.Reading.{scope_of}
use Rattle.semantic_syntax.specs.Writing.{bindings_taken_over, with_home}
use Rattle.semantic_tree.specs.Views.{is}
use Rattle.semantic_model.specs.Place.{Place, OpenScope, scope_of_place}
use Rattle.semantic_model.specs.Binding.{Binding, take_over, bound_by}
use Rattle.semantic_model.specs.Event.{takes_over}
use Rattle.semantic_model.specs.Fold.{State}
use Rattle.semantic_model.specs.Hoist.{act, rescoped}
use Rattle.semantic_syntax.specs.Outcome.{Pending, Outcome, means, is_free, waits}
use Rattle.semantic_model.specs.TablesOf.{is_direct_eval}
use Rattle.semantic_model.proofs.lists.Growth.{rescoped_length}
use Rattle.walk_model.specs.WalkState.{WalkState}
use Rattle.walk_model.specs.Settles.{settle, settle_one, settle_by}
use Rattle.walk_model.specs.Opens.{note_eval, note_reference, open_scope, close_scope, add_eval, refer}
use Rattle.walk_model.proofs.shows.BindingLists.{taken_here, taken_from, taken_elsewhere, taken_single}
use Rattle.walk_model.proofs.shows.SymbolLists.{rescoped_as}
use Rattle.walk_model.proofs.shows.Represents.{Represents, AreShown}

shown_taken : (bss : List Bindings) (bs : List Binding) (c b : ℕ) → c < length bss → b < length bss → (c ≡ b → ⊥) → bound_by bs b ≡ [] → AreShown bss bs
    → AreShown (slice_set (slice_set bss c []) b (slice_index_or bss c [])) (take_over bs c b)
shown_taken bss bs c b l k apart empty h d =
    let once : List Bindings = slice_set bss c [] in
    elim (eqb_tells b d) [
      | inl j ↦ subst (λ e. slice_index_or (slice_set once b (slice_index_or bss c [])) e [] ≡ bound_by (take_over bs c b) e) j.1
          (get_or-set_same once b (slice_index_or bss c []) [] (subst (λ m. b < m) (sym (length-set bss c [])) k) ∙ h c ∙ sym (taken_here bs c b empty))
      | inr j ↦ get_or-set_other once b d (slice_index_or bss c []) [] (λ e. j.1 (sym e)) ∙ (elim (eqb_tells c d) [
        | inl i ↦ subst (λ e. slice_index_or once e [] ≡ bound_by (take_over bs c b) e) i.1 (get_or-set_same bss c [] [] l ∙ sym (taken_from bs c b apart))
        | inr i ↦ get_or-set_other bss c d [] [] (λ e. i.1 (sym e)) ∙ h d ∙ sym (taken_elsewhere bs c b d i.1 j.1)
      ])
    ]

-- an empty scope takes over
pub represents_taken : (n : ℕ) (w : WalkState) (st : State) (c b : ℕ) → c < n → b < n → (c ≡ b → ⊥) → bound_by st.bindings b ≡ [] → Represents n w st
    → Represents n (record w { tables = bindings_taken_over w.tables c b }) (act st (takes_over c b))
represents_taken n w st c b l k apart empty h = record {
  shows = record {
    scopes = length-set (slice_set w.tables.bindings c []) b _ ∙ length-set w.tables.bindings c [] ∙ h.shows.scopes;
    bindings = shown_taken w.tables.bindings st.bindings c b (subst (λ m. c < m) (sym h.shows.scopes) l) (subst (λ m. b < m) (sym h.shows.scopes) k) apart empty h.shows.bindings;
    single = taken_single st.bindings c b empty apart h.shows.single;
    symbols = ap (λ bs. fold (with_home b) w.tables.symbols (values_of bs)) (h.shows.bindings c) ∙ rescoped_as w.tables.symbols (bound_by st.bindings c) b ∙ ap (λ ys. rescoped ys (bound_by st.bindings c) b) h.shows.symbols;
    remembered = h.shows.remembered;
    conflicts = h.shows.conflicts;
    uses = h.shows.uses ∙ sym (rescoped_length st.symbols (bound_by st.bindings c) b);
  };
  notes = record { pure_is = h.notes.pure_is; nodes_are = h.notes.nodes_are };
}

-- what settling leaves
pub record Kept (t u : Tables) : Type 0 where
  pub scopes : u.scopes ≡ t.scopes
  pub bindings : u.bindings ≡ t.bindings
  pub symbols : u.symbols ≡ t.symbols
  pub pure_symbols : u.pure_symbols ≡ t.pure_symbols
  pub uses : length u.uses ≡ length t.uses

then_kept : (t u v : Tables) → Kept t u → Kept u v → Kept t v
then_kept t u v h k = record {
  scopes = k.scopes ∙ h.scopes;
  bindings = k.bindings ∙ h.bindings;
  symbols = k.symbols ∙ h.symbols;
  pure_symbols = k.pure_symbols ∙ h.pure_symbols;
  uses = k.uses ∙ h.uses;
}

settle_one_keeps : (t : Tables) (e : Pending) (o : Outcome) → Kept t (settle_one t e o)
settle_one_keeps t e (means y) = record { scopes = refl; bindings = refl; symbols = refl; pure_symbols = refl; uses = length-set t.uses y _ }
settle_one_keeps t e is_free = record { scopes = refl; bindings = refl; symbols = refl; pure_symbols = refl; uses = refl }
settle_one_keeps t e (waits s) = record { scopes = refl; bindings = refl; symbols = refl; pure_symbols = refl; uses = refl }

pub settle_keeps : (t : Tables) (es : List Pending) (os : List Outcome) → Kept t (settle t es os)
settle_keeps t [] os = record { scopes = refl; bindings = refl; symbols = refl; pure_symbols = refl; uses = refl }
settle_keeps t (e ∷ es) [] = record { scopes = refl; bindings = refl; symbols = refl; pure_symbols = refl; uses = refl }
settle_keeps t (e ∷ es) (o ∷ os) = then_kept t (settle_one t e o) (settle (settle_one t e o) es os) (settle_one_keeps t e o) (settle_keeps (settle_one t e o) es os)

pub represents_settle : (n : ℕ) (w : WalkState) (st : State) (outcome : Pending → Outcome) → Represents n w st → Represents n (settle_by w outcome) st
represents_settle n w st outcome h =
    let k : Kept w.tables (settle w.tables w.waiting (map outcome w.waiting)) = settle_keeps w.tables w.waiting (map outcome w.waiting) in
    record {
      shows = record {
        scopes = ap length k.bindings ∙ h.shows.scopes;
        bindings = λ c. ap (λ bss. slice_index_or bss c []) k.bindings ∙ h.shows.bindings c;
        single = h.shows.single;
        symbols = k.symbols ∙ h.shows.symbols;
        remembered = h.shows.remembered;
        conflicts = h.shows.conflicts;
        uses = k.uses ∙ h.shows.uses;
      };
      notes = record { pure_is = k.pure_symbols ∙ h.notes.pure_is; nodes_are = h.notes.nodes_are };
    }

-- scopes' flags and references don't count here
represents_add_eval : (n : ℕ) (w : WalkState) (st : State) (c : ℕ) → Represents n w st → Represents n (add_eval w c) st
represents_add_eval n w st c h = record {
  shows = record { scopes = h.shows.scopes; bindings = h.shows.bindings; single = h.shows.single; symbols = h.shows.symbols; remembered = h.shows.remembered; conflicts = h.shows.conflicts; uses = h.shows.uses };
  notes = record { pure_is = h.notes.pure_is; nodes_are = h.notes.nodes_are };
}

represents_refer : (n : ℕ) (w : WalkState) (st : State) (p : Place) → Represents n w st → Represents n (refer w p) st
represents_refer n w st p h = record {
  shows = record { scopes = h.shows.scopes; bindings = h.shows.bindings; single = h.shows.single; symbols = h.shows.symbols; remembered = h.shows.remembered; conflicts = h.shows.conflicts; uses = h.shows.uses };
  notes = record { pure_is = h.notes.pure_is; nodes_are = h.notes.nodes_are };
}

pub represents_entering : (n : ℕ) (w : WalkState) (st : State) (p : Place) → Represents n w st → Represents n (note_eval (note_reference w p) p) st
represents_entering n w st p h = evaluated (is_direct_eval p.node) (note_reference w p) (referred (is kind.IdentifierReference p.node))
  where
    referred : (b : Bool) → Represents n (cond b (refer w p) w) st
    referred true = represents_refer n w st p h
    referred false = h

    evaluated : (b : Bool) (v : WalkState) → Represents n v st → Represents n (cond b (add_eval v (scope_of_place p)) v) st
    evaluated true v k = represents_add_eval n v st (scope_of_place p) k
    evaluated false v k = k

pub represents_closing : (n : ℕ) (w : WalkState) (st : State) (s : ℕ) → Represents n w st → Represents n (close_scope w s) st
represents_closing n w st s h = by (meets (scope_of w.tables s).flags.bits scope.DirectEval.bits) (scope_of w.tables s).parent
  where
    by : (b : Bool) (o : Option ℕ) → Represents n (cond b (option_map_or (add_eval w) o w) w) st
    by true None = h
    by true (Some q) = represents_add_eval n w st q h
    by false o = h

past_end : (bss : List Bindings) (c : ℕ) → slice_index_or (bss ++ [] ∷ []) c [] ≡ slice_index_or bss c []
past_end [] zero = refl
past_end [] (suc c) = refl
past_end (bs ∷ bss) zero = refl
past_end (bs ∷ bss) (suc c) = past_end bss c

pub represents_opening : (n : ℕ) (w : WalkState) (st : State) (p : Place) (s : OpenScope) → Represents n w st → Represents (suc n) (open_scope w p s) st
represents_opening n w st p s h = record {
  shows = record {
    scopes = omega (arith, length-append w.tables.bindings ([] ∷ []), h.shows.scopes);
    bindings = λ c. past_end w.tables.bindings c ∙ h.shows.bindings c;
    single = h.shows.single;
    symbols = h.shows.symbols;
    remembered = h.shows.remembered;
    conflicts = h.shows.conflicts;
    uses = h.shows.uses;
  };
  notes = record { pure_is = h.notes.pure_is; nodes_are = h.notes.nodes_are };
}

-- a scope that is just opened binds nothing
pub opened_empty : (n : ℕ) (w : WalkState) (st : State) → Represents n w st → bound_by st.bindings n ≡ []
opened_empty n w st h = sym (h.shows.bindings n) ∙ beyond w.tables.bindings n (omega (arith, h.shows.scopes))
  where
    beyond : (bss : List Bindings) (c : ℕ) → length bss ≤ c → slice_index_or bss c [] ≡ []
    beyond [] c h = refl
    beyond (bs ∷ bss) zero h = absurd (omega arith)
    beyond (bs ∷ bss) (suc c) h = beyond bss c (omega arith)
