-- The tables of the walk show the bindings and symbols of a state of the definitions.
use Rattle.std.proofs.Common.{◌≡◌, ℕ, ◌<◌, List, [], refl, sym, ap, subst, ◌∙◌, Option, Some, None, cond, inl, inr, bytes_eq, nat_eq, length, fold, slice_index_or}
use Rattle.std.specs.Prelude.{slice_set}
use Rattle.std.specs.Ordering.{nat_cmp}
use Rattle.std.specs.Map.{lookup}
use Rattle.std.specs.BTreeSet.{insert_key}
use Rattle.std.proofs.lemmas.Bool.Decides.{eqb_tells}
use Rattle.std.proofs.lemmas.List.{get_or-set_same, get_or-set_other}
use Rattle.indexmap.specs.IndexMap.{insert_entry, shift_remove_entry}
use Rattle.semantic_syntax.specs.Tables.{Name, Bindings}
use Rattle.semantic_syntax.specs.Reading.{bindings_of, bound_in, symbol_flags}
use Rattle.semantic_model.specs.Binding.{Binding, get, put, remove, bound_by}
use Rattle.semantic_model.specs.Fold.{State, Made, flags_of, found, or_else, unless_expression}
use Rattle.semantic_model.proofs.fits.Outwards.{lookup-bound_by, flags_at}
use Rattle.walk_model.specs.WalkState.{WalkState}
use Rattle.walk_model.specs.Declares as writes
use Rattle.walk_model.proofs.shows.BindingLists.{IsSingle, put_here, put_elsewhere, remove_here, remove_elsewhere}

-- with so many scopes
pub record Shows (n : ℕ) (w : WalkState) (st : State) : Type 0 where
  pub scopes : length w.tables.bindings ≡ n
  pub bindings : (c : ℕ) → bindings_of w.tables c ≡ bound_by st.bindings c
  pub single : IsSingle st.bindings
  pub symbols : w.tables.symbols ≡ st.symbols
  pub remembered : w.remembered ≡ st.remembered
  pub conflicts : w.conflicts ≡ st.conflicts
  pub uses : length w.tables.uses ≡ length st.symbols

abbrev pub with_pure : List ℕ → Made → List ℕ
with_pure ys m = cond m.declaration.naming.is_pure (insert_key nat_cmp ys m.symbol) ys

-- the symbols without side effects, as they are noted one by one
abbrev pub pures : List Made → List ℕ
pures ms = fold with_pure [] ms

abbrev pub with_noted : List (ℕ × ℕ) → Made → List (ℕ × ℕ)
with_noted es m = insert_entry nat_eq es m.declaration.naming.identifier m.symbol

-- the symbols of the nodes, as they are noted one by one
abbrev pub noted_symbols : List Made → List (ℕ × ℕ)
noted_symbols ms = fold with_noted [] ms

pub record Notes (pure : List ℕ) (nodes : List (ℕ × ℕ)) (ms : List Made) : Type 0 where
  pub pure_is : pure ≡ pures ms
  pub nodes_are : nodes ≡ noted_symbols ms

pub record Represents (n : ℕ) (w : WalkState) (st : State) : Type 0 where
  pub shows : Shows n w st
  pub notes : Notes w.tables.pure_symbols w.nodes.symbols st.made

-- what is bound and remembered shows what is found
pub bound_as : (n : ℕ) (w : WalkState) (st : State) (c : ℕ) (x : Name) → Shows n w st → bound_in w.tables c x ≡ get st.bindings c x
bound_as n w st c x h = ap (lookup (bytes_eq x)) (h.bindings c) ∙ lookup-bound_by st.bindings c x

unless_as : (n : ℕ) (w : WalkState) (st : State) (o : Option ℕ) → Shows n w st → unless_expression (symbol_flags w.tables) o ≡ unless_expression (flags_of st) o
unless_as n w st None h = refl
unless_as n w st (Some y) h = rw (h.symbols, flags_at st.symbols y) refl

pub found_as : (n : ℕ) (w : WalkState) (st : State) (c : ℕ) (x : Name) → Shows n w st → writes.found w c x ≡ found st c x
found_as n w st c x h =
    ap (λ o. unless_expression (symbol_flags w.tables) (or_else o (get w.remembered c x))) (bound_as n w st c x h)
    ∙ ap (λ bs. unless_expression (symbol_flags w.tables) (or_else (get st.bindings c x) (get bs c x))) h.remembered
    ∙ unless_as n w st (or_else (get st.bindings c x) (get st.remembered c x)) h

-- lists of what scopes bind, and all bindings
abbrev pub AreShown : List Bindings → List Binding → Type 0
AreShown bss bs = (c : ℕ) → slice_index_or bss c [] ≡ bound_by bs c

pub shown_put : (bss : List Bindings) (bs : List Binding) (c : ℕ) (x : Name) (y : ℕ) → c < length bss → AreShown bss bs
    → AreShown (slice_set bss c (insert_entry bytes_eq (slice_index_or bss c []) x y)) (put bs c x y)
shown_put bss bs c x y l h d = elim (eqb_tells c d) [
  | inl k ↦ subst (λ e. slice_index_or (slice_set bss c (insert_entry bytes_eq (slice_index_or bss c []) x y)) e [] ≡ bound_by (put bs c x y) e) k.1
      (get_or-set_same bss c (insert_entry bytes_eq (slice_index_or bss c []) x y) [] l ∙ ap (λ es. insert_entry bytes_eq es x y) (h c) ∙ sym (put_here bs c x y))
  | inr k ↦ get_or-set_other bss c d (insert_entry bytes_eq (slice_index_or bss c []) x y) [] (λ e. k.1 (sym e)) ∙ h d ∙ sym (put_elsewhere bs c x y d k.1)
]

pub shown_remove : (bss : List Bindings) (bs : List Binding) (c : ℕ) (x : Name) → c < length bss → IsSingle bs → AreShown bss bs
    → AreShown (slice_set bss c (shift_remove_entry (bytes_eq x) (slice_index_or bss c []))) (remove bs c x)
shown_remove bss bs c x l s h d = elim (eqb_tells c d) [
  | inl k ↦ subst (λ e. slice_index_or (slice_set bss c (shift_remove_entry (bytes_eq x) (slice_index_or bss c []))) e [] ≡ bound_by (remove bs c x) e) k.1
      (get_or-set_same bss c (shift_remove_entry (bytes_eq x) (slice_index_or bss c [])) [] l ∙ ap (shift_remove_entry (bytes_eq x)) (h c) ∙ sym (remove_here bs c x s))
  | inr k ↦ get_or-set_other bss c d (shift_remove_entry (bytes_eq x) (slice_index_or bss c [])) [] (λ e. k.1 (sym e)) ∙ h d ∙ sym (remove_elsewhere bs c x d k.1)
]

-- it comes to the same in either order
pub either_order : (bs : List Binding) (from to : ℕ) (x : Name) (y d : ℕ) → (from ≡ to → ⊥) → IsSingle bs → IsSingle (put bs to x y)
    → bound_by (remove (put bs to x y) from x) d ≡ bound_by (put (remove bs from x) to x y) d
either_order bs from to x y d n s t = elim (eqb_tells from d) [
  | inl k ↦ subst (λ e. bound_by (remove (put bs to x y) from x) e ≡ bound_by (put (remove bs from x) to x y) e) k.1 at_from
  | inr k ↦ elim (eqb_tells to d) [
    | inl j ↦ subst (λ e. bound_by (remove (put bs to x y) from x) e ≡ bound_by (put (remove bs from x) to x y) e) j.1 at_to
    | inr j ↦ remove_elsewhere (put bs to x y) from x d k.1 ∙ put_elsewhere bs to x y d j.1
        ∙ sym (remove_elsewhere bs from x d k.1) ∙ sym (put_elsewhere (remove bs from x) to x y d j.1)
  ]
]
  where
    at_from : bound_by (remove (put bs to x y) from x) from ≡ bound_by (put (remove bs from x) to x y) from
    at_from =
        remove_here (put bs to x y) from x t ∙ ap (shift_remove_entry (bytes_eq x)) (put_elsewhere bs to x y from (λ e. n (sym e)))
        ∙ sym (remove_here bs from x s) ∙ sym (put_elsewhere (remove bs from x) to x y from (λ e. n (sym e)))

    at_to : bound_by (remove (put bs to x y) from x) to ≡ bound_by (put (remove bs from x) to x y) to
    at_to =
        remove_elsewhere (put bs to x y) from x to n ∙ put_here bs to x y
        ∙ ap (λ es. insert_entry bytes_eq es x y) (sym (remove_elsewhere bs from x to n)) ∙ sym (put_here (remove bs from x) to x y)
