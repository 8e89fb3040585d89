-- Every binding is to a symbol that exists.
use Rattle.std.proofs.Common.{◌≡◌, ℕ, zero, suc, ◌+◌, ◌<◌, ◌≤◌, ◌==◌, List, [], ◌∷◌, ◌++◌, length, Option, Some, None, Bool, true, false, cond, refl, arith}
use Rattle.semantic_syntax.specs.Tables.{Name, Symbol}
use Rattle.semantic_syntax.specs.Sets.{meets}
use Rattle.semantic_syntax.specs.declared.symbol_flags.TheConstants.SymbolFlags as symbol
use Rattle.semantic_model.specs.Declaration.{Declaration}
use Rattle.semantic_model.specs.Binding.{Binding, is_binding_of, get, put, remove, move, take_over}
use Rattle.semantic_model.specs.Fold.{State, flags_of, found, or_else, unless_expression, update, redeclared, united, make, declare_in, chosen, new_symbol}
use Rattle.semantic_model.proofs.once.UseLists.{IsBelow}

abbrev pub AllBelow : ℕ → List Binding → Type 0
AllBelow k [] = Unit {0}
AllBelow k (b ∷ bs) = (b.symbol < k) × AllBelow k bs

pub more_below : (k m : ℕ) (bs : List Binding) → k ≤ m → AllBelow k bs → AllBelow m bs
more_below k m [] h a = tt
more_below k m (b ∷ bs) h a = (omega (arith, h, a.0), more_below k m bs h a.1)

pub get_below : (k : ℕ) (bs : List Binding) (c : ℕ) (x : Name) → AllBelow k bs → IsBelow k (get bs c x)
get_below k [] c x a = tt
get_below k (b ∷ bs) c x a = by (is_binding_of c x b) (get_below k bs c x a.1)
  where
    by : (t : Bool) → IsBelow k (get bs c x) → IsBelow k (cond t (Some b.symbol) (get bs c x))
    by true h = a.0
    by false h = h

pub put_below : (k : ℕ) (bs : List Binding) (c : ℕ) (x : Name) (s : ℕ) → s < k → AllBelow k bs → AllBelow k (put bs c x s)
put_below k [] c x s h a = (h, tt)
put_below k (b ∷ bs) c x s h a = by (is_binding_of c x b) (put_below k bs c x s h a.1)
  where
    by : (t : Bool) → AllBelow k (put bs c x s) → AllBelow k (cond t (record b { symbol = s } ∷ bs) (b ∷ put bs c x s))
    by true r = (h, a.1)
    by false r = (a.0, r)

pub remove_below : (k : ℕ) (bs : List Binding) (c : ℕ) (x : Name) → AllBelow k bs → AllBelow k (remove bs c x)
remove_below k [] c x a = tt
remove_below k (b ∷ bs) c x a = by (is_binding_of c x b) (remove_below k bs c x a.1)
  where
    by : (t : Bool) → AllBelow k (remove bs c x) → AllBelow k (cond t (remove bs c x) (b ∷ remove bs c x))
    by true r = r
    by false r = (a.0, r)

pub move_below : (k : ℕ) (bs : List Binding) (c d : ℕ) (x : Name) → AllBelow k bs → AllBelow k (move bs c d x)
move_below k bs c d x a = by (get bs c x) (get_below k bs c x a)
  where
    by : (o : Option ℕ) → IsBelow k o → AllBelow k (elim o [ None ↦ bs | Some s ↦ put (remove bs c x) d x s ])
    by None h = a
    by (Some s) h = put_below k (remove bs c x) d x s h (remove_below k bs c x a)

pub take_over_below : (k : ℕ) (bs : List Binding) (c d : ℕ) → AllBelow k bs → AllBelow k (take_over bs c d)
take_over_below k [] c d a = tt
take_over_below k (b ∷ bs) c d a = (by (b.scope == c), take_over_below k bs c d a.1)
  where
    by : (t : Bool) → (cond t (record b { scope = d }) b).symbol < k
    by true = a.0
    by false = a.0

pub update_length : (f : Symbol → Symbol) (ys : List Symbol) (n : ℕ) → length (update f ys n) ≡ length ys
update_length f [] n = refl
update_length f (y ∷ ys) zero = refl
update_length f (y ∷ ys) (suc n) = omega (arith, update_length f ys n)

append_length : (ys zs : List Symbol) → length (ys ++ zs) ≡ length ys + length zs
append_length [] zs = omega arith
append_length (y ∷ ys) zs = omega (arith, append_length ys zs)

pub record Bounded (k : ℕ) (st : State) : Type 0 where
  pub bindings : AllBelow k st.bindings
  pub remembered : AllBelow k st.remembered

-- the state is bounded by its own symbols
abbrev pub IsSound : State → Type 0
IsSound st = Bounded (length st.symbols) st

pub found_below : (k : ℕ) (st : State) (c : ℕ) (x : Name) → Bounded k st → IsBelow k (found st c x)
found_below k st c x b = unless (or_else (get st.bindings c x) (get st.remembered c x)) (either (get st.bindings c x) (get_below k st.bindings c x b.bindings))
  where
    either : (o : Option ℕ) → IsBelow k o → IsBelow k (or_else o (get st.remembered c x))
    either None h = get_below k st.remembered c x b.remembered
    either (Some s) h = h

    unless : (o : Option ℕ) → IsBelow k o → IsBelow k (unless_expression (flags_of st) o)
    unless None h = tt
    unless (Some s) h = by (meets (flags_of st s) symbol.FunctionExpression.bits)
      where
        by : (t : Bool) → IsBelow k (cond t None (Some s))
        by true = tt
        by false = h

-- a state with as many symbols or more, bounded
pub record Grows (old new : State) : Type 0 where
  pub longer : length old.symbols ≤ length new.symbols
  pub sound : IsSound new

pub make_grows : (st : State) (c : ℕ) (d : Declaration) → IsSound st → Grows st (make st c d)
make_grows st c d b =
    let n : ℕ = length st.symbols in
    let m : ℕ = length (make st c d).symbols in
    let grown : suc n ≤ m = omega (arith, append_length st.symbols (new_symbol c d.naming ∷ [])) in
    record {
      longer = omega (arith, grown);
      sound = record {
        bindings = put_below m st.bindings c d.naming.name n (omega (arith, grown)) (more_below n m st.bindings (omega (arith, grown)) b.bindings);
        remembered = more_below n m st.remembered (omega (arith, grown)) b.remembered;
      };
    }

-- the same bindings over as many symbols
pub same_grows : (st new : State) → length new.symbols ≡ length st.symbols → AllBelow (length st.symbols) new.bindings → AllBelow (length st.symbols) new.remembered → Grows st new
same_grows st new e bs rs = record {
  longer = omega (arith, e);
  sound = record {
    bindings = more_below (length st.symbols) (length new.symbols) new.bindings (omega (arith, e)) bs;
    remembered = more_below (length st.symbols) (length new.symbols) new.remembered (omega (arith, e)) rs;
  };
}

pub declare_grows : (st : State) (c : ℕ) (d : Declaration) (o : Option ℕ) → IsSound st → Grows st (declare_in st c d o)
declare_grows st c d None b = make_grows st c d b
declare_grows st c d (Some s) b =
    same_grows st (declare_in st c d (Some s)) (update_length (λ y. united d.naming.flags (redeclared d.naming y)) st.symbols s) b.bindings b.remembered

-- the symbol that a declaration gets exists then
pub chosen_below : (st : State) (c : ℕ) (d : Declaration) (o : Option ℕ) → IsBelow (length st.symbols) o → chosen st o < length (declare_in st c d o).symbols
chosen_below st c d None h = omega (arith, append_length st.symbols (new_symbol c d.naming ∷ []))
chosen_below st c d (Some s) h = omega (arith, h, update_length (λ y. united d.naming.flags (redeclared d.naming y)) st.symbols s)
