-- The lines on tables determine them.
use Rattle.std.proofs.Common.{◌≡◌, ℕ, ◌^◌, List, [], ◌∷◌, ◌++◌, Option, Some, None, map, refl, sym, ap, ◌∙◌, arith}
use Rattle.std.specs.Option.{unwrap_or}
use Rattle.std.specs.List.{AllByRecursion}
use Rattle.semantic_syntax.specs.declared.references.Reference.{Reference}
use Rattle.semantic_syntax.specs.declared.references.Redeclaration.{Redeclaration}
use Rattle.semantic_syntax.specs.Tables.{Name, Scope, Symbol, Bindings, FreeLists, Tables}
use Rattle.semantic_syntax.specs.Reading.{bindings_of, uses_of}
use Rattle.table_bounds.specs.Tellable.{IsWrittenWhole, AreNumbers, AreTellableEntries, IsTellableScope, IsTellableEntry, IsTellableSymbol, IsTellableReference, AreTellable}
use Rattle.report_laws.proofs.Forms.{number, Form, end, piece, Values, written, AreTold}
use Rattle.semantic_syntax.proofs.Every.{every-or}
use Rattle.report_laws.proofs.Lists.{numbered, map_back, numbered_back, beside_back, all_map, all_numbered}
use Rattle.report_lines.specs.TableLines.{table_lines}
use Rattle.report_laws.proofs.Determined.{told_same}
use Rattle.report_laws.proofs.TableForms.{scope_form, bind_form, entry_form, symbol_form, pure_form, reference_form, free_form, table_form, number_value, bind_value, scope_value, entry_value, symbol_value, pure_value, reference_value, free_value, table_value, tables_written}

-- ---- back

bind_back : Values bind_form → Name × ℕ
bind_back v = (v.1.0, v.1.1.0)

binds_back : Values scope_form → Bindings
binds_back v = map bind_back v.1.1.1.1.0

scope_back : Values scope_form → Scope
scope_back v = record { parent = v.1.0; node = v.1.1.0; flags = record { bits = v.1.1.1.0 } }

entry_back : Values entry_form → Redeclaration
entry_back v = record { span = record { start = v.1.1.0; end = v.1.1.1.0 }; declaration = v.1.0; flags = record { bits = v.1.1.1.1.0 } }

-- no list where there are none
listed : List Redeclaration → Option (List Redeclaration)
listed [] = None
listed (e ∷ es) = Some (e ∷ es)

symbol_back : Values symbol_form → Symbol
symbol_back v = record {
  name = v.1.0;
  span = record { start = v.1.1.1.1.0; end = v.1.1.1.1.1.0 };
  flags = record { bits = v.1.1.1.1.1.1.0 };
  scope = v.1.1.0;
  node = v.1.1.1.0;
  redeclarations = listed (map entry_back v.1.1.1.1.1.1.1.0);
}

pub number_back : Values (piece number end) → ℕ
number_back v = v.0

uses_back : Values symbol_form → List ℕ
uses_back v = map number_back v.1.1.1.1.1.1.1.1.1.0

reference_back : Values reference_form → Reference
reference_back v = record { node_id = v.1.1.0; scope_id = v.1.1.1.0; flags = record { bits = v.1.1.1.1.0 }; symbol_id = v.1.1.1.1.1.0 }

free_back : Values free_form → Name × List ℕ
free_back v = (v.0, map number_back v.1.0)

pub numbers_back : (ns : List ℕ) → map number_back (map number_value ns) ≡ ns
unfolding number_back
numbers_back ns = map_back number_value number_back (λ n. refl) ns

entries_back : (i : ℕ) (o : Option (List Redeclaration)) → AreTellableEntries o → listed (map entry_back (map (entry_value i) (unwrap_or o []))) ≡ o
unfolding entry_back listed
entries_back i None h = refl
entries_back i (Some []) h = absurd h
entries_back i (Some (e ∷ es)) h = ap (λ l. listed l) (map_back (entry_value i) entry_back (λ e. refl) (e ∷ es))

symbol_is : (t : Tables) (i : ℕ) (y : Symbol) → IsTellableSymbol y → symbol_back (symbol_value t i y) ≡ y
unfolding symbol_back
symbol_is t i y h = ap (λ o. record { name = y.name; span = y.span; flags = y.flags; scope = y.scope; node = y.node; redeclarations = o }) (entries_back i y.redeclarations h.redeclarations)

module _ (t : Tables) (h : AreTellable t) where
  scopes_are : map scope_back (numbered (scope_value t) 0 t.scopes) ≡ t.scopes
  unfolding scope_back
  scopes_are = numbered_back (scope_value t) scope_back IsTellableScope (λ i s k. refl) 0 t.scopes h.scopes

  bindings_are : map binds_back (numbered (scope_value t) 0 t.scopes) ≡ t.bindings
  unfolding binds_back bind_back
  bindings_are = beside_back t.bindings [] (scope_value t) binds_back (λ i s. map_back (bind_value i) bind_back (λ b. refl) (bindings_of t i)) 0 t.scopes (omega (arith, h.with_bindings))

  symbols_are : map symbol_back (numbered (symbol_value t) 0 t.symbols) ≡ t.symbols
  symbols_are = numbered_back (symbol_value t) symbol_back IsTellableSymbol (symbol_is t) 0 t.symbols h.symbols

  uses_are : map uses_back (numbered (symbol_value t) 0 t.symbols) ≡ t.uses
  unfolding uses_back
  uses_are = beside_back t.uses [] (symbol_value t) uses_back (λ i y. numbers_back (uses_of t i)) 0 t.symbols (omega (arith, h.with_uses))

  references_are : map reference_back (numbered (reference_value t) 0 t.references) ≡ t.references
  unfolding reference_back
  references_are = numbered_back (reference_value t) reference_back IsTellableReference (λ i r k. refl) 0 t.references h.references

  free_are : map free_back (map free_value t.free) ≡ t.free
  unfolding free_back
  free_are = map_back free_value free_back (λ entry. ap (λ rs. (entry.0, rs)) (numbers_back entry.1)) t.free

  pure_are : map (λ (v : Values pure_form). v.0) (map pure_value t.pure_symbols) ≡ t.pure_symbols
  pure_are = map_back pure_value (λ v. v.0) (λ n. refl) t.pure_symbols

abbrev all_of : List Scope → List Bindings → List Symbol → List Reference → List (List ℕ) → FreeLists → List ℕ → Tables
all_of scopes bindings symbols references uses free pure_symbols = record { scopes = scopes; bindings = bindings; symbols = symbols; references = references; uses = uses; free = free; pure_symbols = pure_symbols }

same_tables : (t u : Tables) → t.scopes ≡ u.scopes → t.bindings ≡ u.bindings → t.symbols ≡ u.symbols → t.references ≡ u.references → t.uses ≡ u.uses → t.free ≡ u.free → t.pure_symbols ≡ u.pure_symbols → t ≡ u
same_tables t u a b c d e f g =
    ap (λ x. all_of x t.bindings t.symbols t.references t.uses t.free t.pure_symbols) a
    ∙ ap (λ x. all_of u.scopes x t.symbols t.references t.uses t.free t.pure_symbols) b
    ∙ ap (λ x. all_of u.scopes u.bindings x t.references t.uses t.free t.pure_symbols) c
    ∙ ap (λ x. all_of u.scopes u.bindings u.symbols x t.uses t.free t.pure_symbols) d
    ∙ ap (λ x. all_of u.scopes u.bindings u.symbols u.references x t.free t.pure_symbols) e
    ∙ ap (λ x. all_of u.scopes u.bindings u.symbols u.references u.uses x t.pure_symbols) f
    ∙ ap (λ x. all_of u.scopes u.bindings u.symbols u.references u.uses u.free x) g

-- tables of which the same is told are the same
pub tables_back : (f : Form) (t u : Tables) (v w : Values f) → AreTellable t → AreTellable u → table_value f t v ≡ table_value f u w → (t ≡ u) × (v ≡ w)
tables_back f t u v w ht hu e =
    let scopes : numbered (scope_value t) 0 t.scopes ≡ numbered (scope_value u) 0 u.scopes = ap (λ x. x.0) e in
    let symbols : numbered (symbol_value t) 0 t.symbols ≡ numbered (symbol_value u) 0 u.symbols = ap (λ x. x.1.0) e in
    let pures : map pure_value t.pure_symbols ≡ map pure_value u.pure_symbols = ap (λ x. x.1.1.0) e in
    let references : numbered (reference_value t) 0 t.references ≡ numbered (reference_value u) 0 u.references = ap (λ x. x.1.1.1.0) e in
    let free : map free_value t.free ≡ map free_value u.free = ap (λ x. x.1.1.1.1.0) e in (
      same_tables t u
          (sym (scopes_are t ht) ∙ ap (map scope_back) scopes ∙ scopes_are u hu)
          (sym (bindings_are t ht) ∙ ap (map binds_back) scopes ∙ bindings_are u hu)
          (sym (symbols_are t ht) ∙ ap (map symbol_back) symbols ∙ symbols_are u hu)
          (sym (references_are t ht) ∙ ap (map reference_back) references ∙ references_are u hu)
          (sym (uses_are t ht) ∙ ap (map uses_back) symbols ∙ uses_are u hu)
          (sym (free_are t ht) ∙ ap (map free_back) free ∙ free_are u hu)
          (sym (pure_are t ht) ∙ ap (map (λ (v : Values pure_form). v.0)) pures ∙ pure_are u hu),
      ap (λ x. x.1.1.1.1.1) e,
    )

-- ---- what is told can be read back

pub numbers_told : (ns : List ℕ) → AreNumbers ns → AllByRecursion (AreTold (piece number end)) (map number_value ns)
numbers_told ns h = all_map IsWrittenWhole (AreTold (piece number end)) number_value (λ n k. (k, tt)) ns h

module _ (t : Tables) (h : AreTellable t) where
  binds_told : (i : ℕ) → IsWrittenWhole i → AllByRecursion (AreTold bind_form) (map (bind_value i) (bindings_of t i))
  binds_told i small =
      all_map (λ (b : Name × ℕ). IsWrittenWhole b.1) (AreTold bind_form) (bind_value i) (λ b k. (small, (tt, (k, tt)))) (bindings_of t i)
      (every-or (AllByRecursion (λ (b : Name × ℕ). IsWrittenWhole b.1)) [] t.bindings i h.bindings tt)

  scope_told : (i : ℕ) (s : Scope) → IsWrittenWhole i → IsTellableScope s → AreTold scope_form (scope_value t i s)
  scope_told i s small k = (small, (k.parent, (k.node, (k.flags, (binds_told i small, tt)))))

  entries_told : (i : ℕ) → IsWrittenWhole i → (o : Option (List Redeclaration)) → AreTellableEntries o → AllByRecursion (AreTold entry_form) (map (entry_value i) (unwrap_or o []))
  entries_told i small None k = tt
  entries_told i small (Some []) k = absurd k
  entries_told i small (Some (e ∷ es)) k =
      all_map IsTellableEntry (AreTold entry_form) (entry_value i) (λ e told. (small, (told.declaration, (told.start, (told.end, (told.flags, tt)))))) (e ∷ es) k

  symbol_told : (i : ℕ) (y : Symbol) → IsWrittenWhole i → IsTellableSymbol y → AreTold symbol_form (symbol_value t i y)
  symbol_told i y small k =
      (small, (tt, (k.scope, (k.node, (k.start, (k.end, (k.flags, (entries_told i small y.redeclarations k.redeclarations, (small, (numbers_told (uses_of t i) (every-or AreNumbers [] t.uses i h.uses tt), tt))))))))))

  reference_told : (i : ℕ) (r : Reference) → IsWrittenWhole i → IsTellableReference r → AreTold reference_form (reference_value t i r)
  reference_told i r small k = (small, (tt, (k.node, (k.scope, (k.flags, (k.symbol, tt))))))

  pub tables_told : (f : Form) (v : Values f) → AreTold f v → AreTold (table_form f) (table_value f t v)
  tables_told f v told = (
    all_numbered IsTellableScope (AreTold scope_form) (scope_value t) (2 ^ 64) scope_told 0 t.scopes (omega (arith, h.scopes_numbered)) h.scopes,
    (
      all_numbered IsTellableSymbol (AreTold symbol_form) (symbol_value t) (2 ^ 64) symbol_told 0 t.symbols (omega (arith, h.symbols_numbered)) h.symbols,
      (
        all_map IsWrittenWhole (AreTold pure_form) pure_value (λ n k. (k, tt)) t.pure_symbols h.pure_symbols,
        (
          all_numbered IsTellableReference (AreTold reference_form) (reference_value t) (2 ^ 64) reference_told 0 t.references (omega (arith, h.references_numbered)) h.references,
          (all_map (λ (entry : Name × List ℕ). AreNumbers entry.1) (AreTold free_form) free_value (λ entry k. (tt, (numbers_told entry.1 k, tt))) t.free h.free, told),
        ),
      ),
    ),
  )

-- the lines alone
pub lines_tell_tables : (t u : Tables) → AreTellable t → AreTellable u → table_lines t ≡ table_lines u → t ≡ u
lines_tell_tables t u ht hu e =
    let written_same : written (table_form end) (table_value end t tt) [] ≡ written (table_form end) (table_value end u tt) [] =
    sym (tables_written end tt t []) ∙ ap (λ text. text ++ []) e ∙ tables_written end tt u [] in
    (tables_back end t u tt tt ht hu (told_same (table_form end) refl (table_value end t tt) (table_value end u tt) (tables_told t ht end tt tt) (tables_told u hu end tt tt) written_same)).0
