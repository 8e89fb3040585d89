-- No binding and no symbol of a program's tables is invented.
use Rattle.std.proofs.Common.{◌≡◌, ℕ, zero, suc, ◌+◌, ◌≤◌, List, [], ◌∷◌, length, map, Some, None, inl, inr, ◌⊎◌, refl, sym, ap, subst, ◌∙◌, arith}
use Rattle.std.specs.Prelude.{slice_get, slice_index_or}
use Rattle.std.specs.List.{range_with_len}
use Rattle.std.specs.Map.{lookup}
use Rattle.std.specs.Str.{bytes_eq}
use Rattle.std.proofs.lemmas.Option.{slice_get_within}
use Rattle.semantic_syntax.specs.Tables.{Name, Symbol}
use Rattle.semantic_syntax.specs.Reading.{bound_in}
use Rattle.semantic_tree.specs.Tree.{Tree}
use Rattle.semantic_model.specs.Entries.{Among}
use Rattle.semantic_model.specs.Step.{steps}
use Rattle.semantic_model.specs.Binding.{Binding, bound_by}
use Rattle.semantic_model.specs.Declaration.{Declaration}
use Rattle.semantic_model.specs.Event.{Event, declares, takes_over, ends_header, events, declarations}
use Rattle.semantic_model.specs.Fold.{State, Made, start}
use Rattle.semantic_model.specs.Hoist.{act, run}
use Rattle.semantic_model.specs.NodeTable.{Belongs, belonging, node_tables}
use Rattle.semantic_model.specs.TablesOf.{tables_of, scopes}
use Rattle.semantic_model.specs.Fits.{DeclaredOn, DeclaredAs, AreDeclared}
use Rattle.semantic_model.proofs.lists.Members.{among_more}
use Rattle.semantic_model.proofs.once.HeadersEndOnce.{less_or}
use Rattle.semantic_model.proofs.lists.BindingLaws.{get_among}
use Rattle.semantic_model.proofs.fold.Changes.{on_path, Holds, HasName}
use Rattle.semantic_model.proofs.fold.Orders.{Adds, adds, HasForm, table_of, sound_program}
use Rattle.semantic_model.proofs.fits.Outwards.{bound_as}

declared_more : (e : Event) (es : List Event) (d : Declaration) → Among d (declarations es) → Among d (declarations (e ∷ es))
declared_more (declares x) es d a = inr a
declared_more (takes_over c b) es d a = a
declared_more (ends_header c) es d a = a

-- what the fold has made was among the state's or was declared
pub made_declared : (m : Made) (st : State) (es : List Event) → Among m (run st es).made → Among m st.made ⊎ Among m.declaration (declarations es)
made_declared m st [] a = inl a
made_declared m st (declares d ∷ es) a = elim (made_declared m (act st (declares d)) es a) [
  | inr k ↦ inr (inr k)
  | inl k ↦ (let w : Adds st.made d (act st (declares d)).made = adds st d in
      elim (among_more m (record { declaration = d; symbol = w.symbol }) st.made (subst (Among m) w.adds k)) [
        | inl q ↦ inl q
        | inr q ↦ inr (inl (ap (λ x. x.declaration) q))
      ])
]
made_declared m st (takes_over c b ∷ es) a = made_declared m (act st (takes_over c b)) es a
made_declared m st (ends_header c ∷ es) a = made_declared m st es a

made_in : (p : Tree) (m : Made) → Among m (run start (events (steps p))).made → Among m.declaration (declarations (events (steps p)))
made_in p m a = elim (made_declared m start (events (steps p)) a) [ inl k ↦ absurd k | inr k ↦ k ]

-- beyond the scopes nothing is bound
beyond : (bs : List Binding) (i k c : ℕ) → k ≤ c → slice_index_or (map (bound_by bs) (range_with_len i k)) c [] ≡ []
beyond bs i zero c h = refl
beyond bs i (suc k) zero h = absurd (omega arith)
beyond bs i (suc k) (suc c) h = beyond bs (i + 1) k c (omega arith)

-- a binding of the tables is one of the fold
pub bound_stands : (p : Tree) (c : ℕ) (x : Name) (s : ℕ) → bound_in (tables_of p) c x ≡ Some s → Among (record { scope = c; name = x; symbol = s }) (run start (events (steps p))).bindings
bound_stands p c x s h = elim (less_or c (length (scopes (steps p)))) [
  | inl l ↦ get_among (run start (events (steps p))).bindings c x s (sym (bound_as p c x l) ∙ h)
  | inr l ↦ (let q : None ≡ Some s = sym (ap (lookup (bytes_eq x)) (beyond (run start (events (steps p))).bindings 0 (length (scopes (steps p))) c l)) ∙ h in absurd cc)
]

pub belongs_made : (m : Made) (ms : List Made) → Among m ms → Among (belonging m) (map belonging ms)
belongs_made m [] a = absurd a
belongs_made m (x ∷ xs) (inl e) = inl (ap belonging e)
belongs_made m (x ∷ xs) (inr a) = inr (belongs_made m xs a)

pub nothing_invented : (p : Tree) → HasForm p → AreDeclared (tables_of p) (node_tables (steps p)).symbols (declarations (events (steps p)))
nothing_invented p f = record { bindings = bound; symbols = symbol }
  where
    bound : (c : ℕ) (x : Name) (s : ℕ) → bound_in (tables_of p) c x ≡ Some s → DeclaredOn (declarations (events (steps p))) c x
    bound c x s h =
        let k : Holds (table_of p) (run start (events (steps p))).made c x s = (sound_program p f).bound (record { scope = c; name = x; symbol = s }) (bound_stands p c x s h) in
        record { declaration = k.made.declaration; among = made_in p k.made k.among; named = k.named; on_path = on_path (table_of p) k.made.declaration c k.sits }

    symbol : (s : ℕ) (y : Symbol) → slice_get (tables_of p).symbols s ≡ Some y → DeclaredAs (node_tables (steps p)).symbols (declarations (events (steps p))) s y.name
    symbol s y h =
        let final : State = run start (events (steps p)) in
        let (m, a, e) = (sound_program p f).has_declaration s (slice_get_within final.symbols s y h) in
        let n : HasName final.symbols m.symbol m.declaration.naming.name = (sound_program p f).has_name m a in
        let q : Some n.symbol ≡ Some y = sym n.is_there ∙ subst (λ r. slice_get final.symbols r ≡ Some y) (sym e) h in
        let w : n.symbol ≡ y = cc in
        record {
          declaration = m.declaration;
          among = made_in p m a;
          named = sym n.named ∙ ap (λ z. z.name) w;
          is = subst (λ r. Among {A = Belongs} (record { node = m.declaration.naming.identifier; number = r }) (node_tables (steps p)).symbols) e (belongs_made m final.made a);
        }
