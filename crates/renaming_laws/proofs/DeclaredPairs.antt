-- The nodes and names of the declarations of programs that differ in names alone.
use Rattle.std.proofs.Common.{◌≡◌, ℕ, List, [], ◌∷◌, ◌++◌, Bool, true, false, cond, if◌then◌else◌, refl, sym, ap, ◌∙◌, map, flat_map}
use Rattle.std.proofs.lemmas.List.{append_assoc, append-nil}
use Rattle.semantic_kinds.specs.Kinds.{same_kind}
use Rattle.semantic_kinds.specs.declared.kind.AstType.TheVariants as kind
use Rattle.semantic_syntax.specs.Sets.{union}
use Rattle.semantic_syntax.specs.Tables.{Name}
use Rattle.semantic_syntax.specs.declared.symbol_flags.TheConstants.SymbolFlags as symbol
use Rattle.semantic_tree.specs.Tree.{Tree}
use Rattle.semantic_tree.specs.declared.node.Node.{Node}
use Rattle.semantic_model.specs.Binder.{declare_here, declared_by, declared_on_entering, declared_on_opening, ids, marked_ambient, namespace_row}
use Rattle.semantic_model.specs.Declaration.{How, plain, hoisted, moved, caught, Declaration}
use Rattle.semantic_model.specs.Event.{Event, declares, takes_over, ends_header, declared, declared_at, declarations, written_declarations, is_barred, staying_declaration, placed_by, is_catch_body, taken_over, declares_all, events_of, events}
use Rattle.semantic_model.specs.Fold.{Made, State, start}
use Rattle.semantic_model.specs.Hoist.{act, run}
use Rattle.semantic_model.specs.Namespace.{InstanceState, non_instantiated, const_enum_only, instantiated, instance_state, nodes_around}
use Rattle.semantic_model.specs.Place.{Place, OpenScope, innermost, outside}
use Rattle.semantic_model.specs.Step.{Step, entering, opening, header_ending, closing, leaving, steps}
use Rattle.semantic_model.specs.TablesOf.{made_of}
use Rattle.semantic_model.proofs.form.Clauses.{kind_is}
use Rattle.semantic_model.proofs.steps.Compose.{flat-append}
use Rattle.semantic_model.proofs.swapped.Alike.{map_append}
use Rattle.semantic_model.proofs.swapped.AlikeBinder.{renamed_declaration, ren}
use Rattle.semantic_model.proofs.swapped.AlikeSteps.{SamePlace, AlikeSteps}
use Rattle.semantic_model.proofs.swapped.AlikeDeclares.{namespace_same, facts, entering_same, opening_same}
use Rattle.renaming_laws.proofs.Looks.{gets, made_by}

-- the node of a name, and the name
abbrev pub pair : Declaration → ℕ × Name
pair d = (d.naming.identifier, d.naming.name)

abbrev pub pairs : List Declaration → List (ℕ × Name)
pairs ds = map pair ds

-- ---- places that differ in names alone

module _ (f : Name → Name) where
  here_pairs : (p : Place) (a b c d : ℕ) (xs : List Node) → pairs (ren f (declare_here p a b xs)) ≡ pairs (ren f (declare_here p c d xs))
  here_pairs p a b c d [] = refl
  here_pairs p a b c d (x ∷ xs) = ap (λ ps. (x.node_id, f x.text) ∷ ps) (here_pairs p a b c d xs)

  -- the state of a namespace changes flags alone
  state_pairs : (s : InstanceState) (p : Place) → pairs (ren f (namespace_row s p)) ≡ pairs (ren f (declare_here p 0 0 (ids p.node)))
  state_pairs non_instantiated p = here_pairs p (union symbol.NamespaceModule.bits (marked_ambient p.node)) symbol.NamespaceModuleExcludes.bits 0 0 (ids p.node)
  state_pairs const_enum_only p = here_pairs p (union symbol.ValueModule.bits (marked_ambient p.node)) symbol.ValueModuleExcludes.bits 0 0 (ids p.node)
  state_pairs instantiated p = here_pairs p (union symbol.ValueModule.bits (marked_ambient p.node)) symbol.ValueModuleExcludes.bits 0 0 (ids p.node)

  entering_pairs : (z x : Place) → SamePlace f z x → pairs (declared_on_entering x) ≡ pairs (ren f (declared_on_entering z))
  entering_pairs z x w = go (same_kind z.node.kind kind.TSNamespaceDeclaration) refl
    where
      own : InstanceState
      own = instance_state x.node x.path (nodes_around x.node x.path)

      other : InstanceState
      other = instance_state z.node z.path (nodes_around z.node z.path)

      go : (b : Bool) → same_kind z.node.kind kind.TSNamespaceDeclaration ≡ b → pairs (declared_on_entering x) ≡ pairs (ren f (declared_on_entering z))
      go false e = ap pairs (entering_same f z x w e)
      go true e =
          let k : z.node.kind ≡ kind.TSNamespaceDeclaration = kind_is z.node.kind kind.TSNamespaceDeclaration e in
          let j : x.node.kind ≡ kind.TSNamespaceDeclaration = ap (λ (q : Place). q.node.kind) w.is ∙ k in
          ap (λ i. pairs (declared_by i x)) j
          ∙ ap pairs (ap (namespace_row own) w.is ∙ namespace_same f own z w.u w.g w.path (facts f z x w))
          ∙ state_pairs own z ∙ sym (state_pairs other z)
          ∙ ap (λ i. pairs (ren f (declared_by i z))) (sym k)

  join_pairs : (ds es cs bs : List Declaration) → pairs ds ≡ pairs (ren f cs) → pairs es ≡ pairs (ren f bs) → pairs (ds ++ es) ≡ pairs (ren f (cs ++ bs))
  join_pairs ds es cs bs h k =
      map_append pair ds es ∙ (λ i. h i ++ k i) ∙ sym (map_append pair (ren f cs) (ren f bs)) ∙ ap pairs (sym (map_append (renamed_declaration f) cs bs))

  pub written_pairs : (zs xs : List Step) → AlikeSteps f zs xs → pairs (written_declarations xs) ≡ pairs (ren f (written_declarations zs))
  written_pairs [] [] h = refl
  written_pairs [] (x ∷ xs) h = absurd h
  written_pairs (z ∷ zs) [] h = absurd h
  written_pairs (entering z ∷ zs) (entering x ∷ xs) h =
      join_pairs (declared_on_entering x) (written_declarations xs) (declared_on_entering z) (written_declarations zs) (entering_pairs z x h.0) (written_pairs zs xs h.1)
  written_pairs (opening z s ∷ zs) (opening x t ∷ xs) h =
      join_pairs (declared_on_opening x t) (written_declarations xs) (declared_on_opening z s) (written_declarations zs) (ap (λ o. pairs (declared_on_opening x o)) h.0.1 ∙ ap pairs (opening_same f z x s h.0.0)) (written_pairs zs xs h.1)
  written_pairs (header_ending z s ∷ zs) (header_ending x t ∷ xs) h = written_pairs zs xs h.1
  written_pairs (closing z s ∷ zs) (closing x t ∷ xs) h = written_pairs zs xs h.1
  written_pairs (leaving z ∷ zs) (leaving x ∷ xs) h = written_pairs zs xs h.1
  written_pairs _ _ h = absurd h.0

-- ---- what is made is what is written

abbrev pub made_pair : Made → ℕ × Name
made_pair m = pair m.declaration

made_pairs : (es : List Event) (st : State) → map made_pair (run st es).made ≡ map made_pair st.made ++ pairs (declarations es)
made_pairs [] st = sym (append-nil (map made_pair st.made))
made_pairs (declares d ∷ es) st =
    let m : Made = record { declaration = d; symbol = gets d.how st d } in
    made_pairs es (act st (declares d))
    ∙ ap (λ ps. ps ++ pairs (declarations es)) (ap (map made_pair) (made_by d.how st d) ∙ map_append made_pair st.made (m ∷ []))
    ∙ append_assoc (map made_pair st.made) (pair d ∷ []) (pairs (declarations es))
made_pairs (takes_over c b ∷ es) st = made_pairs es (act st (takes_over c b))
made_pairs (ends_header c ∷ es) st = made_pairs es st

placed_pair : (how : How) (ds : List Declaration) (d : Declaration) → pair (placed_by how ds d) ≡ pair d
placed_pair plain ds d = refl
placed_pair hoisted ds d = refl
placed_pair caught ds d = refl
placed_pair moved ds d = go (is_barred ds d (outside d.route.passed))
  where
    go : (b : Bool) → pair (if b then staying_declaration d else d) ≡ pair d
    go true = refl
    go false = refl

all_pairs : (ds new : List Declaration) → pairs (declarations (declares_all ds new)) ≡ pairs new
all_pairs ds [] = refl
all_pairs ds (d ∷ new) = λ i. placed_pair d.how ds d i ∷ all_pairs ds new i

pub taken_none : (p : Place) (s : OpenScope) → declarations (taken_over p s) ≡ []
taken_none p s = go (is_catch_body p)
  where
    go : (b : Bool) → declarations (cond b (takes_over (innermost p.chain).number s.number ∷ []) []) ≡ []
    go true = refl
    go false = refl

step_pairs : (ds : List Declaration) (s : Step) → pairs (declarations (events_of ds s)) ≡ pairs (declared_at s)
step_pairs ds (entering p) = all_pairs ds (declared_on_entering p)
step_pairs ds (opening p s) =
    ap pairs (flat-append declared (taken_over p s) (declares_all ds (declared_on_opening p s)) ∙ ap (λ cs. cs ++ declarations (declares_all ds (declared_on_opening p s))) (taken_none p s))
    ∙ all_pairs ds (declared_on_opening p s)
step_pairs ds (header_ending p s) = refl
step_pairs ds (closing p s) = refl
step_pairs ds (leaving p) = refl

event_pairs : (ds : List Declaration) (ss : List Step) → pairs (declarations (flat_map (events_of ds) ss)) ≡ pairs (written_declarations ss)
event_pairs ds [] = refl
event_pairs ds (s ∷ ss) =
    ap pairs (flat-append declared (events_of ds s) (flat_map (events_of ds) ss))
    ∙ map_append pair (declarations (events_of ds s)) (declarations (flat_map (events_of ds) ss))
    ∙ (λ i. step_pairs ds s i ++ event_pairs ds ss i)
    ∙ sym (map_append pair (declared_at s) (written_declarations ss))

pub program_pairs : (p : Tree) → map made_pair (made_of p) ≡ pairs (written_declarations (steps p))
program_pairs p = made_pairs (events (steps p)) start ∙ event_pairs (written_declarations (steps p)) (steps p)
