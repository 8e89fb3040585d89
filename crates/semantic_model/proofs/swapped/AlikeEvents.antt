-- The events of alike steps: the same, with changed names.
use Rattle.std.proofs.Common.{◌≡◌, List, [], ◌∷◌, ◌++◌, cond, Bool, true, false, ◌&&◌, ◌||◌, refl, sym, ap, ◌∙◌, map, flat_map, if◌then◌else◌}
use Rattle.semantic_syntax.specs.Tables.{Name}
use Rattle.semantic_tree.specs.Tree.{Tree}
use Rattle.semantic_kinds.specs.Kinds.{same_kind}
use Rattle.semantic_kinds.specs.Roles.{same_role}
use Rattle.semantic_kinds.specs.declared.kind.AstType.TheVariants as kind
use Rattle.semantic_kinds.specs.declared.role.Role.TheVariants as role
use Rattle.semantic_tree.specs.Views.{is}
use Rattle.semantic_model.specs.Namespace.{instance_state, nodes_around}
use Rattle.semantic_model.specs.Place.{Place, OpenScope, innermost, outside}
use Rattle.semantic_model.specs.Step.{Step, entering, opening, header_ending, closing, leaving, steps}
use Rattle.semantic_model.specs.Declaration.{How, plain, hoisted, moved, caught, Declaration}
use Rattle.semantic_model.specs.Binder.{namespace_row, declared_by, declared_on_entering, declared_on_opening}
use Rattle.semantic_model.specs.Event.{Event, ends_header, takes_over, declares, written_declarations, any_bars, is_barred, staying_declaration, placed_by, is_catch_body, taken_over, declares_all, events_of, events}
use Rattle.semantic_tree.specs.Renamed.{renamed_tree}
use Rattle.semantic_model.proofs.form.Clauses.{kind_is}
use Rattle.semantic_model.proofs.swapped.Alike.{map_append}
use Rattle.semantic_model.proofs.swapped.AlikeScopes.{re}
use Rattle.semantic_model.proofs.swapped.AlikeSteps.{SamePlace, AlikeStep, AlikeSteps}
use Rattle.semantic_model.proofs.swapped.AlikeProgram.{Keeps, program_steps}
use Rattle.semantic_model.proofs.swapped.AlikeNamespace.{state_same}
use Rattle.semantic_model.proofs.swapped.AlikeBinder.{renamed_declaration, ren, append_changed, parent_kind}
use Rattle.semantic_model.proofs.swapped.AlikeDeclares.{namespace_same, facts, entering_same, opening_same}

-- an event with a changed name
abbrev pub renamed_event : (Name → Name) → Event → Event
renamed_event f (declares d) = declares (renamed_declaration f d)
renamed_event f (takes_over c b) = takes_over c b
renamed_event f (ends_header c) = ends_header c

module _ (f : Name → Name) (keeps : Keeps f) where
  -- what a node declares, a namespace too
  declared_renamed : (p q : Place) → SamePlace f p q → declared_on_entering q ≡ ren f (declared_on_entering p)
  declared_renamed p q s = go (same_kind p.node.kind kind.TSNamespaceDeclaration) refl
    where
      go : (b : Bool) → same_kind p.node.kind kind.TSNamespaceDeclaration ≡ b → declared_on_entering q ≡ ren f (declared_on_entering p)
      go false o = entering_same f p q s o
      go true o =
          let k : p.node.kind ≡ kind.TSNamespaceDeclaration = kind_is p.node.kind kind.TSNamespaceDeclaration o in
          ap declared_on_entering s.is
          ∙ ap (λ i. declared_by i (re p s.u s.g s.path)) k
          ∙ ap (λ i. namespace_row i (re p s.u s.g s.path)) (state_same f keeps p.node s.u s.g p.path s.path s.node s.above)
          ∙ namespace_same f (instance_state p.node p.path (nodes_around p.node p.path)) p s.u s.g s.path (facts f p q s)
          ∙ ap (λ i. ren f (declared_by i p)) (sym k)

  pub written_same : (xs ys : List Step) → AlikeSteps f xs ys → written_declarations ys ≡ ren f (written_declarations xs)
  written_same [] [] h = refl
  written_same [] (y ∷ ys) h = absurd h
  written_same (x ∷ xs) [] h = absurd h
  written_same (entering p ∷ xs) (entering q ∷ ys) h =
      (λ i. declared_renamed p q h.0 i ++ written_same xs ys h.1 i) ∙ sym (append_changed f (declared_on_entering p) (written_declarations xs))
  written_same (opening p s ∷ xs) (opening q t ∷ ys) h =
      (λ i. (ap (declared_on_opening q) h.0.1 ∙ opening_same f p q s h.0.0) i ++ written_same xs ys h.1 i) ∙ sym (append_changed f (declared_on_opening p s) (written_declarations xs))
  written_same (header_ending p s ∷ xs) (header_ending q t ∷ ys) h = written_same xs ys h.1
  written_same (closing p s ∷ xs) (closing q t ∷ ys) h = written_same xs ys h.1
  written_same (leaving p ∷ xs) (leaving q ∷ ys) h = written_same xs ys h.1
  written_same _ _ h = absurd h.0

  -- a namesake stays one
  any_bars_same : (d : Declaration) (c : OpenScope) (es : List Declaration) → any_bars (renamed_declaration f d) c (ren f es) ≡ any_bars d c es
  any_bars_same d c [] = refl
  any_bars_same d c (e ∷ es) = rw (keeps.equal e.naming.name d.naming.name, any_bars_same d c es) refl

  barred_same : (ds : List Declaration) (d : Declaration) (cs : List OpenScope) → is_barred (ren f ds) (renamed_declaration f d) cs ≡ is_barred ds d cs
  barred_same ds d [] = refl
  barred_same ds d (c ∷ cs) = λ i. any_bars_same d c ds i || barred_same ds d cs i

  placed_same : (how : How) (ds : List Declaration) (d : Declaration) → placed_by how (ren f ds) (renamed_declaration f d) ≡ renamed_declaration f (placed_by how ds d)
  placed_same moved ds d = ap (λ b. if b then staying_declaration (renamed_declaration f d) else renamed_declaration f d) (barred_same ds d (outside d.route.passed)) ∙ go (is_barred ds d (outside d.route.passed))
    where
      go : (b : Bool) → (if b then staying_declaration (renamed_declaration f d) else renamed_declaration f d) ≡ renamed_declaration f (if b then staying_declaration d else d)
      go true = refl
      go false = refl
  placed_same plain ds d = refl
  placed_same hoisted ds d = refl
  placed_same caught ds d = refl

  all_same : (ds new : List Declaration) → declares_all (ren f ds) (ren f new) ≡ map (renamed_event f) (declares_all ds new)
  all_same ds [] = refl
  all_same ds (d ∷ new) = λ i. declares (placed_same d.how ds d i) ∷ all_same ds new i

  taken_same : (p q : Place) (s : OpenScope) → SamePlace f p q → taken_over q s ≡ map (renamed_event f) (taken_over p s)
  taken_same p q s w =
      ap (λ x. taken_over x s) w.is
      ∙ ap (λ b. cond (is kind.BlockStatement p.node && same_role p.role role.Body && b) (takes_over (innermost p.chain).number s.number ∷ []) []) (parent_kind f kind.CatchClause p.path w.path w.above)
      ∙ go (is_catch_body p)
    where
      go : (b : Bool) → cond b (takes_over (innermost p.chain).number s.number ∷ []) [] ≡ map (renamed_event f) (cond b (takes_over (innermost p.chain).number s.number ∷ []) [])
      go true = refl
      go false = refl

  -- alike steps have the same events, with changed names
  pub of_step : (ds : List Declaration) (x y : Step) → AlikeStep f x y → events_of (ren f ds) y ≡ map (renamed_event f) (events_of ds x)
  of_step ds (entering p) (entering q) h = ap (declares_all (ren f ds)) (declared_renamed p q h) ∙ all_same ds (declared_on_entering p)
  of_step ds (opening p s) (opening q t) h =
      ap (λ x. events_of (ren f ds) (opening q x)) h.1
      ∙ (λ i. taken_same p q s h.0 i ++ (ap (declares_all (ren f ds)) (opening_same f p q s h.0) ∙ all_same ds (declared_on_opening p s)) i)
      ∙ sym (map_append (renamed_event f) (taken_over p s) (declares_all ds (declared_on_opening p s)))
  of_step ds (header_ending p s) (header_ending q t) h = ap (λ x. events_of (ren f ds) (header_ending q x)) h.1
  of_step ds (closing p s) (closing q t) h = refl
  of_step ds (leaving p) (leaving q) h = refl
  of_step ds _ _ h = absurd h

  of_steps : (ds : List Declaration) (xs ys : List Step) → AlikeSteps f xs ys → flat_map (events_of (ren f ds)) ys ≡ map (renamed_event f) (flat_map (events_of ds) xs)
  of_steps ds [] [] h = refl
  of_steps ds [] (y ∷ ys) h = absurd h
  of_steps ds (x ∷ xs) [] h = absurd h
  of_steps ds (x ∷ xs) (y ∷ ys) h = (λ i. of_step ds x y h.0 i ++ of_steps ds xs ys h.1 i) ∙ sym (map_append (renamed_event f) (events_of ds x) (flat_map (events_of ds) xs))

  -- a program with changed names has the same events, with changed names
  pub events_renamed : (p : Tree) → events (steps (renamed_tree f p)) ≡ map (renamed_event f) (events (steps p))
  events_renamed p =
      let alike : AlikeSteps f (steps p) (steps (renamed_tree f p)) = program_steps f p in
      ap (λ ds. flat_map (events_of ds) (steps (renamed_tree f p))) (written_same (steps p) (steps (renamed_tree f p)) alike)
      ∙ of_steps (written_declarations (steps p)) (steps p) (steps (renamed_tree f p)) alike
