-- The walk enters a node.
use Rattle.std.proofs.Common.{◌≡◌, List, [], ◌∷◌, ◌++◌, Bool, true, false, ◌&&◌, not, cond, option_map, refl, sym, ap, subst, ◌∙◌}
use Rattle.std.proofs.lemmas.List.{reverse-append}
use Rattle.std.specs.Prelude.{codes}
use Rattle.semantic_kinds.specs.Kinds.{same_kind}
use Rattle.semantic_kinds.specs.declared.kind.AstType.TheVariants as kind
use Rattle.semantic_tree.specs.declared.node.Node.{Node}
use Rattle.semantic_kinds.specs.declared.mark.Mark.TheVariants as mark
use Rattle.semantic_kinds.specs.declared.role.Role.TheVariants as role
use Rattle.semantic_tree.specs.Unwrapped.{inner_expression}
use Rattle.semantic_tree.specs.Views.{is, has, holds, child_of, has_text}
use Rattle.semantic_model.specs.Place.{Place, scope_of_place}
use Rattle.semantic_model.specs.Cursor.{on_entering, way_or_read}
use Rattle.semantic_model.specs.Declaration.{Declaration}
use Rattle.semantic_model.specs.Step.{entering}
use Rattle.semantic_model.specs.TablesOf.{is_direct_eval}
use Rattle.semantic_model.specs.Binder.{declared_on_entering}
use Rattle.semantic_model.proofs.form.Clauses.{kind_is}
use Rattle.walk_model.specs.WalkState.{WalkState}
use Rattle.walk_model.specs.Opens.{add_eval, note_eval, refer_to, refer, note_reference}
use Rattle.walk_model.proofs.turns.ChainsShown.{chain_kept, prepare_rows}
use Rattle.semantic_walk.specs.Walker.{Walker, noting_node, referring}
use Rattle.node_store.specs.Entered.{Entered}
use Rattle.node_store.specs.Entered as store
use Rattle.semantic_walk.specs.AtPlace.{ComesTo, IsWithin, IsShown, entered, kept_at}
use Rattle.semantic_walk.specs.Doings.{acts_on_entering}
use Rattle.semantic_walk.specs.Binds.{acting}
use Rattle.semantic_walk.specs.Paths.{parent_in}
use Rattle.semantic_walk.proofs.Opening.{alone, parent_above}
use Rattle.walk_notes.specs.NoteLists.{NoteLists, noting}
use Rattle.walk_notes.proofs.Unnoted.{enters_nothing}
use Rattle.semantic_walk.proofs.EvenNodes.{no_reference, no_call, no_names, no_note}

-- no more than the parent is asked for
noting_alone : (path : List Node) (here : Node) (x : NoteLists) → noting (alone path) here x ≡ noting path here x
noting_alone [] here x = refl
noting_alone (parent ∷ path) here x = refl

-- what is no call calls nothing by its name
pub no_eval : (node : Node) → same_kind node.kind kind.CallExpression ≡ false → is_direct_eval node ≡ false
no_eval node h =
    ap (λ b. b && not (has mark.Optional node) && holds (λ callee. is kind.IdentifierReference (inner_expression callee) && has_text (codes "eval") (inner_expression callee)) (child_of role.Callee node)) h

module _ (ds : List Declaration) (w : Walker) (p : Place) (comes : ComesTo w p) (shown : IsShown ds w p) where
  -- the walk has stepped to the node
  abbrev stepped : Node → Walker
  stepped n = record (noting_node w n) { path = w.path ++ n ∷ []; cursor = on_entering n.kind w.cursor }

  -- and has noted what it refers to
  abbrev noted : Walker
  noted = record w { made = note_eval (note_reference w.made p) p; path = w.path ++ p.node ∷ []; cursor = on_entering p.node.kind p.cursor; nodes = kept_at w p }

  -- on entering a reference the cursor stays
  referred : (b : Bool) → is kind.IdentifierReference p.node ≡ b → cond b (referring (stepped p.node) p.node) (stepped p.node) ≡ record (stepped p.node) { made = cond b (refer w.made p) w.made }
  referred true h =
      ap (λ n. record (stepped p.node) { made = refer_to w.made p.node.node_id p.node.text n (way_or_read (on_entering p.node.kind w.cursor)) }) comes.current
      ∙ ap (λ n. record (stepped p.node) { made = refer_to w.made p.node.node_id p.node.text (scope_of_place p) (way_or_read n) })
      (ap (λ k. on_entering k w.cursor) (kind_is p.node.kind kind.IdentifierReference h) ∙ comes.cursor)
  referred false h = refl

  called : (b : Bool) (m : WalkState) → ◌≡◌ {A = Walker} (cond b (record (stepped p.node) { made = add_eval m w.current }) (record (stepped p.node) { made = m })) (record (stepped p.node) { made = cond b (add_eval m (scope_of_place p)) m })
  called true m = ap (λ n. record (stepped p.node) { made = add_eval m n }) comes.current
  called false m = refl

  abbrev refers : Node → Walker
  refers n = cond (is kind.IdentifierReference n) (referring (stepped n) n) (stepped n)

  noted_is : (node : Node) (now then_ : Walker) → p.node ≡ node → now ≡ cond (is kind.IdentifierReference node) (referring (stepped node) node) (stepped node)
      → then_ ≡ cond (is_direct_eval node) (record now { made = add_eval now.made now.current }) now → then_ ≡ noted
  noted_is node now then_ e h k =
      k
      ∙ ap (λ (v : Walker). cond (is_direct_eval node) (record v { made = add_eval v.made v.current }) v) h
      ∙ ap (λ (n : Node). cond (is_direct_eval n) (record (refers n) { made = add_eval (refers n).made (refers n).current }) (refers n)) (sym e)
      ∙ ap (λ (v : Walker). cond (is_direct_eval p.node) (record v { made = add_eval v.made v.current }) v) (referred (is kind.IdentifierReference p.node) refl)
      ∙ called (is_direct_eval p.node) (note_reference w.made p)
      ∙ ap (λ n. record (noting_node w p.node) { made = note_eval (note_reference w.made p) p; path = w.path ++ p.node ∷ []; cursor = on_entering p.node.kind n }) comes.cursor
      ∙ ap (λ n. record noted { nodes = option_map (λ (e : Entered). store.entering e p.node n) w.nodes }) comes.current

  -- and has declared what the node declares outside
  abbrev pub stands_in : Walker
  stands_in = record w { made = entered ds w p; path = w.path ++ p.node ∷ []; cursor = on_entering p.node.kind p.cursor; nodes = kept_at w p }

  within_noted : IsWithin noted p p.chain
  within_noted = record {
    source_type = comes.source_type;
    path = ap (λ (xs : List Node). xs ++ p.node ∷ []) comes.path ∙ sym (reverse-append (p.node ∷ []) p.path);
    current = comes.current;
  }

  shown_noted : IsShown ds noted p
  shown_noted = record { chain = chain_kept w.made.tables noted.made.tables p.chain (prepare_rows w.made (entering p)) shown.chain; grounded = shown.grounded; named = shown.named; stated = shown.stated }

  -- what the node declares outside comes next
  pub enters : (node : Node) (now then_ last : Walker) → p.node ≡ node → now ≡ cond (is kind.IdentifierReference node) (referring (stepped node) node) (stepped node)
      → then_ ≡ cond (is_direct_eval node) (record now { made = add_eval now.made now.current }) now
      → (IsWithin then_ p p.chain → IsShown ds then_ p → last ≡ acting ds then_ (declared_on_entering p))
      → last ≡ stands_in
  enters node now then_ last e h k declares =
      let same : then_ ≡ noted = noted_is node now then_ e h k in
      subst (λ (v : Walker). last ≡ acting ds v (declared_on_entering p)) same
      (declares (subst (λ (v : Walker). IsWithin v p p.chain) (sym same) within_noted) (subst (λ (v : Walker). IsShown ds v p) (sym same) shown_noted))

  parent_is : (x : NoteLists) → noting (parent_in (w.path ++ p.node ∷ [])) p.node x ≡ noting p.path p.node x
  parent_is x =
      ap (λ (xs : List Node). noting (parent_in xs) p.node x) (ap (λ (xs : List Node). xs ++ p.node ∷ []) comes.path ∙ sym (reverse-append (p.node ∷ []) p.path))
      ∙ ap (λ (xs : List Node). noting xs p.node x) (parent_above p.node p.path)
      ∙ noting_alone p.path p.node x

  -- what is noted of classes and labels comes last
  pub notes_last : (node : Node) (last ended : Walker) → p.node ≡ node → last ≡ stands_in
      → ended ≡ record last { notes = noting (parent_in last.path) node last.notes }
      → ended ≡ record stands_in { notes = noting p.path p.node w.notes }
  notes_last node last ended e h n =
      n
      ∙ ap (λ (v : Walker). record v { notes = noting (parent_in v.path) node v.notes }) h
      ∙ ap (λ (m : Node). record stands_in { notes = noting (parent_in (w.path ++ p.node ∷ [])) m w.notes }) (sym e)
      ∙ ap (λ (x : NoteLists). record stands_in { notes = x }) (parent_is w.notes)

  -- where nothing acts on entering, nothing comes after the step to the node
  pub enters_quietly : (node : Node) (last : Walker) → p.node ≡ node → acts_on_entering node.kind ≡ false → last ≡ stepped node → last ≡ record stands_in { notes = noting p.path p.node w.notes }
  enters_quietly node last e quiet h =
      let here : acts_on_entering p.node.kind ≡ false = ap (λ (x : Node). acts_on_entering x.kind) e ∙ quiet in
      let stands : last ≡ stands_in =
      enters node last last last e
      (h ∙ sym (ap (λ b. cond b (referring (stepped node) node) (stepped node)) (no_reference node.kind quiet)))
      (sym (ap (λ b. cond b (record last { made = add_eval last.made last.current }) last) (no_eval node (no_call node.kind quiet))))
      (λ within there. sym (ap (λ (new : List Declaration). acting ds last new) (no_names p.node.kind here p))) in
      notes_last node last last e stands (λ i. record last { notes = sym (enters_nothing (parent_in last.path) node last.notes (no_note node.kind quiet)) i })
