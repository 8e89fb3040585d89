-- What is known where a walk is about to leave a node.
use Rattle.std.proofs.Common.{◌≡◌, ℕ, ◌-◌, ◌<◌, List, [], ◌∷◌, inl, inr, Option, option_map, true, false, length, drop, take, reverse, refl, sym, ap, subst, ◌∙◌, length-append, arith}
use Rattle.std.proofs.lemmas.List.{reverse-append, reverse-reverse}
use Rattle.semantic_kinds.specs.declared.kind.AstType.TheVariants as kind
use Rattle.semantic_tree.specs.Forest.{nothing}
use Rattle.semantic_tree.specs.declared.node.Node.{Node}
use Rattle.semantic_model.specs.Ambient.{ambient_inside}
use Rattle.semantic_model.specs.Cursor.{on_leaving}
use Rattle.semantic_model.specs.Declaration.{Declaration}
use Rattle.semantic_model.specs.Place.{Place, OpenScope}
use Rattle.semantic_model.specs.Step.{opening_last}
use Rattle.node_store.specs.Entered.{leaving}
use Rattle.walk_notes.specs.NoteLists.{leaving as leaving_notes}
use Rattle.walk_model.specs.Shown.{HasVar, IsGrounded}
use Rattle.walk_model.specs.WalkState.{WalkState}
use Rattle.walk_model.specs.Walks.{after_all}
use Rattle.walk_model.proofs.turns.ChainsShown.{chain_after_all}
use Rattle.check_walk.specs.Leaving.{IsHandedAt}
use Rattle.check_walk.specs.Ready.{IsReadyAt}
use Rattle.check_walk.specs.SoFar.{Telling}
use Rattle.check_context.specs.Sound.{IsInSource}
use Rattle.check_walk.specs.TellingAlong.{telling_left}
use Rattle.check_walk.proofs.Handing.{rows_inside}
use Rattle.check_walk.proofs.WalkConditions.{steps_apart}
use Rattle.semantic_walk.specs.AtPlace.{IsWithin, IsComing, left_at}
use Rattle.semantic_walk.specs.Leaving.{IsFit, IsLeaving, ShowsRows, context_of}
use Rattle.semantic_walk.specs.Walker.{Walker, telling_of}
use Rattle.semantic_walk.specs.declared.visit.Turn.{Turn}
use Rattle.semantic_walk.proofs.Visiting.{Rests}

some_turned : (xs : List Node) (x : Node) → 0 < length (reverse (x ∷ xs))
some_turned xs x = omega (arith, ap length (reverse-append (x ∷ []) xs), length-append (reverse xs) (x ∷ []))

-- the nodes above the last of a path
drop_turned : (path xs : List Node) (x : Node) → path ≡ reverse (x ∷ xs) → drop 1 (reverse path) ≡ xs
drop_turned path xs x e = ap (λ ys. drop 1 (reverse ys)) e ∙ ap (drop 1) (reverse-reverse (x ∷ xs))

-- all children are walked, and then a scope may open and close
pub leaves : (ds : List Declaration) (first : Walker) (p : Place) (own : Option OpenScope) (n : ℕ) (w last : Walker) (turn : Turn) (before now : ℕ) → IsComing ds first p own n → (h : Rests ds first p own n before now w turn nothing)
    → last ≡ record w { made = after_all ds w.made (opening_last p h.scope h.next) } → IsLeaving last p
leaves ds first p own n w last turn before now c h e =
    let within : IsWithin w p p.chain = h.between.within in
    let fit : (w.checks ≡ true) → IsFit (record w { made = after_all ds w.made (opening_last p h.scope h.next) }) p.node =
    λ on.
    let ready : IsReadyAt first.source first.made first.notes.classes p = c.ready (sym h.checks ∙ on) in
    record {
      in_source = subst (λ (xs : List ℕ). IsInSource xs p.node) (sym h.source) ready.in_source;
      order = ready.order;
      elements = (h.ready on).elements;
      apart = steps_apart ds w.made (opening_last p h.scope h.next) (h.ready on).apart;
      limit = h.limit;
      stands = subst (λ (xs : List Node). 0 < length xs) (sym within.path) (some_turned p.path p.node);
    } in
    subst (λ (u : Walker). IsLeaving u p) (sym e)
    (record {
      within = record { source_type = within.source_type; path = within.path; current = within.current };
      is_ambient = h.between.is_ambient;
      chain = chain_after_all ds w.made (opening_last p h.scope h.next) p.chain h.between.between.stands.chain;
      grounded = c.shown.grounded;
      classes = λ on. (h.ready on).classes;
      fit = fit;
    })

-- what the walk hands to a check is its own at the place
pub handed_at : (w : Walker) (p : Place) → IsLeaving w p → w.checks ≡ true → (made : WalkState) → w.made ≡ made → (source : List ℕ) → w.source ≡ source → IsHandedAt (context_of w p.node) source made p
handed_at w p h on made is source from = record {
  source_is = from;
  source_type = h.within.source_type;
  tables = ap (λ (v : WalkState). v.tables) is;
  nodes = ap (λ (v : WalkState). v.nodes) is;
  path = drop_turned w.path p.path p.node h.within.path;
  current = h.within.current;
  is_ambient = ap (ambient_inside p.node) h.is_ambient;
  classes = h.classes on;
}

has_var : (p : Place) → IsGrounded p → (p.node.kind ≡ kind.Program → ⊥) → HasVar p.chain
has_var p (inl var) other = var
has_var p (inr root) other = absurd (other root)

-- below the root that shows the rows of the node
pub shows_rows : (w : Walker) (p : Place) → IsLeaving w p → (p.node.kind ≡ kind.Program → ⊥) → ShowsRows w p
shows_rows w p h other on = rows_inside (context_of w p.node) w.source w.made p (handed_at w p h on w.made refl w.source refl) (has_var p h.grounded other) h.chain other

-- the walk has stepped from the node
abbrev pub left_by : Walker → Node → Walker
left_by w x = record w { path = take (length w.path - 1) w.path; cursor = on_leaving x.kind w.cursor; nodes = option_map leaving w.nodes; notes = leaving_notes x w.notes }

-- with checks off, that is all
pub left_untold : (w : Walker) (p : Place) → w.checks ≡ false → left_by w p.node ≡ left_at w p
left_untold w p off = λ i.
    let t : Telling = telling_left (sym off i) w.source (telling_of w) p in
    record (left_by w p.node) { said = t.said; counted = t.counted }
