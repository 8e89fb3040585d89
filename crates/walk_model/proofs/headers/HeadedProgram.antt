-- The steps of a program are headed.
use Rattle.std.proofs.Common.{◌≡◌, ℕ, ◌+◌, ◌≤◌, List, [], ◌∷◌, ◌++◌, Option, Some, None, Bool, true, false, cond, ◌||◌, not, ◌⊎◌, inl, inr, refl, sym, ap, subst, ◌∙◌, length, arith}
use Rattle.semantic_syntax.proofs.Truth.{and_second}
use Rattle.semantic_tree.specs.Forest.{Forest, nothing, tree}
use Rattle.semantic_tree.specs.Tree.{Tree}
use Rattle.semantic_tree.specs.Faults.{first_fault}
use Rattle.semantic_tree.specs.declared.node.Node.{Node}
use Rattle.semantic_kinds.specs.Kinds.{same_kind}
use Rattle.semantic_kinds.specs.declared.kind.AstType.{AstType}
use Rattle.semantic_kinds.specs.declared.kind.AstType.TheVariants as kind
use Rattle.semantic_kinds.specs.declared.role.Role.{Role}
use Rattle.semantic_tree.specs.Views.{has_role}
use Rattle.semantic_model.specs.Place.{Place, OpenScope}
use Rattle.semantic_model.specs.Inside.{opens, header_roles, is_in_header, scopes_in}
use Rattle.semantic_model.specs.ScopeKind.{opened_scope}
use Rattle.semantic_model.specs.Cursor.{on_entering}
use Rattle.semantic_model.specs.Step.{Step, opening, closing, leaving, steps_below, steps, opening_last, root_place}
use Rattle.semantic_model.proofs.steps.Turn.{Turn, turn_at}
use Rattle.semantic_model.proofs.form.Clauses.{kind_is}
use Rattle.semantic_model.proofs.steps.Opened.{opened_by_node, openings, none_after, next_opened}
use Rattle.semantic_model.proofs.form.ParameterChains.{is_open_inside}
use Rattle.walk_model.proofs.places.Shapes.{holds_below}
use Rattle.walk_model.proofs.headers.NoStatements.{table_closes, place_closes}
use Rattle.walk_model.proofs.headers.HeaderParts.{is_name, tree_ordered, names_identifier, tree_names, nothing_below}
use Rattle.walk_model.proofs.headers.Headed.{awaiting_after, flags_after, AreFlagged, AllMatch, IsSheltered, AllLess, IsHeadedPlace, AreHeaded, LeadsOn, leads_on-append, flags-append, flags_length, flagged_later, less_more, ChainLess, chain_less_more, left, awaiting_with, OwnHeadOf, at_opening, own_opened, own_later, at_last, none_with, at_ending, headed-append, awaiting-append}
use Rattle.walk_model.proofs.headers.HeadedBelow.{Shaped, ShapedChild, shaped_child, child_flagged, child_less, child_matches, child_sheltered}

with_less : (awaiting fs : List ℕ) (p : Place) (own : Option OpenScope) (f : Forest) (n : ℕ) → length fs ≤ n → AllLess awaiting n → OwnHeadOf awaiting fs p own f → AllLess (awaiting_with p own f awaiting) n
with_less awaiting fs p None f n l h o = h
with_less awaiting fs p (Some s) f n l h o = by (left p f)
  where
    by : (b : Bool) → AllLess (cond b (s.number ∷ awaiting) awaiting) n
    by true = (omega (arith, o.within, l), h)
    by false = h

-- a name opens no scope and has nothing below
name_leads : (q : Place) (n c : ℕ) (f : Forest) (awaiting fs : List ℕ) → q.node.kind ≡ kind.BindingIdentifier → f ≡ nothing → LeadsOn awaiting awaiting fs (steps_below q None n c f)
name_leads q n c f awaiting fs e g = subst (λ h. LeadsOn awaiting awaiting fs (steps_below q None n c h)) (sym g) (by (opens q.node.kind) (ap opens e))
  where
    by : (b : Bool) → b ≡ false → LeadsOn awaiting awaiting fs (cond b (opening q (opened_scope q n) ∷ closing q (opened_scope q n) ∷ []) [])
    by true h = absurd cc
    by false h = record { headed = tt; is = refl }

-- a child is a part of the header, or stands behind it, or is a name
which : (k : AstType) (r : Role) (k2 : AstType) (text : List ℕ) (below after : Forest) → ShapedChild k r k2 text below after → (is_in_header k r ≡ true) ⊎ ((has_role (header_roles k) after ≡ false) ⊎ ((k2 ≡ kind.BindingIdentifier) × (below ≡ nothing)))
which k r k2 text below after h = by (is_in_header k r) (has_role (header_roles k) after) (is_name k r) refl refl refl h.leads
  where
    named : is_name k r ≡ true → (k2 ≡ kind.BindingIdentifier) × (below ≡ nothing)
    named e =
        let second : (not (is_name k r) || same_kind k2 kind.BindingIdentifier) ≡ true = and_second (not (same_kind k kind.BindingIdentifier)) (not (is_name k r) || same_kind k2 kind.BindingIdentifier) h.names in
        let q : same_kind k2 kind.BindingIdentifier ≡ true = rw e at second in
        let i : k2 ≡ kind.BindingIdentifier = kind_is k2 kind.BindingIdentifier q in
        (i, nothing_below below (subst (λ m. holds_below names_identifier m below ≡ true) i h.inner.names))

    by : (a l n : Bool) → is_in_header k r ≡ a → has_role (header_roles k) after ≡ l → is_name k r ≡ n → (a || (not l || n)) ≡ true → (is_in_header k r ≡ true) ⊎ ((has_role (header_roles k) after ≡ false) ⊎ ((k2 ≡ kind.BindingIdentifier) × (below ≡ nothing)))
    by true l n ea el en q = inl ea
    by false false n ea el en q = inr (inl el)
    by false true true ea el en q = inr (inr (named en))
    by false true false ea el en q = absurd cc

record Child (awaiting fs : List ℕ) (child : Place) (ys : List Step) : Type 0 where
  place : IsHeadedPlace awaiting fs child
  below : LeadsOn awaiting awaiting fs ys

-- nothing but a name stands in a header without being of it
child_part : (awaiting fs : List ℕ) (child : Place) (n c : ℕ) (below : Forest) → AreFlagged fs child.chain → IsSheltered awaiting child → AllLess awaiting (length fs)
    → AllMatch awaiting child.chain ⊎ ((child.node.kind ≡ kind.BindingIdentifier) × (below ≡ nothing))
    → (AllMatch awaiting child.chain → LeadsOn awaiting awaiting fs (steps_below child None n c below)) → Child awaiting fs child (steps_below child None n c below)
child_part awaiting fs child n c below f s l (inl m) rest = record { place = record { flagged = f; matches = λ e. m; sheltered = s; older = l }; below = rest m }
child_part awaiting fs child n c below f s l (inr b) rest = record {
  place = record { flagged = f; matches = λ e. let q : true ≡ false = rw b.0 at e in absurd cc; sheltered = s; older = l };
  below = name_leads child n c below awaiting fs b.0 b.1;
}

behind : (a b : Bool) {c : Bool} → c ≡ a → b ≡ false → (c ≡ true) ⊎ ((a || b) ≡ false)
behind true b e g = inl e
behind false b e g = inr g

or_same : (a b : Bool) → (a || (a || b)) ≡ (a || b)
or_same true b = refl
or_same false b = refl

older_own : (awaiting fs : List ℕ) (p : Place) (own : Option OpenScope) (f : Forest) → OwnHeadOf awaiting fs p own f → (s : OpenScope) → own ≡ Some s → AllLess awaiting s.number
older_own awaiting fs p None f o s z = absurd cc
older_own awaiting fs p (Some t) f o s z = let i : t ≡ s = cc in subst (λ (u : OpenScope). AllLess awaiting u.number) i o.older

pub headed_below : (p : Place) (own : Option OpenScope) (n cursor : ℕ) (f : Forest) (awaiting fs : List ℕ) → length fs ≡ n → AreFlagged fs p.chain → ChainLess p.chain n → AllMatch awaiting p.chain → IsSheltered awaiting p → AllLess awaiting n → OwnHeadOf awaiting fs p own f → Shaped p.node.kind f
    → LeadsOn (awaiting_with p own f awaiting) awaiting fs (steps_below p own n cursor f)
headed_below p own n cursor nothing awaiting fs e fl cl m sh l o sp =
    subst (λ a. LeadsOn a awaiting fs (opening_last p own n)) (sym (none_with p own awaiting)) (at_last p own n awaiting fs e sh l o)
headed_below p own n cursor (tree r k span text marks below id after) awaiting fs e fl cl m sh l o sp =
    let node : Node = record { kind = k; span = span; text = text; marks = marks; children = below; node_id = id } in
    let turn : Turn = turn_at p own n cursor r node after in
    let here : Forest = tree r k span text marks below id after in
    let aw : List ℕ = awaiting_with p turn.scope here awaiting in
    let fs_x : List ℕ = flags_after fs turn.before in
    let fs_z : List ℕ = flags_after fs_x turn.whole in
    let fs_e : List ℕ = flags_after fs_z turn.behind in
    let shaped : ShapedChild p.node.kind r k text below after = shaped_child p.node.kind r k text below after here refl refl refl refl sp in
    let next_is : n + openings turn.before ≡ turn.next = next_opened p r own n in
    let count_child : openings turn.whole ≡ cond (opens k) 1 0 + scopes_in below = opened_by_node turn.child turn.next in
    let length_x : length fs_x ≡ turn.next = omega (arith, flags_length fs turn.before, next_is, e) in
    let length_e : length fs_e ≡ turn.rest = omega (arith, flags_length fs_z turn.behind, flags_length fs_x turn.whole, none_after p r turn.scope after, count_child, length_x) in
    let longer : n ≤ turn.next = omega (arith, next_is) in
    let o_x : OwnHeadOf awaiting fs_x p turn.scope here = own_opened p r own n here awaiting fs e l cl o in
    let fl_x : AreFlagged fs_x p.chain = flagged_later fs turn.before p.chain fl in
    let cl_x : ChainLess p.chain turn.next = chain_less_more p.chain n turn.next longer cl in
    let l_x : AllLess awaiting turn.next = less_more awaiting n turn.next longer l in
    let within : length fs_x ≤ turn.next = omega (arith, length_x) in
    let fl_child : AreFlagged fs_x turn.child.chain = child_flagged awaiting fs_x p turn.scope here cursor r node fl_x o_x in
    let cl_child : ChainLess turn.child.chain turn.next = child_less awaiting fs_x p turn.scope here cursor r node turn.next within cl_x o_x in
    let sh_child : IsSheltered aw turn.child = child_sheltered awaiting fs_x p turn.scope here after cursor r node (is_open_inside p r own n) shaped.leads refl shaped.by_table shaped.by_place sh o_x in
    let l_child : AllLess aw turn.next = with_less awaiting fs_x p turn.scope here turn.next within l_x o_x in
    let m_child : AllMatch aw turn.child.chain ⊎ ((k ≡ kind.BindingIdentifier) × (below ≡ nothing)) = elim (which p.node.kind r k text below after shaped) [
      | inl i ↦ inl (child_matches awaiting fs_x p turn.scope here cursor r node (inl i) (ap (λ b. b || left p after) i ∙ sym (ap (λ b. b || left p here) i)) m o_x)
      | inr w ↦ elim w [
        | inl g ↦ inl (child_matches awaiting fs_x p turn.scope here cursor r node (behind (is_in_header p.node.kind r) (left p after) refl g) (sym (or_same (is_in_header p.node.kind r) (left p after))) m o_x)
        | inr b ↦ inr b
      ]
    ] in
    let part : Child aw fs_x turn.child turn.below = child_part aw fs_x turn.child turn.next turn.inner below fl_child sh_child (subst (AllLess aw) (sym length_x) l_child) m_child
    (λ mm. headed_below turn.child None turn.next turn.inner below aw fs_x length_x fl_child cl_child mm sh_child l_child refl shaped.inner) in
    let leaves : LeadsOn aw aw (flags_after fs_x turn.below) (leaving turn.child ∷ []) = record { headed = (tt, tt); is = refl } in
    let both : LeadsOn aw aw fs_x (turn.below ++ leaving turn.child ∷ []) = leads_on-append aw aw aw fs_x turn.below (leaving turn.child ∷ []) part.below leaves in
    let first : LeadsOn (awaiting_with p own here awaiting) aw fs turn.before = at_opening p r own n here awaiting fs sh (subst (AllLess awaiting) (sym e) l) o in
    let second : LeadsOn aw aw fs_x turn.whole = record { headed = (part.place, both.headed); is = both.is } in
    let third : LeadsOn aw (awaiting_with p turn.scope after awaiting) fs_z turn.behind = at_ending p r turn.scope here after awaiting fs_z refl (older_own awaiting fs_x p turn.scope here o_x) in
    let o_e : OwnHeadOf awaiting fs_e p turn.scope after = subst (λ g. OwnHeadOf awaiting g p turn.scope after) (flags-append fs_x turn.whole turn.behind) (own_later awaiting fs_x (turn.whole ++ turn.behind) p r own n here after o_x) in
    let fl_e : AreFlagged fs_e p.chain = flagged_later fs_z turn.behind p.chain (flagged_later fs_x turn.whole p.chain fl_x) in
    let far : turn.next ≤ turn.rest = omega arith in
    let fourth : LeadsOn (awaiting_with p turn.scope after awaiting) awaiting fs_e turn.others =
    headed_below p turn.scope turn.rest turn.past after awaiting fs_e length_e fl_e (chain_less_more p.chain turn.next turn.rest far cl_x) m sh (less_more awaiting turn.next turn.rest far l_x) o_e shaped.others in
    let two : LeadsOn (awaiting_with p own here awaiting) aw fs (turn.before ++ turn.whole) = leads_on-append (awaiting_with p own here awaiting) aw aw fs turn.before turn.whole first second in
    let three : LeadsOn (awaiting_with p own here awaiting) (awaiting_with p turn.scope after awaiting) fs (turn.before ++ turn.whole ++ turn.behind) =
    leads_on-append (awaiting_with p own here awaiting) aw (awaiting_with p turn.scope after awaiting) fs (turn.before ++ turn.whole) turn.behind two (subst (λ g. LeadsOn aw (awaiting_with p turn.scope after awaiting) g turn.behind) (sym (flags-append fs turn.before turn.whole)) third) in
    leads_on-append (awaiting_with p own here awaiting) (awaiting_with p turn.scope after awaiting) awaiting fs (turn.before ++ turn.whole ++ turn.behind) turn.others three
    (subst (λ g. LeadsOn (awaiting_with p turn.scope after awaiting) awaiting g turn.others) (sym (flags-append fs (turn.before ++ turn.whole) turn.behind ∙ ap (λ g. flags_after g turn.behind) (flags-append fs turn.before turn.whole))) fourth)

-- in the end no header is awaited
pub program_awaits : (p : Tree) → first_fault p ≡ None → awaiting_after [] (steps p) ≡ []
program_awaits p h =
    let below : List Step = steps_below (root_place p) None 0 (on_entering p.root.kind 0) p.root.children in
    let shaped : Shaped p.root.kind p.root.children = record { in_order = tree_ordered p h; by_table = table_closes p h; by_place = place_closes p h; names = tree_names p h } in
    let led : LeadsOn [] [] [] below = headed_below (root_place p) None 0 (on_entering p.root.kind 0) p.root.children [] [] refl tt tt tt (inr tt) tt refl shaped in
    awaiting-append [] below (leaving (root_place p) ∷ []) ∙ ap (λ l. awaiting_after l (leaving (root_place p) ∷ [])) led.is

pub program_headed : (p : Tree) → first_fault p ≡ None → AreHeaded [] [] (steps p)
program_headed p h =
    let below : List Step = steps_below (root_place p) None 0 (on_entering p.root.kind 0) p.root.children in
    let shaped : Shaped p.root.kind p.root.children = record { in_order = tree_ordered p h; by_table = table_closes p h; by_place = place_closes p h; names = tree_names p h } in
    let led : LeadsOn [] [] [] below = headed_below (root_place p) None 0 (on_entering p.root.kind 0) p.root.children [] [] refl tt tt tt (inr tt) tt refl shaped in
    (record { flagged = tt; matches = λ e. tt; sheltered = inr tt; older = tt }, headed-append [] [] below (leaving (root_place p) ∷ []) led.headed (tt, tt))
