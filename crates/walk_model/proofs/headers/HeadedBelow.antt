-- What stands in the headers of a program.
use Rattle.std.proofs.Common.{◌≡◌, ℕ, ◌≤◌, List, [], ◌∷◌, Option, Some, None, Bool, true, false, cond, ◌&&◌, ◌||◌, not, ◌⊎◌, inl, inr, refl, sym, ap, subst, ◌∙◌, length, arith}
use Rattle.std.proofs.lemmas.Bool.{cases_Bool}
use Rattle.semantic_tree.specs.Forest.{Forest}
use Rattle.semantic_tree.specs.declared.node.Node.{Node}
use Rattle.semantic_kinds.specs.declared.kind.AstType.{AstType}
use Rattle.semantic_kinds.specs.declared.role.Role.{Role}
use Rattle.semantic_tree.specs.Views.{has_role}
use Rattle.semantic_model.specs.Place.{Place, OpenScope, outside}
use Rattle.semantic_model.specs.Inside.{is_inside, header_roles, is_in_header, is_parameter_decorator}
use Rattle.semantic_syntax.specs.Members.{contains}
use Rattle.semantic_model.specs.Binder.{is_var}
use Rattle.semantic_model.specs.Step.{child_place, child_scopes}
use Rattle.semantic_model.proofs.lists.Members.{contains_first}
use Rattle.walk_model.proofs.places.Shapes.{holds_below}
use Rattle.walk_model.proofs.headers.NoStatements.{is_loose, is_closed, is_bound, asks_closed, closed_by_table, closed_by_place, child_closed}
use Rattle.walk_model.proofs.headers.HeaderParts.{is_name, may_lead, ordered_below, names_identifier}
use Rattle.walk_model.proofs.headers.Headed.{AreFlagged, AllMatch, AllVarAbove, IsSheltered, AllLess, not_among, ChainLess, match_more, bound_inside, left, awaiting_with, OwnHead, OwnHeadOf}

-- the children that are left keep the rules
pub record Shaped (k : AstType) (f : Forest) : Type 0 where
  pub in_order : ordered_below k f ≡ true
  pub by_table : holds_below closed_by_table k f ≡ true
  pub by_place : holds_below closed_by_place k f ≡ true
  pub names : holds_below names_identifier k f ≡ true

-- of one child, of what is below it, and of the others
pub record ShapedChild (k : AstType) (r : Role) (k2 : AstType) (text : List ℕ) (below after : Forest) : Type 0 where
  pub leads : may_lead k r (has_role (header_roles k) after) ≡ true
  pub by_table : closed_by_table k r k2 text ≡ true
  pub by_place : closed_by_place k r k2 text ≡ true
  pub names : names_identifier k r k2 text ≡ true
  pub inner : Shaped k2 below
  pub others : Shaped k after

part3 : (a b c : Bool) → (a && (b && c)) ≡ true → (a ≡ true) × ((b ≡ true) × (c ≡ true))
part3 true true true h = (refl, (refl, refl))
part3 true true false h = absurd cc
part3 true false c h = absurd cc
part3 false b c h = absurd cc

pub shaped_child : (k : AstType) (r : Role) (k2 : AstType) (text : List ℕ) (below after : Forest) (f : Forest) → ordered_below k f ≡ (may_lead k r (has_role (header_roles k) after) && (ordered_below k2 below && ordered_below k after))
    → holds_below closed_by_table k f ≡ (closed_by_table k r k2 text && (holds_below closed_by_table k2 below && holds_below closed_by_table k after))
    → holds_below closed_by_place k f ≡ (closed_by_place k r k2 text && (holds_below closed_by_place k2 below && holds_below closed_by_place k after))
    → holds_below names_identifier k f ≡ (names_identifier k r k2 text && (holds_below names_identifier k2 below && holds_below names_identifier k after))
    → Shaped k f → ShapedChild k r k2 text below after
shaped_child k r k2 text below after f e1 e2 e3 e4 h =
    let a = part3 (may_lead k r (has_role (header_roles k) after)) (ordered_below k2 below) (ordered_below k after) (sym e1 ∙ h.in_order) in
    let b = part3 (closed_by_table k r k2 text) (holds_below closed_by_table k2 below) (holds_below closed_by_table k after) (sym e2 ∙ h.by_table) in
    let c = part3 (closed_by_place k r k2 text) (holds_below closed_by_place k2 below) (holds_below closed_by_place k after) (sym e3 ∙ h.by_place) in
    let d = part3 (names_identifier k r k2 text) (holds_below names_identifier k2 below) (holds_below names_identifier k after) (sym e4 ∙ h.names) in
    record {
      leads = a.0;
      by_table = b.0;
      by_place = c.0;
      names = d.0;
      inner = record { in_order = a.1.0; by_table = b.1.0; by_place = c.1.0; names = d.1.0 };
      others = record { in_order = a.1.1; by_table = b.1.1; by_place = c.1.1; names = d.1.1 };
    }

-- the chain of a child
outside_flagged : (fs : List ℕ) (chain : List OpenScope) → AreFlagged fs chain → AreFlagged fs (outside chain)
outside_flagged fs [] h = tt
outside_flagged fs (s ∷ ss) h = h.1

outside_less : (chain : List OpenScope) (n : ℕ) → ChainLess chain n → ChainLess (outside chain) n
outside_less [] n h = tt
outside_less (s ∷ ss) n h = h.1

outside_match : (awaiting : List ℕ) (chain : List OpenScope) → AllMatch awaiting chain → AllMatch awaiting (outside chain)
outside_match awaiting [] h = tt
outside_match awaiting (s ∷ ss) h = h.1

pub child_flagged : (awaiting fs : List ℕ) (p : Place) (own : Option OpenScope) (f : Forest) (cursor : ℕ) (r : Role) (node : Node) → AreFlagged fs p.chain → OwnHeadOf awaiting fs p own f → AreFlagged fs (child_place p own cursor r node).chain
child_flagged awaiting fs p own f cursor r node h o = go (is_parameter_decorator p.node.kind r)
  where
    within : (c : Option OpenScope) → OwnHeadOf awaiting fs p c f → AreFlagged fs (child_scopes p r c)
    within None q = h
    within (Some s) q = by (is_inside p.node.kind r)
      where
        by : (b : Bool) → AreFlagged fs (cond b (record s { in_header = is_in_header p.node.kind r } ∷ p.chain) p.chain)
        by true = (q.flagged, h)
        by false = h

    go : (b : Bool) → AreFlagged fs (cond b (outside p.chain) (child_scopes p r own))
    go true = outside_flagged fs p.chain h
    go false = within own o

pub child_less : (awaiting fs : List ℕ) (p : Place) (own : Option OpenScope) (f : Forest) (cursor : ℕ) (r : Role) (node : Node) (n : ℕ) → length fs ≤ n → ChainLess p.chain n → OwnHeadOf awaiting fs p own f → ChainLess (child_place p own cursor r node).chain n
child_less awaiting fs p own f cursor r node n l h o = go (is_parameter_decorator p.node.kind r)
  where
    within : (c : Option OpenScope) → OwnHeadOf awaiting fs p c f → ChainLess (child_scopes p r c) n
    within None q = h
    within (Some s) q = by (is_inside p.node.kind r)
      where
        by : (b : Bool) → ChainLess (cond b (record s { in_header = is_in_header p.node.kind r } ∷ p.chain) p.chain) n
        by true = (omega (arith, q.within, l), h)
        by false = h

    go : (b : Bool) → ChainLess (cond b (outside p.chain) (child_scopes p r own)) n
    go true = outside_less p.chain n h
    go false = within own o

-- a child in the header, or behind it
pub child_matches : (awaiting fs : List ℕ) (p : Place) (own : Option OpenScope) (f : Forest) (cursor : ℕ) (r : Role) (node : Node) → (is_in_header p.node.kind r ≡ true) ⊎ (left p f ≡ false) → left p f ≡ (is_in_header p.node.kind r || left p f) → AllMatch awaiting p.chain → OwnHeadOf awaiting fs p own f
    → AllMatch (awaiting_with p own f awaiting) (child_place p own cursor r node).chain
child_matches awaiting fs p own f cursor r node c e m o = go (is_parameter_decorator p.node.kind r)
  where
    deeper : (q : Option OpenScope) (chain : List OpenScope) → AllMatch awaiting chain → ((s : OpenScope) → q ≡ Some s → ChainLess chain s.number) → AllMatch (awaiting_with p q f awaiting) chain
    deeper None chain k l = k
    deeper (Some s) chain k l = by (left p f)
      where
        by : (b : Bool) → AllMatch (cond b (s.number ∷ awaiting) awaiting) chain
        by true = match_more s.number awaiting chain (l s refl) k
        by false = k

    around : (q : Option OpenScope) → OwnHeadOf awaiting fs p q f → (s : OpenScope) → q ≡ Some s → ChainLess p.chain s.number
    around None h s z = absurd cc
    around (Some t) h s z = let i : t ≡ s = cc in subst (λ (u : OpenScope). ChainLess p.chain u.number) i h.around

    own_matches : (s : OpenScope) → OwnHead awaiting fs p s → is_in_header p.node.kind r ≡ contains (cond (left p f) (s.number ∷ awaiting) awaiting) s.number
    own_matches s h = either c
      where
        either : (is_in_header p.node.kind r ≡ true) ⊎ (left p f ≡ false) → is_in_header p.node.kind r ≡ contains (cond (left p f) (s.number ∷ awaiting) awaiting) s.number
        either (inl i) =
            let t : left p f ≡ true = e ∙ ap (λ b. b || left p f) i in
            i ∙ sym (ap (λ b. contains (cond b (s.number ∷ awaiting) awaiting) s.number) t ∙ contains_first s.number awaiting)
        either (inr n) =
            let i : is_in_header p.node.kind r ≡ false = not_it (is_in_header p.node.kind r) (left p f) n e in
            i ∙ sym (ap (λ b. contains (cond b (s.number ∷ awaiting) awaiting) s.number) n ∙ not_among awaiting s.number s.number (omega arith) h.older)
          where
            not_it : (a b : Bool) → b ≡ false → b ≡ (a || b) → a ≡ false
            not_it true b q z = let w : false ≡ true = sym q ∙ z in absurd cc
            not_it false b q z = refl

    within : (q : Option OpenScope) → OwnHeadOf awaiting fs p q f → AllMatch (awaiting_with p q f awaiting) (child_scopes p r q)
    within None h = m
    within (Some s) h = by (is_inside p.node.kind r)
      where
        by : (b : Bool) → AllMatch (awaiting_with p (Some s) f awaiting) (cond b (record s { in_header = is_in_header p.node.kind r } ∷ p.chain) p.chain)
        by true = (own_matches s h, deeper (Some s) p.chain m (around (Some s) h))
        by false = deeper (Some s) p.chain m (around (Some s) h)

    go : (b : Bool) → AllMatch (awaiting_with p own f awaiting) (cond b (outside p.chain) (child_scopes p r own))
    go true = deeper own (outside p.chain) (outside_match awaiting p.chain m) (λ s z. outside_less p.chain s.number (around own o s z))
    go false = within own o

-- the own scope of a function, or the like, shelters what is in it
own_above : (awaiting : List ℕ) (s : OpenScope) (chain : List OpenScope) → is_var s ≡ true → AllLess awaiting s.number → AllVarAbove awaiting (s ∷ chain)
own_above [] s chain v l = tt
own_above (c ∷ cs) s chain v l = (record { next = s; is = rw v refl; above = l.0 }, own_above cs s chain v l.1)

deeper_above : (awaiting : List ℕ) (s : OpenScope) (chain : List OpenScope) → AllLess awaiting s.number → AllVarAbove awaiting chain → AllVarAbove awaiting (s ∷ chain)
deeper_above [] s chain l h = tt
deeper_above (c ∷ cs) s chain l h = (
  elim (cases_Bool (is_var s)) [
    | inl v ↦ record { next = s; is = rw v refl; above = l.0 }
    | inr v ↦ record { next = h.0.next; is = rw v h.0.is; above = h.0.above }
  ],
  deeper_above cs s chain l.1 h.1,
)

within_sheltered : (awaiting fs : List ℕ) (p : Place) (own : Option OpenScope) (f : Forest) (r : Role) → (is_inside p.node.kind r ≡ true → own ≡ None → ⊥) → (is_loose p.node.kind ≡ false → is_bound p.node.kind ≡ true) → IsSheltered awaiting p → OwnHeadOf awaiting fs p own f
    → AllVarAbove awaiting (child_scopes p r own)
within_sheltered awaiting fs p None f r i b (inr v) o = v
within_sheltered awaiting fs p None f r i b (inl c) o = absurd (i (bound_inside p.node.kind r (b (closed_firm p.node.kind p.node.text c))) refl)
  where
    closed_firm : (k : AstType) (text : List ℕ) → is_closed k text ≡ true → is_loose k ≡ false
    closed_firm k text h = elim (cases_Bool (is_loose k)) [ inr q ↦ q | inl q ↦ (let w : false ≡ true = rw q at h in absurd cc) ]
within_sheltered awaiting fs p (Some s) f r i b sh o = by (is_inside p.node.kind r) refl sh
  where
    closed_firm : (k : AstType) (text : List ℕ) → is_closed k text ≡ true → is_loose k ≡ false
    closed_firm k text h = elim (cases_Bool (is_loose k)) [ inr q ↦ q | inl q ↦ (let w : false ≡ true = rw q at h in absurd cc) ]

    by : (t : Bool) → is_inside p.node.kind r ≡ t → IsSheltered awaiting p → AllVarAbove awaiting (cond t (record s { in_header = is_in_header p.node.kind r } ∷ p.chain) p.chain)
    by true e (inr v) = deeper_above awaiting (record s { in_header = is_in_header p.node.kind r }) p.chain o.older v
    by true e (inl c) = own_above awaiting (record s { in_header = is_in_header p.node.kind r }) p.chain (o.ends_var (b (closed_firm p.node.kind p.node.text c))) o.older
    by false e (inr v) = v
    by false e (inl c) = let w : true ≡ false = sym (bound_inside p.node.kind r (b (closed_firm p.node.kind p.node.text c))) ∙ e in absurd cc

-- what doesn't ask for a closed child
record AsksNot (k : AstType) (r : Role) : Type 0 where
  bound : is_loose k ≡ false → is_bound k ≡ true
  in_header : is_in_header k r ≡ false
  name : is_name k r ≡ false
  decorator : is_parameter_decorator k r ≡ false

asks_not : (k : AstType) (r : Role) → asks_closed k r ≡ false → AsksNot k r
asks_not k r h = by (is_loose k) (is_bound k) (is_in_header k r) (is_name k r) (is_parameter_decorator k r) refl refl refl refl refl h
  where
    by : (l b i n d : Bool) → is_loose k ≡ l → is_bound k ≡ b → is_in_header k r ≡ i → is_name k r ≡ n → is_parameter_decorator k r ≡ d → ((not l && not b) || i || n || d) ≡ false → AsksNot k r
    by l b i n d el eb ei en ed q =
        let w : ((not l && not b) ≡ false) × ((i ≡ false) × ((n ≡ false) × (d ≡ false))) = none4 (not l && not b) i n d q in
        record { bound = λ f. eb ∙ firm l b (sym el ∙ f) w.0; in_header = ei ∙ w.1.0; name = en ∙ w.1.1.0; decorator = ed ∙ w.1.1.1 }
      where
        none4 : (a i n d : Bool) → (a || i || n || d) ≡ false → (a ≡ false) × ((i ≡ false) × ((n ≡ false) × (d ≡ false)))
        none4 false false false false z = (refl, (refl, (refl, refl)))
        none4 false false false true z = absurd cc
        none4 false false true d z = absurd cc
        none4 false true n d z = absurd cc
        none4 true i n d z = absurd cc

        firm : (l b : Bool) → l ≡ false → (not l && not b) ≡ false → b ≡ true
        firm true b z y = absurd cc
        firm false true z y = refl
        firm false false z y = absurd cc

pub child_sheltered : (awaiting fs : List ℕ) (p : Place) (own : Option OpenScope) (f after : Forest) (cursor : ℕ) (r : Role) (node : Node) → (is_inside p.node.kind r ≡ true → own ≡ None → ⊥) → may_lead p.node.kind r (left p after) ≡ true → left p f ≡ (is_in_header p.node.kind r || left p after)
    → closed_by_table p.node.kind r node.kind node.text ≡ true → closed_by_place p.node.kind r node.kind node.text ≡ true → IsSheltered awaiting p → OwnHeadOf awaiting fs p own f
    → IsSheltered (awaiting_with p own f awaiting) (child_place p own cursor r node)
child_sheltered awaiting fs p own f after cursor r node i m e t g sh o = elim (cases_Bool (is_closed node.kind node.text)) [
  | inl c ↦ inl c
  | inr c ↦ elim (cases_Bool (asks_closed p.node.kind r)) [
    | inl a ↦ (let w : true ≡ false = sym (child_closed p.node.kind r node.kind node.text t g a) ∙ c in absurd cc)
    | inr a ↦ inr (open_child (asks_not p.node.kind r a))
  ]
]
  where
    open_child : AsksNot p.node.kind r → AllVarAbove (awaiting_with p own f awaiting) (child_place p own cursor r node).chain
    open_child n =
        let none : left p after ≡ false = none_left (is_in_header p.node.kind r) (left p after) (is_name p.node.kind r) n.in_header n.name m in
        let none_here : left p f ≡ false = e ∙ ap (λ b. b || left p after) n.in_header ∙ none in
        rw n.decorator (with_own own none_here (within_sheltered awaiting fs p own f r i n.bound sh o))
      where
        none_left : (h l q : Bool) → h ≡ false → q ≡ false → (h || (not l || q)) ≡ true → l ≡ false
        none_left true l q z y x = absurd cc
        none_left false true true z y x = absurd cc
        none_left false true false z y x = absurd cc
        none_left false false q z y x = refl

        with_own : (q : Option OpenScope) → left p f ≡ false → AllVarAbove awaiting (child_scopes p r q) → AllVarAbove (awaiting_with p q f awaiting) (child_scopes p r q)
        with_own None z v = v
        with_own (Some s) z v = subst (λ b. AllVarAbove (cond b (s.number ∷ awaiting) awaiting) (child_scopes p r (Some s))) (sym z) v
