-- In a numbered program no node is noted twice as the opener of a scope, or as a reference.
use Rattle.std.proofs.Common.{◌≡◌, ℕ, suc, ◌+◌, ◌<◌, ◌≤◌, List, [], ◌∷◌, ◌++◌, Option, Some, None, Bool, true, false, cond, ◌||◌, ◌⊎◌, inl, inr, refl, sym, ap, subst, ◌∙◌, map, flat_map, fold, nat_eq, arith}
use Rattle.std.specs.Prelude.{filter_map}
use Rattle.std.specs.List.{cons_option}
use Rattle.std.proofs.lemmas.Bool.Decides.{eqb_tells}
use Rattle.std.proofs.lemmas.List.{append_assoc, append-nil}
use Rattle.indexmap.specs.IndexMap.{insert_entry}
use Rattle.semantic_tree.specs.Forest.{Forest, nothing, tree, count, numbered}
use Rattle.semantic_tree.specs.Tree.{Tree, IsNumbered}
use Rattle.semantic_tree.specs.declared.node.Node.{Node}
use Rattle.semantic_kinds.specs.declared.kind.AstType.TheVariants as kind
use Rattle.semantic_kinds.specs.declared.role.Role.{Role}
use Rattle.semantic_tree.specs.Views.{is}
use Rattle.semantic_model.specs.Place.{Place, OpenScope}
use Rattle.semantic_model.specs.Inside.{opens, is_inside}
use Rattle.semantic_model.specs.ScopeKind.{opened_scope}
use Rattle.semantic_model.specs.Cursor.{on_entering}
use Rattle.semantic_syntax.specs.Members.{contains}
use Rattle.semantic_model.specs.Reference.{Occurrence, reference_at, references}
use Rattle.semantic_model.specs.Step.{Step, entering, opening, header_ending, closing, leaving, steps_below, steps, opening_at, ending_after, opening_last, scope_at, root_place}
use Rattle.semantic_model.proofs.steps.Turn.{Turn, turn_at}
use Rattle.semantic_model.specs.TablesOf.{evals, opened_entry, scopes}
use Rattle.semantic_model.specs.NodeTable.{Belongs, numbered_from, node_tables}
use Rattle.semantic_model.proofs.lists.Members.{contains-append}
use Rattle.semantic_model.proofs.steps.Compose.{flat-append}
use Rattle.semantic_model.proofs.steps.TurnCases.{opening_case, ending_case, last_case}
use Rattle.walk_model.specs.Noted.{with_entry, entries_of, pairs_of}

-- no number stands twice
abbrev pub AreDistinct : List ℕ → Type 0
AreDistinct [] = Unit {0}
AreDistinct (x ∷ xs) = (contains xs x ≡ false) × AreDistinct xs

abbrev keys : List (ℕ × ℕ) → List ℕ
keys es = map (λ e. e.0) es

insert_new : (es : List (ℕ × ℕ)) (k v : ℕ) → contains (keys es) k ≡ false → insert_entry nat_eq es k v ≡ es ++ (k, v) ∷ []
insert_new [] k v h = refl
insert_new (e ∷ es) k v h = elim (eqb_tells k e.0) [
  | inl q ↦ elim (eqb_tells e.0 k) [ inl r ↦ (let w : true ≡ false = rw r.0 at h in absurd cc) | inr r ↦ absurd (r.1 (sym q.1)) ]
  | inr q ↦ elim (eqb_tells e.0 k) [ inl r ↦ absurd (q.1 (sym r.1)) | inr r ↦ rw q.0 (ap (λ l. e ∷ l) (insert_new es k v (rw r.0 at h))) ]
]

keys_append : (es fs : List (ℕ × ℕ)) → keys (es ++ fs) ≡ keys es ++ keys fs
keys_append [] fs = refl
keys_append (e ∷ es) fs = ap (λ l. e.0 ∷ l) (keys_append es fs)

once_from : (es : List (ℕ × ℕ)) (bs : List Belongs) → ((n : ℕ) → contains (keys es) n ≡ true → contains (map (λ b. b.node) bs) n ≡ false) → AreDistinct (map (λ b. b.node) bs) → fold with_entry es bs ≡ es ++ pairs_of bs
once_from es [] f d = sym (append-nil es)
once_from es (b ∷ bs) f d =
    ap (λ l. fold with_entry l bs) (insert_new es b.node b.number (new (contains (keys es) b.node) refl))
    ∙ once_from (es ++ (b.node, b.number) ∷ []) bs more d.1
    ∙ append_assoc es ((b.node, b.number) ∷ []) (pairs_of bs)
  where
    new : (t : Bool) → contains (keys es) b.node ≡ t → t ≡ false
    new true e = elim (eqb_tells b.node b.node) [ inl q ↦ (let w : true ≡ false = rw q.0 at (f b.node e) in absurd cc) | inr q ↦ absurd (q.1 refl) ]
    new false e = refl

    later : (n : ℕ) → contains (map (λ (c : Belongs). c.node) (b ∷ bs)) n ≡ false → contains (map (λ (c : Belongs). c.node) bs) n ≡ false
    later n h = elim (eqb_tells b.node n) [ inl q ↦ (let w : true ≡ false = rw q.0 at h in absurd cc) | inr q ↦ rw q.0 at h ]

    more : (n : ℕ) → contains (keys (es ++ (b.node, b.number) ∷ [])) n ≡ true → contains (map (λ (c : Belongs). c.node) bs) n ≡ false
    more n h =
        let s : (contains (keys es) n || contains (b.node ∷ []) n) ≡ true = sym (ap (λ l. contains l n) (keys_append es ((b.node, b.number) ∷ [])) ∙ contains-append (keys es) (b.node ∷ []) n) ∙ h in
        by (contains (keys es) n) refl s
      where
        by : (t : Bool) → contains (keys es) n ≡ t → (t || contains (b.node ∷ []) n) ≡ true → contains (map (λ (c : Belongs). c.node) bs) n ≡ false
        by true e s = later n (f n e)
        by false e s = elim (eqb_tells b.node n) [
          | inl q ↦ subst (λ m. contains (map (λ (c : Belongs). c.node) bs) m ≡ false) q.1 d.0
          | inr q ↦ (let w : false ≡ true = rw q.0 at s in absurd cc)
        ]

-- entries of nodes that are noted once
pub noted_once : (bs : List Belongs) → AreDistinct (map (λ b. b.node) bs) → entries_of bs ≡ pairs_of bs
noted_once bs d = once_from [] bs (λ n h. absurd cc) d

nodes_numbered : (i : ℕ) (xs : List ℕ) → map (λ b. b.node) (numbered_from i xs) ≡ xs
nodes_numbered i [] = refl
nodes_numbered i (x ∷ xs) = ap (λ l. x ∷ l) (nodes_numbered (suc i) xs)

pub numbered_once : (xs : List ℕ) → AreDistinct xs → entries_of (numbered_from 0 xs) ≡ pairs_of (numbered_from 0 xs)
numbered_once xs d = noted_once (numbered_from 0 xs) (subst AreDistinct (sym (nodes_numbered 0 xs)) d)

-- lists that are apart
apart_append : (xs ys : List ℕ) → AreDistinct xs → AreDistinct ys → ((n : ℕ) → contains xs n ≡ true → contains ys n ≡ false) → AreDistinct (xs ++ ys)
apart_append [] ys h k f = k
apart_append (x ∷ xs) ys h k f =
    (contains-append xs ys x ∙ (λ i. h.0 i || here i), apart_append xs ys h.1 k (λ n q. f n (elim (eqb_tells x n) [ inl e ↦ rw e.0 refl | inr e ↦ rw e.0 q ])))
  where
    here : contains ys x ≡ false
    here = f x (elim (eqb_tells x x) [ inl e ↦ rw e.0 refl | inr e ↦ absurd (e.1 refl) ])

-- what a forest that is numbered from k on tells of its first tree
pub record FirstNumbered (k id : ℕ) (below after : Forest) : Type 0 where
  pub first : id ≡ k
  pub inner : numbered (k + 1) below ≡ below
  pub others : numbered (k + 1 + count below) after ≡ after

abbrev id_of : Forest → ℕ
id_of nothing = 0
id_of (tree r kind span text marks below id after) = id

abbrev below_of : Forest → Forest
below_of nothing = nothing
below_of (tree r kind span text marks below id after) = below

abbrev after_of : Forest → Forest
after_of nothing = nothing
after_of (tree r kind span text marks below id after) = after

-- the ids of the places, of those that open a scope, and of the references
abbrev pub opener : Step → List ℕ
opener (opening p s) = s.opener ∷ []
opener (entering p) = []
opener (header_ending p s) = []
opener (closing p s) = []
opener (leaving p) = []

abbrev pub referrer : Step → List ℕ
referrer (entering p) = cond (is kind.IdentifierReference p.node) (p.node.node_id ∷ []) []
referrer (opening p s) = []
referrer (header_ending p s) = []
referrer (closing p s) = []
referrer (leaving p) = []

abbrev pub IsBetween : ℕ → ℕ → ℕ → Type 0
IsBetween lo hi x = (lo ≤ x) × (x < hi)

-- distinct numbers of a range
pub record Ranged (lo hi : ℕ) (xs : List ℕ) : Type 0 where
  pub within : (x : ℕ) → contains xs x ≡ true → IsBetween lo hi x
  pub distinct : AreDistinct xs

ranged_none : (lo hi : ℕ) → Ranged lo hi []
ranged_none lo hi = record { within = λ x h. absurd cc; distinct = tt }

ranged_one : (lo hi x : ℕ) → lo ≤ x → x < hi → Ranged lo hi (x ∷ [])
ranged_one lo hi x l k = record {
  within = λ y h. elim (eqb_tells x y) [ inl e ↦ (subst (λ m. lo ≤ m) e.1 l, subst (λ m. m < hi) e.1 k) | inr e ↦ (let w : false ≡ true = rw e.0 at h in absurd cc) ];
  distinct = (refl, tt);
}

either : (xs ys : List ℕ) (n : ℕ) → contains (xs ++ ys) n ≡ true → (contains xs n ≡ true) ⊎ (contains ys n ≡ true)
either xs ys n h = by (contains xs n) refl (sym (contains-append xs ys n) ∙ h)
  where
    by : (t : Bool) → contains xs n ≡ t → (t || contains ys n) ≡ true → (contains xs n ≡ true) ⊎ (contains ys n ≡ true)
    by true e q = inl e
    by false e q = inr q

not_both : (lo mid hi n : ℕ) (ys : List ℕ) → Ranged mid hi ys → n < mid → contains ys n ≡ false
not_both lo mid hi n ys r l = by (contains ys n) refl
  where
    by : (t : Bool) → contains ys n ≡ t → t ≡ false
    by true e = let q : IsBetween mid hi n = r.within n e in absurd (omega (arith, q.0, l))
    by false e = refl

ranged_append : (lo mid hi : ℕ) (xs ys : List ℕ) → lo ≤ mid → mid ≤ hi → Ranged lo mid xs → Ranged mid hi ys → Ranged lo hi (xs ++ ys)
ranged_append lo mid hi xs ys l k h j = record {
  within = λ x q. elim (either xs ys x q) [
    | inl a ↦ (let b : IsBetween lo mid x = h.within x a in (b.0, omega (arith, b.1, k)))
    | inr a ↦ (let b : IsBetween mid hi x = j.within x a in (omega (arith, b.0, l), b.1))
  ];
  distinct = apart_append xs ys h.distinct j.distinct (λ n a. not_both lo mid hi n ys j (h.within n a).1);
}

pub first_numbered : (k : ℕ) (r : Role) (kd : _) (span : _) (text : List ℕ) (marks : _) (below : Forest) (id : ℕ) (after : Forest) → numbered k (tree r kd span text marks below id after) ≡ tree r kd span text marks below id after → FirstNumbered k id below after
first_numbered k r kd span text marks below id after e = record { first = sym (ap id_of e); inner = ap below_of e; others = ap after_of e }

-- the own opener, where the scope is still to open, and numbers of a range
pub record Spread (own lo hi : ℕ) (may_open : Bool) (xs : List ℕ) : Type 0 where
  pub within : (x : ℕ) → contains xs x ≡ true → ((x ≡ own) × (may_open ≡ true)) ⊎ IsBetween lo hi x
  pub distinct : AreDistinct xs

spread_none : (own lo hi : ℕ) (b : Bool) → Spread own lo hi b []
spread_none own lo hi b = record { within = λ x h. absurd cc; distinct = tt }

spread_own : (own lo hi : ℕ) → Spread own lo hi true (own ∷ [])
spread_own own lo hi = record {
  within = λ x h. elim (eqb_tells own x) [ inl e ↦ inl (sym e.1, refl) | inr e ↦ (let w : false ≡ true = rw e.0 at h in absurd cc) ];
  distinct = (refl, tt);
}

-- of a child the range begins with its own
spread_child : (lo hi : ℕ) (b : Bool) (xs : List ℕ) → lo < hi → Spread lo (lo + 1) hi b xs → Ranged lo hi xs
spread_child lo hi b xs l h = record {
  within = λ x q. elim (h.within x q) [ inl e ↦ (omega (arith, e.0), omega (arith, e.0, l)) | inr e ↦ (omega (arith, e.0), e.1) ];
  distinct = h.distinct;
}

-- a child and the others
spread_append : (own lo mid hi : ℕ) (b : Bool) (xs ys : List ℕ) → own < lo → lo ≤ mid → mid ≤ hi → Ranged lo mid xs → Spread own mid hi b ys → Spread own lo hi b (xs ++ ys)
spread_append own lo mid hi b xs ys o l k h j = record {
  within = λ x q. elim (either xs ys x q) [
    | inl a ↦ (let c : IsBetween lo mid x = h.within x a in inr (c.0, omega (arith, c.1, k)))
    | inr a ↦ elim (j.within x a) [ inl e ↦ inl e | inr c ↦ inr (omega (arith, c.0, l), c.1) ]
  ];
  distinct = apart_append xs ys h.distinct j.distinct (λ n a. out n (h.within n a));
}
  where
    out : (n : ℕ) → IsBetween lo mid n → contains ys n ≡ false
    out n c = by (contains ys n) refl
      where
        by : (t : Bool) → contains ys n ≡ t → t ≡ false
        by true e = elim (j.within n e) [ inl q ↦ absurd (omega (arith, q.0, o, c.0)) | inr q ↦ absurd (omega (arith, q.0, c.1)) ]
        by false e = refl

-- the own opener, and then others
spread_first : (own lo hi : ℕ) (xs : List ℕ) → own < lo → Spread own lo hi false xs → Spread own lo hi true (own ∷ xs)
spread_first own lo hi xs o h = record {
  within = λ x q. elim (eqb_tells own x) [
    | inl e ↦ inl (sym e.1, refl)
    | inr e ↦ elim (h.within x (rw e.0 at q)) [ inl c ↦ (let w : false ≡ true = c.1 in absurd cc) | inr c ↦ inr c ]
  ];
  distinct = (by (contains xs own) refl, h.distinct);
}
  where
    by : (t : Bool) → contains xs own ≡ t → t ≡ false
    by true e = elim (h.within own e) [ inl c ↦ (let w : false ≡ true = c.1 in absurd cc) | inr c ↦ absurd (omega (arith, c.0, o)) ]
    by false e = refl

abbrev is_to_open : Option OpenScope → Bool
is_to_open None = true
is_to_open (Some s) = false

none_ending : (p : Place) (r : Role) (own : Option OpenScope) (after : Forest) → flat_map opener (ending_after p r own after) ≡ []
none_ending p r own after = ending_case (λ ss. flat_map opener ss ≡ []) p r own after refl (λ s. refl) (λ s. refl) (λ s. refl)

-- what a child and the others open
turn_openers : (p : Place) (xs ys es ws : List Step) (child : Place) → flat_map opener es ≡ [] → flat_map opener (xs ++ (entering child ∷ (ys ++ leaving child ∷ [])) ++ es ++ ws) ≡ flat_map opener xs ++ (flat_map opener ys ++ flat_map opener ws)
turn_openers p xs ys es ws child e =
    flat-append opener (xs ++ (entering child ∷ (ys ++ leaving child ∷ [])) ++ es) ws
    ∙ ap (λ l. l ++ flat_map opener ws) (flat-append opener (xs ++ (entering child ∷ (ys ++ leaving child ∷ []))) es ∙ ap (λ l. flat_map opener (xs ++ (entering child ∷ (ys ++ leaving child ∷ []))) ++ l) e ∙ append-nil _ ∙ flat-append opener xs (entering child ∷ (ys ++ leaving child ∷ [])) ∙ ap (λ l. flat_map opener xs ++ l) (flat-append opener ys (leaving child ∷ []) ∙ append-nil (flat_map opener ys)))
    ∙ append_assoc (flat_map opener xs) (flat_map opener ys) (flat_map opener ws)

openers_below : (p : Place) (own : Option OpenScope) (n cursor : ℕ) (f : Forest) (k : ℕ) → numbered k f ≡ f → p.node.node_id < k → Spread p.node.node_id k (k + count f) (is_to_open own) (flat_map opener (steps_below p own n cursor f))
openers_below p (Some s) n cursor nothing k e l = spread_none p.node.node_id k (k + 0) false
openers_below p None n cursor nothing k e l = by (opens p.node.kind)
  where
    by : (b : Bool) → Spread p.node.node_id k (k + 0) true (flat_map opener (cond b (opening p (opened_scope p n) ∷ closing p (opened_scope p n) ∷ []) []))
    by true = spread_own p.node.node_id k (k + 0)
    by false = spread_none p.node.node_id k (k + 0) true
openers_below p own n cursor (tree r kd span text marks below id after) k e l =
    let node : Node = record { kind = kd; span = span; text = text; marks = marks; children = below; node_id = id } in
    let turn : Turn = turn_at p own n cursor r node after in
    let g : FirstNumbered k id below after = first_numbered k r kd span text marks below id after e in
    let mid : ℕ = k + 1 + count below in
    let hi : ℕ = k + (count below + count after + 1) in
    let c1 : Spread id (k + 1) mid true (flat_map opener turn.below) = openers_below turn.child None turn.next turn.inner below (k + 1) g.inner (omega (arith, g.first)) in
    let c2 : Ranged k mid (flat_map opener turn.below) = spread_child k mid true (flat_map opener turn.below) (omega arith) (subst (λ m. Spread m (k + 1) mid true (flat_map opener turn.below)) g.first c1) in
    let rest : Spread p.node.node_id mid hi (is_to_open turn.scope) (flat_map opener turn.others) =
    subst (λ m. Spread p.node.node_id mid m (is_to_open turn.scope) (flat_map opener turn.others)) (omega arith) (openers_below p turn.scope turn.rest turn.past after mid g.others (omega arith)) in
    let both : Spread p.node.node_id k hi (is_to_open turn.scope) (flat_map opener turn.below ++ flat_map opener turn.others) = spread_append p.node.node_id k mid hi (is_to_open turn.scope) (flat_map opener turn.below) (flat_map opener turn.others) l (omega arith) (omega arith) c2 rest in
    subst (Spread p.node.node_id k hi (is_to_open own)) (sym (turn_openers p turn.before turn.below turn.behind turn.others turn.child (none_ending p r turn.scope after)))
    (first_open own n (flat_map opener turn.below ++ flat_map opener turn.others) hi both)
  where
    first_open : (o : Option OpenScope) (n : ℕ) (xs : List ℕ) (hi : ℕ) → Spread p.node.node_id k hi (is_to_open (scope_at p r o n)) xs → Spread p.node.node_id k hi (is_to_open o) (flat_map opener (opening_at p r o n) ++ xs)
    first_open (Some s) n xs hi h = h
    first_open None n xs hi h = by (is_inside p.node.kind r) h
      where
        by : (b : Bool) → Spread p.node.node_id k hi (is_to_open (cond b (Some (opened_scope p n)) None)) xs → Spread p.node.node_id k hi true (flat_map opener (cond b (opening p (opened_scope p n) ∷ []) []) ++ xs)
        by true q = spread_first p.node.node_id k hi xs l q
        by false q = q

-- references come in order of their ids
none_open : (p : Place) (r : Role) (own : Option OpenScope) (n : ℕ) → flat_map referrer (opening_at p r own n) ≡ []
none_open p r own n = opening_case (λ ss. flat_map referrer ss ≡ []) p r own n refl refl

none_last : (p : Place) (own : Option OpenScope) (n : ℕ) → flat_map referrer (opening_last p own n) ≡ []
none_last p own n = last_case (λ ss. flat_map referrer ss ≡ []) p own n refl refl

none_ended : (p : Place) (r : Role) (own : Option OpenScope) (after : Forest) → flat_map referrer (ending_after p r own after) ≡ []
none_ended p r own after = ending_case (λ ss. flat_map referrer ss ≡ []) p r own after refl (λ s. refl) (λ s. refl) (λ s. refl)

turn_referrers : (xs ys es ws : List Step) (child : Place) → flat_map referrer xs ≡ [] → flat_map referrer es ≡ []
    → flat_map referrer (xs ++ (entering child ∷ (ys ++ leaving child ∷ [])) ++ es ++ ws) ≡ (referrer (entering child) ++ flat_map referrer ys) ++ flat_map referrer ws
turn_referrers xs ys es ws child d e =
    let zs : List Step = entering child ∷ (ys ++ leaving child ∷ []) in
    let z_is : flat_map referrer zs ≡ referrer (entering child) ++ flat_map referrer ys = ap (λ l. referrer (entering child) ++ l) (flat-append referrer ys (leaving child ∷ []) ∙ append-nil (flat_map referrer ys)) in
    flat-append referrer (xs ++ zs ++ es) ws
    ∙ ap (λ l. l ++ flat_map referrer ws) (flat-append referrer (xs ++ zs) es ∙ ap (λ l. flat_map referrer (xs ++ zs) ++ l) e ∙ append-nil (flat_map referrer (xs ++ zs)) ∙ flat-append referrer xs zs ∙ ap (λ l. l ++ flat_map referrer zs) d ∙ z_is)

referrer_own : (child : Place) (lo hi : ℕ) → lo ≤ child.node.node_id → child.node.node_id < hi → Ranged lo hi (referrer (entering child))
referrer_own child lo hi l k = by (is kind.IdentifierReference child.node)
  where
    by : (b : Bool) → Ranged lo hi (cond b (child.node.node_id ∷ []) [])
    by true = ranged_one lo hi child.node.node_id l k
    by false = ranged_none lo hi

referrers_below : (p : Place) (own : Option OpenScope) (n cursor : ℕ) (f : Forest) (k : ℕ) → numbered k f ≡ f → Ranged k (k + count f) (flat_map referrer (steps_below p own n cursor f))
referrers_below p own n cursor nothing k e = subst (Ranged k (k + 0)) (sym (none_last p own n)) (ranged_none k (k + 0))
referrers_below p own n cursor (tree r kd span text marks below id after) k e =
    let node : Node = record { kind = kd; span = span; text = text; marks = marks; children = below; node_id = id } in
    let turn : Turn = turn_at p own n cursor r node after in
    let g : FirstNumbered k id below after = first_numbered k r kd span text marks below id after e in
    let mid : ℕ = k + 1 + count below in
    let hi : ℕ = k + (count below + count after + 1) in
    let own_one : Ranged k (k + 1) (referrer (entering turn.child)) = referrer_own turn.child k (k + 1) (omega (arith, g.first)) (omega (arith, g.first)) in
    let inside : Ranged (k + 1) mid (flat_map referrer turn.below) = referrers_below turn.child None turn.next turn.inner below (k + 1) g.inner in
    let first : Ranged k mid (referrer (entering turn.child) ++ flat_map referrer turn.below) = ranged_append k (k + 1) mid (referrer (entering turn.child)) (flat_map referrer turn.below) (omega arith) (omega arith) own_one inside in
    let rest : Ranged mid hi (flat_map referrer turn.others) = subst (λ m. Ranged mid m (flat_map referrer turn.others)) (omega arith) (referrers_below p turn.scope turn.rest turn.past after mid g.others) in
    subst (Ranged k hi) (sym (turn_referrers turn.before turn.below turn.behind turn.others turn.child (none_open p r own n) (none_ended p r turn.scope after)))
    (ranged_append k mid hi (referrer (entering turn.child) ++ flat_map referrer turn.below) (flat_map referrer turn.others) (omega arith) (omega arith) first rest)

-- the lists of the definitions are these
openers_listed : (calls : List (List ℕ)) (ss : List Step) → map (λ s. s.node) (filter_map (opened_entry calls) ss) ≡ flat_map opener ss
openers_listed calls [] = refl
openers_listed calls (opening p s ∷ ss) = ap (λ l. s.opener ∷ l) (openers_listed calls ss)
openers_listed calls (entering p ∷ ss) = openers_listed calls ss
openers_listed calls (header_ending p s ∷ ss) = openers_listed calls ss
openers_listed calls (closing p s ∷ ss) = openers_listed calls ss
openers_listed calls (leaving p ∷ ss) = openers_listed calls ss

referrers_listed : (ss : List Step) → map (λ r. r.node) (references ss) ≡ flat_map referrer ss
referrers_listed [] = refl
referrers_listed (entering p ∷ ss) = by (is kind.IdentifierReference p.node) (referrers_listed ss)
  where
    by : (b : Bool) → map (λ (r : Occurrence). r.node) (references ss) ≡ flat_map referrer ss → map (λ (r : Occurrence). r.node) (cons_option (cond b (Some (reference_at p)) None) (references ss)) ≡ cond b (p.node.node_id ∷ []) [] ++ flat_map referrer ss
    by true h = ap (λ l. p.node.node_id ∷ l) h
    by false h = h
referrers_listed (opening p s ∷ ss) = referrers_listed ss
referrers_listed (header_ending p s ∷ ss) = referrers_listed ss
referrers_listed (closing p s ∷ ss) = referrers_listed ss
referrers_listed (leaving p ∷ ss) = referrers_listed ss

pub root_numbered : (p : Tree) → IsNumbered p.root → (p.root.node_id ≡ 0) × (numbered 1 p.root.children ≡ p.root.children)
root_numbered p e = (sym (ap (λ n. n.node_id) e), ap (λ n. n.children) e)

-- no node opens two scopes
pub openers_distinct : (p : Tree) → IsNumbered p.root → AreDistinct (flat_map opener (steps p))
openers_distinct p e =
    let below : List Step = steps_below (root_place p) None 0 (on_entering p.root.kind 0) p.root.children in
    let q : (p.root.node_id ≡ 0) × (numbered 1 p.root.children ≡ p.root.children) = root_numbered p e in
    let s : Spread p.root.node_id 1 (1 + count p.root.children) true (flat_map opener below) = openers_below (root_place p) None 0 (on_entering p.root.kind 0) p.root.children 1 q.1 (omega (arith, q.0)) in
    let list : flat_map opener (steps p) ≡ flat_map opener below = flat-append opener below (leaving (root_place p) ∷ []) ∙ append-nil (flat_map opener below) in
    subst AreDistinct (sym list) s.distinct

pub scopes_noted_once : (p : Tree) → IsNumbered p.root → entries_of (node_tables (steps p)).scopes ≡ pairs_of (node_tables (steps p)).scopes
scopes_noted_once p e = numbered_once (map (λ c. c.node) (scopes (steps p))) (subst AreDistinct (sym (openers_listed (evals (steps p)) (steps p))) (openers_distinct p e))

pub references_noted_once : (p : Tree) → IsNumbered p.root → entries_of (node_tables (steps p)).references ≡ pairs_of (node_tables (steps p)).references
references_noted_once p e =
    let below : List Step = steps_below (root_place p) None 0 (on_entering p.root.kind 0) p.root.children in
    let q : (p.root.node_id ≡ 0) × (numbered 1 p.root.children ≡ p.root.children) = root_numbered p e in
    let b : Ranged 1 (1 + count p.root.children) (flat_map referrer below) = referrers_below (root_place p) None 0 (on_entering p.root.kind 0) p.root.children 1 q.1 in
    let o : Ranged 0 1 (referrer (entering (root_place p))) = referrer_own (root_place p) 0 1 (omega arith) (omega (arith, q.0)) in
    let r : Ranged 0 (1 + count p.root.children) (referrer (entering (root_place p)) ++ flat_map referrer below) = ranged_append 0 1 (1 + count p.root.children) (referrer (entering (root_place p))) (flat_map referrer below) (omega arith) (omega arith) o b in
    let list : map (λ c. c.node) (references (steps p)) ≡ referrer (entering (root_place p)) ++ flat_map referrer below =
    referrers_listed (steps p) ∙ ap (λ l. referrer (entering (root_place p)) ++ l) (flat-append referrer below (leaving (root_place p) ∷ []) ∙ append-nil (flat_map referrer below)) in
    numbered_once (map (λ c. c.node) (references (steps p))) (subst AreDistinct (sym list) r.distinct)
