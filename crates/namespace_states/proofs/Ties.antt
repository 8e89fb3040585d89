-- What a pass notes is what the statements of the program lead to and count as.
use Rattle.std.proofs.Common.{◌≡◌, ℕ, List, [], ◌∷◌, ◌++◌, ◌⊎◌, inl, inr, map, refl, ap, sym, subst, ◌∙◌}
use Rattle.semantic_tree.specs.Forest.{Forest, nothing, tree}
use Rattle.semantic_tree.specs.declared.node.Node.{Node}
use Rattle.semantic_model.specs.Entries.{Among}
use Rattle.semantic_model.specs.Namespace.{InstanceState, non_instantiated, instantiated, const_enum_only, Item, StatementReach, reach}
use Rattle.namespace_states.specs.Reaches.{LeadsTo, CountsAs}
use Rattle.namespace_states.specs.Statements.{lists_inside, items_below, items_from}
use Rattle.namespace_states.proofs.Lists.{among-append, among-left, among-right, among-map, among-mapped}
use Rattle.namespace_states.specs.Led.{Led, nothing_led, with_state, counted_all, led_by, led_below, led_from}

-- statements by what each leads to, in order
abbrev led_by_all : Led → List Item → Led
led_by_all led [] = led
led_by_all led (i ∷ more) = led_by_all (led_by led i.node.node_id (reach i)) more

by-all-append : (led : Led) (xs ys : List Item) → led_by_all led (xs ++ ys) ≡ led_by_all (led_by_all led xs) ys
by-all-append led [] ys = refl
by-all-append led (x ∷ xs) ys = by-all-append (led_by led x.node.node_id (reach x)) xs ys

by-items : (lists : List (List Node)) (f : Forest) (led : Led) → led_below lists f led ≡ led_by_all led (items_below lists f)
by-items lists nothing led = refl
by-items lists (tree role kind span text marks below id after) led =
    let node : Node = record { kind = kind; span = span; text = text; marks = marks; children = below; node_id = id } in
    let first : Item = record { node = node; lists = lists } in
    let here : Led = led_by led id (reach first) in
    let inside : List (List Node) = lists_inside node lists in
    by-items lists after (led_below inside below here)
    ∙ ap (λ (l : Led). led_by_all l (items_below lists after)) (by-items inside below here)
    ∙ sym (by-all-append led (first ∷ items_below inside below) (items_below lists after))

-- a pair of one of these statements, after where it leads
abbrev LeadsBack : List Item → ℕ × ℕ → Type 0
LeadsBack items p = (i : Item) × (Among i items × ((j : Item) × (LeadsTo i j × ((j.node.node_id, i.node.node_id) ≡ p))))

-- one of these statements counts as the state, and has the id
abbrev Counts : InstanceState → List Item → ℕ → Type 0
Counts s items n = (i : Item) × (Among i items × (CountsAs i s × (i.node.node_id ≡ n)))

back-one : (led : Led) (i : Item) (p : ℕ × ℕ) → Among p (led_by led i.node.node_id (reach i)).backward → Among p led.backward ⊎ LeadsBack (i ∷ []) p
back-one led i p a = elim (among-append p led.backward (map (λ j. (j.node.node_id, i.node.node_id)) (reach i).items) a) [
  | inl b ↦ inl b
  | inr b ↦ (let (j, (c, e)) = among-mapped (λ (j : Item). (j.node.node_id, i.node.node_id)) p (reach i).items b in inr (i, (inl refl, (j, (c, e)))))
]

back-all : (led : Led) (items : List Item) (p : ℕ × ℕ) → Among p (led_by_all led items).backward → Among p led.backward ⊎ LeadsBack items p
back-all led [] p a = inl a
back-all led (i ∷ more) p a = elim (back-all (led_by led i.node.node_id (reach i)) more p a) [
  | inr (k, (b, r)) ↦ inr (k, (inr b, r))
  | inl b ↦ elim (back-one led i p b) [
    | inl c ↦ inl c
    | inr (k, (c, r)) ↦ inr (k, (elim c [ inl e ↦ inl e | inr d ↦ absurd d ], r))
  ]
]

-- what is noted stays noted
kept-back : (led : Led) (items : List Item) (p : ℕ × ℕ) → Among p led.backward → Among p (led_by_all led items).backward
kept-back led [] p a = a
kept-back led (i ∷ more) p a = kept-back (led_by led i.node.node_id (reach i)) more p (among-left p led.backward (map (λ j. (j.node.node_id, i.node.node_id)) (reach i).items) a)

noted-back : (led : Led) (items : List Item) (i j : Item) → Among i items → LeadsTo i j → Among (j.node.node_id, i.node.node_id) (led_by_all led items).backward
noted-back led [] i j a l = absurd a
noted-back led (x ∷ more) i j (inr a) l = noted-back (led_by led x.node.node_id (reach x)) more i j a l
noted-back led (x ∷ more) i j (inl e) l =
    let pair : Item → ℕ × ℕ = λ (y : Item). (y.node.node_id, i.node.node_id) in
    let here : Among (j.node.node_id, i.node.node_id) (led_by led i.node.node_id (reach i)).backward = among-right (j.node.node_id, i.node.node_id) led.backward (map pair (reach i).items) (among-map pair j (reach i).items l) in
    subst (λ (y : Item). Among (j.node.node_id, i.node.node_id) (led_by_all (led_by led y.node.node_id (reach y)) more).backward) (sym e)
    (kept-back (led_by led i.node.node_id (reach i)) more (j.node.node_id, i.node.node_id) here)

-- the ids of those that count as a state
abbrev noted : InstanceState → Led → List ℕ
noted non_instantiated led = []
noted instantiated led = led.values
noted const_enum_only led = led.const_enums

last-one : (n m : ℕ) (xs : List ℕ) → Among m (xs ++ n ∷ []) → Among m xs ⊎ (n ≡ m)
last-one n m xs a = elim (among-append m xs (n ∷ []) a) [
  | inl b ↦ inl b
  | inr b ↦ elim b [ inl e ↦ inr e | inr c ↦ absurd c ]
]

count-one : (s t : InstanceState) (led : Led) (n m : ℕ) → Among m (noted s (with_state led n t)) → Among m (noted s led) ⊎ ((t ≡ s) × (n ≡ m))
count-one non_instantiated t led n m a = absurd a
count-one instantiated non_instantiated led n m a = inl a
count-one instantiated instantiated led n m a = elim (last-one n m led.values a) [ inl b ↦ inl b | inr e ↦ inr (refl, e) ]
count-one instantiated const_enum_only led n m a = inl a
count-one const_enum_only non_instantiated led n m a = inl a
count-one const_enum_only instantiated led n m a = inl a
count-one const_enum_only const_enum_only led n m a = elim (last-one n m led.const_enums a) [ inl b ↦ inl b | inr e ↦ inr (refl, e) ]

count-states : (s : InstanceState) (led : Led) (n m : ℕ) (ts : List InstanceState) → Among m (noted s (counted_all led n ts)) → Among m (noted s led) ⊎ (Among s ts × (n ≡ m))
count-states s led n m [] a = inl a
count-states s led n m (t ∷ ts) a = elim (count-states s (with_state led n t) n m ts a) [
  | inr b ↦ inr (inr b.0, b.1)
  | inl b ↦ elim (count-one s t led n m b) [ inl c ↦ inl c | inr c ↦ inr (inl c.0, c.1) ]
]

-- what a statement adds to those that count is by its states alone
by-states : (s : InstanceState) (led : Led) (n : ℕ) (r : StatementReach) → noted s (led_by led n r) ≡ noted s (counted_all led n r.states)
by-states non_instantiated led n r = refl
by-states instantiated led n r = refl
by-states const_enum_only led n r = refl

count-all : (s : InstanceState) (led : Led) (items : List Item) (m : ℕ) → Among m (noted s (led_by_all led items)) → Among m (noted s led) ⊎ Counts s items m
count-all s led [] m a = inl a
count-all s led (i ∷ more) m a = elim (count-all s (led_by led i.node.node_id (reach i)) more m a) [
  | inr (k, (b, r)) ↦ inr (k, (inr b, r))
  | inl b ↦ elim (count-states s led i.node.node_id m (reach i).states (subst (λ ns. Among m ns) (by-states s led i.node.node_id (reach i)) b)) [
    | inl c ↦ inl c
    | inr c ↦ inr (i, (inl refl, (c.0, c.1)))
  ]
]

kept-one : (s t : InstanceState) (led : Led) (n m : ℕ) → Among m (noted s led) → Among m (noted s (with_state led n t))
kept-one non_instantiated t led n m a = absurd a
kept-one instantiated non_instantiated led n m a = a
kept-one instantiated instantiated led n m a = among-left m led.values (n ∷ []) a
kept-one instantiated const_enum_only led n m a = a
kept-one const_enum_only non_instantiated led n m a = a
kept-one const_enum_only instantiated led n m a = a
kept-one const_enum_only const_enum_only led n m a = among-left m led.const_enums (n ∷ []) a

kept-states : (s : InstanceState) (led : Led) (n m : ℕ) (ts : List InstanceState) → Among m (noted s led) → Among m (noted s (counted_all led n ts))
kept-states s led n m [] a = a
kept-states s led n m (t ∷ ts) a = kept-states s (with_state led n t) n m ts (kept-one s t led n m a)

kept-count : (s : InstanceState) (led : Led) (items : List Item) (m : ℕ) → Among m (noted s led) → Among m (noted s (led_by_all led items))
kept-count s led [] m a = a
kept-count s led (i ∷ more) m a =
    kept-count s (led_by led i.node.node_id (reach i)) more m (subst (λ ns. Among m ns) (sym (by-states s led i.node.node_id (reach i))) (kept-states s led i.node.node_id m (reach i).states a))

-- the state is told
abbrev IsTold : InstanceState → Type 0
IsTold non_instantiated = ⊥
IsTold _ = Unit {0}

noted-one : (s : InstanceState) → IsTold s → (led : Led) (n : ℕ) → Among n (noted s (with_state led n s))
noted-one non_instantiated t led n = absurd t
noted-one instantiated t led n = among-right n led.values (n ∷ []) (inl refl)
noted-one const_enum_only t led n = among-right n led.const_enums (n ∷ []) (inl refl)

noted-states : (s : InstanceState) → IsTold s → (led : Led) (n : ℕ) (ts : List InstanceState) → Among s ts → Among n (noted s (counted_all led n ts))
noted-states s k led n [] a = absurd a
noted-states s k led n (t ∷ ts) (inl e) = kept-states s (with_state led n t) n n ts (subst (λ u. Among n (noted s (with_state led n u))) (sym e) (noted-one s k led n))
noted-states s k led n (t ∷ ts) (inr a) = noted-states s k (with_state led n t) n ts a

noted-count : (s : InstanceState) → IsTold s → (led : Led) (items : List Item) (i : Item) → Among i items → CountsAs i s → Among i.node.node_id (noted s (led_by_all led items))
noted-count s k led [] i a c = absurd a
noted-count s k led (x ∷ more) i (inr a) c = noted-count s k (led_by led x.node.node_id (reach x)) more i a c
noted-count s k led (x ∷ more) i (inl e) c =
    let here : Among i.node.node_id (noted s (led_by led i.node.node_id (reach i))) = subst (λ ns. Among i.node.node_id ns) (sym (by-states s led i.node.node_id (reach i))) (noted-states s k led i.node.node_id (reach i).states c) in
    subst (λ (y : Item). Among i.node.node_id (noted s (led_by_all (led_by led y.node.node_id (reach y)) more))) (sym e) (kept-count s (led_by led i.node.node_id (reach i)) more i.node.node_id here)

-- what is noted of the statements of a program, both ways
pub record IsNoted (root : Node) (led : Led) : Type 0 where
  pub back : (p : ℕ × ℕ) → Among p led.backward → (i : Item) × (Among i (items_from root) × ((j : Item) × (LeadsTo i j × ((j.node.node_id, i.node.node_id) ≡ p))))
  pub leads : (i j : Item) → Among i (items_from root) → LeadsTo i j → Among (j.node.node_id, i.node.node_id) led.backward
  pub value : (n : ℕ) → Among n led.values → (i : Item) × (Among i (items_from root) × (CountsAs i instantiated × (i.node.node_id ≡ n)))
  pub values : (i : Item) → Among i (items_from root) → CountsAs i instantiated → Among i.node.node_id led.values
  pub const_enum : (n : ℕ) → Among n led.const_enums → (i : Item) × (Among i (items_from root) × (CountsAs i const_enum_only × (i.node.node_id ≡ n)))
  pub const_enums : (i : Item) → Among i (items_from root) → CountsAs i const_enum_only → Among i.node.node_id led.const_enums

all-noted : (root : Node) → IsNoted root (led_by_all nothing_led (items_from root))
all-noted root = record {
  back = λ p a. elim (back-all nothing_led (items_from root) p a) [ inl b ↦ absurd b | inr b ↦ b ];
  leads = λ i j a l. noted-back nothing_led (items_from root) i j a l;
  value = λ n a. elim (count-all instantiated nothing_led (items_from root) n a) [ inl b ↦ absurd b | inr b ↦ b ];
  values = λ i a c. noted-count instantiated tt nothing_led (items_from root) i a c;
  const_enum = λ n a. elim (count-all const_enum_only nothing_led (items_from root) n a) [ inl b ↦ absurd b | inr b ↦ b ];
  const_enums = λ i a c. noted-count const_enum_only tt nothing_led (items_from root) i a c;
}

pub noted_of : (root : Node) → IsNoted root (led_from [] root nothing_led)
noted_of root =
    let first : Item = record { node = root; lists = [] } in
    let here : Led = led_by nothing_led root.node_id (reach first) in
    let same : led_from [] root nothing_led ≡ led_by_all nothing_led (items_from root) = by-items (lists_inside root []) root.children here in
    subst (λ (l : Led). IsNoted root l) (sym same) (all-noted root)
