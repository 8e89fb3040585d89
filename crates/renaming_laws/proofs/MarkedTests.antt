-- Tests of the nodes of a program in which the symbol has a name that nothing else has.
use Rattle.std.proofs.Common.{◌≡◌, ℕ, List, [], ◌∷◌, ◌++◌, Bool, true, false, not, ◌&&◌, ◌||◌, cond, if◌then◌else◌, inl, inr, ◌⊎◌, refl, sym, ap, subst, ◌∙◌, map, bytes_eq, codes}
use Rattle.std.specs.List.{list_any}
use Rattle.std.proofs.lemmas.Bool.{and_from}
use Rattle.semantic_syntax.proofs.Truth.{and_first, and_second}
use Rattle.semantic_kinds.specs.Kinds.{same_kind}
use Rattle.semantic_kinds.specs.declared.kind.AstType.{AstType}
use Rattle.semantic_kinds.specs.declared.kind.AstType.TheVariants as kind
use Rattle.semantic_kinds.specs.declared.mark.Mark.TheVariants as mark
use Rattle.semantic_syntax.specs.Tables.{Name}
use Rattle.semantic_tree.specs.BoundNames.{binds_by, bound_below, bound_names}
use Rattle.semantic_tree.specs.Forest.{Forest, nothing, tree}
use Rattle.semantic_tree.specs.Views.{is}
use Rattle.semantic_tree.specs.declared.node.Node.{Node}
use Rattle.semantic_model.specs.Entries.{Among}
use Rattle.semantic_model.proofs.form.Clauses.{kind_is}
use Rattle.semantic_model.proofs.once.ListedUnder.{name_tells}
use Rattle.semantic_model.proofs.swapped.Alike.{map_append}
use Rattle.program_laws.specs.ReadMarks.{without_where}
use Rattle.rename_model.specs.WithName.{sheds, with_name, is_identifier, AreIdentifiers}
use Rattle.swapped_checks.specs.SwappedPrograms.{holds_below}
use Rattle.swapped_checks.specs.SwappedSight.{is_signature_list, KeepsParameters}
use Rattle.swapped_checks.proofs.Told.{other_way}
use Rattle.renaming_laws.specs.KeptSignatures.{keeps_signature}
use Rattle.renaming_laws.specs.NewNames.{instead}
use Rattle.renaming_laws.proofs.FreshNames.{itself}
use Rattle.renaming_laws.proofs.MarkedSymbol.{AreApart}

differ : false ≡ true → ⊥
differ e = cc

-- the node is no string of the name
abbrev pub is_no_string : Name → Node → Bool
is_no_string z node = not (is kind.StringLiteral node && bytes_eq node.text z)

-- no signature has both names
abbrev pub parts : Name → Name → Node → Bool
parts z w node = not (is_signature_list node && (list_any (λ x. bytes_eq x.text z) (bound_names node) && list_any (λ x. bytes_eq x.text w) (bound_names node)))

-- ---- what the test of a signature tells

any_among : (z : Name) (ns : List Node) (x : Name) → Among x (map (λ n. n.text) ns) → x ≡ z → list_any (λ n. bytes_eq n.text z) ns ≡ true
any_among z [] x a e = absurd a
any_among z (n ∷ ns) x (inl q) e = ap (λ u. bytes_eq u z || list_any (λ m. bytes_eq m.text z) ns) (q ∙ e) ∙ ap (λ b. b || list_any (λ m. bytes_eq m.text z) ns) (itself z)
any_among z (n ∷ ns) x (inr a) e = ap (λ b. bytes_eq n.text z || b) (any_among z ns x a e) ∙ or_true (bytes_eq n.text z)
  where
    or_true : (b : Bool) → (b || true) ≡ true
    or_true true = refl
    or_true false = refl

pub keeps_parameters : (z w : Name) (node : Node) → parts z w node ≡ true → is_signature_list node ≡ true → KeepsParameters (instead z w) node
keeps_parameters z w node h sig x y a b = go (name_tells x z) (name_tells y z)
  where
    never : (u v : Name) → Among u (map (λ n. n.text) (bound_names node)) → Among v (map (λ n. n.text) (bound_names node)) → u ≡ z → v ≡ w → ⊥
    never u v c d e f = differ (sym (ap not (λ i. sig i && (any_among z (bound_names node) u c e i && any_among w (bound_names node) v d f i))) ∙ h)

    apart : (u v : Name) → Among u (map (λ n. n.text) (bound_names node)) → Among v (map (λ n. n.text) (bound_names node)) → u ≡ z → bytes_eq v w ≡ false
    apart u v c d e = elim (name_tells v w) [ inl k ↦ absurd (never u v c d e k.1) | inr k ↦ k.0 ]

    go : ((bytes_eq x z ≡ true) × (x ≡ z)) ⊎ ((bytes_eq x z ≡ false) × (x ≡ z → ⊥)) → ((bytes_eq y z ≡ true) × (y ≡ z)) ⊎ ((bytes_eq y z ≡ false) × (y ≡ z → ⊥)) → bytes_eq (instead z w x) (instead z w y) ≡ bytes_eq x y
    go (inl k) (inl l) =
        (λ i. bytes_eq (if k.0 i then w else x) (if l.0 i then w else y)) ∙ itself w ∙ sym (itself z) ∙ (λ i. bytes_eq (sym k.1 i) (sym l.1 i))
    go (inl k) (inr l) =
        (λ i. bytes_eq (if k.0 i then w else x) (if l.0 i then w else y)) ∙ other_way y w (apart x y a b k.1) ∙ sym (ap (λ u. bytes_eq u y) k.1 ∙ other_way y z l.0)
    go (inr k) (inl l) =
        (λ i. bytes_eq (if k.0 i then w else x) (if l.0 i then w else y)) ∙ apart y x b a l.1 ∙ sym (ap (bytes_eq x) l.1 ∙ k.0)
    go (inr k) (inr l) = λ i. bytes_eq (if k.0 i then w else x) (if l.0 i then w else y)

-- ---- nodes with the name

module _ (chosen : ℕ → Bool) (z : Name) where
  abbrev named : Node → Node
  named x = record x { text = cond (chosen x.node_id) z x.text; marks = without_where (sheds chosen) mark.Shorthand x; children = with_name chosen z x.children }

  bound_named : (parent : AstType) (f : Forest) → bound_below parent (with_name chosen z f) ≡ map named (bound_below parent f)
  bound_named parent nothing = refl
  bound_named parent (tree r k span text marks below id after) =
      (λ i. go (bound_named k below) (binds_by parent r) (same_kind k kind.BindingIdentifier) i ++ bound_named parent after i)
      ∙ sym (map_append named (if binds_by parent r then (if same_kind k kind.BindingIdentifier then old ∷ [] else bound_below k below) else []) (bound_below parent after))
    where
      old : Node
      old = record { kind = k; span = span; text = text; marks = marks; children = below; node_id = id }

      go : bound_below k (with_name chosen z below) ≡ map named (bound_below k below) → (b c : Bool) → (if b then (if c then named old ∷ [] else bound_below k (with_name chosen z below)) else []) ≡ map named (if b then (if c then old ∷ [] else bound_below k below) else [])
      go e true true = refl
      go e true false = e
      go e false c = refl

  names_named : (x : Node) → bound_names (named x) ≡ map named (bound_names x)
  names_named x = go (same_kind x.kind kind.BindingIdentifier)
    where
      go : (b : Bool) → (if b then named x ∷ [] else bound_below x.kind (with_name chosen z x.children)) ≡ map named (if b then x ∷ [] else bound_below x.kind x.children)
      go true = refl
      go false = bound_named x.kind x.children

  -- no node has the text
  abbrev Apart : List Node → Type 0
  Apart [] = Unit {0}
  Apart (x ∷ xs) = (bytes_eq x.text z ≡ false) × Apart xs

  apart_append : (xs ys : List Node) → Apart xs → Apart ys → Apart (xs ++ ys)
  apart_append [] ys h k = k
  apart_append (x ∷ xs) ys h k = (h.0, apart_append xs ys h.1 k)

  apart_bound : (parent : AstType) (f : Forest) → AreApart z f → Apart (bound_below parent f)
  apart_bound parent nothing h = tt
  apart_bound parent (tree r k span text marks below id after) h =
      apart_append (if binds_by parent r then (if same_kind k kind.BindingIdentifier then old ∷ [] else bound_below k below) else []) (bound_below parent after) (go (apart_bound k below h.1) (binds_by parent r) (same_kind k kind.BindingIdentifier)) (apart_bound parent after h.2)
    where
      old : Node
      old = record { kind = k; span = span; text = text; marks = marks; children = below; node_id = id }

      go : Apart (bound_below k below) → (b c : Bool) → Apart (if b then (if c then old ∷ [] else bound_below k below) else [])
      go inner true true = (h.0, tt)
      go inner true false = inner
      go inner false c = tt

  apart_names : (x : Node) → bytes_eq x.text z ≡ false → AreApart z x.children → Apart (bound_names x)
  apart_names x h a = go (same_kind x.kind kind.BindingIdentifier)
    where
      go : (b : Bool) → Apart (if b then x ∷ [] else bound_below x.kind x.children)
      go true = (h, tt)
      go false = apart_bound x.kind x.children a

  -- the name stands where a node is chosen
  any_chosen : (xs : List Node) → Apart xs → list_any (λ x. bytes_eq x.text z) (map named xs) ≡ list_any (λ x. chosen x.node_id) xs
  any_chosen [] h = refl
  any_chosen (x ∷ xs) h = λ i. go (chosen x.node_id) i || any_chosen xs h.1 i
    where
      go : (b : Bool) → bytes_eq (cond b z x.text) z ≡ b
      go true = itself z
      go false = h.0

  -- another name stands where none is
  any_other : (w : Name) → bytes_eq z w ≡ false → (test : Node → Bool) → ((x : Node) → (not (chosen x.node_id) && bytes_eq x.text w) ≡ true → test x ≡ true) → (xs : List Node) → list_any (λ x. bytes_eq x.text w) (map named xs) ≡ true → list_any test xs ≡ true
  any_other w e test more [] h = absurd cc
  any_other w e test more (x ∷ xs) h = go (λ k. any_other w e test more xs k) (chosen x.node_id) (bytes_eq x.text w) (more x) h refl
    where
      or_true : (b : Bool) → (b || true) ≡ true
      or_true true = refl
      or_true false = refl

      go : (list_any (λ y. bytes_eq y.text w) (map named xs) ≡ true → list_any test xs ≡ true) → (c t : Bool) → ((not c && t) ≡ true → test x ≡ true) → (bytes_eq (cond c z x.text) w || list_any (λ y. bytes_eq y.text w) (map named xs)) ≡ true → (bytes_eq x.text w ≡ t) → (test x || list_any test xs) ≡ true
      go later true t m k i = ap (λ b. test x || b) (later (subst (λ b. (b || list_any (λ y. bytes_eq y.text w) (map named xs)) ≡ true) e k)) ∙ or_true (test x)
      go later false true m k i = ap (λ b. b || list_any test xs) (m refl)
      go later false false m k i = ap (λ b. test x || b) (later (subst (λ b. (b || list_any (λ y. bytes_eq y.text w) (map named xs)) ≡ true) i k)) ∙ or_true (test x)

  -- ---- the tests

  -- an unchosen node has its text
  text_stays : (x : Node) (k : AstType) → is_identifier k ≡ false → (chosen x.node_id ≡ true → is_identifier x.kind ≡ true) → same_kind x.kind k ≡ true → (named x).text ≡ x.text
  text_stays x k h only e = go (chosen x.node_id) only
    where
      go : (b : Bool) → (b ≡ true → is_identifier x.kind ≡ true) → cond b z x.text ≡ x.text
      go true i = absurd (differ (sym h ∙ ap is_identifier (sym (kind_is x.kind k e)) ∙ i refl))
      go false i = refl

  string_named : (x : Node) → (chosen x.node_id ≡ true → is_identifier x.kind ≡ true) → bytes_eq x.text z ≡ false → is_no_string z (named x) ≡ true
  string_named x only apart = go (is kind.StringLiteral x) refl
    where
      go : (b : Bool) → is kind.StringLiteral x ≡ b → not (b && bytes_eq (named x).text z) ≡ true
      go true e = ap (λ t. not (bytes_eq t z)) (text_stays x kind.StringLiteral refl only e) ∙ ap not apart
      go false e = refl

  -- the same signatures
  signature_stays : (x : Node) → (chosen x.node_id ≡ true → is_identifier x.kind ≡ true) → is_signature_list (named x) ≡ is_signature_list x
  signature_stays x only = go (is kind.FormalParameters x) refl
    where
      go : (b : Bool) → is kind.FormalParameters x ≡ b → (b && bytes_eq (named x).text (codes "signature")) ≡ (b && bytes_eq x.text (codes "signature"))
      go true e = ap (λ t. bytes_eq t (codes "signature")) (text_stays x kind.FormalParameters refl only e)
      go false e = refl

  module _ (old new : Name) where
    parts_named : (w : Name) → bytes_eq z w ≡ false → ((u : Name) → bytes_eq u w ≡ true → (bytes_eq u old || bytes_eq u new) ≡ true) → (x : Node) → (chosen x.node_id ≡ true → is_identifier x.kind ≡ true) → bytes_eq x.text z ≡ false → AreApart z x.children → keeps_signature chosen old new x ≡ true → parts z w (named x) ≡ true
    parts_named w e one x only apart below h =
        go (is_signature_list (named x)) (list_any (λ n. bytes_eq n.text z) (bound_names (named x))) (list_any (λ n. bytes_eq n.text w) (bound_names (named x)))
        (λ k. sym (signature_stays x only) ∙ k)
        (λ k. sym (any_chosen (bound_names x) (apart_names x apart below)) ∙ ap (list_any (λ n. bytes_eq n.text z)) (sym (names_named x)) ∙ k)
        (λ k. any_other w e (λ n. not (chosen n.node_id) && (bytes_eq n.text old || bytes_eq n.text new)) more (bound_names x) (ap (list_any (λ n. bytes_eq n.text w)) (sym (names_named x)) ∙ k))
      where
        more : (n : Node) → (not (chosen n.node_id) && bytes_eq n.text w) ≡ true → (not (chosen n.node_id) && (bytes_eq n.text old || bytes_eq n.text new)) ≡ true
        more n k = and_from (not (chosen n.node_id)) (bytes_eq n.text old || bytes_eq n.text new) (and_first (not (chosen n.node_id)) (bytes_eq n.text w) k) (one n.text (and_second (not (chosen n.node_id)) (bytes_eq n.text w) k))

        go : (a b c : Bool) → (a ≡ true → is_signature_list x ≡ true) → (b ≡ true → list_any (λ n. chosen n.node_id) (bound_names x) ≡ true) → (c ≡ true → list_any (λ n. not (chosen n.node_id) && (bytes_eq n.text old || bytes_eq n.text new)) (bound_names x) ≡ true) → not (a && (b && c)) ≡ true
        go true true true i j k = absurd (differ (ap not (λ t. sym (i refl) t && (sym (j refl) t && sym (k refl) t)) ∙ h))
        go true true false i j k = refl
        go true false c i j k = refl
        go false b c i j k = refl

    -- the three tests of a node
    abbrev pub is_marked : Node → Bool
    is_marked n = is_no_string z n && (parts z old n && parts z new n)

    pub marked_below : bytes_eq z old ≡ false → bytes_eq z new ≡ false → (f : Forest) → AreIdentifiers chosen f → AreApart z f → holds_below (keeps_signature chosen old new) f ≡ true → holds_below is_marked (with_name chosen z f) ≡ true
    marked_below eo en nothing h a k = refl
    marked_below eo en (tree r j span text marks below id after) h a k =
        let x : Node = record { kind = j; span = span; text = text; marks = marks; children = below; node_id = id } in
        let test : Node → Bool = keeps_signature chosen old new in
        let own : test x ≡ true = and_first (test x) (holds_below test below && holds_below test after) k in
        let rest : (holds_below test below && holds_below test after) ≡ true = and_second (test x) (holds_below test below && holds_below test after) k in
        and_from (is_marked (named x)) (holds_below is_marked (with_name chosen z below) && holds_below is_marked (with_name chosen z after))
        (and_from (is_no_string z (named x)) (parts z old (named x) && parts z new (named x)) (string_named x h.0 a.0)
        (and_from (parts z old (named x)) (parts z new (named x)) (parts_named old eo (λ u i. ap (λ b. b || bytes_eq u new) i) x h.0 a.0 a.1 own) (parts_named new en (λ u i. ap (λ b. bytes_eq u old || b) i ∙ or_true (bytes_eq u old)) x h.0 a.0 a.1 own)))
        (and_from (holds_below is_marked (with_name chosen z below)) (holds_below is_marked (with_name chosen z after))
        (marked_below eo en below h.1 a.1 (and_first (holds_below test below) (holds_below test after) rest))
        (marked_below eo en after h.2 a.2 (and_second (holds_below test below) (holds_below test after) rest)))
      where
        or_true : (b : Bool) → (b || true) ≡ true
        or_true true = refl
        or_true false = refl
