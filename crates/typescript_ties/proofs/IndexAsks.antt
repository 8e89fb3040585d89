-- No index signature is asked for its parameter by a name that isn't tangled.
use Rattle.std.proofs.Common.{◌≡◌, ℕ, ◌==◌, List, [], ◌∷◌, ◌++◌, None, Bool, true, false, ◌&&◌, ◌||◌, not, cond, refl, sym, ap, subst, ◌∙◌, inl, inr, ◌⊎◌, bytes_eq, map, filter}
use Rattle.std.specs.List.{list_any}
use Rattle.std.proofs.lemmas.Bool.{and_from, eq-eqb, eqb-true}
use Rattle.std.proofs.lemmas.Bool.Decides.{eqb_tells}
use Rattle.semantic_syntax.proofs.Truth.{and_first, and_second}
use Rattle.semantic_kinds.specs.declared.kind.AstType.TheVariants as kind
use Rattle.semantic_syntax.specs.Tables.{Name}
use Rattle.semantic_tree.specs.Faults.{first_fault}
use Rattle.semantic_tree.specs.Tree.{Tree, IsNumbered}
use Rattle.semantic_tree.specs.Views.{is}
use Rattle.semantic_tree.specs.declared.node.Node.{Node}
use Rattle.semantic_model.specs.Entries.{Among}
use Rattle.semantic_model.specs.Place.{Place}
use Rattle.semantic_model.specs.Step.{entering, steps, root_place}
use Rattle.semantic_model.proofs.form.Clauses.{kind_is}
use Rattle.semantic_model.proofs.form.Shape.{has_form}
use Rattle.semantic_model.proofs.lists.Members.{among_left, among_right}
use Rattle.semantic_model.proofs.once.ListedUnder.{name_tells}
use Rattle.walk_model.proofs.once.NodeIds.{root_numbered}
use Rattle.binding_laws.proofs.EnteredOnce.{entered_once}
use Rattle.binding_laws.proofs.ListLaws.{of_flat}
use Rattle.binding_laws.proofs.SmallLaws.{never, either}
use Rattle.tangle_model.specs.Mention.{Mention, noted_by, noted_at, noted_if, mentions}
use Rattle.tangle_model.specs.Repeated.{Key, same_key, is_mention_of, key_of, keys_of, key_stands}
use Rattle.tangle_model.specs.Surroundings.{index_signature_under, around_under}
use Rattle.tangle_model.specs.Tangled.{is_in_own_index, any_mention}
use Rattle.tangle_model.specs.declared.around.Around.{Around}
use Rattle.tangle_model.specs.declared.what.What.{What}
use Rattle.tangle_model.specs.declared.what.What.TheVariants as what
use Rattle.typescript_ties.specs.NamedDeclarations.{NamedDeclaration, is_sort, named_in}
use Rattle.typescript_ties.proofs.PastParameters.{is_parameter_named, is_past_parameter}
use Rattle.typescript_ties.specs.declared.declaration_sort.DeclarationSort.TheVariants as sort
use Rattle.typescript_ties.proofs.AgreedPlaces.{any_among, any_there}
use Rattle.typescript_ties.proofs.EnumBodies.{IsAbove, above_of}
use Rattle.typescript_ties.proofs.IndexPlaces.{is_index_named, is_hidden_round, IsOfIndex, of_index}

-- an index signature whose parameter has the name stands above
abbrev pub under_index : List NamedDeclaration → Name → List Node → Bool
under_index ds x [] = false
under_index ds x (f ∷ path) = list_any (is_index_named f x) ds || under_index ds x path

-- what hides a name is a parameter behind type parameters, or an index signature above
pub hidden_cases : (ds : List NamedDeclaration) (x : Name) (child : Node) (path : List Node) → is_hidden_round ds x child path ≡ true → (is_past_parameter ds x child path ≡ true) ⊎ (under_index ds x path ≡ true)
hidden_cases ds x child [] e = absurd (never (sym e))
hidden_cases ds x child (f ∷ path) e = by (is_hidden_round ds x f path) refl (hidden_cases ds x f path)
  where
    type_hidden : Bool
    type_hidden = is kind.TSTypeParameterDeclaration child && list_any (is_parameter_named f x) ds

    first_of : (a b : Bool) → a ≡ true → (a || b) ≡ true
    first_of true b i = refl
    first_of false b i = absurd (never (sym i))

    last_of : (a b : Bool) → b ≡ true → (a || b) ≡ true
    last_of true b i = refl
    last_of false b i = i

    or_false : (a : Bool) → (a || false) ≡ true → a ≡ true
    or_false true i = refl
    or_false false i = i

    by : (t : Bool) → is_hidden_round ds x f path ≡ t → (is_hidden_round ds x f path ≡ true → (is_past_parameter ds x f path ≡ true) ⊎ (under_index ds x path ≡ true)) → (is_past_parameter ds x child (f ∷ path) ≡ true) ⊎ (under_index ds x (f ∷ path) ≡ true)
    by true i later = elim (later i) [
      | inl j ↦ inl (last_of type_hidden (is_past_parameter ds x f path) j)
      | inr j ↦ inr (last_of (list_any (is_index_named f x) ds) (under_index ds x path) j)
    ]
    by false i later = elim (either type_hidden (list_any (is_index_named f x) ds) (or_false (type_hidden || list_any (is_index_named f x) ds) (sym (ap (λ b. (type_hidden || list_any (is_index_named f x) ds) || b) i) ∙ e))) [
      | inl j ↦ inl (first_of type_hidden (is_past_parameter ds x f path) j)
      | inr j ↦ inr (first_of (list_any (is_index_named f x) ds) (under_index ds x path) j)
    ]

-- ---- keys

third_of : (z : Mention) (a b c d e : List Mention) → Among z c → Among z (a ++ b ++ c ++ d ++ e)
third_of z a b c d e i = among_left z (a ++ b ++ c ++ d) e (among_left z (a ++ b ++ c) d (among_right z (a ++ b) c i))

keyed : (w : What) (ms : List Mention) (m : Mention) (k : Key) → Among m ms → is_mention_of w m ≡ true → same_key k (key_of m) ≡ true → key_stands k (keys_of w ms) ≡ true
keyed w [] m k a e f = absurd a
keyed w (y ∷ ms) m k (inl q) e f = rw (subst (λ z. is_mention_of w z ≡ true) (sym q) e) (ap (λ b. b || list_any (same_key k) (map key_of (filter (is_mention_of w) ms))) (subst (λ z. same_key k (key_of z) ≡ true) (sym q) f))
keyed w (y ∷ ms) m k (inr a) e f = by (is_mention_of w y) (keyed w ms m k a e f)
  where
    by : (t : Bool) → key_stands k (keys_of w ms) ≡ true → list_any (same_key k) (map key_of (cond t (y ∷ filter (is_mention_of w) ms) (filter (is_mention_of w) ms))) ≡ true
    by true i = last (same_key k (key_of y)) i
      where
        last : (b : Bool) → list_any (same_key k) (map key_of (filter (is_mention_of w) ms)) ≡ true → (b || list_any (same_key k) (map key_of (filter (is_mention_of w) ms))) ≡ true
        last true j = refl
        last false j = j
    by false i = i

module _ (p : Tree) (h : first_fault p ≡ None) (numbered : IsNumbered p.root) (x : Name) where
  abbrev ns : List NamedDeclaration
  ns = named_in p

  -- the signature above, with its parameter; the outermost one is also that of the place
  record IsUnder (z : Place) : Type 0 where
    named : NamedDeclaration
    among : Among named ns
    is_x : named.name ≡ x
    index : IsOfIndex p h named
    outer : index_signature_under z.path ≡ index_signature_under (index.signature.node ∷ index.signature.path)
    found : (index_signature_under z.path == 0) ≡ false

  -- a signature isn't the root, so its number says that it is one
  not_root : (f : Place) → Among (entering f) (steps p) → f.node.kind ≡ kind.TSIndexSignature → (f.node.node_id == 0) ≡ false
  not_root f a k = elim (eqb_tells f.node.node_id 0) [
    | inr e ↦ e.0
    | inl e ↦ absurd (let z : kind.TSIndexSignature ≡ kind.Program = sym k ∙ ap (λ (w : Place). w.node.kind) (entered_once p numbered f (root_place p) a (inl refl) (e.1 ∙ sym (root_numbered p numbered).0)) ∙ (has_form p h).root in absurd cc)
  ]

  signature_found : (f : Place) → Among (entering f) (steps p) → f.node.kind ≡ kind.TSIndexSignature → (index_signature_under (f.node ∷ f.path) == 0) ≡ false
  signature_found f a k = by (index_signature_under f.path == 0) refl
    where
      is_so : is kind.TSIndexSignature f.node ≡ true
      is_so = ap (λ j. is kind.TSIndexSignature (record f.node { kind = j })) k

      by : (t : Bool) → (index_signature_under f.path == 0) ≡ t → (cond t (cond (is kind.TSIndexSignature f.node) f.node.node_id 0) (index_signature_under f.path) == 0) ≡ false
      by true e = ap (λ b. cond b f.node.node_id 0 == 0) is_so ∙ not_root f a k
      by false e = e

  under : (l : List Node) (z : Place) → Among (entering z) (steps p) → z.path ≡ l → under_index ns x l ≡ true → IsUnder z
  under [] z a e u = absurd (never (sym u))
  under (y ∷ l) z a e u = by (either (list_any (is_index_named y x) ns) (under_index ns x l) u)
      (under l (above_of p h z a y l e).place (above_of p h z a y l e).entered (above_of p h z a y l e).above)
    where
      up : IsAbove p y l
      up = above_of p h z a y l e

      here : (n : NamedDeclaration) → Among n ns → is_index_named y x n ≡ true → IsUnder z
      here n b i =
          let both : (bytes_eq n.name x && n.container.node == y.node_id) ≡ true = and_second (is_sort sort.IndexParameter n) (bytes_eq n.name x && n.container.node == y.node_id) i in
          let o : IsOfIndex p h n = of_index p h n b (and_first (is_sort sort.IndexParameter n) (bytes_eq n.name x && n.container.node == y.node_id) i) in
          let at : n.container.node ≡ y.node_id = eqb-true n.container.node y.node_id (and_second (bytes_eq n.name x) (n.container.node == y.node_id) both) in
          let same : o.signature ≡ up.place = entered_once p numbered o.signature up.place o.signature_entered up.entered (sym o.stands ∙ at ∙ ap (λ w. w.node_id) (sym up.node)) in
          let outer : index_signature_under z.path ≡ index_signature_under (o.signature.node ∷ o.signature.path) =
          ap index_signature_under e ∙ (λ i. index_signature_under (sym up.node i ∷ sym up.above i)) ∙ ap (λ (w : Place). index_signature_under (w.node ∷ w.path)) (sym same) in
          record {
            named = n;
            among = b;
            is_x = elim (name_tells n.name x) [ inl j ↦ j.1 | inr j ↦ absurd (never (sym (and_first (bytes_eq n.name x) (n.container.node == y.node_id) both) ∙ j.0)) ];
            index = o;
            outer = outer;
            found = ap (λ i. i == 0) outer ∙ signature_found o.signature o.signature_entered o.is_signature;
          }

      further : IsUnder up.place → IsUnder z
      further k =
          let same : index_signature_under z.path ≡ index_signature_under up.place.path = ap index_signature_under e ∙ (λ i. index_signature_under (sym up.node i ∷ sym up.above i)) ∙ ap (λ b. cond b (cond (is kind.TSIndexSignature up.place.node) up.place.node.node_id 0) (index_signature_under up.place.path)) k.found in
          record { named = k.named; among = k.among; is_x = k.is_x; index = k.index; outer = same ∙ k.outer; found = ap (λ i. i == 0) same ∙ k.found }

      by : (list_any (is_index_named y x) ns ≡ true) ⊎ (under_index ns x l ≡ true) → (under_index ns x l ≡ true → IsUnder up.place) → IsUnder z
      by (inl i) later = let (n, b, j) = any_among (is_index_named y x) ns i in here n b j
      by (inr i) later = further (later i)

  -- ---- what is noted

  noted : (q : Place) (m : Mention) → Among (entering q) (steps p) → Among m (noted_by q.node.kind (around_under p.source_type q.path) q.node) → Among m (mentions p)
  noted q m a b = of_flat (noted_at p.source_type) (steps p) (entering q) m a b

  -- so a reference there makes the name tangled
  pub asks_no_index : any_mention (is_in_own_index (mentions p)) (mentions p) x ≡ false → (q : Place) → Among (entering q) (steps p) → is kind.IdentifierReference q.node ≡ true → q.node.text ≡ x → under_index ns x q.path ≡ true → ⊥
  asks_no_index untangled q a refers is_x u = never (sym (any_there (λ m. is_in_own_index (mentions p) m && bytes_eq x m.name) (mentions p) asked asked_noted (and_from (is_in_own_index (mentions p) asked) (bytes_eq x asked.name) own same_name)) ∙ untangled)
    where
      k : IsUnder q
      k = under q.path q a refl u

      home : ℕ
      home = index_signature_under q.path

      asked : Mention
      asked = record { what = what.InIndexSignature; home = index_signature_under q.path; name = q.node.text }

      among_if : (b : Bool) → b ≡ true → Among asked (noted_if b what.InIndexSignature (index_signature_under q.path) q.node.text)
      among_if true e = inl refl
      among_if false e = absurd (never (sym e))

      around : Around
      around = around_under p.source_type q.path

      asked_noted : Among asked (mentions p)
      asked_noted = noted q asked a (subst (λ j. Among asked (noted_by j (around_under p.source_type q.path) q.node)) (sym (kind_is q.node.kind kind.IdentifierReference refers))
          (third_of asked (noted_if around.in_with what.InWith around.home q.node.text) (noted_if (not (around.extends == 0)) what.BesideInfer around.extends q.node.text)
          (noted_if (not (index_signature_under q.path == 0)) what.InIndexSignature (index_signature_under q.path) q.node.text) (noted_if around.in_type_parameters what.InTypeParameters around.home q.node.text)
          (noted_if around.exports_types what.ExportedType around.home q.node.text) (among_if (not (index_signature_under q.path == 0)) (ap not k.found))))

      declared : Mention
      declared = record { what = what.IndexParameter; home = index_signature_under k.index.place.path; name = k.index.place.node.text }

      declared_noted : Among declared (mentions p)
      declared_noted = noted k.index.place declared k.index.entered (subst (λ j. Among declared (noted_by j (around_under p.source_type k.index.place.path) k.index.place.node)) (sym k.index.is_name) (inl refl))

      bytes_same : (u v : Name) → u ≡ v → bytes_eq u v ≡ true
      bytes_same u v e = elim (name_tells u v) [ inl j ↦ j.0 | inr j ↦ absurd (j.1 e) ]

      same_name : bytes_eq x asked.name ≡ true
      same_name = bytes_same x q.node.text (sym is_x)

      own : is_in_own_index (mentions p) asked ≡ true
      own = keyed what.IndexParameter (mentions p) declared (key_of asked) declared_noted refl
          (and_from (bytes_eq q.node.text k.index.place.node.text) (index_signature_under q.path == index_signature_under k.index.place.path) (bytes_same q.node.text k.index.place.node.text (is_x ∙ sym k.is_x ∙ sym k.index.text)) (eq-eqb (index_signature_under q.path) (index_signature_under k.index.place.path) (k.outer ∙ ap index_signature_under (sym k.index.path))))
