-- Where a name belongs to one symbol alone and another is used nowhere, the nodes stand alone.
use Rattle.std.proofs.Common.{◌≡◌, ℕ, List, [], ◌∷◌, ◌++◌, Bool, true, false, ◌&&◌, ◌||◌, cond, Some, None, ◌⊎◌, inl, inr, if◌then◌else◌, refl, sym, ap, subst, ◌∙◌, map, flat_map, bytes_eq}
use Rattle.std.specs.Prelude.{filter, slice_get}
use Rattle.std.proofs.lemmas.Option.{slice_get_within}
use Rattle.semantic_kinds.specs.Kinds.{same_kind}
use Rattle.semantic_kinds.specs.Roles.{same_role}
use Rattle.semantic_kinds.specs.Classes.{holds_kind}
use Rattle.semantic_kinds.specs.Texts.{may_have_text}
use Rattle.semantic_kinds.specs.declared.kind.AstType.{AstType}
use Rattle.semantic_kinds.specs.declared.kind.AstType.TheVariants as kind
use Rattle.semantic_kinds.specs.declared.role.Role.{Role}
use Rattle.semantic_kinds.specs.declared.role.Role.TheVariants as role
use Rattle.semantic_syntax.specs.Tables.{Name, Symbol}
use Rattle.semantic_tree.specs.Faults.{first_fault}
use Rattle.semantic_tree.specs.Forest.{Forest, nothing, tree}
use Rattle.semantic_tree.specs.Place.{child_place, placed_below, root_place, all_placed}
use Rattle.semantic_tree.specs.Renamed.{names_member, is_program_name, setting_inside, setting_below}
use Rattle.semantic_tree.specs.Shaped.{IsWellFormed, OfEach}
use Rattle.semantic_tree.specs.Tree.{Tree, IsNumbered}
use Rattle.semantic_tree.specs.declared.node.Node.{Node}
use Rattle.semantic_tree.specs.declared.place.Place as placed
use Rattle.semantic_tree.specs.declared.swap.Setting.{Setting}
use Rattle.semantic_tree.specs.declared.swap.Setting.TheVariants.{InMember, InMemberName, Elsewhere}
use Rattle.semantic_tree.proofs.ShapedLaws.{no_fault-IsShaped}
use Rattle.semantic_model.specs.Binder.{member_names}
use Rattle.semantic_syntax.specs.Members.{contains}
use Rattle.semantic_syntax.proofs.Truth.{and_first, and_second}
use Rattle.semantic_model.specs.Entries.{Among}
use Rattle.semantic_model.specs.Event.{events}
use Rattle.semantic_model.specs.Fold.{State, Made, start}
use Rattle.semantic_model.specs.Hoist.{run}
use Rattle.semantic_model.specs.NodeTable.{belonging}
use Rattle.semantic_tree.specs.Views.{is, children_of}
use Rattle.semantic_model.specs.Place.{parent_holds}
use Rattle.semantic_model.specs.Step.{entering, steps}
use Rattle.semantic_model.specs.TablesOf.{tables_of}
use Rattle.semantic_model.proofs.fold.Changes.{HasName}
use Rattle.semantic_model.proofs.form.Clauses.{kind_is}
use Rattle.semantic_model.proofs.fits.NothingInvented.{made_declared, belongs_made}
use Rattle.semantic_model.proofs.lists.Members.{among_left, among_right}
use Rattle.semantic_model.proofs.fold.Orders.{HasForm, sound_program}
use Rattle.semantic_model.proofs.form.Shape.{has_form}
use Rattle.semantic_model.proofs.once.ListedUnder.{name_tells}
use Rattle.program_laws.specs.SymbolNames.{IsNamed}
use Rattle.rename_model.specs.WithName.{is_identifier, AreIdentifiers}
use Rattle.program_laws.proofs.DeclaredNodes.{IsOf, of_name, of_member, declaration_of}
use Rattle.rename_model.proofs.NameShape.{identifier_cases}
use Rattle.program_laws.proofs.NodeNames.{nodes_have_names, tied_nodes_have_names}
use Rattle.program_laws.proofs.TreeNodes.{nodes_from, placed_node}
use Rattle.semantic_model.specs.Analysis.{analysis_of}
use Rattle.semantic_model.specs.Exported.{exported_names}
use Rattle.rename_model.specs.Alone.{node_names, BelongsTo, IsUnused}
use Rattle.rename_model.specs.Refusal.{fixes_name, first_fixed}
use Rattle.rename_model.specs.Renamed.{bears_name}
use Rattle.rename_model.proofs.Entered.{Enters, enters, place_of}
use Rattle.rename_model.proofs.NamedNodes.{some_is, Tells, declares, is_tied, tells, owner_named, symbol_named, tie_named}
use Rattle.rename_model.proofs.Refusals.{none_fixes}
use Rattle.rename_model.proofs.Swaps.{Bears, AloneIn}

differ : false ≡ true → ⊥
differ e = absurd cc

-- what holds of each holds of one
one_of : (P : placed.Place → Node → Type 0) (xs : List (placed.Place × Node)) → OfEach P xs → (here : placed.Place) (x : Node) → Among (here, x) xs → P here x
one_of P [] h here x a = absurd a
one_of P (y ∷ ys) h here x (inl e) = subst (λ (q : placed.Place × Node). P q.0 q.1) e h.0
one_of P (y ∷ ys) h here x (inr a) = one_of P ys h.1 here x a

reads_as : (t u : Name) → bytes_eq t u ≡ true → t ≡ u
reads_as t u h = elim (name_tells t u) [ inl k ↦ k.1 | inr k ↦ absurd (differ (sym k.0 ∙ h)) ]

reads_same : (t u : Name) → t ≡ u → bytes_eq t u ≡ true
reads_same t u h = elim (name_tells t u) [ inl k ↦ k.0 | inr k ↦ absurd (k.1 h) ]

reads_other : (t u : Name) → (t ≡ u → ⊥) → bytes_eq t u ≡ false
reads_other t u h = elim (name_tells t u) [ inl k ↦ absurd (h k.1) | inr k ↦ k.0 ]

-- the name of a binding identifier is not empty
no_empty_name : may_have_text kind.BindingIdentifier [] ≡ true → ⊥
no_empty_name h = absurd cc

module _ (p : Tree) (faultless : first_fault p ≡ None) (numbered : IsNumbered p.root) (s : ℕ) (y : Symbol) (there : slice_get (tables_of p).symbols s ≡ Some y) (free : first_fixed (exported_names (steps p)) (bears_name (analysis_of p) s) (steps p) ≡ None) where
  abbrev chosen : ℕ → Bool
  chosen = bears_name (analysis_of p) s

  form : HasForm p
  form = has_form p faultless

  -- an enum member would fix its name
  no_member : (x : Node) → Among x (nodes_from p.root) → x.kind ≡ kind.TSEnumMember → chosen x.node_id ≡ true → ⊥
  no_member x a k c =
      let w : Enters (steps p) x = enters p x a in
      let none : fixes_name (exported_names (steps p)) chosen (entering w.place) ≡ false = none_fixes (exported_names (steps p)) chosen (steps p) free (entering w.place) w.among in
      let named : chosen w.place.node.node_id ≡ true = ap (λ (n : Node). chosen n.node_id) w.node ∙ c in
      let member : is kind.TSEnumMember w.place.node ≡ true = ap (is kind.TSEnumMember) w.node ∙ ap (λ j. same_kind j kind.TSEnumMember) k in
      differ (sym none ∙ (λ i. named i && ((member i || (same_role w.place.role role.Binding && parent_holds (is kind.AssignmentTargetPropertyIdentifier) w.place.path)) || contains (exported_names (steps p)) w.place.node.node_id)))

  -- the name of the symbol
  its_name : (x : Name) → IsNamed (tables_of p) s x → x ≡ y.name
  its_name x w = sym w.named ∙ ap (λ (z : Symbol). z.name) (some_is w.symbol y (sym w.is_there ∙ there))

  -- a chosen node is an identifier with the symbol's name
  pub is_of_symbol : (here : placed.Place) (x : Node) → Among (here, x) (all_placed p.root) → chosen x.node_id ≡ true → (is_identifier x.kind ≡ true) × (x.text ≡ y.name)
  is_of_symbol here x a c = go (tells p s x.node_id c)
    where
      owner : ((x.kind ≡ kind.BindingIdentifier) × IsNamed (tables_of p) s x.text) ⊎ (x.kind ≡ kind.TSEnumMember) → (is_identifier x.kind ≡ true) × (x.text ≡ y.name)
      owner (inl w) = (ap is_identifier w.0, its_name x.text w.1)
      owner (inr k) = absurd (no_member x (placed_node p.root here x a) k c)

      go : Tells (analysis_of p) s x.node_id → (is_identifier x.kind ≡ true) × (x.text ≡ y.name)
      go (declares b) = owner (nodes_have_names p form numbered here x s a b)
      go (is_tied r b i j) = let w : (x.kind ≡ kind.IdentifierReference) × IsNamed (tables_of p) s x.text = tied_nodes_have_names p form numbered here x s r a b i j in (ap is_identifier w.0, its_name x.text w.1)

  abbrev Inside : placed.Place → AstType → Forest → Type 0
  Inside place k f = (here : placed.Place) (x : Node) → Among (here, x) (placed_below place k f) → Among (here, x) (all_placed p.root)

  inside_below : (place : placed.Place) (k : AstType) (r : Role) (node : Node) (after : Forest) → Inside place k (tree r node.kind node.span node.text node.marks node.children node.node_id after) → Inside (child_place place k r) node.kind node.children
  inside_below place k r node after h here x a = h here x (inr (among_left (here, x) (placed_below (child_place place k r) node.kind node.children) (placed_below place k after) a))

  inside_after : (place : placed.Place) (k : AstType) (r : Role) (node : Node) (after : Forest) → Inside place k (tree r node.kind node.span node.text node.marks node.children node.node_id after) → Inside place k after
  inside_after place k r node after h here x a = h here x (inr (among_right (here, x) (placed_below (child_place place k r) node.kind node.children) (placed_below place k after) a))

  identifiers_in : (place : placed.Place) (k : AstType) (f : Forest) → Inside place k f → AreIdentifiers chosen f
  identifiers_in place k nothing h = tt
  identifiers_in place k (tree r k2 span text marks below id after) h =
      let node : Node = record { kind = k2; span = span; text = text; marks = marks; children = below; node_id = id } in (
        λ c. (is_of_symbol (child_place place k r) node (h (child_place place k r) node (inl refl)) c).0,
        identifiers_in (child_place place k r) k2 below (inside_below place k r node after h),
        identifiers_in place k after (inside_after place k r node after h),
      )

  pub are_identifiers : AreIdentifiers chosen p.root.children
  are_identifiers = identifiers_in root_place p.root.kind p.root.children (λ here x a. inr a)

  -- the symbol's name is not empty
  pub some_name : y.name ≡ [] → ⊥
  some_name e =
      let final : State = run start (events (steps p)) in
      let (m, a, i) = (sound_program p form).has_declaration s (slice_get_within final.symbols s y there) in
      let n : HasName final.symbols m.symbol m.declaration.naming.name = (sound_program p form).has_name m a in
      let named : m.declaration.naming.name ≡ y.name = its_name m.declaration.naming.name (record { symbol = n.symbol; is_there = subst (λ t. slice_get final.symbols t ≡ Some n.symbol) i n.is_there; named = n.named }) in
      elim (made_declared m start (events (steps p)) a) [
        | inl never ↦ absurd never
        | inr d ↦ by m a i (named ∙ e) (declaration_of p m.declaration d)
      ]
    where
      by : (m : Made) → Among m (run start (events (steps p))).made → m.symbol ≡ s → m.declaration.naming.name ≡ [] → IsOf (nodes_from p.root) m.declaration → ⊥
      by m a i e (of_name x w j t) =
          let (here, b) = place_of p.root x w.among in
          let text : may_have_text x.kind x.text ≡ true = (one_of IsWellFormed (all_placed p.root) (no_fault-IsShaped p faultless).forms here x b).text in
          no_empty_name (sym (λ k. may_have_text (w.binds k) ((sym t ∙ e) k)) ∙ text)
      by m a i e (of_member x w k j) =
          let owns : Among (belonging m) (map belonging (run start (events (steps p))).made) = belongs_made m (run start (events (steps p))).made a in
          no_member x w k (owner_named p faultless numbered s x.node_id (subst (λ b. Among b (map belonging (run start (events (steps p))).made)) (λ t. record { node = j t; number = i t }) owns))

  module _ (new : Name) (alone : BelongsTo p s y.name) (unused : IsUnused p new) where
    -- a name of a member that is neither
    record IsApart (t : Name) : Type 0 where
      not_old : t ≡ y.name → ⊥
      not_new : t ≡ new → ⊥

    belongs : (here : placed.Place) (x : Node) → Among (here, x) (all_placed p.root) → Among y.name (node_names x) → chosen x.node_id ≡ true
    belongs here x a b = elim (alone here x a b) [ inl e ↦ symbol_named (analysis_of p) s x.node_id e | inr e ↦ tie_named (analysis_of p) s x.node_id e ]

    abbrev texts : List Node → List Name
    texts ns = map (λ x. x.text) ns

    -- what may be named under a member is apart
    abbrev Under : Setting → Forest → Type 0
    Under InMember f = (t : Name) → Among t (texts (flat_map member_names (children_of role.Id f))) → IsApart t
    Under InMemberName f = (t : Name) → Among t (texts (filter (is kind.TemplateElement) (children_of role.Quasis f))) → IsApart t
    Under Elsewhere f = Unit {0}

    texts_right : (xs ys : List Node) (t : Name) → Among t (texts ys) → Among t (texts (xs ++ ys))
    texts_right [] ys t a = a
    texts_right (x ∷ xs) ys t a = inr (texts_right xs ys t a)

    texts_left : (xs ys : List Node) (t : Name) → Among t (texts xs) → Among t (texts (xs ++ ys))
    texts_left [] ys t a = absurd a
    texts_left (x ∷ xs) ys t (inl e) = inl e
    texts_left (x ∷ xs) ys t (inr a) = inr (texts_left xs ys t a)

    under_after : (setting : Setting) (r : Role) (node : Node) (after : Forest) → Under setting (tree r node.kind node.span node.text node.marks node.children node.node_id after) → Under setting after
    under_after InMember r node after h = λ t a. h t (go (same_role r role.Id) t a)
      where
        go : (b : Bool) (t : Name) → Among t (texts (flat_map member_names (children_of role.Id after))) → Among t (texts (flat_map member_names (if b then node ∷ children_of role.Id after else children_of role.Id after)))
        go true t a = texts_right (member_names node) (flat_map member_names (children_of role.Id after)) t a
        go false t a = a
    under_after InMemberName r node after h = λ t a. h t (go (same_role r role.Quasis) (is kind.TemplateElement node) t a)
      where
        go : (b c : Bool) (t : Name) → Among t (texts (filter (is kind.TemplateElement) (children_of role.Quasis after))) → Among t (texts (filter (is kind.TemplateElement) (if b then node ∷ children_of role.Quasis after else children_of role.Quasis after)))
        go true c t a = one (is kind.TemplateElement node) a
          where
            one : (d : Bool) → Among t (texts (filter (is kind.TemplateElement) (children_of role.Quasis after))) → Among t (texts (cond d (node ∷ filter (is kind.TemplateElement) (children_of role.Quasis after)) (filter (is kind.TemplateElement) (children_of role.Quasis after))))
            one true b = inr b
            one false b = b
        go false c t a = a
    under_after Elsewhere r node after h = tt

    -- a word or a text names a member
    word_named : (node : Node) → (same_kind node.kind kind.IdentifierName || same_kind node.kind kind.StringLiteral) ≡ true → Among node.text (texts (member_names node))
    word_named node h = go (same_kind node.kind kind.IdentifierName) refl h
      where
        by : holds_kind (kind.IdentifierName ∷ kind.StringLiteral ∷ []) node.kind ≡ true → Among node.text (texts (member_names node))
        by e = subst (λ b. Among node.text (texts (cond b (node ∷ []) (cond (is kind.TemplateLiteral node) (filter (is kind.TemplateElement) (children_of role.Quasis node.children)) [])))) (sym e) (inl refl)

        go : (b : Bool) → same_kind node.kind kind.IdentifierName ≡ b → (b || same_kind node.kind kind.StringLiteral) ≡ true → Among node.text (texts (member_names node))
        go true e k = by (ap (holds_kind (kind.IdentifierName ∷ kind.StringLiteral ∷ [])) (kind_is node.kind kind.IdentifierName e))
        go false e k = by (ap (holds_kind (kind.IdentifierName ∷ kind.StringLiteral ∷ [])) (kind_is node.kind kind.StringLiteral k))

    member_apart : (setting : Setting) (r : Role) (node : Node) (after : Forest) → names_member setting r node.kind ≡ true → Under setting (tree r node.kind node.span node.text node.marks node.children node.node_id after) → IsApart node.text
    member_apart InMember r node after e h =
        h node.text (subst (λ b. Among node.text (texts (flat_map member_names (if b then node ∷ children_of role.Id after else children_of role.Id after)))) (sym (and_first (same_role r role.Id) (same_kind node.kind kind.IdentifierName || same_kind node.kind kind.StringLiteral) e))
        (texts_left (member_names node) (flat_map member_names (children_of role.Id after)) node.text (word_named node (and_second (same_role r role.Id) (same_kind node.kind kind.IdentifierName || same_kind node.kind kind.StringLiteral) e))))
    member_apart InMemberName r node after e h =
        h node.text (subst (λ b. Among node.text (texts (filter (is kind.TemplateElement) (if b then node ∷ children_of role.Quasis after else children_of role.Quasis after)))) (sym (and_first (same_role r role.Quasis) (same_kind node.kind kind.TemplateElement) e))
        (subst (λ b. Among node.text (texts (cond b (node ∷ filter (is kind.TemplateElement) (children_of role.Quasis after)) (filter (is kind.TemplateElement) (children_of role.Quasis after))))) (sym (and_second (same_role r role.Quasis) (same_kind node.kind kind.TemplateElement) e)) (inl refl)))
    member_apart Elsewhere r node after e h = absurd (differ e)

    -- the names of an enum member are apart
    names_apart : (here : placed.Place) (x : Node) → Among (here, x) (all_placed p.root) → x.kind ≡ kind.TSEnumMember → Under InMember x.children
    names_apart here x a k t b =
        let named : Among t (node_names x) = subst (λ j. Among t (cond (is_identifier j) (x.text ∷ []) (cond (same_kind j kind.TSEnumMember) (texts (flat_map member_names (children_of role.Id x.children))) []))) (sym k) b in
        record {
          not_old = λ e. no_member x (placed_node p.root here x a) k (belongs here x a (subst (λ u. Among u (node_names x)) e named));
          not_new = λ e. unused here x a (subst (λ u. Among u (node_names x)) e named);
        }

    -- a template that names a member
    under_template : (r : Role) (node : Node) (after : Forest) → (same_role r role.Id && same_kind node.kind kind.TemplateLiteral) ≡ true → Under InMember (tree r node.kind node.span node.text node.marks node.children node.node_id after) → Under InMemberName node.children
    under_template r node after e h t a =
        let k : node.kind ≡ kind.TemplateLiteral = kind_is node.kind kind.TemplateLiteral (and_second (same_role r role.Id) (same_kind node.kind kind.TemplateLiteral) e) in
        let named : Among t (texts (member_names node)) = subst (λ j. Among t (texts (cond (holds_kind (kind.IdentifierName ∷ kind.StringLiteral ∷ []) j) (node ∷ []) (cond (same_kind j kind.TemplateLiteral) (filter (is kind.TemplateElement) (children_of role.Quasis node.children)) [])))) (sym k) a in
        h t (subst (λ b. Among t (texts (flat_map member_names (if b then node ∷ children_of role.Id after else children_of role.Id after)))) (sym (and_first (same_role r role.Id) (same_kind node.kind kind.TemplateLiteral) e))
        (texts_left (member_names node) (flat_map member_names (children_of role.Id after)) t named))

    under_inside : (setting : Setting) (r : Role) (node : Node) (after : Forest) → Under setting (tree r node.kind node.span node.text node.marks node.children node.node_id after) → Under (setting_inside setting r node.kind) node.children
    under_inside InMember r node after h = go (same_role r role.Id && same_kind node.kind kind.TemplateLiteral) refl
      where
        go : (b : Bool) → (same_role r role.Id && same_kind node.kind kind.TemplateLiteral) ≡ b → Under (if b then InMemberName else Elsewhere) node.children
        go true e = under_template r node after e h
        go false e = tt
    under_inside InMemberName r node after h = tt
    under_inside Elsewhere r node after h = tt

    under_below : (setting : Setting) (here : placed.Place) (r : Role) (node : Node) (after : Forest) → Among (here, node) (all_placed p.root) → Under setting (tree r node.kind node.span node.text node.marks node.children node.node_id after) → Under (setting_below setting r node.kind) node.children
    under_below setting here r node after a h = go (same_kind node.kind kind.TSEnumMember) refl
      where
        go : (b : Bool) → same_kind node.kind kind.TSEnumMember ≡ b → Under (if b then InMember else setting_inside setting r node.kind) node.children
        go true e = names_apart here node a (kind_is node.kind kind.TSEnumMember e)
        go false e = under_inside setting r node after h

    -- an identifier has its text as its name
    own_name : (x : Node) → is_identifier x.kind ≡ true → Among x.text (node_names x)
    own_name x e = subst (λ b. Among x.text (cond b (x.text ∷ []) (cond (is kind.TSEnumMember x) (texts (flat_map member_names (children_of role.Id x.children))) []))) (sym e) (inl refl)

    identifier_named : (setting : Setting) (r : Role) (k : AstType) → is_identifier k ≡ true → is_program_name setting r k ≡ true
    identifier_named setting r k e = identifier_cases (λ j. is_program_name setting r j ≡ true) refl refl k e

    -- an identifier, or what names a member
    named_cases : (setting : Setting) (r : Role) (k : AstType) → is_program_name setting r k ≡ true → (is_identifier k ≡ true) ⊎ (names_member setting r k ≡ true)
    named_cases setting r k h = go (same_kind k kind.BindingIdentifier) refl (same_kind k kind.IdentifierReference) refl h
      where
        go : (a : Bool) → same_kind k kind.BindingIdentifier ≡ a → (b : Bool) → same_kind k kind.IdentifierReference ≡ b → (a || b || names_member setting r k) ≡ true → (is_identifier k ≡ true) ⊎ (names_member setting r k ≡ true)
        go true e b f i = inl (ap is_identifier (kind_is k kind.BindingIdentifier e))
        go false e true f i = inl (ap is_identifier (kind_is k kind.IdentifierReference f))
        go false e false f i = inr i

    bears : (setting : Setting) (here : placed.Place) (r : Role) (x : Node) (after : Forest) → Among (here, x) (all_placed p.root) → Under setting (tree r x.kind x.span x.text x.marks x.children x.node_id after) → Bears chosen y.name new setting r x.kind x.text x.node_id
    bears setting here r x after a h = record {
      named = λ c. identifier_named setting r x.kind (is_of_symbol here x a c).0;
      has_old = λ c. reads_same x.text y.name (is_of_symbol here x a c).1;
      only = λ e f. elim (named_cases setting r x.kind e) [
        | inl i ↦ belongs here x a (subst (λ t. Among t (node_names x)) (reads_as x.text y.name f) (own_name x i))
        | inr m ↦ absurd ((member_apart setting r x after m h).not_old (reads_as x.text y.name f))
      ];
      not_new = λ e. elim (named_cases setting r x.kind e) [
        | inl i ↦ reads_other x.text new (λ f. unused here x a (subst (λ t. Among t (node_names x)) f (own_name x i)))
        | inr m ↦ reads_other x.text new (member_apart setting r x after m h).not_new
      ];
    }

    alone_below : (setting : Setting) (place : placed.Place) (k : AstType) (f : Forest) → Inside place k f → Under setting f → AloneIn chosen y.name new setting f
    alone_below setting place k nothing h w = tt
    alone_below setting place k (tree r k2 span text marks below id after) h w =
        let x : Node = record { kind = k2; span = span; text = text; marks = marks; children = below; node_id = id } in
        let here : placed.Place = child_place place k r in
        let a : Among (here, x) (all_placed p.root) = h here x (inl refl) in (
          bears setting here r x after a w,
          alone_below (setting_below setting r k2) here k2 below (inside_below place k r x after h) (under_below setting here r x after a w),
          alone_below setting place k after (inside_after place k r x after h) (under_after setting r x after w),
        )

    pub stands_alone : AloneIn chosen y.name new Elsewhere p.root.children
    stands_alone = alone_below Elsewhere root_place p.root.kind p.root.children (λ here x a. inr a) tt
