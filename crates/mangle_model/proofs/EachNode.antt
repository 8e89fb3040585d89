-- The simple mangler's new names agree with its map of names at each node.
use Rattle.std.proofs.Common.{◌≡◌, ℕ, List, [], ◌∷◌, ◌++◌, Bool, true, false, not, ◌&&◌, ◌||◌, Option, Some, None, cond, if◌then◌else◌, inl, inr, ◌⊎◌, refl, sym, ap, subst, ◌∙◌, bytes_eq}
use Rattle.std.specs.List.{list_any}
use Rattle.std.specs.Map.{lookup}
use Rattle.semantic_kinds.specs.Kinds.{same_kind}
use Rattle.semantic_kinds.specs.Roles.{same_role}
use Rattle.semantic_kinds.specs.declared.kind.AstType.{AstType}
use Rattle.semantic_kinds.specs.declared.kind.AstType.TheVariants as kind
use Rattle.semantic_kinds.specs.declared.role.Role.{Role}
use Rattle.semantic_kinds.specs.declared.role.Role.TheVariants as role
use Rattle.semantic_syntax.specs.Tables.{Name, Symbol}
use Rattle.semantic_tree.specs.Faults.{first_fault}
use Rattle.semantic_tree.specs.Forest.{Forest, nothing, tree}
use Rattle.semantic_tree.specs.Place.{child_place, placed_below, root_place, all_placed}
use Rattle.semantic_tree.specs.Renamed.{is_program_name, setting_below, renamed_text}
use Rattle.semantic_tree.specs.Tree.{Tree, IsNumbered}
use Rattle.semantic_tree.specs.Views.{is}
use Rattle.semantic_tree.specs.declared.node.Node.{Node}
use Rattle.semantic_tree.specs.declared.place.Place as placed
use Rattle.semantic_tree.specs.declared.swap.Setting.{Setting}
use Rattle.semantic_tree.specs.declared.swap.Setting.TheVariants.{Elsewhere}
use Rattle.semantic_syntax.specs.Members.{contains}
use Rattle.semantic_model.specs.Analysis.{Analysis, symbol_at, tied_at, analysis_of}
use Rattle.semantic_model.specs.Entries.{Among}
use Rattle.semantic_model.specs.Exported.{exported_names}
use Rattle.semantic_model.specs.Place.{parent_holds}
use Rattle.semantic_model.specs.Step.{Step, entering, steps}
use Rattle.semantic_model.proofs.fold.Orders.{HasForm}
use Rattle.semantic_model.proofs.form.Shape.{has_form}
use Rattle.semantic_model.proofs.lists.Members.{among_left, among_right}
use Rattle.program_laws.specs.SymbolNames.{IsNamed}
use Rattle.program_laws.proofs.NodeNames.{nodes_have_names, tied_nodes_have_names}
use Rattle.program_laws.proofs.TreeNodes.{nodes_from, placed_node}
use Rattle.rename_model.specs.Renamed.{bears_name}
use Rattle.rename_model.specs.WithName.{is_identifier}
use Rattle.rename_model.proofs.Entered.{Enters, enters}
use Rattle.rename_model.proofs.NameShape.{identifier_cases}
use Rattle.rename_model.proofs.NamedNodes.{Tells, declares, is_tied, tells, symbol_named, tie_named}
use Rattle.mangle_model.specs.Assignment.{Assignment, assignment_of, first_name, name_or, has_new_name}
use Rattle.mangle_model.specs.GoodNames.{is_free_name, is_kept_name}
use Rattle.mangle_model.specs.MayMangle.{Options, fixes_symbol, is_element_name, is_parameter_property}
use Rattle.mangle_model.specs.Mangling.{may_change, all_identifiers}
use Rattle.mangle_model.specs.OneNameEach.{is_such, bears_such, fixed_below, is_fixed_name, symbol_names, name_pairs, names_by_name}
use Rattle.mangle_model.specs.OneToOne.{AgreeIn}
use Rattle.mangle_model.specs.Renamed.{new_name, given}
use Rattle.mangle_model.specs.WithNames.{is_given}
use Rattle.mangle_model.proofs.EachPair.{clash, old_in, new_in}
use Rattle.mangle_model.proofs.EachSymbol.{Changes, changes, Changing, changing, symbol_not_new, name_of_symbol, given_named, Gets, gets}
use Rattle.mangle_model.proofs.MappedNames.{Pair, IsNotNew, mapped, mapped_is, none_found}
use Rattle.mangle_model.proofs.EachPair.{pairs_apart}
use Rattle.mangle_model.proofs.NameLists.{any_among}

third : (x y z : Bool) → z ≡ true → (x || (y || z)) ≡ true
third true y z h = refl
third false true z h = refl
third false false z h = h

-- what passes none of a list is not there
none_pass : {A : Type 0} → (test : A → Bool) (xs : List A) (x : A) → list_any test xs ≡ false → Among x xs → test x ≡ true → ⊥
none_pass test [] x h a t = absurd a
none_pass test (y ∷ ys) x h a t = go (test y) refl h a (λ k b. none_pass test ys x k b t)
  where
    go : (b : Bool) → test y ≡ b → (b || list_any test ys) ≡ false → (y ≡ x) ⊎ Among x ys → (list_any test ys ≡ false → Among x ys → ⊥) → ⊥
    go true e k c more = absurd cc
    go false e k (inl f) more = clash (test x) t (sym (ap test f) ∙ e)
    go false e k (inr c) more = more k c

-- of two new names and one that each of them is, if it is there
one_of_both : (u v l : Option Name) → ((n : Name) → u ≡ Some n → l ≡ Some n) → ((n : Name) → v ≡ Some n → l ≡ Some n) → (u ≡ l) ⊎ (v ≡ l) → first_name u v ≡ l
one_of_both (Some n) v l h k c = sym (h n refl)
one_of_both None v l h k (inr e) = e
one_of_both None None l h k (inl e) = e
one_of_both None (Some n) l h k (inl e) = sym (k n refl)

not_some : (o : Option Name) → ((n : Name) → o ≡ Some n → ⊥) → o ≡ None
not_some None h = refl
not_some (Some n) h = absurd (h n refl)

identifier_named : (setting : Setting) (r : Role) (k : AstType) → is_identifier k ≡ true → is_program_name setting r k ≡ true
identifier_named setting r k e = identifier_cases (λ j. is_program_name setting r j ≡ true) refl refl k e

module _ (o : Options) (p : Tree) (faultless : first_fault p ≡ None) (numbered : IsNumbered p.root) where
  abbrev a : Analysis
  a = analysis_of p

  abbrev walk : List Step
  walk = steps p

  abbrev may : ℕ → Bool
  may = may_change o p

  abbrev pairs : List Pair
  pairs = name_pairs may a p

  abbrev names : Assignment
  names = assignment_of (names_by_name pairs a.tables.symbols)

  abbrev bears : ℕ → Bool
  bears = bears_such may a

  abbrev fixed : List Name
  fixed = fixed_below bears Elsewhere p.root.children

  form : HasForm p
  form = has_form p faultless

  -- ---- a node that bears a symbol

  -- an enum member keeps its name
  no_member : (s : ℕ) (y : Symbol) (x : Node) → Changes o p s y → Among x (nodes_from p.root) → x.kind ≡ kind.TSEnumMember → bears_name a s x.node_id ≡ true → ⊥
  no_member s y x c b k h =
      let w : Enters walk x = enters p x b in
      let named : bears_name a s w.place.node.node_id ≡ true = ap (λ (n : Node). bears_name a s n.node_id) w.node ∙ h in
      let member : is kind.TSEnumMember w.place.node ≡ true = ap (is kind.TSEnumMember) w.node ∙ ap (λ j. same_kind j kind.TSEnumMember) k in
      none_pass (fixes_symbol (exported_names walk) (bears_name a s)) walk (entering w.place) c.fixes w.among
      (λ i. named i && ((member i || (same_role w.place.role role.Binding && parent_holds (is kind.AssignmentTargetPropertyIdentifier) w.place.path)) || (contains (exported_names walk) w.place.node.node_id || (is_element_name w.place || is_parameter_property w.place.path))))

  -- the node is an identifier with the symbol's name
  record IsOfSymbol (s : ℕ) (x : Node) : Type 0 where
    is_name : is_identifier x.kind ≡ true
    named : IsNamed a.tables s x.text

  of_symbol : (s : ℕ) (y : Symbol) (here : placed.Place) (x : Node) → Among (here, x) (all_placed p.root) → Changes o p s y → bears_name a s x.node_id ≡ true → IsOfSymbol s x
  of_symbol s y here x b c h = go (tells p s x.node_id h)
    where
      owner : ((x.kind ≡ kind.BindingIdentifier) × IsNamed a.tables s x.text) ⊎ (x.kind ≡ kind.TSEnumMember) → IsOfSymbol s x
      owner (inl w) = record { is_name = ap is_identifier w.0; named = w.1 }
      owner (inr k) = absurd (no_member s y x c (placed_node p.root here x b) k h)

      go : Tells a s x.node_id → IsOfSymbol s x
      go (declares d) = owner (nodes_have_names p form numbered here x s b d)
      go (is_tied r d i j) = let w : (x.kind ≡ kind.IdentifierReference) × IsNamed a.tables s x.text = tied_nodes_have_names p form numbered here x s r b d i j in record { is_name = ap is_identifier w.0; named = w.1 }

  module _ (here : placed.Place) (x : Node) (there : Among (here, x) (all_placed p.root)) where
    -- the symbol that it declares, or to which it is tied
    abbrev IsBorne : Option ℕ → Type 0
    IsBorne at = (s : ℕ) → at ≡ Some s → bears_name a s x.node_id ≡ true

    declared_borne : IsBorne (symbol_at a x.node_id)
    declared_borne s e = symbol_named a s x.node_id e

    tied_borne : IsBorne (tied_at a x.node_id)
    tied_borne s e = tie_named a s x.node_id e

    abbrev own : Option Name
    own = lookup (bytes_eq x.text) pairs

    -- a new name is that of its text
    record IsOwn (n : Name) : Type 0 where
      is_name : is_identifier x.kind ≡ true
      is_own : own ≡ Some n

    new_is_own : (at : Option ℕ) → IsBorne at → (n : Name) → new_name names at ≡ Some n → IsOwn n
    new_is_own None h n e = absurd cc
    new_is_own (Some s) h n e =
        let g : Gets o p s n = gets o p s n e in
        let w : IsOfSymbol s x = of_symbol s g.symbol here x there (changes o p s g.symbol g.is_there g.may_be) (h s refl) in
        record { is_name = w.is_name; is_own = sym (given_named o p s x.text w.named) ∙ e }

    -- a symbol that may change gives it that name
    record IsBornBy (at : Option ℕ) : Type 0 where
      gives : new_name names at ≡ own
      not_new : IsNotNew pairs x.text

    such_gives : (at : Option ℕ) → IsBorne at → is_such may at ≡ true → IsBornBy at
    such_gives None h e = absurd cc
    such_gives (Some s) h e =
        let w : Changing o p s = changing o p s e in
        let v : IsOfSymbol s x = of_symbol s w.symbol here x there w.changes (h s refl) in record {
          gives = given_named o p s x.text v.named;
          not_new = symbol_not_new o p x.text (subst (λ t. Among t (symbol_names a.tables)) v.named.named (name_of_symbol a.tables.symbols s v.named.symbol v.named.is_there));
        }

    abbrev declared : Option Name
    declared = new_name names (symbol_at a x.node_id)

    abbrev tied : Option Name
    tied = new_name names (tied_at a x.node_id)

    declared_own : (n : Name) → declared ≡ Some n → IsOwn n
    declared_own n e = new_is_own (symbol_at a x.node_id) declared_borne n e

    tied_own : (n : Name) → tied ≡ Some n → IsOwn n
    tied_own n e = new_is_own (tied_at a x.node_id) tied_borne n e

    -- what it is given, and that no name of the program is new
    record IsSettled : Type 0 where
      given_own : given names a x.node_id ≡ own
      not_new : IsNotNew pairs x.text

    settled_by : (declared ≡ own) ⊎ (tied ≡ own) → IsNotNew pairs x.text → IsSettled
    settled_by c k = record { given_own = one_of_both declared tied own (λ n e. (declared_own n e).is_own) (λ n e. (tied_own n e).is_own) c; not_new = k }

    where_borne : bears x.node_id ≡ true → IsSettled
    where_borne h = go (is_such may (symbol_at a x.node_id)) refl h
      where
        go : (b : Bool) → is_such may (symbol_at a x.node_id) ≡ b → (b || is_such may (tied_at a x.node_id)) ≡ true → IsSettled
        go true e k = let w : IsBornBy (symbol_at a x.node_id) = such_gives (symbol_at a x.node_id) declared_borne e in settled_by (inl w.gives) w.not_new
        go false e k = let w : IsBornBy (tied_at a x.node_id) = such_gives (tied_at a x.node_id) tied_borne k in settled_by (inr w.gives) w.not_new

    where_fixed : Among x.text fixed → IsSettled
    where_fixed b =
        let stays : is_fixed_name may a p x.text ≡ true = third (is_free_name a.tables x.text) (is_kept_name may x.text 0 a.tables.symbols) (list_any (bytes_eq x.text) fixed) (any_among x.text fixed b) in
        let none : own ≡ None = none_found pairs x.text (λ d c e. clash (is_fixed_name may a p x.text) stays (subst (λ t. is_fixed_name may a p t ≡ false) e (old_in may a p d c).fixed)) in
        settled_by (inl (not_some declared (λ n e. no_own n none (declared_own n e)) ∙ sym none))
        (λ d c e. clash (is_fixed_name may a p x.text) stays (subst (λ t. is_fixed_name may a p t ≡ false) e (new_in may a p d c).fixed))
      where
        no_own : (n : Name) → own ≡ None → IsOwn n → ⊥
        no_own n none w = let e : ◌≡◌ {A = Option Name} None (Some n) = sym none ∙ w.is_own in cc

    agrees : (setting : Setting) (r : Role) → ((is_program_name setting r x.kind && not (bears x.node_id)) ≡ true → Among x.text fixed) → name_or (given names a x.node_id) x.text ≡ renamed_text (mapped pairs) setting r x.kind x.text
    agrees setting r h = go (is_program_name setting r x.kind) refl (bears x.node_id) refl h
      where
        by : IsSettled → name_or (given names a x.node_id) x.text ≡ mapped pairs x.text
        by w = ap (λ n. name_or n x.text) w.given_own ∙ sym (mapped_is pairs (pairs_apart may a p) x.text w.not_new)

        no_name : is_program_name setting r x.kind ≡ false → (n : Name) → IsOwn n → ⊥
        no_name e n w = clash (is_program_name setting r x.kind) (identifier_named setting r x.kind w.is_name) e

        go : (b : Bool) → is_program_name setting r x.kind ≡ b → (c : Bool) → bears x.node_id ≡ c → ((b && not c) ≡ true → Among x.text fixed) → name_or (given names a x.node_id) x.text ≡ (if b then mapped pairs x.text else x.text)
        go true e true f k = by (where_borne f)
        go true e false f k = by (where_fixed (k refl))
        go false e c f k =
            (λ i. name_or (first_name (not_some declared (λ n m. no_name e n (declared_own n m)) i) (not_some tied (λ n m. no_name e n (tied_own n m)) i)) x.text)

    given_name : (n : Name) → given names a x.node_id ≡ Some n → is_identifier x.kind ≡ true
    given_name n e = go declared refl e
      where
        go : (u : Option Name) → declared ≡ u → first_name u tied ≡ Some n → is_identifier x.kind ≡ true
        go None f h = (tied_own n h).is_name
        go (Some m) f h = (declared_own m f).is_name

    named_there : (not (is_given (given names a) x.node_id) || is_identifier x.kind) ≡ true
    named_there = go (given names a x.node_id) refl
      where
        go : (u : Option Name) → given names a x.node_id ≡ u → (not (has_new_name u) || is_identifier x.kind) ≡ true
        go None e = refl
        go (Some n) e = given_name n e

  -- ---- all nodes

  abbrev Inside : placed.Place → AstType → Forest → Type 0
  Inside place k f = (here : placed.Place) (x : Node) → Among (here, x) (placed_below place k f) → Among (here, x) (all_placed p.root)

  inside_below : (place : placed.Place) (k : AstType) (r : Role) (node : Node) (after : Forest) → Inside place k (tree r node.kind node.span node.text node.marks node.children node.node_id after) → Inside (child_place place k r) node.kind node.children
  inside_below place k r node after h here x b = h here x (inr (among_left (here, x) (placed_below (child_place place k r) node.kind node.children) (placed_below place k after) b))

  inside_after : (place : placed.Place) (k : AstType) (r : Role) (node : Node) (after : Forest) → Inside place k (tree r node.kind node.span node.text node.marks node.children node.node_id after) → Inside place k after
  inside_after place k r node after h here x b = h here x (inr (among_right (here, x) (placed_below (child_place place k r) node.kind node.children) (placed_below place k after) b))

  abbrev Fixed : Setting → Forest → Type 0
  Fixed setting f = (name : Name) → Among name (fixed_below bears setting f) → Among name fixed

  agree_in : (setting : Setting) (place : placed.Place) (k : AstType) (f : Forest) → Inside place k f → Fixed setting f → AgreeIn (mapped pairs) (given names a) setting f
  agree_in setting place k nothing h g = tt
  agree_in setting place k (tree r k2 span text marks below id after) h g =
      let x : Node = record { kind = k2; span = span; text = text; marks = marks; children = below; node_id = id } in
      let here : placed.Place = child_place place k r in
      let own : List Name = cond (is_program_name setting r k2 && not (bears id)) (text ∷ []) [] in
      let inner : List Name = fixed_below bears (setting_below setting r k2) below in
      let others : List Name = fixed_below bears setting after in (
        agrees here x (h here x (inl refl)) setting r (λ e. g text (among_left text own (inner ++ others) (subst (λ b. Among text (cond b (text ∷ []) [])) (sym e) (inl refl)))),
        agree_in (setting_below setting r k2) here k2 below (inside_below place k r x after h) (λ name b. g name (among_right name own (inner ++ others) (among_left name inner others b))),
        agree_in setting place k after (inside_after place k r x after h) (λ name b. g name (among_right name own (inner ++ others) (among_right name inner others b))),
      )

  pub texts_agree : AgreeIn (mapped pairs) (given names a) Elsewhere p.root.children
  texts_agree = agree_in Elsewhere root_place p.root.kind p.root.children (λ here x b. inr b) (λ name b. b)

  named_in : (place : placed.Place) (k : AstType) (f : Forest) → Inside place k f → all_identifiers (is_given (given names a)) f ≡ true
  named_in place k nothing h = refl
  named_in place k (tree r k2 span text marks below id after) h =
      let x : Node = record { kind = k2; span = span; text = text; marks = marks; children = below; node_id = id } in
      let here : placed.Place = child_place place k r in
      λ i. named_there here x (h here x (inl refl)) i && (named_in here k2 below (inside_below place k r x after h) i && named_in place k after (inside_after place k r x after h) i)

  pub all_named : all_identifiers (is_given (given names a)) p.root.children ≡ true
  all_named = named_in root_place p.root.kind p.root.children (λ here x b. inr b)
