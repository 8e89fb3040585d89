-- What rules see at a place of a program is what they see at that place of the program with other names, with other names.
use Rattle.std.proofs.Common.{◌≡◌, ℕ, List, [], ◌∷◌, Bool, true, false, ◌&&◌, ◌||◌, ◌==◌, cond, not, inl, inr, refl, ap, ◌∙◌, map}
use Rattle.std.specs.List.{list_all}
use Rattle.std.proofs.lemmas.Bool.{and_from}
use Rattle.semantic_syntax.proofs.Truth.{and_first}
use Rattle.semantic_syntax.specs.Tables.{Name, Bindings}
use Rattle.semantic_kinds.specs.Kinds.{same_kind}
use Rattle.semantic_kinds.specs.declared.kind.AstType.TheVariants as kind
use Rattle.semantic_kinds.specs.declared.mark.Mark.TheVariants as mark
use Rattle.semantic_kinds.specs.declared.role.Role.TheVariants as role
use Rattle.semantic_tree.specs.Forest.{Forest}
use Rattle.semantic_tree.specs.Views.{is, all_in}
use Rattle.semantic_tree.specs.declared.node.Node.{Node}
use Rattle.semantic_model.specs.Ambient.{ambient_inside}
use Rattle.semantic_model.specs.Binding.{Binding, bound_by}
use Rattle.semantic_model.specs.Fold.{State, Made}
use Rattle.semantic_model.specs.Place.{Place, OpenScope}
use Rattle.semantic_model.specs.ScopeKind.{opened_scope}
use Rattle.semantic_model.specs.Swap.{renamed_symbol}
use Rattle.semantic_model.proofs.swapped.AlikeFold.{renamed_made, renamed_bindings, renamed_state}
use Rattle.semantic_model.proofs.swapped.AlikeScopes.{re, opened_same}
use Rattle.semantic_model.proofs.swapped.AlikeSteps.{SamePlace}
use Rattle.check_model.specs.Classes.{members}
use Rattle.check_model.specs.SightOf.{seen_scope, or_own, scopes_at, symbol_pair, list_if, sight_of}
use Rattle.swapped_checks.specs.RuleWords.{KeepsRuleWords}
use Rattle.swapped_checks.specs.SwappedPrograms.{holds_below}
use Rattle.program_laws.proofs.ScopeMarks.{remarked_place}
use Rattle.program_laws.proofs.ScopeMarks as unmarked
use Rattle.swapped_checks.specs.SwappedSight.{HasPlainParts, has_plain_labels, has_plain_pieces}
use Rattle.swapped_checks.proofs.Changed.{Change, IsChanged, IsChangedSight}
use Rattle.swapped_checks.proofs.PlainForm.{has_own_pieces}
use Rattle.swapped_checks.proofs.Pairwise.{Each, flat_each}
use Rattle.swapped_checks.proofs.RenamedNodes.{same_kinds, either_text}
use Rattle.swapped_checks.proofs.SeenClasses.{own_plain, inner_each, classes_same, uses_seen, elements_seen}
use Rattle.swapped_checks.proofs.Spots.{Within, Spot}

-- what a test tells of a node
pub record Tells (f : Name → Name) (test : Node → Bool) : Type 0 where
  pub labels : (n : Node) → test n ≡ true → has_plain_labels n ≡ true
  pub pieces : (n : Node) → test n ≡ true → has_own_pieces n ≡ true
  pub strings : (n : Node) → test n ≡ true → is kind.StringLiteral n ≡ true → f n.text ≡ n.text

module _ (f : Change) (words : KeepsRuleWords f.names) (test : Node → Bool) (tells : Tells f.names test) where
  abbrev W : Node → Node → Type 0
  W = Within f test

  changed_each : (xs ys : List Node) → Each W xs ys → Each (IsChanged f) xs ys
  changed_each [] [] e = tt
  changed_each [] (y ∷ ys) e = absurd e
  changed_each (x ∷ xs) [] e = absurd e
  changed_each (x ∷ xs) (y ∷ ys) e = (e.0.0, changed_each xs ys e.1)

  -- what the test tells of each
  each_labels : (xs ys : List Node) → Each W xs ys → list_all has_plain_labels xs ≡ true
  each_labels [] [] e = refl
  each_labels [] (y ∷ ys) e = absurd e
  each_labels (x ∷ xs) [] e = absurd e
  each_labels (x ∷ xs) (y ∷ ys) e = and_from (has_plain_labels x) (list_all has_plain_labels xs) (tells.labels x (and_first (test x) (holds_below test x.children) e.0.1)) (each_labels xs ys e.1)

  each_pieces : (xs ys : List Node) → Each W xs ys → list_all has_plain_pieces xs ≡ true
  each_pieces [] [] e = refl
  each_pieces [] (y ∷ ys) e = absurd e
  each_pieces (x ∷ xs) [] e = absurd e
  each_pieces (x ∷ xs) (y ∷ ys) e = and_from (has_plain_pieces x) (list_all has_plain_pieces xs) (own_plain f words test tells.pieces x e.0.1) (each_pieces xs ys e.1)

  members_within : (a b : Node) → W a b → Each W (members a) (members b)
  members_within a b w = flat_each W (all_in role.Body) (all_in role.Body) (λ x y e. inner_each f words test tells.pieces role.Body x y e) (all_in role.Body a) (all_in role.Body b) (inner_each f words test tells.pieces role.Body a b w)

  -- ---- scopes and declarations

  scopes_by : (p : Place) (u : Name) (g : Forest) (path : List Node) → opened_scope (re p u g path) 0 ≡ opened_scope p 0 → (c : List OpenScope) → map seen_scope (or_own (re p u g path) c) ≡ map seen_scope (or_own p c)
  scopes_by p u g path e [] = λ i. seen_scope (e i) ∷ []
  scopes_by p u g path e (one ∷ more) = refl

  unmarked_scopes : (p : Place) (c : List OpenScope) → map seen_scope (or_own (remarked_place f.marks p) c) ≡ map seen_scope (or_own p c)
  unmarked_scopes p [] = λ i. seen_scope (unmarked.opened_same f.marks p 0 i) ∷ []
  unmarked_scopes p (one ∷ more) = refl

  scopes_seen : (p q : Place) → SamePlace f.names (remarked_place f.marks p) q → scopes_at q ≡ scopes_at p
  scopes_seen p q s =
      ap scopes_at s.is
      ∙ scopes_by (remarked_place f.marks p) s.u s.g s.path (opened_same f.names (remarked_place f.marks p) s.u s.g s.path 0 s.node s.above) p.chain
      ∙ unmarked_scopes p p.chain

  ambient_seen : (p q : Place) → SamePlace f.names (remarked_place f.marks p) q → ambient_inside q.node q.is_ambient ≡ ambient_inside p.node p.is_ambient
  ambient_seen p q s =
      ap (λ x. ambient_inside x.node x.is_ambient) s.is
      ∙ ap (λ b. p.is_ambient || (b && not (is kind.AccessorProperty p.node))) (f.kept p.node mark.Declare refl)

  -- ---- a state with other names

  pairs_same : (ms : List Made) → map symbol_pair (map (renamed_made f.names) ms) ≡ map symbol_pair ms
  pairs_same [] = refl
  pairs_same (m ∷ ms) = ap (λ ps. symbol_pair m ∷ ps) (pairs_same ms)

  bound_same : (bs : List Binding) → map (λ b. b.1) (bound_by (renamed_bindings f.names bs) 0) ≡ map (λ b. b.1) (bound_by bs 0)
  bound_same [] = refl
  bound_same (b ∷ bs) = go (b.scope == 0) (bound_by (renamed_bindings f.names bs) 0) (bound_by bs 0) (bound_same bs)
    where
      go : (t : Bool) (xs ys : Bindings) → map (λ x. x.1) xs ≡ map (λ x. x.1) ys → map (λ x. x.1) (cond t ((f.names b.name, b.symbol) ∷ xs) xs) ≡ map (λ x. x.1) (cond t ((b.name, b.symbol) ∷ ys) ys)
      go true xs ys e = ap (λ ns. b.symbol ∷ ns) e
      go false xs ys e = e

  -- two states of which the second has other names, as far as rules see
  pub record SeenState (st sw : State) : Type 0 where
    pub symbols : sw.symbols ≡ map (renamed_symbol f.names) st.symbols
    pub declared : map symbol_pair sw.made ≡ map symbol_pair st.made
    pub bound : map (λ b. b.1) (bound_by sw.bindings 0) ≡ map (λ b. b.1) (bound_by st.bindings 0)

  pub seen_state : (st : State) → SeenState st (renamed_state f.names st)
  seen_state st = record { symbols = refl; declared = pairs_same st.made; bound = bound_same st.bindings }

  -- ---- the sight

  pub plain_parts : (source free : List ℕ) (st : State) (p q : Place) → Spot f test p q → HasPlainParts (sight_of source free st p)
  plain_parts source free st p q w = record {
    labels = each_labels (p.node ∷ p.path) (q.node ∷ q.path) w;
    keys = each_pieces (members p.node) (members q.node) (members_within p.node q.node w.0);
  }

  string_kept : (a b : Node) → W a b → is kind.StringLiteral a ≡ true → b.text ≡ a.text
  string_kept a b w h = elim (either_text f a b w.0) [
    | inl e ↦ e
    | inr e ↦ e ∙ tells.strings a (and_first (test a) (holds_below test a.children) w.1) h
  ]

  pub seen_place : (source free : List ℕ) (st sw : State) (p q : Place) → SeenState st sw → SamePlace f.names (remarked_place f.marks p) q → Spot f test p q → IsChangedSight f (sight_of source free st p) (sight_of source free sw q)
  seen_place source free st sw p q k s w = record {
    node = w.0.0;
    path = changed_each p.path q.path w.1;
    symbols = k.symbols;
    others = λ i. record {
      node = q.node;
      path = q.path;
      source = source;
      source_type = ap (λ x. x.source_type) s.is i;
      is_ambient = ambient_seen p q s i;
      scopes = scopes_seen p q s i;
      symbols = sw.symbols;
      declared = k.declared i;
      classes = classes_same f words test tells.pieces p.node q.node p.path q.path w.0 w.1 i;
      uses = uses_seen f words test tells.pieces p.node q.node w.0 i;
      elements = elements_seen f words test tells.pieces p.node q.node w.0 i;
      bound = list_if (same_kind (same_kinds f p.node q.node w.0.0 i) kind.Program) (k.bound i);
      unresolved = ap (λ k. list_if (same_kind k kind.Program) free) (same_kinds f p.node q.node w.0.0) i;
    };
    strings = string_kept p.node q.node w.0;
  }
