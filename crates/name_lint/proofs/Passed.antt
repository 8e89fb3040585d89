-- What the pass over a tree gathers is what the definitions take from the steps of the walk.
use Rattle.std.proofs.Common.{◌≡◌, ℕ, List, [], ◌∷◌, ◌++◌, Bool, true, false, ◌&&◌, not, cond, Option, None, Some, map, refl, sym, ap, ◌∙◌, append_assoc, append-nil, option_and_then}
use Rattle.std.specs.List.{cons_option}
use Rattle.semantic_kinds.specs.declared.role.Role.{Role}
use Rattle.semantic_kinds.specs.declared.kind.AstType.TheVariants as kind
use Rattle.semantic_tree.specs.Forest.{Forest, nothing, tree}
use Rattle.semantic_tree.specs.Tree.{Tree}
use Rattle.semantic_tree.specs.declared.node.Node.{Node}
use Rattle.semantic_tree.specs.Views.{is, has_role}
use Rattle.semantic_model.specs.Inside.{opens, is_inside, any_inside, header_roles, is_in_header}
use Rattle.semantic_model.specs.Place.{Place, OpenScope}
use Rattle.semantic_model.specs.Reference.{reference_at, references}
use Rattle.semantic_model.specs.ScopeKind.{opened_scope}
use Rattle.semantic_model.specs.Cursor.{on_entering}
use Rattle.semantic_model.specs.Step.{Step, entering, opening, leaving, header_ending, closing, opening_at, ending_after, opening_last, steps_below, root_place, steps}
use Rattle.semantic_model.proofs.steps.Turn.{Turn, turn_at}
use Rattle.semantic_model.specs.Analysis.{Analysis, symbol_at}
use Rattle.name_lint.specs.Uses.{declared_name, or_further, owner_on, owner_of, owners}
use Rattle.name_lint.specs.Undeclared.{reference_names, reference_spans}
use Rattle.name_lint.specs.Gathered.{Gathered, nothing_gathered, symbol_or, owner_inside, gathered_at, gathered_below, gathered_from, gathered_by}

-- what is gathered at the steps of a walk
abbrev pub gathered_all : Analysis → Gathered → List Step → Gathered
gathered_all a g [] = g
gathered_all a g (entering p ∷ more) = gathered_all a (gathered_at (owner_of a p.path) p.node g) more
gathered_all a g (opening p s ∷ more) = gathered_all a g more
gathered_all a g (header_ending p s ∷ more) = gathered_all a g more
gathered_all a g (closing p s ∷ more) = gathered_all a g more
gathered_all a g (leaving p ∷ more) = gathered_all a g more

module _ (a : Analysis) where
  all_append : (g : Gathered) (xs ys : List Step) → gathered_all a g (xs ++ ys) ≡ gathered_all a (gathered_all a g xs) ys
  all_append g [] ys = refl
  all_append g (entering p ∷ xs) ys = all_append (gathered_at (owner_of a p.path) p.node g) xs ys
  all_append g (opening p s ∷ xs) ys = all_append g xs ys
  all_append g (header_ending p s ∷ xs) ys = all_append g xs ys
  all_append g (closing p s ∷ xs) ys = all_append g xs ys
  all_append g (leaving p ∷ xs) ys = all_append g xs ys

  opens_quietly : (p : Place) (r : Role) (own : Option OpenScope) (n : ℕ) (g : Gathered) → gathered_all a g (opening_at p r own n) ≡ g
  opens_quietly p r (Some s) n g = refl
  opens_quietly p r None n g = by (is_inside p.node.kind r)
    where
      by : (c : Bool) → gathered_all a g (cond c (opening p (opened_scope p n) ∷ []) []) ≡ g
      by true = refl
      by false = refl

  ends_quietly : (p : Place) (r : Role) (own : Option OpenScope) (after : Forest) (g : Gathered) → gathered_all a g (ending_after p r own after) ≡ g
  ends_quietly p r None after g = refl
  ends_quietly p r (Some s) after g =
      by (is_in_header p.node.kind r && not (has_role (header_roles p.node.kind) after)) (is_inside p.node.kind r && not (any_inside p.node.kind after))
    where
      by : (c d : Bool) → gathered_all a g (cond c (header_ending p s ∷ []) [] ++ cond d (closing p s ∷ []) []) ≡ g
      by true true = refl
      by true false = refl
      by false true = refl
      by false false = refl

  last_quietly : (p : Place) (own : Option OpenScope) (n : ℕ) (g : Gathered) → gathered_all a g (opening_last p own n) ≡ g
  last_quietly p (Some s) n g = refl
  last_quietly p None n g = by (opens p.node.kind)
    where
      by : (c : Bool) → gathered_all a g (cond c (opening p (opened_scope p n) ∷ closing p (opened_scope p n) ∷ []) []) ≡ g
      by true = refl
      by false = refl

  -- a child, and then the others
  turn : (g : Gathered) (before inner behind later : List Step) → ((g : Gathered) → gathered_all a g before ≡ g) → ((g : Gathered) → gathered_all a g behind ≡ g)
      → gathered_all a g (before ++ inner ++ behind ++ later) ≡ gathered_all a (gathered_all a g inner) later
  turn g before inner behind later quiet still =
      all_append g (before ++ inner ++ behind) later
      ∙ ap (λ x. gathered_all a x later)
      (all_append g (before ++ inner) behind
      ∙ still (gathered_all a g (before ++ inner))
      ∙ all_append g before inner
      ∙ ap (λ x. gathered_all a x inner) (quiet g))

  -- the owner of what stands in a node
  owner_below : (node : Node) (path : List Node) → owner_of a (node ∷ path) ≡ owner_inside (symbol_at a) (owner_of a path) node
  owner_below node path = by (declared_name node)
    where
      by : (o : Option Node) → option_and_then (λ id. symbol_at a id.node_id) (or_further o (owner_on path)) ≡ symbol_or (symbol_at a) (owner_of a path) o
      by None = refl
      by (Some id) = refl

  -- the steps below a place
  below : (f : Forest) (p : Place) (own : Option OpenScope) (n cursor : ℕ) (g : Gathered)
      → gathered_all a g (steps_below p own n cursor f) ≡ gathered_below (symbol_at a) (owner_of a (p.node ∷ p.path)) f g
  below nothing p own n cursor g = last_quietly p own n g
  below (tree r k span text marks children id after) p own n cursor g =
      let here : Node = record { kind = k; span = span; text = text; marks = marks; children = children; node_id = id } in
      let parts : Turn = turn_at p own n cursor r here after in
      let owner : Option ℕ = owner_of a (p.node ∷ p.path) in
      let deeper : Gathered = gathered_below (symbol_at a) (owner_inside (symbol_at a) owner here) children (gathered_at owner here g) in
      turn g parts.before parts.whole parts.behind parts.others (opens_quietly p r own n) (ends_quietly p r parts.scope after)
      ∙ ap (λ x. gathered_all a x parts.others)
      (all_append (gathered_at owner here g) parts.below (leaving parts.child ∷ [])
      ∙ below children parts.child None parts.next parts.inner (gathered_at owner here g)
      ∙ ap (λ o. gathered_below (symbol_at a) o children (gathered_at owner here g)) (owner_below here (p.node ∷ p.path)))
      ∙ below after p parts.scope parts.rest parts.past deeper

  -- the steps of a program
  whole : (p : Tree) (g : Gathered) → gathered_all a g (steps p) ≡ gathered_from (symbol_at a) None p.root g
  whole p g =
      let root : Place = root_place p in
      all_append (gathered_at None p.root g) (steps_below root None 0 (on_entering p.root.kind 0) p.root.children) (leaving root ∷ [])
      ∙ below p.root.children root None 0 (on_entering p.root.kind 0) (gathered_at None p.root g)
      ∙ ap (λ o. gathered_below (symbol_at a) o p.root.children (gathered_at None p.root g)) (owner_below p.root [])

  -- ---- each of the lists

  names_all : (g : Gathered) (ss : List Step) → (gathered_all a g ss).names ≡ g.names ++ reference_names ss
  names_all g [] = sym (append-nil g.names)
  names_all g (entering p ∷ ss) =
      names_all (gathered_at (owner_of a p.path) p.node g) ss
      ∙ by (is kind.IdentifierReference p.node)
    where
      by : (c : Bool) → (cond c (record g { names = g.names ++ p.node.text ∷ []; spans = g.spans ++ p.node.span ∷ []; owners = g.owners ++ owner_of a p.path ∷ [] }) g).names ++ reference_names ss ≡ g.names ++ map (λ o. o.name) (cons_option (cond c (Some (reference_at p)) None) (references ss))
      by true = append_assoc g.names (p.node.text ∷ []) (reference_names ss)
      by false = refl
  names_all g (opening p s ∷ ss) = names_all g ss
  names_all g (header_ending p s ∷ ss) = names_all g ss
  names_all g (closing p s ∷ ss) = names_all g ss
  names_all g (leaving p ∷ ss) = names_all g ss

  spans_all : (g : Gathered) (ss : List Step) → (gathered_all a g ss).spans ≡ g.spans ++ reference_spans ss
  spans_all g [] = sym (append-nil g.spans)
  spans_all g (entering p ∷ ss) =
      spans_all (gathered_at (owner_of a p.path) p.node g) ss
      ∙ by (is kind.IdentifierReference p.node)
    where
      by : (c : Bool) → (cond c (record g { names = g.names ++ p.node.text ∷ []; spans = g.spans ++ p.node.span ∷ []; owners = g.owners ++ owner_of a p.path ∷ [] }) g).spans ++ reference_spans ss ≡ g.spans ++ cons_option (cond c (Some p.node.span) None) (reference_spans ss)
      by true = append_assoc g.spans (p.node.span ∷ []) (reference_spans ss)
      by false = refl
  spans_all g (opening p s ∷ ss) = spans_all g ss
  spans_all g (header_ending p s ∷ ss) = spans_all g ss
  spans_all g (closing p s ∷ ss) = spans_all g ss
  spans_all g (leaving p ∷ ss) = spans_all g ss

  owners_all : (g : Gathered) (ss : List Step) → (gathered_all a g ss).owners ≡ g.owners ++ owners a ss
  owners_all g [] = sym (append-nil g.owners)
  owners_all g (entering p ∷ ss) =
      owners_all (gathered_at (owner_of a p.path) p.node g) ss
      ∙ by (is kind.IdentifierReference p.node)
    where
      by : (c : Bool) → (cond c (record g { names = g.names ++ p.node.text ∷ []; spans = g.spans ++ p.node.span ∷ []; owners = g.owners ++ owner_of a p.path ∷ [] }) g).owners ++ owners a ss ≡ g.owners ++ cons_option (cond c (Some (owner_of a p.path)) None) (owners a ss)
      by true = append_assoc g.owners (owner_of a p.path ∷ []) (owners a ss)
      by false = refl
  owners_all g (opening p s ∷ ss) = owners_all g ss
  owners_all g (header_ending p s ∷ ss) = owners_all g ss
  owners_all g (closing p s ∷ ss) = owners_all g ss
  owners_all g (leaving p ∷ ss) = owners_all g ss

-- the pass gathers the same
pub passed : (a : Analysis) (p : Tree) → gathered_from (symbol_at a) None p.root nothing_gathered ≡ gathered_by a (steps p)
passed a p = sym (whole a p nothing_gathered) ∙ same
  where
    same : gathered_all a nothing_gathered (steps p) ≡ gathered_by a (steps p)
    same = λ i. record {
      names = names_all a nothing_gathered (steps p) i;
      spans = spans_all a nothing_gathered (steps p) i;
      owners = owners_all a nothing_gathered (steps p) i;
    }
