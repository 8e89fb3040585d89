-- The names that the steps of a program give are those that its nodes give.
use Rattle.std.proofs.Common.{◌≡◌, ℕ, List, [], ◌∷◌, ◌++◌, Option, None, Bool, true, false, cond, map, flat_map, refl, sym, ap, ◌∙◌}
use Rattle.std.proofs.lemmas.List.{append-nil, map-append}
use Rattle.semantic_kinds.specs.declared.kind.AstType.TheVariants as kind
use Rattle.semantic_kinds.specs.declared.role.Role.{Role}
use Rattle.semantic_kinds.specs.declared.role.Role.TheVariants as role
use Rattle.semantic_tree.specs.Forest.{Forest, nothing, tree}
use Rattle.semantic_tree.specs.Tree.{Tree}
use Rattle.semantic_tree.specs.declared.node.Node.{Node}
use Rattle.semantic_model.specs.Cursor.{on_entering}
use Rattle.semantic_model.specs.Names.{bound_names}
use Rattle.semantic_tree.specs.Views.{is, children_of}
use Rattle.semantic_model.specs.Place.{Place, OpenScope}
use Rattle.semantic_model.specs.Step.{Step, entering, opening, header_ending, closing, leaving, steps_below, steps, opening_at, ending_after, opening_last, root_place}
use Rattle.semantic_model.proofs.steps.TurnCases.{opening_case, ending_case, last_case}
use Rattle.semantic_model.proofs.steps.Turn.{Turn, turn_at}
use Rattle.semantic_model.proofs.steps.Compose.{flat-append}
use Rattle.semantic_model.specs.Exported.{is_default_declaration, exported_names, default_exported_names}
use Rattle.semantic_queries.specs.declared.node_symbols.exports.Export.{Export}
use Rattle.semantic_queries.specs.declared.node_symbols.exports.Export.TheVariants as export
use Rattle.semantic_queries.specs.Given.{names_given, names_exported_by, given_below, given_from}

abbrev ids : List Node → List ℕ
ids nodes = map (λ x. x.node_id) nodes

-- the names that the node gives that is entered
abbrev given_at : Export → Step → List ℕ
given_at e (entering p) = names_exported_by e p.node
given_at e (opening p s) = []
given_at e (header_ending p s) = []
given_at e (closing p s) = []
given_at e (leaving p) = []

module _ (e : Export) where
  none_open : (p : Place) (r : Role) (own : Option OpenScope) (n : ℕ) → flat_map (given_at e) (opening_at p r own n) ≡ []
  none_open p r own n = opening_case (λ ss. flat_map (given_at e) ss ≡ []) p r own n refl refl

  none_last : (p : Place) (own : Option OpenScope) (n : ℕ) → flat_map (given_at e) (opening_last p own n) ≡ []
  none_last p own n = last_case (λ ss. flat_map (given_at e) ss ≡ []) p own n refl refl

  none_ended : (p : Place) (r : Role) (own : Option OpenScope) (after : Forest) → flat_map (given_at e) (ending_after p r own after) ≡ []
  none_ended p r own after = ending_case (λ ss. flat_map (given_at e) ss ≡ []) p r own after refl (λ s. refl) (λ s. refl) (λ s. refl)

  -- what a child gives, and then the others
  turn : (xs ys es ws : List Step) (child : Place) → flat_map (given_at e) xs ≡ [] → flat_map (given_at e) es ≡ []
      → flat_map (given_at e) (xs ++ (entering child ∷ (ys ++ leaving child ∷ [])) ++ es ++ ws) ≡ names_exported_by e child.node ++ flat_map (given_at e) ys ++ flat_map (given_at e) ws
  turn xs ys es ws child h k =
      let middle : List Step = entering child ∷ (ys ++ leaving child ∷ []) in
      flat-append (given_at e) (xs ++ middle ++ es) ws
      ∙ ap (λ l. l ++ flat_map (given_at e) ws) (
      flat-append (given_at e) (xs ++ middle) es
      ∙ ap (λ l. flat_map (given_at e) (xs ++ middle) ++ l) k
      ∙ append-nil (flat_map (given_at e) (xs ++ middle))
      ∙ flat-append (given_at e) xs middle
      ∙ ap (λ l. l ++ flat_map (given_at e) middle) h
      ∙ ap (λ l. names_exported_by e child.node ++ l) (flat-append (given_at e) ys (leaving child ∷ []) ∙ append-nil (flat_map (given_at e) ys)))

  steps_give : (p : Place) (own : Option OpenScope) (n cursor : ℕ) (f : Forest) → flat_map (given_at e) (steps_below p own n cursor f) ≡ given_below e f
  steps_give p own n cursor nothing = none_last p own n
  steps_give p own n cursor (tree r k span text marks below id after) =
      let node : Node = record { kind = k; span = span; text = text; marks = marks; children = below; node_id = id } in
      let parts : Turn = turn_at p own n cursor r node after in
      turn parts.before parts.below parts.behind parts.others parts.child (none_open p r own n) (none_ended p r parts.scope after)
      ∙ (λ i. names_exported_by e node ++ steps_give parts.child None parts.next parts.inner below i ++ steps_give p parts.scope parts.rest parts.past after i)

  program_gives : (p : Tree) → flat_map (given_at e) (steps p) ≡ given_from e p.root
  program_gives p =
      let below : List Step = steps_below (root_place p) None 0 (on_entering p.root.kind 0) p.root.children in
      ap (λ l. names_exported_by e p.root ++ l) (
      flat-append (given_at e) below (leaving (root_place p) ∷ [])
      ∙ append-nil (flat_map (given_at e) below)
      ∙ steps_give (root_place p) None 0 (on_entering p.root.kind 0) p.root.children)

-- ---- the lists of the definitions are these

named_ids : (ds : List Node) → ids (flat_map bound_names ds) ≡ names_given export.Named ds
named_ids [] = refl
named_ids (d ∷ ds) = map-append (λ (x : Node). x.node_id) (bound_names d) (flat_map bound_names ds) ∙ ap (λ l. ids (bound_names d) ++ l) (named_ids ds)

default_ids : (ds : List Node) → ids (flat_map (λ d. cond (is_default_declaration d) (bound_names d) []) ds) ≡ names_given export.Default ds
default_ids [] = refl
default_ids (d ∷ ds) =
    map-append (λ (x : Node). x.node_id) (cond (is_default_declaration d) (bound_names d) []) (flat_map (λ d. cond (is_default_declaration d) (bound_names d) []) ds)
    ∙ (λ i. own (is_default_declaration d) i ++ default_ids ds i)
  where
    own : (b : Bool) → ids (cond b (bound_names d) []) ≡ cond b (ids (bound_names d)) []
    own true = refl
    own false = refl

named_listed : (ss : List Step) → exported_names ss ≡ flat_map (given_at export.Named) ss
named_listed [] = refl
named_listed (entering p ∷ ss) = λ i. cond (is kind.ExportDeclaration p.node) (named_ids (children_of role.Declaration p.node.children) i) [] ++ named_listed ss i
named_listed (opening p s ∷ ss) = named_listed ss
named_listed (header_ending p s ∷ ss) = named_listed ss
named_listed (closing p s ∷ ss) = named_listed ss
named_listed (leaving p ∷ ss) = named_listed ss

default_listed : (ss : List Step) → default_exported_names ss ≡ flat_map (given_at export.Default) ss
default_listed [] = refl
default_listed (entering p ∷ ss) = λ i. cond (is kind.ExportDefaultDeclaration p.node) (default_ids (children_of role.Declaration p.node.children) i) [] ++ default_listed ss i
default_listed (opening p s ∷ ss) = default_listed ss
default_listed (header_ending p s ∷ ss) = default_listed ss
default_listed (closing p s ∷ ss) = default_listed ss
default_listed (leaving p ∷ ss) = default_listed ss

pub named_given : (p : Tree) → given_from export.Named p.root ≡ exported_names (steps p)
named_given p = sym (named_listed (steps p) ∙ program_gives export.Named p)

pub default_given : (p : Tree) → given_from export.Default p.root ≡ default_exported_names (steps p)
default_given p = sym (default_listed (steps p) ∙ program_gives export.Default p)
