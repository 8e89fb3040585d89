-- Whether a namespace is more than types: the greatest state that it reaches through its statements and exports.
use Rattle.std.specs.Prelude.{ℕ, zero, suc, ◌==◌, List, [], ◌∷◌, ◌++◌, Bool, false, ◌||◌, Option, Some, None, cond, map, flat_map, filter}
use Rattle.semantic_tree.specs.Forest.{count}
use Rattle.semantic_kinds.specs.declared.kind.AstType.{AstType}
use Rattle.semantic_kinds.specs.declared.kind.AstType.TheVariants as kind
use Rattle.semantic_kinds.specs.declared.role.Role.TheVariants as role
use Rattle.semantic_kinds.specs.declared.mark.Mark.TheVariants as mark
use Rattle.semantic_tree.specs.declared.node.Node.{Node}
use Rattle.semantic_syntax.specs.Tables.{Name}
use Rattle.semantic_tree.specs.Views.{is, has, has_text, child_of, children_of}
use Rattle.semantic_model.specs.Names.{bound_names}
use Rattle.std.specs.List.{list_any}
use Rattle.semantic_kinds.specs.Classes.{holds_kind}

pub data InstanceState : Type 0 where
  non_instantiated : InstanceState
  const_enum_only : InstanceState
  instantiated : InstanceState

-- the greater of two states
abbrev pub greater : InstanceState → InstanceState → InstanceState
greater instantiated t = instantiated
greater s instantiated = instantiated
greater const_enum_only t = const_enum_only
greater s t = t

-- a statement, and the statement lists around it, from inner to outer
pub record Item : Type 0 where
  pub node : Node
  pub lists : List (List Node)

-- what a statement counts as, and what it reaches
pub record StatementReach : Type 0 where
  pub states : List InstanceState
  pub items : List Item

abbrev pub counts_as : InstanceState → StatementReach
counts_as s = record { states = s ∷ []; items = [] }

abbrev pub leads_to : List Item → StatementReach
leads_to items = record { states = []; items = items }

-- a namespace or an external module
abbrev pub is_namespace_or_module : Node → Bool
is_namespace_or_module node = holds_kind (kind.TSNamespaceDeclaration ∷ kind.TSExternalModuleDeclaration ∷ []) node.kind

abbrev pub is_import_equals : Node → Bool
is_import_equals node = is kind.TSImportEqualsDeclaration node

-- a statement list
abbrev pub is_list : Node → Bool
is_list node = holds_kind (kind.TSModuleBlock ∷ kind.BlockStatement ∷ kind.Program ∷ []) node.kind

abbrev pub statements : Node → List Node
statements node = children_of role.Body node.children

-- the statements of a body: of a block its own, and a namespace that is a body stands alone
abbrev pub body_items : Option Node → List (List Node) → StatementReach
body_items None lists = counts_as instantiated
body_items (Some body) lists =
    leads_to (cond (is_list body) (map (λ x. record { node = x; lists = statements body ∷ lists }) (statements body)) (record { node = body; lists = lists } ∷ []))

-- a declaration that an export may hold, or the statement itself
abbrev pub declaration_in : Node → Option Node → Node
declaration_in node None = node
declaration_in node (Some d) = d

abbrev pub exported : Node → Node
exported node = cond (holds_kind (kind.ExportDeclaration ∷ kind.ExportDefaultDeclaration ∷ []) node.kind) (declaration_in node (child_of role.Declaration node)) node

-- whether a statement declares the name: imports don't
abbrev pub declares : Name → Node → Bool
declares name node = list_any (has_text name) (bound_names (exported node))

abbrev pub first_declaring : Name → List Node → Option Node
first_declaring name [] = None
first_declaring name (x ∷ xs) = cond (declares name x) (Some x) (first_declaring name xs)

-- the statement that declares the name in the innermost list that has one
abbrev pub target_of : Name → List (List Node) → Option Item
target_of name [] = None
target_of name (xs ∷ lists) = elim (first_declaring name xs) [ None ↦ target_of name lists | Some x ↦ Some (record { node = x; lists = xs ∷ lists }) ]

-- an import, and a name that isn't declared, may be anything
abbrev pub item_reached : Option Item → StatementReach
item_reached None = counts_as instantiated
item_reached (Some item) = cond (is_import_equals (exported item.node)) (counts_as instantiated) (leads_to (item ∷ []))

abbrev pub local_reached : List (List Node) → Option Node → StatementReach
local_reached lists None = counts_as instantiated
local_reached lists (Some local) =
    cond (is kind.IdentifierReference local) (item_reached (target_of local.text lists)) (counts_as instantiated)

-- what an exported name reaches
abbrev pub specifier_reached : List (List Node) → Node → StatementReach
specifier_reached lists specifier = local_reached lists (child_of role.Local specifier)

abbrev pub specifiers_reached : List StatementReach → StatementReach
specifiers_reached rs = record { states = flat_map (λ r. r.states) rs; items = flat_map (λ r. r.items) rs }

-- what an exported declaration counts as
abbrev pub declaration_reached : List (List Node) → Node → StatementReach
declaration_reached lists d =
    cond (is_namespace_or_module d) (leads_to (record { node = d; lists = lists } ∷ []))
    (cond (holds_kind (kind.TSTypeAliasDeclaration ∷ kind.TSInterfaceDeclaration ∷ []) d.kind) (counts_as non_instantiated) (counts_as instantiated))

-- what one statement counts as and reaches
abbrev pub reached_from : AstType → Item → StatementReach
reached_from kind.TSInterfaceDeclaration i = counts_as non_instantiated
reached_from kind.TSTypeAliasDeclaration i = counts_as non_instantiated
reached_from kind.TSImportEqualsDeclaration i = counts_as non_instantiated
reached_from kind.TSEnumDeclaration i = counts_as (cond (has mark.Const i.node) const_enum_only instantiated)
reached_from kind.TSNamespaceDeclaration i = body_items (child_of role.Body i.node) i.lists
reached_from kind.TSExternalModuleDeclaration i = body_items (child_of role.Body i.node) i.lists
reached_from kind.ExportDeclaration i = declaration_reached i.lists (exported i.node)
reached_from kind.ExportDefaultDeclaration i = counts_as (cond (is kind.TSInterfaceDeclaration (exported i.node)) non_instantiated instantiated)
reached_from kind.ExportNamedDeclaration i = specifiers_reached (map (specifier_reached i.lists) (children_of role.Specifiers i.node.children))
reached_from _ i = counts_as instantiated

abbrev pub is_among : Item → List Item → Bool
is_among i [] = false
is_among i (j ∷ js) = i.node.node_id == j.node.node_id || is_among i js

-- those of the second list that stand in neither the first nor earlier in their own, each once
abbrev pub new_items : List Item → List Item → List Item
new_items old [] = []
new_items old (i ∷ more) = cond (is_among i old) (new_items old more) (i ∷ new_items (i ∷ old) more)

abbrev pub reach : Item → StatementReach
reach i = reached_from i.node.kind i

-- all that is reached in any number of rounds up to a bound, from what is reached already and what is new
abbrev pub reached_within : ℕ → List Item → List Item → List Item
reached_within rounds old [] = old
reached_within zero old (i ∷ more) = old ++ i ∷ more
reached_within (suc rounds) old (i ∷ more) =
    reached_within rounds (old ++ i ∷ more) (new_items (old ++ i ∷ more) (flat_map (λ j. (reach j).items) (i ∷ more)))

abbrev pub greatest : List InstanceState → InstanceState
greatest [] = non_instantiated
greatest (s ∷ ss) = greater s (greatest ss)

-- the state of a namespace with the nodes above it; no more statements than the program has nodes are reached
abbrev pub instance_state : Node → List Node → ℕ → InstanceState
instance_state node path bound =
    let start : Item = record { node = node; lists = map statements (filter is_list path) } in
    greatest (flat_map (λ i. (reach i).states) (reached_within bound [] (start ∷ [])))

-- how many nodes there are from the outermost of the path, or from the node
abbrev pub nodes_around : Node → List Node → ℕ
nodes_around node [] = suc (count node.children)
nodes_around node (x ∷ xs) = nodes_around x xs
