-- Trees with other names.
use Rattle.std.specs.Prelude.{ℕ, List, Bool, false, ◌&&◌, ◌||◌, if◌then◌else◌}
use Rattle.std.specs.Str.{bytes_eq}
use Rattle.semantic_kinds.specs.Kinds.{same_kind}
use Rattle.semantic_kinds.specs.Roles.{same_role}
use Rattle.semantic_kinds.specs.declared.kind.AstType.{AstType}
use Rattle.semantic_kinds.specs.declared.kind.AstType.TheVariants as kinds
use Rattle.semantic_kinds.specs.declared.role.Role.{Role}
use Rattle.semantic_kinds.specs.declared.role.Role.TheVariants as roles
use Rattle.semantic_tree.specs.Forest.{Forest, nothing, tree}
use Rattle.semantic_tree.specs.Tree.{Tree}
use Rattle.semantic_tree.specs.declared.node.Node.{Node}
use Rattle.semantic_tree.specs.declared.swap.Setting.{Setting}
use Rattle.semantic_tree.specs.declared.swap.Setting.TheVariants.{InMember, InMemberName, Elsewhere}

-- each of two names for the other
abbrev pub swap : List ℕ → List ℕ → List ℕ → List ℕ
swap a b name = if bytes_eq name a then b else (if bytes_eq name b then a else name)

-- a node in this setting is the name of an enum member, or the piece of a template that is its name
abbrev pub names_member : Setting → Role → AstType → Bool
names_member InMember role kind = same_role role roles.Id && (same_kind kind kinds.IdentifierName || same_kind kind kinds.StringLiteral)
names_member InMemberName role kind = same_role role roles.Quasis && same_kind kind kinds.TemplateElement
names_member Elsewhere role kind = false

-- the text of such a node is a name of the program
abbrev pub is_program_name : Setting → Role → AstType → Bool
is_program_name setting role kind = same_kind kind kinds.BindingIdentifier || same_kind kind kinds.IdentifierReference || names_member setting role kind

-- the setting below a node that is no enum member
abbrev pub setting_inside : Setting → Role → AstType → Setting
setting_inside InMember role kind = if same_role role roles.Id && same_kind kind kinds.TemplateLiteral then InMemberName else Elsewhere
setting_inside InMemberName role kind = Elsewhere
setting_inside Elsewhere role kind = Elsewhere

-- the setting of the children of a node
abbrev pub setting_below : Setting → Role → AstType → Setting
setting_below setting role kind = if same_kind kind kinds.TSEnumMember then InMember else setting_inside setting role kind

-- the text of a node with other names
abbrev pub renamed_text : (List ℕ → List ℕ) → Setting → Role → AstType → List ℕ → List ℕ
renamed_text f setting role kind text = if is_program_name setting role kind then f text else text

-- the forest with other names
abbrev pub renamed : (List ℕ → List ℕ) → Setting → Forest → Forest
renamed f setting nothing = nothing
renamed f setting (tree role kind span text marks below id after) =
    tree role kind span (renamed_text f setting role kind text) marks (renamed f (setting_below setting role kind) below) id (renamed f setting after)

-- a node in a role with other names
abbrev pub renamed_node : (List ℕ → List ℕ) → Setting → Role → Node → Node
renamed_node f setting role node =
    record node { text = renamed_text f setting role node.kind node.text; children = renamed f (setting_below setting role node.kind) node.children }

-- the program with other names
abbrev pub renamed_tree : (List ℕ → List ℕ) → Tree → Tree
renamed_tree f p = record p { root = renamed_node f Elsewhere roles.Root p.root }

-- the program with two names swapped
abbrev pub swapped_tree : List ℕ → List ℕ → Tree → Tree
swapped_tree a b p = renamed_tree (swap a b) p
