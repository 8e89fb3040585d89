-- What makes a node well formed, besides its span.
use Rattle.std.specs.Prelude.{ℕ, ◌+◌, ◌==◌, Bool, true, false, not, ◌&&◌, ◌||◌, if◌then◌else◌, Option, Some, None, is_some, length, codes}
use Rattle.std.specs.Str.{bytes_eq}
use Rattle.semantic_kinds.specs.Kinds.{same_kind}
use Rattle.semantic_kinds.specs.Roles.{same_role}
use Rattle.semantic_kinds.specs.Classes.{is_module_name}
use Rattle.semantic_kinds.specs.Parts.{parts}
use Rattle.semantic_kinds.specs.Texts.{may_have_text}
use Rattle.semantic_kinds.specs.Allowed.{allowed_marks}
use Rattle.semantic_kinds.specs.MarkSets.{set_of, is_within, is_single}
use Rattle.semantic_kinds.specs.declared.kind.AstType.{AstType}
use Rattle.semantic_kinds.specs.declared.kind.AstType.TheVariants as kind
use Rattle.semantic_kinds.specs.declared.role.Role.{Role}
use Rattle.semantic_kinds.specs.declared.role.Role.TheVariants as role
use Rattle.semantic_tree.specs.Fit.{fit}
use Rattle.semantic_tree.specs.Nodes.{trees, nodes_in}
use Rattle.semantic_tree.specs.declared.node.Node.{Node}
use Rattle.semantic_tree.specs.declared.place.Place.{Place}

-- there is a kind, and it is this one
abbrev pub is_that_kind : Option AstType → AstType → Bool
is_that_kind None k = false
is_that_kind (Some own) k = same_kind own k

-- how many children of the node have the role
abbrev pub number_in : Role → Node → ℕ
number_in role node = length (nodes_in role (trees node.children))

-- the value of a method
abbrev pub is_method_value : Place → Bool
is_method_value place = is_that_kind place.parent kind.MethodDefinition && same_role place.role role.Value

-- the name of an enum member
abbrev pub is_member_name : Place → Bool
is_member_name place = is_that_kind place.parent kind.TSEnumMember && same_role place.role role.Id

-- the local name of a specifier of an export from another module
abbrev pub is_foreign_local : Place → Bool
is_foreign_local place = is_that_kind place.parent kind.ExportSpecifier && same_role place.role role.Local && is_that_kind place.beyond kind.ExportFromDeclaration

-- a function without body has no id and is a method's value, and a method's value is an expression or has no body
abbrev pub function_stands : Place → Node → Bool
function_stands place node =
    if bytes_eq node.text (codes "ts-empty-body")
    then is_method_value place && number_in role.Id node == 0
    else not (is_method_value place) || bytes_eq node.text (codes "expression")

-- a template has one more quasi than expressions, and none of these as a member's name
abbrev pub template_stands : Place → Node → Bool
template_stands place node =
    (number_in role.Quasis node == number_in role.Expressions node + 1) && (not (is_member_name place) || number_in role.Expressions node == 0)

-- a class has type arguments only with a heritage
abbrev pub class_stands : Node → Bool
class_stands node = (number_in role.TypeArguments node == 0) || not (number_in role.Heritage node == 0)

-- the rules of single kinds
abbrev pub stands : Place → AstType → Node → Bool
stands place kind.Function node = function_stands place node
stands place kind.Class node = class_stands node
stands place kind.NumericLiteral node = is_single node.marks
stands place kind.TemplateLiteral node = template_stands place node
stands place kind.TSTemplateLiteralType node = number_in role.Quasis node == number_in role.Types node + 1
stands place _ node = true

-- text, marks and children are those of the kind
abbrev pub keeps_table : Node → Bool
keeps_table node = may_have_text node.kind node.text && is_within node.marks (set_of (allowed_marks node.kind)) && fit (parts node.kind) (trees node.children)

-- what is exported from another module is named by a word or a text
abbrev pub names_foreign : Place → AstType → Bool
names_foreign place k = not (is_foreign_local place) || is_module_name k

-- a root is a program
abbrev pub is_rooted : Place → AstType → Bool
is_rooted place k = is_some place.parent || same_kind k kind.Program

-- a node at a place has the form of its kind
abbrev pub is_well_formed : Place → Node → Bool
is_well_formed place node = is_rooted place node.kind && keeps_table node && stands place node.kind node && names_foreign place node.kind
