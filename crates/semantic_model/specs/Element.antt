-- The elements that the members of a class make, and what the private names in it mean.
use Rattle.std.specs.Prelude.{ℕ, ◌+◌, List, [], ◌∷◌, Bool, Option, None, ◌&&◌, ◌||◌, not, cond, codes, bytes_eq, take, filter_map, option_map, is_some}
use Rattle.std.specs.Option.{option_and_then}
use Rattle.semantic_syntax.specs.declared.spans.Span.{Span}
use Rattle.semantic_syntax.specs.declared.element_kind.ElementKind.{ElementKind}
use Rattle.semantic_syntax.specs.declared.element_kind.TheConstants.ElementKind as element
use Rattle.semantic_syntax.specs.Sets.{meets, union}
use Rattle.semantic_syntax.specs.Tables.{Name}
use Rattle.semantic_kinds.specs.declared.kind.AstType.{AstType}
use Rattle.semantic_kinds.specs.declared.kind.AstType.TheVariants as kind
use Rattle.semantic_kinds.specs.declared.role.Role.TheVariants as role
use Rattle.semantic_kinds.specs.declared.mark.Mark.TheVariants as mark
use Rattle.semantic_tree.specs.Forest.{Forest}
use Rattle.semantic_tree.specs.declared.node.Node.{Node}
use Rattle.semantic_tree.specs.Views.{is, has, has_text, holds, child_of, children_of}
use Rattle.semantic_tree.specs.KeyNames.{key_name}

-- an element of a class
pub record Element : Type 0 where
  pub name : Name
  pub span : Span
  pub is_static : Bool
  pub is_private : Bool
  pub kind : ElementKind

abbrev element_named : ℕ → Node → Node → Name → Element
element_named what member key name = record {
  name = name;
  span = key.span;
  is_static = has mark.Static member;
  is_private = is kind.PrivateIdentifier key;
  kind = record { bits = what };
}

-- a member whose key has a name is an element, of the name and span of its key
abbrev pub element_with : ℕ → Node → Option Element
element_with what member = option_and_then (λ key. option_map (element_named what member key) (key_name key)) (child_of role.Key member)

-- a function with a body, and not one that only TypeScript knows
abbrev pub is_implemented : Node → Bool
is_implemented value = is_some (child_of role.Body value) && not (has_text (codes "ts-declare") value || has_text (codes "ts-empty-body") value)

-- a getter or setter is a method too
abbrev pub method_kind : Node → ℕ
method_kind member =
    union element.Method.bits (cond (has_text (codes "get") member) element.Getter.bits (cond (has_text (codes "set") member) element.Setter.bits 0))

-- a constructor makes no element, and neither does a method without body
abbrev pub element_of_method : Node → Option Element
element_of_method member =
    cond (not (has_text (codes "constructor") member) && holds is_implemented (child_of role.Value member)) (element_with (method_kind member) member) None

abbrev element_by : AstType → Node → Option Element
element_by kind.MethodDefinition member = element_of_method member
element_by kind.PropertyDefinition member = element_with element.Property.bits member
element_by kind.AccessorProperty member = element_with element.Accessor.bits member
element_by _ member = None

-- the element that a member makes
abbrev pub element_of : Node → Option Element
element_of member = element_by member.kind member

-- the elements of a class body with these children
abbrev pub elements_of : Forest → List Element
elements_of body = filter_map element_of (children_of role.Body body)

-- an accessor or a property: the name means it alone
abbrev pub stands_alone : Element → Bool
stands_alone e = meets e.kind.bits (union element.Accessor.bits element.Property.bits)

-- the element has the name, as a private or as a public one
abbrev pub is_named : Name → Bool → Element → Bool
is_named name is_private e = bytes_eq e.name name && cond is_private e.is_private (not e.is_private)

-- the numbers, from n on, of the elements of the name, up to and including the first that stands alone
abbrev pub matches_from : ℕ → Name → Bool → List Element → List ℕ
matches_from n name is_private [] = []
matches_from n name is_private (e ∷ more) =
    let later : List ℕ = matches_from (n + 1) name is_private more in
    cond (is_named name is_private e) (n ∷ cond (stands_alone e) [] later) later

-- the elements that a name means, at most two
abbrev pub element_ids : List Element → Name → Bool → List ℕ
element_ids elements name is_private = take 2 (matches_from 0 name is_private elements)
