-- The classes as a walk makes them, and the one in whose body it is.
use Rattle.std.specs.Prelude.{ℕ, ◌<◌, ◌^◌, ◌-◌, true, ◌&&◌, cond, Option, Some, None, IfSome, length}
use Rattle.std.specs.Option.{option_map_or}
use Rattle.semantic_kinds.specs.declared.kind.AstType.{AstType}
use Rattle.semantic_tree.specs.declared.node.Node.{Node}
use Rattle.semantic_model.specs.Element.{Element, element_of, elements_of, element_ids}
use Rattle.semantic_model.specs.Class.{PrivateUse, uses_under}
use Rattle.class_table.specs.Lists.{ClassLists, with_class, with_element, with_use, elements_in}
use Rattle.class_table.specs.Outward.{parent_class}
use Rattle.class_table.specs.declared.builder.ClassTableBuilder.{ClassTableBuilder}

-- the current class is there
abbrev pub IsCurrent : ClassTableBuilder → Type 0
IsCurrent b = IfSome b.current_class_id (λ c. c < length b.classes.nodes)

-- there is an id for the element that a member makes in the current class
abbrev pub HasRoomFor : ClassTableBuilder → Node → Type 0
HasRoomFor b member = IfSome b.current_class_id (λ c. IfSome (element_of member) (λ e. length (elements_in b.classes c) < 2 ^ 32 - 1))

-- the class of a body, with its elements, is current
abbrev pub with_body : ClassTableBuilder → Node → ℕ → ClassTableBuilder
with_body b body node =
    cond b.enabled (record b { current_class_id = Some (length b.classes.nodes); classes = with_class b.classes b.current_class_id node (elements_of body.children) }) b

-- the class has the element that there may be
abbrev pub with_made : ClassLists → ℕ → Option Element → ClassLists
with_made lists c element = option_map_or (with_element lists c) element lists

-- the current class has the element that the member makes
abbrev pub with_member : ClassTableBuilder → Node → ClassTableBuilder
with_member b member = record b { classes = option_map_or (λ c. with_made b.classes c (element_of member)) b.current_class_id b.classes }

-- the use of a private name in a class
abbrev pub use_in : ClassLists → ℕ → Node → ℕ → PrivateUse
use_in lists c ident node = record { id = node; name = ident.text; span = ident.span; element_ids = element_ids (elements_in lists c) ident.text true }

-- the current class has the use that the private identifier is under a parent of the kind
abbrev pub with_use_under : ClassTableBuilder → Node → ℕ → AstType → ClassTableBuilder
with_use_under b ident node parent =
    record b { classes = cond (b.enabled && uses_under parent) (option_map_or (λ c. with_use b.classes c (use_in b.classes c ident node)) b.current_class_id b.classes) b.classes }

-- the class around the current one is current
abbrev pub popped : ClassTableBuilder → ClassTableBuilder
popped b = cond b.enabled (record b { current_class_id = option_map_or (parent_class b.classes.parents) b.current_class_id None }) b
