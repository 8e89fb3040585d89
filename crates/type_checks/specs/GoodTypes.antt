-- Annotations whose types stand in the source.
use Rattle.std.specs.Prelude.{◌≡◌, Bool, true, IfSome}
use Rattle.std.specs.Option.{option_map_or}
use Rattle.semantic_kinds.specs.declared.role.Role.TheVariants as roles
use Rattle.semantic_tree.specs.Sound.{has_good_span}
use Rattle.semantic_tree.specs.Views.{child_of}
use Rattle.semantic_tree.specs.declared.node.Node.{Node}
use Rattle.check_context.specs.declared.context.CheckContext.{CheckContext}

-- the node stands in the source, on characters, and a JSDoc type shows its mark there
abbrev pub HasGoodSpan : CheckContext → Node → Type 0
HasGoodSpan ctx node = has_good_span ctx.source_text.now node ≡ true

-- the same of the type that an annotation has
abbrev pub HasGoodType : Node → CheckContext → Type 0
HasGoodType node ctx = IfSome (child_of roles.Element node) (HasGoodSpan ctx)

-- the same as a test
abbrev pub has_good_type : Node → CheckContext → Bool
has_good_type node ctx = option_map_or (has_good_span ctx.source_text.now) (child_of roles.Element node) true
