-- What a reference asks for: a value, a type, a namespace, or any of them.
use Rattle.std.specs.Prelude.{List, [], ◌∷◌}
use Rattle.semantic_kinds.specs.declared.kind.AstType.{AstType}
use Rattle.semantic_kinds.specs.declared.kind.AstType.TheVariants as kind
use Rattle.semantic_tree.specs.declared.node.Node.{Node}
use Rattle.typescript_ties.specs.MeaningSets.{MeaningSet, a_value, a_type, a_namespace, any_meaning}

abbrev pub asked_of_left_under : AstType → MeaningSet → MeaningSet
asked_of_left_under kind.TSQualifiedName above = above
asked_of_left_under kind.TSTypeQuery above = a_value
asked_of_left_under _ above = a_namespace

-- the left of a qualified name is a namespace, but after `typeof` a value
abbrev pub asked_of_left : List Node → MeaningSet
asked_of_left [] = a_namespace
asked_of_left (x ∷ path) = asked_of_left_under x.kind (asked_of_left path)

-- under a parent of the kind
abbrev pub asked_under : AstType → List Node → MeaningSet
asked_under kind.TSTypeReference path = a_type
asked_under kind.TSInterfaceHeritage path = a_type
asked_under kind.TSClassImplements path = a_type
asked_under kind.TSQualifiedName path = asked_of_left path
asked_under kind.TSImportEqualsDeclaration path = a_namespace
asked_under kind.ExportSpecifier path = any_meaning
asked_under kind.ExportDefaultDeclaration path = any_meaning
asked_under kind.TSExportAssignment path = any_meaning
asked_under _ path = a_value

-- a reference under these nodes, parent first
abbrev pub asked_by_reference : List Node → MeaningSet
asked_by_reference [] = a_value
asked_by_reference (x ∷ path) = asked_under x.kind path
