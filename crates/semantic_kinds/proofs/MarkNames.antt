-- Each mark is found by its name, and stands in its place.
use Rattle.std.proofs.Common.{◌≡◌, Some, slice_get, refl}
use denote.Enum.Declared.{tag_of}
use Rattle.semantic_kinds.specs.Marks.{all_marks, mark_name, mark_named}
use Rattle.semantic_kinds.specs.declared.mark.Mark.{Mark}
use Rattle.semantic_kinds.specs.declared.mark.Mark.TheVariants as mark
use Rattle.semantic_kinds.specs.contracts.mark.Mark.{the_type as the_marks}

pub mark_named-mark_name : (one : Mark) → mark_named (mark_name one) ≡ Some one
unfolding mark_named
mark_named-mark_name mark.Async = refl
mark_named-mark_name mark.Generator = refl
mark_named-mark_name mark.Declare = refl
mark_named-mark_name mark.Pure = refl
mark_named-mark_name mark.Static = refl
mark_named-mark_name mark.Computed = refl
mark_named-mark_name mark.Abstract = refl
mark_named-mark_name mark.Optional = refl
mark_named-mark_name mark.Definite = refl
mark_named-mark_name mark.Readonly = refl
mark_named-mark_name mark.Override = refl
mark_named-mark_name mark.Public = refl
mark_named-mark_name mark.Private = refl
mark_named-mark_name mark.Protected = refl
mark_named-mark_name mark.Method = refl
mark_named-mark_name mark.Shorthand = refl
mark_named-mark_name mark.Prefix = refl
mark_named-mark_name mark.Delegate = refl
mark_named-mark_name mark.Await = refl
mark_named-mark_name mark.TypeOnly = refl
mark_named-mark_name mark.Const = refl
mark_named-mark_name mark.In = refl
mark_named-mark_name mark.Out = refl
mark_named-mark_name mark.Asserts = refl
mark_named-mark_name mark.Postfix = refl
mark_named-mark_name mark.Binary = refl
mark_named-mark_name mark.Octal = refl
mark_named-mark_name mark.Decimal = refl
mark_named-mark_name mark.Hex = refl
mark_named-mark_name mark.Float = refl

-- each mark stands in its place
pub mark_in_place : (one : Mark) → slice_get all_marks (tag_of the_marks one) ≡ Some one
mark_in_place mark.Async = refl
mark_in_place mark.Generator = refl
mark_in_place mark.Declare = refl
mark_in_place mark.Pure = refl
mark_in_place mark.Static = refl
mark_in_place mark.Computed = refl
mark_in_place mark.Abstract = refl
mark_in_place mark.Optional = refl
mark_in_place mark.Definite = refl
mark_in_place mark.Readonly = refl
mark_in_place mark.Override = refl
mark_in_place mark.Public = refl
mark_in_place mark.Private = refl
mark_in_place mark.Protected = refl
mark_in_place mark.Method = refl
mark_in_place mark.Shorthand = refl
mark_in_place mark.Prefix = refl
mark_in_place mark.Delegate = refl
mark_in_place mark.Await = refl
mark_in_place mark.TypeOnly = refl
mark_in_place mark.Const = refl
mark_in_place mark.In = refl
mark_in_place mark.Out = refl
mark_in_place mark.Asserts = refl
mark_in_place mark.Postfix = refl
mark_in_place mark.Binary = refl
mark_in_place mark.Octal = refl
mark_in_place mark.Decimal = refl
mark_in_place mark.Hex = refl
mark_in_place mark.Float = refl
