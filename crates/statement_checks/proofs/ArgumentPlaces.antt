-- The value of a field is no static block, so one row at most is told of `arguments`.
use Rattle.std.proofs.Common.{◌≡◌, [], ◌∷◌, ◌++◌, Bool, true, false, refl}
use Rattle.std.proofs.lemmas.Bool.{and_parts}
use Rattle.semantic_kinds.specs.declared.kind.AstType.TheVariants as kinds
use Rattle.semantic_tree.specs.Views.{is, is_child_in}
use Rattle.semantic_tree.specs.declared.node.Node.{Node}
use Rattle.semantic_kinds.specs.declared.role.Role.TheVariants as roles
use Rattle.semantic_diagnostics.specs.declared.diagnostic.Diagnostic.{Diagnostic}
use Rattle.semantic_model.proofs.form.Clauses.{kind_is}
use Rattle.check_model.specs.Names.{is_field_value, is_static_block}
use Rattle.check_model.specs.Search.{row_if}

no_block : (link : Node × Node) → is_field_value link ≡ true → is_static_block link ≡ false
no_block link h =
    let property : is kinds.PropertyDefinition link.1 ≡ true = (and_parts (is kinds.PropertyDefinition link.1) (is_child_in roles.Value link.1 link.0) h).0 in
    rw (kind_is link.1.kind kinds.PropertyDefinition property) refl

by_truths : (field block : Bool) (one two : Diagnostic) → field ≡ true → block ≡ false → row_if field one ++ row_if block two ≡ one ∷ []
by_truths true false one two h k = refl
by_truths true true one two h k = absurd cc
by_truths false block one two h k = absurd cc

-- only the first row is told of a field
pub in_field : (link : Node × Node) (one two : Diagnostic) → is_field_value link ≡ true → row_if (is_field_value link) one ++ row_if (is_static_block link) two ≡ one ∷ []
in_field link one two h = by_truths (is_field_value link) (is_static_block link) one two h (no_block link h)

second_by_truths : (field block : Bool) (one two : Diagnostic) → field ≡ false → block ≡ true → row_if field one ++ row_if block two ≡ two ∷ []
second_by_truths false true one two h k = refl
second_by_truths false false one two h k = absurd cc
second_by_truths true block one two h k = absurd cc

-- and only the second one of a static block
pub in_block : (link : Node × Node) (one two : Diagnostic) → is_field_value link ≡ false → is_static_block link ≡ true → row_if (is_field_value link) one ++ row_if (is_static_block link) two ≡ two ∷ []
in_block link one two h k = second_by_truths (is_field_value link) (is_static_block link) one two h k
