-- Rows on methods without body, and on the parameters of signatures.
use Rattle.std.specs.Prelude.{List, [], ◌∷◌, ◌++◌, Bool, ◌&&◌, ◌||◌, not, length, nat_lt, codes, flat_map}
use Rattle.std.specs.Str.{bytes_eq}
use Rattle.semantic_kinds.specs.declared.role.Role.TheVariants as roles
use Rattle.semantic_kinds.specs.declared.mark.Mark.TheVariants as mark
use Rattle.semantic_tree.specs.declared.node.Node.{Node}
use Rattle.semantic_tree.specs.Views.{has, has_text, all_in, child_of}
use Rattle.semantic_tree.specs.BoundNames.{bound_names}
use Rattle.semantic_diagnostics.specs.declared.diagnostic.Diagnostic.{Diagnostic}
use Rattle.semantic_diagnostics.specs.Names.{redeclaration}
use Rattle.semantic_diagnostics.specs.Types.{parameter_property_only_in_constructor_impl, accessor_without_body}
use Rattle.check_model.specs.Sight.{Sight}
use Rattle.check_model.specs.Search.{row_if, rows_if, rows_of_some, each_after, find_last}

-- the function of a method that only declares
abbrev pub is_bodiless_value : Node → Bool
is_bodiless_value value = has_text (codes "ts-empty-body") value

-- a parameter that is a property of the class too
abbrev pub is_parameter_property : Node → Bool
is_parameter_property item =
    has mark.Public item || (has mark.Private item || (has mark.Protected item || (has mark.Readonly item || has mark.Override item)))

-- a parameter is no property of the class (TypeScript 2369)
abbrev pub parameter_rows : Node → List Diagnostic
parameter_rows item = row_if (is_parameter_property item) (parameter_property_only_in_constructor_impl item.span)

-- the parameters of a function
abbrev pub items_of : Node → List Node
items_of value = flat_map (all_in roles.Items) (all_in roles.Params value)

-- a getter or a setter
abbrev pub is_accessor : Node → Bool
is_accessor member = has_text (codes "get") member || has_text (codes "set") member

-- what a constructor without body may not have, and which accessors may have none
abbrev pub bodiless_rows : Sight → Node → List Diagnostic
bodiless_rows s value =
    rows_if (has_text (codes "constructor") s.node) (flat_map parameter_rows (items_of value))
    ++ rows_if (is_accessor s.node && not (has mark.Abstract s.node || s.is_ambient)) (rows_of_some (λ key. accessor_without_body key.span ∷ []) (child_of roles.Key s.node))

-- a constructor without body has no parameter properties, and an accessor has a body (TypeScript 2369, 1005)
abbrev pub check_method_definition : Sight → List Diagnostic
check_method_definition s = rows_of_some (λ value. rows_if (is_bodiless_value value) (bodiless_rows s value)) (child_of roles.Value s.node)

-- ---- names of a signature

-- the name stands nowhere before
abbrev pub repeated_rows : List Node → Node → List Diagnostic
repeated_rows earlier name =
    rows_of_some (λ same. redeclaration name.text same.span name.span ∷ []) (find_last (λ other. bytes_eq other.text name.text) earlier)

-- the parameters of a signature have different names (TypeScript 2300)
abbrev pub check_formal_parameters : Sight → List Diagnostic
check_formal_parameters s =
    rows_if (has_text (codes "signature") s.node && nat_lt 1 (length (all_in roles.Items s.node))) (each_after repeated_rows [] (bound_names s.node))
