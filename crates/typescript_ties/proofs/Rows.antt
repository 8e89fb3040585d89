-- What the names of small programs mean, and where the tables say something else, by computation. The first row of each is what
-- TypeScript's checker tells of the program, but for the type parameters of a class and an interface of its name, which are one there.
use lib.Utf8.{encode}
use Rattle.std.specs.Str.{chars}
use Rattle.std.proofs.Common.{◌≡◌, ℕ, List, [], ◌∷◌, true, false, map, codes, refl}
use Rattle.tangle_model.specs.Tangled.{tangle_reasons}
use Rattle.tangle_model.specs.declared.reason.Reason.TheVariants as reason
use Rattle.typescript_ties.specs.Resolved.{Resolved, nowhere, declared_in, ResolvedUse, resolved_uses}
use Rattle.typescript_ties.specs.ResolvedTies.{parting_uses}
use Rattle.typescript_ties.specs.TriedNames.{is_simple_name}
use Rattle.typescript_ties.specs.SingleNames.{is_single_name}
use Rattle.typescript_ties.proofs.Programs.{qualified, merged_namespaces, merged_enums, typed_export, exported_namespace, generics, generic_class, overloads, typed_imports, infers, infers_once, mapped, queries, ambient, sloppy_blocks, sloppy_block, strict_blocks, strict_module, local_types, equated, typed_export_inside, index_parameters, hoisted_names, passed_types, own_names, own_types, decorated_parameters, caught_names, caught_types}

abbrev identifiers_of : Resolved → List ℕ
identifiers_of nowhere = []
identifiers_of (declared_in c ids) = ids

abbrev meant_identifiers : ResolvedUse → ℕ × List ℕ
meant_identifiers m = (m.node, identifiers_of m.resolved)

-- a namespace without values is one in a qualified name
qualified_meant : map meant_identifiers (resolved_uses qualified) ≡ (15, 3 ∷ []) ∷ []
unfolding encode chars
qualified_meant = refl

qualified_N_parts : parting_uses qualified (codes "N") ≡ 15 ∷ []
unfolding encode chars
qualified_N_parts = refl

-- blocks of one name see what each exports, and not what another keeps
merged_namespaces_meant : map meant_identifiers (resolved_uses merged_namespaces) ≡ (18, 8 ∷ []) ∷ (20, []) ∷ []
unfolding encode chars
merged_namespaces_meant = refl

merged_namespaces_x_parts : parting_uses merged_namespaces (codes "x") ≡ 18 ∷ []
unfolding encode chars
merged_namespaces_x_parts = refl

merged_namespaces_y_agrees : parting_uses merged_namespaces (codes "y") ≡ []
unfolding encode chars
merged_namespaces_y_agrees = refl

-- declarations of an enum see all members, its namespace none
merged_enums_meant : map meant_identifiers (resolved_uses merged_enums) ≡ (13, 5 ∷ []) ∷ (18, []) ∷ []
unfolding encode chars
merged_enums_meant = refl

merged_enums_a_parts : parting_uses merged_enums (codes "a") ≡ 13 ∷ []
unfolding encode chars
merged_enums_a_parts = refl

-- what is exported as a type may be a value
typed_export_meant : map meant_identifiers (resolved_uses typed_export) ≡ (7, 3 ∷ []) ∷ []
unfolding encode chars
typed_export_meant = refl

typed_export_A_parts : parting_uses typed_export (codes "A") ≡ 7 ∷ []
unfolding encode chars
typed_export_A_parts = refl

-- and a namespace without values
exported_namespace_meant : map meant_identifiers (resolved_uses exported_namespace) ≡ (10, 2 ∷ []) ∷ []
unfolding encode chars
exported_namespace_meant = refl

exported_namespace_N_parts : parting_uses exported_namespace (codes "N") ≡ 10 ∷ []
unfolding encode chars
exported_namespace_N_parts = refl

-- a type parameter is no value
generics_meant : map meant_identifiers (resolved_uses generics) ≡ (12, 6 ∷ []) ∷ (15, 6 ∷ []) ∷ (22, 6 ∷ []) ∷ (24, []) ∷ []
unfolding encode chars
generics_meant = refl

generics_T_agrees : parting_uses generics (codes "T") ≡ []
unfolding encode chars
generics_T_agrees = refl

-- a class and an interface of its name are one, each with its own type parameters
generic_class_meant : map meant_identifiers (resolved_uses generic_class) ≡ (12, 6 ∷ []) ∷ (17, 3 ∷ 39 ∷ []) ∷ (34, 25 ∷ []) ∷ (37, 28 ∷ []) ∷ (48, 42 ∷ []) ∷ []
unfolding encode chars
generic_class_meant = refl

generic_class_C_agrees : parting_uses generic_class (codes "C") ≡ []
unfolding encode chars
generic_class_C_agrees = refl

generic_class_T_agrees : parting_uses generic_class (codes "T") ≡ []
unfolding encode chars
generic_class_T_agrees = refl

generic_class_E_agrees : parting_uses generic_class (codes "E") ≡ []
unfolding encode chars
generic_class_E_agrees = refl

-- overloads are one
overloads_meant : map meant_identifiers (resolved_uses overloads) ≡ (23, 3 ∷ 14 ∷ []) ∷ []
unfolding encode chars
overloads_meant = refl

overloads_f_agrees : parting_uses overloads (codes "f") ≡ []
unfolding encode chars
overloads_f_agrees = refl

-- an import may stand for anything
typed_imports_meant : map meant_identifiers (resolved_uses typed_imports) ≡ (18, 4 ∷ []) ∷ (25, 7 ∷ []) ∷ (32, 11 ∷ []) ∷ (34, 4 ∷ []) ∷ []
unfolding encode chars
typed_imports_meant = refl

typed_imports_A_agrees : parting_uses typed_imports (codes "A") ≡ []
unfolding encode chars
typed_imports_A_agrees = refl

typed_imports_B_agrees : parting_uses typed_imports (codes "B") ≡ []
unfolding encode chars
typed_imports_B_agrees = refl

typed_imports_C_agrees : parting_uses typed_imports (codes "C") ≡ []
unfolding encode chars
typed_imports_C_agrees = refl

-- what `infer` declares is seen in the true part alone
infers_meant : map meant_identifiers (resolved_uses infers) ≡ (13, 10 ∷ []) ∷ (19, 3 ∷ []) ∷ (21, 17 ∷ []) ∷ (23, 3 ∷ []) ∷ []
unfolding encode chars
infers_meant = refl

infers_U_parts : parting_uses infers (codes "U") ≡ 19 ∷ []
unfolding encode chars
infers_U_parts = refl

infers_T_agrees : parting_uses infers (codes "T") ≡ []
unfolding encode chars
infers_T_agrees = refl

-- the key of a mapped type is seen in all of it
mapped_meant : map meant_identifiers (resolved_uses mapped) ≡ (11, 6 ∷ []) ∷ (13, 8 ∷ []) ∷ (16, 6 ∷ []) ∷ (18, 8 ∷ []) ∷ []
unfolding encode chars
mapped_meant = refl

mapped_T_agrees : parting_uses mapped (codes "T") ≡ []
unfolding encode chars
mapped_T_agrees = refl

mapped_k_agrees : parting_uses mapped (codes "k") ≡ []
unfolding encode chars
mapped_k_agrees = refl

-- a parameter is not seen in the type parameters
queries_meant : map meant_identifiers (resolved_uses queries) ≡ (9, 4 ∷ []) ∷ (16, 4 ∷ []) ∷ (22, 14 ∷ []) ∷ (25, 19 ∷ []) ∷ (28, 19 ∷ []) ∷ []
unfolding encode chars
queries_meant = refl

queries_a_parts : parting_uses queries (codes "a") ≡ 16 ∷ []
unfolding encode chars
queries_a_parts = refl

queries_T_agrees : parting_uses queries (codes "T") ≡ []
unfolding encode chars
queries_T_agrees = refl

-- a block that is only declared exports all, and what is declared globally is seen in all of the file
ambient_meant : map meant_identifiers (resolved_uses ambient) ≡ (15, 7 ∷ []) ∷ (26, 19 ∷ []) ∷ []
unfolding encode chars
ambient_meant = refl

ambient_a_parts : parting_uses ambient (codes "a") ≡ 15 ∷ []
unfolding encode chars
ambient_a_parts = refl

ambient_G_parts : parting_uses ambient (codes "G") ≡ 26 ∷ []
unfolding encode chars
ambient_G_parts = refl

-- in sloppy code a function in a block belongs to the function around
sloppy_blocks_meant : map meant_identifiers (resolved_uses sloppy_blocks) ≡ (15, 11 ∷ []) ∷ (17, 11 ∷ []) ∷ []
unfolding encode chars
sloppy_blocks_meant = refl

sloppy_blocks_f_parts : parting_uses sloppy_blocks (codes "f") ≡ 17 ∷ []
unfolding encode chars
sloppy_blocks_f_parts = refl

-- in strict code it stays, also in a module that is only declared
strict_module_meant : map meant_identifiers (resolved_uses strict_module) ≡ (12, 8 ∷ []) ∷ (14, []) ∷ []
unfolding encode chars
strict_module_meant = refl

strict_module_f_agrees : parting_uses strict_module (codes "f") ≡ []
unfolding encode chars
strict_module_f_agrees = refl

strict_blocks_meant : map meant_identifiers (resolved_uses strict_blocks) ≡ (8, 4 ∷ []) ∷ (10, []) ∷ []
unfolding encode chars
strict_blocks_meant = refl

strict_blocks_f_agrees : parting_uses strict_blocks (codes "f") ≡ []
unfolding encode chars
strict_blocks_f_agrees = refl

-- a header does not see the types of the body, and a value is no type
local_types_meant : map meant_identifiers (resolved_uses local_types) ≡ (13, 3 ∷ []) ∷ (24, 16 ∷ []) ∷ (35, 3 ∷ []) ∷ []
unfolding encode chars
local_types_meant = refl

local_types_A_agrees : parting_uses local_types (codes "A") ≡ []
unfolding encode chars
local_types_A_agrees = refl

-- `import =` takes a namespace, which may have no values
equated_meant : map meant_identifiers (resolved_uses equated) ≡ (15, 3 ∷ []) ∷ (19, 3 ∷ []) ∷ (26, 13 ∷ []) ∷ (35, 18 ∷ []) ∷ []
unfolding encode chars
equated_meant = refl

equated_A_parts : parting_uses equated (codes "A") ≡ 15 ∷ 19 ∷ []
unfolding encode chars
equated_A_parts = refl

equated_C_agrees : parting_uses equated (codes "C") ≡ []
unfolding encode chars
equated_C_agrees = refl

equated_D_agrees : parting_uses equated (codes "D") ≡ []
unfolding encode chars
equated_D_agrees = refl

-- a value that is exported as a type, before a type around
typed_export_inside_meant : map meant_identifiers (resolved_uses typed_export_inside) ≡ (12, 6 ∷ []) ∷ []
unfolding encode chars
typed_export_inside_meant = refl

typed_export_inside_A_parts : parting_uses typed_export_inside (codes "A") ≡ 12 ∷ []
unfolding encode chars
typed_export_inside_A_parts = refl

-- the parameter of an index signature is seen in its type
index_parameters_meant : map meant_identifiers (resolved_uses index_parameters) ≡ (17, 12 ∷ []) ∷ []
unfolding encode chars
index_parameters_meant = refl

index_parameters_k_parts : parting_uses index_parameters (codes "k") ≡ 17 ∷ []
unfolding encode chars
index_parameters_k_parts = refl

-- a variable goes out to the function
hoisted_names_meant : map meant_identifiers (resolved_uses hoisted_names) ≡ (8, 6 ∷ []) ∷ (23, 21 ∷ []) ∷ []
unfolding encode chars
hoisted_names_meant = refl

hoisted_names_a_agrees : parting_uses hoisted_names (codes "a") ≡ []
unfolding encode chars
hoisted_names_a_agrees = refl

-- and no type of a block that it passes
passed_types_meant : map meant_identifiers (resolved_uses passed_types) ≡ (16, []) ∷ []
unfolding encode chars
passed_types_meant = refl

passed_types_a_parts : parting_uses passed_types (codes "a") ≡ 16 ∷ []
unfolding encode chars
passed_types_a_parts = refl

passed_types_a_tangled : tangle_reasons passed_types (codes "a") ≡ reason.TypedVariable ∷ []
unfolding encode chars
passed_types_a_tangled = refl

-- a function expression has its name inside of it
own_names_meant : map meant_identifiers (resolved_uses own_names) ≡ (12, 8 ∷ []) ∷ []
unfolding encode chars
own_names_meant = refl

own_names_f_agrees : parting_uses own_names (codes "f") ≡ []
unfolding encode chars
own_names_f_agrees = refl

-- and beside a type of that name, which hides it in the tables
own_types_meant : map meant_identifiers (resolved_uses own_types) ≡ (15, 8 ∷ []) ∷ []
unfolding encode chars
own_types_meant = refl

own_types_f_parts : parting_uses own_types (codes "f") ≡ 15 ∷ []
unfolding encode chars
own_types_f_parts = refl

own_types_f_tangled : tangle_reasons own_types (codes "f") ≡ reason.TypedFunctionName ∷ []
unfolding encode chars
own_types_f_tangled = refl

-- a decorator of a parameter stands outside of the method
decorated_parameters_meant : map meant_identifiers (resolved_uses decorated_parameters) ≡ (15, 4 ∷ []) ∷ (22, 16 ∷ []) ∷ []
unfolding encode chars
decorated_parameters_meant = refl

decorated_parameters_a_agrees : parting_uses decorated_parameters (codes "a") ≡ []
unfolding encode chars
decorated_parameters_a_agrees = refl

-- these forms are reasons by themselves
infers_U_tangled : tangle_reasons infers (codes "U") ≡ reason.InferredName ∷ []
unfolding encode chars
infers_U_tangled = refl

queries_a_tangled : tangle_reasons queries (codes "a") ≡ reason.HiddenParameter ∷ []
unfolding encode chars
queries_a_tangled = refl

sloppy_blocks_f_tangled : tangle_reasons sloppy_blocks (codes "f") ≡ reason.SloppyFunction ∷ []
unfolding encode chars
sloppy_blocks_f_tangled = refl

typed_export_inside_A_tangled : tangle_reasons typed_export_inside (codes "A") ≡ reason.ExportedType ∷ []
unfolding encode chars
typed_export_inside_A_tangled = refl

index_parameters_k_tangled : tangle_reasons index_parameters (codes "k") ≡ reason.IndexParameter ∷ []
unfolding encode chars
index_parameters_k_tangled = refl

-- simple names and others
generic_class_C_simple : is_simple_name generic_class (codes "C") ≡ true
unfolding encode chars
generic_class_C_simple = refl

typed_imports_A_simple : is_simple_name typed_imports (codes "A") ≡ true
unfolding encode chars
typed_imports_A_simple = refl

local_types_A_simple : is_simple_name local_types (codes "A") ≡ true
unfolding encode chars
local_types_A_simple = refl

equated_C_simple : is_simple_name equated (codes "C") ≡ true
unfolding encode chars
equated_C_simple = refl

overloads_f_simple : is_simple_name overloads (codes "f") ≡ true
unfolding encode chars
overloads_f_simple = refl

strict_blocks_f_simple : is_simple_name strict_blocks (codes "f") ≡ true
unfolding encode chars
strict_blocks_f_simple = refl

generics_a_simple : is_simple_name generics (codes "a") ≡ true
unfolding encode chars
generics_a_simple = refl

decorated_parameters_a_simple : is_simple_name decorated_parameters (codes "a") ≡ true
unfolding encode chars
decorated_parameters_a_simple = refl

-- what a clause declares is meant in its body alone
caught_names_meant : map meant_identifiers (resolved_uses caught_names) ≡ (12, 9 ∷ []) ∷ (14, 4 ∷ []) ∷ []
unfolding encode chars
caught_names_meant = refl

caught_names_e_agrees : parting_uses caught_names (codes "e") ≡ []
unfolding encode chars
caught_names_e_agrees = refl

caught_names_e_free_of_reasons : tangle_reasons caught_names (codes "e") ≡ []
unfolding encode chars
caught_names_e_free_of_reasons = refl

-- a type that the body declares by the name joins the clause's symbol
caught_types_meant : map meant_identifiers (resolved_uses caught_types) ≡ (17, 9 ∷ []) ∷ (19, 6 ∷ []) ∷ []
unfolding encode chars
caught_types_meant = refl

caught_types_e_agrees : parting_uses caught_types (codes "e") ≡ []
unfolding encode chars
caught_types_e_agrees = refl

caught_types_e_free_of_reasons : tangle_reasons caught_types (codes "e") ≡ []
unfolding encode chars
caught_types_e_free_of_reasons = refl

hoisted_names_a_simple : is_simple_name hoisted_names (codes "a") ≡ true
unfolding encode chars
hoisted_names_a_simple = refl

generics_T_simple : is_simple_name generics (codes "T") ≡ true
unfolding encode chars
generics_T_simple = refl

passed_types_a_not_simple : is_simple_name passed_types (codes "a") ≡ false
unfolding encode chars
passed_types_a_not_simple = refl

own_names_f_simple : is_simple_name own_names (codes "f") ≡ true
unfolding encode chars
own_names_f_simple = refl

own_types_f_not_simple : is_simple_name own_types (codes "f") ≡ false
unfolding encode chars
own_types_f_not_simple = refl

infers_U_not_simple : is_simple_name infers (codes "U") ≡ false
unfolding encode chars
infers_U_not_simple = refl

queries_a_simple : is_simple_name queries (codes "a") ≡ true
unfolding encode chars
queries_a_simple = refl

sloppy_blocks_f_not_simple : is_simple_name sloppy_blocks (codes "f") ≡ false
unfolding encode chars
sloppy_blocks_f_not_simple = refl

index_parameters_k_simple : is_simple_name index_parameters (codes "k") ≡ true
unfolding encode chars
index_parameters_k_simple = refl

typed_export_A_not_simple : is_simple_name typed_export (codes "A") ≡ false
unfolding encode chars
typed_export_A_not_simple = refl

generic_class_C_free_of_reasons : tangle_reasons generic_class (codes "C") ≡ []
unfolding encode chars
generic_class_C_free_of_reasons = refl

typed_imports_A_free_of_reasons : tangle_reasons typed_imports (codes "A") ≡ []
unfolding encode chars
typed_imports_A_free_of_reasons = refl

local_types_A_free_of_reasons : tangle_reasons local_types (codes "A") ≡ []
unfolding encode chars
local_types_A_free_of_reasons = refl

equated_C_free_of_reasons : tangle_reasons equated (codes "C") ≡ []
unfolding encode chars
equated_C_free_of_reasons = refl

overloads_f_free_of_reasons : tangle_reasons overloads (codes "f") ≡ []
unfolding encode chars
overloads_f_free_of_reasons = refl

-- names with one symbol
infers_once_U_single : is_single_name infers_once (codes "U") ≡ true
unfolding encode chars
infers_once_U_single = refl

infers_once_U_free_of_reasons : tangle_reasons infers_once (codes "U") ≡ []
unfolding encode chars
infers_once_U_free_of_reasons = refl

sloppy_block_f_single : is_single_name sloppy_block (codes "f") ≡ true
unfolding encode chars
sloppy_block_f_single = refl

sloppy_block_f_free_of_reasons : tangle_reasons sloppy_block (codes "f") ≡ []
unfolding encode chars
sloppy_block_f_free_of_reasons = refl

infers_U_not_single : is_single_name infers (codes "U") ≡ false
unfolding encode chars
infers_U_not_single = refl

sloppy_blocks_f_not_single : is_single_name sloppy_blocks (codes "f") ≡ false
unfolding encode chars
sloppy_blocks_f_not_single = refl
