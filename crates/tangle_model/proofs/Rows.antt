-- What the definitions give for small programs, by computation.
use lib.Utf8.{encode}
use Rattle.std.specs.Str.{chars}
use Rattle.std.proofs.Common.{◌≡◌, [], ◌∷◌, codes, refl}
use Rattle.semantic_syntax.specs.declared.source_type.Lang.TheVariants.{Js, Ts}
use Rattle.tangle_model.specs.Tangled.{tangles}
use Rattle.tangle_model.specs.declared.reason.Reason.TheVariants.{BlockFunction, CatchVariable, Arguments, With, Eval, FreeNamesake, MergedMember, NamespaceNamesake, InferredName, HiddenParameter, IndexParameter, SloppyFunction, ExportedType, TypedVariable, TypedFunctionName}
use Rattle.tangle_model.proofs.Programs.{two_blocks, one_block, two_homes, strict_blocks, special_blocks, block_and_var, if_and_parameter, block_and_own_name, case_and_let, block_and_catch, top_functions, var_in_catch, var_beside_catch, var_arguments, reads_arguments, reference_in_with, var_in_with, with_eval, free_type, free_in_javascript, merged_namespaces, merged_enums, inner_namespace, namespace_in_another, lone_namespace, inner_alias, outer_alias, infer_beside, infers_in_order, stray_infer, constrained, index_signature, inner_function, exported_types, passed_type, type_beside_variable, own_name_beside, own_name_and_alias, own_name_alone}

-- two block functions of one home
row_two_blocks : tangles two_blocks ≡ record { symbol = 0; reasons = BlockFunction ∷ [] } ∷ []
unfolding encode chars
row_two_blocks = refl

-- one alone
row_one_block : tangles one_block ≡ []
unfolding encode chars
row_one_block = refl

-- homes of their own
row_two_homes : tangles two_homes ≡ []
unfolding encode chars
row_two_homes = refl

-- strict code
row_strict_blocks : tangles strict_blocks ≡ []
unfolding encode chars
row_strict_blocks = refl

-- an `async` function and a generator
row_special_blocks : tangles special_blocks ≡ []
unfolding encode chars
row_special_blocks = refl

-- with a `var`
row_block_and_var : tangles block_and_var ≡ record { symbol = 0; reasons = BlockFunction ∷ [] } ∷ []
unfolding encode chars
row_block_and_var = refl

-- the body of an `if`, with a parameter
row_if_and_parameter : tangles if_and_parameter ≡ record { symbol = 1; reasons = BlockFunction ∷ [] } ∷ []
unfolding encode chars
row_if_and_parameter = refl

-- with the name of the function around
row_block_and_own_name : tangles block_and_own_name ≡ record { symbol = 0; reasons = BlockFunction ∷ [] } ∷ []
unfolding encode chars
row_block_and_own_name = refl

-- in a case, with a variable of a loop
row_case_and_let : tangles case_and_let ≡ record { symbol = 0; reasons = BlockFunction ∷ [] } ∷ []
unfolding encode chars
row_case_and_let = refl

-- with a catch name
row_block_and_catch : tangles block_and_catch ≡ record { symbol = 0; reasons = BlockFunction ∷ [] } ∷ []
unfolding encode chars
row_block_and_catch = refl

-- no block
row_top_functions : tangles top_functions ≡ []
unfolding encode chars
row_top_functions = refl

-- a `var` of the catch parameter
row_var_in_catch : tangles var_in_catch ≡ record { symbol = 0; reasons = CatchVariable ∷ [] } ∷ []
unfolding encode chars
row_var_in_catch = refl

-- a `var` that stands beside the clause, and one in a function in it
row_var_beside_catch : tangles var_beside_catch ≡ []
unfolding encode chars
row_var_beside_catch = refl

-- `arguments` declared
row_var_arguments : tangles var_arguments ≡ record { symbol = 1; reasons = Arguments ∷ [] } ∷ []
unfolding encode chars
row_var_arguments = refl

-- used only
row_reads_arguments : tangles reads_arguments ≡ []
unfolding encode chars
row_reads_arguments = refl

-- a reference in a `with`
row_reference_in_with : tangles reference_in_with ≡ record { symbol = 0; reasons = With ∷ [] } ∷ []
unfolding encode chars
row_reference_in_with = refl

-- a `var` there
row_var_in_with : tangles var_in_with ≡ record { symbol = 0; reasons = With ∷ [] } ∷ []
unfolding encode chars
row_var_in_with = refl

-- a direct call of `eval`
row_with_eval : tangles with_eval ≡ record { symbol = 0; reasons = Eval ∷ [] } ∷ record { symbol = 1; reasons = Eval ∷ [] } ∷ record { symbol = 2; reasons = Eval ∷ [] } ∷ []
unfolding encode chars
row_with_eval = refl

-- a qualified name, in TypeScript
row_free_type : tangles free_type ≡ record { symbol = 0; reasons = FreeNamesake ∷ [] } ∷ record { symbol = 1; reasons = FreeNamesake ∷ [] } ∷ []
unfolding encode chars
row_free_type = refl

-- a free name is no reason in JavaScript
row_free_in_javascript : tangles free_in_javascript ≡ []
unfolding encode chars
row_free_in_javascript = refl

-- a namespace that is declared twice
row_merged_namespaces : tangles merged_namespaces ≡ record { symbol = 1; reasons = FreeNamesake ∷ MergedMember ∷ [] } ∷ []
unfolding encode chars
row_merged_namespaces = refl

-- an enum
row_merged_enums : tangles merged_enums ≡ record { symbol = 1; reasons = MergedMember ∷ [] } ∷ record { symbol = 2; reasons = MergedMember ∷ [] } ∷ []
unfolding encode chars
row_merged_enums = refl

-- a namespace in others that have a type of the name around
row_inner_namespace : tangles inner_namespace ≡ record { symbol = 0; reasons = NamespaceNamesake ∷ [] } ∷ record { symbol = 1; reasons = MergedMember ∷ [] } ∷ record { symbol = 2; reasons = MergedMember ∷ NamespaceNamesake ∷ [] } ∷ record { symbol = 4; reasons = MergedMember ∷ [] } ∷ []
unfolding encode chars
row_inner_namespace = refl

-- a namespace and an interface
row_namespace_and_interface : tangles (namespace_in_another Ts) ≡ record { symbol = 1; reasons = NamespaceNamesake ∷ [] } ∷ []
unfolding encode chars
row_namespace_and_interface = refl

-- they are no reason in JavaScript
row_namespace_in_javascript : tangles (namespace_in_another Js) ≡ []
unfolding encode chars
row_namespace_in_javascript = refl

-- a namespace that shares its name with nothing
row_lone_namespace : tangles lone_namespace ≡ []
unfolding encode chars
row_lone_namespace = refl

-- an alias in a namespace
row_inner_alias : tangles inner_alias ≡ record { symbol = 1; reasons = NamespaceNamesake ∷ [] } ∷ []
unfolding encode chars
row_inner_alias = refl

-- one that stands in none
row_outer_alias : tangles outer_alias ≡ []
unfolding encode chars
row_outer_alias = refl

-- a use beside `infer`
row_infer_beside : tangles infer_beside ≡ record { symbol = 1; reasons = InferredName ∷ [] } ∷ []
unfolding encode chars
row_infer_beside = refl

-- uses in the true part, and in an `extends` further in
row_infers_in_order : tangles infers_in_order ≡ []
unfolding encode chars
row_infers_in_order = refl

-- an `infer` in another part
row_stray_infer : tangles stray_infer ≡ record { symbol = 1; reasons = InferredName ∷ [] } ∷ []
unfolding encode chars
row_stray_infer = refl

-- a parameter that the type parameters use
row_hidden_parameter : tangles (constrained (codes "a")) ≡ record { symbol = 2; reasons = HiddenParameter ∷ [] } ∷ []
unfolding encode chars
row_hidden_parameter = refl

-- a parameter of another name
row_other_parameter : tangles (constrained (codes "b")) ≡ []
unfolding encode chars
row_other_parameter = refl

-- the parameter of an index signature
row_index_parameter : tangles (index_signature (codes "k")) ≡ record { symbol = 0; reasons = IndexParameter ∷ [] } ∷ []
unfolding encode chars
row_index_parameter = refl

-- of another name
row_other_index_parameter : tangles (index_signature (codes "j")) ≡ []
unfolding encode chars
row_other_index_parameter = refl

-- a function in a loop of a function
row_inner_function : tangles (inner_function Ts) ≡ record { symbol = 1; reasons = SloppyFunction ∷ [] } ∷ []
unfolding encode chars
row_inner_function = refl

-- it is no reason in JavaScript
row_inner_function_in_javascript : tangles (inner_function Js) ≡ []
unfolding encode chars
row_inner_function_in_javascript = refl

-- what is exported as a type
row_exported_types : tangles exported_types ≡ record { symbol = 0; reasons = ExportedType ∷ [] } ∷ []
unfolding encode chars
row_exported_types = refl

-- a type in a block that a `var` of its name passes
row_passed_type : tangles (passed_type (codes "var") Ts) ≡ record { symbol = 0; reasons = TypedVariable ∷ [] } ∷ []
unfolding encode chars
row_passed_type = refl

-- no `var` passes
row_type_outside : tangles (passed_type (codes "let") Ts) ≡ []
unfolding encode chars
row_type_outside = refl

-- it is no reason in JavaScript
row_passed_type_in_javascript : tangles (passed_type (codes "var") Js) ≡ []
unfolding encode chars
row_passed_type_in_javascript = refl

-- a type beside a `var` in no block
row_type_beside_variable : tangles type_beside_variable ≡ []
unfolding encode chars
row_type_beside_variable = refl

-- the own name of a function expression beside a type parameter
row_typed_own_name : tangles (own_name_beside (codes "f") Ts) ≡ record { symbol = 0; reasons = TypedFunctionName ∷ [] } ∷ []
unfolding encode chars
row_typed_own_name = refl

-- the type parameter has another name
row_other_type_parameter : tangles (own_name_beside (codes "T") Ts) ≡ []
unfolding encode chars
row_other_type_parameter = refl

-- it is no reason in JavaScript
row_typed_own_name_in_javascript : tangles (own_name_beside (codes "f") Js) ≡ []
unfolding encode chars
row_typed_own_name_in_javascript = refl

-- beside a type in the body
row_own_name_and_alias : tangles own_name_and_alias ≡ record { symbol = 0; reasons = TypedFunctionName ∷ [] } ∷ []
unfolding encode chars
row_own_name_and_alias = refl

-- beside no type
row_own_name_alone : tangles own_name_alone ≡ []
unfolding encode chars
row_own_name_alone = refl
