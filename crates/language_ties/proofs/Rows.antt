-- What the names of small programs mean, and where the tables say something else, by computation.
use lib.Utf8.{encode}
use Rattle.std.specs.Str.{chars}
use Rattle.std.proofs.Common.{◌≡◌, [], ◌∷◌, codes, true, refl}
use Rattle.tangle_model.specs.Tangled.{tangle_reasons}
use Rattle.tangle_model.specs.declared.reason.Reason.TheVariants.{BlockFunction, CatchVariable, With}
use Rattle.tangle_model.proofs.Programs.{two_blocks}
use Rattle.language_ties.specs.Agreement.{differing}
use Rattle.language_ties.specs.EarlyErrors.{has_clash}
use Rattle.language_ties.specs.Meaning.{meanings, unbound, of_object, bound}
use Rattle.language_ties.specs.declared.environment_kind.EnvironmentKind.TheVariants.{ArrowParameters, Block, Body, Catch, Class, Global, IfBody, Loop, Object, OwnName, Parameters, StaticBlock}
use Rattle.language_ties.proofs.Programs.{one_block, barred_block, strict_block, header_and_var, parameter_and_var, own_name, own_name_and_var, classes, loops, cases, catches, arrows, in_module, if_body, labelled, special_blocks, reads_arguments}
use Rattle.language_ties.proofs.PartingPrograms.{own_name_and_catch, own_name_and_block, catch_and_block, let_and_if, if_and_parameter, catch_and_var, in_with, block_and_var, clash}

-- a function in a block: its block binds it, and the script its variable
one_block_meant : meanings one_block ≡ record { node = 7; meaning = bound (record { kind = Block; maker = 1 }) (3 ∷ []) } ∷ record { node = 9; meaning = bound (record { kind = Global; maker = 0 }) (3 ∷ []) } ∷ []
unfolding encode chars
one_block_meant = refl

one_block_f_agrees : differing one_block (codes "f") ≡ []
unfolding encode chars
one_block_f_agrees = refl

-- a `let` between bars the variable
barred_block_meant : meanings barred_block ≡ record { node = 11; meaning = bound (record { kind = Block; maker = 5 }) (7 ∷ []) } ∷ record { node = 13; meaning = bound (record { kind = Block; maker = 1 }) (4 ∷ []) } ∷ record { node = 15; meaning = unbound } ∷ []
unfolding encode chars
barred_block_meant = refl

barred_block_f_agrees : differing barred_block (codes "f") ≡ []
unfolding encode chars
barred_block_f_agrees = refl

-- strict code has no such variable
strict_block_meant : meanings strict_block ≡ record { node = 9; meaning = bound (record { kind = Block; maker = 3 }) (5 ∷ []) } ∷ record { node = 11; meaning = unbound } ∷ []
unfolding encode chars
strict_block_meant = refl

strict_block_f_agrees : differing strict_block (codes "f") ≡ []
unfolding encode chars
strict_block_f_agrees = refl

-- a header does not see the variables of the body
header_and_var_meant : meanings header_and_var ≡ record { node = 6; meaning = unbound } ∷ record { node = 9; meaning = bound (record { kind = Parameters; maker = 1 }) (5 ∷ []) } ∷ record { node = 17; meaning = bound (record { kind = Body; maker = 1 }) (13 ∷ []) } ∷ record { node = 19; meaning = bound (record { kind = Body; maker = 1 }) (15 ∷ []) } ∷ record { node = 21; meaning = unbound } ∷ []
unfolding encode chars
header_and_var_meant = refl

header_and_var_a_agrees : differing header_and_var (codes "a") ≡ []
unfolding encode chars
header_and_var_a_agrees = refl

header_and_var_x_agrees : differing header_and_var (codes "x") ≡ []
unfolding encode chars
header_and_var_x_agrees = refl

-- without expressions a parameter and a variable of its name are one
parameter_and_var_meant : meanings parameter_and_var ≡ record { node = 11; meaning = bound (record { kind = Parameters; maker = 1 }) (5 ∷ 9 ∷ []) } ∷ record { node = 17; meaning = bound (record { kind = Block; maker = 12 }) (15 ∷ []) } ∷ []
unfolding encode chars
parameter_and_var_meant = refl

parameter_and_var_a_agrees : differing parameter_and_var (codes "a") ≡ []
unfolding encode chars
parameter_and_var_a_agrees = refl

-- the own name of a function expression
own_name_meant : meanings own_name ≡ record { node = 8; meaning = bound (record { kind = OwnName; maker = 3 }) (4 ∷ []) } ∷ record { node = 11; meaning = bound (record { kind = OwnName; maker = 3 }) (4 ∷ []) } ∷ record { node = 17; meaning = bound (record { kind = Block; maker = 12 }) (15 ∷ []) } ∷ []
unfolding encode chars
own_name_meant = refl

own_name_f_agrees : differing own_name (codes "f") ≡ []
unfolding encode chars
own_name_f_agrees = refl

-- a variable of the body hides it there, not in the header
own_name_and_var_meant : meanings own_name_and_var ≡ record { node = 8; meaning = bound (record { kind = OwnName; maker = 3 }) (4 ∷ []) } ∷ record { node = 14; meaning = bound (record { kind = Body; maker = 3 }) (12 ∷ []) } ∷ []
unfolding encode chars
own_name_and_var_meant = refl

own_name_and_var_f_agrees : differing own_name_and_var (codes "f") ≡ []
unfolding encode chars
own_name_and_var_f_agrees = refl

-- a class has its name inside, too
classes_meant : meanings classes ≡ record { node = 4; meaning = bound (record { kind = Class; maker = 1 }) (2 ∷ []) } ∷ record { node = 7; meaning = bound (record { kind = Class; maker = 1 }) (2 ∷ []) } ∷ record { node = 12; meaning = bound (record { kind = Class; maker = 1 }) (2 ∷ []) } ∷ record { node = 18; meaning = bound (record { kind = StaticBlock; maker = 13 }) (16 ∷ []) } ∷ record { node = 30; meaning = bound (record { kind = Class; maker = 21 }) (22 ∷ []) } ∷ record { node = 32; meaning = unbound } ∷ record { node = 34; meaning = bound (record { kind = Global; maker = 0 }) (2 ∷ []) } ∷ record { node = 36; meaning = unbound } ∷ []
unfolding encode chars
classes_meant = refl

classes_C_agrees : differing classes (codes "C") ≡ []
unfolding encode chars
classes_C_agrees = refl

classes_D_agrees : differing classes (codes "D") ≡ []
unfolding encode chars
classes_D_agrees = refl

classes_a_agrees : differing classes (codes "a") ≡ []
unfolding encode chars
classes_a_agrees = refl

-- what the head of a loop declares is seen in all of the loop
loops_meant : meanings loops ≡ record { node = 5; meaning = bound (record { kind = Loop; maker = 1 }) (4 ∷ []) } ∷ record { node = 8; meaning = bound (record { kind = Loop; maker = 1 }) (4 ∷ []) } ∷ record { node = 16; meaning = bound (record { kind = Global; maker = 0 }) (11 ∷ []) } ∷ record { node = 18; meaning = bound (record { kind = Loop; maker = 12 }) (15 ∷ []) } ∷ record { node = 20; meaning = unbound } ∷ []
unfolding encode chars
loops_meant = refl

loops_a_agrees : differing loops (codes "a") ≡ []
unfolding encode chars
loops_a_agrees = refl

loops_b_agrees : differing loops (codes "b") ≡ []
unfolding encode chars
loops_b_agrees = refl

-- cases are a block, past the discriminant
cases_meant : meanings cases ≡ record { node = 2; meaning = unbound } ∷ record { node = 4; meaning = bound (record { kind = Block; maker = 1 }) (7 ∷ []) } ∷ record { node = 10; meaning = bound (record { kind = Block; maker = 1 }) (7 ∷ []) } ∷ []
unfolding encode chars
cases_meant = refl

cases_a_agrees : differing cases (codes "a") ≡ []
unfolding encode chars
cases_a_agrees = refl

-- catch names, plain and in a pattern
catches_meant : meanings catches ≡ record { node = 8; meaning = bound (record { kind = Catch; maker = 3 }) (5 ∷ []) } ∷ record { node = 22; meaning = bound (record { kind = Catch; maker = 15 }) (25 ∷ []) } ∷ record { node = 28; meaning = bound (record { kind = Catch; maker = 15 }) (21 ∷ []) } ∷ record { node = 30; meaning = bound (record { kind = Catch; maker = 15 }) (25 ∷ []) } ∷ record { node = 32; meaning = bound (record { kind = Global; maker = 0 }) (12 ∷ []) } ∷ record { node = 34; meaning = unbound } ∷ record { node = 36; meaning = unbound } ∷ []
unfolding encode chars
catches_meant = refl

catches_a_agrees : differing catches (codes "a") ≡ []
unfolding encode chars
catches_a_agrees = refl

catches_b_agrees : differing catches (codes "b") ≡ []
unfolding encode chars
catches_b_agrees = refl

catches_c_agrees : differing catches (codes "c") ≡ []
unfolding encode chars
catches_c_agrees = refl

catches_e_agrees : differing catches (codes "e") ≡ []
unfolding encode chars
catches_e_agrees = refl

-- arrows
arrows_meant : meanings arrows ≡ record { node = 8; meaning = bound (record { kind = ArrowParameters; maker = 4 }) (7 ∷ []) } ∷ record { node = 20; meaning = bound (record { kind = ArrowParameters; maker = 12 }) (15 ∷ []) } ∷ record { node = 26; meaning = bound (record { kind = Body; maker = 12 }) (24 ∷ []) } ∷ record { node = 28; meaning = bound (record { kind = Global; maker = 0 }) (31 ∷ []) } ∷ []
unfolding encode chars
arrows_meant = refl

arrows_a_agrees : differing arrows (codes "a") ≡ []
unfolding encode chars
arrows_a_agrees = refl

arrows_b_agrees : differing arrows (codes "b") ≡ []
unfolding encode chars
arrows_b_agrees = refl

arrows_c_agrees : differing arrows (codes "c") ≡ []
unfolding encode chars
arrows_c_agrees = refl

-- a module
in_module_meant : meanings in_module ≡ record { node = 14; meaning = bound (record { kind = Block; maker = 8 }) (10 ∷ []) } ∷ record { node = 16; meaning = unbound } ∷ record { node = 18; meaning = bound (record { kind = Global; maker = 0 }) (3 ∷ []) } ∷ record { node = 20; meaning = unbound } ∷ record { node = 22; meaning = bound (record { kind = Global; maker = 0 }) (6 ∷ []) } ∷ record { node = 25; meaning = bound (record { kind = Global; maker = 0 }) (6 ∷ []) } ∷ []
unfolding encode chars
in_module_meant = refl

in_module_a_agrees : differing in_module (codes "a") ≡ []
unfolding encode chars
in_module_a_agrees = refl

in_module_b_agrees : differing in_module (codes "b") ≡ []
unfolding encode chars
in_module_b_agrees = refl

in_module_c_agrees : differing in_module (codes "c") ≡ []
unfolding encode chars
in_module_c_agrees = refl

in_module_f_agrees : differing in_module (codes "f") ≡ []
unfolding encode chars
in_module_f_agrees = refl

-- the body of an `if` is as in a block
if_body_meant : meanings if_body ≡ record { node = 8; meaning = bound (record { kind = IfBody; maker = 3 }) (4 ∷ []) } ∷ record { node = 10; meaning = bound (record { kind = Global; maker = 0 }) (4 ∷ []) } ∷ []
unfolding encode chars
if_body_meant = refl

if_body_f_agrees : differing if_body (codes "f") ≡ []
unfolding encode chars
if_body_f_agrees = refl

-- labels are seen through
labelled_meant : meanings labelled ≡ record { node = 9; meaning = bound (record { kind = Global; maker = 0 }) (5 ∷ []) } ∷ []
unfolding encode chars
labelled_meant = refl

labelled_f_agrees : differing labelled (codes "f") ≡ []
unfolding encode chars
labelled_f_agrees = refl

-- an `async` function and a generator stay
special_blocks_meant : meanings special_blocks ≡ record { node = 7; meaning = bound (record { kind = Block; maker = 1 }) (3 ∷ []) } ∷ record { node = 14; meaning = unbound } ∷ record { node = 16; meaning = unbound } ∷ []
unfolding encode chars
special_blocks_meant = refl

special_blocks_f_agrees : differing special_blocks (codes "f") ≡ []
unfolding encode chars
special_blocks_f_agrees = refl

special_blocks_g_agrees : differing special_blocks (codes "g") ≡ []
unfolding encode chars
special_blocks_g_agrees = refl

-- a function binds `arguments` by itself, an arrow does not
reads_arguments_meant : meanings reads_arguments ≡ record { node = 6; meaning = bound (record { kind = Parameters; maker = 1 }) ([]) } ∷ record { node = 12; meaning = bound (record { kind = Parameters; maker = 1 }) ([]) } ∷ record { node = 14; meaning = unbound } ∷ []
unfolding encode chars
reads_arguments_meant = refl

reads_arguments_arguments_agrees : differing reads_arguments (codes "arguments") ≡ []
unfolding encode chars
reads_arguments_arguments_agrees = refl

-- two functions in blocks have one variable, and two symbols
two_blocks_meant : meanings two_blocks ≡ record { node = 12; meaning = bound (record { kind = Global; maker = 0 }) (3 ∷ 8 ∷ []) } ∷ []
unfolding encode chars
two_blocks_meant = refl

two_blocks_f_tangled : tangle_reasons two_blocks (codes "f") ≡ BlockFunction ∷ []
unfolding encode chars
two_blocks_f_tangled = refl

two_blocks_f_differs : differing two_blocks (codes "f") ≡ 12 ∷ []
unfolding encode chars
two_blocks_f_differs = refl

-- a `var` past a catch name
own_name_and_catch_meant : meanings own_name_and_catch ≡ record { node = 8; meaning = bound (record { kind = Parameters; maker = 3 }) (17 ∷ []) } ∷ []
unfolding encode chars
own_name_and_catch_meant = refl

own_name_and_catch_f_tangled : tangle_reasons own_name_and_catch (codes "f") ≡ CatchVariable ∷ []
unfolding encode chars
own_name_and_catch_f_tangled = refl

own_name_and_catch_f_differs : differing own_name_and_catch (codes "f") ≡ 8 ∷ []
unfolding encode chars
own_name_and_catch_f_differs = refl

-- a function in a block past the own name
own_name_and_block_meant : meanings own_name_and_block ≡ record { node = 8; meaning = bound (record { kind = Parameters; maker = 3 }) (11 ∷ []) } ∷ []
unfolding encode chars
own_name_and_block_meant = refl

own_name_and_block_f_tangled : tangle_reasons own_name_and_block (codes "f") ≡ BlockFunction ∷ []
unfolding encode chars
own_name_and_block_f_tangled = refl

own_name_and_block_f_differs : differing own_name_and_block (codes "f") ≡ 8 ∷ []
unfolding encode chars
own_name_and_block_f_differs = refl

-- a function in a block past a catch name
catch_and_block_meant : meanings catch_and_block ≡ record { node = 13; meaning = bound (record { kind = Block; maker = 7 }) (9 ∷ []) } ∷ []
unfolding encode chars
catch_and_block_meant = refl

catch_and_block_a_tangled : tangle_reasons catch_and_block (codes "a") ≡ BlockFunction ∷ []
unfolding encode chars
catch_and_block_a_tangled = refl

catch_and_block_a_differs : differing catch_and_block (codes "a") ≡ 13 ∷ []
unfolding encode chars
catch_and_block_a_differs = refl

-- the body of an `if` beside a `let`
let_and_if_meant : meanings let_and_if ≡ record { node = 12; meaning = bound (record { kind = Global; maker = 0 }) (3 ∷ []) } ∷ []
unfolding encode chars
let_and_if_meant = refl

let_and_if_b_tangled : tangle_reasons let_and_if (codes "b") ≡ BlockFunction ∷ []
unfolding encode chars
let_and_if_b_tangled = refl

let_and_if_b_differs : differing let_and_if (codes "b") ≡ 12 ∷ []
unfolding encode chars
let_and_if_b_differs = refl

-- and beside a parameter
if_and_parameter_meant : meanings if_and_parameter ≡ record { node = 15; meaning = bound (record { kind = Parameters; maker = 1 }) (5 ∷ []) } ∷ record { node = 17; meaning = bound (record { kind = Parameters; maker = 1 }) (5 ∷ []) } ∷ []
unfolding encode chars
if_and_parameter_meant = refl

if_and_parameter_a_tangled : tangle_reasons if_and_parameter (codes "a") ≡ BlockFunction ∷ []
unfolding encode chars
if_and_parameter_a_tangled = refl

if_and_parameter_a_differs : differing if_and_parameter (codes "a") ≡ 15 ∷ []
unfolding encode chars
if_and_parameter_a_differs = refl

-- a `var` of a catch name is another variable of the same symbol
catch_and_var_meant : meanings catch_and_var ≡ record { node = 11; meaning = bound (record { kind = Catch; maker = 3 }) (5 ∷ []) } ∷ record { node = 13; meaning = bound (record { kind = Global; maker = 0 }) (9 ∷ []) } ∷ []
unfolding encode chars
catch_and_var_meant = refl

catch_and_var_e_agrees : differing catch_and_var (codes "e") ≡ []
unfolding encode chars
catch_and_var_e_agrees = refl

-- in a `with` the object may have the name
in_with_meant : meanings in_with ≡ record { node = 5; meaning = bound (record { kind = Global; maker = 0 }) (3 ∷ []) } ∷ record { node = 8; meaning = of_object (record { kind = Object; maker = 4 }) } ∷ []
unfolding encode chars
in_with_meant = refl

in_with_a_tangled : tangle_reasons in_with (codes "a") ≡ With ∷ []
unfolding encode chars
in_with_a_tangled = refl

in_with_a_differs : differing in_with (codes "a") ≡ 8 ∷ []
unfolding encode chars
in_with_a_differs = refl

-- a function in a block and a `var`
block_and_var_meant : meanings block_and_var ≡ record { node = 10; meaning = bound (record { kind = Block; maker = 4 }) (6 ∷ []) } ∷ record { node = 12; meaning = bound (record { kind = Global; maker = 0 }) (3 ∷ 6 ∷ []) } ∷ []
unfolding encode chars
block_and_var_meant = refl

block_and_var_a_tangled : tangle_reasons block_and_var (codes "a") ≡ BlockFunction ∷ []
unfolding encode chars
block_and_var_a_tangled = refl

block_and_var_a_differs : differing block_and_var (codes "a") ≡ 12 ∷ []
unfolding encode chars
block_and_var_a_differs = refl

-- a `var` that passes a `let` of its name, which is an early error
clash_meant : meanings clash ≡ record { node = 18; meaning = bound (record { kind = Global; maker = 0 }) (8 ∷ 16 ∷ []) } ∷ []
unfolding encode chars
clash_meant = refl

clash_clashes : has_clash clash (codes "a") ≡ true
unfolding encode chars
clash_clashes = refl

clash_a_differs : differing clash (codes "a") ≡ 18 ∷ []
unfolding encode chars
clash_a_differs = refl
