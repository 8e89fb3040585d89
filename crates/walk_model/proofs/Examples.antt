-- What the walk gives for small programs is what the definitions give, by computation.
use Rattle.std.proofs.Common.{◌≡◌, refl}
use Rattle.semantic_syntax.specs.Source.{chain_within}
use Rattle.semantic_model.specs.Step.{steps}
use Rattle.semantic_model.specs.Event.{events}
use Rattle.semantic_model.specs.Fold.{start}
use Rattle.semantic_model.specs.Hoist.{run}
use Rattle.semantic_model.specs.TablesOf.{tables_of}
use Rattle.semantic_model.proofs.examples.SmallPrograms.{use_before_var, default_sees_outside, nested_headers, catch_pattern_with_arrow, var_in_catch, function_moves, function_in_module, function_below_lexical, lexical_after_function, function_below_function, function_past_catch_name, function_below_catch_pattern, type_past_value, namespace_of_itself, arguments_outside, declared_twice, catch_in_expression, parameter_decorator, ways, whole}
use Rattle.walk_model.specs.Walks.{walked}

use_before_var_is : (walked use_before_var).tables ≡ tables_of use_before_var
unfolding chain_within
use_before_var_is = refl

default_sees_outside_is : (walked default_sees_outside).tables ≡ tables_of default_sees_outside
unfolding chain_within
default_sees_outside_is = refl

nested_headers_is : (walked nested_headers).tables ≡ tables_of nested_headers
unfolding chain_within
nested_headers_is = refl

catch_pattern_with_arrow_is : (walked catch_pattern_with_arrow).tables ≡ tables_of catch_pattern_with_arrow
unfolding chain_within
catch_pattern_with_arrow_is = refl

var_in_catch_is : (walked var_in_catch).tables ≡ tables_of var_in_catch
var_in_catch_is = refl

function_moves_is : (walked function_moves).tables ≡ tables_of function_moves
unfolding chain_within
function_moves_is = refl

function_in_module_is : (walked function_in_module).tables ≡ tables_of function_in_module
unfolding chain_within
function_in_module_is = refl

function_below_lexical_is : (walked function_below_lexical).tables ≡ tables_of function_below_lexical
unfolding chain_within
function_below_lexical_is = refl

lexical_after_function_is : (walked lexical_after_function).tables ≡ tables_of lexical_after_function
lexical_after_function_is = refl

function_below_function_is : (walked function_below_function).tables ≡ tables_of function_below_function
unfolding chain_within
function_below_function_is = refl

function_past_catch_name_is : (walked function_past_catch_name).tables ≡ tables_of function_past_catch_name
function_past_catch_name_is = refl

function_below_catch_pattern_is : (walked function_below_catch_pattern).tables ≡ tables_of function_below_catch_pattern
function_below_catch_pattern_is = refl

type_past_value_is : (walked type_past_value).tables ≡ tables_of type_past_value
unfolding chain_within
type_past_value_is = refl

namespace_of_itself_is : (walked namespace_of_itself).tables ≡ tables_of namespace_of_itself
unfolding chain_within
namespace_of_itself_is = refl

arguments_outside_is : (walked arguments_outside).tables ≡ tables_of arguments_outside
unfolding chain_within
arguments_outside_is = refl

declared_twice_is : (walked declared_twice).tables ≡ tables_of declared_twice
declared_twice_is = refl

declared_twice_conflicts : (walked declared_twice).conflicts ≡ (run start (events (steps declared_twice))).conflicts
declared_twice_conflicts = refl

catch_in_expression_is : (walked catch_in_expression).tables ≡ tables_of catch_in_expression
catch_in_expression_is = refl

parameter_decorator_is : (walked parameter_decorator).tables ≡ tables_of parameter_decorator
unfolding chain_within
parameter_decorator_is = refl

ways_is : (walked ways).tables ≡ tables_of ways
unfolding chain_within
ways_is = refl

whole_is : (walked whole).tables ≡ tables_of whole
unfolding chain_within
whole_is = refl
