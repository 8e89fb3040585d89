-- What the definitions give for small programs, by computation.
use Rattle.std.proofs.Common.{◌≡◌, ℕ, List, [], ◌∷◌, Option, Some, None, codes, length, map, option_map, refl}
use Rattle.semantic_syntax.specs.Tables.{Name}
use Rattle.semantic_syntax.specs.declared.symbol_flags.TheConstants.SymbolFlags as symbol
use Rattle.semantic_syntax.specs.declared.reference_flags.TheConstants.ReferenceFlags as way
use Rattle.semantic_syntax.specs.Sets.{union}
use Rattle.semantic_tree.specs.Tree.{Tree}
use Rattle.semantic_model.specs.Step.{steps}
use Rattle.semantic_model.specs.Event.{events}
use Rattle.semantic_model.specs.Fold.{start, Conflict}
use Rattle.semantic_model.specs.Hoist.{run}
use Rattle.semantic_model.specs.TablesOf.{tables_of}
use Rattle.semantic_model.specs.Count.{probes_in_all}
use Rattle.semantic_model.proofs.examples.SmallPrograms.{use_before_var, default_sees_outside, nested_headers, catch_pattern_with_arrow, var_in_catch, function_moves, function_in_module, function_below_lexical, lexical_after_function, function_below_function, function_past_catch_name, function_below_catch_pattern, type_past_value, namespace_of_itself, arguments_outside, declared_twice, catch_in_expression, parameter_decorator, ways, whole}

-- the symbols of the references, and their flags
abbrev ties : Tree → List (Option ℕ)
ties p = map (λ r. r.symbol_id) (tables_of p).references

abbrev reference_flags : Tree → List ℕ
reference_flags p = map (λ r. r.flags.bits) (tables_of p).references

abbrev names : Tree → List Name
names p = map (λ y. y.name) (tables_of p).symbols

abbrev symbol_flags : Tree → List ℕ
symbol_flags p = map (λ y. y.flags.bits) (tables_of p).symbols

abbrev parents : Tree → List (Option ℕ)
parents p = map (λ s. s.parent) (tables_of p).scopes

abbrev conflicts : Tree → List Conflict
conflicts p = (run start (events (steps p))).conflicts

-- a name is tied to the `var` that follows
use_before_var_ties : ties use_before_var ≡ Some 0 ∷ []
use_before_var_ties = refl

-- the default of a parameter does not see the body's variable
default_is_free : (tables_of default_sees_outside).free ≡ (codes "x", 0 ∷ []) ∷ []
default_is_free = refl

default_is_unused : (tables_of default_sees_outside).uses ≡ [] ∷ [] ∷ [] ∷ []
default_is_unused = refl

-- a default in a default sees past both bodies, and asks three scopes
nested_names : names nested_headers ≡ codes "f" ∷ codes "a" ∷ codes "g" ∷ codes "b" ∷ codes "y" ∷ codes "y" ∷ codes "y" ∷ []
nested_names = refl

nested_ties : ties nested_headers ≡ Some 6 ∷ []
nested_ties = refl

nested_asks : probes_in_all (steps nested_headers) ≡ 3
nested_asks = refl

-- scopes: the root, the tried block, the clause, the arrow, the body; the body has taken over the name
catch_parents : parents catch_pattern_with_arrow ≡ None ∷ Some 0 ∷ Some 0 ∷ Some 2 ∷ Some 2 ∷ []
catch_parents = refl

catch_bindings : (tables_of catch_pattern_with_arrow).bindings ≡ [] ∷ [] ∷ [] ∷ [] ∷ ((codes "a", 0) ∷ []) ∷ []
catch_bindings = refl

catch_ties : ties catch_pattern_with_arrow ≡ Some 0 ∷ []
catch_ties = refl

-- a `var` takes the catch name out to its own target: one symbol with two entries and no conflict
var_in_catch_bindings : (tables_of var_in_catch).bindings ≡ ((codes "e", 0) ∷ []) ∷ [] ∷ [] ∷ [] ∷ []
var_in_catch_bindings = refl

var_in_catch_flags : symbol_flags var_in_catch ≡ union symbol.FunctionScopedVariable.bits symbol.CatchVariable.bits ∷ []
var_in_catch_flags = refl

var_in_catch_entries : map (λ y. option_map length y.redeclarations) (tables_of var_in_catch).symbols ≡ Some 2 ∷ []
var_in_catch_entries = refl

var_in_catch_conflicts : conflicts var_in_catch ≡ []
var_in_catch_conflicts = refl

-- a block function of a sloppy script moves out
function_moves_bindings : (tables_of function_moves).bindings ≡ ((codes "f", 0) ∷ []) ∷ [] ∷ [] ∷ []
function_moves_bindings = refl

function_moves_ties : ties function_moves ≡ Some 0 ∷ []
function_moves_ties = refl

-- in a module it stays
function_in_module_bindings : (tables_of function_in_module).bindings ≡ [] ∷ ((codes "f", 0) ∷ []) ∷ [] ∷ []
function_in_module_bindings = refl

function_in_module_ties : ties function_in_module ≡ None ∷ []
function_in_module_ties = refl

-- it stays below a lexical namesake, wherever that is written
function_below_lexical_bindings : (tables_of function_below_lexical).bindings ≡ [] ∷ ((codes "f", 0) ∷ []) ∷ ((codes "f", 1) ∷ []) ∷ [] ∷ []
function_below_lexical_bindings = refl

function_below_lexical_ties : ties function_below_lexical ≡ Some 1 ∷ []
function_below_lexical_ties = refl

lexical_after_function_bindings : (tables_of lexical_after_function).bindings ≡ [] ∷ ((codes "f", 1) ∷ []) ∷ ((codes "f", 0) ∷ []) ∷ [] ∷ []
lexical_after_function_bindings = refl

-- and below a function that has itself moved
function_below_function_bindings : (tables_of function_below_function).bindings ≡ ((codes "f", 0) ∷ []) ∷ [] ∷ [] ∷ ((codes "f", 1) ∷ []) ∷ [] ∷ []
function_below_function_bindings = refl

function_below_function_ties : ties function_below_function ≡ Some 1 ∷ []
function_below_function_ties = refl

-- it moves past a plain catch name, and stays below the names of a catch pattern
function_past_catch_name_bindings : (tables_of function_past_catch_name).bindings ≡ ((codes "f", 1) ∷ []) ∷ [] ∷ [] ∷ ((codes "f", 0) ∷ []) ∷ [] ∷ [] ∷ []
function_past_catch_name_bindings = refl

function_below_catch_pattern_bindings : (tables_of function_below_catch_pattern).bindings ≡ [] ∷ [] ∷ [] ∷ ((codes "f", 0) ∷ []) ∷ ((codes "f", 1) ∷ []) ∷ [] ∷ []
function_below_catch_pattern_bindings = refl

-- a type goes past a value of its name
type_past_value_ties : ties type_past_value ≡ Some 0 ∷ []
type_past_value_ties = refl

type_past_value_flags : reference_flags type_past_value ≡ way.TypeFlag.bits ∷ []
type_past_value_flags = refl

-- a namespace that exports itself has no values; its own export is free
namespace_of_itself_flags : symbol_flags namespace_of_itself ≡ union symbol.NamespaceModule.bits symbol.Ambient.bits ∷ []
namespace_of_itself_flags = refl

namespace_of_itself_ties : ties namespace_of_itself ≡ None ∷ []
namespace_of_itself_ties = refl

-- `arguments` in a function does not reach a variable outside it
arguments_outside_free : (tables_of arguments_outside).free ≡ (codes "arguments", 0 ∷ []) ∷ []
arguments_outside_free = refl

-- two `let`s of one name in one scope: one symbol, two entries, a conflict
declared_twice_entries : map (λ y. option_map length y.redeclarations) (tables_of declared_twice).symbols ≡ Some 2 ∷ []
declared_twice_entries = refl

declared_twice_conflicts : conflicts declared_twice ≡ record { name = codes "a"; earlier = record { start = 4; end = 5 }; later = record { start = 11; end = 12 } } ∷ []
declared_twice_conflicts = refl

-- the own name of a function expression, its catch name and its `let`: three symbols, no conflict
catch_in_expression_names : names catch_in_expression ≡ codes "f" ∷ codes "f" ∷ codes "f" ∷ []
catch_in_expression_names = refl

catch_in_expression_conflicts : conflicts catch_in_expression ≡ []
catch_in_expression_conflicts = refl

-- what a parameter's decorator names stands in the scope around the method
parameter_decorator_references : map (λ r. r.scope_id) (tables_of parameter_decorator).references ≡ 1 ∷ 1 ∷ []
parameter_decorator_references = refl

parameter_decorator_ties : ties parameter_decorator ≡ None ∷ None ∷ []
parameter_decorator_ties = refl

-- the object of a member that is written is read
ways_flags : reference_flags ways ≡ union way.Read.bits way.MemberWriteTarget.bits ∷ union way.Read.bits way.MemberWriteTarget.bits ∷ way.Write.bits ∷ way.Read.bits ∷ []
ways_flags = refl

-- the tables of a whole program
whole_tables : tables_of whole ≡ record {
  scopes = record { parent = None; node = 0; flags = record { bits = 2 } } ∷ record { parent = Some 0; node = 4; flags = record { bits = 4 } } ∷ [];
  bindings = ((codes "a", 0) ∷ (codes "f", 1) ∷ []) ∷ ((codes "b", 2) ∷ []) ∷ [];
  symbols =
      record { name = codes "a"; span = record { start = 4; end = 5 }; flags = symbol.BlockScopedVariable; scope = 0; node = 2; redeclarations = None }
      ∷ record { name = codes "f"; span = record { start = 16; end = 17 }; flags = symbol.Function; scope = 0; node = 4; redeclarations = None }
      ∷ record { name = codes "b"; span = record { start = 18; end = 19 }; flags = symbol.FunctionScopedVariable; scope = 1; node = 7; redeclarations = None } ∷ [];
  references =
      record { node_id = 11; scope_id = 1; flags = way.Read; symbol_id = Some 2 }
      ∷ record { node_id = 14; scope_id = 0; flags = way.Read; symbol_id = Some 1 }
      ∷ record { node_id = 15; scope_id = 0; flags = way.Read; symbol_id = Some 0 } ∷ [];
  uses = (2 ∷ []) ∷ (1 ∷ []) ∷ (0 ∷ []) ∷ [];
  free = [];
  pure_symbols = [];
}
whole_tables = refl
