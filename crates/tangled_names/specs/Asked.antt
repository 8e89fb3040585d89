-- What is asked of symbols.
use Rattle.std.specs.Prelude.{Bool}
use Rattle.semantic_syntax.specs.Reading.{scope_of}
use Rattle.semantic_syntax.specs.Tables.{Tables, Symbol}
use Rattle.tangle_model.specs.Repeated.{key_stands}
use Rattle.tangle_model.specs.Tangled.{is_seen_by_eval, may_be_passed, is_inner_variable, is_typed_variable, is_flagged}
use Rattle.tangled_names.specs.Stored.{node_key}
use Rattle.tangled_names.specs.declared.symbol_names.Question.{Question}
use Rattle.tangled_names.specs.declared.symbol_names.Question.TheVariants.{SeenByEval, BoundBy, Passed, InnerVariable, TypedVariable, Flagged}

-- whether it is so of a symbol of these tables
abbrev pub asked : Question → Tables → Symbol → Bool
asked SeenByEval t y = is_seen_by_eval t y
asked (BoundBy openers) t y = key_stands (node_key (scope_of t y.scope).node) openers.now
asked Passed t y = may_be_passed y
asked InnerVariable t y = is_inner_variable y
asked TypedVariable t y = is_typed_variable y
asked (Flagged flags) t y = is_flagged flags.bits y
