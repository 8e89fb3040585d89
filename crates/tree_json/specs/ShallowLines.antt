-- The lines of a listing, if none is too deep.
use Rattle.std.specs.Prelude.{List, Result, Ok}
use Rattle.semantic_tree.specs.declared.error.TreeError.{TreeError}
use Rattle.tree_json.specs.Lines.{Line}
use Rattle.tree_json.specs.Outcome.{◌>>=◌}
use Rattle.tree_json.specs.Reading.{shallow_from}

abbrev pub shallow_lines : List Line → Result (List Line) TreeError
shallow_lines ls = shallow_from 0 ls >>= λ _. Ok ls
