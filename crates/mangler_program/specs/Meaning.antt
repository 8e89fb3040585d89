-- What each status of the program means.
use Rattle.std.specs.Prelude.{◌≡◌, ◌≤◌, ℕ, List, Option, Some, None, Result, String, codes}
use Rattle.std.specs.declared.alloc.Global.{Global}
use Rattle.serde_json.specs.Written.{compact_text}
use Rattle.semantic_syntax.specs.Tables.{Name}
use Rattle.semantic_tree.specs.Tree.{Tree}
use Rattle.tree_json.specs.Form.{in_rows}
use Rattle.tree_json.specs.Written.{program_data}
use Rattle.report_ends.specs.declared.error.ReportError.{ReportError}
use Rattle.program_ends.specs.Answering.{EndsBy}
use Rattle.program_ends.specs.Calls.{SourceCall, SinkCall}
use Rattle.program_ends.specs.Lines.{tree_line}
use Rattle.program_ends.specs.Meaning.{End, Finds}
use Rattle.program_ends.specs.Meaning as ends
use Rattle.program_ends.specs.Reads.{Stands, RefusedFor}
use Rattle.mangle_model.specs.Mangling.{IsMangled}
use Rattle.mangle_model.specs.MayMangle.{Options}
use Rattle.mangle_model.specs.OneNameEach.{simply_mangled}
use Rattle.mangle_model.specs.Written.{size_written}
use Rattle.mangler_program.specs.Codes.{end_of}
use Rattle.mangler_program.specs.Words.{asked_by}
use Rattle.mangler_program.specs.declared.status.MangleStatus.{MangleStatus}

abbrev pub usage_line : List ℕ
usage_line = codes "usage: mangler [--toplevel]\n"

-- the written form of a program
abbrev pub program_text : Tree → List ℕ
program_text q = compact_text (program_data in_rows q)

-- ---- what is answered

-- the text is that of the program, mangled, with names that are not longer than those of the simple mangler
pub record IsMangledText (o : Options) (p : Tree) (text : List ℕ) : Type 0 where
  pub program : Tree
  pub names : List (Option Name)
  pub is_mangled : IsMangled o p names program
  pub length : size_written program ≤ size_written (simply_mangled o p)
  pub told : text ≡ program_text program

pub record Answers (o : Options) (end : End) (p : Tree) (text : List ℕ) : Type 0 where
  pub mangled : IsMangledText o p text
  pub ends : end ≡ ends.done

-- what becomes of the input, before it is told
abbrev pub Ends : Options → SourceCall → SinkCall → Result MangleStatus ReportError → Type 0
Ends o source out result = EndsBy end_of (Unit {0}) (Finds Stands) (Answers o) source out result

-- ---- the whole program

-- the words ask for something
abbrev pub IsAsked : Option Options → Type 0
IsAsked None = ⊥
IsAsked (Some o) = Unit {0}

abbrev pub AnswersTo : Option Options → End → Tree → List ℕ → Type 0
AnswersTo None end p text = ⊥
AnswersTo (Some o) end p text = Answers o end p text

-- nothing is refused about a good input
abbrev pub RefusesNone : Tree → List ℕ → Type 0
RefusesNone p line = ⊥

-- what the program has done at a status, by what the words ask for
abbrev pub MeansBy : Option Options → SourceCall → SinkCall → SinkCall → MangleStatus → Type 0
MeansBy asked source out errs status = ends.Means (IsAsked asked) usage_line Stands RefusedFor tree_line (AnswersTo asked) RefusesNone source out errs (end_of status)

-- What the program has done at each status.
abbrev pub Means : SourceCall → SinkCall → SinkCall → List (String Global) → MangleStatus → Type 0
Means source out errs words status = MeansBy (asked_by words) source out errs status
