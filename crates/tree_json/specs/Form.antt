-- Which JSON values have the form of a row. JSON strings are seen as bytes, and texts as characters.
use Rattle.std.specs.Prelude.{ℕ, ◌^◌, List, Option, Some, None, option_map, option_and_then, nat_lt, if◌then◌else◌, slice_get}
use Rattle.std.specs.Str.{chars}
use Rattle.serde_json.specs.Data.{Data, Items, no_items, item}
use Rattle.serde_json.specs.Find.{as_number, as_u64, as_str, as_array}
use Rattle.semantic_syntax.specs.declared.spans.Span.{Span}
use Rattle.semantic_kinds.specs.Kinds.{kind_named}
use Rattle.semantic_kinds.specs.Roles.{role_named}
use Rattle.semantic_kinds.specs.Marks.{mark_named}
use Rattle.semantic_kinds.specs.MarkSets.{no_marks, has_mark, with_mark}
use Rattle.semantic_kinds.specs.declared.mark.Mark.{Mark}
use Rattle.semantic_kinds.specs.declared.marks.Marks.{Marks}
use Rattle.semantic_kinds.specs.declared.role.Role.{Role}
use Rattle.semantic_kinds.specs.declared.kind.AstType.{AstType}
use Rattle.tree_json.specs.Lines.{Line}

infixl 10 ◌>>=◌
abbrev pub ◌>>=◌ : {A B : Type 0} → Option A → (A → Option B) → Option B
o >>= f = option_and_then f o

-- where the texts of rows stand: in the rows, or in a list, of which a row tells the place
pub data Texts : Type 0 where
  in_rows : Texts
  in_list : List (List ℕ) → Texts

-- a whole number of 32 bits, and no float
unfoldable pub whole_number : Data → Option ℕ
whole_number d = do
  number ← as_number d
  n ← as_u64 number
  if nat_lt n (2 ^ 32) then Some n else None

-- the characters of a string
unfoldable pub text_in : Data → Option (List ℕ)
text_in d = option_map chars (as_str d)

-- the text that a row's value tells
abbrev pub text_of_data : Texts → Data → Option (List ℕ)
text_of_data in_rows d = text_in d
text_of_data (in_list texts) d = whole_number d >>= slice_get texts

abbrev pub and_mark : Marks → Mark → Option Marks
and_mark marks mark = if has_mark marks mark then None else Some (with_mark marks mark)

-- the marks, and those of the items, none twice
abbrev pub marks_from : Marks → Items → Option Marks
marks_from marks no_items = Some marks
marks_from marks (item d ds) = do
  name ← as_str d
  mark ← mark_named name
  more ← and_mark marks mark
  marks_from more ds

unfoldable pub marks_of_data : Data → Option Marks
marks_of_data d = as_array d >>= marks_from no_marks

unfoldable pub role_of_data : Data → Option Role
role_of_data d = as_str d >>= role_named

unfoldable pub kind_of_data : Data → Option AstType
kind_of_data d = as_str d >>= kind_named

unfoldable pub span_of_data : Data → Data → Option Span
span_of_data start end = do
  start ← whole_number start
  end ← whole_number end
  Some (record { start = start; end = end })

abbrev pub line_of_parts : Texts → Data → Data → Data → Data → Data → Data → Data → Option Line
line_of_parts texts depth role kind start end text marks = do
  depth ← whole_number depth
  role ← role_of_data role
  kind ← kind_of_data kind
  span ← span_of_data start end
  text ← text_of_data texts text
  marks ← marks_of_data marks
  Some (record { depth = depth; role = role; kind = kind; span = span; text = text; marks = marks })

-- a row is a list of seven values
abbrev pub line_of_items : Texts → Items → Option Line
line_of_items texts (item depth (item role (item kind (item start (item end (item text (item marks no_items))))))) = line_of_parts texts depth role kind start end text marks
line_of_items texts _ = None

abbrev pub line_of_data : Texts → Data → Option Line
line_of_data texts d = as_array d >>= line_of_items texts
