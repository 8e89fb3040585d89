-- The form of the top object.
use Rattle.std.specs.Prelude.{ℕ, ◌==◌, Bool, false, ◌&&◌, List, [], ◌∷◌, Option, Some, None, codes, find, if◌then◌else◌}
use Rattle.std.specs.Str.{bytes_eq}
use Rattle.serde_json.specs.Data.{Data, Items, Members}
use Rattle.serde_json.specs.Events.{members_len}
use Rattle.serde_json.specs.Find.{get, as_number, as_u64, as_str, as_array, as_object}
use Rattle.semantic_syntax.specs.declared.source_type.Goal.{Goal}
use Rattle.semantic_syntax.specs.declared.source_type.Goal.TheVariants.{Script, Module, CommonJs}
use Rattle.semantic_syntax.specs.declared.source_type.Lang.{Lang}
use Rattle.semantic_syntax.specs.declared.source_type.Lang.TheVariants.{Js, Jsx, Ts, Tsx, Dts}
use Rattle.semantic_syntax.specs.declared.source_type.SourceType.{SourceType}
use Rattle.tree_json.specs.Form.{◌>>=◌, Texts, in_rows, in_list, text_in}
use Rattle.tree_json.specs.Comments.{all_items}

abbrev pub goal_name : Goal → List ℕ
goal_name Script = codes "script"
goal_name Module = codes "module"
goal_name CommonJs = codes "commonjs"

abbrev pub all_goals : List Goal
all_goals = Script ∷ Module ∷ CommonJs ∷ []

unfoldable pub goal_named : List ℕ → Option Goal
goal_named text = find (λ goal. bytes_eq (goal_name goal) text) all_goals

abbrev pub lang_name : Lang → List ℕ
lang_name Js = codes "js"
lang_name Jsx = codes "jsx"
lang_name Ts = codes "ts"
lang_name Tsx = codes "tsx"
lang_name Dts = codes "dts"

abbrev pub all_langs : List Lang
all_langs = Js ∷ Jsx ∷ Ts ∷ Tsx ∷ Dts ∷ []

unfoldable pub lang_named : List ℕ → Option Lang
lang_named text = find (λ lang. bytes_eq (lang_name lang) text) all_langs

-- what the top object holds; in format 2 the list of texts besides
pub record TopForm : Type 0 where
  pub source : List ℕ
  pub source_type : SourceType
  pub comments : Items
  pub texts : Option Items
  pub rows : Items

unfoldable pub text_at : List ℕ → Data → Option (List ℕ)
text_at name d = get name d >>= text_in

unfoldable pub word_at : List ℕ → Data → Option (List ℕ)
word_at name d = get name d >>= as_str

unfoldable pub list_at : List ℕ → Data → Option Items
list_at name d = get name d >>= as_array

unfoldable pub number_at : List ℕ → Data → Option ℕ
number_at name d = get name d >>= as_number >>= as_u64

unfoldable pub goal_at : Data → Option Goal
goal_at d = word_at (codes "goal") d >>= goal_named

unfoldable pub lang_at : Data → Option Lang
lang_at d = word_at (codes "lang") d >>= lang_named

unfoldable pub source_type_at : Data → Option SourceType
source_type_at d = do
  goal ← goal_at d
  lang ← lang_at d
  Some (record { goal = goal; lang = lang })

-- the source, its type, the comments and the rows, beside these texts
abbrev pub parts_of : Data → Option Items → Option TopForm
parts_of d texts = do
  source ← text_at (codes "source") d
  source_type ← source_type_at d
  comments ← list_at (codes "comments") d
  rows ← list_at (codes "rows") d
  Some (record { source = source; source_type = source_type; comments = comments; texts = texts; rows = rows })

abbrev pub are_so_many : ℕ → Option Members → Bool
are_so_many n None = false
are_so_many n (Some members) = members_len members == n

unfoldable pub has_members : ℕ → Data → Bool
has_members n d = are_so_many n (as_object d)

-- format 1 has six members, and format 2 the list of texts besides
abbrev pub texts_for : ℕ → Data → Option (Option Items)
texts_for format d =
    if (format == 1) && has_members 6 d then Some None
    else if (format == 2) && has_members 7 d then (list_at (codes "texts") d >>= (λ texts. Some (Some texts)))
    else None

unfoldable pub texts_at : Data → Option (Option Items)
texts_at d = number_at (codes "format") d >>= (λ format. texts_for format d)

unfoldable pub top_of_data : Data → Option TopForm
top_of_data d = texts_at d >>= parts_of d

-- the texts of rows, if each item is one
abbrev pub texts_in : Option Items → Option Texts
texts_in None = Some in_rows
texts_in (Some items) = all_items text_in items >>= (λ texts. Some (in_list texts))
