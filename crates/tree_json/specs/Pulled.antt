-- What is pulled from the tokens of a JSON text, one after the other.
use Rattle.std.specs.Prelude.{◌≡◌, ℕ, ◌<◌, ◌≤◌, ◌^◌, List, [], ◌∷◌, ◌++◌, map, codes, Option, Some, None}
use Rattle.std.specs.Str.{chars}
use Rattle.json.specs.Token.{Token}
use Rattle.json.specs.Tree.{json_tokens, items_tokens, depth, items_depth}
use Rattle.json.specs.Json as json
use Rattle.serde_json.specs.Data.{Data, unsigned, Items}
use Rattle.serde_json.specs.Find.{as_array}
use Rattle.serde_json.specs.Read.{number_of, of_json, of_items}
use Rattle.semantic_syntax.specs.declared.source_type.SourceType.{SourceType}
use Rattle.semantic_syntax.specs.declared.spans.Span.{Span}
use Rattle.semantic_kinds.specs.Kinds.{kind_named}
use Rattle.semantic_kinds.specs.Roles.{role_named}
use Rattle.tree_json.specs.Comments.{comment_of_data, all_items}
use Rattle.tree_json.specs.Form.{◌>>=◌, in_rows, line_of_data}
use Rattle.tree_json.specs.Listing.{line}
use Rattle.tree_json.specs.Top.{TopForm, goal_named, lang_named, top_of_data}
use Rattle.tree_json.specs.declared.pull_top.Pulled.{Pulled}
use Rattle.tree_json.specs.declared.row.Row.{Row}

-- the tokens that are still to come
abbrev pub Tokens : Type 0
Tokens = List Token

-- of the tokens `old`, the first is a whole number of 32 bits, and `new` are the others
abbrev pub PullsNumber : Tokens → ℕ → Tokens → Type 0
PullsNumber old n new = (s : List ℕ) × (old ≡ Token.number s ∷ new) × (number_of s ≡ Some (unsigned n)) × (n < 2 ^ 32)

-- the first two are the numbers of a span
abbrev pub IsSpan : Tokens → Span → Tokens → Type 0
IsSpan old span new = (mid : Tokens) × PullsNumber old span.start mid × PullsNumber mid span.end new

-- the first tokens are those of a value, which is this data, and `new` are the others; arrays and objects nest at most so deep
pub record IsValue (deepest : ℕ) (old : Tokens) (d : Data) (new : Tokens) : Type 0 where
  pub value : json.Json
  pub tokens : old ≡ json_tokens value ++ new
  pub gives : of_json value ≡ Some d
  pub shallow : depth value ≤ deepest

-- the first tokens are those of these items and of the bracket that closes them
pub record AreItems (deepest : ℕ) (old : Tokens) (ds : Items) (new : Tokens) : Type 0 where
  pub items : json.Items
  pub tokens : old ≡ items_tokens items ++ new
  pub gives : of_items items ≡ Some ds
  pub shallow : items_depth items ≤ deepest

-- the first tokens are those of a value, of which the form gives a
abbrev pub Pulls : {A : Type 0} → (Data → Option A) → ℕ → Tokens → A → Tokens → Type 0
Pulls form deepest old a new = (d : Data) × IsValue deepest old d new × (form d ≡ Some a)

-- the same of items, up to the bracket that closes them
abbrev pub PullsItems : {A : Type 0} → (Items → Option A) → ℕ → Tokens → A → Tokens → Type 0
PullsItems form deepest old a new = (ds : Items) × AreItems deepest old ds new × (form ds ≡ Some a)

-- the form of a list: that of its items
abbrev pub of_list : {A : Type 0} → (Items → Option A) → Data → Option A
of_list form d = as_array d >>= form

-- behind the bracket of a row stand its depth, role, kind, span and text
abbrev pub IsHead : Tokens → Row → Tokens → Type 0
IsHead old row new = (r : List ℕ) × (k : List ℕ) × (a : Tokens) × (b : Tokens)
    × PullsNumber old row.depth (Token.string r ∷ Token.string k ∷ a) × (role_named r ≡ Some row.role) × (kind_named k ≡ Some row.kind)
    × IsSpan a row.span b × (b ≡ Token.string row.text.now ∷ new)

-- from the key of the format on up to that of the rows: the format, which is 1, and the type of the source
abbrev pub IsType : Tokens → SourceType → Tokens → Type 0
IsType old t new = (goal : List ℕ) × (lang : List ℕ) × (a : Tokens)
    × (old ≡ Token.key (codes "format") ∷ a)
    × PullsNumber a 1 (Token.key (codes "goal") ∷ Token.string goal ∷ Token.key (codes "lang") ∷ Token.string lang ∷ Token.key (codes "rows") ∷ new)
    × (goal_named goal ≡ Some t.goal) × (lang_named lang ≡ Some t.lang)

-- the value is a top object in the first format, and says what was pulled
pub record IsPulled (d : Data) (top : Pulled) : Type 0 where
  pub form : TopForm
  pub formed : top_of_data d ≡ Some form
  pub source : form.source ≡ chars top.source.now
  pub source_type : form.source_type ≡ top.source_type
  pub comments : all_items comment_of_data form.comments ≡ Some top.comments.items
  pub texts : form.texts ≡ None
  pub rows : all_items (line_of_data in_rows) form.rows ≡ Some (map line top.rows.items)

-- the tokens are those of such an object, and no more
abbrev pub IsTop : Tokens → Pulled → Type 0
IsTop old top = (d : Data) × IsValue 4 old d [] × IsPulled d top
