-- What bytes say: a program as a listing, or the first fault.
use Rattle.std.specs.Prelude.{◌≡◌, ◌⊎◌, ℕ, ◌+◌, ◌==◌, ◌&&◌, ◌||◌, nat_lt, nat_le, Bool, if◌then◌else◌, List, [], ◌∷◌, ◌++◌, length, Some, None, Result, Ok, Err, ok_or}
use Rattle.std.specs.Str.{is_utf8, encode_utf8_all}
use Rattle.serde_json.specs.Data.{Data, Items, no_items, item}
use Rattle.serde_json.specs.Read.{read}
use Rattle.serde_json.specs.Events.{items_len}
use Rattle.semantic_syntax.specs.declared.source_type.SourceType.{SourceType}
use Rattle.semantic_kinds.specs.Roles.{same_role}
use Rattle.semantic_kinds.specs.declared.role.Role.TheVariants.{Root}
use Rattle.semantic_tree.specs.Limits.{node_limit, comment_limit, source_limit, depth_limit}
use Rattle.semantic_tree.specs.Tree.{Tree, IsNumbered}
use Rattle.semantic_tree.specs.Faults.{first_fault}
use Rattle.semantic_tree.specs.declared.comment.Comment.{Comment}
use Rattle.semantic_tree.specs.declared.error.TreeError.{TreeError}
use Rattle.semantic_tree.specs.declared.error.TreeError.TheVariants.{NotJson, Shape, TooMany, TooDeep}
use Rattle.tree_json.specs.Lines.{Line, listing}
use Rattle.tree_json.specs.Form.{Texts, line_of_data}
use Rattle.tree_json.specs.Comments.{all_items, comment_of_data}
use Rattle.tree_json.specs.Outcome.{◌>>=◌}
use Rattle.tree_json.specs.Top.{TopForm, top_of_data, texts_in}

abbrev pub result_map : {A B : Type 0} → (A → B) → Result A TreeError → Result B TreeError
result_map f (Ok x) = Ok (f x)
result_map f (Err e) = Err e

-- a program with its tree as a listing
pub record Listed : Type 0 where
  pub source : List ℕ
  pub source_type : SourceType
  pub comments : List Comment
  pub lines : List Line

abbrev pub listed_program : Tree → Listed
listed_program p = record { source = p.source; source_type = p.source_type; comments = p.comments; lines = listing p.root }

-- the line may stand where so many nodes are open
unfoldable pub follows : ℕ → Line → Bool
follows opened l = if opened == 0 then (l.depth == 0) && same_role l.role Root else nat_lt 0 l.depth && nat_le l.depth opened

abbrev pub if_follows : ℕ → ℕ → Line → Result Line TreeError
if_follows opened index l = if follows opened l then Ok l else Err (Shape (Some index))

unfoldable pub line_at : Texts → ℕ → ℕ → Data → Result Line TreeError
line_at texts opened index d = ok_or (line_of_data texts d) (Shape (Some index)) >>= if_follows opened index

abbrev pub with_front : List Line → Result (List Line) TreeError → Result (List Line) TreeError
with_front front read = read >>= λ ls. Ok (front ++ ls)

-- the lines of the items, or the first that is none in its place
abbrev pub lines_from : Texts → ℕ → ℕ → Items → Result (List Line) TreeError
lines_from texts opened index no_items = Ok []
lines_from texts opened index (item d ds) = line_at texts opened index d >>= λ l. with_front (l ∷ []) (lines_from texts (l.depth + 1) (index + 1) ds)

-- the first line that is too deep is refused
abbrev pub shallow_from : ℕ → List Line → Result (Unit {0}) TreeError
shallow_from index [] = Ok tt
shallow_from index (l ∷ ls) = if nat_lt depth_limit l.depth then Err (TooDeep index) else shallow_from (index + 1) ls

-- the lines of a listing that is not too deep
unfoldable pub listing_of : Texts → Items → Result (List Line) TreeError
listing_of texts rows = lines_from texts 0 0 rows >>= λ ls. shallow_from 0 ls >>= λ _. Ok ls

-- there is a row
abbrev pub if_some : Items → Result (Unit {0}) TreeError
if_some rows = if items_len rows == 0 then Err (Shape None) else Ok tt

-- so many nodes, so many comments or a source of these characters are beyond their limits
unfoldable pub are_too_many : ℕ → ℕ → List ℕ → Bool
are_too_many nodes comments source = nat_lt node_limit nodes || nat_lt comment_limit comments || nat_lt source_limit (length (encode_utf8_all source))

abbrev pub if_few : ℕ → ℕ → List ℕ → Result (Unit {0}) TreeError
if_few nodes comments source = if are_too_many nodes comments source then Err TooMany else Ok tt

-- the lines of a top object with so many comments and with these texts
unfoldable pub lines_with : TopForm → ℕ → Texts → Result (List Line) TreeError
lines_with top comments texts = do
  _ ← if_some top.rows
  _ ← if_few (items_len top.rows) comments top.source
  listing_of texts top.rows

unfoldable pub lines_in : TopForm → ℕ → Result (List Line) TreeError
lines_in top comments = ok_or (texts_in top.texts) (Shape None) >>= lines_with top comments

-- what a top object says
unfoldable pub listed_of : TopForm → Result Listed TreeError
listed_of top = do
  comments ← ok_or (all_items comment_of_data top.comments) (Shape None)
  lines ← lines_in top (length comments)
  Ok (record { source = top.source; source_type = top.source_type; comments = comments; lines = lines })

-- what a JSON value says
unfoldable pub listed_in : Data → Result Listed TreeError
listed_in d = ok_or (top_of_data d) (Shape None) >>= listed_of

-- the value that bytes are in JSON, or that they are none
unfoldable pub value_in : {E : Type 0} → E → List ℕ → Result Data E
value_in none bytes = if is_utf8 bytes then ok_or (read bytes) none else Err none

-- what bytes say
unfoldable pub reading : List ℕ → Result Listed TreeError
reading bytes = value_in NotJson bytes >>= listed_in

-- what was read is refused: it is no listing, or that of a program which has this as its first fault
abbrev pub Refuses : Result Listed TreeError → TreeError → Type 0
Refuses read fault = (read ≡ Err fault) ⊎ ((p : Tree) × IsNumbered p.root × (read ≡ Ok (listed_program p)) × (first_fault p ≡ Some fault))
