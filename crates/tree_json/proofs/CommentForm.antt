-- The form of a comment.
use Rattle.std.proofs.Common.{◌≡◌, ◌≢◌, List, [], ◌∷◌, length, None, refl}
use Rattle.serde_json.specs.View.{items_view}
use Rattle.serde_json.specs.declared.value.Value.{Value}
use Rattle.tree_json.specs.Comments.{comment_of_items}

-- a comment has three parts
pub comment_of_items_length : (vs : List Value) → length vs ≢ 3 → comment_of_items (items_view vs) ≡ None
comment_of_items_length [] h = refl
comment_of_items_length (a ∷ []) h = refl
comment_of_items_length (a ∷ b ∷ []) h = refl
comment_of_items_length (a ∷ b ∷ c ∷ []) h = absurd (h refl)
comment_of_items_length (a ∷ b ∷ c ∷ d ∷ vs) h = refl
