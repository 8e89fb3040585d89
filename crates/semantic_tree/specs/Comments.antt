-- Comments by where they stand.
use Rattle.std.specs.Prelude.{ℕ, nat_le, nat_lt, List, Bool, ◌&&◌, Option, find, filter}
use Rattle.semantic_tree.specs.declared.comment.Comment.{Comment}

-- the comment starts at or after the first place, and before the second
abbrev pub starts_within : ℕ → ℕ → Comment → Bool
starts_within start end comment = nat_le start comment.span.start && nat_lt comment.span.start end

-- the comments that start within two places
abbrev pub comments_within : ℕ → ℕ → List Comment → List Comment
comments_within start end list = filter (starts_within start end) list

-- the byte is in the comment
abbrev pub covers : ℕ → Comment → Bool
covers pos comment = nat_le comment.span.start pos && nat_lt pos comment.span.end

-- the first comment that the byte is in
abbrev pub comment_at : ℕ → List Comment → Option Comment
comment_at pos list = find (covers pos) list
