-- Where class bodies stand: each class ends with its body, and there are no others.
use Rattle.std.specs.Prelude.{ℕ, ◌+◌, Bool, true, false, not, ◌&&◌, Option, Some, cond}
use Rattle.semantic_kinds.specs.Kinds.{same_kind}
use Rattle.semantic_kinds.specs.declared.kind.AstType.{AstType}
use Rattle.semantic_kinds.specs.declared.kind.AstType.TheVariants as kind
use Rattle.semantic_tree.specs.Forest.{Forest, nothing, tree}
use Rattle.semantic_model.specs.Class.{body_count}

abbrev pub is_nothing : Forest → Bool
is_nothing nothing = true
is_nothing (tree r k span text marks below id after) = false

-- the last tree is a class body, and no other is
abbrev pub ends_with_body : Forest → Bool
ends_with_body nothing = false
ends_with_body (tree r k span text marks below id after) = cond (same_kind k kind.ClassBody) (is_nothing after) (ends_with_body after)

-- no tree is a class body
abbrev pub has_no_body : Forest → Bool
has_no_body nothing = true
has_no_body (tree r k span text marks below id after) = not (same_kind k kind.ClassBody) && has_no_body after

-- the children of a node of the kind
abbrev pub end_rightly : AstType → Forest → Bool
end_rightly k f = cond (same_kind k kind.Class) (ends_with_body f) (has_no_body f)

-- the children of each node of a forest
abbrev pub all_end_rightly : Forest → Bool
all_end_rightly nothing = true
all_end_rightly (tree r k span text marks below id after) = end_rightly k below && (all_end_rightly below && all_end_rightly after)

-- the class that is current behind the trees, numbered from n on: that of the body among them, or the one before
abbrev pub current_behind : ℕ → Option ℕ → Forest → Option ℕ
current_behind n current nothing = current
current_behind n current (tree r k span text marks below id after) = cond (same_kind k kind.ClassBody) (Some n) (current_behind (n + body_count below) current after)
