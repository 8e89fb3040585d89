-- Labelled statements, as a walk comes to them and leaves them.
use Rattle.std.specs.Prelude.{ℕ, ◌-◌, List, [], ◌∷◌, ◌++◌, Bool, true, false, Option, Some, None, cond, length, map, bytes_eq, take, slice_get}
use Rattle.std.specs.List.{list_any}
use Rattle.semantic_syntax.specs.Tables.{Name}
use Rattle.std.specs.Str.{chars}
use Rattle.unused_labels.specs.declared.labels.LabeledScope.{LabeledScope}
use Rattle.unused_labels.specs.declared.labels.UnusedLabels.{UnusedLabels}

-- a labelled statement: its label, whether a jump names it, and its node
pub record Labelled : Type 0 where
  pub name : Name
  pub used : Bool
  pub node : ℕ

-- the labelled statements around the place, innermost last, and those that were left without a use
pub record LabelLists : Type 0 where
  pub around : List Labelled
  pub unused : List ℕ

abbrev pub label_seen : LabeledScope → Labelled
label_seen l = record { name = chars l.name.text.now; used = l.used; node = l.node_id }

abbrev pub labels_seen : UnusedLabels → LabelLists
labels_seen u = record { around = map label_seen u.stack.items; unused = u.labels.items }

abbrev pub no_labels : LabelLists
no_labels = record { around = []; unused = [] }

-- the walk comes to a labelled statement
abbrev pub label_entered : LabelLists → Name → ℕ → LabelLists
label_entered w name node = record w { around = w.around ++ record { name = name; used = false; node = node } ∷ [] }

abbrev pub is_label_named : Name → Labelled → Bool
is_label_named name l = bytes_eq l.name name

-- the innermost of the name is used
abbrev pub innermost_used : Name → List Labelled → List Labelled
innermost_used name [] = []
innermost_used name (l ∷ ls) =
    cond (list_any (is_label_named name) ls) (l ∷ innermost_used name ls) (cond (is_label_named name l) (record l { used = true }) l ∷ ls)

-- a jump names the label
abbrev pub jumped : LabelLists → Name → LabelLists
jumped w name = record w { around = innermost_used name w.around }

abbrev pub if_unused : Option Labelled → List ℕ
if_unused None = []
if_unused (Some l) = cond l.used [] (l.node ∷ [])

-- the walk leaves the innermost labelled statement
abbrev pub label_left : LabelLists → LabelLists
label_left w = record {
  around = take (length w.around - 1) w.around;
  unused = w.unused ++ if_unused (slice_get w.around (length w.around - 1));
}
