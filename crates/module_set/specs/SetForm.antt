-- The form of a set of modules: an object with the one key `modules`, a list of objects with a name and the text of a tree.
use Rattle.std.specs.Prelude.{ℕ, nat_lt, List, Option, Some, None, codes, if◌then◌else◌}
use Rattle.serde_json.specs.Data.{Data, Items}
use Rattle.serde_json.specs.Events.{items_len}
use Rattle.tree_json.specs.Form.{◌>>=◌}
use Rattle.tree_json.specs.Comments.{all_items}
use Rattle.tree_json.specs.Top.{has_members, text_at, word_at, list_at}

-- a module as it is written: the characters of its name, and the bytes of its tree
pub record WrittenModule : Type 0 where
  pub name : List ℕ
  pub tree : List ℕ

abbrev pub parts_in : Data → Option WrittenModule
parts_in d = do
  name ← text_at (codes "name") d
  tree ← word_at (codes "tree") d
  Some (record { name = name; tree = tree })

-- a module has exactly the two keys
abbrev pub module_in : Data → Option WrittenModule
module_in d = if has_members 2 d then parts_in d else None

-- no more modules than have numbers
abbrev pub if_few : Items → Option Items
if_few items = if nat_lt 4294967294 (items_len items) then None else Some items

-- a set has exactly the one key
abbrev pub list_in : Data → Option Items
list_in d = if has_members 1 d then (list_at (codes "modules") d >>= if_few) else None

-- the modules of a set, if the value has the form of one
abbrev pub set_of_data : Data → Option (List WrittenModule)
set_of_data d = list_in d >>= all_items module_in
