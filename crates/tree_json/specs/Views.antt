-- What contracts see of the parts of the top object in code.
use Rattle.std.specs.Prelude.{◌≡◌, ℕ, List, map, option_map}
use Rattle.std.specs.Str.{chars, encode_utf8_all}
use denote.Bor.{Bor}
use Rattle.serde_json.specs.View.{items_view}
use Rattle.tree_json.specs.Form.{Texts, in_rows, in_list}
use Rattle.tree_json.specs.Top.{TopForm}
use Rattle.tree_json.specs.declared.row.RowTexts.{RowTexts}
use Rattle.tree_json.specs.declared.row.RowTexts.TheVariants.{InRows, InList}
use Rattle.tree_json.specs.declared.places.TextPlaces.{TextPlaces}
use Rattle.tree_json.specs.declared.places.TextPlaces.TheVariants.{InPlace, InSet}
use Rattle.tree_json.specs.declared.top.Top.{Top}
use Rattle.tree_json.specs.declared.read.Parts.{Parts}
use Rattle.tree_json.specs.Lines.{listing}
use Rattle.tree_json.specs.Reading.{Listed}
use Rattle.tree_json.specs.Written.{Each}

abbrev pub characters : Bor (List ℕ) → List ℕ
characters s = chars s.now

abbrev pub texts_view : RowTexts → Texts
texts_view InRows = in_rows
texts_view (InList list) = in_list (map characters list.now)

abbrev pub top_view : Top → TopForm
top_view t = record { source = chars t.source.now; source_type = t.source_type; comments = items_view t.comments.now; texts = option_map (λ s. items_view s.now) t.texts; rows = items_view t.rows.now }

abbrev pub parts_view : Parts → Listed
parts_view parts = record { source = parts.source; source_type = parts.source_type; comments = parts.comments.items; lines = listing parts.root }

-- the text is the UTF-8 form of its characters
abbrev pub IsSpelled : Bor (List ℕ) → Type 0
IsSpelled text = encode_utf8_all (chars text.now) ≡ text.now

-- how rows tell their texts, as the code has it
abbrev pub places_view : TextPlaces → Texts
places_view InPlace = in_rows
places_view (InSet set) = in_list (map characters set.now.keys)

abbrev pub AreSpelled : TextPlaces → Type 0
AreSpelled InPlace = Unit {0}
AreSpelled (InSet set) = Each IsSpelled set.now.keys
