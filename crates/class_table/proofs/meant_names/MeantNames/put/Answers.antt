use Rattle.std.proofs.Common.{◌≡◌, map, sym, ap, ◌∙◌}
use Rattle.std.specs.Map.{lookup}
use Rattle.std.specs.Str.{chars}
use Rattle.class_table.proofs.Meanings.{put_is}
use Rattle.indexmap.specs.IndexMap.{insert_entry}
use Rattle.class_table.specs.Meanings.{key_eq, entry_seen}
use Rattle.class_table.specs.Seen.{element_seen}
use Rattle.class_table.proofs.SpelledKeys.{Stored, stored_eq, insert_seen, insert_meant, more_ids}
use Rattle.class_table.proofs.meant_names.MeantNames.put.Goals as goal

pub invariant_of-self-2 : goal.invariant_of-self-2
invariant_of-self-2 c =
    let k : Stored = (c.as_str-name.result, c.args.element.now.is_private) in
    let now : c.insert.new.self.entries ≡ insert_entry stored_eq c.self.inside.meanings.entries k c.with_more.result = c.in_ok-insert.ensures.entries in
    rw now (insert_meant k c.with_more.result c.as_str-name.utf8 (rw c.with_more.ensures (more_ids c.meaning-meaning.result c.args.number c.stands_alone.result c.meaning-meaning.ensures.within c.requires)) c.self.inside.meanings.entries c.self.invariant)

pub returns-clause-ok : goal.returns-clause-ok
returns-clause-ok c =
    let k : Stored = (c.as_str-name.result, c.args.element.now.is_private) in
    let now : c.insert.new.self.entries ≡ insert_entry stored_eq c.self.inside.meanings.entries k c.with_more.result = c.in_ok-insert.ensures.entries in
    let e = element_seen c.args.element.now in
    let ms = map entry_seen c.self.inside.meanings.entries in
    let name : chars c.as_str-name.result.now ≡ e.name = ap chars c.as_str-name.ensures in
    let was : c.meaning-meaning.result ≡ lookup (key_eq (chars c.as_str-name.result.now, e.is_private)) ms = c.meaning-meaning.ensures.meaning ∙ ap (lookup (key_eq (chars c.as_str-name.result.now, e.is_private))) (sym c.self.view_is) in
    let placed = put_is ms c.args.number e (chars c.as_str-name.result.now) c.meaning-meaning.result c.stands_alone.result c.with_more.result name was c.stands_alone.ensures c.with_more.ensures in
    rw (now, ← c.self.view_is) (insert_seen k c.with_more.result c.as_str-name.utf8 c.self.inside.meanings.entries c.self.invariant ∙ placed)
