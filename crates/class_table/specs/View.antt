-- The lists of the fields.
use Rattle.std.specs.Prelude.{◌≡◌, map}
use Rattle.class_table.specs.declared.table.ClassTable.TheInside.{Inside}
use Rattle.class_table.specs.Seen.{element_seen, use_seen}
use Rattle.class_table.specs.Lists.{ClassLists, IsClassLists}
use Rattle.class_table.specs.Meanings.{meanings_of}

abbrev pub lists_of : Inside → ClassLists
lists_of a = record {
  parents = a.parent_ids.entries;
  nodes = a.declarations.items;
  elements = map (λ v. map element_seen v.items) a.elements.items;
  uses = map (λ v. map use_seen v.items) a.private_identifier_references.items;
}

-- the lists fit, and the names of each class mean its elements
pub record IsClassTable (a : Inside) : Type 0 where
  pub lists : IsClassLists (lists_of a)
  pub named : a.names.items ≡ map meanings_of (lists_of a).elements
