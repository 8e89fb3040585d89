-- A table whose fields hold what they held.
use Rattle.std.proofs.Common.{◌≡◌, ℕ, List, map, sym, ap, subst, ◌∙◌}
use Rattle.std.specs.Global.{Vec}
use Rattle.class_table.specs.declared.element.Element.{Element}
use Rattle.class_table.specs.declared.private_name.PrivateIdentifierReference.{PrivateIdentifierReference}
use Rattle.class_table.specs.declared.table.ClassTable.TheInside.{Inside}
use Rattle.class_table.specs.Seen.{element_seen, use_seen}
use Rattle.class_table.specs.Lists.{ClassLists, IsClassLists}
use Rattle.class_table.specs.Meanings.{meanings_of}
use Rattle.class_table.specs.View.{lists_of, IsClassTable}

pub lists_held : (a : Inside) (parents : List (ℕ × ℕ)) (nodes : List ℕ) (elements : List (Vec Element)) (uses : List (Vec PrivateIdentifierReference))
    → parents ≡ a.parent_ids.entries → nodes ≡ a.declarations.items → elements ≡ a.elements.items → uses ≡ a.private_identifier_references.items
    → (let shown : ClassLists = record { parents = parents; nodes = nodes; elements = map (λ v. map element_seen v.items) elements; uses = map (λ v. map use_seen v.items) uses } in shown ≡ lists_of a)
lists_held a _ _ _ _ parents nodes elements uses =
    λ j. record { parents = parents j; nodes = nodes j; elements = map (λ v. map element_seen v.items) (elements j); uses = map (λ v. map use_seen v.items) (uses j) }

pub table_held : (a b : Inside) → IsClassTable a → b.parent_ids.entries ≡ a.parent_ids.entries → b.declarations.items ≡ a.declarations.items → b.elements.items ≡ a.elements.items
    → b.private_identifier_references.items ≡ a.private_identifier_references.items → b.names.items ≡ a.names.items → IsClassTable b
table_held a b sound parents nodes elements uses names =
    let same : lists_of b ≡ lists_of a = lists_held a _ _ _ _ parents nodes elements uses in
    record {
      lists = subst IsClassLists (sym same) sound.lists;
      named = names ∙ sound.named ∙ ap (λ (l : ClassLists). map meanings_of l.elements) (sym same);
    }
