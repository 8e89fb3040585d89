-- The elements that come before one, by their names.
use Rattle.std.specs.Prelude.{List, [], Bool, Option, ◌&&◌, not, cond, fold, if◌then◌else◌}
use Rattle.std.specs.Borrow.{Bor}
use Rattle.std.specs.Map.{lookup}
use Rattle.std.specs.Str.{bytes_eq}
use Rattle.indexmap.specs.IndexMap.{insert_entry}
use Rattle.semantic_syntax.specs.Sets.{meets}
use Rattle.semantic_syntax.specs.declared.element_kind.TheConstants.ElementKind as element
use Rattle.semantic_model.specs.Element.{Element}
use Rattle.class_table.specs.Seen.{element_seen}
use Rattle.class_table.specs.declared.element.Element.{Element as StoredElement}
use Rattle.check_model.specs.Elements.{some_or}
use Rattle.expression_checks.specs.Entries.{NamedElement}
use Rattle.expression_checks.specs.declared.earlier_elements.EarlierElements.{EarlierElements}

-- the element behind a reference
abbrev pub element_behind : Bor StoredElement → Element
element_behind r = element_seen r.now

-- one more element, as the last of its name
abbrev pub with_last_element : List NamedElement → Element → List NamedElement
with_last_element es e = insert_entry bytes_eq es e.name e

-- a setter
abbrev pub sets : Element → Bool
sets e = meets e.kind.bits element.Setter.bits

-- the three groups of elements: in each an element is looked up by its name alone
abbrev pub is_public : Element → Bool
is_public e = not e.is_private

abbrev pub is_private_setter : Element → Bool
is_private_setter e = e.is_private && sets e

abbrev pub is_other_private : Element → Bool
is_other_private e = e.is_private && not (sets e)

-- one more element, if it is of the group
abbrev pub with_one_of : (Element → Bool) → List NamedElement → Element → List NamedElement
with_one_of group es e = cond (group e) (with_last_element es e) es

-- the last elements of each name in a group
abbrev pub last_of : (Element → Bool) → List Element → List NamedElement
last_of group earlier = fold (with_one_of group) [] earlier

-- the elements, by group
abbrev pub earlier_of : List Element → EarlierElements
earlier_of earlier = record { public = last_of is_public earlier; setters = last_of is_private_setter earlier; others = last_of is_other_private earlier }

-- one more element
abbrev pub and_element : EarlierElements → Element → EarlierElements
and_element earlier e = record {
  public = with_one_of is_public earlier.public e;
  setters = with_one_of is_private_setter earlier.setters e;
  others = with_one_of is_other_private earlier.others e;
}

-- the last element of the name in a group
abbrev pub last_in : List NamedElement → Element → Option Element
last_in es own = lookup (bytes_eq own.name) es

-- the element that an element is compared with
abbrev pub predecessor_in : EarlierElements → Element → Option Element
predecessor_in earlier own =
    if own.is_private then (if sets own then some_or (last_in earlier.setters own) (last_in earlier.others own) else some_or (last_in earlier.others own) (last_in earlier.setters own))
    else last_in earlier.public own
