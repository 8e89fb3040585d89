-- The lines of a report on classes.
use Rattle.std.specs.Prelude.{ℕ, List, [], ◌∷◌, ◌++◌, Bool, Option, true, false, codes, decimal}
use Rattle.std.specs.List.{concat, flat_map, enumerate_from}
use Rattle.std.specs.Str.{encode_utf8_all}
use Rattle.semantic_syntax.specs.declared.spans.Span.{Span}
use Rattle.semantic_syntax.specs.declared.element_kind.ElementKind.{ElementKind}
use Rattle.semantic_model.specs.Element.{Element}
use Rattle.semantic_model.specs.Class.{PrivateUse}
use Rattle.class_table.specs.Lists.{ClassLists, elements_in, uses_in}
use Rattle.class_table.specs.Outward.{parent_class}
use Rattle.report_ends.specs.Streams.{numbered_text}
use Rattle.report_lines.specs.Pieces.{quoted, number_or_dash, numbers_text, span_text, element_flags}

-- whether an element is private
abbrev pub privacy : Bool → List ℕ
privacy true = codes "private"
privacy false = codes "public"

-- whether an element is static
abbrev pub ownership : Bool → List ℕ
ownership true = codes "static"
ownership false = codes "instance"

-- the line of a class
unfoldable pub class_line : ℕ → ℕ → Option ℕ → List ℕ
class_line number node parent = concat (codes "class " ∷ decimal number ∷ codes " node " ∷ decimal node ∷ codes " parent " ∷ number_or_dash parent ∷ codes "\n" ∷ [])

-- what stands before the end of the line of an element: its number, its name, given in UTF-8, and its span
unfoldable pub element_head : ℕ → ℕ → List ℕ → Span → List ℕ
element_head class number name span = concat (codes "element " ∷ decimal class ∷ codes " " ∷ decimal number ∷ codes " " ∷ quoted name ∷ codes " span " ∷ span_text span ∷ [])

-- what stands behind it: what the element is
unfoldable pub element_end : Bool → Bool → ElementKind → List ℕ
element_end is_private is_static kind = concat (codes " " ∷ privacy is_private ∷ codes " " ∷ ownership is_static ∷ codes " kind " ∷ element_flags kind ∷ codes "\n" ∷ [])

-- the line of an element
abbrev pub element_line : ℕ → ℕ → Element → List ℕ
element_line class number element =
    element_head class number (encode_utf8_all element.name) element.span ++ element_end element.is_private element.is_static element.kind

-- the line of a use of a private name, given in UTF-8
unfoldable pub private_use_text : ℕ → ℕ → List ℕ → Span → List ℕ → List ℕ
private_use_text class node name span elements = concat (codes "use " ∷ decimal class ∷ codes " node " ∷ decimal node ∷ codes " " ∷ quoted name ∷ codes " span " ∷ span_text span ∷ codes " elements" ∷ numbers_text elements ∷ codes "\n" ∷ [])

-- the line of a use
abbrev pub private_use_line : ℕ → PrivateUse → List ℕ
private_use_line class used = private_use_text class used.id (encode_utf8_all used.name) used.span used.element_ids

-- a class with its node, its elements, and its uses of private names
abbrev pub class_lines : ClassLists → ℕ × ℕ → List ℕ
class_lines lists class =
    class_line class.0 class.1 (parent_class lists.parents class.0)
    ++ (numbered_text (element_line class.0) 0 (elements_in lists class.0) ++ flat_map (private_use_line class.0) (uses_in lists class.0))

-- the lines of the classes, in the order of their ids
abbrev pub all_class_lines : ClassLists → List ℕ
all_class_lines lists = flat_map (class_lines lists) (enumerate_from 0 lists.nodes)
