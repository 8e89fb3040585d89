-- The lines on classes, as a form, which tells them.
use Rattle.std.proofs.Common.{◌≡◌, ℕ, zero, suc, ◌+◌, ◌<◌, ◌^◌, Bool, true, false, List, [], ◌∷◌, ◌++◌, Some, get_or, map, flat_map, codes, decimal, encode_utf8_all, option_and_then, append_assoc, refl, sym, ap, ◌∙◌, subst, arith}
use Rattle.std.specs.Prelude.{slice_get}
use Rattle.std.specs.List.{AllByRecursion, enumerate_from}
use Rattle.semantic_syntax.specs.FlagNames.{element_kind_names}
use Rattle.semantic_syntax.specs.declared.element_kind.ElementKind.{ElementKind}
use Rattle.semantic_model.specs.Class.{PrivateUse, Class}
use Rattle.semantic_model.specs.Element.{Element}
use Rattle.class_table.specs.Lists.{elements_in, uses_in}
use Rattle.class_table.specs.Told.{lists_told}
use Rattle.class_table.proofs.Fitting.{told_parent}
use Rattle.report_ends.specs.Streams.{numbered_text}
use Rattle.report_lines.specs.Pieces as pieces
use Rattle.report_lines.specs.ClassLines.{privacy, ownership, class_line, element_head, element_end, element_line, private_use_text, private_use_line, class_lines, all_class_lines}
use Rattle.table_bounds.specs.Tellable.{IsWrittenWhole, IsTellableElement, IsTellableUse, IsTellableClass, AreTellableClasses}
use Rattle.report_laws.proofs.Forms.{number, number_or_dash, name, flags, truth, Form, end, word, piece, each, Values, text_of, written, AreTold}
use Rattle.report_laws.proofs.Lists.{concat_onto, numbered, each_line, numbered_lines, map_back, numbered_back, all_map, all_numbered}
use Rattle.report_laws.proofs.TableForms.{numbers_form, span_form, number_value, numbers_end, span_written}
use Rattle.report_laws.proofs.TablesTold.{number_back, numbers_back, numbers_told}

-- ---- forms

abbrev pub private_piece : Bool → List ℕ
private_piece = text_of (truth (codes "private") (codes "public"))

abbrev pub static_piece : Bool → List ℕ
static_piece = text_of (truth (codes "static") (codes "instance"))

abbrev pub element_form : Form
element_form = piece number (word (codes " ") (piece number (word (codes " ") (piece name (word (codes " span ") (span_form (word (codes " ") (piece (truth (codes "private") (codes "public")) (word (codes " ") (piece (truth (codes "static") (codes "instance")) (word (codes " kind ") (piece (flags element_kind_names) (word (codes "\n") end)))))))))))))

abbrev pub use_form : Form
use_form = piece number (word (codes " node ") (piece number (word (codes " ") (piece name (word (codes " span ") (span_form (word (codes " elements") (numbers_form end))))))))

abbrev pub class_form : Form
class_form = piece number (word (codes " node ") (piece number (word (codes " parent ") (piece number_or_dash (word (codes "\n") (each (codes "element ") element_form (each (codes "use ") use_form end)))))))

-- ---- what classes tell

abbrev element_value : ℕ → ℕ → Element → Values element_form
element_value class n e = (class, (n, (e.name, (e.span.start, (e.span.end, (e.is_private, (e.is_static, (e.kind.bits, tt))))))))

abbrev use_value : ℕ → PrivateUse → Values use_form
use_value class u = (class, (u.id, (u.name, (u.span.start, (u.span.end, (map number_value u.element_ids, tt))))))

abbrev pub class_value : ℕ → Class → Values class_form
class_value i c = (i, (c.node, (c.parent, (numbered (element_value i) 0 c.elements, (map (use_value i) c.uses, tt)))))

-- ---- each line is of its form

private_word : (b : Bool) → privacy b ≡ private_piece b
private_word true = refl
private_word false = refl

static_word : (b : Bool) → ownership b ≡ static_piece b
static_word true = refl
static_word false = refl

end_written : (is_private is_static : Bool) (kind : ElementKind) (rest : List ℕ)
    → element_end is_private is_static kind ++ rest ≡ codes " " ++ (private_piece is_private ++ (codes " " ++ (static_piece is_static ++ (codes " kind " ++ (pieces.element_flags kind ++ (codes "\n" ++ rest))))))
unfolding element_end
end_written is_private is_static kind rest =
    concat_onto (codes " " ∷ privacy is_private ∷ codes " " ∷ ownership is_static ∷ codes " kind " ∷ pieces.element_flags kind ∷ codes "\n" ∷ []) rest
    ∙ ap (λ told. codes " " ++ (told ++ (codes " " ++ (ownership is_static ++ (codes " kind " ++ (pieces.element_flags kind ++ (codes "\n" ++ rest))))))) (private_word is_private)
    ∙ ap (λ told. codes " " ++ (private_piece is_private ++ (codes " " ++ (told ++ (codes " kind " ++ (pieces.element_flags kind ++ (codes "\n" ++ rest))))))) (static_word is_static)

element_written : (class n : ℕ) (e : Element) (rest : List ℕ) → element_line class n e ++ rest ≡ codes "element " ++ written element_form (element_value class n e) rest
unfolding element_head
element_written class n e rest =
    append_assoc (element_head class n (encode_utf8_all e.name) e.span) (element_end e.is_private e.is_static e.kind) rest
    ∙ concat_onto (codes "element " ∷ decimal class ∷ codes " " ∷ decimal n ∷ codes " " ∷ pieces.quoted (encode_utf8_all e.name) ∷ codes " span " ∷ pieces.span_text e.span ∷ []) (element_end e.is_private e.is_static e.kind ++ rest)
    ∙ ap (λ more. codes "element " ++ (decimal class ++ (codes " " ++ (decimal n ++ (codes " " ++ (pieces.quoted (encode_utf8_all e.name) ++ (codes " span " ++ more)))))))
    (span_written e.span (element_end e.is_private e.is_static e.kind ++ rest)
    ∙ ap (λ more. decimal e.span.start ++ (codes "-" ++ (decimal e.span.end ++ more))) (end_written e.is_private e.is_static e.kind rest))

use_written : (class : ℕ) (u : PrivateUse) (rest : List ℕ) → private_use_line class u ++ rest ≡ codes "use " ++ written use_form (use_value class u) rest
unfolding private_use_text
use_written class u rest =
    concat_onto (codes "use " ∷ decimal class ∷ codes " node " ∷ decimal u.id ∷ codes " " ∷ pieces.quoted (encode_utf8_all u.name) ∷ codes " span " ∷ pieces.span_text u.span ∷ codes " elements" ∷ pieces.numbers_text u.element_ids ∷ codes "\n" ∷ []) rest
    ∙ ap (λ more. codes "use " ++ (decimal class ++ (codes " node " ++ (decimal u.id ++ (codes " " ++ (pieces.quoted (encode_utf8_all u.name) ++ (codes " span " ++ more)))))))
    (span_written u.span (codes " elements" ++ (pieces.numbers_text u.element_ids ++ (codes "\n" ++ rest)))
    ∙ ap (λ more. decimal u.span.start ++ (codes "-" ++ (decimal u.span.end ++ (codes " elements" ++ more)))) (numbers_end u.element_ids rest))

line_written : (i : ℕ) (c : Class) (rest : List ℕ) → class_line i c.node c.parent ++ rest ≡ codes "class " ++ (decimal i ++ (codes " node " ++ (decimal c.node ++ (codes " parent " ++ (pieces.number_or_dash c.parent ++ (codes "\n" ++ rest))))))
unfolding class_line
line_written i c rest = concat_onto (codes "class " ∷ decimal i ∷ codes " node " ∷ decimal c.node ∷ codes " parent " ∷ pieces.number_or_dash c.parent ∷ codes "\n" ∷ []) rest

-- a class by its number
abbrev pub class_text : ℕ → Class → List ℕ
class_text i c = class_line i c.node c.parent ++ (numbered_text (element_line i) 0 c.elements ++ flat_map (private_use_line i) c.uses)

pub class_written : (i : ℕ) (c : Class) (rest : List ℕ) → class_text i c ++ rest ≡ codes "class " ++ written class_form (class_value i c) rest
class_written i c rest =
    append_assoc (class_line i c.node c.parent) (numbered_text (element_line i) 0 c.elements ++ flat_map (private_use_line i) c.uses) rest
    ∙ ap (λ more. class_line i c.node c.parent ++ more)
    (append_assoc (numbered_text (element_line i) 0 c.elements) (flat_map (private_use_line i) c.uses) rest
    ∙ numbered_lines (codes "element ") (written element_form) (element_line i) (element_value i) (element_written i) 0 c.elements
    (flat_map (private_use_line i) c.uses ++ rest) (written (each (codes "use ") use_form end) (map (use_value i) c.uses, tt) rest)
    (each_line (codes "use ") (written use_form) (private_use_line i) (use_value i) (use_written i) c.uses rest rest refl))
    ∙ line_written i c (written (each (codes "element ") element_form (each (codes "use ") use_form end)) (numbered (element_value i) 0 c.elements, (map (use_value i) c.uses, tt)) rest)

-- ---- the lists of a table tell its classes

got : {A B : Type 0} (f : A → B) (xs : List A) (i : ℕ) (x : A) (none : B) → slice_get xs i ≡ Some x → get_or (map f xs) i none ≡ f x
got f [] i x none e = absurd cc
got f (y ∷ ys) zero x none e = let is : y ≡ x = cc in ap f is
got f (y ∷ ys) (suc i) x none e = got f ys i x none e

module _ (cs : List Class) where
  one_class : (i : ℕ) (x : Class) → slice_get cs i ≡ Some x → class_lines (lists_told cs) (i, x.node) ≡ class_text i x
  one_class i x e =
      ap (λ parent. class_line i x.node parent ++ (numbered_text (element_line i) 0 (elements_in (lists_told cs) i) ++ flat_map (private_use_line i) (uses_in (lists_told cs) i))) (told_parent cs i ∙ ap (option_and_then (λ k. k.parent)) e)
      ∙ ap (λ es. class_line i x.node x.parent ++ (numbered_text (element_line i) 0 es ++ flat_map (private_use_line i) (uses_in (lists_told cs) i))) (got (λ c. c.elements) cs i x [] e)
      ∙ ap (λ us. class_line i x.node x.parent ++ (numbered_text (element_line i) 0 x.elements ++ flat_map (private_use_line i) us)) (got (λ c. c.uses) cs i x [] e)

  from_each : (i : ℕ) (xs : List Class) → ((k : ℕ) (x : Class) → slice_get xs k ≡ Some x → slice_get cs (i + k) ≡ Some x) → flat_map (class_lines (lists_told cs)) (enumerate_from i (map (λ c. c.node) xs)) ≡ numbered_text class_text i xs
  from_each i [] h = refl
  from_each i (x ∷ xs) h =
      let here : i + 0 ≡ i = omega arith in
      ap (λ text. text ++ flat_map (class_lines (lists_told cs)) (enumerate_from (i + 1) (map (λ c. c.node) xs))) (one_class i x (subst (λ n. slice_get cs n ≡ Some x) here (h 0 x refl)))
      ∙ ap (λ text. class_text i x ++ text) (from_each (i + 1) xs (λ k y e. let next : i + suc k ≡ i + 1 + k = omega arith in subst (λ n. slice_get cs n ≡ Some y) next (h (suc k) y e)))

  pub classes_text : all_class_lines (lists_told cs) ≡ numbered_text class_text 0 cs
  classes_text = from_each 0 cs (λ k x e. let here : k ≡ 0 + k = omega arith in subst (λ n. slice_get cs n ≡ Some x) here e)

-- ---- what is told can be read back

element_told : (class : ℕ) → IsWrittenWhole class → (n : ℕ) (e : Element) → n < 2 ^ 64 → IsTellableElement e → AreTold element_form (element_value class n e)
element_told class at n e small h = (at, (small, (tt, (h.start, (h.end, (tt, (tt, (h.flags, tt))))))))

use_told : (class : ℕ) → IsWrittenWhole class → (u : PrivateUse) → IsTellableUse u → AreTold use_form (use_value class u)
use_told class at u h = (at, (h.id, (tt, (h.start, (h.end, (numbers_told u.element_ids h.element_ids, tt))))))

pub class_told : (i : ℕ) (c : Class) → i < 2 ^ 64 → IsTellableClass c → AreTold class_form (class_value i c)
class_told i c small h = (
  small,
  (
    h.node,
    (
      h.parent,
      (
        all_numbered IsTellableElement (AreTold element_form) (element_value i) (2 ^ 64) (element_told i small) 0 c.elements (omega (arith, h.elements_numbered)) h.elements,
        (all_map IsTellableUse (AreTold use_form) (use_value i) (use_told i small) c.uses h.uses, tt),
      ),
    ),
  ),
)

-- ---- back

element_back : Values element_form → Element
element_back v = record {
  name = v.1.1.0;
  span = record { start = v.1.1.1.0; end = v.1.1.1.1.0 };
  is_static = v.1.1.1.1.1.1.0;
  is_private = v.1.1.1.1.1.0;
  kind = record { bits = v.1.1.1.1.1.1.1.0 };
}

elements_back : (i : ℕ) (es : List Element) → AllByRecursion IsTellableElement es → map element_back (numbered (element_value i) 0 es) ≡ es
unfolding element_back
elements_back i es h = numbered_back (element_value i) element_back IsTellableElement (λ n e k. refl) 0 es h

use_back : Values use_form → PrivateUse
use_back v = record { id = v.1.0; name = v.1.1.0; span = record { start = v.1.1.1.0; end = v.1.1.1.1.0 }; element_ids = map number_back v.1.1.1.1.1.0 }

uses_back : (i : ℕ) (us : List PrivateUse) → map use_back (map (use_value i) us) ≡ us
unfolding use_back
uses_back i us = map_back (use_value i) use_back (λ u. ap (λ ids. record { id = u.id; name = u.name; span = u.span; element_ids = ids }) (numbers_back u.element_ids)) us

class_back : Values class_form → Class
class_back v = record { node = v.1.0; parent = v.1.1.0; elements = map element_back v.1.1.1.0; uses = map use_back v.1.1.1.1.0 }

class_is : (i : ℕ) (c : Class) → IsTellableClass c → class_back (class_value i c) ≡ c
unfolding class_back
class_is i c h =
    ap (λ es. record { node = c.node; parent = c.parent; elements = es; uses = map use_back (map (use_value i) c.uses) }) (elements_back i c.elements h.elements)
    ∙ ap (λ us. record { node = c.node; parent = c.parent; elements = c.elements; uses = us }) (uses_back i c.uses)

-- classes of which the same is told are the same
pub classes_back : (cs ds : List Class) → AreTellableClasses cs → AreTellableClasses ds → numbered class_value 0 cs ≡ numbered class_value 0 ds → cs ≡ ds
classes_back cs ds hc hd e =
    sym (numbered_back class_value class_back IsTellableClass class_is 0 cs hc.each) ∙ ap (map class_back) e ∙ numbered_back class_value class_back IsTellableClass class_is 0 ds hd.each
