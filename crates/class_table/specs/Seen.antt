-- What contracts see of an element and of a use.
use Rattle.std.specs.Borrow.{Bor}
use Rattle.std.specs.Str.{chars}
use Rattle.semantic_tree.specs.NameView.{name_shown}
use Rattle.semantic_model.specs.Element.{Element}
use Rattle.semantic_model.specs.Class.{PrivateUse}
use Rattle.class_table.specs.declared.element.Element.{Element as StoredElement}
use Rattle.class_table.specs.declared.private_name.PrivateIdentifierReference.{PrivateIdentifierReference}

abbrev pub element_seen : StoredElement → Element
element_seen e = record { name = name_shown e.name; span = e.span; is_static = e.is_static; is_private = e.is_private; kind = e.kind }

abbrev pub use_seen : PrivateIdentifierReference → PrivateUse
use_seen u = record { id = u.id; name = chars u.name.text.now; span = u.span; element_ids = u.element_ids }

-- the use behind a reference
abbrev pub use_behind : Bor PrivateIdentifierReference → PrivateUse
use_behind r = use_seen r.now
