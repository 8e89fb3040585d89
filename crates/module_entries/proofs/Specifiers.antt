-- The import that a node is, if it is a specifier of one.
use Rattle.std.proofs.Common.{◌≡◌, List, [], ◌∷◌, ◌++◌, Bool, true, false, cond, Option, Some, None, refl, sym, ap, ◌∙◌, map}
use Rattle.std.specs.Option.{is_some}
use Rattle.std.proofs.lemmas.List.{map-append}
use Rattle.semantic_tree.specs.ChildIter.{shown}
use Rattle.semantic_tree.specs.declared.node.Node.{Node}
use Rattle.semantic_tree.specs.declared.view.AstKind.{AstKind}
use Rattle.link_model.specs.Exports.{Export, is_star}
use Rattle.link_model.specs.Imports.{Import, Wanted, wanted_by, import_by, import_at}
use Rattle.link_model.specs.Module.{Below}
use Rattle.module_entries.specs.Entries.{EntryLists, is_specifier, with_import, with_star}
use Rattle.module_entries.specs.Views.{import_of, shown_import}
use Rattle.module_entries.specs.declared.import.ImportEntry.{ImportEntry}

specifier : (parent node : Node) → is_specifier node ≡ true → import_at (record { parent = parent; node = node }) ≡ Some (import_of parent node)
specifier parent node h = go (wanted_by node.kind node) refl h
  where
    go : (w : Option Wanted) → wanted_by node.kind node ≡ w → is_some w ≡ true → import_by (record { parent = parent; node = node }) w ≡ Some (import_of parent node)
    go None e h = absurd cc
    go (Some w) e h = rw e refl

no_specifier : (parent node : Node) → is_specifier node ≡ false → import_at (record { parent = parent; node = node }) ≡ None
no_specifier parent node h = go (wanted_by node.kind node) h
  where
    go : (w : Option Wanted) → is_some w ≡ false → import_by (record { parent = parent; node = node }) w ≡ None
    go None h = refl
    go (Some w) h = absurd cc

pub import_pushed : (parent node : Node) (old new : List ImportEntry) (x : ImportEntry) (exports : List Export) (stars : List Node) → new ≡ old ++ x ∷ [] → shown_import x ≡ import_of parent node → is_specifier node ≡ true
    → (let e : EntryLists = record { imports = map shown_import new; exports = exports; stars = stars } in e)
    ≡ with_import (import_at (record { parent = parent; node = node })) (record { imports = map shown_import old; exports = exports; stars = stars })
import_pushed parent node old new x exports stars pushed same h =
    ap (λ (is : List Import). let e : EntryLists = record { imports = is; exports = exports; stars = stars } in e)
    (ap (map shown_import) pushed ∙ map-append shown_import old (x ∷ []) ∙ ap (λ i. map shown_import old ++ i ∷ []) same)
    ∙ ap (λ o. with_import o (record { imports = map shown_import old; exports = exports; stars = stars })) (sym (specifier parent node h))

pub none_pushed : (parent node : Node) (e : EntryLists) → is_specifier node ≡ false → e ≡ with_import (import_at (record { parent = parent; node = node })) e
none_pushed parent node e h = ap (λ o. with_import o e) (sym (no_specifier parent node h))

pub star_pushed : (node : Node) (old new : List AstKind) (x : AstKind) (imports : List Import) (exports : List Export) → new ≡ old ++ x ∷ [] → shown x ≡ node → is_star node ≡ true
    → (let e : EntryLists = record { imports = imports; exports = exports; stars = map shown new } in e)
    ≡ with_star (cond (is_star node) (Some node) None) (record { imports = imports; exports = exports; stars = map shown old })
star_pushed node old new x imports exports pushed same h =
    ap (λ (ss : List Node). let e : EntryLists = record { imports = imports; exports = exports; stars = ss } in e)
    (ap (map shown) pushed ∙ map-append shown old (x ∷ []) ∙ ap (λ s. map shown old ++ s ∷ []) same)
    ∙ ap (λ b. with_star (cond b (Some node) None) (record { imports = imports; exports = exports; stars = map shown old })) (sym h)

pub no_star : (node : Node) (e : EntryLists) → is_star node ≡ false → e ≡ with_star (cond (is_star node) (Some node) None) e
no_star node e h = ap (λ b. with_star (cond b (Some node) None) e) (sym h)
