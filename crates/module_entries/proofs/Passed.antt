-- What one pass over a tree gathers.
use Rattle.std.proofs.Common.{◌≡◌, List, [], ◌∷◌, ◌++◌, Option, Some, None, refl, sym, ap, ◌∙◌, append_assoc, append-nil}
use Rattle.std.specs.List.{filter_map, cons_option}
use Rattle.std.proofs.lemmas.List.Elements.{filter_map-append}
use Rattle.semantic_tree.specs.Forest.{Forest, nothing, tree}
use Rattle.semantic_tree.specs.declared.node.Node.{Node}
use Rattle.link_model.specs.Exports.{Export, star_at}
use Rattle.link_model.specs.Imports.{Import, import_at}
use Rattle.link_model.specs.Module.{Below, nodes_below}
use Rattle.module_entries.specs.Entries.{EntryLists, no_entries, imports_in, exports_in, stars_in, with_import, with_star, with_below, entered_below, with_exports}

-- ---- one node

import_in : (e : EntryLists) (i : Option Import) (s : Option Node) (is : List Import) → (with_star s (with_import i e)).imports ++ is ≡ e.imports ++ cons_option i is
import_in e None None is = refl
import_in e None (Some s) is = refl
import_in e (Some i) None is = append_assoc e.imports (i ∷ []) is
import_in e (Some i) (Some s) is = append_assoc e.imports (i ∷ []) is

star_in : (e : EntryLists) (i : Option Import) (s : Option Node) (ss : List Node) → (with_star s (with_import i e)).stars ++ ss ≡ e.stars ++ cons_option s ss
star_in e None None ss = refl
star_in e (Some i) None ss = refl
star_in e None (Some s) ss = append_assoc e.stars (s ∷ []) ss
star_in e (Some i) (Some s) ss = append_assoc e.stars (s ∷ []) ss

export_in : (e : EntryLists) (i : Option Import) (s : Option Node) → (with_star s (with_import i e)).exports ≡ e.exports
export_in e None None = refl
export_in e (Some i) None = refl
export_in e None (Some s) = refl
export_in e (Some i) (Some s) = refl

-- ---- all below a node

-- a list of entries that takes at each node what the node gives: below a node it takes what all nodes there give
module _ {X : Type 0} (list : EntryLists → List X) (given : Below → Option X) (takes : (e : EntryLists) (here : Below) (xs : List X) → list (with_below here e) ++ xs ≡ list e ++ cons_option (given here) xs) where
  given_below : (parent : Node) (f : Forest) (e : EntryLists) → list (entered_below parent f e) ≡ list e ++ filter_map given (nodes_below parent f)
  given_below parent nothing e = sym (append-nil (list e))
  given_below parent (tree r k span text marks below id after) e =
      let node : Node = record { kind = k; span = span; text = text; marks = marks; children = below; node_id = id } in
      let here : Below = record { parent = parent; node = node } in
      let first : EntryLists = with_below here e in
      let inner : List X = filter_map given (nodes_below node below) in
      let later : List X = filter_map given (nodes_below parent after) in
      given_below parent after (entered_below node below first)
      ∙ ap (λ xs. xs ++ later) (given_below node below first)
      ∙ append_assoc (list first) inner later
      ∙ takes e here (inner ++ later)
      ∙ ap (λ xs. list e ++ cons_option (given here) xs) (sym (filter_map-append given (nodes_below node below) (nodes_below parent after)))

imports_below : (parent : Node) (f : Forest) (e : EntryLists) → (entered_below parent f e).imports ≡ e.imports ++ filter_map import_at (nodes_below parent f)
imports_below = given_below (λ e. e.imports) import_at (λ e here is. import_in e (import_at here) (star_at here) is)

stars_below : (parent : Node) (f : Forest) (e : EntryLists) → (entered_below parent f e).stars ≡ e.stars ++ filter_map star_at (nodes_below parent f)
stars_below = given_below (λ e. e.stars) star_at (λ e here ss. star_in e (import_at here) (star_at here) ss)

exports_below : (parent : Node) (f : Forest) (e : EntryLists) → (entered_below parent f e).exports ≡ e.exports
exports_below parent nothing e = refl
exports_below parent (tree r k span text marks below id after) e =
    let node : Node = record { kind = k; span = span; text = text; marks = marks; children = below; node_id = id } in
    let here : Below = record { parent = parent; node = node } in
    exports_below parent after (entered_below node below (with_below here e))
    ∙ exports_below node below (with_below here e)
    ∙ export_in e (import_at here) (star_at here)

-- what the pass over a program gathers
pub gathered : (root : Node) → entered_below root root.children no_entries ≡ record { imports = imports_in root; exports = []; stars = stars_in root }
gathered root = λ i. record {
  imports = imports_below root root.children no_entries i;
  exports = exports_below root root.children no_entries i;
  stars = stars_below root root.children no_entries i;
}

-- ---- exports, one after the other

pub more_exports : (e : EntryLists) (xs ys : List Export) → with_exports (with_exports e xs) ys ≡ with_exports e (xs ++ ys)
more_exports e xs ys = λ i. record e { exports = append_assoc e.exports xs ys i }

pub no_exports : (e : EntryLists) → with_exports e [] ≡ e
no_exports e = λ i. record e { exports = append-nil e.exports i }

-- ---- a whole program

pub all_gathered : (root node : Node) (first second third : EntryLists) → node ≡ root → first ≡ no_entries → second ≡ entered_below node node.children first → third ≡ with_exports second (exports_in node)
    → third ≡ record { imports = imports_in root; exports = exports_in root; stars = stars_in root }
all_gathered root node first second third same empty below exported =
    exported
    ∙ ap (λ e. with_exports e (exports_in node)) (below ∙ ap (entered_below node node.children) empty)
    ∙ ap (λ n. with_exports (entered_below n n.children no_entries) (exports_in n)) same
    ∙ ap (λ e. with_exports e (exports_in root)) (gathered root)
