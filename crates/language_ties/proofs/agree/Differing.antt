-- Where tables and language agree on each reference of a name, they differ on none.
use Rattle.std.proofs.Common.{◌≡◌, List, [], ◌∷◌, Bool, true, false, ◌&&◌, not, map, filter, inl, inr, refl, ap, ◌∙◌, bytes_eq}
use Rattle.semantic_syntax.proofs.Truth.{and_false}
use Rattle.semantic_kinds.specs.declared.kind.AstType.TheVariants as kind
use Rattle.semantic_syntax.specs.Tables.{Name}
use Rattle.semantic_tree.specs.Tree.{Tree}
use Rattle.semantic_tree.specs.Views.{is}
use Rattle.semantic_model.specs.Analysis.{analysis_of}
use Rattle.semantic_model.specs.Entries.{Among}
use Rattle.semantic_model.specs.Place.{Place}
use Rattle.semantic_model.specs.Step.{Step, entering, opening, header_ending, closing, leaving, steps}
use Rattle.semantic_model.proofs.once.ListedUnder.{name_tells}
use Rattle.language_ties.specs.Agreement.{use_agrees, differing}
use Rattle.language_ties.specs.Meaning.{Use, use_at, uses}
use Rattle.language_ties.specs.Moved.{bound_of}

module _ (p : Tree) (x : Name) (agree : (q : Place) → Among (entering q) (steps p) → is kind.IdentifierReference q.node ≡ true → q.node.text ≡ x → use_agrees (analysis_of p) (bound_of p) (use_at q) ≡ true) where
  abbrev differs : Use → Bool
  differs u = bytes_eq u.name x && not (use_agrees (analysis_of p) (bound_of p) u)

  at_place : (q : Place) → Among (entering q) (steps p) → is kind.IdentifierReference q.node ≡ true → differs (use_at q) ≡ false
  at_place q a k = elim (name_tells q.node.text x) [
    | inl n ↦ ap (λ b. bytes_eq q.node.text x && not b) (agree q a k n.1) ∙ and_false (bytes_eq q.node.text x)
    | inr n ↦ ap (λ b. b && not (use_agrees (analysis_of p) (bound_of p) (use_at q))) n.0
  ]

  none_of : (ss : List Step) → ((q : Place) → Among (entering q) ss → Among (entering q) (steps p)) → filter differs (uses ss) ≡ []
  none_of [] f = refl
  none_of (entering q ∷ ss) f = go (is kind.IdentifierReference q.node) refl (none_of ss (λ r i. f r (inr i)))
    where
      go : (t : Bool) → is kind.IdentifierReference q.node ≡ t → filter differs (uses ss) ≡ [] → filter differs (uses (entering q ∷ ss)) ≡ []
      go true k later = rw k (rw (at_place q (f q (inl refl)) k) later)
      go false k later = rw k later
  none_of (opening q o ∷ ss) f = none_of ss (λ r i. f r (inr i))
  none_of (header_ending q o ∷ ss) f = none_of ss (λ r i. f r (inr i))
  none_of (closing q o ∷ ss) f = none_of ss (λ r i. f r (inr i))
  none_of (leaving q ∷ ss) f = none_of ss (λ r i. f r (inr i))

  pub nothing_differs : differing p x ≡ []
  nothing_differs = ap (map (λ u. u.node)) (none_of (steps p) (λ q a. a))
