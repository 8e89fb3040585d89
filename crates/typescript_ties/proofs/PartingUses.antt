-- A name parts nowhere if each of its references is tied as it means.
use Rattle.std.proofs.Common.{◌≡◌, List, [], ◌∷◌, Bool, true, false, ◌&&◌, not, refl, ap, ◌∙◌, inl, inr, bytes_eq, map, filter, filter_map}
use Rattle.semantic_syntax.proofs.Truth.{and_false}
use Rattle.semantic_kinds.specs.declared.kind.AstType.TheVariants as kind
use Rattle.semantic_syntax.specs.Tables.{Name}
use Rattle.semantic_tree.specs.Tree.{Tree}
use Rattle.semantic_tree.specs.Views.{is}
use Rattle.semantic_model.specs.Analysis.{analysis_of}
use Rattle.semantic_model.specs.Entries.{Among}
use Rattle.semantic_model.specs.Place.{Place}
use Rattle.semantic_model.specs.Step.{Step, entering, opening, header_ending, closing, leaving, steps}
use Rattle.semantic_model.proofs.once.ListedUnder.{name_tells}
use Rattle.typescript_ties.specs.NamedDeclarations.{named_in}
use Rattle.typescript_ties.specs.Resolved.{NameUse, name_use, used_at}
use Rattle.typescript_ties.specs.ResolvedTies.{is_use_tied, parting_uses}

module _ (p : Tree) (x : Name) (agrees : (q : Place) → Among (entering q) (steps p) → is kind.IdentifierReference q.node ≡ true → q.node.text ≡ x → is_use_tied (analysis_of p) (named_in p) (name_use p.source_type q) ≡ true) where
  abbrev parts : NameUse → Bool
  parts u = bytes_eq u.name x && not (is_use_tied (analysis_of p) (named_in p) u)

  at_place : (q : Place) → Among (entering q) (steps p) → is kind.IdentifierReference q.node ≡ true → parts (name_use p.source_type q) ≡ false
  at_place q a k = elim (name_tells q.node.text x) [
    | inl n ↦ ap (λ b. bytes_eq q.node.text x && not b) (agrees q a k n.1) ∙ and_false (bytes_eq q.node.text x)
    | inr n ↦ ap (λ b. b && not (is_use_tied (analysis_of p) (named_in p) (name_use p.source_type q))) n.0
  ]

  none_of : (ss : List Step) → ((q : Place) → Among (entering q) ss → Among (entering q) (steps p)) → filter parts (filter_map (used_at p.source_type) ss) ≡ []
  none_of [] f = refl
  none_of (entering q ∷ ss) f = go (is kind.IdentifierReference q.node) refl (none_of ss (λ r i. f r (inr i)))
    where
      go : (t : Bool) → is kind.IdentifierReference q.node ≡ t → filter parts (filter_map (used_at p.source_type) ss) ≡ [] → filter parts (filter_map (used_at p.source_type) (entering q ∷ ss)) ≡ []
      go true k later = rw k (rw (at_place q (f q (inl refl)) k) later)
      go false k later = rw k later
  none_of (opening q o ∷ ss) f = none_of ss (λ r i. f r (inr i))
  none_of (header_ending q o ∷ ss) f = none_of ss (λ r i. f r (inr i))
  none_of (closing q o ∷ ss) f = none_of ss (λ r i. f r (inr i))
  none_of (leaving q ∷ ss) f = none_of ss (λ r i. f r (inr i))

  pub none_part : parting_uses p x ≡ []
  none_part = ap (map (λ u. u.node)) (none_of (steps p) (λ q a. a))
