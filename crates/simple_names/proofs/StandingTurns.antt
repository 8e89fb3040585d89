-- The names at nodes that bear no symbol which may change, child by child.
use Rattle.std.proofs.Common.{◌≡◌, ◌+◌, ◌<◌, ℕ, List, [], ◌∷◌, ◌++◌, Bool, ◌||◌, ◌&&◌, not, cond, length, drop, get_or, sym, ap, ◌∙◌}
use Rattle.semantic_kinds.specs.declared.role.Role.{Role}
use Rattle.semantic_syntax.specs.Tables.{Name}
use Rattle.semantic_syntax.proofs.Truth.{drop_here, or_assoc}
use Rattle.semantic_tree.specs.Children.{forest_of}
use Rattle.semantic_tree.specs.Renamed.{is_program_name, setting_below}
use Rattle.semantic_tree.specs.declared.node.Node.{Node}
use Rattle.semantic_tree.specs.declared.swap.Setting.{Setting}
use Rattle.mangle_model.specs.OneNameEach.{fixed_below}
use Rattle.simple_names.specs.Telling.{is_name_among}
use Rattle.simple_names.proofs.AmongNames.{has_append}

module _ (bears : ℕ → Bool) (setting : Setting) where
  -- the name of a child, if it stands there
  abbrev pub own : Role × Node → List Name
  own child = cond (is_program_name setting child.0 child.1.kind && not (bears child.1.node_id)) (child.1.text ∷ []) []

  -- those below it
  abbrev pub below : Role × Node → List Name
  below child = fixed_below bears (setting_below setting child.0 child.1.kind) child.1.children

  pub standing_turn : (q : Name) (items : List (Role × Node)) (i : ℕ) (child : Role × Node) (old mid new : List Name) (whole : Bool) → i < length items → child ≡ get_or items i child
      → is_name_among mid q ≡ (is_name_among old q || is_name_among (own child) q) → is_name_among new q ≡ (is_name_among mid q || is_name_among (below child) q)
      → (is_name_among old q || is_name_among (fixed_below bears setting (forest_of (drop i items))) q) ≡ whole
      → (is_name_among new q || is_name_among (fixed_below bears setting (forest_of (drop (i + 1) items))) q) ≡ whole
  standing_turn q items i child old mid new whole h is named grown rest =
      let left : List Name = fixed_below bears setting (forest_of (drop (i + 1) items)) in
      ap (λ b. b || is_name_among left q) (grown ∙ ap (λ b. b || is_name_among (below child) q) named)
      ∙ or_assoc (is_name_among old q || is_name_among (own child) q) (is_name_among (below child) q) (is_name_among left q)
      ∙ ap (λ b. (is_name_among old q || is_name_among (own child) q) || b) (sym (has_append q (below child) left))
      ∙ or_assoc (is_name_among old q) (is_name_among (own child) q) (is_name_among (below child ++ left) q)
      ∙ ap (λ b. is_name_among old q || b) (sym (has_append q (own child) (below child ++ left)))
      ∙ ap (λ xs. is_name_among old q || is_name_among (fixed_below bears setting (forest_of xs)) q) (sym (drop_here items i child h is))
      ∙ rest
