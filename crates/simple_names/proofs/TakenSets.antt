-- What sets of names tell of names.
use Rattle.std.proofs.Common.{◌≡◌, ℕ, suc, List, [], ◌∷◌, ◌++◌, Bool, false, not, ◌&&◌, ◌||◌, bytes_eq, map, nat_lt, refl, sym, ap, ◌∙◌}
use Rattle.std.specs.List.{list_any}
use Rattle.semantic_syntax.proofs.Truth.{or_assoc}
use Rattle.semantic_syntax.specs.Tables.{Name, Symbol, FreeLists}
use Rattle.semantic_tree.specs.Tree.{Tree}
use Rattle.semantic_tree.specs.declared.swap.Setting.TheVariants.{Elsewhere}
use Rattle.semantic_model.specs.Analysis.{Analysis}
use Rattle.mangle_model.specs.GoodNames.{is_free_name, is_kept_name, is_reserved, reserved_words}
use Rattle.mangle_model.specs.OneNameEach.{bears_such, does_change, fixed_below, is_unused_name, symbol_names}
use Rattle.mangle_model.specs.Written.{size_of}
use Rattle.mangle_names.proofs.BarredNames.{bytes_flip}
use Rattle.simple_names.specs.Telling.{is_name_among}
use Rattle.simple_names.specs.TakenNames.{changes_by, unused_by, AreTaken}
use Rattle.simple_names.specs.declared.sets.Taken.{Taken}
use Rattle.simple_names.proofs.AmongNames.{has_append}

-- where no symbol may change, the names of all are kept
pub all_kept : (may : ℕ → Bool) → ((s : ℕ) → may s ≡ false) → (q : Name) (s : ℕ) (ys : List Symbol) → is_kept_name may q s ys ≡ is_name_among (map (λ (y : Symbol). y.name) ys) q
all_kept may none q s [] = refl
all_kept may none q s (y ∷ ys) = λ i. not (none s i) && bytes_flip y.name q i || all_kept may none q (suc s) ys i

free_named : (q : Name) (xs : FreeLists) → list_any (λ f. bytes_eq f.0 q) xs ≡ is_name_among (map (λ f. f.0) xs) q
free_named q [] = refl
free_named q (x ∷ xs) = λ i. bytes_flip x.0 q i || free_named q xs i

module _ (may : ℕ → Bool) (a : Analysis) (p : Tree) (taken : Taken) (h : AreTaken may a p taken) where
  abbrev standing : List Name
  standing = fixed_below (bears_such may a) Elsewhere p.root.children

  pub changes_so : (name : Name) → changes_by taken name ≡ does_change may a p name
  changes_so name =
      ap (λ b. nat_lt 1 (size_of name) && not b) ((λ i. h.barred name i || h.standing name i) ∙ or_assoc (is_free_name a.tables name) (is_kept_name may name 0 a.tables.symbols) (is_name_among standing name))

  pub unused_so : (name : Name) → unused_by taken name ≡ is_unused_name may a p name
  unused_so name =
      let free : List Name = map (λ f. f.0) a.tables.free in
      let symbols : List Name = symbol_names a.tables in
      ap (λ b. not (is_reserved name || b)) (
      (λ i. h.tabled name i || h.standing name i)
      ∙ or_assoc (is_free_name a.tables name) (is_name_among symbols name) (is_name_among standing name)
      ∙ (λ i. free_named name a.tables.free i || sym (has_append name symbols standing) i)
      ∙ sym (has_append name free (symbols ++ standing)))
      ∙ ap not (sym (has_append name reserved_words (free ++ (symbols ++ standing))))
