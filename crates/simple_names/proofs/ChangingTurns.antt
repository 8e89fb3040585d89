-- The names that change, symbol by symbol.
use Rattle.std.proofs.Common.{◌≡◌, ◌+◌, ◌<◌, ◌≤◌, ℕ, List, ◌∷◌, Bool, true, false, cond, filter, fold, length, drop, map, get_or, refl, sym, ap, ◌∙◌}
use Rattle.std.proofs.lemmas.List.{drop_more, drop_all}
use Rattle.semantic_syntax.specs.Reading.{no_symbol}
use Rattle.semantic_syntax.specs.Tables.{Name, Symbol}
use Rattle.mangle_model.specs.OneNameEach.{joining}

one_joins_by : (old : List Name) (name : Name) (more : List Name) (b : Bool) → fold joining (cond b (joining old name) old) more ≡ fold joining old (cond b (name ∷ more) more)
one_joins_by old name more true = refl
one_joins_by old name more false = refl

module _ (test : Name → Bool) where
  -- the names with those of symbols that pass
  abbrev pub joined : List Name → List Symbol → List Name
  joined names ys = fold joining names (filter test (map (λ (y : Symbol). y.name) ys))

  one_joins : (old : List Name) (y : Symbol) (ys : List Symbol) → joined (cond (test y.name) (joining old y.name) old) ys ≡ joined old (y ∷ ys)
  one_joins old y ys = one_joins_by old y.name (filter test (map (λ (z : Symbol). z.name) ys)) (test y.name)

  pub joined_turn : (ys : List Symbol) (i : ℕ) (old new whole : List Name) → i < length ys → new ≡ cond (test (get_or ys i no_symbol).name) (joining old (get_or ys i no_symbol).name) old
      → joined old (drop i ys) ≡ whole → joined new (drop (i + 1) ys) ≡ whole
  joined_turn ys i old new whole h is rest =
      ap (λ names. joined names (drop (i + 1) ys)) is ∙ one_joins old (get_or ys i no_symbol) (drop (i + 1) ys) ∙ ap (joined old) (sym (drop_more ys i no_symbol h)) ∙ rest

  pub joined_end : (ys : List Symbol) (i : ℕ) (names whole : List Name) → length ys ≤ i → joined names (drop i ys) ≡ whole → names ≡ whole
  joined_end ys i names whole h rest = ap (joined names) (sym (drop_all i ys h)) ∙ rest
