-- Symbols with their new names, one by one.
use Rattle.std.proofs.Common.{◌≡◌, ℕ, zero, suc, ◌+◌, ◌<◌, List, [], ◌∷◌, length, slice_index_or, refl, ap, ◌∙◌, arith}
use Rattle.semantic_syntax.specs.Tables.{Symbol}
use Rattle.mangle_model.specs.Assignment.{Assignment, name_or}
use Rattle.mangle_model.specs.Alike.{renamed_symbols}

pub as_many_symbols : (names : Assignment) (from : ℕ) (ys : List Symbol) → length (renamed_symbols names from ys) ≡ length ys
as_many_symbols names from [] = refl
as_many_symbols names from (y ∷ ys) = ap (λ n. suc n) (as_many_symbols names (suc from) ys)

-- a symbol with its new name
abbrev pub renamed_symbol : Assignment → ℕ → Symbol → Symbol
renamed_symbol names s y = record y { name = name_or (names s) y.name }

renamed_from : (names : Assignment) (from : ℕ) (ys : List Symbol) (i : ℕ) (d : Symbol) → i < length ys
    → slice_index_or (renamed_symbols names from ys) i d ≡ renamed_symbol names (from + i) (slice_index_or ys i d)
renamed_from names from [] i d h = absurd (omega arith)
renamed_from names from (y ∷ ys) zero d h = ap (λ s. renamed_symbol names s y) (omega arith)
renamed_from names from (y ∷ ys) (suc i) d h =
    renamed_from names (suc from) ys i d (omega arith) ∙ ap (λ s. renamed_symbol names s (slice_index_or ys i d)) (omega arith)

pub renamed_at : (names : Assignment) (ys : List Symbol) (i : ℕ) (d : Symbol) → i < length ys
    → slice_index_or (renamed_symbols names 0 ys) i d ≡ renamed_symbol names i (slice_index_or ys i d)
renamed_at names ys i d h = renamed_from names 0 ys i d h ∙ ap (λ s. renamed_symbol names s (slice_index_or ys i d)) (omega arith)
