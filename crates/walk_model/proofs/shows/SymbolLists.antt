-- The symbols after a change of one, as the walk writes it and as the definitions do.
use Rattle.std.proofs.Common.{◌≡◌, ℕ, zero, suc, List, [], ◌∷◌, refl, ap, ◌∙◌, fold, slice_index_or}
use Rattle.std.specs.Prelude.{slice_get, slice_set}
use Rattle.std.specs.Map.{values_of}
use Rattle.semantic_syntax.specs.Tables.{Symbol, Bindings}
use Rattle.semantic_syntax.specs.Reading.{no_symbol}
use Rattle.semantic_syntax.specs.Writing.{with_home}
use Rattle.semantic_model.specs.Naming.{Naming}
use Rattle.semantic_model.specs.Fold.{update, conflict_of, conflict_with, redeclared, united, in_scope}
use Rattle.semantic_model.specs.Hoist.{rescoped}

pub set_is_update : (f : Symbol → Symbol) (ys : List Symbol) (n : ℕ) (d : Symbol) → slice_set ys n (f (slice_index_or ys n d)) ≡ update f ys n
set_is_update f [] n d = refl
set_is_update f (y ∷ ys) zero d = refl
set_is_update f (y ∷ ys) (suc n) d = ap (λ zs. y ∷ zs) (set_is_update f ys n d)

pub update_twice : (f g : Symbol → Symbol) (ys : List Symbol) (n : ℕ) → update g (update f ys n) n ≡ update (λ y. g (f y)) ys n
update_twice f g [] n = refl
update_twice f g (y ∷ ys) zero = refl
update_twice f g (y ∷ ys) (suc n) = ap (λ zs. y ∷ zs) (update_twice f g ys n)

pub conflict_at : (d : Naming) (ys : List Symbol) (n : ℕ) → conflict_of d (slice_index_or ys n no_symbol) ≡ conflict_with d (slice_get ys n)
conflict_at d [] n = refl
conflict_at d (y ∷ ys) zero = refl
conflict_at d (y ∷ ys) (suc n) = conflict_at d ys n

pub united_at : (d : Naming) (ys : List Symbol) (n : ℕ)
    → slice_set (slice_set ys n (redeclared d (slice_index_or ys n no_symbol))) n (united d.flags (slice_index_or (slice_set ys n (redeclared d (slice_index_or ys n no_symbol))) n no_symbol))
    ≡ update (λ y. united d.flags (redeclared d y)) ys n
united_at d ys n =
    set_is_update (united d.flags) (slice_set ys n (redeclared d (slice_index_or ys n no_symbol))) n no_symbol
    ∙ ap (λ zs. update (united d.flags) zs n) (set_is_update (redeclared d) ys n no_symbol)
    ∙ update_twice (redeclared d) (united d.flags) ys n

pub rescoped_as : (ys : List Symbol) (bs : Bindings) (c : ℕ) → fold (with_home c) ys (values_of bs) ≡ rescoped ys bs c
rescoped_as ys [] c = refl
rescoped_as ys (b ∷ bs) c = ap (λ zs. fold (with_home c) zs (values_of bs)) (set_is_update (in_scope c) ys b.1 no_symbol) ∙ rescoped_as (update (in_scope c) ys b.1) bs c
