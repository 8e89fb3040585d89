-- What is declared is made, once and for all, and is named as it was written.
use Rattle.std.proofs.Common.{◌≡◌, ℕ, List, [], ◌∷◌, Bool, true, false, if◌then◌else◌, inl, inr, refl, sym, subst}
use Rattle.semantic_model.specs.Declaration.{Declaration, How, plain, hoisted, moved, caught}
use Rattle.semantic_model.specs.Entries.{Among}
use Rattle.semantic_model.specs.Event.{Event, declares, takes_over, ends_header, declarations, placed_by, is_barred, staying_declaration}
use Rattle.semantic_model.specs.Fold.{State, Made}
use Rattle.semantic_model.specs.Hoist.{act, run}
use Rattle.semantic_model.specs.Place.{outside}
use Rattle.semantic_model.proofs.fold.Orders.{Adds, adds}
use Rattle.semantic_model.proofs.lists.Members.{among_left, among_last}

-- what is made stays made
pub made_stays : (y : Made) (st : State) (es : List Event) → Among y st.made → Among y (run st es).made
made_stays y st [] a = a
made_stays y st (declares d ∷ es) a =
    let w : Adds st.made d (act st (declares d)).made = adds st d in
    made_stays y (act st (declares d)) es (subst (Among y) (sym w.adds) (among_left y st.made (record { declaration = d; symbol = w.symbol } ∷ []) a))
made_stays y st (takes_over c b ∷ es) a = made_stays y (act st (takes_over c b)) es a
made_stays y st (ends_header c ∷ es) a = made_stays y st es a

pub is_made : (d : Declaration) (st : State) (es : List Event) → Among d (declarations es) → (s : ℕ) × Among (record { declaration = d; symbol = s }) (run st es).made
is_made d st [] a = absurd a
is_made d st (declares e ∷ es) (inl q) =
    let w : Adds st.made e (act st (declares e)).made = adds st e in
    let y : Made = record { declaration = e; symbol = w.symbol } in
    (w.symbol, subst (λ z. Among (record { declaration = z; symbol = w.symbol }) (run (act st (declares e)) es).made) q (made_stays y (act st (declares e)) es (subst (Among y) (sym w.adds) (among_last y st.made))))
is_made d st (declares e ∷ es) (inr a) = is_made d (act st (declares e)) es a
is_made d st (takes_over c b ∷ es) a = is_made d (act st (takes_over c b)) es a
is_made d st (ends_header c ∷ es) a = is_made d st es a

pub placed_naming : (how : How) (ds : List Declaration) (d : Declaration) → (placed_by how ds d).naming ≡ d.naming
placed_naming plain ds d = refl
placed_naming hoisted ds d = refl
placed_naming caught ds d = refl
placed_naming moved ds d = go (is_barred ds d (outside d.route.passed))
  where
    go : (b : Bool) → (if b then staying_declaration d else d).naming ≡ d.naming
    go true = refl
    go false = refl
