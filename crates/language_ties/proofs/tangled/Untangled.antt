-- What it gives that a name has no reason to be tangled.
use Rattle.std.proofs.Common.{◌≡◌, List, [], ◌∷◌, Bool, true, false, ◌&&◌, ◌||◌, cond, filter, inl, inr, refl, sym, subst, ◌∙◌, bytes_eq, codes, ap}
use Rattle.std.specs.List.{list_any}
use Rattle.std.proofs.lemmas.Bool.{cases_Bool}
use Rattle.semantic_kinds.specs.declared.kind.AstType.TheVariants as kind
use Rattle.semantic_syntax.specs.Tables.{Name}
use Rattle.semantic_tree.specs.Tree.{Tree}
use Rattle.semantic_tree.specs.Views.{is}
use Rattle.semantic_model.specs.Entries.{Among}
use Rattle.semantic_model.specs.Place.{Place}
use Rattle.semantic_model.specs.Step.{entering, steps}
use Rattle.semantic_model.specs.TablesOf.{tables_of}
use Rattle.semantic_model.proofs.form.Clauses.{kind_is}
use Rattle.semantic_model.proofs.lists.Members.{among_left}
use Rattle.semantic_model.proofs.once.ListedUnder.{name_tells}
use Rattle.binding_laws.proofs.ListLaws.{filtered_out, of_flat}
use Rattle.binding_laws.proofs.SmallLaws.{never, not_empty}
use Rattle.tangle_model.specs.Mention.{Mention, noted_if, noted_by, noted_at, mentions}
use Rattle.tangle_model.specs.Surroundings.{in_with_under, home_under, around_under}
use Rattle.tangle_model.specs.Tangled.{is_in_with, any_mention, holds_in, all_reasons, tangle_reasons}
use Rattle.tangle_model.specs.declared.reason.Reason.{Reason}
use Rattle.tangle_model.specs.declared.reason.Reason.TheVariants as reason
use Rattle.tangle_model.specs.declared.what.What.TheVariants as what
use Rattle.language_ties.specs.AgreeingNames.{IsReadOutsideWith}

pub any_of : {A : Type 0} → (test : A → Bool) (xs : List A) (x : A) → Among x xs → test x ≡ true → list_any test xs ≡ true
any_of test [] x a h = absurd a
any_of test (y ∷ xs) x (inl q) h = rw (subst (λ z. test z ≡ true) (sym q) h) refl
any_of test (y ∷ xs) x (inr a) h = or_second (test y) (list_any test xs) (any_of test xs x a h)
  where
    or_second : (b c : Bool) → c ≡ true → (b || c) ≡ true
    or_second true c w = refl
    or_second false c w = w

-- all reasons but that a name stands in a `with`: those before it, and those after
abbrev pub later_reasons : List Reason
later_reasons =
    reason.Eval ∷ reason.FreeNamesake ∷ reason.MergedMember ∷ reason.NamespaceNamesake ∷ reason.InferredName ∷ reason.HiddenParameter ∷ reason.IndexParameter
    ∷ reason.SloppyFunction ∷ reason.ExportedType ∷ reason.TypedVariable ∷ reason.TypedFunctionName ∷ []

abbrev pub other_reasons : List Reason
other_reasons = reason.BlockFunction ∷ reason.CatchVariable ∷ reason.Arguments ∷ later_reasons

-- none of these holds of the name
abbrev pub NoneButWith : Tree → Name → Type 0
NoneButWith p name = filter (λ r. holds_in p.source_type (mentions p) (tables_of p) r name) other_reasons ≡ []

module _ (p : Tree) (name : Name) (others : NoneButWith p name) where
  pub holds_not : (r : Reason) → Among r other_reasons → holds_in p.source_type (mentions p) (tables_of p) r name ≡ false
  holds_not r a = filtered_out (λ r. holds_in p.source_type (mentions p) (tables_of p) r name) other_reasons r others a

  -- it isn't `arguments`
  pub no_arguments : bytes_eq name (codes "arguments") ≡ false
  no_arguments = holds_not reason.Arguments (inr (inr (inl refl)))

-- a reason that is told where it holds
abbrev told_if : Bool → Reason → List Reason → List Reason
told_if b r rs = cond b (r ∷ rs) rs

-- where none is told, no other is
none_told : (b c a w : Bool) (rs : List Reason) → told_if b reason.BlockFunction (told_if c reason.CatchVariable (told_if a reason.Arguments (told_if w reason.With rs))) ≡ [] → told_if b reason.BlockFunction (told_if c reason.CatchVariable (told_if a reason.Arguments rs)) ≡ []
none_told true c a w rs h = absurd (not_empty reason.BlockFunction _ h)
none_told false true a w rs h = absurd (not_empty reason.CatchVariable _ h)
none_told false false true w rs h = absurd (not_empty reason.Arguments _ h)
none_told false false false true rs h = absurd (not_empty reason.With rs h)
none_told false false false false rs h = h

-- nor where that one is told alone
abbrev is_with : Reason → Bool
is_with reason.With = true
is_with _ = false

never_kept : (test : Reason → Bool) (rs : List Reason) → list_any is_with rs ≡ false → filter test rs ≡ reason.With ∷ [] → ⊥
never_kept test [] none h = absurd cc
never_kept test (r ∷ rs) none h = go (is_with r) refl none (test r) h (never_kept test rs)
  where
    first_or : List Reason → Reason
    first_or [] = r
    first_or (x ∷ xs) = x

    go : (w : Bool) → is_with r ≡ w → (w || list_any is_with rs) ≡ false → (b : Bool) → cond b (r ∷ filter test rs) (filter test rs) ≡ reason.With ∷ [] → (list_any is_with rs ≡ false → filter test rs ≡ reason.With ∷ [] → ⊥) → ⊥
    go true e n b i later = never n
    go false e n true i later = never (sym (ap is_with (ap first_or i)) ∙ e)
    go false e n false i later = later n i

one_told : (b c a w : Bool) (rs : List Reason) → (rs ≡ reason.With ∷ [] → ⊥) → told_if b reason.BlockFunction (told_if c reason.CatchVariable (told_if a reason.Arguments (told_if w reason.With rs))) ≡ reason.With ∷ [] → told_if b reason.BlockFunction (told_if c reason.CatchVariable (told_if a reason.Arguments rs)) ≡ []
one_told true c a w rs n h = absurd cc
one_told false true a w rs n h = absurd cc
one_told false false true w rs n h = absurd cc
one_told false false false true rs n h = cc
one_told false false false false rs n h = absurd (n h)

module _ (p : Tree) (name : Name) where
  abbrev holds : Reason → Bool
  holds r = holds_in p.source_type (mentions p) (tables_of p) r name

  abbrev later : List Reason
  later = filter holds later_reasons

  -- of a name that isn't tangled, and of one that is only by this reason
  pub none_but_with : tangle_reasons p name ≡ [] → NoneButWith p name
  none_but_with h = none_told (holds reason.BlockFunction) (holds reason.CatchVariable) (holds reason.Arguments) (holds reason.With) later h

  pub with_alone : tangle_reasons p name ≡ reason.With ∷ [] → NoneButWith p name
  with_alone h = one_told (holds reason.BlockFunction) (holds reason.CatchVariable) (holds reason.Arguments) (holds reason.With) later (never_kept holds later_reasons refl) h

module _ (p : Tree) (name : Name) (untangled : tangle_reasons p name ≡ []) where
  -- nothing of it is noted that stands in a `with`
  not_in_with : any_mention is_in_with (mentions p) name ≡ false
  not_in_with = filtered_out (λ r. holds_in p.source_type (mentions p) (tables_of p) r name) all_reasons reason.With untangled (inr (inr (inr (inl refl))))

  noted_in_with : (q : Place) → is kind.IdentifierReference q.node ≡ true → in_with_under q.path ≡ true → Among (record { what = what.InWith; home = home_under q.path; name = q.node.text }) (noted_at p.source_type (entering q))
  noted_in_with q k w =
      let m : Mention = record { what = what.InWith; home = home_under q.path; name = q.node.text } in
      let first : Among m (noted_if (in_with_under q.path) what.InWith (home_under q.path) q.node.text) =
      subst (λ b. Among m (noted_if b what.InWith (home_under q.path) q.node.text)) (sym w) (inl refl) in
      subst (λ j. Among m (noted_by j (around_under p.source_type q.path) q.node)) (sym (kind_is q.node.kind kind.IdentifierReference k))
      (among_left m _ _ (among_left m _ _ (among_left m _ _ (among_left m _ _ first))))

  -- so no `with` holds a reference of it
  pub read_outside_with : IsReadOutsideWith p name
  read_outside_with q a k n = elim (cases_Bool (in_with_under q.path)) [
    | inr w ↦ w
    | inl w ↦ (let m : Mention = record { what = what.InWith; home = home_under q.path; name = q.node.text } in
        let there : Among m (mentions p) = of_flat (noted_at p.source_type) (steps p) (entering q) m a (noted_in_with q k w) in
        let named : bytes_eq name q.node.text ≡ true = elim (name_tells name q.node.text) [ inl i ↦ i.0 | inr i ↦ absurd (i.1 (sym n)) ] in
        absurd (never (sym (any_of (λ i. is_in_with i && bytes_eq name i.name) (mentions p) m there named) ∙ not_in_with)))
  ]
