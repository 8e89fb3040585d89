-- Tables and language agree on the references of plain names.
use Rattle.std.proofs.Common.{◌≡◌, ℕ, List, [], ◌∷◌, Option, Some, None, true, false, inl, inr, refl, sym, ap, subst, ◌∙◌, bytes_eq, codes}
use Rattle.std.specs.List.{list_all}
use Rattle.std.proofs.lemmas.Bool.Decides.{eqb_tells}
use Rattle.semantic_kinds.specs.Kinds.{same_kind}
use Rattle.semantic_kinds.specs.declared.kind.AstType.TheVariants as kind
use Rattle.semantic_syntax.specs.Tables.{Name}
use Rattle.semantic_tree.specs.Faults.{first_fault}
use Rattle.semantic_tree.specs.Tree.{Tree, IsNumbered}
use Rattle.semantic_tree.specs.Views.{is}
use Rattle.semantic_model.specs.Analysis.{analysis_of, symbol_at, tied_at}
use Rattle.semantic_model.specs.Entries.{Among}
use Rattle.semantic_model.specs.Event.{declarations, events, is_catch_body}
use Rattle.semantic_model.specs.Fold.{start}
use Rattle.semantic_model.specs.Hoist.{run}
use Rattle.semantic_model.specs.Place.{Place}
use Rattle.semantic_model.specs.Reference.{reference_at}
use Rattle.semantic_model.specs.Step.{entering, steps}
use Rattle.semantic_model.proofs.form.Clauses.{kind_is}
use Rattle.binding_laws.proofs.ListLaws.{each_at}
use Rattle.binding_laws.proofs.ReferredNodes.{IsReferred, is_referred}
use Rattle.language_ties.specs.Agreement.{is_symbol, is_none, is_tied_as_bound, agrees, use_agrees, use_agrees_past_objects}
use Rattle.tangle_model.specs.Surroundings.{in_with_under}
use Rattle.language_ties.specs.AgreeingNames.{IsPlainName, StandsInExpressions}
use Rattle.language_ties.specs.EcmaScript.{is_ecmascript}
use Rattle.language_ties.specs.Environments.{environments}
use Rattle.language_ties.specs.Meaning.{Meaning, unbound, of_object, bound, meaning_past_objects, use_at}
use Rattle.language_ties.specs.Moved.{bound_of}
use Rattle.language_ties.specs.NearestScopes.{nearest_symbol}
use Rattle.language_ties.specs.SharedSymbols.{AllKeepClear}
use Rattle.language_ties.proofs.agree.Agreeing.{agree_program}
use Rattle.language_ties.proofs.agree.PlaceAgreement.{AllAre, Matches, AgreesBy, AgreesAt}
use Rattle.language_ties.proofs.caught.CaughtBounds.{no_block}
use Rattle.language_ties.proofs.moved.BlockMeanings.{as_language, expressed}
use Rattle.language_ties.proofs.moved.Settled.{bound_as_settled}
use Rattle.language_ties.proofs.nearest.NearestTies.{tied_nearest}
use Rattle.language_ties.specs.Bound.{written}
use Rattle.language_ties.proofs.with_bodies.PastObjects.{same_outside}

module _ (p : Tree) where
  abbrev AllAreSymbols : List ℕ → ℕ → Type 0
  AllAreSymbols [] s = Unit {0}
  AllAreSymbols (i ∷ is) s = (symbol_at (analysis_of p) i ≡ Some s) × AllAreSymbols is s

  -- the symbol of a list of identifiers
  tied_to_all : (ids : List ℕ) (s : ℕ) → AllAreSymbols ids s → list_all (λ i. is_symbol s (symbol_at (analysis_of p) i)) ids ≡ true
  tied_to_all [] s k = refl
  tied_to_all (i ∷ ids) s k =
      let one : is_symbol s (symbol_at (analysis_of p) i) ≡ true = ap (is_symbol s) k.0 ∙ elim (eqb_tells s s) [ inl e ↦ e.0 | inr e ↦ absurd (e.1 refl) ] in
      rw one (tied_to_all ids s k.1)

  module _ (h : first_fault p ≡ None) (e : is_ecmascript p ≡ true) (numbered : IsNumbered p.root) (x : Name) (not_arguments : bytes_eq x (codes "arguments") ≡ false) (clear : AllKeepClear x (declarations (events (steps p)))) (plain : IsPlainName p x) where
    abbrev Fits : Option ℕ → Meaning → Type 0
    Fits o m = Matches p o m

    same_list : (ids : List ℕ) (s : ℕ) → AllAre p ids s → AllAreSymbols ids s
    same_list [] s k = tt
    same_list (i ∷ ids) s k = (k.0, same_list ids s k.1)

    fits_agree : (node : ℕ) (o : Option ℕ) (m : Meaning) → tied_at (analysis_of p) node ≡ o → Fits o m → agrees (analysis_of p) node m ≡ true
    fits_agree node o unbound q k = ap is_none (q ∙ k)
    fits_agree node o (of_object d) q k = absurd k
    fits_agree node o (bound d []) q k = absurd k
    fits_agree node o (bound d (i ∷ is)) q k = ap (is_tied_as_bound (analysis_of p) (i ∷ is)) (q ∙ k.1) ∙ tied_to_all (i ∷ is) k.0 (same_list (i ∷ is) k.0 k.2)

    -- a reference is tied to what the nearest scope binds
    tied_here : (q : Place) → Among (entering q) (steps p) → is kind.IdentifierReference q.node ≡ true → q.node.text ≡ x → tied_at (analysis_of p) q.node.node_id ≡ nearest_symbol (run start (events (steps p))) (events (steps p)) x q.chain
    tied_here q a k n =
        let r : IsReferred p q = is_referred p numbered q a k in
        r.tied
        ∙ tied_nearest p h e r.number (reference_at q) r.entry r.reference r.row (subst (λ y. bytes_eq y (codes "arguments") ≡ false) (sym n) not_arguments)
        ∙ ap (λ y. nearest_symbol (run start (events (steps p))) (events (steps p)) y q.chain) n

    not_identifier : (q : Place) → is kind.IdentifierReference q.node ≡ true → is kind.BindingIdentifier q.node ≡ false
    not_identifier q k = subst (λ j. same_kind j kind.BindingIdentifier ≡ false) (sym (kind_is q.node.kind kind.IdentifierReference k)) refl

    no_body : (q : Place) → is kind.IdentifierReference q.node ≡ true → is_catch_body q ≡ false
    no_body q k = no_block q (subst (λ j. same_kind j kind.BlockStatement ≡ false) (sym (kind_is q.node.kind kind.IdentifierReference k)) refl)

    -- if no object of a `with` has the name
    pub agrees_past_objects : (q : Place) → Among (entering q) (steps p) → is kind.IdentifierReference q.node ≡ true → q.node.text ≡ x → StandsInExpressions (written p.source_type (steps p)) x q.node q.path → use_agrees_past_objects (analysis_of p) (bound_of p) (use_at q) ≡ true
    agrees_past_objects q a k n i =
        let as_settled : Fits (nearest_symbol (run start (events (steps p))) (events (steps p)) x q.chain) (meaning_past_objects (bound_as_settled p) (environments q.node q.path) x) =
        subst (λ b. AgreesBy p x b q) (no_body q k)
        (each_at (AgreesAt p x) (steps p) (entering q) (agree_program p h e numbered x not_arguments clear plain) a (not_identifier q k)) (expressed p x q.node q.path i) in
        let agree : Fits (nearest_symbol (run start (events (steps p))) (events (steps p)) x q.chain) (meaning_past_objects (bound_of p) (environments q.node q.path) x) =
        as_language p h e numbered x not_arguments plain q a (nearest_symbol (run start (events (steps p))) (events (steps p)) x q.chain) as_settled in
        subst (λ y. agrees (analysis_of p) q.node.node_id (meaning_past_objects (bound_of p) (environments q.node q.path) y) ≡ true) (sym n)
        (fits_agree q.node.node_id (nearest_symbol (run start (events (steps p))) (events (steps p)) x q.chain) (meaning_past_objects (bound_of p) (environments q.node q.path) x) (tied_here q a k n) agree)

    -- outside of `with` there is none
    pub agrees_outside : (q : Place) → Among (entering q) (steps p) → is kind.IdentifierReference q.node ≡ true → q.node.text ≡ x → in_with_under q.path ≡ false → StandsInExpressions (written p.source_type (steps p)) x q.node q.path → use_agrees (analysis_of p) (bound_of p) (use_at q) ≡ true
    agrees_outside q a k n w i =
        subst (λ m. agrees (analysis_of p) q.node.node_id m ≡ true) (sym (same_outside (bound_of p) q.node.text q.node q.path w)) (agrees_past_objects q a k n i)
