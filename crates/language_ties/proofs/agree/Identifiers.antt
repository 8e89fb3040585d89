-- The identifiers by which an environment binds a plain name, and what they make the name mean.
use Rattle.std.proofs.Common.{◌≡◌, ℕ, List, [], ◌∷◌, Bool, true, false, ◌&&◌, ◌||◌, cond, map, filter, inl, inr, ◌⊎◌, refl, sym, ap, subst, ◌∙◌, bytes_eq, codes}
use Rattle.std.specs.List.{list_any}
use denote.Enum.Bare.{true_same}
use Rattle.std.proofs.lemmas.Bool.Decides.{eqb_tells}
use Rattle.semantic_syntax.proofs.Truth.{and_first, and_second, and_false}
use Rattle.semantic_syntax.specs.Tables.{Name}
use Rattle.semantic_model.specs.Entries.{Among}
use Rattle.semantic_model.proofs.once.ListedUnder.{name_tells}
use Rattle.binding_laws.proofs.SmallLaws.{either}
use Rattle.language_ties.specs.Bound.{Bound, is_bound_as}
use Rattle.language_ties.specs.Environments.{Environment, same_environment_kind, same_environment, is_made_for}
use Rattle.language_ties.specs.Meaning.{bound, is_bound_in, identifiers_in, binds_arguments, bound_or, meaning_past_objects as meaning}
use Rattle.language_ties.specs.Moved.{moved, bars, unless_barred}
use Rattle.language_ties.specs.contracts.environment_kind.EnvironmentKind.{the_type as the_kinds}
use Rattle.language_ties.specs.declared.bound_as.BoundAs.TheVariants as way
use Rattle.language_ties.specs.declared.environment_kind.EnvironmentKind.{EnvironmentKind}
use Rattle.language_ties.specs.declared.environment_kind.EnvironmentKind.TheVariants as environment
use Rattle.language_ties.proofs.agree.MadeEnvironments.{same_environment_is}

same_kind_again : (k : EnvironmentKind) → same_environment_kind k k ≡ true
same_kind_again k = true_same the_kinds k k refl

pub same_again : (e : Environment) → same_environment e e ≡ true
same_again e = elim (eqb_tells e.maker e.maker) [ inl m ↦ rw (same_kind_again e.kind, m.0) refl | inr m ↦ absurd (m.1 refl) ]

-- a variable of a block function may be barred; all else stays as it is bound
pub moved_name : (ws : List Bound) (b : Bound) → (moved ws b).name ≡ b.name
moved_name ws b = go (is_bound_as way.Function b)
  where
    go : (t : Bool) → (cond t (record b { also = unless_barred ws b b.also }) b).name ≡ b.name
    go true = refl
    go false = refl

pub moved_identifier : (ws : List Bound) (b : Bound) → (moved ws b).identifier ≡ b.identifier
moved_identifier ws b = go (is_bound_as way.Function b)
  where
    go : (t : Bool) → (cond t (record b { also = unless_barred ws b b.also }) b).identifier ≡ b.identifier
    go true = refl
    go false = refl

moved_environment : (ws : List Bound) (b : Bound) → (moved ws b).environment ≡ b.environment
moved_environment ws b = go (is_bound_as way.Function b)
  where
    go : (t : Bool) → (cond t (record b { also = unless_barred ws b b.also }) b).environment ≡ b.environment
    go true = refl
    go false = refl

moved_also : (ws : List Bound) (b : Bound) (d : Environment) → Among d (moved ws b).also → Among d b.also
moved_also ws b d = go (is_bound_as way.Function b)
  where
    unless : (es : List Environment) → Among d (unless_barred ws b es) → Among d es
    unless [] a = a
    unless (target ∷ es) a = by (list_any (bars b target) ws) a
      where
        by : (t : Bool) → Among d (cond t [] (target ∷ es)) → Among d (target ∷ es)
        by true i = absurd i
        by false i = i

    go : (t : Bool) → Among d (cond t (record b { also = unless_barred ws b b.also }) b).also → Among d b.also
    go true a = unless b.also a
    go false a = a

any_among : (ds : List Environment) (e : Environment) → list_any (λ d. same_environment d e) ds ≡ true → Among e ds
any_among [] e h = absurd cc
any_among (d ∷ ds) e h = elim (either (same_environment d e) (list_any (λ i. same_environment i e) ds) h) [
  | inl w ↦ inl (same_environment_is d e w)
  | inr w ↦ inr (any_among ds e w)
]

module _ (ws : List Bound) (x : Name) (e : Environment) where
  -- an identifier of the environment is of what it binds
  pub record IsBoundHere (cs : List Bound) (i : ℕ) : Type 0 where
    pub bind : Bound
    pub among : Among bind cs
    pub named : bind.name ≡ x
    pub there : (bind.environment ≡ e) ⊎ Among e bind.also
    pub identifier : bind.identifier ≡ i

  abbrev pub identifiers_of : List Bound → List ℕ
  identifiers_of cs = map (λ b. b.identifier) (filter (is_bound_in e x) (map (moved ws) cs))

  tested : (c : Bound) → is_bound_in e x (moved ws c) ≡ true → (c.environment ≡ e) ⊎ Among e c.also
  tested c h =
      let two : (same_environment (moved ws c).environment e || list_any (λ d. same_environment d e) (moved ws c).also) ≡ true = and_second (bytes_eq (moved ws c).name x) _ h in
      elim (either (same_environment (moved ws c).environment e) (list_any (λ d. same_environment d e) (moved ws c).also) two) [
        | inl w ↦ inl (sym (moved_environment ws c) ∙ same_environment_is (moved ws c).environment e w)
        | inr w ↦ inr (moved_also ws c e (any_among (moved ws c).also e w))
      ]

  test_name : (c : Bound) → is_bound_in e x (moved ws c) ≡ true → c.name ≡ x
  test_name c h = elim (name_tells (moved ws c).name x) [
    | inl k ↦ sym (moved_name ws c) ∙ k.1
    | inr k ↦ (let w : false ≡ true = sym k.0 ∙ and_first (bytes_eq (moved ws c).name x) _ h in absurd cc)
  ]

  test_holds : (c : Bound) → c.name ≡ x → c.environment ≡ e → is_bound_in e x (moved ws c) ≡ true
  test_holds c n q =
      let name : bytes_eq (moved ws c).name x ≡ true = elim (name_tells (moved ws c).name x) [ inl k ↦ k.0 | inr k ↦ absurd (k.1 (moved_name ws c ∙ n)) ] in
      let env : same_environment (moved ws c).environment e ≡ true = ap (λ d. same_environment d e) (moved_environment ws c ∙ q) ∙ same_again e in
      rw (name, env) refl

  pub bound_here : (cs : List Bound) → (i : ℕ) → Among i (identifiers_of cs) → IsBoundHere cs i
  bound_here [] i a = absurd a
  bound_here (c ∷ cs) i a = go (is_bound_in e x (moved ws c)) refl a (bound_here cs i)
    where
      more : IsBoundHere cs i → IsBoundHere (c ∷ cs) i
      more h = record { bind = h.bind; among = inr h.among; named = h.named; there = h.there; identifier = h.identifier }

      go : (t : Bool) → is_bound_in e x (moved ws c) ≡ t → Among i (map (λ b. b.identifier) (cond t (moved ws c ∷ filter (is_bound_in e x) (map (moved ws) cs)) (filter (is_bound_in e x) (map (moved ws) cs)))) → (Among i (map (λ b. b.identifier) (filter (is_bound_in e x) (map (moved ws) cs))) → IsBoundHere cs i) → IsBoundHere (c ∷ cs) i
      go true q (inl j) later =
          let named : c.name ≡ x = test_name c q in
          record { bind = c; among = inl refl; named = named; there = tested c q; identifier = sym (moved_identifier ws c) ∙ j }
      go true q (inr j) later = more (later j)
      go false q j later = more (later j)

  pub identifier_here : (cs : List Bound) (b : Bound) → Among b cs → b.name ≡ x → b.environment ≡ e → Among b.identifier (identifiers_of cs)
  identifier_here [] b a n q = absurd a
  identifier_here (c ∷ cs) b a n q = go (is_bound_in e x (moved ws c)) refl a (λ k. identifier_here cs b k n q)
    where
      go : (t : Bool) → is_bound_in e x (moved ws c) ≡ t → Among b (c ∷ cs) → (Among b cs → Among b.identifier (map (λ d. d.identifier) (filter (is_bound_in e x) (map (moved ws) cs)))) → Among b.identifier (map (λ d. d.identifier) (cond t (moved ws c ∷ filter (is_bound_in e x) (map (moved ws) cs)) (filter (is_bound_in e x) (map (moved ws) cs))))
      go true i (inl j) rest = inl (moved_identifier ws c ∙ ap (λ d. d.identifier) j)
      go true i (inr j) rest = inr (rest j)
      go false i (inl j) rest = (let w : true ≡ false = sym (subst (λ d. is_bound_in e x (moved ws d) ≡ true) (sym j) (test_holds b n q)) ∙ i in absurd cc)
      go false i (inr j) rest = rest j

-- ---- what it means

module _ (bs : List Bound) (x : Name) (not_arguments : bytes_eq x (codes "arguments") ≡ false) (e : Environment) (ds : List Environment) where
  no_arguments : binds_arguments e x ≡ false
  no_arguments = ap (λ b. is_made_for environment.Parameters e && b) not_arguments ∙ and_false (is_made_for environment.Parameters e)

  -- where the environment does not bind it, the next one does or none
  pub meaning_further : identifiers_in bs e x ≡ [] → meaning bs (e ∷ ds) x ≡ meaning bs ds x
  meaning_further i =
      ap (λ l. bound_or e l (cond (binds_arguments e x) (bound e []) (meaning bs ds x))) i
      ∙ ap (λ b. cond b (bound e []) (meaning bs ds x)) no_arguments

  pub meaning_here : (i : ℕ) (is : List ℕ) → identifiers_in bs e x ≡ i ∷ is → meaning bs (e ∷ ds) x ≡ bound e (i ∷ is)
  meaning_here i is q = ap (λ l. bound_or e l (cond (binds_arguments e x) (bound e []) (meaning bs ds x))) q
