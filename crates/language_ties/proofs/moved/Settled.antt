-- What binds a name, each function that leaves its block as its variable alone.
use Rattle.std.proofs.Common.{◌≡◌, List, [], ◌∷◌, Bool, true, false, ◌&&◌, ◌||◌, not, cond, map, inl, inr, refl, sym, ap, subst, ◌∙◌}
use Rattle.std.proofs.lemmas.Bool.{cases_Bool}
use denote.Enum.Bare.{same_true}
use Rattle.semantic_tree.specs.Tree.{Tree}
use Rattle.semantic_model.specs.Entries.{Among}
use Rattle.semantic_model.specs.Step.{steps}
use Rattle.program_laws.proofs.DeclaredNodes.{among_map}
use Rattle.binding_laws.proofs.ListLaws.{of_map}
use Rattle.binding_laws.proofs.SmallLaws.{never}
use Rattle.language_ties.specs.AgreeingNames.{has_none, is_declared_plainly, is_plain, leaves_block}
use Rattle.language_ties.specs.Bound.{Bound, is_bound_as, written}
use Rattle.language_ties.specs.Environments.{Environment, is_made_for}
use Rattle.language_ties.specs.Moved.{bound_among}
use Rattle.language_ties.specs.OneSymbol.{first_or, last_environment}
use Rattle.language_ties.specs.contracts.bound_as.BoundAs.{the_type as the_ways}
use Rattle.language_ties.specs.declared.bound_as.BoundAs.{BoundAs}
use Rattle.language_ties.specs.declared.bound_as.BoundAs.TheVariants as bound
use Rattle.language_ties.specs.declared.environment_kind.EnvironmentKind.TheVariants as environment

-- a function that leaves its block is bound where its variable is, and there alone
abbrev pub settled : Bound → Bound
settled b = cond (leaves_block b) (record b { environment = first_or b.environment b.also; also = [] }) b

abbrev pub settled_bounds : Tree → List Bound
settled_bounds p = map settled (written p.source_type (steps p))

-- what they bind
abbrev pub bound_as_settled : Tree → List Bound
bound_as_settled p = bound_among (settled_bounds p)

pub settled_name : (b : Bound) → (settled b).name ≡ b.name
settled_name b = go (leaves_block b)
  where
    go : (t : Bool) → (cond t (record b { environment = first_or b.environment b.also; also = [] }) b).name ≡ b.name
    go true = refl
    go false = refl

pub settled_identifier : (b : Bound) → (settled b).identifier ≡ b.identifier
settled_identifier b = go (leaves_block b)
  where
    go : (t : Bool) → (cond t (record b { environment = first_or b.environment b.also; also = [] }) b).identifier ≡ b.identifier
    go true = refl
    go false = refl

pub settled_sort : (b : Bound) → (settled b).sort ≡ b.sort
settled_sort b = go (leaves_block b)
  where
    go : (t : Bool) → (cond t (record b { environment = first_or b.environment b.also; also = [] }) b).sort ≡ b.sort
    go true = refl
    go false = refl

pub settled_stays : (b : Bound) → leaves_block b ≡ false → settled b ≡ b
settled_stays b h = ap (λ t. cond t (record b { environment = first_or b.environment b.also; also = [] }) b) h

pub settled_leaves : (b : Bound) → leaves_block b ≡ true → settled b ≡ record b { environment = first_or b.environment b.also; also = [] }
settled_leaves b h = ap (λ t. cond t (record b { environment = first_or b.environment b.also; also = [] }) b) h

pub settled_last : (b : Bound) → (settled b).environment ≡ last_environment b
settled_last b = go (leaves_block b)
  where
    go : (t : Bool) → (cond t (record b { environment = first_or b.environment b.also; also = [] }) b).environment ≡ cond t (first_or b.environment b.also) b.environment
    go true = refl
    go false = refl

-- where it is bound then, it was bound before
pub settled_environments : (b : Bound) (d : Environment) → Among d ((settled b).environment ∷ (settled b).also) → Among d (b.environment ∷ b.also)
settled_environments b d a = go (leaves_block b) a
  where
    first_there : (e : Environment) (es : List Environment) → Among (first_or e es) (e ∷ es)
    first_there e [] = inl refl
    first_there e (f ∷ es) = inr (inl refl)

    go : (t : Bool) → Among d ((cond t (record b { environment = first_or b.environment b.also; also = [] }) b).environment ∷ (cond t (record b { environment = first_or b.environment b.also; also = [] }) b).also) → Among d (b.environment ∷ b.also)
    go true (inl q) = subst (λ z. Among z (b.environment ∷ b.also)) q (first_there b.environment b.also)
    go true (inr i) = absurd i
    go false i = i

-- only functions leave blocks
pub leaves_function : (b : Bound) → leaves_block b ≡ true → is_bound_as bound.Function b ≡ true
leaves_function b h = go (is_bound_as bound.Function b) h
  where
    go : (t : Bool) → (t && not (has_none b.also)) ≡ true → t ≡ true
    go true w = refl
    go false w = absurd (never (sym w))

pub other_stays : (b : Bound) → is_bound_as bound.Function b ≡ false → leaves_block b ≡ false
other_stays b h = ap (λ t. t && not (has_none b.also)) h

-- a function is bound as nothing else
pub only_function : (b : Bound) (k : BoundAs) → is_bound_as bound.Function b ≡ true → is_bound_as k (record b { sort = bound.Function }) ≡ false → is_bound_as k b ≡ false
only_function b k f n = let s : b.sort ≡ bound.Function = same_true the_ways tt b.sort bound.Function f in ap (λ w. is_bound_as k (record b { sort = w })) s ∙ n

-- and what is bound otherwise is none
pub no_function : (b : Bound) (k : BoundAs) → is_bound_as k b ≡ true → is_bound_as k (record b { sort = bound.Function }) ≡ false → is_bound_as bound.Function b ≡ false
no_function b k h n = elim (cases_Bool (is_bound_as bound.Function b)) [
  | inr q ↦ q
  | inl q ↦ absurd (never (sym h ∙ only_function b k q n))
]

pub plain_stays : (b : Bound) → is_plain b ≡ true → leaves_block b ≡ false
plain_stays b h = elim (cases_Bool (is_bound_as bound.Function b)) [
  | inr q ↦ other_stays b q
  | inl q ↦ elim (cases_Bool (has_none b.also)) [
    | inl n ↦ rw (q, n) refl
    | inr n ↦ (let own : is_bound_as bound.OwnName b ≡ false = only_function b bound.OwnName q refl in
        let lexical : is_bound_as bound.Lexical b ≡ false = only_function b bound.Lexical q refl in
        let w : is_plain b ≡ false = ap (λ t. t || is_declared_plainly b) own ∙ ap (λ t. (t || is_bound_as bound.Lexical b) && (not (is_made_for environment.Class b.environment) && not (is_bound_as bound.Function b && is_made_for environment.IfBody b.environment))) n
        ∙ ap (λ t. t && (not (is_made_for environment.Class b.environment) && not (is_bound_as bound.Function b && is_made_for environment.IfBody b.environment))) lexical in
        absurd (never (sym h ∙ w)))
  ]
]

-- ---- the lists

pub record IsSettled (p : Tree) (b : Bound) : Type 0 where
  pub source : Bound
  pub among : Among source (written p.source_type (steps p))
  pub is : settled source ≡ b

pub is_settled : (p : Tree) (b : Bound) → Among b (settled_bounds p) → IsSettled p b
is_settled p b a = let (c, i, q) = among_map settled (written p.source_type (steps p)) b a in record { source = c; among = i; is = q }

pub settled_among : (p : Tree) (b : Bound) → Among b (written p.source_type (steps p)) → Among (settled b) (settled_bounds p)
settled_among p b a = of_map settled (written p.source_type (steps p)) b a

-- what is no function is bound as it is written
pub unsettled : (p : Tree) (b : Bound) → Among b (settled_bounds p) → is_bound_as bound.Function b ≡ false → Among b (written p.source_type (steps p))
unsettled p b a h =
    let s : IsSettled p b = is_settled p b a in
    let sort : is_bound_as bound.Function s.source ≡ false = ap (λ w. is_bound_as bound.Function (record s.source { sort = w })) (sym (settled_sort s.source) ∙ ap (λ z. z.sort) s.is) ∙ h in
    subst (λ z. Among z (written p.source_type (steps p))) (sym (settled_stays s.source (other_stays s.source sort)) ∙ s.is) s.among
