-- Names for which no rule asks break none.
use Rattle.std.proofs.Common.{◌≡◌, List, [], ◌∷◌, ◌++◌, Bool, true, false, ◌||◌, not, inl, inr, ◌⊎◌, refl, sym, ap, ◌∙◌, bytes_eq, codes}
use Rattle.std.specs.List.{list_any}
use Rattle.std.proofs.lemmas.Bool.{cases_Bool}
use Rattle.semantic_kinds.specs.Kinds.{same_kind}
use Rattle.semantic_kinds.specs.declared.kind.AstType.{AstType}
use Rattle.semantic_kinds.specs.declared.kind.AstType.TheVariants as kind
use Rattle.semantic_syntax.specs.Tables.{Name}
use Rattle.semantic_model.proofs.form.Clauses.{kind_is}
use Rattle.semantic_diagnostics.specs.declared.diagnostic.Diagnostic.{Diagnostic}
use Rattle.check_model.specs.Names.{strict_reserved_words, is_strict_reserved, check_identifier, check_binding_identifier, check_identifier_reference, is_eval_or_arguments}
use Rattle.check_model.specs.Rows.{rows_by, rows_of}
use Rattle.check_model.specs.Search.{rows_if}
use Rattle.check_model.specs.Sight.{Sight}
use Rattle.check_model.specs.Surroundings.{is_definition}
use Rattle.renaming_laws.specs.AskedNames.{is_asked_for, is_name}

neither : (a b : Bool) → (a || b) ≡ false → (a ≡ false) × (b ≡ false)
neither true b h = absurd cc
neither false b h = (refl, h)

-- what isn't asked for
record IsQuiet (name : Name) : Type 0 where
  no_arguments : bytes_eq name (codes "arguments") ≡ false
  no_await : bytes_eq name (codes "await") ≡ false
  no_eval : bytes_eq name (codes "eval") ≡ false
  not_reserved : is_strict_reserved name ≡ false
  no_let : bytes_eq name (codes "let") ≡ false

-- of three in front, and a list behind
three : (name a b c : Name) (xs : List Name) → list_any (bytes_eq name) (a ∷ b ∷ c ∷ xs) ≡ false → (bytes_eq name a ≡ false) × (bytes_eq name b ≡ false) × (bytes_eq name c ≡ false) × (list_any (bytes_eq name) xs ≡ false)
three name a b c xs h =
    let (first, one) = neither (bytes_eq name a) (bytes_eq name b || (bytes_eq name c || list_any (bytes_eq name) xs)) h in
    let (second, two) = neither (bytes_eq name b) (bytes_eq name c || list_any (bytes_eq name) xs) one in
    let (third, rest) = neither (bytes_eq name c) (list_any (bytes_eq name) xs) two in
    (first, second, third, rest)

is_quiet : (name : Name) → is_asked_for name ≡ false → IsQuiet name
is_quiet name h =
    let (arguments, await, eval, reserved) = three name (codes "arguments") (codes "await") (codes "eval") strict_reserved_words h in
    let (first, second, third, rest) = three name (codes "implements") (codes "interface") (codes "let") (codes "package" ∷ codes "private" ∷ codes "protected" ∷ codes "public" ∷ codes "static" ∷ codes "yield" ∷ []) reserved in
    record { no_arguments = arguments; no_await = await; no_eval = eval; not_reserved = reserved; no_let = third }

nothing_if : (b : Bool) → rows_if {A = Diagnostic} b [] ≡ []
nothing_if true = refl
nothing_if false = refl

module _ (s : Sight) (q : IsQuiet s.node.text) where
  identifier_quiet : check_identifier s.node.text s.node.span s ≡ []
  identifier_quiet = rw (q.no_await, q.not_reserved) (nothing_if (not s.is_ambient))

  not_protected : is_eval_or_arguments s.node.text ≡ false
  not_protected = rw (q.no_eval, q.no_arguments) refl

  binding_quiet : check_binding_identifier s ≡ []
  binding_quiet = rw (q.no_eval, q.no_arguments, q.no_let) (nothing_if (not (is_definition s)))

  reference_quiet : check_identifier_reference s ≡ []
  reference_quiet = rw (q.no_eval, q.no_arguments) (nothing_if (not (is_definition s)))

  by_kind : (k : AstType) → (k ≡ kind.BindingIdentifier) ⊎ (k ≡ kind.IdentifierReference) ⊎ (k ≡ kind.LabelIdentifier) → rows_by k s ≡ []
  by_kind k (inl e) = ap (λ j. rows_by j s) e ∙ ap (λ rows. rows ++ check_binding_identifier s) identifier_quiet ∙ binding_quiet
  by_kind k (inr (inl e)) = ap (λ j. rows_by j s) e ∙ ap (λ rows. rows ++ check_identifier_reference s) identifier_quiet ∙ reference_quiet
  by_kind k (inr (inr e)) = ap (λ j. rows_by j s) e ∙ identifier_quiet

name_kinds : (k : AstType) → is_name k ≡ true → (k ≡ kind.BindingIdentifier) ⊎ (k ≡ kind.IdentifierReference) ⊎ (k ≡ kind.LabelIdentifier)
name_kinds k h = go (cases_Bool (same_kind kind.BindingIdentifier k)) (cases_Bool (same_kind kind.IdentifierReference k)) (cases_Bool (same_kind kind.LabelIdentifier k))
  where
    go : (same_kind kind.BindingIdentifier k ≡ true) ⊎ (same_kind kind.BindingIdentifier k ≡ false) → (same_kind kind.IdentifierReference k ≡ true) ⊎ (same_kind kind.IdentifierReference k ≡ false) → (same_kind kind.LabelIdentifier k ≡ true) ⊎ (same_kind kind.LabelIdentifier k ≡ false) → (k ≡ kind.BindingIdentifier) ⊎ (k ≡ kind.IdentifierReference) ⊎ (k ≡ kind.LabelIdentifier)
    go (inl a) b c = inl (sym (kind_is kind.BindingIdentifier k a))
    go (inr a) (inl b) c = inr (inl (sym (kind_is kind.IdentifierReference k b)))
    go (inr a) (inr b) (inl c) = inr (inr (sym (kind_is kind.LabelIdentifier k c)))
    go (inr a) (inr b) (inr c) = let q : false ≡ true = rw (a, b, c) at h in absurd cc

pub quiet : (s : Sight) → is_name s.node.kind ≡ true → is_asked_for s.node.text ≡ false → rows_of s ≡ []
quiet s k h = by_kind s (is_quiet s.node.text h) s.node.kind (name_kinds s.node.kind k)
