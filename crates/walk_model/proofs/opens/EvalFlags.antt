-- The flag of `eval` among the flags of a scope.
use Rattle.std.proofs.Common.{◌≡◌, ℕ, zero, suc, ◌+◌, ◌<◌, ◌≤◌, ◌==◌, List, [], ◌∷◌, ◌++◌, inl, inr, Bool, true, false, cond, ◌||◌, not, refl, sym, ap, ◌∙◌, bytes_eq, codes, slice_index_or, length, arith}
use Rattle.std.specs.Prelude.{slice_set}
use Rattle.std.specs.Int.RustNames.{bit_and, bit_or}
use Rattle.std.specs.Int.Bits.{or_zero_r, or_add_and}
use Rattle.std.proofs.lemmas.Nat.{and_or_self, and_or_apart}
use Rattle.std.proofs.lemmas.Bool.Decides.{eqb_tells}
use Rattle.semantic_kinds.specs.Roles.{same_role}
use Rattle.semantic_kinds.specs.declared.kind.AstType.{AstType}
use Rattle.semantic_kinds.specs.declared.kind.AstType.TheVariants as kind
use Rattle.semantic_kinds.specs.declared.role.Role.TheVariants as role
use Rattle.semantic_syntax.specs.declared.scope_flags.TheConstants.ScopeFlags as scope
use Rattle.semantic_syntax.specs.Sets.{meets, union}
use Rattle.semantic_syntax.specs.SourceTypes.{is_module}
use Rattle.semantic_syntax.specs.Tables.{Scope}
use Rattle.semantic_tree.specs.declared.node.Node.{Node}
use Rattle.semantic_syntax.specs.Reading.{no_scope}
use Rattle.semantic_syntax.proofs.Truth.{or_true, or_false}
use Rattle.semantic_tree.specs.Views.{has_use_strict, has_text}
use Rattle.semantic_model.specs.Place.{Place, is_strict}
use Rattle.semantic_model.specs.ScopeKind.{strict_if, strict_by_body, accessor, value_of, method_flags, flags_of_kind, opened_scope}
use Rattle.walk_model.specs.Opens.{with_eval}

abbrev eval_bit : ℕ
eval_bit = scope.DirectEval.bits

-- flags without that of `eval`
abbrev pub IsClean : ℕ → Type 0
IsClean f = bit_and f scope.DirectEval.bits ≡ 0

clean_union : (a b : ℕ) → IsClean a → IsClean b → IsClean (union a b)
clean_union a b h k = and_or_apart eval_bit a b k ∙ h

clean_cond : (b : Bool) (x y : ℕ) → IsClean x → IsClean y → IsClean (cond b x y)
clean_cond true x y h k = h
clean_cond false x y h k = k

clean_strict : (b : Bool) → IsClean (strict_if b)
clean_strict b = clean_cond b scope.StrictMode.bits 0 refl refl

clean_accessor : (text : List ℕ) → IsClean (accessor text)
clean_accessor text = clean_cond (bytes_eq text (codes "get")) scope.GetAccessor.bits _ refl (clean_cond (bytes_eq text (codes "set")) scope.SetAccessor.bits 0 refl refl)

clean_value : (k : AstType) (text : List ℕ) (node : Node) → IsClean (value_of k text node)
clean_value kind.MethodDefinition text node = clean_cond (bytes_eq text (codes "constructor")) scope.Constructor.bits (accessor text) refl (clean_accessor text)
clean_value kind.ObjectProperty text node = clean_cond (has_text (codes "expression") node) (accessor text) 0 (clean_accessor text) refl
clean_value _ text node = refl

clean_method : (path : List Node) (node : Node) → IsClean (method_flags path node)
clean_method [] node = refl
clean_method (parent ∷ path) node = clean_value parent.kind parent.text node

clean_kind : (k : AstType) (p : Place) → IsClean (flags_of_kind k p)
clean_kind kind.Program p = clean_union scope.Top.bits (strict_if (is_module p.source_type || has_use_strict p.node)) refl (clean_strict (is_module p.source_type || has_use_strict p.node))
clean_kind kind.Class p = refl
clean_kind kind.Function p =
    clean_union scope.Function.bits _ refl
    (clean_union (strict_by_body p.node) _ (clean_strict _) (clean_cond (same_role p.role role.Value) (method_flags p.path p.node) 0 (clean_method p.path p.node) refl))
clean_kind kind.ArrowFunctionExpression p = clean_union scope.Function.bits _ refl (clean_union scope.Arrow.bits (strict_by_body p.node) refl (clean_strict _))
clean_kind kind.WithStatement p = refl
clean_kind kind.CatchClause p = refl
clean_kind kind.StaticBlock p = refl
clean_kind kind.TSNamespaceDeclaration p = clean_union scope.TsModuleBlock.bits (strict_by_body p.node) refl (clean_strict _)
clean_kind kind.TSExternalModuleDeclaration p = clean_union scope.TsModuleBlock.bits (strict_by_body p.node) refl (clean_strict _)
clean_kind kind.TSGlobalDeclaration p = refl
clean_kind kind.TSConditionalType p = refl
clean_kind _ p = refl

-- a scope opens without it
pub opened_clean : (p : Place) (n : ℕ) → IsClean (opened_scope p n).flags
opened_clean p n = clean_union (flags_of_kind p.node.kind p) (strict_if (is_strict p.chain)) (clean_kind p.node.kind p) (clean_strict (is_strict p.chain))

abbrev pub flag_if : Bool → ℕ
flag_if b = cond b scope.DirectEval.bits 0

abbrev pub with_flag : Bool → Scope → Scope
with_flag b e = record e { flags = record { bits = union e.flags.bits (flag_if b) } }

-- scopes with the flag where the test holds, numbered from k
abbrev pub flagged : (ℕ → Bool) → ℕ → List Scope → List Scope
flagged f k [] = []
flagged f k (e ∷ es) = with_flag (f k) e ∷ flagged f (suc k) es

or_twice : (x : ℕ) → bit_or (bit_or x eval_bit) eval_bit ≡ bit_or x eval_bit
or_twice x = omega (arith, or_add_and (bit_or x eval_bit) eval_bit, and_or_self eval_bit x)

twice_flagged : (b : Bool) (e : Scope) → with_eval (with_flag b e) ≡ with_flag true e
twice_flagged true e = ap (λ x. record e { flags = record { bits = x } }) (or_twice e.flags.bits)
twice_flagged false e = ap (λ x. record e { flags = record { bits = bit_or x eval_bit } }) (or_zero_r e.flags.bits)

pub unflagged : (e : Scope) → with_flag false e ≡ e
unflagged e = ap (λ x. record e { flags = record { bits = x } }) (or_zero_r e.flags.bits)

pub flagged_same : (f g : ℕ → Bool) (k : ℕ) (es : List Scope) → ((c : ℕ) → k ≤ c → f c ≡ g c) → flagged f k es ≡ flagged g k es
flagged_same f g k [] h = refl
flagged_same f g k (e ∷ es) h =
    let first : f k ≡ g k = h k (omega arith) in
    let rest : flagged f (suc k) es ≡ flagged g (suc k) es = flagged_same f g (suc k) es (λ c l. h c (omega arith)) in
    λ i. with_flag (first i) e ∷ rest i

-- the flag is set in one scope
pub flagged_set : (f : ℕ → Bool) (k d j : ℕ) (es : List Scope) → k + d ≡ j → slice_set (flagged f k es) d (with_eval (slice_index_or (flagged f k es) d no_scope)) ≡ flagged (λ c. f c || j == c) k es
flagged_set f k d j [] e = refl
flagged_set f k zero j (x ∷ es) e =
    let same : j ≡ k = omega arith in
    let here : (j == k) ≡ true = elim (eqb_tells j k) [ inl q ↦ q.0 | inr q ↦ absurd (q.1 same) ] in
    let first : with_eval (with_flag (f k) x) ≡ with_flag (f k || j == k) x = twice_flagged (f k) x ∙ ap (λ b. with_flag b x) (sym (or_true (f k)) ∙ ap (λ b. f k || b) (sym here)) in
    let rest : flagged f (suc k) es ≡ flagged (λ c. f c || j == c) (suc k) es = flagged_same f (λ c. f c || j == c) (suc k) es (λ c l. other c l same) in
    λ i. first i ∷ rest i
  where
    other : (c : ℕ) → suc k ≤ c → j ≡ k → f c ≡ (f c || j == c)
    other c l same = elim (eqb_tells j c) [ inl q ↦ absurd (omega (arith, q.1, l, same)) | inr q ↦ (sym (or_false (f c))) ∙ ap (λ b. f c || b) (sym q.0) ]
flagged_set f k (suc d) j (x ∷ es) e =
    let rest : slice_set (flagged f (suc k) es) d (with_eval (slice_index_or (flagged f (suc k) es) d no_scope)) ≡ flagged (λ c. f c || j == c) (suc k) es = flagged_set f (suc k) d j es (omega arith) in
    let first : f k ≡ (f k || j == k) = elim (eqb_tells j k) [ inl q ↦ absurd (omega (arith, q.1, e)) | inr q ↦ (sym (or_false (f k))) ∙ ap (λ b. f k || b) (sym q.0) ] in
    λ i. with_flag (first i) x ∷ rest i

pub flagged_parent : (f : ℕ → Bool) (k : ℕ) (es : List Scope) (i : ℕ) → (slice_index_or (flagged f k es) i no_scope).parent ≡ (slice_index_or es i no_scope).parent
flagged_parent f k [] i = refl
flagged_parent f k (e ∷ es) zero = refl
flagged_parent f k (e ∷ es) (suc i) = flagged_parent f (suc k) es i

abbrev pub AllClean : List Scope → Type 0
AllClean [] = Unit {0}
AllClean (e ∷ es) = IsClean e.flags.bits × AllClean es

pub meets_flag : (x : ℕ) (b : Bool) → IsClean x → meets (union x (flag_if b)) scope.DirectEval.bits ≡ b
meets_flag x true h = ap (λ y. not (y == 0)) (and_or_self eval_bit x)
meets_flag x false h = ap (λ y. not (bit_and y eval_bit == 0)) (or_zero_r x) ∙ ap (λ y. not (y == 0)) h

pub flagged_meets : (f : ℕ → Bool) (k : ℕ) (es : List Scope) (i j : ℕ) → k + i ≡ j → i < length es → AllClean es → meets (slice_index_or (flagged f k es) i no_scope).flags.bits scope.DirectEval.bits ≡ f j
flagged_meets f k [] i j e l h = absurd (omega arith)
flagged_meets f k (x ∷ es) zero j e l h = meets_flag x.flags.bits (f k) h.0 ∙ ap f (omega arith)
flagged_meets f k (x ∷ es) (suc i) j e l h = flagged_meets f (suc k) es i j (omega arith) (omega arith) h.1

pub flagged-push : (f : ℕ → Bool) (k : ℕ) (es : List Scope) (e : Scope) → flagged f k (es ++ e ∷ []) ≡ flagged f k es ++ with_flag (f (k + length es)) e ∷ []
flagged-push f k [] e = ap (λ n. with_flag (f n) e ∷ []) (omega arith)
flagged-push f k (x ∷ es) e =
    let n : suc k + length es ≡ k + length (x ∷ es) = omega arith in
    ap (λ l. with_flag (f k) x ∷ l) (flagged-push f (suc k) es e ∙ ap (λ m. flagged f (suc k) es ++ with_flag (f m) e ∷ []) n)
