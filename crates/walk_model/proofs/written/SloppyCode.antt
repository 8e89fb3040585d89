-- In a module all scopes are strict, so block functions move in sloppy JavaScript alone.
use Rattle.std.proofs.Common.{◌≡◌, ℕ, List, [], ◌∷◌, ◌++◌, ◌==◌, Bool, true, false, ◌&&◌, ◌||◌, not, inl, inr, refl, sym, ap, subst, ◌∙◌, length, None}
use Rattle.std.specs.List.{AllByRecursion}
use Rattle.std.proofs.lemmas.Nat.{and_or_self}
use Rattle.std.proofs.lemmas.Bool.{and_from}
use Rattle.semantic_syntax.specs.declared.scope_flags.TheConstants.ScopeFlags as scope
use Rattle.semantic_syntax.specs.declared.source_type.SourceType.{SourceType}
use Rattle.semantic_syntax.specs.Sets.{meets, union}
use Rattle.semantic_syntax.specs.SourceTypes.{is_module, is_typescript}
use Rattle.semantic_syntax.proofs.Truth.{and_first, and_second}
use Rattle.semantic_tree.specs.Faults.{first_fault}
use Rattle.semantic_tree.specs.Tree.{Tree}
use Rattle.semantic_model.specs.Place.{Place, OpenScope, innermost, is_strict}
use Rattle.semantic_model.specs.ScopeKind.{opened_scope, strict_if, flags_of_kind}
use Rattle.semantic_model.specs.Binder.{is_special, is_block_function, is_var, is_clause}
use Rattle.semantic_model.specs.Step.{Step, entering, opening, header_ending, closing, leaving, steps}
use Rattle.semantic_model.specs.TablesOf.{numbers}
use Rattle.walk_model.specs.WrittenNames.{is_sloppy}
use Rattle.walk_model.proofs.places.Nested.{AreNested, open_past}
use Rattle.walk_model.proofs.places.Routes.{HasVar}
use Rattle.walk_model.proofs.places.Grounds.{IsGrounded, AllGrounded, all_grounded}
use Rattle.walk_model.proofs.declares.Simulated.{program_nested}
use Rattle.walk_model.proofs.written.ScopesAround.{AllHanded, AllHeld, program_held}

-- in a module the scope is strict
abbrev pub IsStrictIn : SourceType → OpenScope → Type 0
IsStrictIn t s = is_module t ≡ true → meets s.flags scope.StrictMode.bits ≡ true

strict_first : (t : SourceType) (chain : List OpenScope) → is_module t ≡ true → HasVar chain → AllByRecursion (IsStrictIn t) chain → is_strict chain ≡ true
strict_first t [] m v h = absurd (v refl)
strict_first t (s ∷ ss) m v h = h.0 m

strict_with : (x : ℕ) → meets (union x scope.StrictMode.bits) scope.StrictMode.bits ≡ true
strict_with x = ap (λ y. not (y == 0)) (and_or_self scope.StrictMode.bits x)

opened_strict : (t : SourceType) (p : Place) (n : ℕ) → is_module t ≡ true → p.source_type ≡ t → IsGrounded p → AllByRecursion (IsStrictIn t) p.chain → meets (opened_scope p n).flags scope.StrictMode.bits ≡ true
opened_strict t p n m e (inl v) h =
    subst (λ b. meets (union (flags_of_kind p.node.kind p) (strict_if b)) scope.StrictMode.bits ≡ true) (sym (strict_first t p.chain m v h)) (strict_with (flags_of_kind p.node.kind p))
opened_strict t p n m e (inr q) h = let w : is_module p.source_type ≡ true = ap is_module e ∙ m in rw (q, w) (go (is_strict p.chain))
  where
    go : (b : Bool) → meets (union (union scope.Top.bits (strict_if true)) (strict_if b)) scope.StrictMode.bits ≡ true
    go true = refl
    go false = refl

strict_steps : (t : SourceType) (stack : List ℕ) (seen : List (List ℕ)) (ss : List Step) → AreNested stack seen ss → AllGrounded ss → AllHanded (IsStrictIn t) t ss
strict_steps t stack seen [] h g = tt
strict_steps t stack seen (opening p s ∷ ss) h g =
    (λ e k m. subst (λ (o : OpenScope). meets o.flags scope.StrictMode.bits ≡ true) (sym h.0.1) (opened_strict t p (length seen) m e g.0 k), strict_steps t (s.number ∷ stack) (seen ++ numbers p.chain ∷ []) ss h.1 g.1)
strict_steps t stack seen (entering p ∷ ss) h g = (tt, strict_steps t stack seen ss h.1 g.1)
strict_steps t stack seen (header_ending p s ∷ ss) h g = (tt, strict_steps t stack seen ss h.1 g.1)
strict_steps t stack seen (closing p s ∷ ss) h g = (tt, strict_steps t (open_past stack (closing p s)) seen ss h.1 g.1)
strict_steps t stack seen (leaving p ∷ ss) h g = (tt, strict_steps t stack seen ss h.1 g.1)

pub all_strict : (program : Tree) → first_fault program ≡ None → AllHeld (IsStrictIn program.source_type) program.source_type (steps program)
all_strict program h =
    program_held (IsStrictIn program.source_type) program (λ s b k. k) (strict_steps program.source_type [] [] (steps program) (program_nested program) (all_grounded program h))

-- where a function stands that may move, the program is sloppy JavaScript
pub sloppy_around : (p : Place) (t : SourceType) (s : OpenScope) (ss : List OpenScope) → p.chain ≡ s ∷ ss → p.source_type ≡ t → IsStrictIn t s → is_block_function p ≡ true → is_sloppy t ≡ true
sloppy_around p t s ss c e h b =
    let four : (not (is_special p.node) && not (is_typescript p.source_type) && not (is_strict p.chain)) ≡ true = and_first (not (is_special p.node) && not (is_typescript p.source_type) && not (is_strict p.chain)) (not (is_var (innermost p.chain) || is_clause (innermost p.chain))) b in
    let two : (not (is_special p.node) && not (is_typescript p.source_type)) ≡ true = and_first (not (is_special p.node) && not (is_typescript p.source_type)) (not (is_strict p.chain)) four in
    let plain_script : not (is_typescript p.source_type) ≡ true = and_second (not (is_special p.node)) (not (is_typescript p.source_type)) two in
    let loose : not (is_strict p.chain) ≡ true = and_second (not (is_special p.node) && not (is_typescript p.source_type)) (not (is_strict p.chain)) four in
    and_from (not (is_typescript t)) (not (is_module t)) (subst (λ u. not (is_typescript u) ≡ true) e plain_script) (no_module (is_module t) refl (subst (λ l. not (is_strict l) ≡ true) c loose))
  where
    no_module : (m : Bool) → is_module t ≡ m → not (meets s.flags scope.StrictMode.bits) ≡ true → not m ≡ true
    no_module true q l = let w : false ≡ true = ap not (sym (h q)) ∙ l in absurd cc
    no_module false q l = refl
