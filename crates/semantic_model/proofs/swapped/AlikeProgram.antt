-- A program with changed names has the same scopes, and the same references with changed names.
use Rattle.std.proofs.Common.{◌≡◌, ℕ, List, [], ◌∷◌, ◌++◌, Option, Some, None, cond, true, false, not, ◌&&◌, inl, inr, ◌⊎◌, refl, sym, ap, subst, ◌∙◌, map, codes, bytes_eq, arith}
use Rattle.std.specs.Prelude.{filter_map}
use Rattle.std.specs.List.{cons_option}
use Rattle.std.proofs.lemmas.Bool.{cases_Bool}
use Rattle.semantic_syntax.specs.Tables.{Name}
use Rattle.semantic_tree.specs.Tree.{Tree}
use Rattle.semantic_tree.specs.Renamed.{swap, setting_below, renamed_text, renamed, renamed_tree}
use Rattle.semantic_tree.specs.declared.swap.Setting.TheVariants.{Elsewhere}
use Rattle.semantic_tree.specs.Forest.{Forest}
use Rattle.semantic_tree.specs.declared.node.Node.{Node}
use Rattle.semantic_kinds.specs.declared.kind.AstType.TheVariants as kind
use Rattle.semantic_kinds.specs.declared.mark.Mark.TheVariants as mark
use Rattle.semantic_kinds.specs.declared.role.Role.TheVariants as role
use Rattle.semantic_tree.specs.Views.{is, has, has_text}
use Rattle.semantic_tree.specs.Unwrapped.{inner_expression}
use Rattle.semantic_model.specs.Place.{Place}
use Rattle.semantic_model.specs.Cursor.{on_entering}
use Rattle.semantic_model.specs.Step.{Step, entering, opening, header_ending, closing, leaving, steps_below, steps, root_place}
use Rattle.semantic_model.specs.Reference.{Occurrence, reference_at, entered_reference, references}
use Rattle.semantic_model.specs.TablesOf.{is_direct_eval, numbers, eval_in, evals, opened_entry, scopes}
use Rattle.semantic_model.specs.Swap.{renamed_occurrence}
use Rattle.semantic_model.proofs.form.Clauses.{kind_is}
use Rattle.semantic_model.proofs.once.ListedUnder.{name_tells}
use Rattle.semantic_model.proofs.swapped.Alike.{Alike, text_renamed, members_renamed, alike_renamed, is_name}
use Rattle.semantic_model.proofs.swapped.AlikeCursor.{with_text, SameNode, SameInner, inner_same}
use Rattle.semantic_model.proofs.swapped.AlikeScopes.{re, first_same}
use Rattle.semantic_model.proofs.swapped.AlikeSteps.{AlikeStep, read_same, SamePlace, AlikeSteps, Facts, steps_same}

-- what a change of names keeps: it makes no two names alike, and leaves `eval` and `arguments`
pub record Keeps (f : Name → Name) : Type 0 where
  pub equal : (x y : Name) → bytes_eq (f x) (f y) ≡ bytes_eq x y
  pub eval : f (codes "eval") ≡ codes "eval"
  pub arguments : f (codes "arguments") ≡ codes "arguments"

-- so it is with a swap of other names
swap_equal : (a b x y : Name) → bytes_eq (swap a b x) (swap a b y) ≡ bytes_eq x y
swap_equal a b x y = grind (arith, name_tells x a, name_tells x b, name_tells y a, name_tells y b, name_tells x y, name_tells a b, name_tells (swap a b x) (swap a b y))

swap_other : (a b x : Name) → bytes_eq x a ≡ false → bytes_eq x b ≡ false → swap a b x ≡ x
swap_other a b x h i = rw (h, i) refl

pub swap_keeps : (a b : Name) → bytes_eq (codes "eval") a ≡ false → bytes_eq (codes "eval") b ≡ false → bytes_eq (codes "arguments") a ≡ false → bytes_eq (codes "arguments") b ≡ false → Keeps (swap a b)
swap_keeps a b h i j k = record { equal = swap_equal a b; eval = swap_other a b (codes "eval") h i; arguments = swap_other a b (codes "arguments") j k }

module _ (f : Name → Name) where
  -- the last steps of a program
  append_same : (xs ys us vs : List Step) → AlikeSteps f xs ys → AlikeSteps f us vs → AlikeSteps f (xs ++ us) (ys ++ vs)
  append_same [] [] us vs h i = i
  append_same [] (y ∷ ys) us vs h i = absurd h
  append_same (x ∷ xs) [] us vs h i = absurd h
  append_same (x ∷ xs) (y ∷ ys) us vs h i = (h.0, append_same xs ys us vs h.1 i)

  pub program_steps : (p : Tree) → AlikeSteps f (steps p) (steps (renamed_tree f p))
  program_steps p =
      let root : Place = root_place p in
      let u : Name = renamed_text f Elsewhere role.Root p.root.kind p.root.text in
      let g : Forest = renamed f (setting_below Elsewhere role.Root p.root.kind) p.root.children in
      let alike : Alike f p.root.children g = alike_renamed f (setting_below Elsewhere role.Root p.root.kind) p.root.children in
      let facts : Facts f root u g [] = record { node = record { text = text_renamed f Elsewhere role.Root p.root.kind p.root.text; children = alike }; above = tt; members = members_renamed f Elsewhere role.Root p.root.kind p.root.children } in
      let place : SamePlace f root (root_place (renamed_tree f p)) = record { u = u; g = g; path = []; is = refl; node = facts.node; above = facts.above; members = facts.members } in
      let n : ℕ = on_entering p.root.kind 0 in
      (place, append_same (steps_below root None 0 n p.root.children) (steps_below (root_place (renamed_tree f p)) None 0 n g) (leaving root ∷ []) (leaving (root_place (renamed_tree f p)) ∷ []) (steps_same f root u g [] None 0 n p.root.children g facts alike) (place, tt))

  abbrev option_renamed : Option Occurrence → Option Occurrence
  option_renamed None = None
  option_renamed (Some r) = Some (renamed_occurrence f r)

  reference_same : (p q : Place) → SamePlace f p q → entered_reference (entering q) ≡ option_renamed (entered_reference (entering p))
  reference_same p q s = subst (λ x. entered_reference (entering x) ≡ option_renamed (entered_reference (entering p))) (sym s.is) (go (cases_Bool (is kind.IdentifierReference p.node)))
    where
      go : (is kind.IdentifierReference p.node ≡ true) ⊎ (is kind.IdentifierReference p.node ≡ false) → entered_reference (entering (re p s.u s.g s.path)) ≡ option_renamed (entered_reference (entering p))
      go (inl e) = rw e (λ i. Some (record (reference_at p) { name = s.node.text.named (subst (λ k. is_name k ≡ true) (sym (kind_is p.node.kind kind.IdentifierReference e)) refl) i }))
      go (inr e) = rw e refl

  references_same : (xs ys : List Step) → AlikeSteps f xs ys → references ys ≡ map (renamed_occurrence f) (references xs)
  references_same [] [] h = refl
  references_same [] (y ∷ ys) h = absurd h
  references_same (x ∷ xs) [] h = absurd h
  references_same (entering p ∷ xs) (entering q ∷ ys) h = cons_same (entered_reference (entering q)) (entered_reference (entering p)) (reference_same p q h.0) (references_same xs ys h.1)
    where
      cons_same : (o w : Option Occurrence) → o ≡ option_renamed w → references ys ≡ map (renamed_occurrence f) (references xs) → cons_option o (references ys) ≡ map (renamed_occurrence f) (cons_option w (references xs))
      cons_same o None e k = rw e k
      cons_same o (Some r) e k = rw e (ap (λ rs. renamed_occurrence f r ∷ rs) k)
  references_same (opening p s ∷ xs) (opening q t ∷ ys) h = references_same xs ys h.1
  references_same (header_ending p s ∷ xs) (header_ending q t ∷ ys) h = references_same xs ys h.1
  references_same (closing p s ∷ xs) (closing q t ∷ ys) h = references_same xs ys h.1
  references_same (leaving p ∷ xs) (leaving q ∷ ys) h = references_same xs ys h.1
  references_same _ _ h = absurd h.0

  module _ (k : Keeps f) where
    -- a call of `eval` stays one
    eval_text : (t : Name) → bytes_eq (f t) (codes "eval") ≡ bytes_eq t (codes "eval")
    eval_text t = ap (bytes_eq (f t)) (sym k.eval) ∙ k.equal t (codes "eval")

    named_eval : (node : Node) (u : Name) (g : Forest) → SameNode f node u g → (is kind.IdentifierReference node && bytes_eq u (codes "eval")) ≡ (is kind.IdentifierReference node && bytes_eq node.text (codes "eval"))
    named_eval node u g s = go (cases_Bool (is kind.IdentifierReference node))
      where
        go : (is kind.IdentifierReference node ≡ true) ⊎ (is kind.IdentifierReference node ≡ false) → (is kind.IdentifierReference node && bytes_eq u (codes "eval")) ≡ (is kind.IdentifierReference node && bytes_eq node.text (codes "eval"))
        go (inl e) = ap (λ b. is kind.IdentifierReference node && b) (ap (λ t. bytes_eq t (codes "eval")) (s.text.named (subst (λ j. is_name j ≡ true) (sym (kind_is node.kind kind.IdentifierReference e)) refl)) ∙ eval_text node.text)
        go (inr e) = rw e refl

    callee_same : (node : Node) (u : Name) (g : Forest) → SameNode f node u g → (is kind.IdentifierReference (inner_expression (with_text node u g)) && has_text (codes "eval") (inner_expression (with_text node u g))) ≡ (is kind.IdentifierReference (inner_expression node) && has_text (codes "eval") (inner_expression node))
    callee_same node u g s =
        let w : SameInner f (inner_expression node) (inner_expression (with_text node u g)) = inner_same f node u g s in
        ap (λ x. is kind.IdentifierReference x && has_text (codes "eval") x) w.is ∙ named_eval (inner_expression node) w.u w.g w.same

    direct_same : (node : Node) (u : Name) (g : Forest) → SameNode f node u g → is_direct_eval (with_text node u g) ≡ is_direct_eval node
    direct_same node u g s = ap (λ b. is kind.CallExpression node && not (has mark.Optional node) && b) (first_same f role.Callee (λ callee. is kind.IdentifierReference (inner_expression callee) && has_text (codes "eval") (inner_expression callee)) callee_same node.children g s.children)

    eval_same : (x y : Step) → AlikeStep f x y → eval_in y ≡ eval_in x
    eval_same (entering p) (entering q) s = ap (λ x. eval_in (entering x)) s.is ∙ ap (λ b. cond b (Some (numbers p.chain)) None) (direct_same p.node s.u s.g s.node)
    eval_same (opening p s) (opening q t) h = refl
    eval_same (header_ending p s) (header_ending q t) h = refl
    eval_same (closing p s) (closing q t) h = refl
    eval_same (leaving p) (leaving q) h = refl
    eval_same _ _ h = absurd h

    opened_same : (calls : List (List ℕ)) (x y : Step) → AlikeStep f x y → opened_entry calls y ≡ opened_entry calls x
    opened_same calls (entering p) (entering q) h = refl
    opened_same calls (opening p s) (opening q t) h = ap (λ x. opened_entry calls (opening x t)) h.0.is ∙ ap (λ x. opened_entry calls (opening p x)) h.1
    opened_same calls (header_ending p s) (header_ending q t) h = refl
    opened_same calls (closing p s) (closing q t) h = refl
    opened_same calls (leaving p) (leaving q) h = refl
    opened_same calls _ _ h = absurd h

    pub scopes_renamed : (p : Tree) → scopes (steps (renamed_tree f p)) ≡ scopes (steps p)
    scopes_renamed p =
        let alike : AlikeSteps f (steps p) (steps (renamed_tree f p)) = program_steps p in
        ap (λ calls. filter_map (opened_entry calls) (steps (renamed_tree f p))) (read_same f eval_in eval_same (steps p) (steps (renamed_tree f p)) alike) ∙ read_same f (opened_entry (evals (steps p))) (opened_same (evals (steps p))) (steps p) (steps (renamed_tree f p)) alike

  pub references_renamed : (p : Tree) → references (steps (renamed_tree f p)) ≡ map (renamed_occurrence f) (references (steps p))
  references_renamed p = references_same (steps p) (steps (renamed_tree f p)) (program_steps p)
