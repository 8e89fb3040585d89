-- The first statement of each name is found.
use Rattle.std.proofs.Common.{◌≡◌, List, [], ◌∷◌, ◌++◌, Bool, true, false, cond, ◌||◌, Option, None, Some, option_map, reverse, map, drop, refl, sym, ap, ◌∙◌}
use Rattle.std.specs.List.{list_any}
use Rattle.std.specs.Map.{lookup}
use Rattle.std.specs.Str.{bytes_eq}
use Rattle.std.proofs.lemmas.Slice.Eq.{bytes_eq-Decides}
use Rattle.semantic_syntax.specs.Tables.{Name}
use Rattle.semantic_tree.specs.declared.node.Node.{Node}
use Rattle.semantic_tree.specs.Views.{has_text}
use Rattle.semantic_model.specs.Names.{bound_names}
use Rattle.semantic_model.specs.Namespace.{exported, declares, first_declaring}
use Rattle.namespace_states.specs.FirstNames.{NamedStatement, with_first, with_first_names, with_statements}

-- the first of two, if there is one
abbrev first_or : Option Node → Option Node → Option Node
first_or None o = o
first_or (Some x) o = Some x

found_last : (name : Name) (es : List NamedStatement) (e : NamedStatement) → lookup (bytes_eq name) (es ++ e ∷ []) ≡ first_or (lookup (bytes_eq name) es) (cond (bytes_eq name e.0) (Some e.1) None)
found_last name [] e = refl
found_last name (x ∷ es) e = by (bytes_eq name x.0) (found_last name es e)
  where
    by : (b : Bool) → lookup (bytes_eq name) (es ++ e ∷ []) ≡ first_or (lookup (bytes_eq name) es) (cond (bytes_eq name e.0) (Some e.1) None)
        → cond b (Some x.1) (lookup (bytes_eq name) (es ++ e ∷ [])) ≡ first_or (cond b (Some x.1) (lookup (bytes_eq name) es)) (cond (bytes_eq name e.0) (Some e.1) None)
    by true h = refl
    by false h = h

-- a name that is added is found where none was found before
found_first : (name : Name) (es : List NamedStatement) (e : NamedStatement) → lookup (bytes_eq name) (with_first es e) ≡ first_or (lookup (bytes_eq name) es) (cond (bytes_eq name e.0) (Some e.1) None)
found_first name es e = go (lookup (bytes_eq e.0) es) refl
  where
    past : (b : Bool) → bytes_eq name e.0 ≡ b → (x : Node) → lookup (bytes_eq e.0) es ≡ Some x → lookup (bytes_eq name) es ≡ first_or (lookup (bytes_eq name) es) (cond b (Some e.1) None)
    past true q x h =
        let same : name ≡ e.0 = (bytes_eq-Decides name e.0).0 q in
        let here : lookup (bytes_eq name) es ≡ Some x = ap (λ n. lookup (bytes_eq n) es) same ∙ h in
        here ∙ sym (ap (λ o. first_or o (Some e.1)) here)
    past false q x h = none (lookup (bytes_eq name) es)
      where
        none : (o : Option Node) → o ≡ first_or o None
        none None = refl
        none (Some y) = refl

    go : (o : Option Node) → lookup (bytes_eq e.0) es ≡ o → lookup (bytes_eq name) (elim o [ None ↦ es ++ e ∷ [] | Some x ↦ es ]) ≡ first_or (lookup (bytes_eq name) es) (cond (bytes_eq name e.0) (Some e.1) None)
    go None h = found_last name es e
    go (Some x) h = past (bytes_eq name e.0) refl x h

first_assoc : (a b c : Option Node) → first_or (first_or a b) c ≡ first_or a (first_or b c)
first_assoc None b c = refl
first_assoc (Some x) b c = refl

same-test : (a b : Name) → bytes_eq a b ≡ bytes_eq b a
same-test a b = go (bytes_eq a b) refl (bytes_eq b a) refl
  where
    go : (x : Bool) → bytes_eq a b ≡ x → (y : Bool) → bytes_eq b a ≡ y → x ≡ y
    go true p true q = refl
    go true p false q = let other : bytes_eq b a ≡ true = (bytes_eq-Decides b a).1 (sym ((bytes_eq-Decides a b).0 p)) in let both : true ≡ false = sym other ∙ q in cc
    go false p true q = let other : bytes_eq a b ≡ true = (bytes_eq-Decides a b).1 (sym ((bytes_eq-Decides b a).0 q)) in let both : true ≡ false = sym other ∙ p in cc
    go false p false q = refl

found_names : (name : Name) (es : List NamedStatement) (statement : Node) (ns : List Node) → lookup (bytes_eq name) (with_first_names es statement ns) ≡ first_or (lookup (bytes_eq name) es) (cond (list_any (has_text name) ns) (Some statement) None)
found_names name es statement [] = none (lookup (bytes_eq name) es)
  where
    none : (o : Option Node) → o ≡ first_or o None
    none None = refl
    none (Some y) = refl
found_names name es statement (n ∷ ns) =
    found_names name (with_first es (n.text, statement)) statement ns
    ∙ ap (λ o. first_or o (cond (list_any (has_text name) ns) (Some statement) None)) (found_first name es (n.text, statement))
    ∙ first_assoc (lookup (bytes_eq name) es) (cond (bytes_eq name n.text) (Some statement) None) (cond (list_any (has_text name) ns) (Some statement) None)
    ∙ ap (λ o. first_or (lookup (bytes_eq name) es) o) (ap (λ b. first_or (cond b (Some statement) None) (cond (list_any (has_text name) ns) (Some statement) None)) (same-test name n.text) ∙ either (bytes_eq n.text name) (list_any (has_text name) ns))
  where
    either : (b c : Bool) → first_or (cond b (Some statement) None) (cond c (Some statement) None) ≡ cond (b || c) (Some statement) None
    either true c = refl
    either false c = refl

found_statements : (name : Name) (es : List NamedStatement) (xs : List Node) → lookup (bytes_eq name) (with_statements es xs) ≡ first_or (lookup (bytes_eq name) es) (first_declaring name xs)
found_statements name es [] = none (lookup (bytes_eq name) es)
  where
    none : (o : Option Node) → o ≡ first_or o None
    none None = refl
    none (Some y) = refl
found_statements name es (x ∷ xs) =
    found_statements name (with_first_names es x (bound_names (exported x))) xs
    ∙ ap (λ o. first_or o (first_declaring name xs)) (found_names name es x (bound_names (exported x)))
    ∙ first_assoc (lookup (bytes_eq name) es) (cond (declares name x) (Some x) None) (first_declaring name xs)
    ∙ ap (λ o. first_or (lookup (bytes_eq name) es) o) (first (declares name x))
  where
    first : (b : Bool) → first_or (cond b (Some x) None) (first_declaring name xs) ≡ cond b (Some x) (first_declaring name xs)
    first true = refl
    first false = refl

-- what is found by name is the first that declares it
pub found : (name : Name) (xs : List Node) → lookup (bytes_eq name) (with_statements [] xs) ≡ first_declaring name xs
found name xs = found_statements name [] xs
