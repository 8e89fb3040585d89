-- What is tried of a name holds of it.
use Rattle.std.proofs.Common.{◌≡◌, List, [], ◌∷◌, Bool, true, false, ◌&&◌, ◌||◌, not, sym, subst, inl, inr, bytes_eq, ap, ◌==◌, ◌∙◌}
use Rattle.std.specs.List.{list_all}
use Rattle.std.proofs.lemmas.Bool.{and_from, eq-eqb, eqb-true}
use Rattle.semantic_syntax.proofs.Truth.{and_first, and_second}
use Rattle.semantic_kinds.specs.declared.kind.AstType.TheVariants as kind
use Rattle.semantic_syntax.specs.Tables.{Name}
use Rattle.semantic_tree.specs.Tree.{Tree}
use Rattle.semantic_tree.specs.Views.{is}
use Rattle.semantic_model.specs.Cursor.{way_or_read}
use Rattle.semantic_model.specs.Entries.{Among}
use Rattle.semantic_model.specs.Step.{entering, steps}
use Rattle.semantic_model.proofs.once.ListedUnder.{name_tells}
use Rattle.binding_laws.proofs.SmallLaws.{never, implied}
use Rattle.typescript_ties.specs.AskedMeanings.{asked_by_reference}
use Rattle.typescript_ties.specs.Containers.{Container, containers}
use Rattle.typescript_ties.specs.NamedDeclarations.{NamedDeclaration, same_sort, is_sort, named_by_node, named_in}
use Rattle.typescript_ties.specs.SimpleNames.{is_simple, before_first_taking, VarsKeepClear, OwnNamesStandAlone, is_way_of, IsSimpleName}
use Rattle.typescript_ties.specs.TriedNames.{asks_at, declares_var, stands_apart, keeps_clear_at, owns_its_name_alone, is_simple_name}
use Rattle.typescript_ties.specs.declared.declaration_sort.DeclarationSort.TheVariants as sort
use Rattle.typescript_ties.proofs.AgreedPlaces.{any_there}

pub all_among : {A : Type 0} → (test : A → Bool) (xs : List A) (x : A) → list_all test xs ≡ true → Among x xs → test x ≡ true
all_among test [] x h a = absurd a
all_among test (y ∷ xs) x h (inl e) = subst (λ z. test z ≡ true) e (and_first (test y) (list_all test xs) h)
all_among test (y ∷ xs) x h (inr a) = all_among test xs x (and_second (test y) (list_all test xs) h) a

module _ (p : Tree) (x : Name) (tried : is_simple_name p x ≡ true) where
  abbrev all_declared : Bool
  all_declared = list_all (λ z. not (bytes_eq z.name x) || (is_sort sort.IndexParameter z || (is_simple z && owns_its_name_alone (named_in p) z))) (named_in p)

  abbrev all_asked : Bool
  all_asked = list_all (asks_at x) (steps p)

  abbrev all_clear : Bool
  all_clear = list_all (keeps_clear_at p.source_type (named_in p) x) (steps p)

  both : (all_declared && all_asked) ≡ true
  both = and_first (all_declared && all_asked) all_clear tried

  named_x : (y : Name) → y ≡ x → bytes_eq y x ≡ true
  named_x y e = elim (name_tells y x) [ inl i ↦ i.0 | inr i ↦ absurd (i.1 e) ]

  keeps_clear : VarsKeepClear p x
  keeps_clear q entered v n a is_var is_v among is_n c there same =
      let at : keeps_clear_at p.source_type (named_in p) x (entering q) ≡ true = all_among (keeps_clear_at p.source_type (named_in p) x) (steps p) (entering q) (and_second (all_declared && all_asked) all_clear tried) entered in
      let passed : List Container = before_first_taking (containers p.source_type q.node q.path) in
      let declares : declares_var p.source_type x q ≡ true = any_there (λ z. is_sort sort.Var z && bytes_eq z.name x) (named_by_node q.node.kind p.source_type q.node q.path) v a (and_from (is_sort sort.Var v) (bytes_eq v.name x) (ap (λ t. same_sort t sort.Var) is_var) (named_x v.name is_v)) in
      let each : list_all (λ m. not (bytes_eq m.name x) || stands_apart passed m) (named_in p) ≡ true = implied (declares_var p.source_type x q) (list_all (λ m. not (bytes_eq m.name x) || stands_apart passed m) (named_in p)) at declares in
      let apart : stands_apart passed n ≡ true = implied (bytes_eq n.name x) (stands_apart passed n) (all_among (λ m. not (bytes_eq m.name x) || stands_apart passed m) (named_in p) n each among) (named_x n.name is_n) in
      never (sym (all_among (λ d. not (n.container.node == d.node)) passed c apart there) ∙ ap not (eq-eqb n.container.node c.node same))

  or_second : (a b : Bool) → a ≡ false → (a || b) ≡ true → b ≡ true
  or_second true b e h = absurd (never e)
  or_second false b e h = h

  declared : (d : NamedDeclaration) → Among d (named_in p) → d.name ≡ x → is_sort sort.IndexParameter d ≡ false → (is_simple d && owns_its_name_alone (named_in p) d) ≡ true
  declared d a e o = or_second (is_sort sort.IndexParameter d) (is_simple d && owns_its_name_alone (named_in p) d) o
      (implied (bytes_eq d.name x) (is_sort sort.IndexParameter d || (is_simple d && owns_its_name_alone (named_in p) d))
      (all_among (λ z. not (bytes_eq z.name x) || (is_sort sort.IndexParameter z || (is_simple z && owns_its_name_alone (named_in p) z))) (named_in p) d (and_first all_declared all_asked both) a) (named_x d.name e))

  own_alone : OwnNamesStandAlone p x
  own_alone d e a b i j k at =
      let each : list_all (λ z. not (bytes_eq z.name d.name && z.container.node == d.container.node) || z.identifier == d.identifier) (named_in p) ≡ true =
      implied (is_sort sort.FunctionName d) (list_all (λ z. not (bytes_eq z.name d.name && z.container.node == d.container.node) || z.identifier == d.identifier) (named_in p)) (and_second (is_simple d) (owns_its_name_alone (named_in p) d) (declared d a i (ap (λ t. same_sort t sort.IndexParameter) k))) (ap (λ t. same_sort t sort.FunctionName) k) in
      let same : bytes_eq e.name d.name ≡ true = subst (λ z. bytes_eq e.name z ≡ true) (sym i) (named_x e.name j) in
      let one : (e.identifier == d.identifier) ≡ true = implied (bytes_eq e.name d.name && e.container.node == d.container.node) (e.identifier == d.identifier)
      (all_among (λ z. not (bytes_eq z.name d.name && z.container.node == d.container.node) || z.identifier == d.identifier) (named_in p) e each b) (and_from (bytes_eq e.name d.name) (e.container.node == d.container.node) same (eq-eqb e.container.node d.container.node at)) in
      eqb-true e.identifier d.identifier one

  pub simple_name : IsSimpleName p x
  simple_name = record {
    simply = record { each = λ d a e o. and_first (is_simple d) (owns_its_name_alone (named_in p) d) (declared d a e o); clear = keeps_clear; own = own_alone };
    ways = λ q entered refers is_x. implied (is kind.IdentifierReference q.node && bytes_eq q.node.text x) (is_way_of (asked_by_reference q.path) (way_or_read q.cursor))
        (all_among (asks_at x) (steps p) (entering q) (and_second all_declared all_asked both) entered) (and_from (is kind.IdentifierReference q.node) (bytes_eq q.node.text x) refers (named_x q.node.text is_x));
  }
