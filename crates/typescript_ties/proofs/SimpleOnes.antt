-- What is known of a declaration that is simple.
use Rattle.std.proofs.Common.{◌≡◌, true, false, ◌&&◌, not}
use Rattle.std.proofs.lemmas.Bool.{not-true}
use denote.Enum.Bare.{same_true}
use Rattle.semantic_syntax.proofs.Truth.{and_first, and_second}
use Rattle.binding_laws.proofs.SmallLaws.{implied}
use Rattle.typescript_ties.specs.Containers.{is_container}
use Rattle.typescript_ties.specs.NamedDeclarations.{NamedDeclaration, is_sort}
use Rattle.typescript_ties.specs.SimpleNames.{is_simple_sort, is_apart, stands_with_parameters, is_simple}
use Rattle.typescript_ties.specs.contracts.declaration_sort.DeclarationSort.{the_type as the_sorts}
use Rattle.typescript_ties.specs.declared.container_kind.ContainerKind.TheVariants as container
use Rattle.typescript_ties.specs.declared.declaration_sort.DeclarationSort.TheVariants as sort

pub sort_is_simple : (n : NamedDeclaration) → is_simple n ≡ true → is_simple_sort n.sort ≡ true
sort_is_simple n e = and_first (is_simple_sort n.sort) (not (is_apart n.container.kind) && stands_with_parameters n) e

-- where it is placed
placed : (n : NamedDeclaration) → is_simple n ≡ true → (not (is_apart n.container.kind) && stands_with_parameters n) ≡ true
placed n e = and_second (is_simple_sort n.sort) (not (is_apart n.container.kind) && stands_with_parameters n) e

pub is_not_apart : (n : NamedDeclaration) → is_simple n ≡ true → is_apart n.container.kind ≡ false
is_not_apart n e = not-true (is_apart n.container.kind) (and_first (not (is_apart n.container.kind)) (stands_with_parameters n) (placed n e))

-- among parameters it is one
pub is_parameter : (n : NamedDeclaration) → is_simple n ≡ true → is_container container.Parameters n.container ≡ true → n.sort ≡ sort.Parameter
is_parameter n e i = same_true the_sorts tt n.sort sort.Parameter (implied (is_container container.Parameters n.container) (is_sort sort.Parameter n) (and_second (not (is_apart n.container.kind)) (stands_with_parameters n) (placed n e)) i)
