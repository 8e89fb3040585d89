-- What is handed in fits exactly where the tests say so.
use Rattle.std.proofs.Common.{◌≡◌, ℕ, ◌<◌, ◌≤◌, Bool, true, false, ◌&&◌, Option, Some, None, nat_le, nat_lt, length, refl, arith}
use Rattle.std.specs.Prelude.{IfSome}
use Rattle.std.specs.Option.{option_map_or}
use Rattle.std.proofs.lemmas.Bool.Decides.{nat_tests}
use Rattle.semantic_syntax.proofs.Truth.{and_first, and_second}
use Rattle.semantic_tree.specs.Limits.{source_limit}
use Rattle.semantic_tree.specs.Sound.{is_sound}
use Rattle.semantic_tree.specs.declared.node.Node.{Node}
use Rattle.node_store.specs.PathOf.{IsInStore}
use Rattle.node_store.specs.declared.ancestry.Ancestry.{Ancestry}
use Rattle.node_store.specs.declared.ancestry.Ancestry.TheVariants.{Nodes, Stack}
use Rattle.check_context.specs.declared.context.CheckContext.{CheckContext}
use Rattle.check_context.specs.Handed.{IsContext, IsHanded}
use Rattle.check_context.specs.Fitting.{is_in_store, is_current, context_fits, fits_node}

-- both of two tests hold, and only so
pub both_hold : (a b : Bool) → (a && b) ≡ true → (a ≡ true) × (b ≡ true)
both_hold a b h = (and_first a b h, and_second a b h)

pub holds_both : (a b : Bool) → a ≡ true → b ≡ true → (a && b) ≡ true
holds_both true b h k = k
holds_both false b h k = h

less : (a b : ℕ) → nat_lt a b ≡ true → a < b
less a b h = grind (arith, nat_tests, h)

is_less : (a b : ℕ) → a < b → nat_lt a b ≡ true
is_less a b h = grind (arith, nat_tests, h)

most : (a b : ℕ) → nat_le a b ≡ true → a ≤ b
most a b h = grind (arith, nat_tests, h)

is_most : (a b : ℕ) → a ≤ b → nat_le a b ≡ true
is_most a b h = grind (arith, nat_tests, h)

in_store : (a : Ancestry) → is_in_store a ≡ true → IsInStore a
in_store (Nodes nodes current) h = less current (length nodes.now.nodes) h
in_store (Stack stack) h = tt

store_told : (a : Ancestry) → IsInStore a → is_in_store a ≡ true
store_told (Nodes nodes current) h = is_less current (length nodes.now.nodes) h
store_told (Stack stack) h = refl

in_table : (n : ℕ) (o : Option ℕ) → option_map_or (λ c. nat_lt c n) o true ≡ true → IfSome o (λ c. c < n)
in_table n None h = tt
in_table n (Some c) h = less c n h

table_told : (n : ℕ) (o : Option ℕ) → IfSome o (λ c. c < n) → option_map_or (λ c. nat_lt c n) o true ≡ true
table_told n None h = refl
table_told n (Some c) h = is_less c n h

module _ (ctx : CheckContext) where
  abbrev in_scopes : Bool
  in_scopes = nat_lt ctx.current_scope_id (length ctx.scoping.now.scopes)

  abbrev in_limit : Bool
  in_limit = nat_le (length ctx.source_text.now) source_limit

  pub tested_context : context_fits ctx ≡ true → IsContext ctx
  tested_context h =
      let stored = both_hold (is_in_store ctx.ancestry) (is_current ctx.classes.now && (in_scopes && in_limit)) h in
      let current = both_hold (is_current ctx.classes.now) (in_scopes && in_limit) stored.1 in
      let rest = both_hold in_scopes in_limit current.1 in
      record {
        path = in_store ctx.ancestry stored.0;
        scope = less ctx.current_scope_id (length ctx.scoping.now.scopes) rest.0;
        class = in_table (length ctx.classes.now.classes.nodes) ctx.classes.now.current_class_id current.0;
        source = most (length ctx.source_text.now) source_limit rest.1;
      }

  pub context_told : IsContext ctx → context_fits ctx ≡ true
  context_told h =
      holds_both (is_in_store ctx.ancestry) (is_current ctx.classes.now && (in_scopes && in_limit)) (store_told ctx.ancestry h.path)
      (holds_both (is_current ctx.classes.now) (in_scopes && in_limit) (table_told (length ctx.classes.now.classes.nodes) ctx.classes.now.current_class_id h.class)
      (holds_both in_scopes in_limit (is_less ctx.current_scope_id (length ctx.scoping.now.scopes) h.scope) (is_most (length ctx.source_text.now) source_limit h.source)))

  pub tested_handed : (node : Node) → fits_node node ctx ≡ true → IsHanded node ctx
  tested_handed node h = let both = both_hold (context_fits ctx) (is_sound ctx.source_text.now node.span) h in record { context = tested_context both.0; span = both.1 }

  pub handed_told : (node : Node) → IsHanded node ctx → fits_node node ctx ≡ true
  handed_told node h = holds_both (context_fits ctx) (is_sound ctx.source_text.now node.span) (context_told h.context) h.span
