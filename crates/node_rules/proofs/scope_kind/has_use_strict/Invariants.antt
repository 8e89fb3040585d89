use Rattle.std.proofs.Common.{◌≡◌, drop}
use Rattle.semantic_tree.specs.Children.{forest_of}
use Rattle.semantic_kinds.specs.declared.kind.AstType.TheVariants as kind
use Rattle.semantic_kinds.specs.declared.role.Role.TheVariants as role
use Rattle.std.proofs.Common.{codes}
use Rattle.semantic_tree.specs.Views.{is_with_text, children_of}
use Rattle.std.specs.List.{list_any}
use Rattle.node_rules.proofs.scope_kind.has_use_strict.Given as goal

-- no child so far is the directive
abbrev pub invariant-loop-role : goal.invariant-loop-role
invariant-loop-role l =
    record {
      items : forest_of l.role-items ≡ l.kind.node.now.children;
      rest : list_any (is_with_text kind.Directive (codes "use strict")) (children_of role.Directives (forest_of (drop l.role-index l.role-items)))
          ≡ list_any (is_with_text kind.Directive (codes "use strict")) (children_of role.Directives l.kind.node.now.children);
    }
