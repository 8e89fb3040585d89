-- Where the names lead that a module declares or imports, by where the first import of each symbol leads.
use Rattle.std.specs.Prelude.{ℕ, Option, Some, None, cond}
use Rattle.semantic_kinds.specs.declared.kind.AstType.TheVariants as kind
use Rattle.semantic_tree.specs.declared.node.Node.{Node}
use Rattle.semantic_tree.specs.Views.{is}
use Rattle.link_model.specs.Leads.{Ties}
use Rattle.link_search.specs.declared.target.Target.{Target}
use Rattle.link_search.specs.declared.target.Target.TheVariants.{End}
use Rattle.link_search.specs.declared.terminal.Terminal.TheVariants.{Symbol, Default}

abbrev pub symbol_target : ℕ → ℕ → Option Target → Target
symbol_target m s None = End (Symbol m s)
symbol_target m s (Some target) = target

abbrev pub tied_target : ℕ → (ℕ → Option Target) → Option ℕ → Option Target
tied_target m imported None = None
tied_target m imported (Some s) = Some (symbol_target m s (imported s))

abbrev pub local_target : ℕ → Ties → (ℕ → Option Target) → Option Node → Option Target
local_target m t imported None = None
local_target m t imported (Some local) = cond (is kind.IdentifierReference local) (tied_target m imported (t.tied local.node_id)) None

abbrev pub declared_target : ℕ → Option ℕ → Option Target
declared_target m None = None
declared_target m (Some s) = Some (End (Symbol m s))

-- the default export, which may have a name
abbrev pub default_target : ℕ → Ties → Option Node → Option Target
default_target m t None = Some (End (Default m))
default_target m t (Some id) = declared_target m (t.declared id.node_id)
