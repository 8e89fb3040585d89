-- Where the names lead that a module declares or imports.
use Rattle.std.proofs.Common.{◌≡◌, ℕ, List, [], ◌∷◌, Bool, true, false, cond, Option, Some, None, refl}
use Rattle.semantic_kinds.specs.declared.kind.AstType.TheVariants as kind
use Rattle.semantic_syntax.specs.Tables.{Name}
use Rattle.semantic_tree.specs.declared.node.Node.{Node}
use Rattle.semantic_tree.specs.Views.{is as is_kind}
use Rattle.link_model.specs.Exports.{by_default}
use Rattle.link_model.specs.Imports.{Import}
use Rattle.link_model.specs.Leads.{Ties, import_binding, import_or_symbol, symbol_ends, local_ends, declared_ends, exported_ends}
use Rattle.link_search.specs.Exports.{if_any}
use Rattle.link_search.specs.declared.target.Target.{Target}
use Rattle.link_targets.specs.Denoted.{denoted, AreDenoted}
use Rattle.module_linker.specs.ImportsLead.{ImportStands, ImportsLead}
use Rattle.module_linker.specs.LocalTargets.{symbol_target, tied_target, local_target, declared_target, default_target}

module _ (names texts : List Name) (m : ℕ) where
  symbol_stands : (s : ℕ) (o : Option Target) (i : Option Import) → ImportStands names texts o i → denoted texts (symbol_target m s o) ≡ Some (import_or_symbol names m s i)
  symbol_stands s None None h = refl
  symbol_stands s None (Some i) h = absurd h
  symbol_stands s (Some t) None h = absurd h
  symbol_stands s (Some t) (Some i) h = h

  module _ (t : Ties) (is : List Import) (imported : ℕ → Option Target) (leads : ImportsLead names texts t is imported) where
    tied_stands : (o : Option ℕ) → AreDenoted texts (if_any (tied_target m imported o)) (symbol_ends names m t is o)
    tied_stands None = tt
    tied_stands (Some s) = (symbol_stands s (imported s) (import_binding t s is) (leads s), tt)

    pub local_stands : (local : Option Node) → AreDenoted texts (if_any (local_target m t imported local)) (local_ends names m t is local)
    local_stands None = tt
    local_stands (Some local) = go (is_kind kind.IdentifierReference local)
      where
        go : (b : Bool) → AreDenoted texts (if_any (cond b (tied_target m imported (t.tied local.node_id)) None)) (cond b (symbol_ends names m t is (t.tied local.node_id)) [])
        go true = tied_stands (t.tied local.node_id)
        go false = tt

pub declared_stands : (texts : List Name) (m : ℕ) (o : Option ℕ) → AreDenoted texts (if_any (declared_target m o)) (declared_ends m o)
declared_stands texts m None = tt
declared_stands texts m (Some s) = (refl, tt)

pub default_stands : (names texts : List Name) (m : ℕ) (t : Ties) (is : List Import) (o : Option Node) → AreDenoted texts (if_any (default_target m t o)) (exported_ends names m t is (by_default o))
default_stands names texts m t is None = (refl, tt)
default_stands names texts m t is (Some id) = declared_stands texts m (t.declared id.node_id)

pub ruleset stands = (declared_stands, default_stands)
