-- Which symbols may change, as the program finds it.
use Rattle.std.specs.Prelude.{◌≡◌, ℕ, Bool, ◌||◌, bytes_eq, nat_eq, slice_get}
use Rattle.std.specs.HashSet.{contains as has_key}
use Rattle.std.specs.List.{list_any}
use Rattle.semantic_syntax.specs.Tables.{Name, Symbol, Tables}
use Rattle.semantic_syntax.specs.SourceTypes.{is_typescript_definition}
use Rattle.semantic_tree.specs.Tree.{Tree}
use Rattle.semantic_model.specs.Analysis.{analysis_of}
use Rattle.semantic_model.specs.Exported.{exported_names}
use Rattle.semantic_model.specs.Step.{steps}
use Rattle.rename_model.specs.Renamed.{bears_name}
use Rattle.mangle_model.specs.MayMangle.{Options, fixes_symbol, is_global, is_kept_symbol, is_of_wrapper, is_open_scope, is_predicate}
use Rattle.mangler.specs.declared.options.MangleOptions.{MangleOptions}
use Rattle.mangler.specs.Withs.{EndsWith}
use Rattle.mangler.specs.declared.seen.Seen.{Seen}

abbrev pub options_of : MangleOptions → Options
options_of options = record { toplevel = options.toplevel }

-- what is known is what the program tells
pub record IsSeen (p : Tree) (seen : Seen) : Type 0 where
  pub withs : EndsWith (analysis_of p).tables.scopes seen.with_end
  pub predicates : (q : Name) → list_any (bytes_eq q) seen.predicates ≡ list_any (is_predicate q) (steps p)
  pub fixed : (s : ℕ) → has_key nat_eq seen.fixed s ≡ list_any (fixes_symbol (exported_names (steps p)) (bears_name (analysis_of p) s)) (steps p)

-- the symbol must keep its name, for its scope, for what it is, or for its nodes, which fix it or not
abbrev pub must_keep : Options → Tree → Tables → (is_fixed : Bool) → Symbol → Bool
must_keep o p t is_fixed y =
    is_typescript_definition p.source_type || (is_open_scope t.scopes y.scope (slice_get t.scopes y.scope) || (is_global o p.source_type y.scope
    || (is_of_wrapper p.source_type y || (is_kept_symbol (steps p) y || is_fixed))))
