-- What a function declares at a place by what the walk sees of it.
use Rattle.std.proofs.Common.{◌≡◌, ℕ, List, [], ◌∷◌, Bool, true, false, ◌&&◌, Option, None, map, refl, sym, ap, ◌∙◌}
use Rattle.semantic_kinds.specs.declared.kind.AstType.TheVariants as kind
use Rattle.semantic_kinds.specs.declared.mark.Mark.TheVariants as mark
use Rattle.semantic_syntax.specs.declared.scope_flags.ScopeFlags.{ScopeFlags}
use Rattle.semantic_syntax.specs.declared.scope_flags.TheConstants.ScopeFlags as scope
use Rattle.semantic_syntax.specs.declared.source_type.SourceType.{SourceType}
use Rattle.semantic_syntax.specs.Sets.{meets}
use Rattle.semantic_syntax.specs.Reading.{scope_of}
use Rattle.semantic_tree.specs.declared.node.Node.{Node}
use Rattle.semantic_tree.specs.declared.view.AstKind.{AstKind}
use Rattle.semantic_tree.specs.Views.{is, has}
use Rattle.semantic_model.specs.Names.{bound_names}
use Rattle.semantic_model.specs.Place.{Place, OpenScope, innermost}
use Rattle.semantic_model.specs.Declaration.{Declaration, plain, moved, here, outward_past}
use Rattle.semantic_model.specs.Step.{entering}
use Rattle.semantic_model.specs.Binder as binder
use Rattle.semantic_model.specs.Binder.{is_var, is_clause, is_statement, function_flags, function_excluded, is_block_function, function_row, own_function_row}
use Rattle.walk_model.specs.Shown.{ShowsChain, HasVar}
use Rattle.walk_model.specs.NamedScopes.{IsStepNamed}
use Rattle.node_rules.specs.declared.rows.Row.{Row}
use Rattle.node_rules.specs.Seen.{IsBinderRow, parent_path, seen}
use Rattle.table_building.specs.Named.{named_by}
use Rattle.semantic_walk.specs.Paths.{parent_in}
use Rattle.semantic_walk.specs.Walker.{Walker}
use Rattle.semantic_walk.specs.AtPlace.{IsWithin}
use Rattle.semantic_walk.specs.Binds.{declaring, moving, acting}
use Rattle.semantic_walk.proofs.RowActs.{moved_acts}
use Rattle.semantic_walk.proofs.PlaceDeclares.{excluded_same, excluded_alone, block_same, block_is_inner}
use Rattle.semantic_walk.proofs.PlaceRows.{parent_tells, flags_told, row_at_acts}

-- what is seen of a function where the walk stands
pub record IsSeen (w : Walker) (source : SourceType) (parent : Option AstKind) (flags : ScopeFlags) : Type 0 where
  pub source_is : source ≡ w.source_type
  pub parent_is : parent_path parent ≡ parent_in w.path
  pub flags_are : flags ≡ (scope_of w.made.tables w.current).flags

module _ (ds : List Declaration) (w : Walker) (p : Place) (function : AstKind) (parent : Option AstKind) (source : SourceType) (flags : ScopeFlags) (row : Row) (is_pure : Bool)
    (e : p.node ≡ function.node.now) (sees : IsSeen w source parent flags) (same : IsBinderRow row (function_flags function.node.now) (function_excluded (seen source function parent flags))) (pure : is_pure ≡ has mark.Pure function.node.now) where
  -- the names of a function expression, in its own scope
  pub function_inside : (own : OpenScope) → is_statement p.node ≡ false → IsWithin w p (own ∷ [])
      → declaring w (map (named_by function.node.now row is_pure) (bound_names function.node.now)) ≡ acting ds w (map (binder.declaration_at p.node (own_function_row p own) (has mark.Pure p.node)) (bound_names p.node))
  function_inside own s within =
      let excluded : function_excluded (seen source function parent flags) ≡ function_excluded p =
      sym (excluded_alone p (seen source function parent flags) (sym (sees.source_is ∙ within.source_type)) e s) in
      row_at_acts ds w p (own ∷ []) function.node.now row is_pure function_flags (function_excluded p) bound_names e (record { flags = same.flags; excluded = same.excluded ∙ excluded }) within
      ∙ ap (λ b. acting ds w (map (binder.declaration_at p.node (own_function_row p own) b) (bound_names p.node))) (pure ∙ ap (has mark.Pure) (sym e))

  -- an expression never moves
  pub never_moves : (m : Bool) → is_statement p.node ≡ false → m ≡ (is_statement function.node.now && is_block_function (seen source function None flags)) → m ≡ true → ⊥
  never_moves m s h t = clash (sym (h ∙ ap (λ b. b && is_block_function (seen source function None flags)) (ap is_statement (sym e) ∙ s)) ∙ t)
    where
      clash : false ≡ true → ⊥
      clash q = cc

  module _ (within : IsWithin w p p.chain) (shown : ShowsChain w.made.tables p.chain) (some : HasVar p.chain) where
    told : (bits : ℕ) → meets (scope_of w.made.tables w.current).flags.bits bits ≡ meets (innermost p.chain).flags bits → meets flags.bits bits ≡ meets (innermost p.chain).flags bits
    told bits h = ap (λ (f : ScopeFlags). meets f.bits bits) sees.flags_are ∙ h

    abbrev there : Place
    there = seen source function parent flags

    excluded_here : function_excluded there ≡ function_excluded p
    excluded_here =
        excluded_same there p (sees.source_is ∙ within.source_type) (sym e) (told scope.StrictMode.bits (flags_told w p scope.StrictMode.bits refl within shown some))
        (parent_tells w p p.chain within (is kind.IfStatement) parent sees.parent_is)

    row_here : IsBinderRow row (function_flags function.node.now) (function_excluded p)
    row_here = record { flags = same.flags; excluded = same.excluded ∙ excluded_here }

    -- what is seen says whether a function may move
    pub block_here : is_block_function (seen source function None flags) ≡ is_block_function p
    block_here =
        block_same (seen source function None flags) p (sees.source_is ∙ within.source_type) (sym e)
        (told scope.StrictMode.bits (flags_told w p scope.StrictMode.bits refl within shown some))
        (told scope.Var.bits (flags_told w p scope.Var.bits refl within shown some))
        (told scope.CatchClause.bits (flags_told w p scope.CatchClause.bits refl within shown some))

    pub block_by : (m : Bool) → is_statement p.node ≡ true → m ≡ (is_statement function.node.now && is_block_function (seen source function None flags)) → is_block_function p ≡ m
    block_by m s h = sym block_here ∙ sym (ap (λ b. b && is_block_function (seen source function None flags)) (ap is_statement (sym e) ∙ s)) ∙ sym h

    -- a function that stays where it is
    pub function_stays : is_block_function p ≡ false
        → declaring w (map (named_by function.node.now row is_pure) (bound_names function.node.now)) ≡ acting ds w (map (binder.declaration_at p.node (function_row p) (has mark.Pure p.node)) (bound_names p.node))
    function_stays h =
        row_at_acts ds w p p.chain function.node.now row is_pure function_flags (function_excluded p) bound_names e row_here within
        ∙ ap (λ b. acting ds w (map (binder.declaration_at p.node (record { flags = function_flags p.node; excluded = function_excluded p; how = plain; route = here p.chain }) b) (bound_names p.node))) (pure ∙ ap (has mark.Pure) (sym e))
        ∙ ap (λ (r : binder.BinderRow). acting ds w (map (binder.declaration_at p.node r (has mark.Pure p.node)) (bound_names p.node))) (sym stays)
      where
        stays : function_row p ≡ record { flags = function_flags p.node; excluded = function_excluded p; how = plain; route = here p.chain }
        stays = rw h refl

    abbrev goes : binder.BinderRow
    goes = record { flags = function_flags p.node; excluded = function_excluded p; how = moved; route = outward_past is_var p.chain }

    -- one that may move
    pub function_moves : IsStepNamed ds w.namesakes (entering p) → is_block_function p ≡ true
        → moving w (map (named_by function.node.now row is_pure) (bound_names function.node.now)) ≡ acting ds w (map (binder.declaration_at p.node (function_row p) (has mark.Pure p.node)) (bound_names p.node))
    function_moves named h =
        ap (λ (n : Node). moving w (map (named_by n row is_pure) (bound_names n))) (sym e)
        ∙ moved_acts ds p.node row (function_row p) is_pure p.chain row_moved how route (block_is_inner p h) some w (bound_names p.node) within.current shown (named h)
        ∙ ap (λ b. acting ds w (map (binder.declaration_at p.node (function_row p) b) (bound_names p.node))) (pure ∙ ap (has mark.Pure) (sym e))
      where
        moves : function_row p ≡ goes
        moves = rw h refl

        row_moved : IsBinderRow row (function_row p).flags (function_row p).excluded
        row_moved = record {
          flags = same.flags ∙ ap function_flags (sym e) ∙ ap (λ (r : binder.BinderRow). r.flags) (sym moves);
          excluded = same.excluded ∙ excluded_here ∙ ap (λ (r : binder.BinderRow). r.excluded) (sym moves);
        }

        how : (function_row p).how ≡ moved
        how = ap (λ (r : binder.BinderRow). r.how) moves

        route : (function_row p).route ≡ outward_past is_var p.chain
        route = ap (λ (r : binder.BinderRow). r.route) moves
