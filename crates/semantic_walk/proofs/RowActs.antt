-- What the walk declares by a row is what the definition declares by it.
use Rattle.std.proofs.Common.{◌≡◌, ℕ, List, [], ◌∷◌, ◌++◌, Bool, true, false, ◌||◌, Option, Some, None, cond, fold, drop, map, refl, sym, ap, subst, ◌∙◌}
use Rattle.std.specs.List.{AllByRecursion}
use Rattle.semantic_syntax.specs.declared.scope_flags.TheConstants.ScopeFlags as scope
use Rattle.semantic_syntax.specs.Sets.{meets}
use Rattle.semantic_syntax.specs.Tables.{Tables}
use Rattle.semantic_tree.specs.declared.node.Node.{Node}
use Rattle.semantic_syntax.specs.Reading.{scope_of}
use Rattle.semantic_model.specs.Naming.{Naming}
use Rattle.semantic_model.specs.Place.{Place, OpenScope, innermost, outside}
use Rattle.semantic_model.specs.Declaration as declaration
use Rattle.semantic_model.specs.Declaration.{Declaration, plain, hoisted, moved, passed_before, first_with, route_from, here, outward_to, outward_past, stands_in}
use Rattle.semantic_model.specs.Event.{declares, placed, any_bars, is_barred, declares_all}
use Rattle.semantic_model.specs.Binder as binder
use Rattle.semantic_model.specs.Binder.{declare_here, is_var, is_conditional}
use Rattle.semantic_model.specs.TablesOf.{numbers}
use Rattle.walk_model.specs.WalkState.{WalkState}
use Rattle.walk_model.specs.Declares.{declare}
use Rattle.walk_model.specs.Hoists.{hoist, declare_and_move}
use Rattle.walk_model.specs.Shown.{IsOther, ShowsChain, HasVar}
use Rattle.walk_model.specs.Walks.{act_all}
use Rattle.walk_model.specs.WrittenNames.{WrittenName, is_written}
use Rattle.walk_model.specs.NamedScopes.{IsNamedIn, AreNamedIn}
use Rattle.walk_model.proofs.turns.RowEvents.{acts_plain, acts_hoisted, acts_move, past_stands}
use Rattle.walk_model.proofs.turns.ChainWays.{SameWay, way_at, past_innermost}
use Rattle.walk_model.proofs.turns.ChainsShown.{chain_kept, act_rows}
use Rattle.node_rules.specs.declared.rows.Row.{Row}
use Rattle.node_rules.specs.Seen.{IsBinderRow}
use Rattle.table_building.specs.Named.{named_by}
use Rattle.semantic_walk.specs.Walker.{Walker}
use Rattle.semantic_walk.specs.AtPlace.{IsWithin}
use Rattle.table_building.specs.Each.{declare_each, hoist_each, settle_in_block}
use Rattle.table_building.specs.Routes.{way_from}
use Rattle.semantic_walk.specs.Binds.{stands_on, declaring, declaring_past, hoisting, block_target, moving_one, moving, acting}

declares_fold : (w : WalkState) (s : ℕ) (xs : List Naming) → declare_each w s xs ≡ fold (λ v d. declare v s d) w xs
declares_fold w s [] = refl
declares_fold w s (x ∷ xs) = declares_fold (declare w s x) s xs

hoists_fold : (w : WalkState) (passed : List ℕ) (s : ℕ) (xs : List Naming) → hoist_each w passed s xs ≡ fold (λ v d. hoist v passed s d) w xs
hoists_fold w passed s [] = refl
hoists_fold w passed s (x ∷ xs) = hoists_fold (hoist w passed s x) passed s xs

module _ (node : Node) (row : Row) (r : binder.BinderRow) (is_pure : Bool) (same : IsBinderRow row r.flags r.excluded) where
  name_same : (x : Node) → named_by node row is_pure x ≡ (binder.declaration_at node r is_pure x).naming
  name_same x =
      let named : ℕ → ℕ → Naming = λ f e. record { node = node.node_id; identifier = x.node_id; name = x.text; span = x.span; flags = f; excluded = e; is_pure = is_pure } in
      ap (λ f. named f row.excluded.bits) same.flags ∙ ap (λ e. named r.flags e) same.excluded

  names_same : (xs : List Node) → map (named_by node row is_pure) xs ≡ map (λ x. (binder.declaration_at node r is_pure x).naming) xs
  names_same [] = refl
  names_same (x ∷ xs) =
      ap (λ n. n ∷ map (named_by node row is_pure) xs) (name_same x) ∙ ap (λ ns. (binder.declaration_at node r is_pure x).naming ∷ ns) (names_same xs)

  pub plain_acts : (ds : List Declaration) (w : WalkState) (s : ℕ) (xs : List Node) → r.how ≡ plain → s ≡ r.route.target.number
      → declare_each w s (map (named_by node row is_pure) xs) ≡ act_all w (declares_all ds (map (binder.declaration_at node r is_pure) xs))
  plain_acts ds w s xs how at =
      let named : List Naming = map (λ x. (binder.declaration_at node r is_pure x).naming) xs in
      ap (λ ns. declare_each w s ns) (names_same xs) ∙ ap (λ n. declare_each w n named) at ∙ declares_fold w r.route.target.number named ∙ sym (acts_plain ds node r is_pure w xs how)

  pub hoisted_acts : (ds : List Declaration) (w : WalkState) (passed : List ℕ) (s : ℕ) (xs : List Node) → r.how ≡ hoisted → passed ≡ numbers r.route.passed → s ≡ r.route.target.number
      → hoist_each w passed s (map (named_by node row is_pure) xs) ≡ act_all w (declares_all ds (map (binder.declaration_at node r is_pure) xs))
  hoisted_acts ds w passed s xs how way at =
      let named : List Naming = map (λ x. (binder.declaration_at node r is_pure x).naming) xs in
      ap (λ ns. hoist_each w passed s ns) (names_same xs) ∙ ap (λ n. hoist_each w passed n named) at ∙ ap (λ ps. hoist_each w ps r.route.target.number named) way
      ∙ hoists_fold w (numbers r.route.passed) r.route.target.number named ∙ sym (acts_hoisted ds node r is_pure w xs how)

  -- the names are declared in the current scope, which is the row's target
  pub row_acts : (ds : List Declaration) (w : Walker) (xs : List Node) → r.how ≡ plain → w.current ≡ r.route.target.number
      → declaring w (map (named_by node row is_pure) xs) ≡ acting ds w (map (binder.declaration_at node r is_pure) xs)
  row_acts ds w xs how at = ap (λ (m : WalkState). record w { made = m }) (plain_acts ds w.made w.current xs how at)

-- and those that are declared where the place stands
pub here_acts : (ds : List Declaration) (w : Walker) (p : Place) (row : Row) (flags excluded : ℕ) (xs : List Node) → IsBinderRow row flags excluded → IsWithin w p p.chain
    → declaring w (map (named_by p.node row false) xs) ≡ acting ds w (declare_here p flags excluded xs)
here_acts ds w p row flags excluded xs same within =
    row_acts p.node row (record { flags = flags; excluded = excluded; how = plain; route = here p.chain }) false same ds w xs refl within.current

pub some_scope : (chain : List OpenScope) → HasVar chain → chain ≡ [] → ⊥
some_scope chain h e = h (ap (λ (ss : List OpenScope). first_with is_var ss) e)

-- a way outward through the tables is the way through the chain
pub way_same : (w : Walker) (p : Place) (bits : ℕ) → IsOther bits → IsWithin w p p.chain → ShowsChain w.made.tables p.chain → HasVar p.chain
    → SameWay (way_from w.made.tables w.current bits) (outward_to (λ s. meets s.flags bits) p.chain)
way_same w p bits o within shown some =
    subst (λ n. SameWay (way_from w.made.tables n bits) (outward_to (λ s. meets s.flags bits) p.chain)) (sym within.current)
    (way_at w.made.tables bits p.chain o shown (some_scope p.chain some))

module _ (ds : List Declaration) (w : Walker) (p : Place) (within : IsWithin w p p.chain) (shown : ShowsChain w.made.tables p.chain) (some : HasVar p.chain) where
  -- what goes out to the nearest function is a `var` of the row
  pub var_acts : (row : Row) (flags excluded : ℕ) (is_pure : Bool) (xs : List Node) → IsBinderRow row flags excluded
      → hoisting w scope.Var.bits (map (named_by p.node row is_pure) xs)
      ≡ acting ds w (map (binder.declaration_at p.node (record { flags = flags; excluded = excluded; how = hoisted; route = outward_to is_var p.chain }) is_pure) xs)
  var_acts row flags excluded is_pure xs same =
      let way = way_same w p scope.Var.bits refl within shown some in
      let r : binder.BinderRow = record { flags = flags; excluded = excluded; how = hoisted; route = outward_to is_var p.chain } in
      ap (λ (m : WalkState). record w { made = m })
      (hoisted_acts p.node row r is_pure same ds w.made (numbers (way_from w.made.tables w.current scope.Var.bits).passed) (way_from w.made.tables w.current scope.Var.bits).target.number xs refl way.passes way.ends)

  -- what `infer` declares goes out to the conditional type
  pub inferred_acts : (row : Row) (flags excluded : ℕ) (xs : List Node) → IsBinderRow row flags excluded
      → declaring_past w scope.TsConditional.bits (map (named_by p.node row false) xs)
      ≡ acting ds w (map (binder.declaration_at p.node (record { flags = flags; excluded = excluded; how = plain; route = outward_to is_conditional p.chain }) false) xs)
  inferred_acts row flags excluded xs same =
      let way = way_same w p scope.TsConditional.bits refl within shown some in
      let r : binder.BinderRow = record { flags = flags; excluded = excluded; how = plain; route = outward_to is_conditional p.chain } in
      ap (λ (m : WalkState). record w { made = m }) (plain_acts p.node row r false same ds w.made (way_from w.made.tables w.current scope.TsConditional.bits).target.number xs refl way.ends)

-- of a scope the tables tell the node that opens it, and it is known which names are written there
abbrev IsTold : Tables → List Declaration → List WrittenName → OpenScope → Type 0
IsTold t ds ws c = ((scope_of t c.number).node ≡ c.opener) × IsNamedIn ds ws c

abbrev AreTold : Tables → List Declaration → List WrittenName → List OpenScope → Type 0
AreTold t ds ws cs = AllByRecursion (IsTold t ds ws) cs

module _ (t : Tables) (ds : List Declaration) (ws : List WrittenName) where
  all_told : (chain : List OpenScope) → ShowsChain t chain → AreNamedIn ds ws chain → AreTold t ds ws chain
  all_told [] h k = tt
  all_told (s ∷ ss) h k = ((h.0.node, k.0), all_told ss h.1 k.1)

  told_before : (test : OpenScope → Bool) (chain : List OpenScope) → AreTold t ds ws chain → AreTold t ds ws (passed_before test chain)
  told_before test [] h = tt
  told_before test (s ∷ ss) h = by (test s) (told_before test ss h.1)
    where
      by : (b : Bool) → AreTold t ds ws (passed_before test ss) → AreTold t ds ws (cond b [] (s ∷ passed_before test ss))
      by true k = tt
      by false k = (h.0, k)

  told_outside : (chain : List OpenScope) → AreTold t ds ws chain → AreTold t ds ws (outside chain)
  told_outside [] h = tt
  told_outside (s ∷ ss) h = h.1

  told_passed : (test : OpenScope → Bool) (chain : List OpenScope) → AreTold t ds ws chain → AreTold t ds ws (outward_to test chain).passed
  told_passed test chain h = by (first_with test chain)
    where
      by : (o : Option OpenScope) → AreTold t ds ws (route_from chain (passed_before test chain) o).passed
      by None = tt
      by (Some s) = told_before test chain h

  -- a name is written in one of the scopes where a declaration in one of them bars the way
  stands_barred : (d : Declaration) (cs : List OpenScope) → AreTold t ds ws cs → stands_on t ws d.naming.name (numbers cs) ≡ is_barred ds d cs
  stands_barred d [] h = refl
  stands_barred d (c ∷ cs) h =
      ap (λ n. is_written ws n d.naming.name || stands_on t ws d.naming.name (numbers cs)) h.0.0
      ∙ ap (λ b. b || stands_on t ws d.naming.name (numbers cs)) (sym (h.0.1 d))
      ∙ ap (λ b. any_bars d c ds || b) (stands_barred d cs h.1)

past_numbers : (cs : List OpenScope) → drop 1 (numbers cs) ≡ numbers (outside cs)
past_numbers [] = refl
past_numbers (s ∷ ss) = refl

-- the function of a block settles as its target says
settles_by : (w : WalkState) (block target : ℕ) (b : Bool) (d : Naming) → settle_in_block w block (cond b None (Some target)) d ≡ cond b (declare w block d) (declare_and_move w block target d)
settles_by w block target true d = refl
settles_by w block target false d = refl

module _ (ds : List Declaration) (node : Node) (row : Row) (r : binder.BinderRow) (is_pure : Bool) (chain : List OpenScope) (same : IsBinderRow row r.flags r.excluded)
    (how : r.how ≡ moved) (route : r.route ≡ outward_past is_var chain) (inner : is_var (innermost chain) ≡ false) (some : HasVar chain) where
  block_route : (ss : List OpenScope) → is_var (innermost ss) ≡ false → HasVar ss → outward_past is_var ss ≡ outward_to is_var ss
  block_route [] h k = absurd (some_scope [] k refl)
  block_route (s ∷ ss) h k = past_innermost is_var s ss h

  block_stands : (ss : List OpenScope) → HasVar ss → (innermost ((outward_past is_var ss).passed ++ (outward_past is_var ss).target ∷ [])).number ≡ (innermost ss).number
  block_stands [] k = absurd (some_scope [] k refl)
  block_stands (s ∷ ss) k = ap (λ (c : OpenScope). c.number) (past_stands is_var s ss)

  -- one function of a block
  one_moves : (w : Walker) (x : Node) → w.current ≡ (innermost chain).number → ShowsChain w.made.tables chain → AreNamedIn ds w.namesakes chain
      → moving_one w (named_by node row is_pure x) ≡ acting ds w (binder.declaration_at node r is_pure x ∷ [])
  one_moves w x current shown named =
      let t : Tables = w.made.tables in
      let d : Declaration = binder.declaration_at node r is_pure x in
      let way : declaration.Route = way_from t w.current scope.Var.bits in
      let is : r.route ≡ outward_to is_var chain = route ∙ block_route chain inner some in
      let ways : SameWay way (outward_to is_var chain) = subst (λ n. SameWay (way_from t n scope.Var.bits) (outward_to is_var chain)) (sym current) (way_at t scope.Var.bits chain refl shown (some_scope chain some)) in
      let told : AreTold t ds w.namesakes (outside (outward_to is_var chain).passed) =
      told_outside t ds w.namesakes (outward_to is_var chain).passed (told_passed t ds w.namesakes is_var chain (all_told t ds w.namesakes chain shown named)) in
      let barred : stands_on t w.namesakes x.text (drop 1 (numbers way.passed)) ≡ is_barred ds d (outside d.route.passed) =
      ap (λ ns. stands_on t w.namesakes x.text (drop 1 ns)) ways.passes ∙ ap (λ ns. stands_on t w.namesakes x.text ns) (past_numbers (outward_to is_var chain).passed)
      ∙ stands_barred t ds w.namesakes d (outside (outward_to is_var chain).passed) told
      ∙ ap (λ (q : declaration.Route). is_barred ds d (outside q.passed)) (sym is) in
      let block : w.current ≡ stands_in d = current ∙ sym (block_stands chain some) ∙ ap (λ (q : declaration.Route). (innermost (q.passed ++ q.target ∷ [])).number) (sym route) in
      let target : way.target.number ≡ d.route.target.number = ways.ends ∙ ap (λ (q : declaration.Route). q.target.number) (sym is) in
      ap (λ (m : WalkState). record w { made = m })
      (ap (λ n. settle_in_block w.made w.current (block_target t w.namesakes w.current x.text) n) (name_same node row r is_pure same x)
      ∙ settles_by w.made w.current way.target.number (stands_on t w.namesakes x.text (drop 1 (numbers way.passed))) d.naming
      ∙ ap (λ b. cond b (declare w.made w.current d.naming) (declare_and_move w.made w.current way.target.number d.naming)) barred
      ∙ ap (λ n. cond (is_barred ds d (outside d.route.passed)) (declare w.made n d.naming) (declare_and_move w.made n way.target.number d.naming)) block
      ∙ ap (λ n. cond (is_barred ds d (outside d.route.passed)) (declare w.made (stands_in d) d.naming) (declare_and_move w.made (stands_in d) n d.naming)) target
      ∙ sym (acts_move ds w.made d how))

  -- each is declared in its block, and moves out of it unless a namesake stands between
  pub moved_acts : (w : Walker) (xs : List Node) → w.current ≡ (innermost chain).number → ShowsChain w.made.tables chain → AreNamedIn ds w.namesakes chain
      → moving w (map (named_by node row is_pure) xs) ≡ acting ds w (map (binder.declaration_at node r is_pure) xs)
  moved_acts w [] current shown named = refl
  moved_acts w (x ∷ xs) current shown named =
      let d : Declaration = binder.declaration_at node r is_pure x in
      let next : Walker = acting ds w (d ∷ []) in
      ap (λ (v : Walker). moving v (map (named_by node row is_pure) xs)) (one_moves w x current shown named)
      ∙ moved_acts next xs current (chain_kept w.made.tables next.made.tables chain (act_rows w.made (declares (placed ds d))) shown) named
