-- The walk over a program begins at the root, and ends with the tables of the definitions.
use Rattle.std.proofs.Common.{◌≡◌, ℕ, ◌≤◌, List, [], ◌∷◌, ◌++◌, Some, None, Bool, true, false, IfSome, option_map, length, refl, sym, ap, subst, ◌∙◌, inl, inr, Result, Ok, Err, IfOk, arith}
use Rattle.std.specs.Prelude.{◌||◌}
use Rattle.std.specs.Str.{encode_utf8_all}
use Rattle.std.proofs.Math.Bool.{or-true}
use Rattle.std.specs.Int.Bits.{or_zero_r}
use Rattle.semantic_kinds.specs.declared.kind.AstType.TheVariants as kind
use Rattle.semantic_syntax.specs.Sets.{union}
use Rattle.semantic_syntax.specs.SourceTypes.{is_module, is_typescript_definition}
use Rattle.semantic_syntax.specs.declared.scope_flags.TheConstants.ScopeFlags as flag
use Rattle.semantic_syntax.specs.declared.source_type.SourceType.{SourceType}
use Rattle.semantic_tree.specs.declared.node.Node.{Node}
use Rattle.semantic_model.specs.ScopeKind.{flags_of_kind, opened_scope, strict_if}
use Rattle.semantic_tree.specs.Views.{has_use_strict}
use Rattle.semantic_tree.specs.Forest.{Forest, nothing, tree}
use Rattle.semantic_tree.specs.Faults.{first_fault}
use Rattle.semantic_tree.specs.Limits.{source_limit}
use Rattle.semantic_tree.specs.Shaped.{IsShaped}
use Rattle.semantic_tree.specs.Tree.{Tree, IsNumbered}
use Rattle.semantic_tree.proofs.Preorder.{root_in_preorder}
use Rattle.semantic_tree.proofs.ShapedLaws.{IsShaped-no_fault}
use Rattle.semantic_model.specs.Namespace.{InstanceState}
use Rattle.semantic_model.specs.Place.{Place, OpenScope, scope_of_place}
use Rattle.semantic_model.specs.Cursor.{on_entering}
use Rattle.semantic_model.specs.Declaration.{Declaration}
use Rattle.semantic_model.specs.Event.{written_declarations}
use Rattle.semantic_model.specs.Step.{Step, entering, opening, closing, leaving, steps_below, root_place, steps}
use Rattle.semantic_model.specs.TablesOf.{tables_of}
use Rattle.walk_model.specs.Agreement.{NotesOnce}
use Rattle.walk_model.specs.NamedScopes.{AllNamed}
use Rattle.walk_model.specs.Opens.{open_in, open_scope}
use Rattle.walk_model.specs.Recursion.{IsBetween}
use Rattle.walk_model.specs.Settles.{settle_rest}
use Rattle.walk_model.specs.WalkState.{WalkState, no_tables, nothing_made}
use Rattle.walk_model.specs.Walks.{after, after_all, walked}
use Rattle.walk_model.specs.WrittenNames.{WrittenName}
use Rattle.walk_model.proofs.refers.GivesTables.{gives_tables}
use Rattle.walk_model.proofs.written.NamesStand.{names_stand}
use Rattle.walk_model.proofs.once.NotedOnce.{notes_once}
use Rattle.walk_model.proofs.turns.RootSteps.{root_enters, root_scope, root_made, root_walked}
use Rattle.walk_model.proofs.turns.Seats.{root_is_program}
use Rattle.walk_model.proofs.turns.WalkTurns.{root_between}
use Rattle.walk_model.specs.Room.{HasRoom}
use Rattle.walk_model.proofs.sizes.ProgramRoom.{program_room}
use Rattle.walk_model.proofs.sizes.Rooms.{room_first}
use Rattle.semantic_walk.specs.AtPlace.{IsComing, entered, walked_within, left_at, walked_over}
use Rattle.promise.specs.Analysis.{BelongsToNodes}
use Rattle.promise.specs.Kept.{listed, kept_nodes, classes_noted}
use Rattle.semantic_walk.specs.Begun.{begun, notes_classes, IsBegun}
use Rattle.node_store.specs.NodeList.{no_nodes}
use Rattle.semantic_walk.specs.Listed.{IsNext, all_listed, kept_from, list_kept}
use Rattle.semantic_model.specs.NodeTable.{NodeEntry, nodes as entered_nodes}
use Rattle.semantic_walk.specs.Stated.{AllStated}
use Rattle.semantic_walk.specs.Walker.{Walker}
use Rattle.semantic_walk.specs.declared.settings.Settings.{Settings}
use Rattle.semantic_model.specs.Label.{unused_labels}
use Rattle.walk_notes.specs.NoteLists.{NoteLists, nothing_noted}
use Rattle.walk_notes.proofs.WholeProgram.{program_classes, program_labels}
use Rattle.unused_labels.specs.LabelStack.{LabelLists}
use Rattle.semantic_walk.proofs.Listing.{nodes_within, last_without}
use Rattle.check_walk.specs.Ready.{IsReadyAt}
use Rattle.check_walk.proofs.Readiness.{ready_begins}
use Rattle.check_walk.proofs.ReferencesApart.{no_keys}
use Rattle.semantic_walk.proofs.Visiting.{left_is, stated_left}

named_left : (ds : List Declaration) (ws : List WrittenName) (xs ys : List Step) → AllNamed ds ws (xs ++ ys) → AllNamed ds ws xs
named_left ds ws [] ys h = tt
named_left ds ws (x ∷ xs) ys h = (h.0, named_left ds ws xs ys h.1)

-- below the root, whose scope is open
root_named : (ds : List Declaration) (ws : List WrittenName) (p : Place) (cursor : ℕ) (f : Forest) → p.node.kind ≡ kind.Program → AllNamed ds ws (steps_below p None 0 cursor f) → AllNamed ds ws (steps_below p (Some (root_scope p)) 1 cursor f)
root_named ds ws p cursor nothing e h = tt
root_named ds ws p cursor (tree r k span text marks below id after) e h =
    let parted : AllNamed ds ws (opening p (root_scope p) ∷ steps_below p (Some (root_scope p)) 1 cursor (tree r k span text marks below id after)) = subst (AllNamed ds ws) opens_first h in parted.1
  where
    opens_first : steps_below p None 0 cursor (tree r k span text marks below id after) ≡ opening p (root_scope p) ∷ steps_below p (Some (root_scope p)) 1 cursor (tree r k span text marks below id after)
    opens_first = rw e refl

root_stated : (states : List InstanceState) (p : Place) (cursor : ℕ) (f : Forest) → p.node.kind ≡ kind.Program → AllStated states (steps_below p None 0 cursor f) → AllStated states (steps_below p (Some (root_scope p)) 1 cursor f)
root_stated states p cursor nothing e h = λ q among. absurd among
root_stated states p cursor (tree r k span text marks below id after) e h = λ q among. parted q (inr among)
  where
    opens_first : steps_below p None 0 cursor (tree r k span text marks below id after) ≡ opening p (root_scope p) ∷ steps_below p (Some (root_scope p)) 1 cursor (tree r k span text marks below id after)
    opens_first = rw e refl

    parted : AllStated states (opening p (root_scope p) ∷ steps_below p (Some (root_scope p)) 1 cursor (tree r k span text marks below id after))
    parted = subst (AllStated states) opens_first h

-- nor is a second id taken for the root's scope
opened_room : (p : Place) (s : OpenScope) (more : List Step) → HasRoom no_tables (entering p ∷ opening p s ∷ more) → HasRoom (open_scope nothing_made p s).tables (entering p ∷ more)
opened_room p s more h = record { scopes = omega (arith, h.scopes); symbols = omega (arith, h.symbols); references = omega (arith, h.references) }

root_room : (p : Place) (cursor : ℕ) (f : Forest) → p.node.kind ≡ kind.Program → HasRoom no_tables (entering p ∷ steps_below p None 0 cursor f)
    → HasRoom (open_scope nothing_made p (root_scope p)).tables (entering p ∷ steps_below p (Some (root_scope p)) 1 cursor f)
root_room p cursor nothing e h =
    let opens_last : steps_below p None 0 cursor nothing ≡ opening p (root_scope p) ∷ closing p (root_scope p) ∷ [] = rw e refl in
    room_first (open_scope nothing_made p (root_scope p)).tables (entering p ∷ []) (closing p (root_scope p) ∷ [])
    (opened_room p (root_scope p) (closing p (root_scope p) ∷ []) (subst (λ (ss : List Step). HasRoom no_tables (entering p ∷ ss)) opens_last h))
root_room p cursor (tree r k span text marks below id after) e h =
    let opens_first : steps_below p None 0 cursor (tree r k span text marks below id after) ≡ opening p (root_scope p) ∷ steps_below p (Some (root_scope p)) 1 cursor (tree r k span text marks below id after) = rw e refl in
    opened_room p (root_scope p) (steps_below p (Some (root_scope p)) 1 cursor (tree r k span text marks below id after)) (subst (λ (ss : List Step). HasRoom no_tables (entering p ∷ ss)) opens_first h)

-- with the root's scope nothing is declared
made_is : (ds : List Declaration) (p : Place) → p.node.kind ≡ kind.Program → root_made ds p ≡ open_scope nothing_made p (root_scope p)
made_is ds p e = rw e refl

-- and entering the root does nothing
entered_is : (ds : List Declaration) (p : Place) → p.node.kind ≡ kind.Program → after ds (open_scope nothing_made p (root_scope p)) (entering p) ≡ root_made ds p
entered_is ds p e = root_enters ds (open_scope nothing_made p (root_scope p)) p e ∙ sym (made_is ds p e)

none_waits : (ds : List Declaration) (p : Place) → p.node.kind ≡ kind.Program → length (root_made ds p).waiting ≡ 0
none_waits ds p e = ap (λ (v : WalkState). length v.waiting) (made_is ds p e)

between : (p : Place) (cursor : ℕ) (f : Forest) (v w : WalkState) → w ≡ v → length v.waiting ≡ 0 → IsBetween v p (Some (root_scope p)) 1 cursor 0 f → IsBetween w p (Some (root_scope p)) 1 cursor (length w.waiting) f
between p cursor f v w e none h =
    subst (λ (u : WalkState). IsBetween u p (Some (root_scope p)) 1 cursor (length u.waiting) f) (sym e)
    (subst (λ (n : ℕ). IsBetween v p (Some (root_scope p)) 1 cursor n f) (sym none) h)

-- the root is to be entered first
root_next : (program : Tree) → IsNumbered program.root → (keeps : Bool) → IfSome (kept_from keeps) (IsNext (root_place program))
root_next program numbered false = tt
root_next program numbered true = record { next = ap (λ (x : Node). x.node_id) numbered; above = ap (λ (id : ℕ). (record { node = program.root; scope = scope_of_place (root_place program); parent = id }) ∷ []) (sym (ap (λ (x : Node). x.node_id) numbered)); order = root_in_preorder program.root numbered; parents = refl }

-- with checks on, what they ask holds there
root_ready : (program : Tree) → first_fault program ≡ None → IsNumbered program.root → (on : Bool) → on ≡ true
    → IsReadyAt (encode_utf8_all program.source) (open_scope nothing_made (root_place program) (opened_scope (root_place program) 0)) (nothing_noted on).classes (root_place program)
root_ready program fits numbered on noted =
    let opened : WalkState = open_scope nothing_made (root_place program) (opened_scope (root_place program) 0) in
    subst (λ (b : Bool). IsReadyAt (encode_utf8_all program.source) opened (nothing_noted b).classes (root_place program)) (sym noted) (ready_begins program fits numbered opened no_keys)

-- the walk comes to the root
root_comes_at : (ds : List Declaration) (program : Tree) (states : List InstanceState) (ws : List WrittenName) (keeps on checks : Bool) → first_fault program ≡ None → IsNumbered program.root → (checks ≡ true → on ≡ true) → length (encode_utf8_all program.source) ≤ source_limit
    → IsBetween (root_made ds (root_place program)) (root_place program) (Some (root_scope (root_place program))) 1 (on_entering program.root.kind 0) 0 program.root.children
    → AllNamed ds ws (steps program) → AllStated states (steps program) → IsComing ds (begun program states ws keeps on checks) (root_place program) (Some (root_scope (root_place program))) 1
root_comes_at ds program states ws keeps on checks fits numbered noted limit h named stated =
    let e : program.root.kind ≡ kind.Program = root_is_program program fits in
    record {
      comes = record { source_type = refl; path = refl; current = refl; cursor = refl; is_ambient = refl };
      shown = record { chain = tt; grounded = inr e; named = named.0; stated = stated (root_place program) (inl refl) };
      root = (e, refl);
      between = between (root_place program) (on_entering program.root.kind 0) program.root.children (root_made ds (root_place program)) (entered ds (begun program states ws keeps on checks) (root_place program))
          (entered_is ds (root_place program) e) (none_waits ds (root_place program) e) h;
      named = root_named ds ws (root_place program) (on_entering program.root.kind 0) program.root.children e
          (named_left ds ws (steps_below (root_place program) None 0 (on_entering program.root.kind 0) program.root.children) (leaving (root_place program) ∷ []) named.1);
      stated = root_stated states (root_place program) (on_entering program.root.kind 0) program.root.children e
          (stated_left states (steps_below (root_place program) None 0 (on_entering program.root.kind 0) program.root.children) (leaving (root_place program) ∷ []) (λ q among. stated q (inr among)));
      room = root_room (root_place program) (on_entering program.root.kind 0) program.root.children e
          (room_first no_tables (entering (root_place program) ∷ steps_below (root_place program) None 0 (on_entering program.root.kind 0) program.root.children) (leaving (root_place program) ∷ []) (program_room program fits numbered));
      kept = root_next program numbered keeps;
      ready = λ told. root_ready program fits numbered on (noted told);
      limit = limit;
    }

pub root_comes : (program : Tree) → first_fault program ≡ None → IsNumbered program.root → (states : List InstanceState) (ws : List WrittenName) → (keeps on checks : Bool) → (checks ≡ true → on ≡ true) → length (encode_utf8_all program.source) ≤ source_limit → (ds : List Declaration) → AllNamed ds ws (steps program) → AllStated states (steps program) → IsComing ds (begun program states ws keeps on checks) (root_place program) (Some (root_scope (root_place program))) 1
root_comes program fits numbered states ws keeps on checks noted limit ds named stated = root_comes_at ds program states ws keeps on checks fits numbered noted limit (root_between ds program fits) named stated

-- all below the root is walked
abbrev pub root_within : Tree → Walker → Walker
root_within program w = walked_within (written_declarations (steps program)) w (root_place program) (Some (root_scope (root_place program))) 1

-- and the root is left
abbrev pub root_over : Tree → Walker → Walker
root_over program w = walked_over (written_declarations (steps program)) w (root_place program) (Some (root_scope (root_place program))) 1

-- the walk has made, behind the root, all that the steps do
pub root_done : (ds : List Declaration) (program : Tree) (states : List InstanceState) (ws : List WrittenName) (keeps on checks : Bool) → program.root.kind ≡ kind.Program
    → (walked_within ds (begun program states ws keeps on checks) (root_place program) (Some (root_scope (root_place program))) 1).made
    ≡ after_all ds (root_made ds (root_place program)) (steps_below (root_place program) (Some (root_scope (root_place program))) 1 (on_entering program.root.kind 0) program.root.children)
root_done ds program states ws keeps on checks e =
    ap (λ (v : WalkState). after_all ds v (steps_below (root_place program) (Some (root_scope (root_place program))) 1 (on_entering program.root.kind 0) program.root.children)) (entered_is ds (root_place program) e)

-- which is the walk over the program
pub root_walks : (program : Tree) → first_fault program ≡ None → (states : List InstanceState) (ws : List WrittenName) (keeps on checks : Bool) → (made : WalkState)
    → made ≡ (root_within program (begun program states ws keeps on checks)).made → settle_rest made ≡ walked program
root_walks program fits states ws keeps on checks made is =
    ap settle_rest (is ∙ root_done (written_declarations (steps program)) program states ws keeps on checks (root_is_program program fits)) ∙ sym (root_walked program (root_is_program program fits))

-- so it has the tables of the program
pub root_tables : (program : Tree) → first_fault program ≡ None → (made : WalkState) → made ≡ walked program → made.tables ≡ tables_of program
root_tables program fits made e = ap (λ (v : WalkState). v.tables) e ∙ gives_tables program fits

pub root_nodes : (program : Tree) → first_fault program ≡ None → IsNumbered program.root → (made : WalkState) → made ≡ walked program → BelongsToNodes program made.nodes
root_nodes program fits numbered made e =
    let once : NotesOnce program (walked program) = notes_once program fits numbered in
    subst (λ (v : WalkState). BelongsToNodes program v.nodes) (sym e) (record { scopes = once.scopes; symbols = once.symbols; references = once.references })

-- the root's scope, as the walk opens it
pub made_first : (program : Tree) → program.root.kind ≡ kind.Program → (d made : WalkState) (root : Node) (from : SourceType) (flags : ℕ) → d ≡ nothing_made → root ≡ program.root → from ≡ program.source_type
    → flags ≡ union flag.Top.bits (strict_if (is_module from || has_use_strict root)) → made ≡ open_in d None root.node_id (length d.tables.scopes) flags → made ≡ open_scope nothing_made (root_place program) (root_scope (root_place program))
made_first program k d made root from flags none is typed e first =
    first ∙ (λ i. open_in (none i) None (is i).node_id (length (none i).tables.scopes) (all i))
  where
    top : (opened_scope (root_place program) 0).flags ≡ union flag.Top.bits (strict_if (is_module program.source_type || has_use_strict program.root))
    top = or_zero_r (flags_of_kind program.root.kind (root_place program)) ∙ ap (λ m. flags_of_kind m (root_place program)) k

    all : flags ≡ (opened_scope (root_place program) 0).flags
    all = e ∙ (λ i. union flag.Top.bits (strict_if (is_module (typed i) || has_use_strict (is i)))) ∙ sym top

-- a walk that has done no more
pub begins : (program : Tree) (w : Walker) (keeps on checks : Bool) → w.made ≡ open_scope nothing_made (root_place program) (root_scope (root_place program)) → w.source_type ≡ program.source_type → w.path ≡ [] → w.current ≡ 0 → w.cursor ≡ 0 → w.is_ambient ≡ is_typescript_definition program.source_type → w.nodes ≡ kept_from keeps → w.notes ≡ nothing_noted on
    → w.source ≡ encode_utf8_all program.source → w.checks ≡ checks → w.said ≡ [] → w.counted ≡ 0 → w ≡ begun program w.states w.namesakes keeps on checks
begins program w keeps on checks made from path current cursor ambient nodes notes source told said counted =
    λ i. record { made = made i; source_type = from i; states = w.states; namesakes = w.namesakes; path = path i; current = current i; cursor = cursor i; is_ambient = ambient i; nodes = nodes i; notes = notes i; source = source i; checks = told i; said = said i; counted = counted i }

-- for checks classes are noted
pub checks_note : (settings : Settings) → settings.checks ≡ true → notes_classes settings ≡ true
checks_note settings e = ap (λ (b : Bool). settings.class_table || b) e ∙ or-true settings.class_table

-- the walk comes to the root with the names of the program and the states of its namespaces
pub walk_comes : (program : Tree) → IsShaped program → IsNumbered program.root → (settings : Settings) (w : Walker) → IsBegun settings w program
    → IsComing (written_declarations (steps program)) w (root_place program) (Some (root_scope (root_place program))) 1
walk_comes program shaped numbered settings w b =
    let fits : first_fault program ≡ None = IsShaped-no_fault program shaped in
    subst (λ (v : Walker). IsComing (written_declarations (steps program)) v (root_place program) (Some (root_scope (root_place program))) 1) (sym b.first)
    (root_comes program fits numbered w.states w.namesakes settings.build_nodes (notes_classes settings) settings.checks (checks_note settings) shaped.bytes (written_declarations (steps program))
    (names_stand program fits numbered w.namesakes b.names) b.states)

-- and in the end it has made what the definition of the walk says
pub walk_ends : (program : Tree) → first_fault program ≡ None → (settings : Settings) (w v u : Walker) → IsBegun settings w program
    → v ≡ root_within program w → u ≡ record v { made = settle_rest v.made } → u.made ≡ walked program
walk_ends program fits settings w v u b over last =
    ap (λ (x : Walker). x.made) last
    ∙ root_walks program fits w.states w.namesakes settings.build_nodes (notes_classes settings) settings.checks v.made
    (ap (λ (x : Walker). x.made) over ∙ ap (λ (x : Walker). (root_within program x).made) b.first)

-- the root's scope may be open before, or not: the same nodes are entered
root_entered : (p : Place) (cursor : ℕ) (f : Forest) → p.node.kind ≡ kind.Program → entered_nodes (steps_below p None 0 cursor f) ≡ entered_nodes (steps_below p (Some (root_scope p)) 1 cursor f)
root_entered p cursor nothing e = last_without p None 0
root_entered p cursor (tree r k span text marks below id after) e = ap entered_nodes opens_first
  where
    opens_first : steps_below p None 0 cursor (tree r k span text marks below id after) ≡ opening p (root_scope p) ∷ steps_below p (Some (root_scope p)) 1 cursor (tree r k span text marks below id after)
    opens_first = rw e refl

-- all nodes of the program
root_listed : (program : Tree) → program.root.kind ≡ kind.Program → (keeps : Bool)
    → list_kept (option_map (all_listed (entering (root_place program) ∷ steps_below (root_place program) (Some (root_scope (root_place program))) 1 (on_entering program.root.kind 0) program.root.children)) (kept_from keeps))
    ≡ kept_nodes keeps program
root_listed program e false = refl
root_listed program e true =
    let p : Place = root_place program in
    ap (listed no_nodes)
    (ap (λ (ns : List NodeEntry). entered_nodes (entering p ∷ []) ++ ns) (sym (root_entered p (on_entering program.root.kind 0) program.root.children e))
    ∙ sym (nodes_within p p (steps_below p None 0 (on_entering program.root.kind 0) program.root.children)))

-- once the root is left, nodes and notes are as behind each node
pub walk_leaves : (program : Tree) (w v u x : Walker) → IsComing (written_declarations (steps program)) w (root_place program) (Some (root_scope (root_place program))) 1
    → v ≡ root_within program w → u ≡ record v { made = settle_rest v.made } → x ≡ left_at u (root_place program)
    → (x.nodes ≡ (root_over program w).nodes) × (x.notes ≡ (root_over program w).notes)
walk_leaves program w v u x coming within last left =
    let same : left_at v (root_place program) ≡ root_over program w =
    ap (λ (y : Walker). left_at y (root_place program)) within ∙ left_is (written_declarations (steps program)) w (root_place program) (Some (root_scope (root_place program))) 1 coming in
    let so : x ≡ left_at (record v { made = settle_rest v.made }) (root_place program) = left ∙ ap (λ (y : Walker). left_at y (root_place program)) last in
    (ap (λ (y : Walker). y.nodes) so ∙ ap (λ (y : Walker). y.nodes) same, ap (λ (y : Walker). y.notes) so ∙ ap (λ (y : Walker). y.notes) same)

-- so these are kept in the end, if nodes are
pub walk_lists : (program : Tree) → first_fault program ≡ None → (settings : Settings) (w x : Walker) → IsBegun settings w program → x.nodes ≡ (root_over program w).nodes → list_kept x.nodes ≡ kept_nodes settings.build_nodes program
walk_lists program fits settings w x b over =
    ap list_kept (over ∙ ap (λ (y : Walker). (root_over program y).nodes) b.first) ∙ root_listed program (root_is_program program fits) settings.build_nodes

-- and the walk has the program's classes, if it notes them, and its unused labels
pub walk_classes : (program : Tree) → first_fault program ≡ None → (settings : Settings) (w x : Walker) → IsBegun settings w program → x.notes ≡ (root_over program w).notes → x.notes.classes.classes ≡ classes_noted (notes_classes settings) program
walk_classes program fits settings w x b over =
    ap (λ (y : NoteLists). y.classes.classes) (over ∙ ap (λ (y : Walker). (root_over program y).notes) b.first) ∙ program_classes (notes_classes settings) program fits

pub walk_labels : (program : Tree) → first_fault program ≡ None → (settings : Settings) (w x : Walker) → IsBegun settings w program → x.notes ≡ (root_over program w).notes → x.notes.labels.unused ≡ unused_labels program.root
walk_labels program fits settings w x b over =
    ap (λ (y : NoteLists). y.labels.unused) (over ∙ ap (λ (y : Walker). (root_over program y).notes) b.first) ∙ ap (λ (y : LabelLists). y.unused) (program_labels (notes_classes settings) program fits)

-- what is answered, if anything is
pub of_answer : {A B : Type 0} (r : Result A B) (P Q : A → Type 0) → ((x : A) → P x → Q x) → IfOk r P → IfOk r Q
of_answer (Ok x) P Q f h = f x h
of_answer (Err e) P Q f h = tt

pub of_both : {A B : Type 0} (r : Result A B) (P Q R : A → Type 0) → ((x : A) → P x → Q x → R x) → IfOk r P → IfOk r Q → IfOk r R
of_both (Ok x) P Q R f h k = f x h k
of_both (Err e) P Q R f h k = tt
