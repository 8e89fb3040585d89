-- The root of a program is left last, and then all is told.
use Rattle.std.proofs.Common.{◌≡◌, ℕ, List, [], None, Bool, true, refl, sym, ap, subst, ◌∙◌}
use Rattle.std.specs.Str.{encode_utf8_all}
use Rattle.semantic_kinds.specs.Kinds.{same_kind}
use Rattle.semantic_kinds.specs.declared.kind.AstType.{AstType}
use Rattle.semantic_kinds.specs.declared.kind.AstType.TheVariants as kind
use Rattle.semantic_tree.specs.Faults.{first_fault}
use Rattle.semantic_tree.specs.Tree.{Tree, IsNumbered}
use Rattle.semantic_model.specs.Place.{Place}
use Rattle.semantic_model.specs.Event.{written_declarations}
use Rattle.semantic_model.specs.Step.{root_place, steps}
use Rattle.walk_model.specs.Settles.{settle_rest}
use Rattle.walk_model.specs.WalkState.{WalkState}
use Rattle.walk_model.specs.Walks.{walked}
use Rattle.walk_model.proofs.turns.Seats.{root_is_program}
use Rattle.class_table.specs.Lists.{ClassLists}
use Rattle.class_table.specs.Noted.{class_left}
use Rattle.class_table.specs.declared.builder.ClassTableBuilder.{ClassTableBuilder}
use Rattle.walk_notes.specs.NoteLists.{NoteLists, nothing_noted, noting, noted_inside}
use Rattle.walk_notes.proofs.WholeProgram.{program_classes}
use Rattle.check_model.specs.DiagnosticsOf.{diagnostics_of}
use Rattle.check_model.specs.Rows.{rows_of}
use Rattle.check_model.specs.SightOf.{elements_at, elements_if}
use Rattle.check_walk.specs.SoFar.{Telling, so_far}
use Rattle.check_walk.specs.TellingAlong.{telling_within}
use Rattle.check_walk.specs.WalkSight.{sight_in}
use Rattle.check_walk.proofs.Along.{leaving_parts}
use Rattle.check_walk.proofs.FromRoot.{whole_told}
use Rattle.check_walk.proofs.Handing.{rows_last}
use Rattle.check_walk.proofs.WalkConditions.{settled_apart}
use Rattle.semantic_walk.specs.AtPlace.{left_at}
use Rattle.semantic_walk.specs.Begun.{begun, notes_classes, IsBegun}
use Rattle.semantic_walk.specs.Leaving.{IsFit, IsLeaving, ShowsRows, context_of}
use Rattle.semantic_walk.specs.Walker.{Walker, telling_of}
use Rattle.semantic_walk.specs.declared.settings.Settings.{Settings}
use Rattle.semantic_walk.proofs.Beginning.{root_within, walk_ends, checks_note}
use Rattle.semantic_walk.proofs.Leaves.{handed_at}

-- no class is left with a program
left_program : (k : AstType) (b : ClassTableBuilder) → k ≡ kind.Program → class_left k b ≡ b
left_program k b e = rw e refl

-- when the root is left, the elements of all classes are noted
noted_elements : (program : Tree) → first_fault program ≡ None → (x : NoteLists) (on : Bool) → on ≡ true → x ≡ noted_inside program.root program.root.children (noting [] program.root (nothing_noted on)) → x.classes.classes.elements ≡ elements_at program.root
noted_elements program fits x on noted is =
    let e : program.root.kind ≡ kind.Program = root_is_program program fits in
    let all : Bool → NoteLists = λ b. noted_inside program.root program.root.children (noting [] program.root (nothing_noted b)) in
    ap (λ (y : NoteLists). y.classes.classes.elements) (is ∙ ap all noted)
    ∙ ap (λ (b : ClassTableBuilder). b.classes.elements) (sym (left_program program.root.kind (all true).classes e))
    ∙ ap (λ (l : ClassLists). l.elements) (program_classes true program fits)
    ∙ ap (λ b. elements_if b program.root) (sym (ap (λ (k : AstType). same_kind k kind.Program) e))

module _ (program : Tree) (fits : first_fault program ≡ None) (numbered : IsNumbered program.root) (settings : Settings) (w v u : Walker) (b : IsBegun settings w program)
    (within : v ≡ root_within program w) (last : u ≡ record v { made = settle_rest v.made }) where
  abbrev root : Place
  root = root_place program

  -- the walk goes from where it begins
  from_start : v ≡ root_within program (begun program w.states w.namesakes settings.build_nodes (notes_classes settings) settings.checks)
  from_start = within ∙ ap (root_within program) b.first

  checks_are : v.checks ≡ settings.checks
  checks_are = ap (λ (y : Walker). y.checks) from_start

  settled : settle_rest v.made ≡ walked program
  settled = ap (λ (y : Walker). y.made) (sym last) ∙ walk_ends program fits settings w v u b within last

  -- once what waits is settled, the root may be checked
  pub fit_last : IsLeaving v root → u.checks ≡ true → IsFit u program.root
  fit_last l on =
      let f : IsFit v program.root = l.fit (ap (λ (y : Walker). y.checks) (sym last) ∙ on) in
      subst (λ (y : Walker). IsFit y program.root) (sym last)
      (record { in_source = f.in_source; order = f.order; elements = f.elements; apart = settled_apart v.made f.apart; limit = f.limit; stands = f.stands })

  -- and what the check is shown are the rows of the root
  pub shows_last : IsLeaving v root → ShowsRows u root
  shows_last l = subst (λ (y : Walker). ShowsRows y root) (sym last) (λ on.
      let y : Walker = record v { made = settle_rest v.made } in
      let here : IsLeaving y root =
      record {
        within = record { source_type = l.within.source_type; path = l.within.path; current = l.within.current };
        is_ambient = l.is_ambient;
        chain = tt;
        grounded = l.grounded;
        classes = l.classes;
        fit = λ told. let f : IsFit v program.root = l.fit told in record { in_source = f.in_source; order = f.order; elements = f.elements; apart = settled_apart v.made f.apart; limit = f.limit; stands = f.stands };
      } in
      let source : v.source ≡ encode_utf8_all program.source = ap (λ (z : Walker). z.source) from_start in
      let elements : v.notes.classes.classes.elements ≡ elements_at program.root =
      noted_elements program fits v.notes (notes_classes settings) (checks_note settings (sym checks_are ∙ on)) (ap (λ (z : Walker). z.notes) from_start) in
      rows_last (context_of y program.root) program fits numbered (handed_at y root here on (walked program) settled (encode_utf8_all program.source) source) elements
      ∙ (λ i. rows_of (sight_in (sym source i) (sym settled i) root)))

  -- so behind the root all is told, but for the conflicts that are left
  pub tells_all : (x : Walker) → x ≡ left_at u root → so_far (telling_of x) ≡ diagnostics_of settings.checks program
  tells_all x class_left =
      let checks : Bool = settings.checks in
      let source : List ℕ = encode_utf8_all program.source in
      let first : Walker = begun program w.states w.namesakes settings.build_nodes (notes_classes settings) checks in
      let whole : Telling = record (telling_within checks program) { made = walked program } in
      ap (λ (y : Walker). so_far (telling_of y)) (class_left ∙ ap (λ (y : Walker). left_at y root) last)
      ∙ ap (λ (m : WalkState). so_far (telling_of (left_at (record v { made = m }) root))) settled
      ∙ ap (λ (y : Walker). so_far (telling_of (left_at (record y { made = walked program }) root))) from_start
      ∙ ap so_far (leaving_parts checks source (written_declarations (steps program)) whole root)
      ∙ whole_told checks program fits numbered
