-- The names that are written are those of the declarations past which block functions don't move.
use Rattle.std.proofs.Common.{◌≡◌, ℕ, List, [], ◌∷◌, true, ◌&&◌, None, refl, sym, ap, ◌∙◌}
use Rattle.std.specs.List.{AllByRecursion}
use Rattle.semantic_syntax.specs.Tables.{Name}
use Rattle.semantic_tree.specs.Faults.{first_fault}
use Rattle.semantic_tree.specs.Tree.{Tree, IsNumbered}
use Rattle.semantic_model.specs.Place.{Place, OpenScope}
use Rattle.semantic_model.specs.Declaration.{Declaration}
use Rattle.semantic_model.specs.Binder.{is_block_function}
use Rattle.semantic_model.specs.Step.{Step, entering, opening, header_ending, closing, leaving, steps}
use Rattle.semantic_model.specs.Event.{written_declarations}
use Rattle.walk_model.proofs.written.WrittenStands.{written_stands}
use Rattle.walk_model.specs.WrittenNames.{WrittenName, is_written, names_written, is_sloppy, any_standing}
use Rattle.walk_model.specs.NamedScopes.{IsNamedIn, AreNamedIn, AllNamed}
use Rattle.walk_model.proofs.written.ScopesAround.{IsPlaceHeld, AllHeld}
use Rattle.walk_model.proofs.once.NodeIds.{openers_distinct}
use Rattle.walk_model.proofs.written.OwnOpeners.{IsListed, openers_of, all_listed, all_standing, bars_standing}
use Rattle.walk_model.proofs.written.SloppyCode.{IsStrictIn, all_strict, sloppy_around}

-- the names that are written are those of the declarations, by the nodes that open the scopes where they stand
abbrev pub AreWritten : Tree → Type 0
AreWritten program = (opener : ℕ) (name : Name) → is_written (names_written program) opener name ≡ any_standing opener name (written_declarations (steps program))

-- they are collected in sloppy JavaScript alone
abbrev pub AreCollected : Tree → List WrittenName → Type 0
AreCollected program ws = (opener : ℕ) (name : Name) → is_written ws opener name ≡ (is_sloppy program.source_type && is_written (names_written program) opener name)

module _ (program : Tree) (ws : List WrittenName) (whole : first_fault program ≡ None) (ids : IsNumbered program.root) (written : AreWritten program) (collected : AreCollected program ws) where
  abbrev ds : List Declaration
  ds = written_declarations (steps program)

  abbrev Listed : OpenScope → Type 0
  Listed = IsListed (openers_of program)

  abbrev Strict : OpenScope → Type 0
  Strict = IsStrictIn program.source_type

  named_in : (c : OpenScope) → is_sloppy program.source_type ≡ true → Listed c → IsNamedIn ds ws c
  named_in c e l d =
      bars_standing (openers_of program) d c ds (openers_distinct program ids) l (all_standing program whole)
      ∙ sym (collected c.opener d.naming.name ∙ ap (λ b. b && is_written (names_written program) c.opener d.naming.name) e ∙ written c.opener d.naming.name)

  all_named_in : (chain : List OpenScope) → is_sloppy program.source_type ≡ true → AllByRecursion Listed chain → AreNamedIn ds ws chain
  all_named_in [] e h = tt
  all_named_in (c ∷ cs) e h = (named_in c e h.0, all_named_in cs e h.1)

  named_at : (p : Place) → IsPlaceHeld Listed program.source_type p → IsPlaceHeld Strict program.source_type p → is_block_function p ≡ true → AreNamedIn ds ws p.chain
  named_at p h k b = go p.chain refl h.1 k.1
    where
      go : (chain : List OpenScope) → p.chain ≡ chain → AllByRecursion Listed chain → AllByRecursion Strict chain → AreNamedIn ds ws chain
      go [] e l s = tt
      go (c ∷ cs) e l s = all_named_in (c ∷ cs) (sloppy_around p program.source_type c cs e k.0 s.0 b) l

  all_named : (ss : List Step) → AllHeld Listed program.source_type ss → AllHeld Strict program.source_type ss → AllNamed ds ws ss
  all_named [] h k = tt
  all_named (entering p ∷ ss) h k = (named_at p h.0 k.0, all_named ss h.1 k.1)
  all_named (opening p s ∷ ss) h k = (tt, all_named ss h.1 k.1)
  all_named (header_ending p s ∷ ss) h k = (tt, all_named ss h.1 k.1)
  all_named (closing p s ∷ ss) h k = (tt, all_named ss h.1 k.1)
  all_named (leaving p ∷ ss) h k = (tt, all_named ss h.1 k.1)

pub names_stand_by : (program : Tree) → first_fault program ≡ None → IsNumbered program.root → AreWritten program → (ws : List WrittenName) → AreCollected program ws → AllNamed (written_declarations (steps program)) ws (steps program)
names_stand_by program whole ids written ws collected = all_named program ws whole ids written collected (steps program) (all_listed program) (all_strict program whole)

-- the names that were collected bar what the definitions bar
pub names_stand : (program : Tree) → first_fault program ≡ None → IsNumbered program.root → (ws : List WrittenName) → AreCollected program ws → AllNamed (written_declarations (steps program)) ws (steps program)
names_stand program whole ids ws collected = names_stand_by program whole ids (written_stands program whole) ws collected
