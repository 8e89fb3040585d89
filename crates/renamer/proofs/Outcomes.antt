-- What comes of a renaming, told by its causes.
use Rattle.std.proofs.Common.{◌≡◌, ℕ, ◌<◌, List, Bool, true, false, None, Some, Option, Result, Ok, Err, IfOk, IfErr, length, get_or, ap, sym, ◌∙◌, subst}
use Rattle.std.proofs.lemmas.Option.{slice_get-get_or}
use Rattle.semantic_syntax.specs.NodeEntries.{NodeEntries}
use Rattle.semantic_syntax.specs.Reading.{no_symbol}
use Rattle.semantic_diagnostics.specs.declared.diagnostic.Diagnostic.{Diagnostic}
use Rattle.semantic_syntax.specs.Tables.{Name, Tables}
use Rattle.semantic_model.specs.TablesOf.{tables_of}
use Rattle.semantic_tree.specs.Faults.{first_fault}
use Rattle.promise.specs.Analysis.{IsAnalysis, BelongsToNodes}
use Rattle.semantic_queries.proofs.Lookups.{shows}
use Rattle.semantic_model.specs.Step.{steps}
use Rattle.semantic_tree.specs.Children.{node_count}
use Rattle.semantic_tree.specs.Tree.{Tree, IsNumbered}
use Rattle.semantic_model.specs.Analysis.{Analysis, analysis_of}
use Rattle.semantic_model.specs.Exported.{exported_names}
use Rattle.rename_model.specs.Refusal.{bad_name, fixed, differs, is_bad_name, first_fixed, compared, unless_fixed, unless_bad, rename}
use Rattle.rename_model.specs.Renamed.{bears_name, program_renamed}
use Rattle.rename_model.specs.Same.{first_difference}
use Rattle.rename_model.specs.WithName.{AreIdentifiers}
use Rattle.rename_model.proofs.AloneNames.{are_identifiers}
use Rattle.renamer.specs.Told.{told_by}
use Rattle.renamer.specs.declared.analysed.Analysed.{Analysed}
use Rattle.renamer.proofs.NamedChildren.{as_many}
use Rattle.rename_model.proofs.Refusals.{ends_renamed, ends_bad, ends_fixed, ends_different}
use Rattle.renamer.specs.declared.error.RenameError.{RenameError}
use Rattle.renamer.specs.declared.error.RenameError.TheVariants.{BadName, Fixed, Differs, Memory}
use Rattle.renamer.specs.Outcome.{Comes, Compares, IsRenaming, IsRefusedFor, NeverDiffers}

pub renaming_of : (p : Tree) (s : ℕ) (new : Name) (r : Result Tree RenameError) → Comes p s new r → IfOk r (IsRenaming p s new)
renaming_of p s new (Ok q) h = let w = ends_renamed p s new q h in record { good = w.0; unfixed = w.1; same = w.2; is_renamed = w.3 }
renaming_of p s new (Err e) h = tt

pub refused_for : (p : Tree) (s : ℕ) (new : Name) → IsNumbered p.root → (r : Result Tree RenameError) → Comes p s new r → IfErr r (IsRefusedFor p s new)
refused_for p s new n (Ok q) h = tt
refused_for p s new n (Err BadName) h = ends_bad p s new h
refused_for p s new n (Err (Fixed node)) h = ends_fixed p s new node n h
refused_for p s new n (Err (Differs node)) h = ends_different p s new node h
refused_for p s new n (Err (Memory wanting)) h = tt

pub never : (p : Tree) (s : ℕ) (new : Name) → ((node : ℕ) → rename p s new ≡ Err (differs node) → ⊥) → (r : Result Tree RenameError) → Comes p s new r → NeverDiffers r
never p s new f (Ok q) h = tt
never p s new f (Err BadName) h = tt
never p s new f (Err (Fixed node)) h = tt
never p s new f (Err (Differs node)) h = f node h
never p s new f (Err (Memory wanting)) h = tt

-- ---- how it comes about

module _ (p : Tree) (s : ℕ) (new : Name) where
  abbrev fixing : Option ℕ
  fixing = first_fixed (exported_names (steps p)) (bears_name (analysis_of p) s) (steps p)

  by_name : is_bad_name new ≡ false → rename p s new ≡ unless_fixed p (analysis_of p) (bears_name (analysis_of p) s) new fixing
  by_name bad = ap (λ b. unless_bad b p (steps p) (analysis_of p) s new) bad

  pub comes_bad : is_bad_name new ≡ true → rename p s new ≡ Err bad_name
  comes_bad bad = ap (λ b. unless_bad b p (steps p) (analysis_of p) s new) bad

  pub comes_fixed : is_bad_name new ≡ false → (node : ℕ) → fixing ≡ Some node → rename p s new ≡ Err (fixed node)
  comes_fixed bad node e = by_name bad ∙ ap (unless_fixed p (analysis_of p) (bears_name (analysis_of p) s) new) e

  unfixed : is_bad_name new ≡ false → fixing ≡ None → rename p s new ≡ compared p (analysis_of p) (program_renamed p (analysis_of p) s new) (first_difference (analysis_of p) (analysis_of (program_renamed p (analysis_of p) s new)) 0 (node_count p.root))
  unfixed bad e = by_name bad ∙ ap (unless_fixed p (analysis_of p) (bears_name (analysis_of p) s) new) e

  -- of the program that is made, whose nodes are as many
  pub comes_compared : is_bad_name new ≡ false → fixing ≡ None → (q : Tree) → q ≡ program_renamed p (analysis_of p) s new → node_count q.root ≡ node_count p.root → (r : Result Tree RenameError) → Compares (analysis_of p) q r → Comes p s new r
  comes_compared bad e q is count r h = go r h
    where
      found : (o : Option ℕ) → first_difference (analysis_of p) (analysis_of q) 0 (node_count q.root) ≡ o → rename p s new ≡ compared p (analysis_of p) q o
      found o f =
          unfixed bad e
          ∙ (λ i. compared p (analysis_of p) (sym is i) (first_difference (analysis_of p) (analysis_of (sym is i)) 0 (sym count i)))
          ∙ ap (compared p (analysis_of p) q) f

      go : (r : Result Tree RenameError) → Compares (analysis_of p) q r → Comes p s new r
      go (Ok t) k = found None k.0 ∙ ap Ok (sym k.1)
      go (Err BadName) k = absurd k
      go (Err (Fixed node)) k = absurd k
      go (Err (Differs node)) k = found (Some node) k
      go (Err (Memory wanting)) k = tt

-- ---- by an analysis that tables tell

pub built : {checks : Bool} (q : Tree) (a : Analysed) (t : Tables) (nodes : NodeEntries) (ds : List Diagnostic) → a.scoping.now ≡ t → a.tables.now ≡ nodes → IsAnalysis checks q t ds → BelongsToNodes q nodes → told_by a ≡ analysis_of q
built q a t nodes ds e f is belongs =
    shows q a.scoping.now a.tables.now (e ∙ is.tables) (ap (λ (n : NodeEntries). n.symbols) f ∙ belongs.symbols) (ap (λ (n : NodeEntries). n.references) f ∙ belongs.references) (ap (λ (n : NodeEntries). n.scopes) f ∙ belongs.scopes)

module _ (p : Tree) (s : ℕ) (new : Name) (a : Analysis) (e : a ≡ analysis_of p) (bad : is_bad_name new ≡ false) where
  abbrev fixing_by : Option ℕ
  fixing_by = first_fixed (exported_names (steps p)) (bears_name a s) (steps p)

  same_fixing : fixing_by ≡ first_fixed (exported_names (steps p)) (bears_name (analysis_of p) s) (steps p)
  same_fixing = ap (λ (x : Analysis). first_fixed (exported_names (steps p)) (bears_name x s) (steps p)) e

  pub fixed_by : (node : ℕ) → Some node ≡ fixing_by → rename p s new ≡ Err (fixed node)
  fixed_by node f = comes_fixed p s new bad node (sym (f ∙ same_fixing))

  pub identifiers_by : first_fault p ≡ None → IsNumbered p.root → s < length (tables_of p).symbols → None ≡ fixing_by → AreIdentifiers (bears_name a s) p.root.children
  identifiers_by faultless numbered within f =
      subst (λ (x : Analysis). AreIdentifiers (bears_name x s) p.root.children) (sym e)
      (are_identifiers p faultless numbered s (get_or (tables_of p).symbols s no_symbol) (slice_get-get_or (tables_of p).symbols s no_symbol within) (sym (f ∙ same_fixing)))

  pub compared_by : None ≡ fixing_by → (q : Tree) → q ≡ program_renamed p a s new → (r : Result Tree RenameError) → Compares a q r → Comes p s new r
  compared_by f q is r h =
      comes_compared p s new bad (sym (f ∙ same_fixing)) q (is ∙ ap (λ (x : Analysis). program_renamed p x s new) e) (ap (λ (t : Tree). node_count t.root) is ∙ as_many (bears_name a s) new p) r
      (subst (λ (x : Analysis). Compares x q r) e h)
