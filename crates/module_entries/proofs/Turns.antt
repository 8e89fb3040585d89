-- One module, or one export, more.
use Rattle.std.proofs.Common.{◌≡◌, ◌<◌, ◌≤◌, ℕ, ◌+◌, List, [], ◌∷◌, ◌++◌, true, false, cond, Some, None, length, map, drop, get_or, ap, ◌∙◌, bytes_eq}
use Rattle.std.specs.Prelude.{is_none}
use Rattle.std.specs.List.{list_any}
use Rattle.std.proofs.lemmas.List.{at_drop_more, at_drop_all}
use Rattle.semantic_syntax.specs.Tables.{Name}
use Rattle.semantic_tree.specs.ChildIter.{shown}
use Rattle.semantic_tree.specs.declared.view.AstKind.{AstKind}
use Rattle.module_set.specs.declared.error.LinkError.TheVariants.{NotModule, Twice, TwoExports, UnknownStar}
use Rattle.module_set.specs.declared.modules.Module.{Module}
use Rattle.link_model.specs.Exports.{exports, stars}
use Rattle.link_model.specs.Module.{analysed, all_analysed, module_names, module_named, source_text}
use Rattle.link_model.specs.Refusal.{is_linkable, first_not_module, first_twice, repeated, unknown, or_later, first_repeated, first_unknown}
use Rattle.std.specs.Option.{option_map}
use Rattle.module_entries.specs.Views.{shown_export}
use Rattle.module_entries.specs.declared.entries.ModuleEntries.{ModuleEntries}
use Rattle.module_entries.specs.declared.export.ExportEntry.{ExportEntry}
use Rattle.module_entries.specs.Seen.{exports_seen, stars_seen}

-- ---- source types

pub linkable_turn : (ms : List Module) (i : ℕ) (d : Module) → i < length ms → is_linkable (get_or ms i d).program.source_type ≡ true
    → first_not_module i (all_analysed (drop i ms)) ≡ first_not_module (i + 1) (all_analysed (drop (i + 1) ms))
linkable_turn ms i d h is =
    at_drop_more (λ (xs : List Module). first_not_module i (all_analysed xs)) ms i d h
    ∙ ap (λ b. cond b (first_not_module (i + 1) (all_analysed (drop (i + 1) ms))) (Some (NotModule i))) is

pub unlinkable_found : (ms : List Module) (i : ℕ) (d : Module) → i < length ms → is_linkable (get_or ms i d).program.source_type ≡ false
    → first_not_module i (all_analysed (drop i ms)) ≡ Some (NotModule i)
unlinkable_found ms i d h is =
    at_drop_more (λ (xs : List Module). first_not_module i (all_analysed xs)) ms i d h
    ∙ ap (λ b. cond b (first_not_module (i + 1) (all_analysed (drop (i + 1) ms))) (Some (NotModule i))) is

pub linkable_end : (ms : List Module) (i : ℕ) → length ms ≤ i → first_not_module i (all_analysed (drop i ms)) ≡ None
linkable_end ms i h = at_drop_all (λ (xs : List Module). first_not_module i (all_analysed xs)) ms i h

-- ---- names of modules

pub name_turn : (before : List Name) (ms : List Module) (i : ℕ) (d : Module) → i < length ms → list_any (bytes_eq (get_or ms i d).name) before ≡ false
    → first_twice before i (module_names (all_analysed (drop i ms))) ≡ first_twice (before ++ (get_or ms i d).name ∷ []) (i + 1) (module_names (all_analysed (drop (i + 1) ms)))
name_turn before ms i d h is =
    at_drop_more (λ (xs : List Module). first_twice before i (module_names (all_analysed xs))) ms i d h
    ∙ ap (λ b. cond b (Some (Twice i)) (first_twice (before ++ (get_or ms i d).name ∷ []) (i + 1) (module_names (all_analysed (drop (i + 1) ms))))) is

pub name_found : (before : List Name) (ms : List Module) (i : ℕ) (d : Module) → i < length ms → list_any (bytes_eq (get_or ms i d).name) before ≡ true
    → first_twice before i (module_names (all_analysed (drop i ms))) ≡ Some (Twice i)
name_found before ms i d h is =
    at_drop_more (λ (xs : List Module). first_twice before i (module_names (all_analysed xs))) ms i d h
    ∙ ap (λ b. cond b (Some (Twice i)) (first_twice (before ++ (get_or ms i d).name ∷ []) (i + 1) (module_names (all_analysed (drop (i + 1) ms))))) is

pub names_end : (before : List Name) (ms : List Module) (i : ℕ) → length ms ≤ i → first_twice before i (module_names (all_analysed (drop i ms))) ≡ None
names_end before ms i h = at_drop_all (λ (xs : List Module). first_twice before i (module_names (all_analysed xs))) ms i h

pub named_more : (ms : List Module) (i : ℕ) (d : Module) → i < length ms → module_names (all_analysed (drop i ms)) ≡ (get_or ms i d).name ∷ module_names (all_analysed (drop (i + 1) ms))
named_more ms i d h = at_drop_more (λ (xs : List Module). module_names (all_analysed xs)) ms i d h

pub named_all : (ms : List Module) (i : ℕ) → length ms ≤ i → module_names (all_analysed (drop i ms)) ≡ []
named_all ms i h = at_drop_all (λ (xs : List Module). module_names (all_analysed xs)) ms i h

-- ---- exports of a module

pub export_turn : (before : List Name) (es : List ExportEntry) (i : ℕ) (d : ExportEntry) → i < length es → list_any (bytes_eq (shown_export (get_or es i d)).name) before ≡ false
    → repeated before (map shown_export (drop i es)) ≡ repeated (before ++ (shown_export (get_or es i d)).name ∷ []) (map shown_export (drop (i + 1) es))
export_turn before es i d h is =
    at_drop_more (λ (xs : List ExportEntry). repeated before (map shown_export xs)) es i d h
    ∙ ap (λ b. cond b (Some (shown_export (get_or es i d)).node) (repeated (before ++ (shown_export (get_or es i d)).name ∷ []) (map shown_export (drop (i + 1) es)))) is

pub export_found : (before : List Name) (es : List ExportEntry) (i : ℕ) (d : ExportEntry) → i < length es → list_any (bytes_eq (shown_export (get_or es i d)).name) before ≡ true
    → repeated before (map shown_export (drop i es)) ≡ Some (shown_export (get_or es i d)).node
export_found before es i d h is =
    at_drop_more (λ (xs : List ExportEntry). repeated before (map shown_export xs)) es i d h
    ∙ ap (λ b. cond b (Some (shown_export (get_or es i d)).node) (repeated (before ++ (shown_export (get_or es i d)).name ∷ []) (map shown_export (drop (i + 1) es)))) is

pub exports_end : (before : List Name) (es : List ExportEntry) (i : ℕ) → length es ≤ i → repeated before (map shown_export (drop i es)) ≡ None
exports_end before es i h = at_drop_all (λ (xs : List ExportEntry). repeated before (map shown_export xs)) es i h

-- ---- star exports of a module

pub star_turn : (names : List Name) (ss : List AstKind) (i : ℕ) (d : AstKind) → i < length ss → is_none (module_named names (source_text (shown (get_or ss i d)))) ≡ false
    → unknown names (map shown (drop i ss)) ≡ unknown names (map shown (drop (i + 1) ss))
star_turn names ss i d h is =
    at_drop_more (λ (xs : List AstKind). unknown names (map shown xs)) ss i d h
    ∙ ap (λ b. cond b (Some (shown (get_or ss i d)).node_id) (unknown names (map shown (drop (i + 1) ss)))) is

pub star_found : (names : List Name) (ss : List AstKind) (i : ℕ) (d : AstKind) → i < length ss → is_none (module_named names (source_text (shown (get_or ss i d)))) ≡ true
    → unknown names (map shown (drop i ss)) ≡ Some (shown (get_or ss i d)).node_id
star_found names ss i d h is =
    at_drop_more (λ (xs : List AstKind). unknown names (map shown xs)) ss i d h
    ∙ ap (λ b. cond b (Some (shown (get_or ss i d)).node_id) (unknown names (map shown (drop (i + 1) ss)))) is

pub stars_end : (names : List Name) (ss : List AstKind) (i : ℕ) → length ss ≤ i → unknown names (map shown (drop i ss)) ≡ None
stars_end names ss i h = at_drop_all (λ (xs : List AstKind). unknown names (map shown xs)) ss i h

-- ---- of all modules

module _ (es : List ModuleEntries) (i : ℕ) (d : ModuleEntries) (h : i < length es) where
  pub exports_turn : repeated [] (exports_seen (get_or es i d)) ≡ None → first_repeated i (map exports_seen (drop i es)) ≡ first_repeated (i + 1) (map exports_seen (drop (i + 1) es))
  exports_turn is =
      at_drop_more (λ (xs : List ModuleEntries). first_repeated i (map exports_seen xs)) es i d h
      ∙ ap (λ o. or_later (option_map (λ node. TwoExports i node) o) (first_repeated (i + 1) (map exports_seen (drop (i + 1) es)))) is

  pub exports_found : (node : ℕ) → repeated [] (exports_seen (get_or es i d)) ≡ Some node → first_repeated i (map exports_seen (drop i es)) ≡ Some (TwoExports i node)
  exports_found node is =
      at_drop_more (λ (xs : List ModuleEntries). first_repeated i (map exports_seen xs)) es i d h
      ∙ ap (λ o. or_later (option_map (λ node. TwoExports i node) o) (first_repeated (i + 1) (map exports_seen (drop (i + 1) es)))) is

  pub stars_turn : (names : List Name) → unknown names (stars_seen (get_or es i d)) ≡ None → first_unknown names i (map stars_seen (drop i es)) ≡ first_unknown names (i + 1) (map stars_seen (drop (i + 1) es))
  stars_turn names is =
      at_drop_more (λ (xs : List ModuleEntries). first_unknown names i (map stars_seen xs)) es i d h
      ∙ ap (λ o. or_later (option_map (λ node. UnknownStar i node) o) (first_unknown names (i + 1) (map stars_seen (drop (i + 1) es)))) is

  pub stars_found : (names : List Name) (node : ℕ) → unknown names (stars_seen (get_or es i d)) ≡ Some node → first_unknown names i (map stars_seen (drop i es)) ≡ Some (UnknownStar i node)
  stars_found names node is =
      at_drop_more (λ (xs : List ModuleEntries). first_unknown names i (map stars_seen xs)) es i d h
      ∙ ap (λ o. or_later (option_map (λ node. UnknownStar i node) o) (first_unknown names (i + 1) (map stars_seen (drop (i + 1) es)))) is

pub all_exports_end : (es : List ModuleEntries) (i : ℕ) → length es ≤ i → first_repeated i (map exports_seen (drop i es)) ≡ None
all_exports_end es i h = at_drop_all (λ (xs : List ModuleEntries). first_repeated i (map exports_seen xs)) es i h

pub all_stars_end : (names : List Name) (es : List ModuleEntries) (i : ℕ) → length es ≤ i → first_unknown names i (map stars_seen (drop i es)) ≡ None
all_stars_end names es i h = at_drop_all (λ (xs : List ModuleEntries). first_unknown names i (map stars_seen xs)) es i h

-- ---- what is gathered of modules

pub gathered_exports : (ms : List Module) (i : ℕ) (d : Module) → i < length ms → map exports (all_analysed (drop i ms)) ≡ exports (analysed (get_or ms i d)) ∷ map exports (all_analysed (drop (i + 1) ms))
gathered_exports ms i d h = at_drop_more (λ (xs : List Module). map exports (all_analysed xs)) ms i d h

pub gathered_stars : (ms : List Module) (i : ℕ) (d : Module) → i < length ms → map stars (all_analysed (drop i ms)) ≡ stars (analysed (get_or ms i d)) ∷ map stars (all_analysed (drop (i + 1) ms))
gathered_stars ms i d h = at_drop_more (λ (xs : List Module). map stars (all_analysed xs)) ms i d h

pub all_exports_gathered : (ms : List Module) (i : ℕ) → length ms ≤ i → map exports (all_analysed (drop i ms)) ≡ []
all_exports_gathered ms i h = at_drop_all (λ (xs : List Module). map exports (all_analysed xs)) ms i h

pub all_stars_gathered : (ms : List Module) (i : ℕ) → length ms ≤ i → map stars (all_analysed (drop i ms)) ≡ []
all_stars_gathered ms i h = at_drop_all (λ (xs : List Module). map stars (all_analysed xs)) ms i h
