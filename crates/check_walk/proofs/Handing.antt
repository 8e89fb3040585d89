-- What a walk hands to a check at the place that it leaves is a context of the place.
use Rattle.std.proofs.Common.{◌≡◌, ℕ, List, None, sym, ◌∙◌}
use Rattle.std.specs.Str.{encode_utf8_all}
use Rattle.semantic_kinds.specs.declared.kind.AstType.TheVariants as kind
use Rattle.semantic_tree.specs.Faults.{first_fault}
use Rattle.semantic_tree.specs.Tree.{Tree, IsNumbered}
use Rattle.semantic_model.specs.Place.{Place}
use Rattle.semantic_model.specs.Step.{root_place}
use Rattle.semantic_model.proofs.form.Clauses.{kind_is}
use Rattle.walk_model.specs.WalkState.{WalkState}
use Rattle.walk_model.specs.Shown.{ShowsChain, HasVar}
use Rattle.walk_model.specs.Walks.{walked}
use Rattle.check_model.specs.Context.{Context, sight_shown}
use Rattle.check_model.specs.Rows.{rows_of}
use Rattle.check_model.specs.SightOf.{elements_at}
use Rattle.check_walk.specs.Context.{IsContextAt}
use Rattle.check_walk.specs.Leaving.{IsHandedAt}
use Rattle.check_walk.specs.WalkSight.{sight_in}
use Rattle.check_walk.proofs.Contexts.{shown_rows}
use Rattle.check_walk.proofs.FreeEntries.{free_entries}
use Rattle.check_walk.proofs.WalkConditions.{stands_inside, root_stands_inside}

-- below the root
pub handed_inside : (c : Context) (source : List ℕ) (w : WalkState) (p : Place) → IsHandedAt c source w p → HasVar p.chain → ShowsChain w.tables p.chain → (p.node.kind ≡ kind.Program → ⊥) → IsContextAt c source w p
handed_inside c source w p h v s other =
    let stands = stands_inside w.tables p v s in
    record {
      source_is = h.source_is;
      source_type = h.source_type;
      tables = h.tables;
      nodes = h.nodes;
      path = h.path;
      current = h.current ∙ sym stands.1;
      is_ambient = h.is_ambient;
      chain_shown = stands.0;
      classes = h.classes;
      references = λ e. absurd (other (kind_is p.node.kind kind.Program e));
      elements = λ e. absurd (other (kind_is p.node.kind kind.Program e));
    }

-- the root, in the end
pub handed_last : (c : Context) (p : Tree) → first_fault p ≡ None → IsNumbered p.root → IsHandedAt c (encode_utf8_all p.source) (walked p) (root_place p) → c.classes.elements ≡ elements_at p.root
    → IsContextAt c (encode_utf8_all p.source) (walked p) (root_place p)
handed_last c p h e k s = record {
  source_is = k.source_is;
  source_type = k.source_type;
  tables = k.tables;
  nodes = k.nodes;
  path = k.path;
  current = k.current;
  is_ambient = k.is_ambient;
  chain_shown = root_stands_inside p h;
  classes = k.classes;
  references = λ q. free_entries p h e;
  elements = λ q. s;
}

pub rows_inside : (c : Context) (source : List ℕ) (w : WalkState) (p : Place) → IsHandedAt c source w p → HasVar p.chain → ShowsChain w.tables p.chain → (p.node.kind ≡ kind.Program → ⊥) → rows_of (sight_shown p.node c) ≡ rows_of (sight_in source w p)
rows_inside c source w p h v s other = shown_rows c source w p (handed_inside c source w p h v s other)

pub rows_last : (c : Context) (p : Tree) → first_fault p ≡ None → IsNumbered p.root → IsHandedAt c (encode_utf8_all p.source) (walked p) (root_place p) → c.classes.elements ≡ elements_at p.root
    → rows_of (sight_shown p.root c) ≡ rows_of (sight_in (encode_utf8_all p.source) (walked p) (root_place p))
rows_last c p h e k s = shown_rows c (encode_utf8_all p.source) (walked p) (root_place p) (handed_last c p h e k s)
