-- The clause of a parameter, as a place.
use Rattle.std.proofs.Common.{◌≡◌, List, [], ◌∷◌, Some, None, true, refl, sym, ap, subst, ◌∙◌}
use Rattle.semantic_kinds.specs.declared.kind.AstType.TheVariants as kind
use Rattle.semantic_tree.specs.Faults.{first_fault}
use Rattle.semantic_tree.specs.Tree.{Tree, IsNumbered}
use Rattle.semantic_tree.specs.declared.node.Node.{Node}
use Rattle.semantic_model.specs.Entries.{Among}
use Rattle.semantic_model.specs.Place.{Place}
use Rattle.semantic_model.specs.Step.{entering, steps}
use Rattle.binding_laws.proofs.ListLaws.{each_at}
use Rattle.language_ties.specs.EcmaScript.{is_ecmascript}
use Rattle.language_ties.proofs.agree.FamiliarPlaces.{familiar_at}
use Rattle.language_ties.proofs.agree.KnownNodes.{node_at}
use Rattle.language_ties.proofs.caught.ClausePlaces.{UnderClause, IsClausal, ClausalAt, clausal_program}
use Rattle.language_ties.proofs.tangled.NamePlaces.{IsEnteredAs, AllEnteredAs, AmidAt, amid_program}

module _ (p : Tree) (h : first_fault p ≡ None) (e : is_ecmascript p ≡ true) (numbered : IsNumbered p.root) where
  pub record IsInClause (q : Place) : Type 0 where
    pub clause : Place
    pub entered : Among (entering clause) (steps p)
    pub known : node_at p clause.node.node_id ≡ Some clause.node
    pub under : q.path ≡ clause.node ∷ clause.path
    pub caught : clause.node.kind ≡ kind.CatchClause

  pub in_clause : (q : Place) → Among (entering q) (steps p) → q.node.kind ≡ kind.CatchParameter → IsInClause q
  in_clause q a k = go q.path refl (each_at (AmidAt (steps p)) (steps p) (entering q) (amid_program p) a).above
    where
      clausal : IsClausal (node_at p) q
      clausal = each_at (ClausalAt (node_at p)) (steps p) (entering q) (clausal_program p h e numbered) a

      go : (l : List Node) → q.path ≡ l → AllEnteredAs (steps p) l → IsInClause q
      go [] w b = absurd (subst (UnderClause (node_at p)) w (clausal.parameter k))
      go (y ∷ l) w b =
          let clause : y.kind ≡ kind.CatchClause = subst (UnderClause (node_at p)) w (clausal.parameter k) in
          let one : IsEnteredAs (steps p) y l = b.0 in
          record { clause = one.place; entered = one.entered; known = (familiar_at p h e numbered one.place one.entered).node; under = w ∙ (λ i. sym one.node i ∷ sym one.above i); caught = ap (λ z. z.kind) one.node ∙ clause }
