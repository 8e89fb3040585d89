-- The tables are lent, and the nodes are shared beside them. It is proved by hand, since the borrow checker doesn't follow the lent part where a type with a lifetime shares another beside it.
use mathlib.Core.Path.{refl}
use Prim.Native.Nat.{ℕ, zero, suc, ◌+◌}
use mathlib.Core.List.{List, [], ◌∷◌}
use seplogic.Ra.Ura.{Ura}
use base.Fraction.{full_share}
use base.Logic.{SProp, ent, sep}
use base.Fml.{GName, Fml, ftrue, fsep, flft}
use contract.Monad.{fact_i}
use denote.Exit.{no}
use denote.Follow.{follows}
use denote.Memory.{part_at, lone}
use denote.Ref.{NamedLft, Bor, MutBor, MutRef, ShrRef, mut_vals, mut_Tells}
use denote.Signature.{Slot, plain, mut_ref_to, named_lft}
use denote.Steps.{nothing}
use denote.Struct.Declared.{Declared}
use denote.Struct.Field.{Field}
use denote.Struct.Loose.{lawfuls}
use denote.Struct.Members.{Member}
use denote.Struct.Parts.{PartsBack}
use denote.Struct.Pick.{one_at, rest_at, record_field_out, record_field_back}
use denote.Struct.Tuple.{Tuple}
use denote.Triple.Walked.{Stays, stay_dropped, walk_of, ends_at, says, Goes-spent_ref}
use mir.Syntax.{named}
use prog.Memory.{size, align, up}
use types.ByLocal.{alloc_all, pass_all, free_all, look_at, get, through, sets}
use types.Kit.{‵, raw, ◌⊛◌, later, some, await, pick, ◌$◌, ◌∵◌, !, qed, by, move, keep, use1, split, split3, fsplit, fsplit3, fjoin, fjoin3, join, group, suffices, frame, done}
use types.Logic.{Logic, sem}
use types.Part.{agg}
use types.Run.{enter, addr, stop, fld, and_then, no_more, returns}
use Rattle.std.proofs.raw_atomic.Walks.{proved}
use Rattle.semantic_syntax.specs.Tables.{Tables}
use Rattle.scoping.specs.contracts.scoping.Scoping as scoping
use Rattle.node_store.specs.contracts.nodes.AstNodes as nodes
use Rattle.node_store.proofs.nodes.AstNodes.TheLaws as nodes_laws
use Rattle.semantic_queries.specs.declared.semantic.Semantic.{Semantic}
use Rattle.semantic_queries.specs.contracts.semantic.Semantic as semantic
use Rattle.semantic_queries.proofs.semantic.Semantic.TheLaws as semantic_laws
use Rattle.semantic_queries.proofs.LentBeside.{pointers, lends_beside}
use Rattle.semantic_queries.specs.contracts.semantic.Semantic.scoping_mut_and_nodes as f
use Rattle.semantic_queries.proofs.semantic.Semantic.scoping_mut_and_nodes.Statement.{statement}
use Rattle.semantic_queries.proofs.semantic.Semantic.scoping_mut_and_nodes.Code as code

abbrev members : List Field → List Member
members [] = []
members (F ∷ Fs) = record { row = F.row; ty = lone F.row.mir } ∷ members Fs

-- how far member k lies from the start, where the members begin at e
abbrev place : List Member → ℕ → ℕ → ℕ
place [] e k = e
place (m ∷ ms) e zero = up (align m.ty) e
place (m ∷ ms) e (suc k) = place ms (up (align m.ty) e + size m.ty) k

-- an analysis in memory comes apart into the tables, the nodes and the rest, and is whole again with any tables
module _ (l : NamedLft) (h : Semantic) where
  abbrev T : Declared
  T = semantic.the_type l

  abbrev parts : List Member
  parts = members T.parts

  abbrev put : Tables → Semantic
  put t = record h { scoping = t }

  module _ {M : Type 1} {𝓤 : Ura M} (𝓛 : Logic 𝓤) (b o : ℕ) where
    abbrev field : ℕ → Fml
    field = one_at full_share parts zero (T.to h) b o

    abbrev after_nodes : Fml
    after_nodes = fsep (field 4) (fsep (field 5) (fsep (field 6) (fsep (field 7) ftrue)))

    abbrev Back : SProp 𝓤
    Back = PartsBack 𝓛 full_share T.name parts b o

    abbrev Rest : SProp 𝓤
    Rest = sep 𝓤 (sem 𝓛 (field 0)) (sep 𝓤 (sem 𝓛 (field 2)) (sep 𝓤 (sem 𝓛 after_nodes) Back))

    out : ent 𝓤 (sem 𝓛 (part_at (semantic.the_row l) full_share h b o)) (sep 𝓤 (sem 𝓛 (field 1)) (sep 𝓤 (sem 𝓛 (field 3)) Rest))
    out = qed 𝓛 (‵ (part_at (semantic.the_row l) full_share h b o) ∷ []) ∵
        use1 𝓛 (‵ (field 1) ⊛ ‵ (rest_at full_share parts zero (T.to h) b o 1) ⊛ raw Back)
        (record_field_out 𝓛 full_share T.name parts T.D T.to T.to_one (lawfuls 𝓛 T.parts (semantic_laws.the_loose l)) h b o 1) $
        split3 ! $ move ! (1 ∷ []) $ fsplit3 ! $ move ! (2 ∷ []) $ fsplit ! $ keep ! (4 ∷ 0 ∷ 2 ∷ 3 ∷ 1 ∷ 5 ∷ []) $ done !

    back : (t : Tables) → ent 𝓤 (sep 𝓤 (sem 𝓛 (one_at full_share parts zero (T.to (put t)) b o 1)) (sep 𝓤 (sem 𝓛 (field 3)) Rest)) (sem 𝓛 (part_at (semantic.the_row l) full_share (put t) b o))
    back t = qed 𝓛 (‵ (one_at full_share parts zero (T.to (put t)) b o 1) ∷ ‵ (field 3) ∷ ‵ (field 0) ∷ ‵ (field 2) ∷ ‵ after_nodes ∷ raw Back ∷ []) ∵
        move ! (1 ∷ 4 ∷ []) $ fjoin ! $ move ! (2 ∷ 3 ∷ 0 ∷ []) $ fjoin3 ! $ move ! (1 ∷ 0 ∷ 2 ∷ []) $ group ! 3 $
        by ! (record_field_back 𝓛 full_share T.name parts T.D T.to T.to_one (put t) b o 1)

abbrev slot : Slot 2
slot = plain (λ κs. semantic.the_row (named_lft 2 1 tt κs))

abbrev stayed : Stays f.ended.signature.params f.ended.kept
stayed = (stay_dropped (mut_ref_to (0 ∷ []) tt slot) no, tt)

pub scoping_mut_and_nodes_spec : {M : Type 1} → statement M
scoping_mut_and_nodes_spec 𝓤 𝓛 𝓜 𝓡 wired =
    let c = f.clauses 𝓛 𝓜.mem 𝓡.returns in let W = walk_of 𝓛 f.ended stayed c in
    proved 𝓛 f.ended stayed c 𝓜 𝓡 (Goes-spent_ref 𝓛 2 (0 ∷ []) tt slot, tt)
    f.Key.name code.function (code.unfolded 𝓤 𝓛.H 𝓜 𝓡 wired)
    (λ κs. (mut_vals, tt)) (λ κs. (mut_Tells (named 0) κs.0 (semantic.the_row (named_lft 2 1 tt κs)), tt)) (λ κs qs bounds a g are.
    let κ = κs.0 in let q = qs.0 in let l = named_lft 2 1 tt κs in
    let R = semantic.the_row l in let T = scoping.the_row in let N = nodes.the_row l in
    let b = a.0.ref_ptr.0 in let o = a.0.ref_ptr.1 in let γ = a.0.ghost_name in let h = a.0.now in
    let d₁ = place (parts l h) zero 1 in let d₃ = place (parts l h) zero 3 in
    let y : W.Ghost = ((κs, qs, bounds, a, (mut_vals a.0, tt)), tt) in
    qed 𝓛 (((‵ (flft κ q) ⊛ ‵ (flft κs.1.0 qs.1.0) ⊛ ‵ ftrue) ⊛ ‵ ((MutRef (named 0) κ R).own_val a.0 (mut_vals a.0)) ⊛ ‵ ftrue) ∷ ‵ ftrue ∷ []) ∵
    split ! $ split3 ! $ move ! (3 ∷ []) $ split ! $ fsplit3 ! $ keep ! (1 ∷ 2 ∷ 4 ∷ 5 ∷ []) $
    -- [what the name says; the borrow; its token; the other token]
    enter ! _ _ _ _ _ $ alloc_all ! (λ _. pass_all ! refl ((tt, tt), tt) $
    sets ! (addr ! (through ! refl (fld ! {τ = lone T.mir} {d = d₁} refl (stop !)))) refl (tt, tt) $
    sets ! (addr ! (through ! refl (fld ! {τ = lone N.mir} {d = d₃} refl (stop !)))) refl (tt, tt) $
    sets ! (agg ! (and_then ! (get ! refl) (and_then ! (get ! refl) (no_more !)))) refl (tt, (tt, (tt, tt))) $ group ! 3 $
    let i = o + d₁ in let j = o + d₃ in
    let lent : GName → MutBor Tables = λ γ'. record { ref_ptr = (b, i); ghost_name = γ'; now = h.scoping } in
    let seen : Bor N.Denot = record { ref_ptr = (b, j); now = h.nodes } in
    use1 𝓛 (later (some (λ (γ' : GName). ‵ ((Tuple (MutRef (named 0) κ T ∷ ShrRef (named 0) κ N ∷ [])).own_val (lent γ', seen) (pointers b i j ∷ [])) ⊛ ‵ (flft κ q) ⊛ ‵ (follows R T γ γ' (put l h)))))
    (lends_beside 𝓛 R T N κ q b o i j γ h h.scoping h.nodes (put l h) (Rest l h 𝓛 b o) (out l h 𝓛 b o) (back l h 𝓛 b o) ((nodes_laws.the_row_laws l).shares 𝓛) (nodes_laws.the_within l κ bounds.0)) $
    await ! tt $ pick ! (λ γ'. split3 ! $ returns ! (look_at ! 0 refl) $ free_all ! refl $
    -- [the pair; the token; what follows; the other token]
    suffices ! _ (ends_at 𝓛 f.ended stayed c y (pointers b i j) (lent γ', seen) (tt, tt) (tt, tt)) $
    nothing ! $ nothing ! $ fjoin ! $ join ! $ nothing ! $ move ! (4 ∷ 0 ∷ []) $ join ! $ move ! (2 ∷ 0 ∷ []) $ join ! $ move ! (0 ∷ 1 ∷ []) $ join ! $
    frame ! $ frame ! $ says ! refl $ by ! (fact_i 𝓤 _ _ refl))))
