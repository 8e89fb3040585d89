-- A part of what a `&mut` points at is lent for all the time that the reference has left, and another part is shared beside it.
use mathlib.Core.Path.{refl}
use Prim.Native.Nat.{ℕ}
use mathlib.Core.List.{List, [], ◌∷◌}
use seplogic.Ra.Ura.{Ura}
use base.Fraction.{full_share}
use base.Logic.{SProp, ent, sep, ex}
use base.Fml.{Lft, GName, Share, Fml, Incl-refl, ftrue, fobs, fbor, flft, fseps}
use contract.BorrowLft.{◌⊑◌}
use denote.Follow.{follows}
use denote.Memory.{part_at, mem, shared_of}
use denote.Opens.{hide}
use denote.RattleType.{RattleType, Valss}
use denote.Ref.{Bor, MutBor, MutRef, ShrRef}
use denote.Shares.{Shares}
use denote.Steps.{nothing}
use denote.Struct.Declared.{shape}
use denote.Struct.Struct.{within}
use denote.Struct.Tuple.{Tuple, tuple_type}
use mir.Syntax.{named}
use mir.Val.{Val, vptr, vstruct, vcons, vnil}
use types.Follow.{takes_beside}
use types.Kit.{‵, raw, ◌⊛◌, later, some, await, pick, ◌$◌, ◌∵◌, !, qed, by, move, keep, use1, use2, split, split3, fjoin, fjoin3, fpack, feq_i, group, updating, now as at_once, show, done}
use types.Logic.{Logic, sem}
use types.Mut.{open_ref}
use types.SemTy.{Body}

-- a pair of pointers into one block, as the machine has it
abbrev pub pointers : ℕ → ℕ → ℕ → Val
pointers b i j = vstruct (vcons (vptr b i) (vcons (vptr b j) vnil))

-- The reference points at x, a value of R at (b, o). Of it y, a value of T at (b, i), is lent, and z, a value of N at (b, j), is shared. `put w` is x with w for y.
module _ {M : Type 1} {𝓤 : Ura M} (𝓛 : Logic 𝓤) (R T N : RattleType) (κ : Lft) (q : Share) (b o i j : ℕ) (γ : GName) (x : R.Denot) (y : T.Denot) (z : N.Denot) (put : T.Denot → R.Denot) (Rest : SProp 𝓤) where
  open 𝓛 use {H, A}

  abbrev Refs : List RattleType
  Refs = MutRef (named 0) κ T ∷ ShrRef (named 0) κ N ∷ []

  abbrev lent : GName → MutBor T.Denot
  lent γ' = record { ref_ptr = (b, i); ghost_name = γ'; now = y }

  abbrev shared : Bor N.Denot
  shared = record { ref_ptr = (b, j); now = z }

  abbrev Lent : GName → SProp 𝓤
  Lent γ' = sep 𝓤 (sem 𝓛 ((Tuple Refs).own_val (lent γ', shared) (pointers b i j ∷ []))) (sep 𝓤 (A.lft κ q) (sem 𝓛 (follows R T γ γ' put)))

  pub lends_beside : ent 𝓤 (sem 𝓛 (part_at R full_share x b o)) (sep 𝓤 (sem 𝓛 (part_at T full_share y b i)) (sep 𝓤 (sem 𝓛 (part_at N full_share z b j)) Rest))
      → ((w : T.Denot) → ent 𝓤 (sep 𝓤 (sem 𝓛 (part_at T full_share w b i)) (sep 𝓤 (sem 𝓛 (part_at N full_share z b j)) Rest)) (sem 𝓛 (part_at R full_share (put w) b o)))
      → Shares 𝓛 N N.lives → κ ⊑ N.lives
      → ent 𝓤 (sep 𝓤 (A.obs γ (R.coded.code x)) (sep 𝓤 (A.bor κ (Body (mem R) b o γ)) (A.lft κ q))) (H.⇛ (ex 𝓤 Lent))
  unfolding fseps
  lends_beside out back shares in_time =
      let Beside : Fml = part_at N full_share z b j in
      let again : (w : T.Denot) → ent 𝓤 (sep 𝓤 (sem 𝓛 (part_at T full_share w b i)) (sep 𝓤 (sem 𝓛 (fseps (Beside ∷ []))) Rest)) (sem 𝓛 (part_at R full_share (put w) b o)) = λ w.
      qed 𝓛 (‵ (part_at T full_share w b i) ∷ (‵ Beside ⊛ ‵ ftrue) ∷ raw Rest ∷ []) ∵ move ! (1 ∷ []) $ split ! $ keep ! (2 ∷ 0 ∷ 3 ∷ []) $ by ! (back w) in
      qed 𝓛 (‵ (fobs γ (R.coded.code x)) ∷ ‵ (fbor κ (Body (mem R) b o γ)) ∷ ‵ (flft κ q) ∷ []) ∵ updating ! $ open_ref ! tt (mem R) {b = b} {o = o} $
      use1 𝓛 (‵ (part_at T full_share y b i) ⊛ ‵ Beside ⊛ raw Rest) out $ split3 ! $ move ! (1 ∷ []) $ nothing ! $ move ! (1 ∷ 0 ∷ []) $ fjoin ! $
      -- [the shared part; the lent part; the rest; the open borrow; what the names say, in two entries]
      move ! (3 ∷ 4 ∷ 5 ∷ 1 ∷ 0 ∷ 2 ∷ []) $ group ! 6 $
      use1 𝓛 (later (some (λ (γ' : GName). ‵ (fobs γ' (T.coded.code y)) ⊛ ‵ (fbor κ (Body (mem T) b i γ')) ⊛ ‵ (flft κ q) ⊛ ‵ (follows R T γ γ' put) ⊛ ‵ (fbor κ Beside) ⊛ ‵ ftrue)))
      (takes_beside 𝓛 (mem R) (mem T) put κ q b o b i γ (Beside ∷ []) Rest again (R.coded.code x) (R.coded.code x) y) $ await ! tt $ pick ! (λ γ'. split3 ! $ move ! (2 ∷ []) $ split3 ! $ move ! (2 ∷ []) $ split ! $
      -- [the shared part's borrow; nothing; the token; what follows; the lent part, in two entries]
      move ! (0 ∷ 2 ∷ []) $ use2 𝓛 (later (‵ (shared_of N z b j κ) ⊛ ‵ (flft κ q))) (shares z κ ((κ, q) ∷ []) b j in_time (Incl-refl κ)) $ await ! tt $ split ! $ hide ! $
      feq_i ! (List Val) (vptr b j ∷ []) (vptr b j ∷ []) refl $ fjoin ! $ move ! (0 ∷ 2 ∷ []) $ fjoin ! $
      -- [the `&`; the token; what follows; the lent part, in two entries]
      move ! (3 ∷ 4 ∷ []) $ feq_i ! (List Val) (vptr b i ∷ []) (vptr b i ∷ []) refl $ fjoin3 ! $ fjoin ! $
      feq_i ! (List Val) (pointers b i j ∷ []) (pointers b i j ∷ []) refl $ fjoin ! $ fpack ! (Valss Refs) (within (shape (tuple_type Refs)) (lent γ', (shared, tt)) (pointers b i j ∷ [])) (vptr b i ∷ [], (vptr b j ∷ [], tt)) $
      at_once ! $ show ! Lent γ' $ keep ! (0 ∷ 1 ∷ 2 ∷ []) $ done !)
