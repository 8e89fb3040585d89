-- Names that there are, and the answers on wanted targets.
use Rattle.std.proofs.Common.{◌≡◌, ◌<◌, inl, inr, ℕ, ◌+◌, List, [], ◌∷◌, ◌++◌, refl, sym, ap, subst, ◌∙◌, length, take, get_or, Vec, Result, Ok, Err, IfOk}
use Rattle.std.specs.declared.alloc.AllocError.{AllocError}
use Rattle.std.specs.declared.alloc.Global.{Global}
use Rattle.std.proofs.lemmas.List.{take_more}
use Rattle.reachability.specs.Rows.{Among}
use Rattle.reachability.proofs.Lists.{among_at}
use Rattle.link_search.specs.Numbering.{Pair, ArePairsWithin}
use Rattle.link_search.specs.declared.answer.Found.{Found}
use Rattle.link_search.specs.declared.answer.Found.TheVariants as found
use Rattle.link_search.specs.declared.answer.Search.{Search}
use Rattle.link_search.specs.declared.exports.SetExports.{SetExports}
use Rattle.link_search.specs.declared.target.Target.{Target}
use Rattle.link_search.specs.declared.target.Target.TheVariants.{Name, End}
use Rattle.link_search.specs.declared.terminal.Terminal.{Terminal}
use Rattle.link_search.specs.Answers.{target_answer, IsSearched}
use Rattle.link_search.specs.Exports.{leads_of}
use Rattle.link_search.specs.Reaches.{Reaches}
use Rattle.link_search.specs.Targets.{target_names, TargetComesTo, AreTargetsWithin, AreFound}
use Rattle.link_search.proofs.Members.{among_name}
use Rattle.link_search.proofs.Ties.{is_stuck}

pub all_within : (m n : ℕ) (ps : List Pair) → ((q : Pair) → Among q ps → (q.0 < m) × (q.1 < n)) → ArePairsWithin m n ps
all_within m n [] h = tt
all_within m n (p ∷ ps) h = ((h p (inl refl)).0, (h p (inl refl)).1, all_within m n ps (λ q i. h q (inr i)))

pub names_within : (m n : ℕ) (ts : List Target) → AreTargetsWithin m n ts → ArePairsWithin m n (target_names ts)
names_within m n [] h = tt
names_within m n (Name a k ∷ ts) h = (h.0.0, h.0.1, names_within m n ts h.1)
names_within m n (End t ∷ ts) h = names_within m n ts h.1

-- a terminal comes to itself
end_comes : (s : SetExports) (t : Terminal) → TargetComesTo (leads_of s) (End t) (found.One t)
end_comes s t = record { reached = (Reaches.itself (End t), refl); alone = λ u r. sym (is_stuck s t u r.0) }

-- the answer on a wanted target is right
right_answer : (s : SetExports) (wanted : List Target) (starts : List Pair) (by : Search) → starts ≡ target_names wanted → IsSearched s starts by → (t : Target) → Among t wanted → TargetComesTo (leads_of s) t (target_answer by t)
right_answer s wanted starts by is right (End t) i = end_comes s t
right_answer s wanted starts by is right (Name m k) i = right (m, k) (subst (λ ps. Among {A = Pair} (m, k) ps) (sym is) (among_name wanted m k i))

found_push : (leads : Target → List Target) (ts : List Target) (fs : List Found) (t : Target) (f : Found) → AreFound leads ts fs → TargetComesTo leads t f → AreFound leads (ts ++ t ∷ []) (fs ++ f ∷ [])
found_push leads [] [] t f h c = (c, tt)
found_push leads [] (g ∷ fs) t f h c = absurd h
found_push leads (u ∷ ts) [] t f h c = absurd h
found_push leads (u ∷ ts) (g ∷ fs) t f h c = (h.0, found_push leads ts fs t f h.1 c)

among_read : (ts : List Target) (i : ℕ) (t : Target) → i < length ts → t ≡ get_or ts i t → Among t ts
among_read ts i t within at = subst (λ x. Among x ts) (sym at) (among_at ts i t within)

pub found_more : (s : SetExports) (wanted : List Target) (starts : List Pair) (by : Search) (i : ℕ) (t : Target) (f : Found) (fs gs : List Found) → starts ≡ target_names wanted → IsSearched s starts by
    → i < length wanted → t ≡ get_or wanted i t → f ≡ target_answer by t → gs ≡ fs ++ f ∷ [] → AreFound (leads_of s) (take i wanted) fs → AreFound (leads_of s) (take (i + 1) wanted) gs
found_more s wanted starts by i t f fs gs is right within at told pushed h =
    subst (λ ts. AreFound (leads_of s) ts gs) (sym (take_more wanted i t within ∙ ap (λ y. take i wanted ++ y ∷ []) (sym at)))
    (subst (AreFound (leads_of s) (take i wanted ++ t ∷ [])) (sym pushed)
    (found_push (leads_of s) (take i wanted) fs t f h (subst (TargetComesTo (leads_of s) t) (sym told) (right_answer s wanted starts by is right t (among_read wanted i t within at)))))

-- what is listed stays within, if each does
pub ways_within : (m n : ℕ) (made : Result (Vec Pair Global) AllocError) (ps : List Pair) → IfOk made (λ v. v.items ≡ ps) → ArePairsWithin m n ps → IfOk made (λ v. ArePairsWithin m n v.items)
ways_within m n (Ok v) ps is within = subst (ArePairsWithin m n) (sym is) within
ways_within m n (Err e) ps is within = tt
