-- Frames from the top down.
use Rattle.std.proofs.Common.{◌≡◌, ℕ, zero, suc, ◌+◌, ◌-◌, ◌<◌, ◌≤◌, ◌==◌, Bool, true, false, Option, Some, None, IfSome, List, [], ◌∷◌, ◌++◌, length, take, drop, reverse, map, option_map, get_or, slice_get, refl, sym, ap, ◌∙◌, arith}
use Rattle.std.specs.Borrow.{Bor}
use Rattle.std.specs.Option.{IsSome, option_copied}
use Rattle.semantic_tree.specs.Nodes.{first_of}
use Rattle.std.proofs.lemmas.List.{reverse-append}
use Rattle.node_store.specs.Path.{from_node, IsOn}
use Rattle.semantic_tree.specs.declared.node.Node.{Node}
use Rattle.semantic_tree.specs.declared.view.AstKind.{AstKind}
use Rattle.node_store.specs.Left.{shown}

take_all : (frames : List AstKind) → take (length frames) frames ≡ frames
take_all [] = refl
take_all (f ∷ fs) = ap (λ xs. f ∷ xs) (take_all fs)

pub whole : (frames : List AstKind) → map shown (reverse (take (length frames) frames)) ≡ map shown (reverse frames)
whole frames = ap (λ xs. map shown (reverse xs)) (take_all frames)

take_more : (frames : List AstKind) (n : ℕ) (d : AstKind) → n < length frames → take (suc n) frames ≡ take n frames ++ get_or frames n d ∷ []
take_more [] n d h = absurd (omega arith)
take_more (f ∷ fs) zero d h = refl
take_more (f ∷ fs) (suc n) d h = ap (λ xs. f ∷ xs) (take_more fs n d (omega arith))

-- the top is the last of the frames
pub top : (frames : List AstKind) (n m : ℕ) (d : AstKind) → 0 < n → m ≡ n - 1 → n ≤ length frames
    → map shown (reverse (take n frames)) ≡ shown (get_or frames m d) ∷ map shown (reverse (take m frames))
top frames zero m d pos e h = absurd (omega arith)
top frames (suc n) m d pos e h =
    let same : m ≡ n = omega arith in
    rw (same, take_more frames n d (omega arith), reverse-append (take n frames) (get_or frames n d ∷ [])) refl

pub bottom : (frames : List AstKind) (n : ℕ) → n ≡ 0 → map shown (reverse (take n frames)) ≡ []
bottom frames n e = rw e refl

pub pushed : (frames : List AstKind) (kind : AstKind) → map shown (reverse (frames ++ kind ∷ [])) ≡ shown kind ∷ map shown (reverse frames)
pushed frames kind = rw (reverse-append frames (kind ∷ [])) refl

pub popped : (frames : List AstKind) → map shown (reverse (take (length frames - 1) frames)) ≡ drop 1 (map shown (reverse frames))
popped [] = refl
popped (f ∷ fs) =
    sym (ap (drop 1) (sym (whole (f ∷ fs)) ∙ top (f ∷ fs) (length (f ∷ fs)) (length (f ∷ fs) - 1) f (omega arith) refl (omega arith)))

there : (frames : List AstKind) (n : ℕ) (d : AstKind) → n < length frames → slice_get frames n ≡ Some (get_or frames n d)
there [] n d h = absurd (omega arith)
there (f ∷ fs) zero d h = refl
there (f ∷ fs) (suc n) d h = there fs n d (omega arith)

-- the last frame shows the first node of the path
pub last_shown : (frames : List AstKind) → option_map shown (slice_get frames (length frames - 1)) ≡ first_of (map shown (reverse frames))
last_shown [] = refl
last_shown (f ∷ fs) =
    ap (option_map shown) (there (f ∷ fs) (length (f ∷ fs) - 1) f (omega arith))
    ∙ sym (ap first_of (sym (whole (f ∷ fs)) ∙ top (f ∷ fs) (length (f ∷ fs)) (length (f ∷ fs) - 1) f (omega arith) refl (omega arith)))

-- the one before it shows the second node
pub above_shown : (frames : List AstKind) (n : ℕ) → n + 2 ≡ length frames → option_map shown (slice_get frames n) ≡ first_of (drop 1 (map shown (reverse frames)))
above_shown [] n e = absurd (omega arith)
above_shown (f ∷ fs) n e =
    ap (option_map shown) (there (f ∷ fs) n f (omega arith))
    ∙ sym (ap first_of (sym (popped (f ∷ fs)) ∙ top (f ∷ fs) (length (f ∷ fs) - 1) n f (omega arith) (omega arith) (omega arith)))

pub none_above : (frames : List AstKind) → length frames < 2 → first_of (drop 1 (map shown (reverse frames))) ≡ None
none_above [] h = refl
none_above (f ∷ []) h = refl
none_above (f ∷ g ∷ fs) h = absurd (omega arith)

-- what is asked for at a position that there is
pub asked_at : (asked : Option (Bor AstKind)) (frames : List AstKind) (n : ℕ) → (n < length frames → IsSome asked) → IfSome asked (λ f. f.now ≡ get_or frames n f.now) → n < length frames
    → option_copied asked ≡ slice_get frames n
asked_at None frames n some found h = absurd (let no = some h in cc)
asked_at (Some f) frames n some found h = ap (λ k. Some k) found ∙ sym (there frames n f.now h)

pub ruleset tops = (last_shown, above_shown, none_above)

found_at : (id : ℕ) (node : Node) (rest : List Node) (b : Bool) → (node.node_id == id) ≡ b → (IsOn id rest → 0 < length (from_node id rest)) → IsOn id (node ∷ rest) → 0 < length (from_node id (node ∷ rest))
found_at id node rest true e later h = rw e (omega arith)
found_at id node rest false e later h = rw e (later (rw e at h))

-- a node on the path is the first of those from it on
pub found : (id : ℕ) (path : List Node) → IsOn id path → 0 < length (from_node id path)
found id [] h = absurd cc
found id (node ∷ rest) h = found_at id node rest (node.node_id == id) refl (found id rest) h
