-- The notices (warnings) of an expression are those at each of its nodes, in the order of the nodes.
use Rattle.std.proofs.Common.{◌≡◌, ℕ, ◌+◌, ◌-◌, ◌<◌, zero, suc, List, [], ◌∷◌, ◌++◌, map, length, take, get_or, Bool, Option, refl, sym, ap, ◌∙◌, append_assoc, append-nil, length-append, arith}
use Rattle.std.specs.List.{flat_map}
use Rattle.std.specs.Option.{option_to_list}
use Rattle.std.proofs.lemmas.Grind.{flat_map-append}
use Rattle.std.proofs.lemmas.List.{take_more}
use Rattle.cool_syntax.specs.declared.node.NodeId.{NodeId}
use Rattle.cool_syntax.specs.declared.place.Place.{Place}
use Rattle.cool_syntax.specs.Tree.{Tree, Trees, MaybeTree, Cases, Last, More, Without, With, NoCase, CaseOf, of_list}
use Rattle.cool_syntax.specs.Tree as trees
use Rattle.cool_syntax.specs.NodeLists.{all_trees, at_id}
use Rattle.cool_syntax.proofs.TreesOfLists.{all_trees-parts, length-parts, parts, parts_of_all, parts_of_maybe, parts_of_cases}
use Rattle.cool_notices.specs.declared.kind.Notice.{Notice}
use Rattle.cool_notices.specs.declared.kind.NoticeKind.{NoticeKind}
use Rattle.cool_notices.specs.Notices.{due_notices, due_in_all, due_in_cases, due_in_maybe, idle_notice, idle_notices, notice_if, notices_at, up_to}

-- the first of two lists together
take_none : (k : ℕ) → take {A = Notice} k [] ≡ []
take_none zero = refl
take_none (suc k) = refl

take_join : (k : ℕ) (a b : List Notice) → take k (a ++ b) ≡ take k a ++ take (k - length a) b
take_join zero [] b = refl
take_join zero (x ∷ a) b =
    let none : 0 ≡ 0 - suc (length a) = omega arith in
    ap (λ n. take n b) none
take_join (suc k) [] b =
    let all : suc k ≡ suc k - 0 = omega arith in
    ap (λ n. take n b) all
take_join (suc k) (x ∷ a) b =
    let left : k - length a ≡ suc k - suc (length a) = omega arith in
    ap (λ l. x ∷ l) (take_join k a b ∙ ap (λ n. take k a ++ take n b) left)

-- no notices, and more after more
pub up_to_none : (most : ℕ) (before : List Notice) → up_to most before [] ≡ before
up_to_none most before = ap (λ l. before ++ l) (take_none (most - length before)) ∙ append-nil before

room_left : (k : ℕ) (a : List Notice) → k - length (take k a) ≡ k - length a
room_left zero [] = refl
room_left zero (x ∷ a) = omega arith
room_left (suc k) [] = refl
room_left (suc k) (x ∷ a) = omega (arith, room_left k a)

pub up_to_more : (most : ℕ) (before a b : List Notice) → up_to most (up_to most before a) b ≡ up_to most before (a ++ b)
up_to_more most before a b =
    let k = most - length before in
    let left : most - length (before ++ take k a) ≡ k - length (take k a) = omega (arith, length-append before (take k a)) in
    ap (λ n. (before ++ take k a) ++ take n b) (left ∙ room_left k a) ∙ append_assoc before (take k a) (take (k - length a) b) ∙ ap (λ l. before ++ l) (sym (take_join k a b))

-- more after those that were added
pub then_more : (most : ℕ) (before front more l new : List Notice) → l ≡ up_to most before front → new ≡ up_to most l more → new ≡ up_to most before (front ++ more)
then_more most before front more l new is added = added ∙ ap (λ x. up_to most x more) is ∙ up_to_more most before front more

-- and where it is one at most
pub then_noted : (most : ℕ) (before front l new : List Notice) (n o : Option Notice) → l ≡ up_to most before front → n ≡ o → new ≡ up_to most l (option_to_list n) → new ≡ up_to most before (front ++ option_to_list o)
then_noted most before front l new n o is due added = then_more most before front (option_to_list o) l new is (added ∙ ap (λ x. up_to most l (option_to_list x)) due)

-- both, one after the other
pub then_both : (most : ℕ) (before front more l m new : List Notice) (n o : Option Notice) → l ≡ up_to most before front → m ≡ up_to most l more → n ≡ o → new ≡ up_to most m (option_to_list n)
    → new ≡ up_to most before (front ++ (more ++ option_to_list o))
then_both most before front more l m new n o is added due noted =
    then_noted most before (front ++ more) m new n o (then_more most before front more l m is added) due noted
    ∙ ap (up_to most before) (append_assoc front more (option_to_list o))

-- a notice that is due by one test is due by the same
pub due_by : (k : NoticeKind) (at : Place) (a b : Bool) (o : Option Notice) → o ≡ notice_if a k at → a ≡ b → o ≡ notice_if b k at
due_by k at a b o is same = is ∙ ap (λ x. notice_if x k at) same

-- those of the items of a block, by their numbers
abbrev pub idle_at : List Tree → NodeId → List Notice
idle_at ts id = option_to_list (idle_notice (at_id ts id))

pub all_but_last : (ts : List Tree) (ids : List NodeId) → flat_map (idle_at ts) (take (length ids - 1) ids) ≡ idle_notices (of_list (map (at_id ts) ids))
all_but_last ts [] = refl
all_but_last ts (a ∷ []) = refl
all_but_last ts (a ∷ b ∷ ids) =
    let more : suc (suc (length ids)) - 1 ≡ suc (suc (length ids) - 1) = omega arith in
    ap (λ n. flat_map (idle_at ts) (take n (a ∷ b ∷ ids))) more ∙ ap (λ l. idle_at ts a ++ l) (all_but_last ts (b ∷ ids))

-- one more turn
pub one_more : {X Y : Type 0} (f : X → List Y) (xs : List X) (i : ℕ) (d : X) → i < length xs → flat_map f (take i xs) ++ f (get_or xs i d) ≡ flat_map f (take (i + 1) xs)
one_more f xs i d within =
    sym (ap (flat_map f) (take_more xs i d within) ∙ flat_map-append f (take i xs) (get_or xs i d ∷ []) ∙ ap (λ l. flat_map f (take i xs) ++ l) (append-nil (f (get_or xs i d))))

-- those at each part of a tree are those that are due in it
mutual
  at_parts : (t : Tree) → flat_map notices_at (parts t) ≡ due_notices t
  at_parts (trees.leaf at form) = append-nil _
  at_parts (trees.unary at form a) = simp (flat_map-append, at_parts a, append-nil)
  at_parts (trees.binary at form a b) = simp (flat_map-append, at_parts a, at_parts b, append-nil)
  at_parts (trees.call at form a ts) = simp (flat_map-append, at_parts a, at_parts_of_all ts, append-nil)
  at_parts (trees.If at a b c) = simp (flat_map-append, at_parts a, at_parts b, at_parts c, append-nil)
  at_parts (trees.Block at ts) = simp (flat_map-append, at_parts_of_all ts, append-nil)
  at_parts (trees.Let at name declared o a) = simp (flat_map-append, at_parts_of_maybe o, at_parts a, append-nil)
  at_parts (trees.Case at a cs) = simp (flat_map-append, at_parts a, at_parts_of_cases cs, append-nil)

  at_parts_of_all : (ts : Trees) → flat_map notices_at (parts_of_all ts) ≡ due_in_all ts
  at_parts_of_all Last = refl
  at_parts_of_all (More t ts) = flat_map-append notices_at (parts t) (parts_of_all ts) ∙ (λ i. at_parts t i ++ at_parts_of_all ts i)

  at_parts_of_maybe : (o : MaybeTree) → flat_map notices_at (parts_of_maybe o) ≡ due_in_maybe o
  at_parts_of_maybe Without = refl
  at_parts_of_maybe (With t) = at_parts t

  at_parts_of_cases : (cs : Cases) → flat_map notices_at (parts_of_cases cs) ≡ due_in_cases cs
  at_parts_of_cases NoCase = refl
  at_parts_of_cases (CaseOf at name declared t cs) = flat_map-append notices_at (parts t) (parts_of_cases cs) ∙ (λ i. at_parts t i ++ at_parts_of_cases cs i)

-- and so are those at each node of its list
pub at_nodes : (t : Tree) → flat_map notices_at (all_trees t) ≡ due_notices t
at_nodes t = ap (flat_map notices_at) (all_trees-parts t) ∙ at_parts t

pub all_nodes : (t : Tree) → length (all_trees t) ≡ trees.tree_size t
all_nodes t = ap length (all_trees-parts t) ∙ length-parts t
