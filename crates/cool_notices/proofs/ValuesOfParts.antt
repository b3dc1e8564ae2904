-- The subexpressions that give the value of an expression are those of its parts that give its value, such as the branches of an `if`, and these parts are
-- smaller than the expression.
use Rattle.std.proofs.Common.{◌≡◌, ℕ, ◌+◌, ◌-◌, ◌<◌, ◌≤◌, suc, List, [], ◌∷◌, ◌++◌, map, length, drop, refl, sym, ap, ◌∙◌, subst, append_assoc, append-nil, arith}
use Rattle.std.specs.List.{AllByRecursion, flat_map}
use Rattle.std.proofs.lemmas.Grind.{flat_map-append}
use Rattle.cool_syntax.specs.declared.node.NodeBranch.{NodeBranch}
use Rattle.cool_syntax.specs.declared.node.NodeId.{NodeId}
use Rattle.cool_syntax.specs.declared.place.Place.{Place}
use Rattle.cool_syntax.specs.Tree.{Tree, cases_size, of_list, of_twigs, tree_size, trees_size}
use Rattle.cool_syntax.specs.NodeLists.{all_trees, at_id, tree_at, twig_at}
use Rattle.cool_notices.specs.ValuePlaces.{places_in_cases, places_in_last}
use Rattle.cool_notices.specs.ValuesLeft.{AreIn, last_of, places_at, size_left}

-- the places of a block are those of its last item
pub places_of_items : (body : Tree) (ids : List NodeId) → places_in_last (of_list (map (at_id (all_trees body)) ids)) ≡ flat_map (places_at body) (last_of ids)
places_of_items body [] = refl
places_of_items body (a ∷ []) = sym (append-nil (places_at body a))
places_of_items body (a ∷ b ∷ ids) =
    let more : suc (suc (length ids)) - 1 ≡ suc (suc (length ids) - 1) = omega arith in
    places_of_items body (b ∷ ids) ∙ sym (ap (λ (n : ℕ). flat_map (places_at body) (drop n (a ∷ b ∷ ids))) more)

-- the places of a `case` are those of the bodies of its branches
pub places_of_branches : (body : Tree) (bs : List NodeBranch) → places_in_cases (of_twigs (map (twig_at (all_trees body)) bs)) ≡ flat_map (places_at body) (map (λ (b : NodeBranch). b.body) bs)
places_of_branches body [] = refl
places_of_branches body (b ∷ bs) = ap (λ (l : List Place). places_at body b.body ++ l) (places_of_branches body bs)

-- their sizes
pub size_of_items : (body : Tree) (ids : List NodeId) → size_left body (last_of ids) ≤ trees_size (of_list (map (at_id (all_trees body)) ids))
size_of_items body [] = omega arith
size_of_items body (a ∷ []) = omega arith
size_of_items body (a ∷ b ∷ ids) =
    let more : suc (suc (length ids) - 1) ≡ suc (suc (length ids)) - 1 = omega arith in
    let rest = subst (λ (n : ℕ). size_left body (drop n (a ∷ b ∷ ids)) ≤ trees_size (of_list (map (at_id (all_trees body)) (b ∷ ids)))) more (size_of_items body (b ∷ ids)) in
    omega (arith, rest)

pub size_of_branches : (body : Tree) (bs : List NodeBranch) → size_left body (map (λ (b : NodeBranch). b.body) bs) ≡ cases_size (of_twigs (map (twig_at (all_trees body)) bs))
size_of_branches body [] = refl
size_of_branches body (b ∷ bs) = ap (λ (n : ℕ). tree_size (at_id (all_trees body) b.body) + n) (size_of_branches body bs)

pub size_of_both : (body : Tree) (xs ys : List NodeId) → size_left body (xs ++ ys) ≡ size_left body xs + size_left body ys
size_of_both body [] ys = omega arith
size_of_both body (x ∷ xs) ys = omega (arith, size_of_both body xs ys)

-- their numbers are those of nodes of the body
pub are_both_in : (body : Tree) (xs ys : List NodeId) → AreIn body xs → AreIn body ys → AreIn body (xs ++ ys)
are_both_in body [] ys xs_in ys_in = ys_in
are_both_in body (x ∷ xs) ys xs_in ys_in = (xs_in.0, are_both_in body xs ys xs_in.1 ys_in)

pub are_front_in : (body : Tree) (xs ys : List NodeId) → AreIn body (xs ++ ys) → AreIn body xs
are_front_in body [] ys all_in = tt
are_front_in body (x ∷ xs) ys all_in = (all_in.0, are_front_in body xs ys all_in.1)

pub are_back_in : (body : Tree) (xs ys : List NodeId) → AreIn body (xs ++ ys) → AreIn body ys
are_back_in body [] ys all_in = all_in
are_back_in body (x ∷ xs) ys all_in = are_back_in body xs ys all_in.1

abbrev pub AllBelow : ℕ → List NodeId → Type 0
AllBelow k ids = AllByRecursion (λ c. c.0 < k) ids

abbrev pub BodiesBelow : ℕ → List NodeBranch → Type 0
BodiesBelow k bs = AllByRecursion (λ b. b.body.0 < k) bs

pub are_items_in : (body : Tree) (k : ℕ) (ids : List NodeId) → k < tree_size body → AllBelow k ids → AreIn body (last_of ids)
are_items_in body k [] within below = tt
are_items_in body k (a ∷ []) within below = (omega (arith, within, below.0), tt)
are_items_in body k (a ∷ b ∷ ids) within below =
    let more : suc (suc (length ids) - 1) ≡ suc (suc (length ids)) - 1 = omega arith in
    subst (λ (n : ℕ). AreIn body (drop n (a ∷ b ∷ ids))) more (are_items_in body k (b ∷ ids) within below.1)

pub are_branches_in : (body : Tree) (k : ℕ) (bs : List NodeBranch) → k < tree_size body → BodiesBelow k bs → AreIn body (map (λ (b : NodeBranch). b.body) bs)
are_branches_in body k [] within below = tt
are_branches_in body k (b ∷ bs) within below = (omega (arith, within, below.0), are_branches_in body k bs within below.1)

-- the places in front of others, with parts that are left in addition
pub parts_left : (f : NodeId → List Place) (left parts new : List NodeId) (here rest : List Place) → new ≡ left ++ parts → here ≡ flat_map f parts
    → flat_map f new ++ rest ≡ flat_map f left ++ (here ++ rest)
parts_left f left parts new here rest is gives =
    ap (λ (l : List NodeId). flat_map f l ++ rest) is ∙ ap (λ (l : List Place). l ++ rest) (flat_map-append f left parts)
    ∙ append_assoc (flat_map f left) (flat_map f parts) rest ∙ ap (λ (l : List Place). flat_map f left ++ (l ++ rest)) (sym gives)

-- the parts that are left are smaller than the expression
pub parts_smaller : (body : Tree) (left parts new : List NodeId) (size : ℕ) → new ≡ left ++ parts → size_left body parts < size → size_left body new < size_left body left + size
parts_smaller body left parts new size is smaller =
    subst (λ (l : List NodeId). size_left body l < size_left body left + size) (sym is) (omega (arith, size_of_both body left parts, smaller))

-- and so the expressions that are left become smaller in each step
pub step_smaller : (body : Tree) (old rest new : List NodeId) (id : NodeId) → old ≡ rest ++ id ∷ [] → size_left body new < size_left body rest + tree_size (tree_at body id) → size_left body new < size_left body old
step_smaller body old rest new id is smaller =
    subst (λ (l : List NodeId). size_left body new < size_left body l) (sym is) (omega (arith, size_of_both body rest (id ∷ []), smaller))
