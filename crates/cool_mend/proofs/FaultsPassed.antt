-- If a comparison, error by error, finds each error after an edit among those before it, then all of them are errors from before the edit, other than the
-- one to be fixed.
use Rattle.std.proofs.Common.{◌≡◌, ℕ, ◌+◌, ◌<◌, ◌≤◌, List, [], ◌∷◌, ◌++◌, length, get_or, map, take, drop, nat_eq, true, subst, sym, ap, append_assoc, arith, ◌∙◌}
use Rattle.std.proofs.lemmas.Bool.{eqb-true}
use Rattle.std.proofs.lemmas.List.{get_or_default, map-append, map_push, take-append-drop, take_all, take_more}
use Rattle.std.proofs.lemmas.Option.{slice_get-get_or}
use Rattle.lists.proofs.ItemsLeft.{drop_one}
use Rattle.cool_syntax.specs.FaultOrder.{Standing}
use Rattle.cool_faults.specs.declared.fault.Fault.{Fault}
use Rattle.cool_faults.specs.Verdicts.{standing_of}
use Rattle.cool_mend.specs.declared.edit.Edit.{Edit}
use Rattle.cool_mend.specs.Mends.{Advances, IsNext, IsPart, line_ends, moved_standing, others, taken}
use Rattle.cool_mend.proofs.PartsOfLists.{part_kept, parts_joined}

-- the next one is this
pub next_kept : (after : List Fault) (found : ℕ) (f d : Fault) (m : Standing) (earlier : List Standing) → found < length after → f ≡ get_or after found d → standing_of f ≡ m
    → IsPart (map standing_of (take found after)) earlier → IsPart (map standing_of (take (found + 1) after)) (earlier ++ m ∷ [])
next_kept after found f d m earlier within is same part =
    subst (λ (l : List Standing). IsPart l (earlier ++ m ∷ []))
    (sym (ap (map standing_of) (take_more after found d within) ∙ map_push standing_of (take found after) (get_or after found d) ∙ ap (λ (s : Standing). map standing_of (take found after) ++ s ∷ []) (ap standing_of (sym is) ∙ same)))
    (part_kept m (map standing_of (take found after)) earlier part)

-- one more of the faults is moved
pub moved_more : (move : Fault → Standing) (earlier : List Standing) (faults : List Fault) (i : ℕ) (f d : Fault) → i < length faults → f ≡ get_or faults i d
    → (earlier ++ map move (take i faults)) ++ move f ∷ [] ≡ earlier ++ map move (take (i + 1) faults)
moved_more move earlier faults i f d within is =
    append_assoc earlier (map move (take i faults)) (move f ∷ [])
    ∙ ap (λ (l : List Standing). earlier ++ l) (ap (λ (x : Fault). map move (take i faults) ++ move x ∷ []) is ∙ sym (map_push move (take i faults) (get_or faults i d)) ∙ ap (map move) (sym (take_more faults i d within)))

-- the faults that were passed are all, and are among those in front of a number and behind it
pub all_passed : (move : Fault → Standing) (front back after : List Fault) (k n : ℕ) → length back ≤ n → nat_eq k (length after) ≡ true → IsPart (map standing_of (take k after)) (map move front ++ map move (take n back))
    → IsPart (map standing_of after) (map move (front ++ back))
all_passed move front back after k n whole all part =
    subst (λ (l : List Fault). IsPart (map standing_of l) (map move (front ++ back))) (take_all k after (omega (arith, eqb-true k (length after) all)))
    (subst (λ (l : List Standing). IsPart (map standing_of (take k after)) l)
    (ap (λ (l : List Fault). map move front ++ map move l) (take_all n back whole) ∙ sym (map-append move front back)) part)

-- so they are the other ones
pub are_others : (files : List (List ℕ)) (e : Edit) (number : ℕ) (before after : List Fault) (more less : ℕ) → more ≡ line_ends e.text.items → less ≡ line_ends (taken e files)
    → IsPart (map standing_of after) (map (moved_standing e more less) (take number before ++ drop (number + 1) before)) → IsPart (map standing_of after) (others files e number before)
are_others files e number before after more less is_more is_less =
    subst (λ (m : Fault → Standing). IsPart (map standing_of after) (map m (take number before ++ drop (number + 1) before)))
    (ap (λ (m : ℕ). moved_standing e m less) is_more ∙ ap (moved_standing e (line_ends e.text.items)) is_less)

-- the next one behind a fault, and the others in front of it and behind it
pub advanced : (files : List (List ℕ)) (e : Edit) (number k : ℕ) (before after : List Fault) (c d : Fault) (more less : ℕ) → more ≡ line_ends e.text.items → less ≡ line_ends (taken e files)
    → number < length before → k < length after → IsNext files e (get_or before number c) (get_or after k d)
    → IsPart (map standing_of (take k after)) (map (moved_standing e more less) (take number before))
    → IsPart (map standing_of (drop (k + 1) after)) (map (moved_standing e more less) (drop (number + 1) before))
    → Advances files e before number after
advanced files e number k before after c d more less is_more is_less within some next front back =
    let new = get_or after k d in
    let move = moved_standing e (line_ends e.text.items) (line_ends (taken e files)) in
    let moves : moved_standing e more less ≡ move = ap (λ (m : ℕ). moved_standing e m less) is_more ∙ ap (moved_standing e (line_ends e.text.items)) is_less in
    record {
      old = get_or before number c;
      stands = slice_get-get_or before number c within;
      front = take k after;
      new = new;
      back = drop (k + 1) after;
      list = sym (take-append-drop k after) ∙ ap (λ (l : List Fault). take k after ++ l) (drop_one after k new some (get_or_default after k d new some));
      next = next;
      rest = subst (λ (l : List Standing). IsPart l (others files e number before)) (sym (map-append standing_of (take k after) (drop (k + 1) after)))
          (subst (IsPart (map standing_of (take k after) ++ map standing_of (drop (k + 1) after))) (sym (map-append move (take number before) (drop (number + 1) before)))
          (parts_joined _ _ _ _ (subst (λ (m : Fault → Standing). IsPart (map standing_of (take k after)) (map m (take number before))) moves front)
          (subst (λ (m : Fault → Standing). IsPart (map standing_of (drop (k + 1) after)) (map m (drop (number + 1) before))) moves back)));
    }

-- all faults that were passed on their own are a part of those before the edit
pub all_alone : (move : Fault → Standing) (back after : List Fault) (n k : ℕ) → length back ≤ n → nat_eq k (length after) ≡ true → IsPart (map standing_of (take k after)) (map move (take n back))
    → IsPart (map standing_of after) (map move back)
all_alone move back after n k whole all part =
    subst (λ (l : List Fault). IsPart (map standing_of l) (map move back)) (take_all k after (omega (arith, eqb-true k (length after) all)))
    (subst (λ (l : List Fault). IsPart (map standing_of (take k after)) (map move l)) (take_all n back whole) part)
