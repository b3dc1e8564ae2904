-- Extents (first and last token) with equal places are equal, and the extents of a list of nodes are computed one after another.
use Rattle.std.proofs.Common.{◌≡◌, refl, arith, ℕ, ◌+◌, ◌<◌, ◌≤◌, List, [], ◌∷◌, ◌++◌, length, drop, ap, sym, ◌∙◌}
use Rattle.std.proofs.lemmas.List.{drop_all}
use Rattle.std.proofs.lemmas.Option.{get_or_from_slice_get, slice_get_within}
use Rattle.std.specs.Prelude.{Some, slice_get}
use Rattle.cool_syntax.specs.declared.node.Node.{Node}
use Rattle.cool_syntax.specs.declared.node.NodeId.{NodeId}
use Rattle.cool_syntax.specs.declared.place.Place.{Place}
use Rattle.cool_syntax.specs.declared.token.Token.{Token}
use Rattle.cool_extents.specs.FoundExtents.{call_last, found_after, latest, node_extent, outer_last}
use Rattle.lists.proofs.ItemsLeft.{drop_first}
use native.Mathlib.Numerals.{add-one}
use Rattle.cool_extents.specs.declared.extent.Extent.{Extent}

abbrev pub from_to : Place → Place → Extent
from_to first last = record { first = first; last = last }

pub same_extent : (a b c d : Place) → a ≡ c → b ≡ d → from_to a b ≡ from_to c d
same_extent a b c d e f = ap (λ (p : Place). from_to p b) e ∙ ap (from_to c) f

-- one more is found
pub one_found : (tokens : List Token) (ns : List Node) (k : ℕ) (n : Node) (old new all : List Extent) (e : Extent) → slice_get ns k ≡ Some n → e ≡ node_extent tokens old n → new ≡ old ++ e ∷ []
    → found_after tokens old (drop k ns) ≡ all → found_after tokens new (drop (k + 1) ns) ≡ all
one_found tokens ns k n old new all e is one more before =
    let first = drop_first ns k n (slice_get_within ns k n is) (sym (get_or_from_slice_get ns k n n is)) in
    ap (λ (found : List Extent). found_after tokens found (drop (k + 1) ns)) (more ∙ ap (λ (x : Extent). old ++ x ∷ []) one)
    ∙ ap (λ (j : ℕ). found_after tokens (old ++ node_extent tokens old n ∷ []) (drop j ns)) (add-one k)
    ∙ sym (ap (found_after tokens old) first)
    ∙ before

-- none is left
pub all_found : (tokens : List Token) (ns : List Node) (k : ℕ) (found all : List Extent) → length ns ≤ k → found_after tokens found (drop k ns) ≡ all → found ≡ all
all_found tokens ns k found all past before = ap (found_after tokens found) (sym (drop_all k ns past)) ∙ before

-- the last token of a call with one argument, and of one with more
pub one_argument : (tokens : List Token) (at : Place) (found : List Extent) (ids : List NodeId) → 1 ≤ length ids → length ids < 2 → outer_last tokens (latest found) ≡ call_last tokens at found ids
one_argument tokens at found [] h less = absurd (omega arith)
one_argument tokens at found (a ∷ []) h less = refl
one_argument tokens at found (a ∷ b ∷ ids) h less = absurd (omega arith)

pub more_arguments : (tokens : List Token) (at : Place) (found : List Extent) (ids : List NodeId) → 2 ≤ length ids → outer_last tokens (latest found) + 1 ≡ call_last tokens at found ids
more_arguments tokens at found [] h = absurd (omega arith)
more_arguments tokens at found (a ∷ []) h = absurd (omega arith)
more_arguments tokens at found (a ∷ b ∷ ids) h = refl
