-- In the listing of syntax trees, the lines of the nodes from one on are the line of the first of these nodes, followed by the lines of the others.
use Rattle.std.proofs.Common.{◌≡◌, ℕ, ◌+◌, ◌∙◌, ◌<◌, ◌≤◌, List, ◌++◌, length, drop, flat_map, get_or, ap, sym, append_assoc, append-nil}
use Rattle.std.proofs.lemmas.List.{drop_all}
use Rattle.std.proofs.lemmas.Option.{get_or_from_slice_get, slice_get_within}
use Rattle.std.specs.Prelude.{Option, Some, slice_get}
use Rattle.cool_syntax.specs.declared.node.Node.{Node}
use Rattle.cool_extents.specs.declared.extent.Extent.{Extent}
use Rattle.cool_extents.specs.FoundExtents.{extent_at, extent_or}
use Rattle.cool_listings.specs.TreeLines.{Column, node_line, nodes_text}
use Rattle.lists.proofs.ItemsLeft.{drop_first, drop_one}
use native.Mathlib.Numerals.{add-one}

lines_left : (column : Option Column) (es : List Extent) (ns : List Node) (k : ℕ) (n : Node) → slice_get ns k ≡ Some n
    → nodes_text column es k (drop k ns) ≡ node_line column k (extent_at es k) n ++ nodes_text column es (k + 1) (drop (k + 1) ns)
lines_left column es ns k n is =
    ap (nodes_text column es k) (drop_first ns k n (slice_get_within ns k n is) (sym (get_or_from_slice_get ns k n n is)))
    ∙ ap (λ (j : ℕ). node_line column k (extent_at es k) n ++ nodes_text column es j (drop j ns)) (sym (add-one k))

-- one line more
pub line_more : (column : Option Column) (es : List Extent) (ns : List Node) (k : ℕ) (e : Extent) (n : Node) (old line new all : List ℕ) → slice_get ns k ≡ Some n → slice_get es k ≡ Some e
    → line ≡ node_line column k e n → new ≡ old ++ line → old ++ nodes_text column es k (drop k ns) ≡ all → new ++ nodes_text column es (k + 1) (drop (k + 1) ns) ≡ all
line_more column es ns k e n old line new all is its one more before =
    let told : line ≡ node_line column k (extent_at es k) n = one ∙ ap (λ (o : Option Extent). node_line column k (extent_or o) n) (sym its) in
    ap (λ (l : List ℕ). l ++ nodes_text column es (k + 1) (drop (k + 1) ns)) (more ∙ ap (λ (l : List ℕ). old ++ l) told)
    ∙ append_assoc old (node_line column k (extent_at es k) n) (nodes_text column es (k + 1) (drop (k + 1) ns))
    ∙ ap (λ (l : List ℕ). old ++ l) (sym (lines_left column es ns k n is))
    ∙ before

-- no line is left
pub lines_end : (column : Option Column) (es : List Extent) (ns : List Node) (k : ℕ) (text all : List ℕ) → length ns ≤ k → text ++ nodes_text column es k (drop k ns) ≡ all → text ≡ all
lines_end column es ns k text all past before = sym (append-nil text) ∙ ap (λ (l : List Node). text ++ nodes_text column es k l) (sym (drop_all k ns past)) ∙ before

-- one piece more of a list of which each item has one
pub piece_more : {X : Type 0} (f : X → List ℕ) (xs : List X) (k : ℕ) (x : X) (old piece new all : List ℕ) → k < length xs → x ≡ get_or xs k x → piece ≡ f x → new ≡ old ++ piece
    → old ++ flat_map f (drop k xs) ≡ all → new ++ flat_map f (drop (k + 1) xs) ≡ all
piece_more f xs k x old piece new all within is one more before =
    ap (λ (l : List ℕ). l ++ flat_map f (drop (k + 1) xs)) (more ∙ ap (λ (l : List ℕ). old ++ l) one)
    ∙ append_assoc old (f x) (flat_map f (drop (k + 1) xs))
    ∙ ap (λ ys. old ++ flat_map f ys) (sym (drop_one xs k x within is))
    ∙ before
