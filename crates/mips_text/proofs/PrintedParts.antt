-- Lemmas on loops that append a text part by part, and on lists whose elements contracts see through a conversion function.
use Rattle.std.proofs.Common.{◌≡◌, ℕ, List, ◌∷◌, ◌++◌, ◌+◌, sym, ap, ◌∙◌, append_assoc, length, drop, map, flat_map, get_or, ◌<◌, add-one, suc, arith}
use Rattle.std.proofs.lemmas.List.{length-map, get_or-map}
use Rattle.std.proofs.Math.Seq.{drop-cons}

-- one more part was written
pub part_written : {A : Type 0} → (text : A → List ℕ) (out total : List ℕ) (xs : List A) (index : ℕ) (x : A) → index < length xs → x ≡ get_or xs index x → out ++ flat_map text (drop index xs) ≡ total → (out ++ text x) ++ flat_map text (drop (index + 1) xs) ≡ total
part_written {A} text out total xs index x h e inv =
    let cut = drop-cons xs index x h ∙ ap (λ (y : A). y ∷ drop (suc index) xs) (sym e) in
    let split = ap (λ (ys : List A). out ++ flat_map text ys) cut in
    rw add-one (append_assoc out (text x) (flat_map text (drop (suc index) xs)) ∙ (sym split ∙ inv))

-- an index of a list is one of what its elements are seen as
pub seen_below : {A B : Type 0} → (see : A → B) (xs : List A) (index : ℕ) → index < length xs → index < length (map see xs)
seen_below see xs index h = omega (arith, length-map xs see)

-- the view of the element at an index
pub seen_at : {A B : Type 0} → (see : A → B) (xs : List A) (index : ℕ) (x : A) → index < length xs → x ≡ get_or xs index x → see x ≡ get_or (map see xs) index (see x)
seen_at see xs index x h e = sym (get_or-map see xs index x (see x) h ∙ ap see (sym e))
