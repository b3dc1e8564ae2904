-- A list that is a part (a subsequence) of another list stays one if the other list gets one more item, or if both lists get the same item.
use Rattle.std.proofs.Common.{List, [], ◌∷◌, ◌++◌}
use Rattle.cool_mend.specs.Mends.{IsPart, none, kept, left}

-- the item that comes is left out
pub part_left : {X : Type 0} (y : X) (xs ys : List X) → IsPart xs ys → IsPart xs (ys ++ y ∷ [])
part_left y _ _ none = left y [] [] none
part_left y _ _ (kept x xs ys p) = kept x xs (ys ++ y ∷ []) (part_left y xs ys p)
part_left y _ _ (left z xs ys p) = left z xs (ys ++ y ∷ []) (part_left y xs ys p)

-- the item that comes is kept
pub part_kept : {X : Type 0} (y : X) (xs ys : List X) → IsPart xs ys → IsPart (xs ++ y ∷ []) (ys ++ y ∷ [])
part_kept y _ _ none = kept y [] [] none
part_kept y _ _ (kept x xs ys p) = kept x (xs ++ y ∷ []) (ys ++ y ∷ []) (part_kept y xs ys p)
part_kept y _ _ (left z xs ys p) = left z (xs ++ y ∷ []) (ys ++ y ∷ []) (part_kept y xs ys p)

-- two parts, one after the other
pub parts_joined : {X : Type 0} (xs ys zs ws : List X) → IsPart xs ys → IsPart zs ws → IsPart (xs ++ zs) (ys ++ ws)
parts_joined _ _ zs ws none q = q
parts_joined _ _ zs ws (kept x xs ys p) q = kept x (xs ++ zs) (ys ++ ws) (parts_joined xs ys zs ws p q)
parts_joined _ _ zs ws (left y xs ys p) q = left y (xs ++ zs) (ys ++ ws) (parts_joined xs ys zs ws p q)
