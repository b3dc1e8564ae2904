-- A property that all elements of a list have also holds of all elements after one element with the property is appended, and after the list is reordered.
use Rattle.std.proofs.Common.{◌≡◌, ℕ, zero, suc, ◌<◌, List, [], ◌∷◌, ◌++◌, length, map, get_or, sym, subst, arith}
use Rattle.std.specs.List.{All, AllByRecursion}
use Rattle.std.specs.List.Sorted.{IsPermutation}
use Rattle.std.proofs.lemmas.List.Sorted.{All-permutation}
use Rattle.cool_syntax.specs.declared.file_tree.ClassDef.{ClassDef}
use Rattle.cool_syntax.specs.TreesWithinLimits.{IsClassWithin, AreClassesWithin}
use Rattle.lists.proofs.AllItems.{all_at}

-- one element more
pub all_with : {X : Type 0} (P : X → Type 0) (xs : List X) (x : X) → AllByRecursion P xs → P x → AllByRecursion P (xs ++ x ∷ [])
all_with P [] x all p = (p, tt)
all_with P (y ∷ ys) x all p = (all.0, all_with P ys x all.1 p)

-- a definition among those of files
pub class_within : (n : ℕ) (ds : List ClassDef) (k : ℕ) (d : ClassDef) → k < length ds → d ≡ get_or ds k d → AreClassesWithin n ds → IsClassWithin n d
class_within n ds k d within is all = subst (IsClassWithin n) (sym is) (all_at (IsClassWithin n) ds k d all within)

-- a property of each holds of all
all_of : {X : Type 0} (P : X → Type 0) (xs : List X) → All P xs → AllByRecursion P xs
all_of P [] all = tt
all_of P (x ∷ xs) all = (all zero x (omega arith), all_of P xs (λ k d less. all (suc k) d (omega arith)))

-- a property of all holds of them in another order
pub all_permuted : {X : Type 0} (P : X → Type 0) (xs ys : List X) → IsPermutation xs ys → AllByRecursion P xs → AllByRecursion P ys
all_permuted P xs ys moved all = all_of P ys (All-permutation P xs ys moved (λ k d less. all_at P xs k d all less))

-- a property of the images of all holds of all images
pub all_map : {X Y : Type 0} (P : Y → Type 0) (f : X → Y) (xs : List X) → AllByRecursion (λ (x : X). P (f x)) xs → AllByRecursion P (map f xs)
all_map P f [] h = tt
all_map P f (x ∷ xs) h = (h.0, all_map P f xs h.1)
