-- The attributes of a class are those that the class and its ancestors define, and they are at most 2,000.
use Rattle.std.proofs.Common.{◌≡◌, ℕ, zero, suc, ◌+◌, ◌≤◌, List, [], ◌∷◌, length, Some, Bool, true, false, refl, arith, Contains}
use Rattle.std.specs.List.{AllByRecursion, position_or_len}
use Rattle.std.specs.Prelude.{slice_get}
use Rattle.cool_syntax.specs.declared.file_tree.AttributeDef.{AttributeDef}
use Rattle.cool_syntax.specs.declared.file_tree.Feature.{Feature}
use Rattle.cool_syntax.specs.declared.file_tree.Feature.TheVariants.{Attribute, Method}
use Rattle.cool_classes.specs.declared.class_id.ClassId.{ClassId}
use Rattle.cool_classes.specs.Chains.{Class, features_of}
use Rattle.cool_classes.specs.ClimbedChains.{above, chain}
use Rattle.cool_classes.specs.Features.{attributes_of, own_attributes}
use Rattle.cool_layout.specs.Members.{attributes}
use Rattle.lists.proofs.Membership.{later_there}
use Rattle.std.proofs.lemmas.List.Elements.{Contains-append_right}

-- a place among some is no greater than their number
pub place_low : {X : Type 0} (q : X → Bool) (xs : List X) → position_or_len q xs ≤ length xs
place_low q [] = omega arith
place_low q (x ∷ xs) = step (q x) refl (place_low q xs)
  where
    step : (b : Bool) → q x ≡ b → position_or_len q xs ≤ length xs → position_or_len q (x ∷ xs) ≤ length (x ∷ xs)
    step true e low = grind (arith, e)
    step false e low = grind (arith, e, low)

-- all of some are among those and more
pub all_there : {X : Type 0} (ys xs : List X) → ((x : X) → Contains xs x → Contains ys x) → AllByRecursion (Contains ys) xs
all_there ys [] h = tt
all_there ys (x ∷ xs) h = (h x (zero, omega arith, refl), all_there ys xs (λ y k. h y (suc k.0, (let l = k.1 in omega arith), k.2)))

-- a feature that is an attribute is one of its class's own
own_there : (c : ClassId) (fs : List Feature) (k j n : ℕ) (a : AttributeDef) → slice_get fs j ≡ Some (Attribute a) → n ≡ k + j → Contains (own_attributes c k fs) (record { owner = c; index = n })
own_there c [] k j n a h e = absurd (cc)
own_there c (Method m ∷ fs) k zero n a h e = absurd (cc)
own_there c (Method m ∷ fs) k (suc j) n a h e = own_there c fs (k + 1) j n a h (omega arith)
own_there c (Attribute b ∷ fs) k zero n a h e = let same : k ≡ n = omega arith in (zero, omega arith, λ i. record { owner = c; index = same i })
own_there c (Attribute b ∷ fs) k (suc j) n a h e = later_there (record { owner = c; index = k }) (own_attributes c (k + 1) fs) (record { owner = c; index = n }) (own_there c fs (k + 1) j n a h (omega arith))

pub attribute_there : (p : List Class) (c : ClassId) (j : ℕ) (a : AttributeDef) → slice_get (features_of p c) j ≡ Some (Attribute a) → Contains (attributes p c) (record { owner = c; index = j })
unfolding chain
attribute_there p c j a is = Contains-append_right (attributes_of p (above p c)) (own_attributes c 0 (features_of p c)) (record { owner = c; index = j }) (own_there c (features_of p c) 0 j j a is (omega arith))
