-- The depth of a class (the number of its ancestors) is 0 for Object, and 1 for each other basic class.
use Rattle.std.proofs.Common.{◌≡◌, ◌≢◌, ℕ, zero, suc, ◌<◌, List, refl, arith}
use Rattle.cool_classes.specs.declared.class_id.ClassId.{ClassId}
use Rattle.cool_classes.specs.Chains.{class_number}
use Rattle.cool_classes.specs.Depths.{parents_with_basic, HasDepth}

-- no class stands above Object
pub basic_top : (parents : List ClassId) (n : ℕ) → n ≡ 0 → HasDepth (parents_with_basic parents) n 0
basic_top parents zero e = refl
basic_top parents (suc n) e = absurd (omega arith)

-- one class stands above each other basic class
pub basic_below : (parents : List ClassId) (n : ℕ) → n < 5 → n ≢ 0 → HasDepth (parents_with_basic parents) n 1
basic_below parents zero h other = absurd (other refl)
basic_below parents (suc zero) h other = (class_number 0, refl, refl)
basic_below parents (suc (suc zero)) h other = (class_number 0, refl, refl)
basic_below parents (suc (suc (suc zero))) h other = (class_number 0, refl, refl)
basic_below parents (suc (suc (suc (suc zero)))) h other = (class_number 0, refl, refl)
basic_below parents (suc (suc (suc (suc (suc n))))) h other = absurd (omega arith)
