-- Each step of the loop of `basic_names`, which maps the names of the basic classes to their numbers, adds the name of the next basic class.
use Rattle.std.proofs.Common.{◌≡◌, ℕ, zero, suc, ◌+◌, ◌<◌, List, [], ◌∷◌, ◌++◌, length, map, take, get_or, Some, sym, ap, ◌∙◌, refl, arith}
use Rattle.std.proofs.lemmas.List.{take_more}
use Rattle.cool_classes.specs.Chains.{class_number, name_of}
use Rattle.cool_classes.specs.Settled.{basic_names}
use Rattle.cool_classes.specs.Tables.{basic_classes}

name_there : (k : ℕ) → k < 5 → name_of basic_classes (class_number k) ≡ get_or basic_names k []
name_there zero less = refl
name_there (suc zero) less = refl
name_there (suc (suc zero)) less = refl
name_there (suc (suc (suc zero))) less = refl
name_there (suc (suc (suc (suc zero)))) less = refl
name_there (suc (suc (suc (suc (suc k))))) less = absurd (omega arith)

-- one name more
pub basic_more : (k : ℕ) (name : List ℕ) → k < 5 → name ≡ name_of basic_classes (class_number k) → take k basic_names ++ name ∷ [] ≡ take (k + 1) basic_names
basic_more k name less is = ap (λ (n : List ℕ). take k basic_names ++ n ∷ []) (is ∙ name_there k less) ∙ sym (take_more basic_names k [] less)

-- the number of the next class
pub basic_next : (k : ℕ) → k < 5 → k ≡ length (map Some (take k basic_names))
basic_next zero less = refl
basic_next (suc zero) less = refl
basic_next (suc (suc zero)) less = refl
basic_next (suc (suc (suc zero))) less = refl
basic_next (suc (suc (suc (suc zero)))) less = refl
basic_next (suc (suc (suc (suc (suc k))))) less = absurd (omega arith)
