-- `HasDepth` says how many classes are above a class, and `AreDepths` that a list has this number for each definition (the Cool manual, section 3).
use Rattle.std.specs.Prelude.{◌≡◌, ℕ, zero, suc, ◌+◌, ◌<◌, List, [], ◌∷◌, map, length, get_or, Option, Some, None, refl}
use Rattle.cool_classes.specs.declared.class_id.ClassId.{ClassId}
use Rattle.cool_classes.specs.Chains.{class_number}

-- the parents of the basic classes and, after them, those of definitions
abbrev pub parents_with_basic : List ClassId → List (Option ClassId)
parents_with_basic parents =
    None ∷ Some (class_number 0) ∷ Some (class_number 0) ∷ Some (class_number 0) ∷ Some (class_number 0) ∷ map Some parents

-- so many classes stand above a class
abbrev pub HasDepth : List (Option ClassId) → ℕ → ℕ → Type 0
HasDepth all c zero = get_or all c None ≡ None
HasDepth all c (suc d) = (q : ClassId) × (get_or all c None ≡ Some q) × HasDepth all q.0 d

-- the depth of each definition is known and right
pub record AreDepths (parents : List ClassId) (depths : List (Option ℕ)) : Type 0 where
  pub same : length depths ≡ length parents
  pub right : (k : ℕ) → k < length parents → (d : ℕ) × (get_or depths k None ≡ Some d) × HasDepth (parents_with_basic parents) (k + 5) d

-- Worked example: a class below IO stands below two classes.
depth_below_io : HasDepth (parents_with_basic (class_number 1 ∷ [])) 5 2
depth_below_io = (class_number 1, refl, (class_number 0, refl, refl))
