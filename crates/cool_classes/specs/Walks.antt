-- Invariants of the walks from each class definition up to its ancestors, by which the code computes depths (numbers of ancestors) and finds cycles: `IsClimb`
-- for one walk, `AreWalked` for all walks so far.
use Rattle.std.specs.Prelude.{◌≡◌, ◌≢◌, ◌⊎◌, ℕ, ◌+◌, ◌<◌, ◌≤◌, List, [], ◌∷◌, length, get_or, slice_set, Contains, Option, Some, None, IsSome, is_none, nat_eq, if◌then◌else◌, refl}
use Rattle.std.specs.List.{AllByRecursion, count_by}
use Rattle.cool_classes.specs.declared.class_id.ClassId.{ClassId}
use Rattle.cool_classes.specs.declared.depths.Above.{Above}
use Rattle.cool_classes.specs.declared.depths.Above.TheVariants.{Known, Cycle, Lost}
use Rattle.cool_classes.specs.Cycles.{IsOnCycle, AreApart}
use Rattle.cool_classes.specs.Depths.{parents_with_basic, HasDepth}

-- the number of definitions that no walk has passed
abbrev pub unpassed : List (Option ℕ) → ℕ
unpassed = count_by is_none

-- the depths after those of a path are noted, the last definition of the path below a class of this depth
abbrev pub settled : List ℕ → ℕ → List (Option ℕ) → List (Option ℕ)
settled [] above known = known
settled (k ∷ ks) above known = settled ks (above + 1) (slice_set known k (Some (above + 1)))

-- the definitions of a path from its last one back to this one
abbrev pub cycle_of : ℕ → List ℕ → List ℕ
cycle_of first [] = []
cycle_of first (k ∷ ks) = k ∷ (if nat_eq k first then [] else cycle_of first ks)

-- each definition of a path has the next one as its parent, the last one this class
abbrev pub LeadsTo : List ClassId → List ℕ → ℕ → Type 0
LeadsTo parents [] c = Unit {0}
LeadsTo parents (k ∷ ks) c = (q : ClassId) × (get_or (parents_with_basic parents) (k + 5) None ≡ Some q) × (q.0 ≡ c) × LeadsTo parents ks (k + 5)

-- the end of a climb: at a class of known depth, at a definition that this climb has passed, or at one that an earlier climb passed
abbrev pub IsAbove : List ClassId → List (Option ℕ) → List (Option ℕ) → ℕ → List (Option ℕ) → List ℕ → Above → Type 0
IsAbove parents known before start after path (Known d) =
    (c : ℕ) × LeadsTo parents path c × (((k : ℕ) × (c ≡ k + 5) × (get_or known k None ≡ Some d)) ⊎ ((d < 2) × HasDepth (parents_with_basic parents) c d))
IsAbove parents known before start after path (Cycle k) = get_or after k None ≡ Some start
IsAbove parents known before start after path Lost = (k w : ℕ) × (get_or known k None ≡ None) × (get_or before k None ≡ Some w)

-- a climb that comes to no depth leads to a definition that it passed, or to one that was passed before
abbrev pub ComesBack : List ClassId → List (Option ℕ) → List ℕ → Above → Type 0
ComesBack parents before path (Known d) = Unit {0}
ComesBack parents before path (Cycle k) = LeadsTo parents path (k + 5)
ComesBack parents before path Lost = (k w : ℕ) × LeadsTo parents path (k + 5) × (get_or before k None ≡ Some w)

-- the definitions of a path are passed, each for the first time
pub record AreFresh (before after : List (Option ℕ)) (path : List ℕ) : Type 0 where
  pub fresh : AllByRecursion (λ (k : ℕ). get_or before k None ≡ None) path
  pub marked : AllByRecursion (λ (k : ℕ). IsSome (get_or after k None)) path
  pub apart : AreApart path
  pub kept : (k : ℕ) → IsSome (get_or before k None) → IsSome (get_or after k None)

-- the state after a climb from a definition
pub record IsClimb (parents : List ClassId) (known before : List (Option ℕ)) (start : ℕ) (after : List (Option ℕ)) (path : List ℕ) (above : Above) : Type 0 where
  pub comes_to : IsAbove parents known before start after path above
  pub within : AllByRecursion (λ (k : ℕ). k < length parents) path
  pub passed : (k w : ℕ) → get_or after k None ≡ Some w → (get_or before k None ≡ Some w) ⊎ ((w ≡ start) × Contains path k)
  pub starts : IsSome (get_or known start None) ⊎ IsSome (get_or after start None)
  pub count : unpassed after + length path ≡ unpassed before
  pub fresh : AreFresh before after path
  pub comes_back : ComesBack parents before path above

-- the definitions on cycles among those that were passed are noted, each once; and so far each is passed whose depth is not known
pub record AreCaught (parents : List ClassId) (start : ℕ) (known : List (Option ℕ)) (cyclic : List ℕ) (passed : List (Option ℕ)) : Type 0 where
  pub noted : AllByRecursion (λ (k : ℕ). IsSome (get_or passed k None)) cyclic
  pub only : AllByRecursion (IsOnCycle parents) cyclic
  pub once : AreApart cyclic
  pub closed : (k j : ℕ) (q : ClassId) → Contains cyclic k → get_or (parents_with_basic parents) (k + 5) None ≡ Some q → q.0 ≡ j + 5 → Contains cyclic j
  pub caught : (k : ℕ) → IsSome (get_or passed k None) → IsOnCycle parents k → Contains cyclic k
  pub met : (k : ℕ) → k < start → IsSome (get_or known k None) ⊎ IsSome (get_or passed k None)

-- the depth of a definition is known, or a cycle is found
abbrev pub IsFound : List (Option ℕ) → List ℕ → ℕ → Type 0
IsFound known cyclic k = IsSome (get_or known k None) ⊎ (cyclic ≢ [])

-- The walks from the first `start` definitions are done.
pub record AreWalked (parents : List ClassId) (start : ℕ) (known : List (Option ℕ)) (cyclic : List ℕ) (passed : List (Option ℕ)) : Type 0 where
  pub same_known : length known ≡ length parents
  pub same_passed : length passed ≡ length parents
  pub right : (k d : ℕ) → get_or known k None ≡ Some d → HasDepth (parents_with_basic parents) (k + 5) d
  pub low : (k d : ℕ) → get_or known k None ≡ Some d → d + unpassed passed ≤ length parents + 1
  pub before : (k w : ℕ) → get_or passed k None ≡ Some w → w < start
  pub seen : (k w : ℕ) → get_or passed k None ≡ Some w → IsFound known cyclic k
  pub done : (k : ℕ) → k < start → IsFound known cyclic k
  pub cycles : AreCaught parents start known cyclic passed
  pub within : AllByRecursion (λ (k : ℕ). k < length parents) cyclic

-- Worked examples: the path of two definitions, the second last, below a class of depth 1.
settled_two : settled (1 ∷ 0 ∷ []) 1 (None ∷ None ∷ None ∷ []) ≡ Some 3 ∷ Some 2 ∷ None ∷ []
settled_two = refl

cycle_of_two : cycle_of 1 (2 ∷ 1 ∷ 0 ∷ []) ≡ 2 ∷ 1 ∷ []
cycle_of_two = refl
