-- If all labels of some lines differ, the labels of the lines so far are different from the labels of the lines that follow.
use Rattle.std.proofs.Common.{◌≡◌, ◌≢◌, List, [], ◌∷◌, ◌++◌, refl, sym, ◌∙◌, Bool, true, false}
use Rattle.std.specs.Prelude.{bytes_eq, Contains}
use Rattle.std.specs.List.{AllByRecursion}
use Rattle.std.proofs.lemmas.Bool.{or_from}
use Rattle.std.proofs.lemmas.List.Folds.{list_any-append, list_any_at}
use Rattle.std.proofs.lemmas.Slice.Eq.{bytes_eq-Decides}
use Rattle.mips_isa.specs.Lines.{Name}
use Rattle.mips_isa.specs.Assembly.{has, any_twice}
use Rattle.lists.specs.Different.{AreDifferent}
use Rattle.lists.proofs.AllItems.{all_right}

-- a name among names is found
pub found_among : (names : List Name) (name : Name) → Contains names name → has names name ≡ true
found_among names name at = list_any_at (bytes_eq name) names at.0 name at.1 ((bytes_eq-Decides name _).1 (sym at.2))

-- none of the names was seen
abbrev pub AreNew : List Name → List Name → Type 0
AreNew seen = AllByRecursion (λ (name : Name). has seen name ≡ false)

-- nothing was seen at first
pub nothing_seen : (names : List Name) → AreNew [] names
nothing_seen [] = tt
nothing_seen (name ∷ names) = (refl, nothing_seen names)

-- one name more was seen, which is none of them
one_more_seen : (first : Name) (seen names : List Name) → AllByRecursion (λ (other : Name). other ≢ first) names
    → AreNew seen names → AreNew (first ∷ seen) names
one_more_seen first seen [] apart new = tt
one_more_seen first seen (name ∷ names) apart new =
    (or_from (bytes_eq name first) (has seen name) (by (bytes_eq name first) refl) new.0, one_more_seen first seen names apart.1 new.1)
  where
    by : (b : Bool) → bytes_eq name first ≡ b → b ≡ false
    by true e = absurd (apart.0 ((bytes_eq-Decides name first).0 e))
    by false e = refl

-- if names are different, the last ones are different from the first ones
after_new : (front back : List Name) → AreDifferent (front ++ back) → AreNew front back
after_new [] back apart = nothing_seen back
after_new (name ∷ front) back apart =
    one_more_seen name front back (all_right (λ (other : Name). other ≢ name) front back apart.0) (after_new front back apart.1)

-- and from each other
after_different : (front back : List Name) → AreDifferent (front ++ back) → AreDifferent back
after_different [] back apart = apart
after_different (name ∷ front) back apart = after_different front back apart.1

-- names that are new to two lists are new to both together
both_seen : (seen more names : List Name) → AreNew seen names → AreNew more names → AreNew (seen ++ more) names
both_seen seen more [] h k = tt
both_seen seen more (name ∷ names) h k =
    (list_any-append (bytes_eq name) seen more ∙ or_from (has seen name) (has more name) h.0 k.0, both_seen seen more names h.1 k.1)

-- no name that is new stands twice
none_twice : (seen front back : List Name) → AreNew seen (front ++ back) → AreDifferent (front ++ back) → any_twice seen front ≡ false
none_twice seen [] back new apart = refl
none_twice seen (name ∷ front) back new apart =
    or_from (has seen name) (any_twice (name ∷ seen) front) new.0
    (none_twice (name ∷ seen) front back (one_more_seen name seen (front ++ back) apart.0 new.1) apart.1)

-- The labels `front` of one line are new and different, and the labels `back` of the following lines are new after them.
pub record LeftOnce (seen front back : List Name) : Type 0 where
  pub once : any_twice seen front ≡ false
  pub new : AreNew (seen ++ front) back
  pub different : AreDifferent back

-- different names that are new leave such names
pub left_once : (seen front back : List Name) → AreNew seen (front ++ back) → AreDifferent (front ++ back) → LeftOnce seen front back
left_once seen front back new apart = record {
  once = none_twice seen front back new apart;
  new = both_seen seen front back (all_right (λ (name : Name). has seen name ≡ false) front back new) (after_new front back apart);
  different = after_different front back apart;
}
