-- Searching a class's features for the name of one of its methods finds the position of this method.
use Rattle.std.proofs.Common.{◌≡◌, ◌≢◌, ℕ, suc, ◌+◌, List, [], ◌∷◌, ◌++◌, length, Some, Bool, true}
use Rattle.std.proofs.Common.{false, refl, sym, ap, ◌∙◌, subst, arith, append_assoc, length-append}
use Rattle.std.specs.Prelude.{bytes_eq, slice_get, if◌then◌else◌}
use Rattle.std.specs.List.{AllByRecursion}
use Rattle.cool_syntax.specs.declared.file_tree.Feature.{Feature}
use Rattle.cool_syntax.specs.declared.file_tree.Feature.TheVariants.{Method, Attribute}
use Rattle.cool_classes.specs.Features.{first_method}
use Rattle.cool_classes.specs.LawfulTables.{method_names}
use Rattle.lists.specs.Different.{AreDifferent}
use Rattle.lists.proofs.EqualBytes.{bytes_equal, bytes_eq-same}
use Rattle.lists.proofs.ItemsAt.{seam_get}

-- features stand in their places, which begin at one
abbrev pub EachInPlace : (ℕ → Feature → Type 0) → ℕ → List Feature → Type 0
EachInPlace P k [] = Unit {0}
EachInPlace P k (f ∷ fs) = P k f × EachInPlace P (k + 1) fs

-- a weaker property holds for each, too
pub each-weaker : (P Q : ℕ → Feature → Type 0) (k : ℕ) (fs : List Feature) → ((j : ℕ) (f : Feature) → P j f → Q j f)
    → EachInPlace P k fs → EachInPlace Q k fs
each-weaker P Q k [] w h = tt
each-weaker P Q k (f ∷ fs) w h = (w k f h.0, each-weaker P Q (k + 1) fs w h.1)

-- a feature is found at its place, and a method by its name
abbrev pub IsFound : List Feature → ℕ → Feature → Type 0
IsFound all k (Method m) = (slice_get all k ≡ Some (Method m)) × (first_method 0 all m.name ≡ Some k)
IsFound all k (Attribute a) = Unit {0}

-- the method after others has a property that the names of all have
last_of : (P : List ℕ → Type 0) (front : List Feature) (name : List ℕ) (names : List (List ℕ)) (all : List Feature)
    → method_names all ≡ name ∷ names → AllByRecursion P (method_names (front ++ all)) → P name
last_of P [] name names all e h = (subst (AllByRecursion P) e h).0
last_of P (Method m ∷ front) name names all e h = last_of P front name names all e h.1
last_of P (Attribute a ∷ front) name names all e h = last_of P front name names all e h

-- the search passes over methods of other names
search : (k : ℕ) (front all : List Feature) (name : List ℕ) (names : List (List ℕ))
    → method_names all ≡ name ∷ names → AreDifferent (method_names (front ++ all))
    → first_method k (front ++ all) name ≡ first_method (k + length front) all name
search k [] all name names e d = let l : k ≡ k + 0 = omega arith in ap (λ j. first_method j all name) l
search k (Method m ∷ front) all name names e d = by (bytes_eq m.name name) refl (search (k + 1) front all name names e d.1)
  where
    other : name ≢ m.name
    other = last_of (λ other. other ≢ m.name) front name names all e d.0

    by : (b : Bool) → bytes_eq m.name name ≡ b → first_method (k + 1) (front ++ all) name ≡ first_method (k + 1 + length front) all name
        → (if b then Some k else first_method (k + 1) (front ++ all) name) ≡ first_method (k + length (Method m ∷ front)) all name
    by true t more = absurd (other (sym (bytes_equal m.name name t)))
    by false t more = let l : k + 1 + length front ≡ k + suc (length front) = omega arith in more ∙ ap (λ j. first_method j all name) l
search k (Attribute a ∷ front) all name names e d =
    let l : k + 1 + length front ≡ k + suc (length front) = omega arith in
    search (k + 1) front all name names e d ∙ ap (λ j. first_method j all name) l

-- features after others are found
found_after : (front fs : List Feature) → AreDifferent (method_names (front ++ fs)) → EachInPlace (IsFound (front ++ fs)) (length front) fs
found_after front [] d = tt
found_after front (f ∷ fs) d =
    let back : (front ++ f ∷ []) ++ fs ≡ front ++ f ∷ fs = append_assoc front (f ∷ []) fs in
    let l : length (front ++ f ∷ []) ≡ length front + 1 = length-append front (f ∷ []) in
    let rest = found_after (front ++ f ∷ []) fs (subst (λ (gs : List Feature). AreDifferent (method_names gs)) (sym back) d) in (
      here f d,
      subst (λ (j : ℕ). EachInPlace (IsFound (front ++ f ∷ fs)) j fs) l
          (subst (λ (gs : List Feature). EachInPlace (IsFound gs) (length (front ++ f ∷ [])) fs) back rest),
    )
  where
    here : (f : Feature) → AreDifferent (method_names (front ++ f ∷ fs)) → IsFound (front ++ f ∷ fs) (length front) f
    here (Attribute a) d = tt
    here (Method m) d =
        let l : 0 + length front ≡ length front = omega arith in (
          seam_get front (Method m) fs,
          search 0 front (Method m ∷ fs) m.name (method_names fs) refl d ∙ ap (λ (b : Bool). if b then Some (0 + length front)
              else first_method (0 + length front + 1) fs m.name) (bytes_eq-same m.name) ∙ ap Some l,
        )

-- each feature of a class is found
pub all_found : (fs : List Feature) → AreDifferent (method_names fs) → EachInPlace (IsFound fs) 0 fs
all_found fs d = found_after [] fs d
