-- In each loop that adds faults (compile-time errors), the faults added so far, followed by those of the remaining items, are the faults of all items.
use Rattle.std.proofs.Common.{◌≡◌, ℕ, zero, suc, ◌+◌, ◌<◌, ◌≤◌, List, is_some, [], ◌∷◌, ◌++◌, length, drop, get_or, Some, Option, None, ap, sym, ◌∙◌, refl, arith, append_assoc, append-nil}
use Rattle.std.proofs.lemmas.List.{get_or-map, drop_more}
use native.Mathlib.Numerals.{add-one}
use Rattle.cool_syntax.specs.declared.place.Place.{Place}
use Rattle.cool_syntax.specs.declared.file_tree.ClassDef.{ClassDef}
use Rattle.cool_classes.specs.declared.class_id.ClassId.{ClassId}
use Rattle.cool_classes.specs.declared.fault.ClassFault.{ClassFault}
use Rattle.cool_classes.specs.declared.fault.ClassKind.{ClassKind}
use Rattle.cool_classes.specs.declared.fault.ClassKind.TheVariants.{C5}
use Rattle.cool_classes.specs.Names.{first_named}
use Rattle.cool_classes.specs.Chains.{Class, class_number, parent_of, IsChain}
use Rattle.cool_classes.specs.ClassFaults.{of_kind, name_kind, names_faults, parent_faults, parents_faults, cycle_faults, place_at, features_from}
use Rattle.cool_classes.specs.FeatureFaults.{class_faults}
use Rattle.cool_classes.specs.Settled.{with_fault}
use Rattle.cool_classes.proofs.ChainsOfTables.{above_of}

-- the items from one position on
drop_first : {X : Type 0} (xs : List X) (i : ℕ) (d : X) → i < length xs → drop i xs ≡ get_or xs i d ∷ drop (suc i) xs
drop_first [] i d within = absurd (omega arith)
drop_first (y ∷ xs) zero d within = refl
drop_first (y ∷ xs) (suc i) d within = drop_first xs i d (omega arith)

-- the first item of those left is found next
pub next_found : {X : Type 0} (before more rest left now : List X) → left ≡ more ++ rest → now ≡ before ++ more → now ++ rest ≡ before ++ left
next_found before more rest left now first is =
    ap (λ xs. xs ++ rest) is ∙ append_assoc before more rest ∙ sym (ap (λ xs. before ++ xs) first)

-- the faults of the features of the next class
pub features_next : (p : List Class) (places : List Place) (k : ℕ) (before now : List ClassFault) (ds : List ClassId) (d : Place) → k < length places → IsChain p (parent_of p (class_number (5 + k))) ds
    → now ≡ before ++ class_faults p (class_number (5 + k)) ds (get_or places k d) → now ++ features_from p (5 + (k + 1)) (drop (k + 1) places) ≡ before ++ features_from p (5 + k) (drop k places)
features_next p places k before now ds d within chain is =
    let at = get_or places k d in
    let c = class_number (5 + k) in
    let n : suc (5 + k) ≡ 5 + (k + 1) = omega arith in
    let first : features_from p (5 + k) (drop k places) ≡ class_faults p c ds at ++ features_from p (5 + (k + 1)) (drop (k + 1) places) =
    ap (features_from p (5 + k)) (drop_more places k d within)
    ∙ (λ i. class_faults p c (above_of p c ds chain i) at ++ features_from p (n i) (drop (k + 1) places)) in
    next_found before (class_faults p c ds at) (features_from p (5 + (k + 1)) (drop (k + 1) places)) (features_from p (5 + k) (drop k places)) now first is

-- a fault that is added where there is one
pub with_kind : (kind : Option ClassKind) (at : Place) (fs : List ClassFault) → with_fault kind at fs ≡ fs ++ of_kind kind at
with_kind None at fs = sym (append-nil fs)
with_kind (Some kind) at fs = refl

-- the fault of the next name
pub names_next : (ds : List ClassDef) (k : ℕ) (d : ClassDef) (names next : List (List ℕ)) (before now : List ClassFault) (kind : Option ClassKind) → k < length ds → d ≡ get_or ds k d
    → names ++ d.name ∷ [] ≡ next → kind ≡ name_kind d.name (is_some (first_named 0 names d.name)) → now ≡ with_fault kind d.at before
    → now ++ names_faults next (drop (k + 1) ds) ≡ before ++ names_faults names (drop k ds)
names_next ds k d names next before now kind within here more is added =
    let first : names_faults names (drop k ds) ≡ of_kind kind d.at ++ names_faults next (drop (k + 1) ds) =
    ap (names_faults names) (drop_more ds k d within ∙ ap (λ (x : ClassDef). x ∷ drop (k + 1) ds) (sym here))
    ∙ (λ i. of_kind (sym is i) d.at ++ names_faults (more i) (drop (k + 1) ds)) in
    next_found before (of_kind kind d.at) (names_faults next (drop (k + 1) ds)) (names_faults names (drop k ds)) now first (added ∙ with_kind kind d.at before)

-- the faults of the next parent
pub parents_next : (names : List (List ℕ)) (ds : List ClassDef) (k : ℕ) (d : ClassDef) (before now : List ClassFault) → k < length ds → d ≡ get_or ds k d → now ≡ before ++ parent_faults names d.parent
    → now ++ parents_faults names (drop (k + 1) ds) ≡ before ++ parents_faults names (drop k ds)
parents_next names ds k d before now within here is =
    next_found before (parent_faults names d.parent) (parents_faults names (drop (k + 1) ds)) (parents_faults names (drop k ds)) now
    (ap (parents_faults names) (drop_more ds k d within ∙ ap (λ (x : ClassDef). x ∷ drop (k + 1) ds) (sym here))) is

-- the place of a definition
pub place_there : (ds : List ClassDef) (k : ℕ) (d : ClassDef) → k < length ds → (get_or ds k d).at ≡ place_at ds k
place_there ds k d within = sym (get_or-map (λ (x : ClassDef). x.at) ds k d (record { file = 0; line = 0; byte = 0 }) within)

-- the next fault of a cycle
pub cycles_next : (ds : List ClassDef) (cyclic : List ℕ) (i : ℕ) (d : ClassDef) (before now : List ClassFault) → i < length cyclic → get_or cyclic i 0 < length ds
    → now ≡ with_fault (Some C5) (get_or ds (get_or cyclic i 0) d).at before → now ++ cycle_faults ds (drop (i + 1) cyclic) ≡ before ++ cycle_faults ds (drop i cyclic)
cycles_next ds cyclic i d before now within there is =
    let k = get_or cyclic i 0 in
    next_found before (record { kind = C5; at = place_at ds k } ∷ []) (cycle_faults ds (drop (i + 1) cyclic)) (cycle_faults ds (drop i cyclic)) now (ap (cycle_faults ds) (drop_more cyclic i 0 within))
    (is ∙ ap (λ (at : Place). before ++ record { kind = C5; at = at } ∷ []) (place_there ds k d there))

-- three parts
pub joined_three : {X : Type 0} (old a b c n1 n2 n3 : List X) → n1 ≡ old ++ a → n2 ≡ n1 ++ b → n3 ≡ n2 ++ c → n3 ≡ old ++ (a ++ (b ++ c))
joined_three {X} old a b c n1 n2 n3 e1 e2 e3 = e3 ∙ ap (λ (xs : List X). xs ++ c) (e2 ∙ ap (λ (xs : List X). xs ++ b) e1) ∙ regrouped
  where
    regrouped : ((old ++ a) ++ b) ++ c ≡ old ++ (a ++ (b ++ c))
    regrouped = simp append_assoc

-- past the end nothing is left
pub drop_past : {X : Type 0} (xs : List X) (n : ℕ) → length xs ≤ n → drop n xs ≡ []
drop_past [] zero past = refl
drop_past [] (suc n) past = refl
drop_past (x ∷ xs) zero past = absurd (omega arith)
drop_past (x ∷ xs) (suc n) past = drop_past xs n (omega arith)
