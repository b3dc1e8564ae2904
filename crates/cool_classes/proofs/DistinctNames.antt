-- If no class has the name of an earlier class, different classes have different names.
use Rattle.std.proofs.Common.{◌≡◌, ◌≢◌, inl, inr, ℕ, zero, suc, ◌+◌, ◌<◌, List, [], length, take, get_or, Some, None, sym, ap, ◌∙◌, refl, arith}
use Rattle.std.specs.Prelude.{codes}
use Rattle.std.proofs.lemmas.List.{length-take-le, get_or-take}
use Rattle.std.proofs.lemmas.Bool.{cases_order}
use Rattle.std.proofs.lemmas.Option.{none-some, slice_get-get_or}
use Rattle.cool_syntax.specs.declared.file_tree.ClassDef.{ClassDef}
use Rattle.cool_classes.specs.Names.{first_named, self_type}
use Rattle.cool_classes.specs.Settled.{names_with_basic, AreNamedAnew}
use Rattle.cool_classes.proofs.FirstIndexes.{named_found}
use Rattle.cool_classes.proofs.NamesOfDefinitions.{names_long}

-- each name is new where it stands
abbrev AreNew : List (List ℕ) → Type 0
AreNew names = (k : ℕ) → k < length names → first_named 0 (take k names) (get_or names k []) ≡ None

-- a name that is new stands nowhere before
not_before : (names : List (List ℕ)) → AreNew names → (j k : ℕ) → k < length names → j < k → get_or names j [] ≢ get_or names k []
not_before names new j k within less same =
    let long : length (take k names) ≡ k = length-take-le k names (omega arith) in
    let there = slice_get-get_or (take k names) j [] (omega arith) ∙ ap Some (get_or-take k names j [] less ∙ same) in
    let found = named_found 0 (take k names) j (get_or names k []) there in
    none-some found.0 (sym (new k within) ∙ found.1)

-- two places with one name are one
pub same_place : (names : List (List ℕ)) → AreNew names → (j k : ℕ) → j < length names → k < length names → get_or names j [] ≡ get_or names k [] → j ≡ k
same_place names new j k j_within k_within same =
    elim (cases_order j k) [ inl e ↦ e | inr less ↦ absurd (elim less [ inl before ↦ not_before names new j k k_within before same | inr after ↦ not_before names new k j j_within after (sym same) ]) ]

-- the names of basic classes and of definitions without faults are new where they stand
pub all_new : (ds : List ClassDef) → AreNamedAnew ds (length ds) → (k : ℕ) → k < length (names_with_basic ds) → first_named 0 (take k (names_with_basic ds)) (get_or (names_with_basic ds) k []) ≡ None
all_new ds named zero within = refl
all_new ds named (suc zero) within = refl
all_new ds named (suc (suc zero)) within = refl
all_new ds named (suc (suc (suc zero))) within = refl
all_new ds named (suc (suc (suc (suc zero)))) within = refl
all_new ds named (suc (suc (suc (suc (suc k))))) within = let long = names_long ds in (named k (omega arith)).anew

-- texts with another byte at a place are different
byte_apart : (xs ys : List ℕ) (k : ℕ) → get_or xs k 0 ≢ get_or ys k 0 → xs ≢ ys
byte_apart xs ys k apart e = apart (ap (λ (zs : List ℕ). get_or zs k 0) e)

-- no class is named SELF_TYPE
pub no_self_types : (ds : List ClassDef) → AreNamedAnew ds (length ds) → (k : ℕ) → k < length ds + 5 → get_or (names_with_basic ds) k [] ≢ self_type
no_self_types ds named zero within = byte_apart (codes "Object") self_type 0 (λ e. omega arith)
no_self_types ds named (suc zero) within = byte_apart (codes "IO") self_type 0 (λ e. omega arith)
no_self_types ds named (suc (suc zero)) within = byte_apart (codes "Int") self_type 0 (λ e. omega arith)
no_self_types ds named (suc (suc (suc zero))) within = byte_apart (codes "Bool") self_type 0 (λ e. omega arith)
no_self_types ds named (suc (suc (suc (suc zero)))) within = byte_apart (codes "String") self_type 1 (λ e. omega arith)
no_self_types ds named (suc (suc (suc (suc (suc k))))) within = (named k (omega arith)).no_self_type
