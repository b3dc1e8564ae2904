-- A look-up by name in a complete class table finds the class that has the name.
use Rattle.std.proofs.Common.{◌≡◌, ℕ, zero, suc, ◌+◌, ◌<◌, List, [], ◌∷◌, map, length, get_or, Some, Bool, true, false, cond, ap, sym, ◌∙◌, refl, arith, true≢false}
use Rattle.std.specs.Prelude.{bytes_eq}
use Rattle.std.proofs.lemmas.Slice.Eq.{bytes_eq-Decides}
use Rattle.cool_classes.specs.declared.class_id.ClassId.{ClassId}
use Rattle.cool_classes.specs.Chains.{Class, class_number, nothing, name_of}
use Rattle.cool_classes.specs.Names.{first_named}
use Rattle.cool_classes.specs.Tables.{IsTable}
use Rattle.cool_rules.specs.Rules.{class_named}

-- a class of a name is found by it, or an earlier one of the name
first_named_by : (k : ℕ) (p : List Class) (f : List ℕ) (i : ℕ) → i < length p → (get_or p i nothing).name ≡ f
    → (j : ℕ) × (n : ℕ) × (n ≡ k + j) × (first_named k (map (λ (c : Class). c.name) p) f ≡ Some (class_number n)) × (j < length p) × ((get_or p j nothing).name ≡ f)
first_named_by k [] f i less is = absurd (omega arith)
first_named_by k (x ∷ p) f i less is = by (bytes_eq f x.name) refl i less is (first_named_by (k + 1) p f)
  where
    by : (b : Bool) → bytes_eq f x.name ≡ b → (i : ℕ) → i < length (x ∷ p) → (get_or (x ∷ p) i nothing).name ≡ f
        → ((i : ℕ) → i < length p → (get_or p i nothing).name ≡ f
        → (j : ℕ) × (n : ℕ) × (n ≡ k + 1 + j) × (first_named (k + 1) (map (λ (c : Class). c.name) p) f ≡ Some (class_number n)) × (j < length p) × ((get_or p j nothing).name ≡ f))
        → (j : ℕ) × (n : ℕ) × (n ≡ k + j) × (cond b (Some (class_number k)) (first_named (k + 1) (map (λ (c : Class). c.name) p) f) ≡ Some (class_number n)) × (j < length (x ∷ p)) × ((get_or (x ∷ p) j nothing).name ≡ f)
    by true e i less is more = (0, k, omega arith, refl, omega arith, sym ((bytes_eq-Decides f x.name).0 e))
    by false e zero less is more = absurd (true≢false (sym ((bytes_eq-Decides f x.name).1 (sym is)) ∙ e))
    by false e (suc i) less is more = let (j, n, sum, found, within, named) = more i (omega arith) is in (suc j, n, omega arith, found, omega arith, named)

-- the class of a name is found by it
pub class_by_name : (p : List Class) → IsTable p → (c : ClassId) (name : List ℕ) → c.0 < length p → name_of p c ≡ name → class_named p name ≡ Some c
class_by_name p table c name within is =
    let (j, n, sum, found, j_within, named) = first_named_by 0 p name c.0 within is in
    let same : n ≡ j = omega arith in
    found ∙ ap (λ (k : ℕ). Some (class_number k)) same ∙ ap Some (table.names (class_number j) c j_within within (named ∙ sym is))
