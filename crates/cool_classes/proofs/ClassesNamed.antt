-- A name denotes the class at the first index at which the name stands in the list of the names of all classes.
use Rattle.std.proofs.Common.{◌≡◌, ◌≢◌, ℕ, zero, suc, ◌+◌, ◌<◌, List, [], ◌∷◌, map, length, get_or, Option, Some, None, Bool, true, false, cond, ap, sym, ◌∙◌, refl, subst, arith, true≢false}
use Rattle.std.specs.Prelude.{bytes_eq, option_map}
use Rattle.std.proofs.lemmas.Slice.Eq.{bytes_eq-Decides}
use Rattle.cool_classes.specs.declared.class_id.ClassId.{ClassId}
use Rattle.cool_classes.specs.Chains.{Class, class_number, nothing, name_of}
use Rattle.cool_classes.specs.FirstNames.{first_index}
use Rattle.cool_classes.specs.Names.{first_named}
use Rattle.cool_classes.specs.Tables.{IsNamed}

-- the names of classes in a row
abbrev name_row : List Class → List (Option (List ℕ))
name_row = map (λ (c : Class). Some c.name)

-- this class stands at this index, where the row begins at a number, and has the name
abbrev StandsAt : ℕ → List Class → List ℕ → ℕ → Type 0
StandsAt k p f j = (i : ℕ) × (j ≡ k + i) × (i < length p) × ((get_or p i nothing).name ≡ f)

-- a class at the first index of a name has the name
found_at : (k : ℕ) (p : List Class) (f : List ℕ) (j : ℕ) → first_index k (name_row p) f ≡ Some j → StandsAt k p f j
found_at k [] f j h = absurd (cc)
found_at k (x ∷ p) f j h = by (bytes_eq f x.name) refl h (found_at (k + 1) p f j)
  where
    by : (b : Bool) → bytes_eq f x.name ≡ b → cond b (Some k) (first_index (k + 1) (name_row p) f) ≡ Some j
        → (first_index (k + 1) (name_row p) f ≡ Some j → StandsAt (k + 1) p f j) → StandsAt k (x ∷ p) f j
    by true e h more = let here : k ≡ j = cc in (0, omega arith, omega arith, sym ((bytes_eq-Decides f x.name).0 e))
    by false e h more = let w = more h in let s = w.1 in let less = w.2 in (suc w.0, omega arith, omega arith, w.3)

-- if a name has no first index, no class has it
missing_at : (k : ℕ) (p : List Class) (f : List ℕ) → first_index k (name_row p) f ≡ None → (i : ℕ) → i < length p → (get_or p i nothing).name ≢ f
missing_at k [] f h i less = absurd (omega arith)
missing_at k (x ∷ p) f h i less = by (bytes_eq f x.name) refl h (missing_at (k + 1) p f) i less
  where
    by : (b : Bool) → bytes_eq f x.name ≡ b → cond b (Some k) (first_index (k + 1) (name_row p) f) ≡ None
        → (first_index (k + 1) (name_row p) f ≡ None → (i : ℕ) → i < length p → (get_or p i nothing).name ≢ f)
        → (i : ℕ) → i < length (x ∷ p) → (get_or (x ∷ p) i nothing).name ≢ f
    by true e h more i less = absurd (cc)
    by false e h more zero less = λ same. true≢false (sym ((bytes_eq-Decides f x.name).1 (sym same)) ∙ e)
    by false e h more (suc i) less = let below : i < length p = omega arith in more h i below

-- the class at the first index of a name is that of the name, and without such an index there is none
pub named_by : (p : List Class) (f : List ℕ) (o : Option ℕ) → o ≡ first_index 0 (name_row p) f → IsNamed p f (option_map class_number o)
named_by p f None e = λ c less. missing_at 0 p f (sym e) c.0 less
named_by p f (Some j) e =
    let w = found_at 0 p f j (sym e) in
    let same : w.0 ≡ j = let s = w.1 in omega arith in (
      subst (λ (n : ℕ). n < length p) same w.2,
      subst (λ (n : ℕ). (get_or p n nothing).name ≡ f) same w.3,
    )

-- the class that a name means has the name, where the row begins at a number
named_from : (k : ℕ) (p : List Class) (f : List ℕ) (c : ClassId) → first_named k (map (λ (x : Class). x.name) p) f ≡ Some c → StandsAt k p f c.0
named_from k [] f c e = absurd (cc)
named_from k (x ∷ p) f c e = by (bytes_eq f x.name) refl e (named_from (k + 1) p f c)
  where
    by : (b : Bool) → bytes_eq f x.name ≡ b → cond b (Some (class_number k)) (first_named (k + 1) (map (λ (y : Class). y.name) p) f) ≡ Some c
        → (first_named (k + 1) (map (λ (y : Class). y.name) p) f ≡ Some c → StandsAt (k + 1) p f c.0) → StandsAt k (x ∷ p) f c.0
    by true t e more = let same : class_number k ≡ c = cc in let here : k ≡ c.0 = ap (λ (d : ClassId). d.0) same in (0, omega arith, omega arith, sym ((bytes_eq-Decides f x.name).0 t))
    by false t e more = let w = more e in let s = w.1 in let less = w.2 in (suc w.0, omega arith, omega arith, w.3)

pub named_back : (p : List Class) (f : List ℕ) (c : ClassId) → first_named 0 (map (λ (x : Class). x.name) p) f ≡ Some c → (c.0 < length p) × (name_of p c ≡ f)
named_back p f c e =
    let w = named_from 0 p f c e in
    let same : w.0 ≡ c.0 = let s = w.1 in omega arith in
    (subst (λ (n : ℕ). n < length p) same w.2, subst (λ (n : ℕ). (get_or p n nothing).name ≡ f) same w.3)
