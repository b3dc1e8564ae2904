-- A name that occurs in a list of names has a first index there, and the item at this index has the name.
use Rattle.std.proofs.Common.{◌≡◌, ℕ, zero, suc, ◌+◌, ◌<◌, ◌≤◌, List, [], ◌∷◌, ◌++◌, length, map, take, Option, Some, None, Bool, true, false, sym, ap, ◌∙◌, refl, arith, true≢false}
use Rattle.std.specs.Prelude.{slice_get, bytes_eq, if◌then◌else◌}
use Rattle.std.proofs.lemmas.Option.{none-some, same_Some}
use Rattle.std.proofs.lemmas.Slice.Eq.{bytes_eq-Decides}
use Rattle.cool_syntax.specs.declared.file_tree.AttributeDef.{AttributeDef}
use Rattle.cool_syntax.specs.declared.file_tree.Feature.{Feature}
use Rattle.cool_syntax.specs.declared.file_tree.Feature.TheVariants.{Method, Attribute}
use Rattle.cool_syntax.specs.declared.file_tree.Formal.{Formal}
use Rattle.cool_syntax.specs.declared.file_tree.MethodDef.{MethodDef}
use Rattle.cool_classes.specs.declared.class_id.ClassId.{ClassId}
use Rattle.cool_classes.specs.Chains.{Class, class_number, name_of}
use Rattle.cool_classes.specs.FirstNames.{first_with, first_index, is_named, method_name, attribute_name}
use Rattle.cool_classes.specs.Names.{first_named}
use Rattle.lists.proofs.EqualBytes.{bytes_eq-same}

-- right behind a list stands what comes first after it
pub seam_get : {X : Type 0} (xs ys : List X) (x : X) → slice_get (xs ++ x ∷ ys) (length xs) ≡ Some x
seam_get [] ys x = refl
seam_get (z ∷ xs) ys x = seam_get xs ys x

pub take_get : {X : Type 0} (xs : List X) (n k : ℕ) (x : X) → k < n → slice_get xs k ≡ Some x → slice_get (take n xs) k ≡ Some x
take_get [] n k x less e = absurd (none-some x e)
take_get (z ∷ xs) zero k x less e = absurd (omega arith)
take_get (z ∷ xs) (suc n) zero x less e = e
take_get (z ∷ xs) (suc n) (suc k) x less e = take_get xs n k x (omega arith) e

-- an item for which a test holds is the first one, or comes after it
pub first_found : {X Y : Type 0} (has : X → Bool) (at : ℕ → Y) (k : ℕ) (xs : List X) (i : ℕ) (x : X) → slice_get xs i ≡ Some x → has x ≡ true
    → (j : ℕ) × (z : X) × (first_with has at k xs ≡ Some (at (k + j))) × (j ≤ i) × (slice_get xs j ≡ Some z) × (has z ≡ true)
first_found {X} has at k [] i x e holds = absurd (none-some x e)
first_found {X} has at k (z ∷ xs) zero x e holds =
    let t : has z ≡ true = ap has (same_Some z x e) ∙ holds in
    (zero, z, ap (λ (b : Bool). if b then Some (at k) else first_with has at (k + 1) xs) t ∙ ap (λ (n : ℕ). Some (at n)) (let n : k ≡ k + 0 = omega arith in n), omega arith, refl, t)
first_found {X} has at k (z ∷ xs) (suc i) x e holds = by (has z) refl (first_found has at (k + 1) xs i x e holds)
  where
    by : (b : Bool) → has z ≡ b → (j : ℕ) × (y : X) × (first_with has at (k + 1) xs ≡ Some (at (k + 1 + j))) × (j ≤ i) × (slice_get xs j ≡ Some y) × (has y ≡ true)
        → (j : ℕ) × (y : X) × ((if b then Some (at k) else first_with has at (k + 1) xs) ≡ Some (at (k + j))) × (j ≤ suc i) × (slice_get (z ∷ xs) j ≡ Some y) × (has y ≡ true)
    by true t w = (zero, z, ap (λ (n : ℕ). Some (at n)) (let n : k ≡ k + 0 = omega arith in n), omega arith, refl, t)
    by false t w = (suc w.0, w.1, w.2 ∙ ap (λ (n : ℕ). Some (at n)) (let n : k + 1 + w.0 ≡ k + suc w.0 = omega arith in n), (let l = w.3 in omega arith), w.4, w.5)

-- the test holds for the first item found
pub first_holds : {X Y : Type 0} (has : X → Bool) (at : ℕ → Y) (k : ℕ) (xs : List X) (y : Y) → first_with has at k xs ≡ Some y
    → (j : ℕ) × (z : X) × (y ≡ at (k + j)) × (slice_get xs j ≡ Some z) × (has z ≡ true)
first_holds {X} has at k [] y e = absurd (none-some y e)
first_holds {X} has at k (x ∷ xs) y e = by (has x) refl e (first_holds has at (k + 1) xs y)
  where
    by : (b : Bool) → has x ≡ b → (if b then Some (at k) else first_with has at (k + 1) xs) ≡ Some y
        → (first_with has at (k + 1) xs ≡ Some y → (j : ℕ) × (z : X) × (y ≡ at (k + 1 + j)) × (slice_get xs j ≡ Some z) × (has z ≡ true))
        → (j : ℕ) × (z : X) × (y ≡ at (k + j)) × (slice_get (x ∷ xs) j ≡ Some z) × (has z ≡ true)
    by true t h more = (zero, x, sym (same_Some (at k) y h) ∙ ap at (let n : k ≡ k + 0 = omega arith in n), refl, t)
    by false t h more = let w = more h in (suc w.0, w.1, w.2 ∙ ap at (let n : k + 1 + w.0 ≡ k + suc w.0 = omega arith in n), w.3, w.4)

named_so : (f : List ℕ) (o : Option (List ℕ)) → is_named f o ≡ true → o ≡ Some f
named_so f None e = absurd (true≢false (sym e))
named_so f (Some name) e = ap Some (sym ((bytes_eq-Decides f name).0 e))

-- a name that stands in a row has a first index there, no later
pub index_found : (k : ℕ) (row : List (Option (List ℕ))) (i : ℕ) (f : List ℕ) → slice_get row i ≡ Some (Some f)
    → (j : ℕ) × (first_index k row f ≡ Some (k + j)) × (j ≤ i) × (slice_get row j ≡ Some (Some f))
index_found k row i f e = let w = first_found (is_named f) (λ (n : ℕ). n) k row i (Some f) e (bytes_eq-same f) in (w.0, w.2, w.3, w.4 ∙ ap Some (named_so f w.1 w.5))

-- a first index has the name
pub index_sound : (k : ℕ) (row : List (Option (List ℕ))) (f : List ℕ) (m : ℕ) → first_index k row f ≡ Some m → (j : ℕ) × (m ≡ k + j) × (slice_get row j ≡ Some (Some f))
index_sound k row f m e = let w = first_holds (is_named f) (λ (n : ℕ). n) k row m e in (w.0, w.2, w.3 ∙ ap Some (named_so f w.1 w.4))

-- a name that is there is found
pub named_found : (k : ℕ) (names : List (List ℕ)) (i : ℕ) (f : List ℕ) → slice_get names i ≡ Some f → (c : ClassId) × (first_named k names f ≡ Some c)
named_found k names i f e = let w = first_found (bytes_eq f) class_number k names i f e (bytes_eq-same f) in (class_number (k + w.0), w.2)

-- the class that a name finds first has it
pub named_sound : (k : ℕ) (names : List (List ℕ)) (f : List ℕ) (c : ClassId) → first_named k names f ≡ Some c → (j : ℕ) × (c ≡ class_number (k + j)) × (slice_get names j ≡ Some f)
named_sound k names f c e = let w = first_holds (bytes_eq f) class_number k names c e in (w.0, w.2, w.3 ∙ ap Some (sym ((bytes_eq-Decides f w.1).0 w.4)))

-- the rows of names
pub method_row : (fs : List Feature) (j : ℕ) (f : List ℕ) → slice_get (map method_name fs) j ≡ Some (Some f) → (n : MethodDef) × (slice_get fs j ≡ Some (Method n)) × (n.name ≡ f)
method_row [] j f e = absurd (none-some (Some f) e)
method_row (Method n ∷ fs) zero f e = (n, refl, same_Some n.name f (same_Some (Some n.name) (Some f) e))
method_row (Attribute a ∷ fs) zero f e = absurd (none-some f (same_Some None (Some f) e))
method_row (Method n ∷ fs) (suc j) f e = method_row fs j f e
method_row (Attribute a ∷ fs) (suc j) f e = method_row fs j f e

pub row_method : (fs : List Feature) (j : ℕ) (n : MethodDef) → slice_get fs j ≡ Some (Method n) → slice_get (map method_name fs) j ≡ Some (Some n.name)
row_method [] j n e = absurd (none-some (Method n) e)
row_method (x ∷ fs) zero n e = ap (λ (y : Feature). Some (method_name y)) (same_Some x (Method n) e)
row_method (x ∷ fs) (suc j) n e = row_method fs j n e

pub attribute_row : (fs : List Feature) (j : ℕ) (f : List ℕ) → slice_get (map attribute_name fs) j ≡ Some (Some f) → (a : AttributeDef) × (slice_get fs j ≡ Some (Attribute a)) × (a.name ≡ f)
attribute_row [] j f e = absurd (none-some (Some f) e)
attribute_row (Attribute n ∷ fs) zero f e = (n, refl, same_Some n.name f (same_Some (Some n.name) (Some f) e))
attribute_row (Method a ∷ fs) zero f e = absurd (none-some f (same_Some None (Some f) e))
attribute_row (Method n ∷ fs) (suc j) f e = attribute_row fs j f e
attribute_row (Attribute a ∷ fs) (suc j) f e = attribute_row fs j f e

pub row_attribute : (fs : List Feature) (j : ℕ) (n : AttributeDef) → slice_get fs j ≡ Some (Attribute n) → slice_get (map attribute_name fs) j ≡ Some (Some n.name)
row_attribute [] j n e = absurd (none-some (Attribute n) e)
row_attribute (x ∷ fs) zero n e = ap (λ (y : Feature). Some (attribute_name y)) (same_Some x (Attribute n) e)
row_attribute (x ∷ fs) (suc j) n e = row_attribute fs j n e

pub formal_row_get : (fs : List Formal) (j : ℕ) (f : List ℕ) → slice_get (map (λ (x : Formal). Some x.name) fs) j ≡ Some (Some f) → (g : Formal) × (slice_get fs j ≡ Some g) × (g.name ≡ f)
formal_row_get [] j f e = absurd (none-some (Some f) e)
formal_row_get (g ∷ fs) zero f e = (g, refl, same_Some g.name f (same_Some (Some g.name) (Some f) e))
formal_row_get (g ∷ fs) (suc j) f e = formal_row_get fs j f e

pub row_formal : (fs : List Formal) (j : ℕ) (g : Formal) → slice_get fs j ≡ Some g → slice_get (map (λ (x : Formal). Some x.name) fs) j ≡ Some (Some g.name)
row_formal [] j g e = absurd (none-some g e)
row_formal (x ∷ fs) zero g e = ap (λ (y : Formal). Some (Some y.name)) (same_Some x g e)
row_formal (x ∷ fs) (suc j) g e = row_formal fs j g e

pub class_row : (p : List Class) (j : ℕ) (f : List ℕ) → slice_get (map (λ (c : Class). Some c.name) p) j ≡ Some (Some f) → (j < length p) × (name_of p (class_number j) ≡ f)
class_row [] j f e = absurd (none-some (Some f) e)
class_row (c ∷ p) zero f e = (omega arith, same_Some c.name f (same_Some (Some c.name) (Some f) e))
class_row (c ∷ p) (suc j) f e = let w = class_row p j f e in ((let l = w.0 in omega arith), w.1)

pub row_class : (p : List Class) (j : ℕ) (f : List ℕ) → j < length p → name_of p (class_number j) ≡ f → slice_get (map (λ (c : Class). Some c.name) p) j ≡ Some (Some f)
row_class [] j f less e = absurd (omega arith)
row_class (c ∷ p) zero f less e = ap (λ (x : List ℕ). Some (Some x)) e
row_class (c ∷ p) (suc j) f less e = row_class p j f (omega arith) e
