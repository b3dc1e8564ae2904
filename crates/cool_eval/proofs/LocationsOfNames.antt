-- The location of a name is that of the latest variable with this name, or else that of the attribute with this name.
use Rattle.std.proofs.Common.{◌≡◌, ℕ, zero, suc, ◌+◌, ◌-◌, ◌<◌, ◌≤◌, List, [], ◌∷◌, ◌++◌, length, take, drop, get_or, Option, Some, None, Bool, true, false, ap, sym, ◌∙◌, refl, arith}
use Rattle.std.proofs.Math.Seq.{take-suc}
use Rattle.std.proofs.lemmas.Option.{none-some}
use Rattle.std.specs.Prelude.{bytes_eq, slice_get, if◌then◌else◌}
use Rattle.cool_classes.specs.declared.class_id.ClassId.{ClassId}
use Rattle.cool_classes.specs.declared.method.AttributeRef.{AttributeRef}
use Rattle.cool_classes.specs.Chains.{Class, class_number}
use Rattle.cool_classes.specs.Features.{attribute_name}
use Rattle.cool_meaning.specs.Values.{Environment, location_of}
use Rattle.cool_meaning.specs.Lookups.{located, attribute_names, attributes, attributes_at, environment_of}
use Rattle.cool_eval.specs.declared.scene.Local.{Local}
use Rattle.cool_eval.specs.declared.value.Object.{Object}
use Rattle.cool_eval.specs.declared.value.Value.{Value}
use Rattle.cool_eval.specs.declared.value.Value.TheVariants as held
use Rattle.cool_eval.specs.Values.{locations_from, value_of}
use Rattle.cool_eval.specs.Configurations.{locals_of}
use Rattle.cool_eval.proofs.LocalsAtEnd.{locals_more}

-- names with no locations are nowhere
pub located_nowhere : (xs : List (List ℕ)) → located xs [] ≡ []
located_nowhere [] = refl
located_nowhere (x ∷ xs) = refl

-- the items from one on begin with it
drop_at : {X : Type 0} (xs : List X) (k : ℕ) (x : X) → slice_get xs k ≡ Some x → drop k xs ≡ x ∷ drop (suc k) xs
drop_at [] k x is = absurd (none-some x is)
drop_at (y ∷ xs) zero x is = let same : y ≡ x = cc in ap (λ z. z ∷ xs) same
drop_at (y ∷ xs) (suc k) x is = drop_at xs k x is

drop_past : {X : Type 0} (xs : List X) (k : ℕ) → slice_get xs k ≡ None → drop k xs ≡ []
drop_past [] zero is = refl
drop_past [] (suc k) is = refl
drop_past (y ∷ xs) zero is = absurd (none-some y (sym is))
drop_past (y ∷ xs) (suc k) is = drop_past xs k is

-- the attributes from one on, at so many locations from one on
abbrev pub located_from : List Class → List AttributeRef → ℕ → ℕ → Environment
located_from p rs l n = located (attribute_names p rs) (locations_from l n)

located_next : (p : List Class) (rs : List AttributeRef) (k l n : ℕ) (a : AttributeRef) → k < n → slice_get rs k ≡ Some a
    → located_from p (drop k rs) l (n - k) ≡ record { name = attribute_name p a; location = l } ∷ located_from p (drop (k + 1) rs) (l + 1) (n - (k + 1))
located_next p rs k l n a low is =
    let left : n - k ≡ suc (n - (k + 1)) = omega arith in
    let next : suc k ≡ k + 1 = omega arith in
    let after : suc l ≡ l + 1 = omega arith in
    ap (λ (m : ℕ). located_from p (drop k rs) l m) left ∙ ap (λ (qs : List AttributeRef). located_from p qs l (suc (n - (k + 1)))) (drop_at rs k a is)
    ∙ (λ i. record { name = attribute_name p a; location = l } ∷ located_from p (drop (next i) rs) (after i) (n - (k + 1)))

-- an attribute of the name is at its location, and where the name is another one, it is looked for further on
pub attribute_here : (p : List Class) (rs : List AttributeRef) (k l n : ℕ) (a : AttributeRef) (name : List ℕ) → k < n → slice_get rs k ≡ Some a → bytes_eq (attribute_name p a) name ≡ true
    → location_of (located_from p (drop k rs) l (n - k)) name ≡ Some l
attribute_here p rs k l n a name low is same =
    ap (λ (env : Environment). location_of env name) (located_next p rs k l n a low is)
    ∙ ap (λ (b : Bool). if b then Some l else location_of (located_from p (drop (k + 1) rs) (l + 1) (n - (k + 1))) name) same

pub attribute_further : (p : List Class) (rs : List AttributeRef) (k l n : ℕ) (a : AttributeRef) (name : List ℕ) → k < n → slice_get rs k ≡ Some a → bytes_eq (attribute_name p a) name ≡ false
    → location_of (located_from p (drop k rs) l (n - k)) name ≡ location_of (located_from p (drop (k + 1) rs) (l + 1) (n - (k + 1))) name
attribute_further p rs k l n a name low is other =
    ap (λ (env : Environment). location_of env name) (located_next p rs k l n a low is)
    ∙ ap (λ (b : Bool). if b then Some l else location_of (located_from p (drop (k + 1) rs) (l + 1) (n - (k + 1))) name) other

pub location_nowhere : (p : List Class) (rs : List AttributeRef) (k l n : ℕ) (name : List ℕ) → n ≤ k → location_of (located_from p (drop k rs) l (n - k)) name ≡ None
location_nowhere p rs k l n name past =
    let none : n - k ≡ 0 = omega arith in
    ap (λ (m : ℕ). location_of (located_from p (drop k rs) l m) name) none ∙ ap (λ (env : Environment). location_of env name) (located_nowhere (attribute_names p (drop k rs)))

-- a value that is no object has no attributes at locations
pub no_object : (p : List Class) (o : Option ClassId) (name : List ℕ) → location_of (attributes_at p o []) name ≡ None
no_object p None name = refl
no_object p (Some c) name = ap (λ (env : Environment). location_of env name) (located_nowhere (attribute_names p (attributes p c)))

pub no_attribute : (p : List Class) (me : Value) (name : List ℕ) → ((o : Object) → me ≡ held.Object o → ⊥) → location_of (environment_of p (value_of me)) name ≡ None
no_attribute p held.Void name other = refl
no_attribute p (held.Int n) name other = no_object p (Some (class_number 2)) name
no_attribute p (held.Bool b) name other = no_object p (Some (class_number 3)) name
no_attribute p (held.Str bytes) name other = no_object p (Some (class_number 4)) name
no_attribute p (held.Object o) name other = absurd (other o refl)

-- a name among the variables up to one is that one's, or else is found before it
local_before : (ls : List Local) (env : Environment) (k : ℕ) (l : Local) (name : List ℕ) → k < length ls → l ≡ get_or ls k l
    → location_of (locals_of (take (suc k) ls) ++ env) name ≡ (if bytes_eq l.name.now name then Some l.location else location_of (locals_of (take k ls) ++ env) name)
local_before ls env k l name low is =
    let more : take (suc k) ls ≡ take k ls ++ l ∷ [] = take-suc ls k l low ∙ ap (λ (x : Local). take k ls ++ x ∷ []) (sym is) in
    ap (λ (xs : List Local). location_of (locals_of xs ++ env) name) more ∙ ap (λ (es : Environment). location_of (es ++ env) name) (locals_more (take k ls) l)

pub local_here : (ls : List Local) (env : Environment) (k : ℕ) (l : Local) (name : List ℕ) → k < length ls → l ≡ get_or ls k l → bytes_eq l.name.now name ≡ true
    → location_of (locals_of (take (suc k) ls) ++ env) name ≡ Some l.location
local_here ls env k l name low is same =
    local_before ls env k l name low is ∙ ap (λ (b : Bool). if b then Some l.location else location_of (locals_of (take k ls) ++ env) name) same

pub local_there : (ls : List Local) (env : Environment) (k : ℕ) (l : Local) (name : List ℕ) → k < length ls → l ≡ get_or ls k l → bytes_eq l.name.now name ≡ false
    → location_of (locals_of (take (suc k) ls) ++ env) name ≡ location_of (locals_of (take k ls) ++ env) name
local_there ls env k l name low is other =
    local_before ls env k l name low is ∙ ap (λ (b : Bool). if b then Some l.location else location_of (locals_of (take k ls) ++ env) name) other
