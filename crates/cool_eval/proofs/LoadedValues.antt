-- Lemmas for reading the values at several locations of a store, one after the other: each step reads one more value, and an error at one location makes the
-- whole result an error.
use Rattle.std.proofs.Common.{◌≡◌, ℕ, suc, ◌+◌, ◌-◌, ◌<◌, List, [], ◌∷◌, ◌++◌, map, Option, Some, None, Result, Err, Vec, ap, sym, ◌∙◌, refl, subst, arith, append_assoc}
use Rattle.std.proofs.lemmas.List.{map-append}
use Rattle.std.proofs.lemmas.List.Elements.{Contains-append_right}
use Rattle.std.specs.Prelude.{Contains, slice_get}
use Rattle.cool_meaning.specs.Values as values
use Rattle.cool_eval.specs.declared.value.Value.{Value}
use Rattle.cool_eval.specs.declared.ending.Ending.{Ending}
use Rattle.cool_eval.specs.declared.ending.Ending.TheVariants as ending
use Rattle.cool_eval.specs.Values.{value_of, locations_from}
use Rattle.cool_eval.specs.Configurations.{IsLoaded, AreLoaded}

-- the locations from one on, where one at least is left, begin with it
pub first_location : (l k : ℕ) → locations_from l (suc k) ≡ l ∷ locations_from (l + 1) k
first_location l k = let next : suc l ≡ l + 1 = omega arith in ap (λ (m : ℕ). l ∷ locations_from m k) next

abbrev found : Value → Option values.Value
found v = Some (value_of v)

-- one value more is taken
pub loaded_more : (vs : List values.Value) (all : List (Option values.Value)) (taken : List Value) (v : Value) (l n k : ℕ) → k < n
    → all ≡ map (λ v. Some (value_of v)) taken ++ map (slice_get vs) (locations_from l (n - k)) → slice_get vs l ≡ Some (value_of v)
    → all ≡ map (λ v. Some (value_of v)) (taken ++ v ∷ []) ++ map (slice_get vs) (locations_from (l + 1) (n - (k + 1)))
loaded_more vs all taken v l n k low so_far is =
    let left : n - k ≡ suc (n - (k + 1)) = omega arith in
    let rest = map (slice_get vs) (locations_from (l + 1) (n - (k + 1))) in
    let next : map (slice_get vs) (locations_from l (n - k)) ≡ found v ∷ rest =
    ap (λ (m : ℕ). map (slice_get vs) (locations_from l m)) left ∙ ap (map (slice_get vs)) (first_location l (n - (k + 1))) ∙ ap (λ (o : Option values.Value). o ∷ rest) is in
    so_far ∙ ap (λ (os : List (Option values.Value)). map found taken ++ os) next
    ∙ sym (append_assoc (map found taken) (found v ∷ []) rest)
    ∙ ap (λ (os : List (Option values.Value)). os ++ rest) (sym (map-append found taken (v ∷ [])))

-- a location with no value is one of all
pub none_loaded : (vs : List values.Value) (all : List (Option values.Value)) (taken : List Value) (l n k : ℕ) → k < n
    → all ≡ map (λ v. Some (value_of v)) taken ++ map (slice_get vs) (locations_from l (n - k)) → slice_get vs l ≡ None
    → Contains all None
none_loaded vs all taken l n k low so_far is =
    let left : n - k ≡ suc (n - (k + 1)) = omega arith in
    let rest = map (slice_get vs) (locations_from (l + 1) (n - (k + 1))) in
    let next : map (slice_get vs) (locations_from l (n - k)) ≡ None ∷ rest =
    ap (λ (m : ℕ). map (slice_get vs) (locations_from l m)) left ∙ ap (map (slice_get vs)) (first_location l (n - (k + 1))) ∙ ap (λ (o : Option values.Value). o ∷ rest) is in
    subst (λ (os : List (Option values.Value)). Contains os None) (sym (so_far ∙ ap (λ (os : List (Option values.Value)). map found taken ++ os) next))
    (Contains-append_right (map found taken) (None ∷ rest) None (0, omega arith, refl))

-- an error at one location is an error of all
pub load_failed : {A : Type 0} (vs : List values.Value) (first l n k : ℕ) (taken : Vec Value A) (e : Ending) → k < n
    → map (slice_get vs) (locations_from first n) ≡ map (λ v. Some (value_of v)) taken.items ++ map (slice_get vs) (locations_from l (n - k))
    → IsLoaded vs l (Err e) → AreLoaded {A = A} vs (locations_from first n) (Err e)
load_failed vs first l n k taken ending.Stuck low so_far is = none_loaded vs (map (slice_get vs) (locations_from first n)) taken.items l n k low so_far is
load_failed vs first l n k taken ending.Memory low so_far is = tt
load_failed vs first l n k taken (ending.Error e) low so_far is = is
load_failed vs first l n k taken ending.StepLimit low so_far is = is
load_failed vs first l n k taken ending.ReadFault low so_far is = is
load_failed vs first l n k taken ending.WriteFault low so_far is = is

-- the same of the answer that is handed on
pub failed_on : {A : Type 0} (vs : List values.Value) (first l n k : ℕ) (taken : Vec Value A) (e : Ending) (r : Result (Vec Value A) Ending) → r ≡ Err e → k < n
    → map (slice_get vs) (locations_from first n) ≡ map (λ v. Some (value_of v)) taken.items ++ map (slice_get vs) (locations_from l (n - k))
    → IsLoaded vs l (Err e) → AreLoaded vs (locations_from first n) r
failed_on {A} vs first l n k taken e r same low so_far is = subst (AreLoaded {A = A} vs (locations_from first n)) (sym same) (load_failed vs first l n k taken e low so_far is)
