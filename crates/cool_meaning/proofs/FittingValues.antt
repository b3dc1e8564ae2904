-- In the run of a program without type errors, the value at each store location fits the class for which the location was made, and no location is removed.
use Rattle.std.proofs.Common.{◌≡◌, ℕ, zero, suc, ◌<◌, List, [], ◌∷◌, ◌++◌, map, length, Some, Bool, true, false, cond, ap, sym, ◌∙◌, refl, subst, arith, append_assoc, append-nil}
use Rattle.std.specs.Prelude.{bytes_eq, slice_get, slice_set}
use Rattle.cool_classes.specs.declared.class_id.ClassId.{ClassId}
use Rattle.cool_classes.specs.declared.class_id.Ty.{Ty}
use Rattle.cool_classes.specs.declared.class_id.Ty.TheVariants.{Class as IsClass, SelfType}
use Rattle.cool_classes.specs.declared.method.AttributeRef.{AttributeRef}
use Rattle.cool_classes.specs.Chains.{Class, class_number, Below}
use Rattle.cool_classes.specs.Features.{attribute_type}
use Rattle.cool_rules.specs.Conformance.{Conforms, class_of as class_meant}
use Rattle.cool_rules.specs.Scopes.{Binding, found}
use Rattle.cool_rules.specs.Rules.{type_meant}
use Rattle.cool_classes.specs.LawfulTables.{MayInherit}
use Rattle.cool_rules.specs.TypedTables.{IsTypedTable}
use Rattle.cool_meaning.specs.Values.{Value, Void, Int, Bool as Truth, Str, Obj, Environment, class_of, location_of}
use Rattle.cool_meaning.specs.FittingValues.{World, AreMade, meant, attribute_classes, IsObject, Fits, AllFit, Holds}
use Rattle.cool_meaning.specs.Lookups.{attributes}
use Rattle.cool_rules.proofs.ChainsOfTables.{below_trans, below_within, below_itself}
use Rattle.cool_meaning.proofs.BasicClasses.{inherits_above, basic_within}

pub record Grown (w w' : World) : Type 0 where
  pub more : List ClassId
  pub is : w' ≡ w ++ more

pub not_grown : (w : World) → Grown w w
not_grown w = record { more = []; is = sym (append-nil w) }

pub grown_on : (w v u : World) → Grown w v → Grown v u → Grown w u
grown_on w v u h k = record { more = h.more ++ k.more; is = k.is ∙ (ap (λ (xs : World). xs ++ k.more) h.is ∙ append_assoc w h.more k.more) }

pub made_by : (w more : World) (l : ℕ) (d : ClassId) → slice_get w l ≡ Some d → slice_get (w ++ more) l ≡ Some d
made_by [] more l d e = absurd (cc)
made_by (c ∷ w) more zero d e = e
made_by (c ∷ w) more (suc l) d e = made_by w more l d e

pub still_made : (w w' : World) → Grown w w' → (l : ℕ) (d : ClassId) → slice_get w l ≡ Some d → slice_get w' l ≡ Some d
still_made w w' g l d e = subst (λ (v : World). slice_get v l ≡ Some d) (sym g.is) (made_by w g.more l d e)

pub still_all_made : (w w' : World) → Grown w w' → (ls : List ℕ) (ds : List ClassId) → AreMade w ls ds → AreMade w' ls ds
still_all_made w w' g [] [] h = tt
still_all_made w w' g [] (d ∷ ds) h = absurd h
still_all_made w w' g (l ∷ ls) [] h = absurd h
still_all_made w w' g (l ∷ ls) (d ∷ ds) h = (still_made w w' g l d h.0, still_all_made w w' g ls ds h.1)

pub still_fits : (p : List Class) (w w' : World) → Grown w w' → (v : Value) (d : ClassId) → Fits p w v d → Fits p w' v d
still_fits p w w' g Void d h = h
still_fits p w w' g (Int n) d h = h
still_fits p w w' g (Truth b) d h = h
still_fits p w w' g (Str bytes) d h = h
still_fits p w w' g (Obj k i ls) d h = (record { within = h.0.within; plain = h.0.plain; made = still_all_made w w' g ls (attribute_classes p k (attributes p k)) h.0.made }, h.1)

pub still_all_fit : (p : List Class) (w w' : World) → Grown w w' → (vs : List Value) (ds : List ClassId) → AllFit p w vs ds → AllFit p w' vs ds
still_all_fit p w w' g [] [] h = tt
still_all_fit p w w' g [] (d ∷ ds) h = absurd h
still_all_fit p w w' g (v ∷ vs) [] h = absurd h
still_all_fit p w w' g (v ∷ vs) (d ∷ ds) h = (still_fits p w w' g v d h.0, still_all_fit p w w' g vs ds h.1)

-- the store fits its world: each value its class
pub fit_length : (p : List Class) (w : World) (vs : List Value) (ds : List ClassId) → AllFit p w vs ds → length vs ≡ length ds
fit_length p w [] [] h = refl
fit_length p w [] (d ∷ ds) h = absurd h
fit_length p w (v ∷ vs) [] h = absurd h
fit_length p w (v ∷ vs) (d ∷ ds) h = let rest = fit_length p w vs ds h.1 in omega arith

pub fit_at : (p : List Class) (w : World) (vs : List Value) (ds : List ClassId) (l : ℕ) (d : ClassId) → AllFit p w vs ds → slice_get ds l ≡ Some d
    → (v : Value) × (slice_get vs l ≡ Some v) × Fits p w v d
fit_at p w [] [] l d h e = absurd (cc)
fit_at p w [] (x ∷ ds) l d h e = absurd h
fit_at p w (v ∷ vs) [] l d h e = absurd h
fit_at p w (v ∷ vs) (x ∷ ds) zero d h e = let same : x ≡ d = cc in (v, refl, subst (λ (y : ClassId). Fits p w v y) same h.0)
fit_at p w (v ∷ vs) (x ∷ ds) (suc l) d h e = fit_at p w vs ds l d h.1 e

pub fit_set : (p : List Class) (w : World) (vs : List Value) (ds : List ClassId) (l : ℕ) (d : ClassId) (u : Value) → AllFit p w vs ds → slice_get ds l ≡ Some d → Fits p w u d
    → AllFit p w (slice_set vs l u) ds
fit_set p w [] [] l d u h e fits = absurd (cc)
fit_set p w [] (x ∷ ds) l d u h e fits = absurd h
fit_set p w (v ∷ vs) [] l d u h e fits = absurd h
fit_set p w (v ∷ vs) (x ∷ ds) zero d u h e fits = let same : d ≡ x = cc in (subst (λ (y : ClassId). Fits p w u y) same fits, h.1)
fit_set p w (v ∷ vs) (x ∷ ds) (suc l) d u h e fits = (h.0, fit_set p w vs ds l d u h.1 e fits)

pub fit_more : (p : List Class) (w : World) (vs : List Value) (ds : List ClassId) (v : Value) (d : ClassId) → AllFit p w vs ds → Fits p w v d → AllFit p w (vs ++ v ∷ []) (ds ++ d ∷ [])
fit_more p w [] [] v d h fits = (fits, tt)
fit_more p w [] (x ∷ ds) v d h fits = absurd h
fit_more p w (y ∷ vs) [] v d h fits = absurd h
fit_more p w (y ∷ vs) (x ∷ ds) v d h fits = (h.0, fit_more p w vs ds v d h.1 fits)

pub made_last : (ds : List ClassId) (d : ClassId) → slice_get (ds ++ d ∷ []) (length ds) ≡ Some d
made_last [] d = refl
made_last (x ∷ ds) d = made_last ds d

pub still_holds : (w w' : World) → Grown w w' → (k : ClassId) (scope : List Binding) (env : Environment) → Holds w k scope env → Holds w' k scope env
still_holds w w' g k [] env h = tt
still_holds w w' g k (b ∷ scope) [] h = absurd h
still_holds w w' g k (b ∷ scope) (e ∷ env) h = (h.0, still_made w w' g e.location (class_meant k b.value) h.1, still_holds w w' g k scope env h.2)

-- a name in scope has its location
pub found_at : (w : World) (k : ClassId) (scope : List Binding) (env : Environment) (name : List ℕ) (t : Ty) → Holds w k scope env → found scope name ≡ Some t
    → (l : ℕ) × (location_of env name ≡ Some l) × (slice_get w l ≡ Some (class_meant k t))
found_at w k [] env name t h e = absurd (cc)
found_at w k (b ∷ scope) [] name t h e = absurd h
found_at w k (b ∷ scope) (x ∷ env) name t h e =
    subst (λ (n : List ℕ). (l : ℕ) × (cond (bytes_eq n name) (Some x.location) (location_of env name) ≡ Some l) × (slice_get w l ≡ Some (class_meant k t))) h.0
    (by (bytes_eq b.name name) e (found_at w k scope env name t h.2))
  where
    by : (c : Bool) → cond c (Some b.value) (found scope name) ≡ Some t → (found scope name ≡ Some t → (l : ℕ) × (location_of env name ≡ Some l) × (slice_get w l ≡ Some (class_meant k t)))
        → (l : ℕ) × (cond c (Some x.location) (location_of env name) ≡ Some l) × (slice_get w l ≡ Some (class_meant k t))
    by true e more = let same : b.value ≡ t = cc in (x.location, refl, h.1 ∙ ap (λ (y : Ty). Some (class_meant k y)) same)
    by false e more = more e

module _ (p : List Class) (typed : IsTypedTable p) where
  -- a value that fits a class fits those above it
  pub fits_above : (w : World) (v : Value) (d e : ClassId) → Fits p w v d → Below p d e → Fits p w v e
  fits_above w Void d e h below = (inherits_above p typed d e h.1 h.0 below, below_within p typed.whole d e h.1 below)
  fits_above w (Int n) d e h below = below_trans p (class_number 2) d e h below
  fits_above w (Truth b) d e h below = below_trans p (class_number 3) d e h below
  fits_above w (Str bytes) d e h below = below_trans p (class_number 4) d e h below
  fits_above w (Obj k i ls) d e h below = (h.0, below_trans p k d e h.1 below)

  -- a type that conforms to another in a class means a class below that of the other, for each object of a class below
  pub below_conforming : (c k : ClassId) → k.0 < length p → Below p k c → (t u : Ty) → Conforms p c t u → Below p (class_meant k t) (class_meant k u)
  below_conforming c k within below SelfType SelfType h = below_itself p typed.whole k within
  below_conforming c k within below SelfType (IsClass b) h = below_trans p k c b below h
  below_conforming c k within below (IsClass a) SelfType h = absurd h
  below_conforming c k within below (IsClass a) (IsClass b) h = h

  pub fits_conforming : (c k : ClassId) → k.0 < length p → Below p k c → (w : World) (v : Value) (t u : Ty) → Fits p w v (class_meant k t) → Conforms p c t u → Fits p w v (class_meant k u)
  fits_conforming c k within below w v t u h conforms = fits_above w v (class_meant k t) (class_meant k u) h (below_conforming c k within below t u conforms)

  -- the class of a value that is not void is below what it fits, and a class of the table
  pub class_fits : (w : World) (v : Value) (d k : ClassId) → Fits p w v d → class_of v ≡ Some k → Below p k d × (k.0 < length p) × Fits p w v k
  class_fits w Void d k h e = absurd (cc)
  class_fits w (Int n) d k h e = let same : class_number 2 ≡ k = cc in by same
    where
      by : class_number 2 ≡ k → Below p k d × (k.0 < length p) × Fits p w (Int n) k
      by same = subst (λ (x : ClassId). Below p x d × (x.0 < length p) × Below p (class_number 2) x) same (h, basic_within p typed 2 (omega arith), below_itself p typed.whole (class_number 2) (basic_within p typed 2 (omega arith)))
  class_fits w (Truth b) d k h e = let same : class_number 3 ≡ k = cc in by same
    where
      by : class_number 3 ≡ k → Below p k d × (k.0 < length p) × Fits p w (Truth b) k
      by same = subst (λ (x : ClassId). Below p x d × (x.0 < length p) × Below p (class_number 3) x) same (h, basic_within p typed 3 (omega arith), below_itself p typed.whole (class_number 3) (basic_within p typed 3 (omega arith)))
  class_fits w (Str bytes) d k h e = let same : class_number 4 ≡ k = cc in by same
    where
      by : class_number 4 ≡ k → Below p k d × (k.0 < length p) × Fits p w (Str bytes) k
      by same = subst (λ (x : ClassId). Below p x d × (x.0 < length p) × Below p (class_number 4) x) same (h, basic_within p typed 4 (omega arith), below_itself p typed.whole (class_number 4) (basic_within p typed 4 (omega arith)))
  class_fits w (Obj c i ls) d k h e = let same : c ≡ k = cc in by same
    where
      by : c ≡ k → Below p k d × (k.0 < length p) × Fits p w (Obj c i ls) k
      by same = subst (λ (x : ClassId). Below p x d × (x.0 < length p) × (IsObject p w c ls × Below p c x)) same (h.1, h.0.within, (h.0, below_itself p typed.whole c h.0.within))
