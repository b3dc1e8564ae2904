-- Lists of declared types of different lengths are not the same, and a disjunction of two tests has the result of the second test if the first fails.
use Rattle.std.proofs.Common.{◌≡◌, ◌≢◌, ℕ, suc, List, [], ◌∷◌, length, Bool, true, false, not, ◌&&◌, ◌||◌, ap, sym, ◌∙◌, refl}
use Rattle.std.specs.Prelude.{bytes_eq, ◌==◌}
use Rattle.std.proofs.Math.Dec.{eqb-suc-zero}
use Rattle.std.proofs.lemmas.List.{length-map}
use Rattle.cool_syntax.specs.declared.file_tree.Formal.{Formal}
use Rattle.cool_classes.specs.FeatureFaults.{same_types, declared_types, has_formals}

none_and : (b : Bool) → false ≡ (b && false)
none_and true = refl
none_and false = refl

types_differ : (ts us : List (List ℕ)) → length ts ≢ length us → false ≡ same_types ts us
types_differ [] [] h = absurd (h refl)
types_differ [] (u ∷ us) h = refl
types_differ (t ∷ ts) [] h = refl
types_differ (t ∷ ts) (u ∷ us) h = none_and (bytes_eq t u) ∙ ap (λ (b : Bool). bytes_eq t u && b) (types_differ ts us (λ e. h (ap suc e)))

-- as many types as there are others, or they differ
pub formals_differ : (fs : List Formal) (us : List (List ℕ)) → length fs ≢ length us → false ≡ same_types (declared_types fs) us
formals_differ fs us h = types_differ (declared_types fs) us (λ e. h (sym (length-map fs (λ (f : Formal). f.declared.name)) ∙ e))

-- there are formals where their types are some
pub some_declared : (fs : List Formal) → not (length fs == 0) ≡ has_formals (declared_types fs)
some_declared [] = refl
some_declared (f ∷ fs) = ap not (eqb-suc-zero (length fs))

-- a test of two parts whose first holds
pub or_first : (r a b : Bool) → r ≡ a → r ≡ true → r ≡ (a || b)
or_first r a b e t = t ∙ sym (ap (λ (x : Bool). x || b) (sym e ∙ t))

-- a test of two parts whose first fails
pub or_second : (x a r b : Bool) → x ≡ a → x ≡ false → r ≡ b → r ≡ (a || b)
or_second x a r b e f s = s ∙ sym (ap (λ (y : Bool). y || b) (sym e ∙ f))
