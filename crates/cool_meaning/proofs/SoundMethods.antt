-- The methods of the basic classes are never stuck, and their values fit their declared return types.
use Rattle.std.proofs.Common.{◌≡◌, ◌≢◌, ℕ, ◌+◌, ◌/◌, ℤ, Bool, List, [], ◌∷◌, ◌++◌, map, length, Option, Some, None, ap, sym, refl, subst, arith}
use Rattle.std.specs.Prelude.{codes}
use Rattle.std.specs.Fmt.{signed_decimal}
use Rattle.cool_syntax.specs.declared.place.Place.{Place}
use Rattle.cool_classes.specs.declared.class_id.ClassId.{ClassId}
use Rattle.cool_classes.specs.declared.class_id.Ty.TheVariants.{Class as IsClass}
use Rattle.cool_classes.specs.declared.method.BasicMethod.{BasicMethod}
use Rattle.cool_classes.specs.declared.method.BasicMethod.TheVariants.{Abort, TypeName, Copy, OutString, OutInt, InString, InInt, Length, Concat, Substr}
use Rattle.cool_classes.specs.Chains.{Class, class_number, name_of, Below}
use Rattle.cool_classes.specs.Features.{basic_formals, basic_result}
use Rattle.cool_rules.specs.Conformance.{class_of as class_meant}
use Rattle.cool_rules.specs.TypedTables.{IsTypedTable}
use Rattle.cool_meaning.specs.Values.{Value, Void, Int, Bool as Truth, Str, Obj, class_of}
use Rattle.cool_meaning.specs.Meters.{Computation, Aborted, Substring, ◌>>=◌, give, stop, given}
use Rattle.cool_meaning.specs.Numbers.{signed, number_of}
use Rattle.cool_meaning.specs.Lookups.{attributes}
use Rattle.cool_meaning.specs.BasicMethods.{as_number, as_truth, as_string, one, two, new_number, new_truth, new_string, draw, copy, print, take_line, part, substring, basic}
use Rattle.cool_rules.proofs.ChainsOfTables.{below_itself}
use Rattle.cool_rules.specs.Rules.{type_meant, type_of_name}
use Rattle.cool_rules.proofs.RulesOfTables.{meant_is}
use Rattle.cool_meaning.proofs.BasicClasses.{basic_within, basic_name, only_int, only_bool, only_string}
use Rattle.cool_meaning.specs.FittingValues.{World, Fits, AllFit, meant, attribute_classes}
use Rattle.cool_meaning.proofs.FittingValues.{not_grown, still_all_made, still_fits, still_all_fit}
use Rattle.cool_meaning.proofs.SoundComputations.{Sound, bind_sound, then_sound, give_sound, stop_sound, changing_sound, reading_sound, working_sound, giving_sound, locate_all_sound, load_all_sound}

-- any value will do
abbrev pub Any : {A : Type 0} → World → A → Type 0
Any w v = Unit {0}

-- the method is one of String
abbrev pub IsOfString : BasicMethod → Type 0
IsOfString Length = Unit {0}
IsOfString Concat = Unit {0}
IsOfString Substr = Unit {0}
IsOfString Abort = ⊥
IsOfString TypeName = ⊥
IsOfString Copy = ⊥
IsOfString OutString = ⊥
IsOfString OutInt = ⊥
IsOfString InString = ⊥
IsOfString InInt = ⊥

pub print_sound : {p : List Class} {b : ℕ} {w : World} (bytes : List ℕ) → Sound p b w Any (print bytes)
print_sound bytes = changing_sound (λ s. record s { output = s.output ++ bytes }) tt (λ s fits. fits) tt

pub draw_sound : {p : List Class} {b : ℕ} {w : World} → Sound p b w Any draw
draw_sound = reading_sound (λ s fits. changing_sound (λ t. record t { drawn = s.drawn + 1 }) s.drawn (λ t k. k) tt)

take_line_sound : {p : List Class} {b : ℕ} {w : World} → Sound p b w Any take_line
take_line_sound {w = w} = record { sound = λ s n less fits. record { world = w; grown = not_grown w; store = fits; value = tt; fewer = omega arith } }

module _ (p : List Class) (typed : IsTypedTable p) where
  -- the classes that the names of the basic classes mean
  pub object_meant : (k : ClassId) → meant p k (codes "Object") ≡ class_number 0
  object_meant k = ap (class_meant k) (meant_is p typed.whole.table (codes "Object") (IsClass (class_number 0)) (basic_within p typed 0 (omega arith), basic_name p typed 0 (omega arith)))

  pub int_meant : (k : ClassId) → meant p k (codes "Int") ≡ class_number 2
  int_meant k = ap (class_meant k) (meant_is p typed.whole.table (codes "Int") (IsClass (class_number 2)) (basic_within p typed 2 (omega arith), basic_name p typed 2 (omega arith)))

  pub string_meant : (k : ClassId) → meant p k (codes "String") ≡ class_number 4
  string_meant k = ap (class_meant k) (meant_is p typed.whole.table (codes "String") (IsClass (class_number 4)) (basic_within p typed 4 (omega arith), basic_name p typed 4 (omega arith)))

  -- Int, Bool and String fit themselves
  pub int_fits : Below p (class_number 2) (class_number 2)
  int_fits = below_itself p typed.whole (class_number 2) (basic_within p typed 2 (omega arith))

  pub bool_fits : Below p (class_number 3) (class_number 3)
  bool_fits = below_itself p typed.whole (class_number 3) (basic_within p typed 3 (omega arith))

  pub string_fits : Below p (class_number 4) (class_number 4)
  string_fits = below_itself p typed.whole (class_number 4) (basic_within p typed 4 (omega arith))

  number_apart : {X : Type 0} (m n : ℕ) → m ≢ n → class_number m ≡ class_number n → X
  number_apart m n apart e = absurd (apart (ap (λ (c : ClassId). c.0) e))

  -- a value that fits Int, Bool or String is a number, a truth or a string
  pub number_sound : {b : ℕ} {w : World} (v : Value) → Fits p w v (class_number 2) → Sound p b w Any (as_number v)
  number_sound (Int n) h = give_sound n tt
  number_sound Void h = absurd (h.0.no_int refl)
  number_sound (Truth c) h = number_apart 3 2 (omega arith) (only_int p typed (class_number 3) (basic_within p typed 3 (omega arith)) h)
  number_sound (Str bytes) h = number_apart 4 2 (omega arith) (only_int p typed (class_number 4) (basic_within p typed 4 (omega arith)) h)
  number_sound (Obj c i ls) h = absurd (h.0.plain.no_int (ap (λ (d : ClassId). d.0) (only_int p typed c h.0.within h.1)))

  pub truth_sound : {b : ℕ} {w : World} (v : Value) → Fits p w v (class_number 3) → Sound p b w Any (as_truth v)
  truth_sound (Truth c) h = give_sound c tt
  truth_sound Void h = absurd (h.0.no_bool refl)
  truth_sound (Int n) h = number_apart 2 3 (omega arith) (only_bool p typed (class_number 2) (basic_within p typed 2 (omega arith)) h)
  truth_sound (Str bytes) h = number_apart 4 3 (omega arith) (only_bool p typed (class_number 4) (basic_within p typed 4 (omega arith)) h)
  truth_sound (Obj c i ls) h = absurd (h.0.plain.no_bool (ap (λ (d : ClassId). d.0) (only_bool p typed c h.0.within h.1)))

  pub string_sound : {b : ℕ} {w : World} (v : Value) → Fits p w v (class_number 4) → Sound p b w Any (as_string v)
  string_sound (Str bytes) h = give_sound bytes tt
  string_sound Void h = absurd (h.0.no_string refl)
  string_sound (Int n) h = number_apart 2 4 (omega arith) (only_string p typed (class_number 2) (basic_within p typed 2 (omega arith)) h)
  string_sound (Truth c) h = number_apart 3 4 (omega arith) (only_string p typed (class_number 3) (basic_within p typed 3 (omega arith)) h)
  string_sound (Obj c i ls) h = absurd (h.0.plain.no_string (ap (λ (d : ClassId). d.0) (only_string p typed c h.0.within h.1)))

  -- new values
  pub new_number_sound : {b : ℕ} {w : World} (n : ℤ) → Sound p b w (λ w' v. Fits p w' v (class_number 2)) (new_number n)
  new_number_sound n = giving_sound 5 (give_sound (Int n) int_fits)

  pub new_truth_sound : {b : ℕ} {w : World} (c : Bool) → Sound p b w (λ w' v. Fits p w' v (class_number 3)) (new_truth c)
  new_truth_sound c = giving_sound 5 (give_sound (Truth c) bool_fits)

  pub new_string_sound : {b : ℕ} {w : World} (bytes : List ℕ) → Sound p b w (λ w' v. Fits p w' v (class_number 4)) (new_string bytes)
  new_string_sound bytes = working_sound (length bytes) (giving_sound (17 + (length bytes + 3) / 4) (give_sound (Str bytes) string_fits))

  -- arguments, as many as there are formals
  one_sound : {b : ℕ} {w : World} (vs : List Value) (d : ClassId) → AllFit p w vs (d ∷ []) → Sound p b w (λ w' v. Fits p w' v d) (one vs)
  one_sound [] d h = absurd h
  one_sound (v ∷ []) d h = give_sound v h.0
  one_sound (v ∷ x ∷ vs) d h = absurd h.1

  two_sound : {b : ℕ} {w : World} (vs : List Value) (d e : ClassId) → AllFit p w vs (d ∷ e ∷ []) → Sound p b w (λ w' v. Fits p w' v.0 d × Fits p w' v.1 e) (two vs)
  two_sound [] d e h = absurd h
  two_sound (v ∷ []) d e h = absurd h.1
  two_sound (v ∷ x ∷ []) d e h = give_sound (v, x) (h.0, h.1.0)
  two_sound (v ∷ x ∷ y ∷ vs) d e h = absurd h.1.1

  -- copies
  pub copy_sound : {b : ℕ} {w : World} (v : Value) (k : ClassId) → class_of v ≡ Some k → Fits p w v k → Sound p b w (λ w' r. Fits p w' r k) (copy p v)
  copy_sound Void k e h = absurd (cc)
  copy_sound (Int n) k e h = giving_sound 5 (give_sound (Int n) h)
  copy_sound (Truth c) k e h = giving_sound 5 (give_sound (Truth c) h)
  copy_sound (Str bytes) k e h = working_sound _ (giving_sound _ (give_sound (Str bytes) h))
  copy_sound {w = w} (Obj c i ls) k e h =
      working_sound _ (giving_sound _ (bind_sound (load_all_sound ls (attribute_classes p c (attributes p c)) h.0.made) (λ w1 vs g1 fit.
      bind_sound (locate_all_sound vs (attribute_classes p c (attributes p c)) fit) (λ w2 ks g2 made.
      bind_sound draw_sound (λ w3 j g3 x.
      give_sound (Obj c j ks) (record { within = h.0.within; plain = h.0.plain; made = still_all_made w2 w3 g3 ks (attribute_classes p c (attributes p c)) made }, h.1))))))

  substring_sound : {b : ℕ} {w : World} (at : Place) (o : Option (List ℕ)) → Sound p b w (λ w' v. Fits p w' v (class_number 4)) (substring at o)
  substring_sound at None = stop_sound (Substring at)
  substring_sound at (Some bytes) = new_string_sound bytes

  -- a result that fits one of two equal classes fits the other
  of_class : {b : ℕ} {w : World} {d : Computation Value} (m n : ClassId) → m ≡ n → Sound p b w (λ w' v. Fits p w' v m) d → Sound p b w (λ w' v. Fits p w' v n) d
  of_class {b = b} {w = w} {d = d} m n e h = subst (λ (c : ClassId). Sound p b w (λ w' v. Fits p w' v c) d) e h

  -- a method on a value of class k; one of String is called on a string
  pub basic_sound : {b : ℕ} {w : World} (m : BasicMethod) (at : Place) (v : Value) (k : ClassId) (vs : List Value) → class_of v ≡ Some k → Fits p w v k → (IsOfString m → k ≡ class_number 4)
      → AllFit p w vs (map (meant p k) (basic_formals m)) → Sound p b w (λ w' r. Fits p w' r (meant p k (basic_result m))) (basic p m at v vs)
  unfolding type_meant type_of_name
  basic_sound {b = b} {w = w} Abort at v k vs e h on args =
      subst (λ (o : Option ClassId). Sound p b w (λ w' r. Fits p w' r (meant p k (codes "Object"))) (given o >>= λ c. stop (Aborted c))) (sym e) (bind_sound (give_sound {Q = Any} k tt) (λ w' c g q. stop_sound (Aborted c)))
  basic_sound {b = b} {w = w} TypeName at v k vs e h on args = of_class (class_number 4) (meant p k (codes "String")) (sym (string_meant k))
      (subst (λ (o : Option ClassId). Sound p b w (λ w' r. Fits p w' r (class_number 4)) (given o >>= λ c. give (Str (name_of p c)))) (sym e)
      (bind_sound (give_sound {Q = Any} k tt) (λ w' c g q. give_sound (Str (name_of p c)) string_fits)))
  basic_sound Copy at v k vs e h on args = copy_sound v k e h
  basic_sound {w = w} OutString at v k vs e h on args =
      bind_sound (one_sound vs (meant p k (codes "String")) args) (λ w1 u g1 fits. bind_sound (string_sound u (subst (λ (c : ClassId). Fits p w1 u c) (string_meant k) fits)) (λ w2 bytes g2 x.
      then_sound (working_sound (length bytes) (print_sound bytes)) (λ w3 g3. give_sound v (still_fits p w2 w3 g3 v k (still_fits p w1 w2 g2 v k (still_fits p w w1 g1 v k h))))))
  basic_sound {w = w} OutInt at v k vs e h on args =
      bind_sound (one_sound vs (meant p k (codes "Int")) args) (λ w1 u g1 fits. bind_sound (number_sound u (subst (λ (c : ClassId). Fits p w1 u c) (int_meant k) fits)) (λ w2 n g2 x.
      then_sound (print_sound (signed_decimal n)) (λ w3 g3. give_sound v (still_fits p w2 w3 g3 v k (still_fits p w1 w2 g2 v k (still_fits p w w1 g1 v k h))))))
  basic_sound InString at v k vs e h on args = of_class (class_number 4) (meant p k (codes "String")) (sym (string_meant k)) (bind_sound take_line_sound (λ w1 bytes g1 x. new_string_sound bytes))
  basic_sound InInt at v k vs e h on args = of_class (class_number 2) (meant p k (codes "Int")) (sym (int_meant k)) (bind_sound take_line_sound (λ w1 bytes g1 x. new_number_sound (number_of bytes)))
  basic_sound {w = w} Length at v k vs e h on args = of_class (class_number 2) (meant p k (codes "Int")) (sym (int_meant k))
      (bind_sound (string_sound v (subst (λ (c : ClassId). Fits p w v c) (on tt) h)) (λ w1 bytes g1 x. new_number_sound (signed (length bytes))))
  basic_sound {w = w} Concat at v k vs e h on args = of_class (class_number 4) (meant p k (codes "String")) (sym (string_meant k))
      (bind_sound (string_sound v (subst (λ (c : ClassId). Fits p w v c) (on tt) h)) (λ w1 bytes g1 x.
      bind_sound (one_sound vs (meant p k (codes "String")) (still_all_fit p w w1 g1 vs (meant p k (codes "String") ∷ []) args)) (λ w2 u g2 fits.
      bind_sound (string_sound u (subst (λ (c : ClassId). Fits p w2 u c) (string_meant k) fits)) (λ w3 more g3 y. new_string_sound (bytes ++ more)))))
  basic_sound {w = w} Substr at v k vs e h on args = of_class (class_number 4) (meant p k (codes "String")) (sym (string_meant k))
      (bind_sound (string_sound v (subst (λ (c : ClassId). Fits p w v c) (on tt) h)) (λ w1 bytes g1 x.
      bind_sound (two_sound vs (meant p k (codes "Int")) (meant p k (codes "Int")) (still_all_fit p w w1 g1 vs (meant p k (codes "Int") ∷ meant p k (codes "Int") ∷ []) args)) (λ w2 us g2 fits.
      bind_sound (number_sound us.0 (subst (λ (c : ClassId). Fits p w2 us.0 c) (int_meant k) fits.0)) (λ w3 i g3 y.
      bind_sound (number_sound us.1 (still_fits p w2 w3 g3 us.1 (class_number 2) (subst (λ (c : ClassId). Fits p w2 us.1 c) (int_meant k) fits.1))) (λ w4 l g4 z.
      substring_sound at (part bytes i l))))))
