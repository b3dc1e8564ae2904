-- The parts of evaluation that make calls or bind names, such as dispatches and new objects, are never stuck if the calls are never stuck.
use Rattle.std.proofs.Common.{◌≡◌, ◌≢◌, ℕ, zero, suc, ◌<◌, ◌≤◌, ℤ, pos, List, [], ◌∷◌, map, length, Option, Some, None, Bool, true, false, ap, sym, ◌∙◌, refl, subst, arith, true≢false}
use Rattle.std.specs.Prelude.{Contains, if◌then◌else◌, ◌==◌, bytes_eq, codes, slice_get, int_div, int_lt, int_le, ◌+ℤ◌, ◌-ℤ◌, ◌*ℤ◌}
use Rattle.std.specs.List.{AllByRecursion}
use Rattle.std.proofs.lemmas.Slice.Eq.{bytes_eq-Decides}
use Rattle.cool_syntax.specs.declared.place.Place.{Place}
use Rattle.cool_syntax.specs.declared.file_tree.Feature.{Feature}
use Rattle.cool_syntax.specs.declared.file_tree.Feature.TheVariants.{Attribute}
use Rattle.cool_syntax.specs.declared.operator.ArithOp.{ArithOp}
use Rattle.cool_syntax.specs.declared.operator.ArithOp.TheVariants.{Add, Sub, Mul, Div}
use Rattle.cool_syntax.specs.declared.operator.CompareOp.{CompareOp}
use Rattle.cool_syntax.specs.declared.operator.CompareOp.TheVariants.{Less, LessEqual, Equal}
use Rattle.cool_classes.specs.declared.class_id.ClassId.{ClassId}
use Rattle.cool_classes.specs.declared.class_id.Ty.{Ty}
use Rattle.cool_classes.specs.declared.class_id.Ty.TheVariants.{Class as IsClass, SelfType}
use Rattle.cool_classes.specs.declared.method.MethodRef.{MethodRef}
use Rattle.cool_classes.specs.declared.method.MethodRef.TheVariants.{Basic, User}
use Rattle.cool_classes.specs.declared.method.AttributeRef.{AttributeRef}
use Rattle.cool_classes.specs.Chains.{Class, class_number, name_of, features_of, Below}
use Rattle.cool_classes.specs.Features.{Denotes, implementation, formals_of, result_of, HasMethod, attribute_type, HasAttribute, result_in}
use Rattle.cool_classes.specs.Tables.{IsClassName, IsTyped}
use Rattle.cool_classes.proofs.Methods.{found_has}
use Rattle.cool_classes.proofs.AttributesOfChains.{attributes_have}
use Rattle.cool_classes.proofs.Climbs.{all_within}
use Rattle.cool_rules.specs.Conformance.{class_of as class_meant}
use Rattle.cool_rules.specs.Scopes.{found}
use Rattle.cool_rules.specs.Typing.{AreArguments, AreComparable, int_type}
use Rattle.cool_classes.specs.LawfulTables.{MayInherit}
use Rattle.cool_rules.specs.TypedTables.{IsTypedTable}
use Rattle.cool_meaning.specs.Values.{Value, Void, Int, Bool as Truth, Str, Obj, class_of, default_of}
use Rattle.cool_meaning.specs.Meters
use Rattle.cool_meaning.specs.Meters.{Error, Overflow, DivisionByZero, NoBranch, Computation, ◌>>=◌, ◌>>◌, give, spend, rule, working, holding, given, store}
use Rattle.cool_meaning.specs.Numbers.{fits, is_zero}
use Rattle.cool_classes.specs.ClimbedChains.{chain as chain_of}
use Rattle.cool_meaning.specs.Lookups.{attributes, default_values}
use Rattle.cool_meaning.specs.BasicMethods.{as_number, new_number, new_truth, new_string}
use Rattle.cool_meaning.specs.Evaluation.{Body, Initials, Calls, class_or, exact, arithmetic, compare, same, bytes_compared, turns, loop, new_object, make, invoke, dispatch, Branch, or_else, nearest, take_branch}
use Rattle.cool_rules.proofs.ChainsOfTables.{below_trans, below_itself, chain_within}
use Rattle.cool_classes.proofs.ChainsOfTables.{chain_is}
use Rattle.cool_rules.proofs.RulesOfTables.{meant_is}
use Rattle.cool_meaning.proofs.BasicClasses.{by_number, basic_within, basic_name, high_inherits, only_string}
use Rattle.cool_meaning.specs.FittingValues.{World, Fits, AllFit, meant, attribute_classes}
use Rattle.cool_meaning.proofs.FittingValues.{Grown, not_grown, grown_on, still_all_made, still_fits, fits_conforming}
use Rattle.cool_meaning.proofs.SoundComputations.{NotStuck, Sound, bind_sound, then_sound, give_sound, stop_sound, working_sound, giving_sound, holding_sound, rule_sound, if_sound, spend_sound, locate_all_sound}
use Rattle.cool_meaning.proofs.SoundMethods.{Any, draw_sound, number_sound, truth_sound, new_number_sound, new_truth_sound, new_string_sound, basic_sound, int_fits, bool_fits, string_fits}
use Rattle.cool_meaning.proofs.MethodsOfTables.{implementation_own, string_own, user_own, defined_attribute}
use Rattle.std.proofs.lemmas.List.Elements.{Contains-append_right}
use Rattle.lists.proofs.EqualBytes.{bytes_same}
use Rattle.lists.proofs.AllItems.{all_get}
use Rattle.std.proofs.lemmas.Bool.{eqb-true}

-- a weaker claim holds, too
wider_by : {A : Type 0} (p : List Class) (w : World) (n : ℕ) (Q R : World → A → Type 0) (o : _) → ((w' : World) (v : A) → Q w' v → R w' v) → NotStuck p w n Q o → NotStuck p w n R o
wider_by p w n Q R (Meters.Val v s left) f h = record { world = h.world; grown = h.grown; store = h.store; value = f h.world v h.value; fewer = h.fewer }
wider_by p w n Q R (Meters.Stop e s) f h = tt
wider_by p w n Q R (Meters.On s) f h = tt
wider_by p w n Q R Meters.Stuck f h = absurd h

pub wider_sound : {A : Type 0} {p : List Class} {b : ℕ} {w : World} {Q R : World → A → Type 0} {d : Computation A} → ((w' : World) (v : A) → Q w' v → R w' v) → Sound p b w Q d → Sound p b w R d
wider_sound {p = p} {w = w} {Q = Q} {R = R} {d = d} f h = record { sound = λ s n less fits. wider_by p w n Q R (d s n).outcome f (h.sound s n less fits) }

-- the class of a value that is not void
pub class_or_sound : {p : List Class} {b : ℕ} {w : World} (e : Error) (v : Value) → Sound p b w (λ w' k. class_of v ≡ Some k) (class_or e v)
class_or_sound e Void = stop_sound e
class_or_sound e (Int n) = give_sound (class_number 2) refl
class_or_sound e (Truth c) = give_sound (class_number 3) refl
class_or_sound e (Str bytes) = give_sound (class_number 4) refl
class_or_sound e (Obj k i ls) = give_sound k refl

pub is_other : (n m : ℕ) → (n == m) ≡ false → n ≢ m
is_other n m e = grind arith

-- Soundness of calls, with at most so many steps: the body of a method, on a receiver of a class below its owner; initial values, for a new object.
pub record CallsSound (p : List Class) (calls : Calls) (b : ℕ) : Type 0 where
  pub body : (w : World) (owner : ClassId) (i : ℕ) (self : Value) (k : ClassId) (vs : List Value) → HasMethod p (User owner i) → class_of self ≡ Some k → k.0 < length p → MayInherit k → Below p k owner
      → Fits p w self k → AllFit p w vs (map (meant p k) (formals_of p (User owner i))) → Sound p b w (λ w' r. Fits p w' r (meant p k (result_of p (User owner i)))) (calls (Body owner i self vs))
  pub initials : (w : World) (c : ClassId) (self : Value) (k : ClassId) → c.0 < length p → class_of self ≡ Some k → k.0 < length p → MayInherit k → Below p k c → Fits p w self k
      → Sound p b w (Any {A = Value}) (calls (Initials c self))

abbrev pub AllCallsSound : List Class → Calls → ℕ → Type 0
AllCallsSound p calls b = (m : ℕ) → m < b → CallsSound p calls m

module _ (p : List Class) (typed : IsTypedTable p) where
  -- Names and types

  -- the default of a type fits it
  pub default_fits : (w : World) (k : ClassId) (name : List ℕ) (t : Ty) → k.0 < length p → MayInherit k → Denotes p name t → Fits p w (default_of name) (class_meant k t)
  default_fits w k name SelfType within may is = subst (λ (n : List ℕ). Fits p w (default_of n) k) (sym is) (may, within)
  default_fits w k name (IsClass d) within may (d_within, is) = by (bytes_eq name (codes "Int")) (bytes_eq name (codes "Bool")) (bytes_eq name (codes "String")) refl refl refl
    where
      named : (n : ℕ) → n < 5 → name ≡ name_of p (class_number n) → class_number n ≡ d
      named n less e = sym (typed.whole.table.names d (class_number n) d_within (basic_within p typed n less) (is ∙ e))

      other : (n : ℕ) (word : List ℕ) → n < 5 → name_of p (class_number n) ≡ word → bytes_eq name word ≡ false → d.0 ≢ n
      other n word less e f same = true≢false (sym (bytes_same name word (sym is ∙ (ap (name_of p) (by_number d n same) ∙ e))) ∙ f)

      by : (a b c : Bool) → bytes_eq name (codes "Int") ≡ a → bytes_eq name (codes "Bool") ≡ b → bytes_eq name (codes "String") ≡ c
          → Fits p w (if a then Int (pos 0) else (if b then Truth false else (if c then Str [] else Void))) d
      by true b c ea eb ec = subst (λ (x : ClassId). Below p (class_number 2) x) (named 2 (omega arith) ((bytes_eq-Decides name (codes "Int")).0 ea ∙ sym (basic_name p typed 2 (omega arith)))) (int_fits p typed)
      by false true c ea eb ec = subst (λ (x : ClassId). Below p (class_number 3) x) (named 3 (omega arith) ((bytes_eq-Decides name (codes "Bool")).0 eb ∙ sym (basic_name p typed 3 (omega arith)))) (bool_fits p typed)
      by false false true ea eb ec = subst (λ (x : ClassId). Below p (class_number 4) x) (named 4 (omega arith) ((bytes_eq-Decides name (codes "String")).0 ec ∙ sym (basic_name p typed 4 (omega arith)))) (string_fits p typed)
      by false false false ea eb ec = (
        record {
          no_int = other 2 (codes "Int") (omega arith) (basic_name p typed 2 (omega arith)) ea;
          no_bool = other 3 (codes "Bool") (omega arith) (basic_name p typed 3 (omega arith)) eb;
          no_string = other 4 (codes "String") (omega arith) (basic_name p typed 4 (omega arith)) ec;
        },
        d_within,
      )

  -- an argument's type is that of its formal for the receiver too
  formal_meant : (k j : ClassId) (formal : List ℕ) (u : Ty) → IsClassName p formal → Denotes p formal u → class_meant k u ≡ meant p j formal
  formal_meant k j formal SelfType (d, within, is) e = absurd (typed.whole.table.no_self_type d within (is ∙ e))
  formal_meant k j formal (IsClass c) h e = sym (ap (class_meant j) (meant_is p typed.whole.table formal (IsClass c) e))

  pub arguments_fit : (c k j : ClassId) → k.0 < length p → Below p k c → (w : World) (given : List Ty) (formals : List (List ℕ)) (vs : List Value) → AllFit p w vs (map (class_meant k) given)
      → AreArguments p c given formals → AllByRecursion (IsClassName p) formals → AllFit p w vs (map (meant p j) formals)
  arguments_fit c k j within below w [] [] vs h a names = h
  arguments_fit c k j within below w [] (f ∷ fs) vs h a names = absurd a
  arguments_fit c k j within below w (t ∷ ts) [] vs h a names = absurd a
  arguments_fit c k j within below w (t ∷ ts) (f ∷ fs) [] h a names = absurd h
  arguments_fit c k j within below w (t ∷ ts) (f ∷ fs) (v ∷ vs) h ((u, denotes, conforms), a) names = (
    subst (λ (d : ClassId). Fits p w v d) (formal_meant k j f u names.0 denotes) (fits_conforming p typed c k within below w v t u h.0 conforms),
    arguments_fit c k j within below w ts fs vs h.1 a names.1,
  )

  -- Arithmetic and comparison

  exact_sound : {b : ℕ} {w : World} (at : Place) (n : ℤ) → Sound p b w (λ w' v. Fits p w' v (class_number 2)) (exact at n)
  exact_sound at n = if_sound (fits n) (new_number_sound p typed n) (stop_sound (Overflow at))

  pub negated_sound : {b : ℕ} {w : World} (at : Place) (n : ℤ) → Sound p b w (λ w' v. Fits p w' v (class_number 2)) (exact at n)
  negated_sound at n = exact_sound at n

  pub arithmetic_sound : {b : ℕ} {w : World} (op : ArithOp) (at : Place) (m n : ℤ) → Sound p b w (λ w' v. Fits p w' v (class_number 2)) (arithmetic op at m n)
  arithmetic_sound Add at m n = exact_sound at (m +ℤ n)
  arithmetic_sound Sub at m n = exact_sound at (m -ℤ n)
  arithmetic_sound Mul at m n = exact_sound at (m *ℤ n)
  arithmetic_sound Div at m n = if_sound (is_zero n) (stop_sound (DivisionByZero at)) (exact_sound at (int_div m n))

  numbers_sound : {b : ℕ} {w : World} (k : ClassId) (v u : Value) (t s : Ty) (f : ℤ → ℤ → Bool) → t ≡ int_type → s ≡ int_type → Fits p w v (class_meant k t) → Fits p w u (class_meant k s)
      → Sound p b w (λ w' r. Fits p w' r (class_number 3)) (as_number v >>= λ m. as_number u >>= λ n. give (Truth (f m n)))
  numbers_sound {w = w} k v u t s f is_int is_int' fit fit' =
      bind_sound (number_sound p typed v (subst (λ (x : Ty). Fits p w v (class_meant k x)) is_int fit)) (λ w1 m g1 x.
      bind_sound (number_sound p typed u (still_fits p w w1 g1 u (class_number 2) (subst (λ (x : Ty). Fits p w u (class_meant k x)) is_int' fit'))) (λ w2 n g2 y. give_sound (Truth (f m n)) (bool_fits p typed)))

  pub compare_sound : {b : ℕ} {w : World} (k : ClassId) (op : CompareOp) (v u : Value) (t s : Ty) → AreComparable op t s → Fits p w v (class_meant k t) → Fits p w u (class_meant k s)
      → Sound p b w (λ w' r. Fits p w' r (class_number 3)) (compare op v u)
  compare_sound k Less v u t s h fit fit' = numbers_sound k v u t s (λ m n. int_lt m n) h.0 h.1 fit fit'
  compare_sound k LessEqual v u t s h fit fit' = numbers_sound k v u t s (λ m n. int_le m n) h.0 h.1 fit fit'
  compare_sound k Equal v u t s h fit fit' = working_sound (bytes_compared v u) (give_sound (Truth (same v u)) (bool_fits p typed))

  -- Loops

  turns_sound : (j b : ℕ) (w : World) (test body : Computation Value) → b < j → ((m : ℕ) (w' : World) → m ≤ b → Grown w w' → Sound p m w' (λ w2 v. Fits p w2 v (class_number 3)) test)
      → ((m : ℕ) (w' : World) → m ≤ b → Grown w w' → Sound p m w' (Any {A = Value}) body) → Sound p b w (λ w' v. Fits p w' v (class_number 0)) (turns j test body)
  turns_sound zero b w test body less h g = absurd (omega arith)
  turns_sound (suc j) b w test body less h g =
      bind_sound (h b w (omega arith) (not_grown w)) (λ w1 v g1 fit. bind_sound (truth_sound p typed v fit) (λ w2 c g2 x.
      if_sound c
      (spend_sound (λ m below. working_sound 1 (then_sound (g m w2 (omega arith) (grown_on w w1 w2 g1 g2)) (λ w3 g3.
      turns_sound j m w3 test body (omega arith)
      (λ n w4 few g4. h n w4 (omega arith) (grown_on w w3 w4 (grown_on w w2 w3 (grown_on w w1 w2 g1 g2) g3) g4))
      (λ n w4 few g4. g n w4 (omega arith) (grown_on w w3 w4 (grown_on w w2 w3 (grown_on w w1 w2 g1 g2) g3) g4))))))
      (give_sound Void (object_plain, basic_within p typed 0 (omega arith)))))
    where
      object_plain : MayInherit (class_number 0)
      object_plain = record { no_int = λ e. omega arith; no_bool = λ e. omega arith; no_string = λ e. omega arith }

  pub loop_sound : (b : ℕ) (w : World) (test body : Computation Value) → ((m : ℕ) (w' : World) → m ≤ b → Grown w w' → Sound p m w' (λ w2 v. Fits p w2 v (class_number 3)) test)
      → ((m : ℕ) (w' : World) → m ≤ b → Grown w w' → Sound p m w' (Any {A = Value}) body) → Sound p b w (λ w' v. Fits p w' v (class_number 0)) (loop test body)
  loop_sound b w test body h g = record {
    sound = λ s n less fits. (turns_sound (suc n) n w test body (omega arith) (λ m w' few. h m w' (omega arith)) (λ m w' few. g m w' (omega arith))).sound s n (omega arith) fits;
  }

  module _ (calls : Calls) (b : ℕ) (calls_sound : AllCallsSound p calls b) where
    -- New objects

    -- the type of an attribute is one
    attribute_denotes : (r : AttributeRef) → HasAttribute p r → (t : Ty) × Denotes p (attribute_type p r) t
    attribute_denotes r h =
        let (a, is) = defined_attribute (slice_get (features_of p r.owner) r.index) h.1 in
        let types : IsTyped p (Attribute a) = all_get (IsTyped p) (features_of p r.owner) r.index (Attribute a) (typed.whole.table.types r.owner h.0) is in
        subst (λ (o : Option Feature). (t : Ty) × Denotes p (result_in o) t) (sym is) types

    attribute_defaults : (w : World) (k : ClassId) → k.0 < length p → MayInherit k → (rs : List AttributeRef) → AllByRecursion (HasAttribute p) rs → AllFit p w (default_values p rs) (attribute_classes p k rs)
    attribute_defaults w k within may [] h = tt
    attribute_defaults w k within may (r ∷ rs) h =
        let (t, denotes) = attribute_denotes r h.0 in (
          subst (λ (x : Ty). Fits p w (default_of (attribute_type p r)) (class_meant k x)) (sym (meant_is p typed.whole.table (attribute_type p r) t denotes)) (default_fits w k (attribute_type p r) t within may denotes),
          attribute_defaults w k within may rs h.1,
        )

    attributes_there : (k : ClassId) → k.0 < length p → AllByRecursion (HasAttribute p) (attributes p k)
    attributes_there k within = attributes_have p (chain_of p k) (λ j d less. all_within p typed.whole.depth typed.whole.grounded k within (chain_of p k) (chain_is p k typed.whole.table within) j d less)

    object_sound : (m : ℕ) → m < b → (w : World) (k : ClassId) → k.0 < length p → MayInherit k → Sound p m w (λ w' v. Fits p w' v k) (new_object p calls k)
    object_sound m less w k within may =
        working_sound _ (giving_sound _ (bind_sound (locate_all_sound (default_values p (attributes p k)) (attribute_classes p k (attributes p k)) (attribute_defaults w k within may (attributes p k) (attributes_there k within))) (λ w1 ls g1 made.
        bind_sound draw_sound (λ w2 i g2 x.
        let fine : Fits p w2 (Obj k i ls) k = (record { within = within; plain = may; made = still_all_made w1 w2 g2 ls (attribute_classes p k (attributes p k)) made }, below_itself p typed.whole k within) in
        then_sound ((calls_sound m less).initials w2 k (Obj k i ls) k within refl within may (below_itself p typed.whole k within) fine) (λ w3 g3. give_sound (Obj k i ls) (still_fits p w2 w3 g3 (Obj k i ls) k fine))))))

    value_sound : (w : World) (k : ClassId) (n : ℕ) (d : Computation Value) → k.0 ≡ n → ((m : ℕ) → Sound p m w (λ w' v. Fits p w' v (class_number n)) d) → Sound p b w (λ w' v. Fits p w' v k) (rule (spend d))
    value_sound w k n d is h = subst (λ (c : ClassId). Sound p b w (λ w' v. Fits p w' v c) (rule (spend d))) (sym (by_number k n is)) (rule_sound (spend_sound (λ m less. h m)))

    pub make_sound : (w : World) (k : ClassId) → k.0 < length p → Sound p b w (λ w' v. Fits p w' v k) (make p calls (Some k))
    make_sound w k within = by (k.0 == 2) (k.0 == 3) (k.0 == 4) refl refl refl
      where
        by : (x y z : Bool) → (k.0 == 2) ≡ x → (k.0 == 3) ≡ y → (k.0 == 4) ≡ z
            → Sound p b w (λ w' v. Fits p w' v k)
            (if x then rule (spend (new_number (pos 0))) else (if y then rule (spend (new_truth false)) else (if z then rule (spend (new_string [])) else working 1 (holding (length (chain_of p k)) (spend (new_object p calls k))))))
        by true y z ex ey ez = value_sound w k 2 (new_number (pos 0)) (eqb-true k.0 2 ex) (λ m. new_number_sound p typed (pos 0))
        by false true z ex ey ez = value_sound w k 3 (new_truth false) (eqb-true k.0 3 ey) (λ m. new_truth_sound p typed false)
        by false false true ex ey ez = value_sound w k 4 (new_string []) (eqb-true k.0 4 ez) (λ m. new_string_sound p typed [])
        by false false false ex ey ez =
            let may : MayInherit k = record { no_int = is_other k.0 2 ex; no_bool = is_other k.0 3 ey; no_string = is_other k.0 4 ez } in
            working_sound 1 (holding_sound _ (spend_sound (λ m less. object_sound m less w k within may)))

    -- Dispatch

    -- a method that a class on the way up from the receiver's has
    invoke_sound : (m : ℕ) → m < b → (w : World) (at : Place) (c k : ClassId) (name : List ℕ) (v : Value) (vs : List Value) (n : MethodRef) → class_of v ≡ Some k → k.0 < length p → Fits p w v k → Below p k c
        → c.0 < length p → implementation p (chain_of p c) name ≡ Some n → AllFit p w vs (map (meant p k) (formals_of p n)) → Sound p m w (λ w' r. Fits p w' r (meant p k (result_of p n))) (invoke p calls at v vs (Some n))
    invoke_sound m less w at c k name v vs (Basic x) is within fit below c_within found args =
        let (d, there, own) = implementation_own p (chain_of p c) name (Basic x) found in
        basic_sound p typed x at v k vs is fit (λ s. on d (string_own p d name x own s) there) args
      where
        on : (d : ClassId) → d ≡ class_number 4 → Contains (chain_of p c) d → k ≡ class_number 4
        on d four there =
            let on_chain : Below p c d = (chain_of p c, chain_is p c typed.whole.table c_within, there) in
            only_string p typed k within (subst (λ (y : ClassId). Below p k y) four (below_trans p k c d below on_chain))
    invoke_sound m less w at c k name v vs (User owner i) is within fit below c_within found args =
        let (d, there, own) = implementation_own p (chain_of p c) name (User owner i) found in
        let d_within : d.0 < length p = chain_within p typed.whole c c_within (chain_of p c) (chain_is p c typed.whole.table c_within) d there in
        let (same, high) = user_own p d owner i name own in
        let below_owner : Below p k owner = subst (λ (y : ClassId). Below p k y) (sym same) (below_trans p k c d below (chain_of p c, chain_is p c typed.whole.table c_within, there)) in
        let has : HasMethod p (User owner i) = found_has p d name (User owner i) d_within own in
        (calls_sound m less).body w owner i v k vs has is within (high_inherits p typed k owner below_owner (subst (λ (y : ClassId). 5 ≤ y.0) (sym same) high)) below_owner fit args

    pub dispatch_sound : (w : World) (at : Place) (c k : ClassId) (name : List ℕ) (v : Value) (vs : List Value) (n : MethodRef) → class_of v ≡ Some k → k.0 < length p → Fits p w v k → Below p k c
        → c.0 < length p → implementation p (chain_of p c) name ≡ Some n → AllFit p w vs (map (meant p k) (formals_of p n)) → Sound p b w (λ w' r. Fits p w' r (meant p k (result_of p n))) (dispatch p calls at c name v vs)
    dispatch_sound w at c k name v vs n is within fit below c_within found args =
        spend_sound (λ m less. working_sound (length vs) (subst (λ (o : Option MethodRef). Sound p m w (λ w' r. Fits p w' r (meant p k (result_of p n))) (invoke p calls at v vs o)) (sym found)
        (invoke_sound m less w at c k name v vs n is within fit below c_within found args)))

    -- Cases

    -- soundness of a branch of a class with a value that fits it
    abbrev pub IsSoundBranch : World → ClassId → ClassId → Option Branch → Type 0
    IsSoundBranch w d k None = Unit {0}
    IsSoundBranch w d k (Some f) = (v : Value) → Fits p w v d → Sound p b w (λ w' r. Fits p w' r k) (f v)

    pub nearest_sound : (w : World) (at : Place) (c k : ClassId) (v : Value) (branch : List ℕ → Option Branch) (ds : List ClassId) → ((d : ClassId) → Contains ds d → Fits p w v d × IsSoundBranch w d k (branch (name_of p d)))
        → Sound p b w (λ w' r. Fits p w' r k) (take_branch at c v (nearest p branch ds))
    nearest_sound w at c k v branch [] h = stop_sound (NoBranch at c)
    nearest_sound w at c k v branch (d ∷ ds) h =
        let (fit, sound) = h d (0, omega arith, refl) in
        by (branch (name_of p d)) fit sound (nearest_sound w at c k v branch ds (λ e there. h e (Contains-append_right (d ∷ []) ds e there)))
      where
        by : (o : Option Branch) → Fits p w v d → IsSoundBranch w d k o → Sound p b w (λ w' r. Fits p w' r k) (take_branch at c v (nearest p branch ds))
            → Sound p b w (λ w' r. Fits p w' r k) (take_branch at c v (or_else o (nearest p branch ds)))
        by None fit sound more = more
        by (Some f) fit sound more = sound v fit
