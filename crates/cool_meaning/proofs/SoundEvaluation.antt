-- The evaluation of an expression without type errors is never stuck, and its value fits the static type of the expression.
use Rattle.std.proofs.Common.{◌≡◌, ◌≢◌, ℕ, ◌<◌, neg_ℤ, List, [], ◌∷◌, map, length, Option, Some, Bool, true, false, not, ap, sym, ◌∙◌, refl, subst, arith}
use Rattle.std.specs.Prelude.{if◌then◌else◌, bytes_eq, codes, slice_get}
use Rattle.std.specs.List.{AllByRecursion}
use Rattle.std.proofs.lemmas.Slice.Eq.{bytes_eq-Decides}
use Rattle.cool_syntax.specs.declared.place.Place.{Place}
use Rattle.cool_syntax.specs.Tree.{Tree, Trees, MaybeTree, Cases, Last, More, Without, With, NoCase, CaseOf}
use Rattle.cool_syntax.specs.Tree as trees
use Rattle.cool_classes.specs.declared.class_id.ClassId.{ClassId}
use Rattle.cool_classes.specs.declared.class_id.Ty.{Ty}
use Rattle.cool_classes.specs.declared.class_id.Ty.TheVariants.{Class as IsClass, SelfType}
use Rattle.cool_classes.specs.declared.method.MethodRef.{MethodRef}
use Rattle.cool_classes.specs.Chains.{Class, class_number, name_of, Below}
use Rattle.cool_classes.specs.Features.{Denotes, implementation, formals_of, result_of, HasMethod}
use Rattle.cool_classes.proofs.Climbs.{chain_unique}
use Rattle.cool_classes.proofs.Methods.{found_has}
use Rattle.cool_rules.specs.Conformance.{Conforms, class_of as class_meant}
use Rattle.cool_rules.specs.Scopes.{Binding, found}
use Rattle.cool_rules.specs.Typing.{type_in_scope, IsCall, IsImplementation, result_on, int_type, bool_type, object_type, with_name, HasType, HaveTypes, HaveItems, HasInit, HaveBranches, IsJoinOfBranches}
use Rattle.cool_classes.specs.Names.{self_type}
use Rattle.cool_classes.specs.LawfulTables.{MayInherit}
use Rattle.cool_rules.specs.TypedTables.{IsTypedTable}
use Rattle.cool_meaning.specs.Values.{Value, Void, Int, Bool as Truth, Str, Environment, class_of, location_of, default_of}
use Rattle.cool_meaning.specs.Numbers.{signed}
use Rattle.cool_meaning.specs.Meters.{DispatchVoid, CaseVoid, Computation, ◌>>=◌, ◌>>◌, give, given, load, store}
use Rattle.cool_classes.specs.ClimbedChains.{chain as chain_of}
use Rattle.cool_rules.specs.Rules.{class_named}
use Rattle.cool_meaning.specs.Lookups.{class_made}
use Rattle.cool_meaning.specs.Evaluation.{Calls, value_named, assign, is_void, make, dispatch, Branch, eval, eval_all, eval_items, eval_init, branch_of}
use Rattle.cool_rules.proofs.ChainsOfTables.{below_trans, below_within, below_itself, chain_within, implementation_below}
use Rattle.cool_classes.proofs.ChainsOfTables.{chain_is}
use Rattle.cool_rules.proofs.NamesOfTables.{class_by_name}
use Rattle.cool_rules.proofs.RulesOfTables.{meant_is}
use Rattle.cool_meaning.proofs.BasicClasses.{basic_within}
use Rattle.cool_meaning.specs.FittingValues.{World, Fits, AllFit, meant, Holds, Scene}
use Rattle.cool_meaning.proofs.FittingValues.{Grown, not_grown, grown_on, still_fits, still_all_fit, still_holds, found_at, fits_above, fits_conforming, below_conforming, class_fits}
use Rattle.cool_meaning.proofs.SoundComputations.{Sound, bind_sound, then_sound, give_sound, working_sound, holding_sound, rule_sound, if_sound, fewer_sound, locate_sound, load_sound, store_sound}
use Rattle.cool_meaning.proofs.SoundMethods.{number_sound, truth_sound, int_fits, bool_fits, string_fits}
use Rattle.cool_meaning.proofs.MethodsOfTables.{implementation_own, formals_are_classes}
use Rattle.cool_meaning.proofs.SoundParts.{wider_sound, class_or_sound, AllCallsSound, default_fits, arguments_fit, negated_sound, arithmetic_sound, compare_sound, loop_sound, make_sound, dispatch_sound, IsSoundBranch, nearest_sound}
use Rattle.lists.proofs.EqualBytes.{bytes_differ, bytes_same}

pub scene_later : (p : List Class) (w w' : World) (c k : ClassId) (self : Value) (scope : List Binding) (env : Environment) → Grown w w' → Scene p w c k self scope env → Scene p w' c k self scope env
scene_later p w w' c k self scope env g h = record {
  c_within = h.c_within;
  k_within = h.k_within;
  below = h.below;
  plain = h.plain;
  class = h.class;
  fits = still_fits p w w' g self k h.fits;
  holds = still_holds w w' g k scope env h.holds;
}

-- with one more name
pub scene_with : (p : List Class) (w : World) (c k : ClassId) (self : Value) (scope : List Binding) (env : Environment) (name : List ℕ) (t : Ty) (l : ℕ) → slice_get w l ≡ Some (class_meant k t)
    → Scene p w c k self scope env → Scene p w c k self (with_name name t scope) (record { name = name; location = l } ∷ env)
scene_with p w c k self scope env name t l made h = record {
  c_within = h.c_within;
  k_within = h.k_within;
  below = h.below;
  plain = h.plain;
  class = h.class;
  fits = h.fits;
  holds = (refl, made, h.holds);
}

join_conforms : (p : List Class) (c : ClassId) (ts : List Ty) (join : Ty) → IsJoinOfBranches p c ts join → AllByRecursion (λ t. Conforms p c t join) ts
join_conforms p c [] join h = tt
join_conforms p c (t ∷ ts) join h = h.all

module _ (p : List Class) (typed : IsTypedTable p) (calls : Calls) (b : ℕ) (calls_sound : AllCallsSound p calls b) (c k : ClassId) (self : Value) where
  -- a value that fits the type, as an object of class k reads it
  abbrev IsOf : Ty → World → Value → Type 0
  IsOf t w v = Fits p w v (class_meant k t)

  conforming : {m : ℕ} {w : World} {d : Computation Value} (scope : List Binding) (env : Environment) → Scene p w c k self scope env → (t u : Ty) → Conforms p c t u → Sound p m w (IsOf t) d → Sound p m w (IsOf u) d
  conforming scope env scene t u conforms h = wider_sound (λ w' v fit. fits_conforming p typed c k scene.k_within scene.below w' v t u fit conforms) h

  to_type : {m : ℕ} {w : World} {d : Computation Value} (t u : Ty) → u ≡ t → Sound p m w (IsOf t) d → Sound p m w (IsOf u) d
  to_type {m = m} {w = w} {d = d} t u e h = subst (λ (x : Ty). Sound p m w (IsOf x) d) (sym e) h

  -- Names

  name_sound : (w : World) (scope : List Binding) (env : Environment) (name : List ℕ) (t : Ty) → Scene p w c k self scope env → type_in_scope scope name ≡ Some t → Sound p b w (IsOf t) (value_named self env name)
  name_sound w scope env name t scene e = by (bytes_eq name (codes "self")) e
    where
      by : (x : Bool) → (if x then Some SelfType else found scope name) ≡ Some t → Sound p b w (IsOf t) (if x then give self else (given (location_of env name) >>= load))
      by true e = let same : t ≡ SelfType = cc in to_type SelfType t same (give_sound self scene.fits)
      by false e =
          let (l, there, made) = found_at w k scope env name t scene.holds e in
          subst (λ (o : Option ℕ). Sound p b w (IsOf t) (given o >>= load)) (sym there)
          (bind_sound (give_sound {Q = λ w' n. slice_get w' n ≡ Some (class_meant k t)} l made) (λ w' n g is. load_sound n (class_meant k t) is))

  assign_sound : (w : World) (scope : List Binding) (env : Environment) (name : List ℕ) (v : Value) (t u : Ty) → Scene p w c k self scope env → found scope name ≡ Some u → Conforms p c t u → IsOf t w v
      → Sound p b w (IsOf t) (assign env name v)
  assign_sound w scope env name v t u scene e conforms fit =
      let (l, there, made) = found_at w k scope env name u scene.holds e in
      let fit' : IsOf u w v = fits_conforming p typed c k scene.k_within scene.below w v t u fit conforms in
      subst (λ (o : Option ℕ). Sound p b w (IsOf t) (given o >>= λ l. store l v >> give v)) (sym there)
      (bind_sound (give_sound {Q = λ w' n. (slice_get w' n ≡ Some (class_meant k u)) × IsOf u w' v × IsOf t w' v} l (made, fit', fit)) (λ w1 n g1 is.
      then_sound (store_sound n v (class_meant k u) is.0 is.1) (λ w2 g2. give_sound v (still_fits p w1 w2 g2 v (class_meant k t) is.2))))

  -- Calls

  -- a result fits the type of the call, where the receiver's class is below that of its type
  result_sound : (m : ℕ) (w : World) (j : ClassId) (receiver result type : Ty) (name : List ℕ) (d : Computation Value) → Below p j (class_meant k receiver) → Denotes p name result → type ≡ result_on receiver result
      → Sound p m w (λ w' r. Fits p w' r (meant p j name)) d → Sound p m w (IsOf type) d
  result_sound m w j receiver result type name d below denotes is h =
      to_type (result_on receiver result) type is (by result (subst (λ (x : Ty). Sound p m w (λ w' r. Fits p w' r (class_meant j x)) d) (meant_is p typed.whole.table name result denotes) h))
    where
      by : (u : Ty) → Sound p m w (λ w' r. Fits p w' r (class_meant j u)) d → Sound p m w (IsOf (result_on receiver u)) d
      by (IsClass x) h = h
      by SelfType h = wider_sound (λ w' v fit. fits_above p typed w' v j (class_meant k receiver) fit below) h

  method_there : (x : ClassId) → x.0 < length p → (name : List ℕ) (n : MethodRef) → implementation p (chain_of p x) name ≡ Some n → HasMethod p n
  method_there x within name n found =
      let (d, there, own) = implementation_own p (chain_of p x) name n found in
      found_has p d name n (chain_within p typed.whole x within (chain_of p x) (chain_is p x typed.whole.table within) d there) own

  -- the method that static typing found, in the class itself
  found_in : (x : ClassId) → x.0 < length p → (name : List ℕ) (n : MethodRef) → IsImplementation p x name n → implementation p (chain_of p x) name ≡ Some n
  found_in x within name n (ds, chain, is) = subst (λ (xs : List ClassId). implementation p xs name ≡ Some n) (chain_unique p (Some x) ds (chain_of p x) chain (chain_is p x typed.whole.table within)) is

  static_sound : (w : World) (scope : List Binding) (env : Environment) (at : Place) (x j : ClassId) (name : List ℕ) (v : Value) (vs : List Value) (receiver : Ty) (given' : List Ty) (type : Ty)
      → Scene p w c k self scope env → IsCall p c x name receiver given' type → x.0 < length p → class_of v ≡ Some j → j.0 < length p → Fits p w v j → Below p j (class_meant k receiver) → Below p j x
      → AllFit p w vs (map (class_meant k) given') → Sound p b w (IsOf type) (dispatch p calls at x name v vs)
  static_sound w scope env at x j name v vs receiver given' type scene call x_within is j_within fit below below_x args =
      let n = call.method in
      let found_there = found_in x x_within name n call.found in
      let names = formals_are_classes p typed n (method_there x x_within name n found_there) in
      result_sound b w j receiver call.result type (result_of p n) (dispatch p calls at x name v vs) below call.declared call.is
      (dispatch_sound p typed calls b calls_sound w at x j name v vs n is j_within fit below_x x_within found_there
      (arguments_fit p typed c k j scene.k_within scene.below w given' (formals_of p n) vs args call.arguments names))

  dynamic_sound : (w : World) (scope : List Binding) (env : Environment) (at : Place) (x j : ClassId) (name : List ℕ) (v : Value) (vs : List Value) (receiver : Ty) (given' : List Ty) (type : Ty)
      → Scene p w c k self scope env → IsCall p c x name receiver given' type → x.0 < length p → class_of v ≡ Some j → j.0 < length p → Fits p w v j → Below p j (class_meant k receiver) → Below p j x
      → AllFit p w vs (map (class_meant k) given') → Sound p b w (IsOf type) (dispatch p calls at j name v vs)
  dynamic_sound w scope env at x j name v vs receiver given' type scene call x_within is j_within fit below below_x args =
      let n = call.method in
      let found_there = found_in x x_within name n call.found in
      let (m, here, same) = implementation_below p typed j x (chain_of p j) (chain_of p x) name n j_within below_x (chain_is p j typed.whole.table j_within) (chain_is p x typed.whole.table x_within) found_there in
      let names = formals_are_classes p typed n (method_there x x_within name n found_there) in
      result_sound b w j receiver call.result type (result_of p n) (dispatch p calls at j name v vs) below call.declared call.is
      (subst (λ (y : List ℕ). Sound p b w (λ w' r. Fits p w' r (meant p j y)) (dispatch p calls at j name v vs)) same.result
      (dispatch_sound p typed calls b calls_sound w at j j name v vs m is j_within fit (below_itself p typed.whole j j_within) j_within here
      (subst (λ (ys : List (List ℕ)). AllFit p w vs (map (meant p j) ys)) (sym same.formals)
      (arguments_fit p typed c k j scene.k_within scene.below w given' (formals_of p n) vs args call.arguments names))))

  -- the class in which a receiver's method is looked for, and the class that its type means here
  receiver_within : (w : World) (scope : List Binding) (env : Environment) → Scene p w c k self scope env → (receiver : Ty) (j : ClassId) → j.0 < length p → Below p j (class_meant k receiver)
      → ((class_meant c receiver).0 < length p) × Below p j (class_meant c receiver)
  receiver_within w scope env scene (IsClass x) j within below = (below_within p typed.whole j x within below, below)
  receiver_within w scope env scene SelfType j within below = (scene.c_within, below_trans p j k c below scene.below)

  -- New objects

  new_sound : (w : World) (scope : List Binding) (env : Environment) (name : List ℕ) (t : Ty) → Scene p w c k self scope env → Denotes p name t → Sound p b w (IsOf t) (make p calls (class_made p self name))
  new_sound w scope env name SelfType scene is =
      subst (λ (o : Option ClassId). Sound p b w (IsOf SelfType) (make p calls o))
      (sym (ap (λ (x : Bool). if x then class_of self else class_named p name) (bytes_same name self_type is) ∙ scene.class))
      (make_sound p typed calls b calls_sound w k scene.k_within)
  new_sound w scope env name (IsClass d) scene (within, is) =
      let other : name ≢ self_type = λ same. typed.whole.table.no_self_type d within (is ∙ same) in
      subst (λ (o : Option ClassId). Sound p b w (IsOf (IsClass d)) (make p calls o))
      (sym (ap (λ (x : Bool). if x then class_of self else class_named p name) (bytes_differ name self_type other) ∙ class_by_name p typed.whole.table d name within is))
      (make_sound p typed calls b calls_sound w d within)

  object_plain : MayInherit (class_number 0)
  object_plain = record { no_int = λ e. omega arith; no_bool = λ e. omega arith; no_string = λ e. omega arith }

  -- Expressions

  mutual
    pub eval_sound : (t : Tree) (w : World) (scope : List Binding) (env : Environment) (type : Ty) → Scene p w c k self scope env → HasType p c scope t type → Sound p b w (IsOf type) (eval p calls self env t)
    eval_sound (trees.Id at name) w scope env type scene h = rule_sound (name_sound w scope env name type scene h)
    eval_sound (trees.Int at n) w scope env type scene h = rule_sound (to_type int_type type h (give_sound (Int (signed n)) (int_fits p typed)))
    eval_sound (trees.Str at bytes) w scope env type scene h = rule_sound (to_type (IsClass (class_number 4)) type h (give_sound (Str bytes) (string_fits p typed)))
    eval_sound (trees.Bool at x) w scope env type scene h = rule_sound (to_type bool_type type h (give_sound (Truth x) (bool_fits p typed)))
    eval_sound (trees.Assign at name e) w scope env type scene (declared, other, has, there, conforms) =
        rule_sound (bind_sound (eval_sound e w scope env type scene has) (λ w1 v g1 fit. assign_sound w1 scope env name v type declared (scene_later p w w1 c k self scope env g1 scene) there conforms fit))
    eval_sound (trees.Dispatch at e name es) w scope env type scene (receiver, given', has, have, call) =
        rule_sound (bind_sound (all_sound es w scope env given' scene have) (λ w1 vs g1 args. holding_sound _ (
        let scene1 = scene_later p w w1 c k self scope env g1 scene in
        bind_sound (eval_sound e w1 scope env receiver scene1 has) (λ w2 v g2 fit.
        bind_sound (class_or_sound (DispatchVoid at) v) (λ w3 j g3 is.
        let g : Grown w1 w3 = grown_on w1 w2 w3 g2 g3 in
        let (below, j_within, fine) = class_fits p typed w3 v (class_meant k receiver) j (still_fits p w2 w3 g3 v (class_meant k receiver) fit) is in
        let scene3 = scene_later p w1 w3 c k self scope env g scene1 in
        let (x_within, below_x) = receiver_within w3 scope env scene3 receiver j j_within below in
        dynamic_sound w3 scope env at (class_meant c receiver) j name v vs receiver given' type scene3 call x_within is j_within fine below below_x (still_all_fit p w1 w3 g vs (map (class_meant k) given') args))))))
    eval_sound (trees.StaticDispatch at e class name es) w scope env type scene (receiver, given', x, has, have, denotes, conforms, call) =
        rule_sound (bind_sound (all_sound es w scope env given' scene have) (λ w1 vs g1 args. holding_sound _ (
        let scene1 = scene_later p w w1 c k self scope env g1 scene in
        bind_sound (eval_sound e w1 scope env receiver scene1 has) (λ w2 v g2 fit.
        bind_sound (class_or_sound (DispatchVoid at) v) (λ w3 j g3 is.
        let g : Grown w1 w3 = grown_on w1 w2 w3 g2 g3 in
        let fit3 = still_fits p w2 w3 g3 v (class_meant k receiver) fit in
        let (below, j_within, fine) = class_fits p typed w3 v (class_meant k receiver) j fit3 is in
        let scene3 = scene_later p w1 w3 c k self scope env g scene1 in
        let below_x : Below p j x = below_trans p j (class_meant k receiver) x below (below_conforming p typed c k scene.k_within scene.below receiver (IsClass x) conforms) in
        subst (λ (o : Option ClassId). Sound p b w3 (IsOf type) (given o >>= λ d. dispatch p calls at d name v vs)) (sym (class_by_name p typed.whole.table x class.name denotes.0 denotes.1))
        (bind_sound (give_sound {Q = λ w' d. Grown w3 w' × (d ≡ x)} x (not_grown w3, refl)) (λ w4 d g4 same.
        let g5 : Grown w1 w4 = grown_on w1 w3 w4 g g4 in
        subst (λ (d : ClassId). Sound p b w4 (IsOf type) (dispatch p calls at d name v vs)) (sym same.1)
        (static_sound w4 scope env at x j name v vs receiver given' type (scene_later p w3 w4 c k self scope env g4 scene3) call denotes.0 is j_within (still_fits p w3 w4 g4 v j fine) below below_x
        (still_all_fit p w1 w4 g5 vs (map (class_meant k) given') args)))))))))
    eval_sound (trees.If at test first second) w scope env type scene (t, u, has, has1, has2, join) =
        rule_sound (bind_sound (eval_sound test w scope env bool_type scene has) (λ w1 v g1 fit. bind_sound (truth_sound p typed v fit) (λ w2 x g2 y.
        let scene2 = scene_later p w w2 c k self scope env (grown_on w w1 w2 g1 g2) scene in
        if_sound x
        (conforming scope env scene2 t type join.left (eval_sound first w2 scope env t scene2 has1))
        (conforming scope env scene2 u type join.right (eval_sound second w2 scope env u scene2 has2)))))
    eval_sound (trees.While at test body) w scope env type scene (t, has, has1, is) =
        rule_sound (to_type object_type type is (loop_sound p typed b w (eval p calls self env test) (eval p calls self env body)
        (λ m w1 few g1. fewer_sound m few (eval_sound test w1 scope env bool_type (scene_later p w w1 c k self scope env g1 scene) has))
        (λ m w1 few g1. wider_sound (λ w' v fit. tt) (fewer_sound m few (eval_sound body w1 scope env t (scene_later p w w1 c k self scope env g1 scene) has1)))))
    eval_sound (trees.Block at es) w scope env type scene h = rule_sound (items_sound es w scope env Void object_type type scene (object_plain, basic_within p typed 0 (omega arith)) h)
    eval_sound (trees.Let at name declared init body) w scope env type scene (bound, other, denotes, has, has1) =
        rule_sound (bind_sound (init_sound init w scope env declared.name bound scene denotes has) (λ w1 v g1 fit. bind_sound (locate_sound v (class_meant k bound) fit) (λ w2 l g2 made.
        eval_sound body w2 (with_name name bound scope) (record { name = name; location = l } ∷ env) type
        (scene_with p w2 c k self scope env name bound l made (scene_later p w w2 c k self scope env (grown_on w w1 w2 g1 g2) scene)) has1)))
    eval_sound (trees.Case at e cs) w scope env type scene (t, ts, has, have, different, join) =
        rule_sound (bind_sound (eval_sound e w scope env t scene has) (λ w1 v g1 fit. bind_sound (class_or_sound (CaseVoid at) v) (λ w2 j g2 is. working_sound _ (
        let (below, j_within, fine) = class_fits p typed w2 v (class_meant k t) j (still_fits p w1 w2 g2 v (class_meant k t) fit) is in
        let scene2 = scene_later p w w2 c k self scope env (grown_on w w1 w2 g1 g2) scene in
        nearest_sound p typed calls b calls_sound w2 at j (class_meant k type) v (branch_of p calls self env cs) (chain_of p j) (λ d there.
        let on_chain : Below p j d = (chain_of p j, chain_is p j typed.whole.table j_within, there) in
        (fits_above p typed w2 v j d fine on_chain, branch_sound cs w2 scope env ts type scene2 have (join_conforms p c ts type join) d (below_within p typed.whole j d j_within on_chain)))))))
    eval_sound (trees.New at class) w scope env type scene h = new_sound w scope env class.name type scene h
    eval_sound (trees.IsVoid at e) w scope env type scene (t, has, is) = rule_sound (bind_sound (eval_sound e w scope env t scene has) (λ w1 v g1 fit. to_type bool_type type is (give_sound (Truth (is_void v)) (bool_fits p typed))))
    eval_sound (trees.Not at e) w scope env type scene (has, is) =
        rule_sound (bind_sound (eval_sound e w scope env bool_type scene has) (λ w1 v g1 fit. bind_sound (truth_sound p typed v fit) (λ w2 x g2 y. to_type bool_type type is (give_sound (Truth (not x)) (bool_fits p typed)))))
    eval_sound (trees.Neg at e) w scope env type scene (has, is) =
        rule_sound (bind_sound (eval_sound e w scope env int_type scene has) (λ w1 v g1 fit. bind_sound (number_sound p typed v fit) (λ w2 n g2 x. to_type int_type type is (negated_sound p typed at (neg_ℤ n)))))
    eval_sound (trees.Arith at op e f) w scope env type scene (has, has1, is) =
        rule_sound (bind_sound (eval_sound e w scope env int_type scene has) (λ w1 v g1 fit. bind_sound (eval_sound f w1 scope env int_type (scene_later p w w1 c k self scope env g1 scene) has1) (λ w2 u g2 fit1.
        bind_sound (number_sound p typed v (still_fits p w1 w2 g2 v (class_number 2) fit)) (λ w3 m g3 x. bind_sound (number_sound p typed u (still_fits p w2 w3 g3 u (class_number 2) fit1)) (λ w4 n g4 y.
        to_type int_type type is (arithmetic_sound p typed op at m n))))))
    eval_sound (trees.Compare at op e f) w scope env type scene (t, u, has, has1, comparable, is) =
        rule_sound (bind_sound (eval_sound e w scope env t scene has) (λ w1 v g1 fit. bind_sound (eval_sound f w1 scope env u (scene_later p w w1 c k self scope env g1 scene) has1) (λ w2 x g2 fit1.
        to_type bool_type type is (compare_sound p typed k op v x t u comparable (still_fits p w1 w2 g2 v (class_meant k t) fit) fit1))))

    pub all_sound : (ts : Trees) (w : World) (scope : List Binding) (env : Environment) (types : List Ty) → Scene p w c k self scope env → HaveTypes p c scope ts types
        → Sound p b w (λ w' vs. AllFit p w' vs (map (class_meant k) types)) (eval_all p calls self env ts)
    all_sound Last w scope env [] scene h = give_sound [] tt
    all_sound Last w scope env (t ∷ ts) scene h = absurd h
    all_sound (More e es) w scope env [] scene h = absurd h
    all_sound (More e es) w scope env (t ∷ ts) scene h =
        bind_sound (eval_sound e w scope env t scene h.0) (λ w1 v g1 fit. holding_sound 1 (bind_sound (all_sound es w1 scope env ts (scene_later p w w1 c k self scope env g1 scene) h.1) (λ w2 vs g2 fits.
        give_sound (v ∷ vs) (still_fits p w1 w2 g2 v (class_meant k t) fit, fits))))

    pub items_sound : (ts : Trees) (w : World) (scope : List Binding) (env : Environment) (v : Value) (before type : Ty) → Scene p w c k self scope env → IsOf before w v → HaveItems p c scope before ts type
        → Sound p b w (IsOf type) (eval_items p calls self env v ts)
    items_sound Last w scope env v before type scene fit h = to_type before type h (give_sound v fit)
    items_sound (More e es) w scope env v before type scene fit (t, has, have) =
        bind_sound (eval_sound e w scope env t scene has) (λ w1 u g1 fit1. items_sound es w1 scope env u t type (scene_later p w w1 c k self scope env g1 scene) fit1 have)

    pub init_sound : (o : MaybeTree) (w : World) (scope : List Binding) (env : Environment) (name : List ℕ) (bound : Ty) → Scene p w c k self scope env → Denotes p name bound → HasInit p c scope bound o
        → Sound p b w (IsOf bound) (eval_init p calls self env name o)
    init_sound Without w scope env name bound scene denotes h = give_sound (default_of name) (default_fits p typed w k name bound scene.k_within scene.plain denotes)
    init_sound (With e) w scope env name bound scene denotes (t, has, conforms) = conforming scope env scene t bound conforms (eval_sound e w scope env t scene has)

    pub branch_sound : (cs : Cases) (w : World) (scope : List Binding) (env : Environment) (types : List Ty) (join : Ty) → Scene p w c k self scope env → HaveBranches p c scope cs types
        → AllByRecursion (λ t. Conforms p c t join) types → (d : ClassId) → d.0 < length p → IsSoundBranch p typed calls b calls_sound w d (class_meant k join) (branch_of p calls self env cs (name_of p d))
    branch_sound NoCase w scope env [] join scene h conform d within = tt
    branch_sound NoCase w scope env (t ∷ ts) join scene h conform d within = absurd h
    branch_sound (CaseOf at name declared e cs) w scope env [] join scene h conform d within = absurd h
    branch_sound (CaseOf at name declared e cs) w scope env (t ∷ ts) join scene ((x, other, denotes, has), have) conform d within =
        branch_by (bytes_eq declared.name (name_of p d)) refl w d (class_meant k join) _ _ (λ same v fit.
        let is : d ≡ x = typed.whole.table.names d x within denotes.0 (sym (denotes.1 ∙ same)) in
        bind_sound (locate_sound v x (subst (λ (y : ClassId). Fits p w v y) is fit)) (λ w1 l g1 made.
        let scene1 = scene_later p w w1 c k self scope env g1 scene in
        conforming scope env scene1 t join conform.0 (eval_sound e w1 (with_name name (IsClass x) scope) (record { name = name; location = l } ∷ env) t (scene_with p w1 c k self scope env name (IsClass x) l made scene1) has)))
        (branch_sound cs w scope env ts join scene have conform.1 d within)
      where
        branch_by : (y : Bool) → bytes_eq declared.name (name_of p d) ≡ y → (w : World) (d' k' : ClassId) (f : Branch) (r : Option Branch)
            → (declared.name ≡ name_of p d → (v : Value) → Fits p w v d' → Sound p b w (λ w' r. Fits p w' r k') (f v)) → IsSoundBranch p typed calls b calls_sound w d' k' r
            → IsSoundBranch p typed calls b calls_sound w d' k' (if y then Some f else r)
        branch_by true e w d' k' f r h more = h ((bytes_eq-Decides declared.name (name_of p d)).0 e)
        branch_by false e w d' k' f r h more = more
