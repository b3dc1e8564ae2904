-- A folded dispatch has the same result as the original one, and no cost counter (meter) is greater, also if folding made it a static dispatch to the only
-- possible method.
use Rattle.std.proofs.Common.{◌≡◌, ℕ, ◌<◌, List, map, length, Option, Some, Bool, true, false, sym, ◌∙◌, refl, subst, arith}
use Rattle.std.specs.Prelude.{if◌then◌else◌}
use Rattle.cool_syntax.specs.declared.place.Place.{Place}
use Rattle.cool_classes.specs.declared.class_id.ClassId.{ClassId}
use Rattle.cool_classes.specs.declared.class_id.Ty.{Ty}
use Rattle.cool_classes.specs.declared.class_id.Ty.TheVariants.{Class as IsClass, SelfType}
use Rattle.cool_classes.specs.declared.method.MethodRef.{MethodRef}
use Rattle.cool_classes.specs.Chains.{Class, name_of, Below}
use Rattle.cool_classes.specs.Features.{Denotes, implementation, formals_of, HasMethod}
use Rattle.cool_classes.proofs.Methods.{found_has}
use Rattle.cool_classes.proofs.Climbs.{chain_unique}
use Rattle.cool_rules.specs.Conformance.{class_of as class_meant, Conforms}
use Rattle.cool_rules.specs.Scopes.{found, Binding}
use Rattle.cool_rules.specs.Typing.{IsCall, IsImplementation, HasType}
use Rattle.cool_rules.specs.TypedTables.{IsTypedTable}
use Rattle.cool_meaning.specs.Values.{Value, class_of, Environment}
use Rattle.cool_meaning.specs.Meters.{Computation, ◌>>=◌, give, given, DispatchVoid}
use Rattle.cool_classes.specs.ClimbedChains.{chain as chain_of}
use Rattle.cool_meaning.specs.Evaluation.{Calls, class_or, same, dispatch, eval, eval_all}
use Rattle.cool_rules.proofs.ChainsOfTables.{below_trans, below_itself, chain_within, below_within, implementation_below}
use Rattle.cool_classes.proofs.ChainsOfTables.{chain_is}
use Rattle.cool_rules.proofs.NamesOfTables.{class_by_name}
use Rattle.cool_meaning.specs.FittingValues.{World, Fits, AllFit, meant, Scene}
use Rattle.cool_meaning.proofs.FittingValues.{Grown, not_grown, grown_on, still_fits, still_all_fit, below_conforming, class_fits}
use Rattle.cool_meaning.proofs.SoundComputations.{Sound, give_sound}
use Rattle.cool_meaning.proofs.MethodsOfTables.{implementation_own, formals_are_classes}
use Rattle.cool_syntax.specs.Tree.{Tree, Trees}
use Rattle.cool_rules.specs.Rules.{class_named}
use Rattle.cool_meaning.proofs.SoundParts.{class_or_sound, AllCallsSound, arguments_fit}
use Rattle.cool_syntax.specs.Tree as trees
use Rattle.cool_fold.proofs.NoMoreMeters.{Keeps, keeps_same, bind_keeps, holding_keeps, rule_keeps}
use Rattle.cool_meaning.proofs.SoundEvaluation.{scene_later, eval_sound}
use Rattle.cool_syntax.specs.declared.type_ref.TypeRef.{TypeRef}
use Rattle.cool_fold.specs.Folding.{dispatch_by, is_redefined}
use Rattle.cool_fold.proofs.FoldedCalls.{SameTables, AllCallsKeep, dispatch_keeps}
use Rattle.cool_fold.proofs.OnlyMethods.{only_method}

-- a class is found by its name in both tables
pub named_there : (p p' : List Class) → IsTypedTable p → SameTables p p' → (name : List ℕ) (x : ClassId) → x.0 < length p → name_of p x ≡ name → class_named p' name ≡ Some x
named_there p p' typed same_tables name x x_within e = same_tables.classes name ∙ class_by_name p typed.whole.table x name x_within e

module _ (p p' : List Class) (typed : IsTypedTable p) (same_tables : SameTables p p') (calls calls' : Calls) (b : ℕ) (calls_sound : AllCallsSound p calls b) (keep : AllCallsKeep p calls calls' b) (c k : ClassId) (self : Value)
    (within : c.0 < length p) where
  abbrev IsOf : Ty → World → Value → Type 0
  IsOf t w v = Fits p w v (class_meant k t)

  -- Calls

  method_there : (x : ClassId) → x.0 < length p → (name : List ℕ) (n : MethodRef) → implementation p (chain_of p x) name ≡ Some n → HasMethod p n
  method_there x x_within name n found =
      let (d, there, own) = implementation_own p (chain_of p x) name n found in
      found_has p d name n (chain_within p typed.whole x x_within (chain_of p x) (chain_is p x typed.whole.table x_within) d there) own

  found_in : (x : ClassId) → x.0 < length p → (name : List ℕ) (n : MethodRef) → IsImplementation p x name n → implementation p (chain_of p x) name ≡ Some n
  found_in x x_within name n (ds, chain, is) = subst (λ (xs : List ClassId). implementation p xs name ≡ Some n) (chain_unique p (Some x) ds (chain_of p x) chain (chain_is p x typed.whole.table x_within)) is

  receiver_within : (w : World) (scope : List Binding) (env : Environment) → Scene p w c k self scope env → (receiver : Ty) (j : ClassId) → j.0 < length p → Below p j (class_meant k receiver)
      → ((class_meant c receiver).0 < length p) × Below p j (class_meant c receiver)
  receiver_within w scope env scene (IsClass x) j j_within below = (below_within p typed.whole j x j_within below, below)
  receiver_within w scope env scene SelfType j j_within below = (scene.c_within, below_trans p j k c below scene.below)

  -- a static dispatch to a class x, as before folding
  static_keeps : (w : World) (scope : List Binding) (env : Environment) (at : Place) (x j : ClassId) (name : List ℕ) (v : Value) (vs : List Value) (receiver : Ty) (given' : List Ty) (type : Ty)
      → Scene p w c k self scope env → IsCall p c x name receiver given' type → x.0 < length p → class_of v ≡ Some j → j.0 < length p → Fits p w v j → Below p j x
      → AllFit p w vs (map (class_meant k) given') → Keeps p b w (dispatch p calls at x name v vs) (dispatch p' calls' at x name v vs)
  static_keeps w scope env at x j name v vs receiver given' type scene call x_within is j_within fit below_x args =
      let n = call.method in
      let found_there = found_in x x_within name n call.found in
      let names = formals_are_classes p typed n (method_there x x_within name n found_there) in
      dispatch_keeps p p' typed same_tables calls calls' b calls_sound keep w at x j x name v vs n is j_within fit below_x x_within found_there found_there
      (arguments_fit p typed c k j scene.k_within scene.below w given' (formals_of p n) vs args call.arguments names)

  -- a dispatch by the receiver's class, and one to a class y which finds the same method
  dynamic_keeps : (w : World) (scope : List Binding) (env : Environment) (at : Place) (x j y : ClassId) (name : List ℕ) (v : Value) (vs : List Value) (receiver : Ty) (given' : List Ty) (type : Ty)
      → Scene p w c k self scope env → IsCall p c x name receiver given' type → x.0 < length p → class_of v ≡ Some j → j.0 < length p → Fits p w v j → Below p j x
      → implementation p (chain_of p j) name ≡ implementation p (chain_of p y) name → AllFit p w vs (map (class_meant k) given') → Keeps p b w (dispatch p calls at j name v vs) (dispatch p' calls' at y name v vs)
  dynamic_keeps w scope env at x j y name v vs receiver given' type scene call x_within is j_within fit below_x same_method args =
      let n = call.method in
      let found_there = found_in x x_within name n call.found in
      let (m, here, same) = implementation_below p typed j x (chain_of p j) (chain_of p x) name n j_within below_x (chain_is p j typed.whole.table j_within) (chain_is p x typed.whole.table x_within) found_there in
      let names = formals_are_classes p typed n (method_there x x_within name n found_there) in
      dispatch_keeps p p' typed same_tables calls calls' b calls_sound keep w at j j y name v vs m is j_within fit (below_itself p typed.whole j j_within) j_within here (sym same_method ∙ here)
      (subst (λ (ys : List (List ℕ)). AllFit p w vs (map (meant p j) ys)) (sym same.formals)
      (arguments_fit p typed c k j scene.k_within scene.below w given' (formals_of p n) vs args call.arguments names))

  -- a value at once before the second one
  after_give : {A B : Type 0} {w : World} (d : Computation B) (v : A) (f : A → Computation B) → Keeps p b w d (f v) → Keeps p b w d (give v >>= f)
  after_give d v f h = record {
    keeps = λ s n less fits.
        let one = h.keeps s n less fits in
        let x = one.work in let y = one.words in let z = one.peak in
        record { outcome = one.outcome; work = omega arith; words = omega arith; peak = omega arith };
  }

  -- A dispatch, folded to a static one or not

  module _ (at : Place) (e e' : Tree) (name : List ℕ) (es es' : Trees) (w : World) (scope : List Binding) (env : Environment) (receiver : Ty) (given' : List Ty) (type : Ty) (scene : Scene p w c k self scope env)
      (has : HasType p c scope e receiver) (call : IsCall p c (class_meant c receiver) name receiver given' type) (args_sound : Sound p b w (λ w' vs. AllFit p w' vs (map (class_meant k) given')) (eval_all p calls self env es))
      (args_keep : Keeps p b w (eval_all p calls self env es) (eval_all p' calls' self env es')) (receiver_keep : (w1 : World) → Scene p w1 c k self scope env → Keeps p b w1 (eval p calls self env e) (eval p' calls' self env e')) where
    dispatch_left : Keeps p b w (eval p calls self env (trees.Dispatch at e name es)) (eval p' calls' self env (trees.Dispatch at e' name es'))
    dispatch_left =
        rule_keeps (bind_keeps {Q = λ w' vs. AllFit p w' vs (map (class_meant k) given')} args_sound args_keep (λ w1 vs g1 args. holding_keeps _ (
        let scene1 = scene_later p w w1 c k self scope env g1 scene in
        bind_keeps {Q = IsOf receiver} (eval_sound p typed calls b calls_sound c k self e w1 scope env receiver scene1 has) (receiver_keep w1 scene1) (λ w2 v g2 fit.
        bind_keeps {Q = λ w' j. class_of v ≡ Some j} (class_or_sound (DispatchVoid at) v) (keeps_same (class_or (DispatchVoid at) v)) (λ w3 j g3 is.
        let g : Grown w1 w3 = grown_on w1 w2 w3 g2 g3 in
        let (below, j_within, fine) = class_fits p typed w3 v (class_meant k receiver) j (still_fits p w2 w3 g3 v (class_meant k receiver) fit) is in
        let scene3 = scene_later p w1 w3 c k self scope env g scene1 in
        let (x_within, below_x) = receiver_within w3 scope env scene3 receiver j j_within below in
        dynamic_keeps w3 scope env at (class_meant c receiver) j j name v vs receiver given' type scene3 call x_within is j_within fine below_x refl (still_all_fit p w1 w3 g vs (map (class_meant k) given') args))))))

    dispatch_bound : is_redefined p (class_meant c receiver) name ≡ false
        → Keeps p b w (eval p calls self env (trees.Dispatch at e name es)) (eval p' calls' self env (trees.StaticDispatch at e' (record { name = name_of p (class_meant c receiver); at = at }) name es'))
    dispatch_bound free =
        rule_keeps (bind_keeps {Q = λ w' vs. AllFit p w' vs (map (class_meant k) given')} args_sound args_keep (λ w1 vs g1 args. holding_keeps _ (
        let scene1 = scene_later p w w1 c k self scope env g1 scene in
        bind_keeps {Q = IsOf receiver} (eval_sound p typed calls b calls_sound c k self e w1 scope env receiver scene1 has) (receiver_keep w1 scene1) (λ w2 v g2 fit.
        bind_keeps {Q = λ w' j. class_of v ≡ Some j} (class_or_sound (DispatchVoid at) v) (keeps_same (class_or (DispatchVoid at) v)) (λ w3 j g3 is.
        let g : Grown w1 w3 = grown_on w1 w2 w3 g2 g3 in
        let (below, j_within, fine) = class_fits p typed w3 v (class_meant k receiver) j (still_fits p w2 w3 g3 v (class_meant k receiver) fit) is in
        let scene3 = scene_later p w1 w3 c k self scope env g scene1 in
        let (x_within, below_x) = receiver_within w3 scope env scene3 receiver j j_within below in
        let x = class_meant c receiver in
        subst (λ (o : Option ClassId). Keeps p b w3 (dispatch p calls at j name v vs) (given o >>= λ d. dispatch p' calls' at d name v vs)) (sym (named_there p p' typed same_tables (name_of p x) x x_within refl))
        (after_give (dispatch p calls at j name v vs) x (λ d. dispatch p' calls' at d name v vs)
        (dynamic_keeps w3 scope env at x j x name v vs receiver given' type scene3 call x_within is j_within fine below_x (only_method p typed.whole x x_within name free j j_within below_x)
        (still_all_fit p w1 w3 g vs (map (class_meant k) given') args))))))))

    pub dispatch_folds : Keeps p b w (eval p calls self env (trees.Dispatch at e name es)) (eval p' calls' self env (dispatch_by p (class_meant c receiver) at e' name es'))
    dispatch_folds = by (is_redefined p (class_meant c receiver) name) refl
      where
        by : (z : Bool) → is_redefined p (class_meant c receiver) name ≡ z → Keeps p b w (eval p calls self env (trees.Dispatch at e name es))
            (eval p' calls' self env (if z then trees.Dispatch at e' name es' else trees.StaticDispatch at e' (record { name = name_of p (class_meant c receiver); at = at }) name es'))
        by true free = dispatch_left
        by false free = dispatch_bound free

  pub static_folds : (at : Place) (e e' : Tree) (class : TypeRef) (name : List ℕ) (es es' : Trees) (w : World) (scope : List Binding) (env : Environment) (receiver : Ty) (given' : List Ty) (x : ClassId) (type : Ty) → Scene p w c k self scope env
      → HasType p c scope e receiver → Denotes p class.name (IsClass x) → Conforms p c receiver (IsClass x) → IsCall p c x name receiver given' type
      → Sound p b w (λ w' vs. AllFit p w' vs (map (class_meant k) given')) (eval_all p calls self env es) → Keeps p b w (eval_all p calls self env es) (eval_all p' calls' self env es')
      → ((w1 : World) → Scene p w1 c k self scope env → Keeps p b w1 (eval p calls self env e) (eval p' calls' self env e'))
      → Keeps p b w (eval p calls self env (trees.StaticDispatch at e class name es)) (eval p' calls' self env (trees.StaticDispatch at e' class name es'))
  static_folds at e e' class name es es' w scope env receiver given' x type scene has denotes conforms call args_sound args_keep receiver_keep =
      rule_keeps (bind_keeps {Q = λ w' vs. AllFit p w' vs (map (class_meant k) given')} args_sound args_keep (λ w1 vs g1 args. holding_keeps _ (
      let scene1 = scene_later p w w1 c k self scope env g1 scene in
      bind_keeps {Q = IsOf receiver} (eval_sound p typed calls b calls_sound c k self e w1 scope env receiver scene1 has) (receiver_keep w1 scene1) (λ w2 v g2 fit.
      bind_keeps {Q = λ w' j. class_of v ≡ Some j} (class_or_sound (DispatchVoid at) v) (keeps_same (class_or (DispatchVoid at) v)) (λ w3 j g3 is.
      let g : Grown w1 w3 = grown_on w1 w2 w3 g2 g3 in
      let fit3 = still_fits p w2 w3 g3 v (class_meant k receiver) fit in
      let (below, j_within, fine) = class_fits p typed w3 v (class_meant k receiver) j fit3 is in
      let scene3 = scene_later p w1 w3 c k self scope env g scene1 in
      let below_x : Below p j x = below_trans p j (class_meant k receiver) x below (below_conforming p typed c k scene.k_within scene.below receiver (IsClass x) conforms) in
      subst (λ (o : Option ClassId). Keeps p b w3 (given o >>= λ d. dispatch p calls at d name v vs) (given (class_named p' class.name) >>= λ d. dispatch p' calls' at d name v vs))
      (sym (class_by_name p typed.whole.table x class.name denotes.0 denotes.1))
      (subst (λ (o : Option ClassId). Keeps p b w3 (give x >>= λ d. dispatch p calls at d name v vs) (given o >>= λ d. dispatch p' calls' at d name v vs)) (sym (named_there p p' typed same_tables class.name x denotes.0 denotes.1))
      (bind_keeps {Q = λ w' d. Grown w3 w' × (d ≡ x)} (give_sound {Q = λ w' d. Grown w3 w' × (d ≡ x)} x (not_grown w3, refl)) (keeps_same (give x)) (λ w4 d g4 same.
      subst (λ (y : ClassId). Keeps p b w4 (dispatch p calls at y name v vs) (dispatch p' calls' at y name v vs)) (sym same.1)
      (static_keeps w4 scope env at x j name v vs receiver given' type (scene_later p w3 w4 c k self scope env g4 scene3) call denotes.0 is j_within (still_fits p w3 w4 g4 v j fine) below_x
      (still_all_fit p w1 w4 (grown_on w1 w3 w4 g g4) vs (map (class_meant k) given') args))))))))))
