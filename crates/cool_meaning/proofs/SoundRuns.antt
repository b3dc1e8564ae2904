-- The run of a program without type errors is never stuck (type soundness).
use Rattle.std.proofs.Common.{◌≡◌, ◌≢◌, ℕ, zero, suc, ◌<◌, List, [], ◌∷◌, ◌++◌, map, length, Option, Some, None, ap, sym, ◌∙◌, refl, subst, arith}
use Rattle.std.specs.Prelude.{Contains, codes, slice_get}
use Rattle.std.specs.List.{AllByRecursion}
use Rattle.cool_syntax.specs.declared.file_tree.Feature.{Feature}
use Rattle.cool_syntax.specs.declared.file_tree.Feature.TheVariants.{Method, Attribute}
use Rattle.cool_syntax.specs.declared.file_tree.Formal.{Formal}
use Rattle.cool_syntax.specs.Bare.{nowhere}
use Rattle.cool_syntax.specs.Tree.{Tree}
use Rattle.cool_classes.specs.declared.class_id.ClassId.{ClassId}
use Rattle.cool_classes.specs.declared.method.MethodRef.{MethodRef}
use Rattle.cool_classes.specs.declared.method.MethodRef.TheVariants.{User}
use Rattle.cool_classes.specs.declared.method.AttributeRef.{AttributeRef}
use Rattle.cool_classes.specs.Chains.{Class, class_number, features_of, IsChain, Below}
use Rattle.cool_classes.specs.Features.{formals_of, result_of, formals_in, result_in, HasMethod, HasAttribute, attribute_type, attributes_of, implementation, own_method, first_of}
use Rattle.cool_classes.proofs.AttributesOfChains.{attributes_have}
use Rattle.cool_classes.proofs.Climbs.{all_within}
use Rattle.cool_rules.specs.Conformance.{class_of as class_meant}
use Rattle.cool_rules.specs.Scopes.{Binding}
use Rattle.cool_rules.specs.Typing.{formals_in_scope, attributes_in_scope, FitsDeclared, IsTypedInit}
use Rattle.cool_classes.specs.LawfulTables.{MayInherit}
use Rattle.cool_rules.specs.TypedTables.{IsTypedTable}
use Rattle.cool_meaning.specs.Values.{Value, Void, Int, Bool as Truth, Str, Obj, Environment, class_of, start}
use Rattle.cool_meaning.specs.Meters
use Rattle.cool_meaning.specs.Meters.{DispatchVoid, Outcome, Metered, ◌>>=◌, ◌>>◌}
use Rattle.cool_classes.specs.ClimbedChains.{chain as chain_of}
use Rattle.cool_meaning.specs.Lookups.{method_in, attributes, init_in, init_of, located, attribute_names, formal_names, locations_of, environment_of, attributes_at}
use Rattle.cool_meaning.specs.Evaluation.{Body, Initials, Calls, eval, run_method, run_initial, run_initials, run_call, calls_within, make}
use Rattle.cool_meaning.specs.SourceRun.{IsStuck, main_call, run_of, run}
use Rattle.cool_rules.proofs.ChainsOfTables.{below_trans, attributes_above, below_itself, implementation_below}
use Rattle.cool_classes.proofs.ChainsOfTables.{chain_is}
use Rattle.cool_rules.proofs.NamesOfTables.{class_by_name}
use Rattle.cool_rules.proofs.RulesOfTables.{meant_is}
use Rattle.cool_meaning.specs.FittingValues.{World, AreMade, Fits, AllFit, meant, attribute_classes, Holds}
use Rattle.cool_meaning.proofs.FittingValues.{still_all_made, still_made, still_fits, fits_conforming, class_fits}
use Rattle.cool_meaning.proofs.SoundComputations.{NotStuck, Sound, bind_sound, then_sound, give_sound, working_sound, store_sound, locate_all_sound, rule_sound, holding_sound}
use Rattle.cool_meaning.proofs.SoundMethods.{Any}
use Rattle.cool_meaning.proofs.MethodsOfTables.{defined, defined_attribute, attributes_owned}
use Rattle.cool_meaning.proofs.SoundParts.{wider_sound, AllCallsSound, CallsSound, make_sound, dispatch_sound, class_or_sound}
use Rattle.cool_meaning.proofs.SoundEvaluation.{eval_sound}

-- formals at locations made for their types, in front of other names
pub holds_formals : (p : List Class) (w : World) (k : ClassId) (fs : List Formal) (ls : List ℕ) (scope : List Binding) (env : Environment) → AreMade w ls (map (meant p k) (map (λ (f : Formal). f.declared.name) fs))
    → Holds w k scope env → Holds w k (formals_in_scope p fs ++ scope) (located (formal_names fs) ls ++ env)
holds_formals p w k [] ls scope env made h = h
holds_formals p w k (f ∷ fs) [] scope env made h = absurd made
holds_formals p w k (f ∷ fs) (l ∷ ls) scope env made h = (refl, made.0, holds_formals p w k fs ls scope env made.1 h)

-- attributes at locations made for their types, with further ones after them
holds_attributes : (p : List Class) (w : World) (k : ClassId) (rs more : List AttributeRef) (ls : List ℕ) → AreMade w ls (attribute_classes p k (rs ++ more))
    → Holds w k (attributes_in_scope p rs) (located (attribute_names p (rs ++ more)) ls)
holds_attributes p w k [] more ls made = tt
holds_attributes p w k (r ∷ rs) more [] made = absurd made
holds_attributes p w k (r ∷ rs) more (l ∷ ls) made = (refl, made.0, holds_attributes p w k rs more ls made.1)

module _ (p : List Class) (typed : IsTypedTable p) where
  -- an object has locations made for its attributes
  pub own_locations : (w : World) (self : Value) (k : ClassId) → class_of self ≡ Some k → MayInherit k → Fits p w self k → AreMade w (locations_of self) (attribute_classes p k (attributes p k))
  own_locations w Void k is may h = absurd (cc)
  own_locations w (Int n) k is may h = absurd (may.no_int (ap (λ (c : ClassId). c.0) (some_is (class_number 2) k is)))
    where
      some_is : (c d : ClassId) → Some c ≡ Some d → d ≡ c
      some_is c d e = cc
  own_locations w (Truth x) k is may h = absurd (may.no_bool (ap (λ (c : ClassId). c.0) (some_is (class_number 3) k is)))
    where
      some_is : (c d : ClassId) → Some c ≡ Some d → d ≡ c
      some_is c d e = cc
  own_locations w (Str bytes) k is may h = absurd (may.no_string (ap (λ (c : ClassId). c.0) (some_is (class_number 4) k is)))
    where
      some_is : (c d : ClassId) → Some c ≡ Some d → d ≡ c
      some_is c d e = cc
  own_locations w (Obj c i ls) k is may h = let same : c ≡ k = cc in subst (λ (x : ClassId). AreMade w ls (attribute_classes p x (attributes p x))) same h.0.made

  -- the attributes of a class above are in the environment of an object
  pub attributes_hold : (w : World) (c k : ClassId) (self : Value) (chain : List ClassId) → IsChain p (Some c) chain → class_of self ≡ Some k → k.0 < length p → MayInherit k → Below p k c → Fits p w self k
      → Holds w k (attributes_in_scope p (attributes_of p chain)) (environment_of p self)
  attributes_hold w c k self chain is_chain is within may below h =
      let (more, split) = attributes_above p k c (chain_of p k) chain below (chain_is p k typed.whole.table within) is_chain in
      let made = own_locations w self k is may h in
      subst (λ (o : Option ClassId). Holds w k (attributes_in_scope p (attributes_of p chain)) (attributes_at p o (locations_of self))) (sym is)
      (subst (λ (rs : List AttributeRef). Holds w k (attributes_in_scope p (attributes_of p chain)) (located (attribute_names p rs) (locations_of self))) (sym split)
      (holds_attributes p w k (attributes_of p chain) more (locations_of self) (subst (λ (rs : List AttributeRef). AreMade w (locations_of self) (attribute_classes p k rs)) split made)))

  module _ (calls : Calls) (b : ℕ) (calls_sound : AllCallsSound p calls b) where
    -- the value of a feature's expression fits the declaration of the feature
    pub declared_sound : (w : World) (c k : ClassId) (self : Value) (inner : List Binding) (env : Environment) (e : Tree) (declared : List ℕ) → c.0 < length p → k.0 < length p → MayInherit k → Below p k c
        → class_of self ≡ Some k → Fits p w self k → (f : FitsDeclared p c inner e declared) → Holds w k (inner ++ attributes_in_scope p (attributes_of p f.chain)) env
        → Sound p b w (λ w' v. Fits p w' v (meant p k declared)) (eval p calls self env e)
    declared_sound w c k self inner env e declared c_within within may below is fit f holds =
        wider_sound (λ w' v h. subst (λ (t : _). Fits p w' v (class_meant k t)) (sym (meant_is p typed.whole.table declared f.result f.denotes)) (fits_conforming p typed c k within below w' v f.type f.result h f.conforms))
        (eval_sound p typed calls b calls_sound c k self e w (inner ++ attributes_in_scope p (attributes_of p f.chain)) env f.type
        (record { c_within = c_within; k_within = within; below = below; plain = may; class = is; fits = fit; holds = holds }) f.has)

    method_sound : (w : World) (owner : ClassId) (i : ℕ) (self : Value) (k : ClassId) (vs : List Value) → HasMethod p (User owner i) → class_of self ≡ Some k → k.0 < length p → MayInherit k → Below p k owner
        → Fits p w self k → AllFit p w vs (map (meant p k) (formals_of p (User owner i))) → Sound p b w (λ w' r. Fits p w' r (meant p k (result_of p (User owner i)))) (run_call p calls (Body owner i self vs))
    method_sound w owner i self k vs has is within may below fit args =
        let (m, there) = defined (slice_get (features_of p owner) i) has.1 in
        subst (λ (o : Option Feature). Sound p b w (λ w' r. Fits p w' r (meant p k (result_in o))) (run_method p calls self vs (method_in o))) (sym there)
        (bind_sound (locate_all_sound vs (map (meant p k) (map (λ (f : Formal). f.declared.name) m.formals)) (subst (λ (o : Option Feature). AllFit p w vs (map (meant p k) (formals_in o))) there args)) (λ w1 ls g1 made.
        let f : FitsDeclared p owner (formals_in_scope p m.formals) m.body m.result.name = typed.features owner i (Method m) has.0 there in
        let fit1 = still_fits p w w1 g1 self k fit in
        declared_sound w1 owner k self (formals_in_scope p m.formals) (located (formal_names m.formals) ls ++ environment_of p self) m.body m.result.name has.0 within may below is fit1 f
        (holds_formals p w1 k m.formals ls (attributes_in_scope p (attributes_of p f.chain)) (environment_of p self) made (attributes_hold w1 owner k self f.chain f.is_chain is within may below fit1))))

    -- Initial values

    pub init_sound : (w : World) (r : AttributeRef) (self : Value) (k : ClassId) (l : ℕ) → HasAttribute p r → class_of self ≡ Some k → k.0 < length p → MayInherit k → Below p k r.owner → Fits p w self k
        → slice_get w l ≡ Some (meant p k (attribute_type p r)) → Sound p b w (Any {A = Unit {0}}) (run_initial p calls self l (init_of p r))
    init_sound w r self k l has is within may below fit made =
        let (a, there) = defined_attribute (slice_get (features_of p r.owner) r.index) has.1 in
        subst (λ (o : Option Feature). Sound p b w (Any {A = Unit {0}}) (run_initial p calls self l (init_in o))) (sym there)
        (by a.declared.name a.init (typed.features r.owner r.index (Attribute a) has.0 there) (subst (λ (o : Option Feature). slice_get w l ≡ Some (meant p k (result_in o))) there made))
      where
        by : (name : List ℕ) (o : Option Tree) → IsTypedInit p r.owner name o → slice_get w l ≡ Some (meant p k name) → Sound p b w (Any {A = Unit {0}}) (run_initial p calls self l o)
        by name None h made = give_sound tt tt
        by name (Some e) f made =
            working_sound 1 (bind_sound (declared_sound w r.owner k self [] (environment_of p self) e name has.0 within may below is fit f (attributes_hold w r.owner k self f.chain f.is_chain is within may below fit)) (λ w1 v g1 fits.
            store_sound l v (meant p k name) (still_made w w1 g1 l (meant p k name) made) fits))

    pub all_init_sound : (w : World) (rs more : List AttributeRef) (ls : List ℕ) (self : Value) (k : ClassId) → AllByRecursion (HasAttribute p) rs → AllByRecursion (λ (r : AttributeRef). Below p k r.owner) rs
        → class_of self ≡ Some k → k.0 < length p → MayInherit k → Fits p w self k → AreMade w ls (attribute_classes p k (rs ++ more)) → Sound p b w (Any {A = Value}) (run_initials p calls self rs ls)
    all_init_sound w [] more ls self k has owned is within may fit made = give_sound self tt
    all_init_sound w (r ∷ rs) more [] self k has owned is within may fit made = absurd made
    all_init_sound w (r ∷ rs) more (l ∷ ls) self k has owned is within may fit made =
        then_sound (init_sound w r self k l has.0 is within may owned.0 fit made.0) (λ w1 g1.
        all_init_sound w1 rs more ls self k has.1 owned.1 is within may (still_fits p w w1 g1 self k fit) (still_all_made w w1 g1 ls (attribute_classes p k (rs ++ more)) made.1))

    pub initials_sound : (w : World) (c : ClassId) (self : Value) (k : ClassId) → c.0 < length p → class_of self ≡ Some k → k.0 < length p → MayInherit k → Below p k c → Fits p w self k
        → Sound p b w (Any {A = Value}) (run_call p calls (Initials c self))
    initials_sound w c self k c_within is within may below fit =
        let (more, split) = attributes_above p k c (chain_of p k) (chain_of p c) below (chain_is p k typed.whole.table within) (chain_is p c typed.whole.table c_within) in
        all_init_sound w (attributes p c) more (locations_of self) self k
        (attributes_have p (chain_of p c) (λ j d less. all_within p typed.whole.depth typed.whole.grounded c c_within (chain_of p c) (chain_is p c typed.whole.table c_within) j d less))
        (owners (attributes p c) (attributes_owned p (chain_of p c)))
        is within may fit
        (subst (λ (rs : List AttributeRef). AreMade w (locations_of self) (attribute_classes p k rs)) split (own_locations w self k is may fit))
      where
        owners : (rs : List AttributeRef) → AllByRecursion (λ (r : AttributeRef). Contains (chain_of p c) r.owner) rs → AllByRecursion (λ (r : AttributeRef). Below p k r.owner) rs
        owners [] h = tt
        owners (r ∷ rs) h = (below_trans p k c r.owner below (chain_of p c, chain_is p c typed.whole.table c_within, h.0), owners rs h.1)

  -- with so many steps at most, calls are never stuck
  pub within_sound : (n m : ℕ) → m < n → CallsSound p (calls_within p n) m
  within_sound zero m less = absurd (omega arith)
  within_sound (suc n) m less = record {
    body = λ w owner i self k vs has is within may below fit args. method_sound (calls_within p n) m (λ j few. within_sound n j (omega arith)) w owner i self k vs has is within may below fit args;
    initials = λ w c self k c_within is within may below fit. initials_sound (calls_within p n) m (λ j few. within_sound n j (omega arith)) w c self k c_within is within may below fit;
  }

  -- the call of main on a new object of class Main
  main_sound : (n : ℕ) → Sound p n [] (Any {A = Value}) (eval p (calls_within p n) Void [] main_call)
  main_sound n =
      let main = typed.lawful.main in
      rule_sound (bind_sound (give_sound {Q = λ w vs. vs ≡ []} [] refl) (λ w1 vs g1 none. holding_sound (length vs) (
      bind_sound (subst (λ (o : Option ClassId). Sound p n w1 (λ w v. Fits p w v main.class) (make p (calls_within p n) o)) (sym (class_by_name p typed.whole.table main.class (codes "Main") main.within main.name))
      (make_sound p typed (calls_within p n) n (within_sound n) w1 main.class main.within)) (λ w2 v g2 fit.
      bind_sound (class_or_sound (DispatchVoid nowhere) v) (λ w3 j g3 is.
      let (below, j_within, fine) = class_fits p typed w3 v main.class j (still_fits p w2 w3 g3 v main.class fit) is in
      let (m, here, same) = implementation_below p typed j main.class (chain_of p j) (chain_of p main.class) (codes "main") main.method j_within below (chain_is p j typed.whole.table j_within) (chain_is p main.class typed.whole.table main.within)
      (first_own main.class (chain_of p main.class) (chain_is p main.class typed.whole.table main.within) main.method main.own) in
      wider_sound (λ w' r h. tt) (dispatch_sound p typed (calls_within p n) n (within_sound n) w3 nowhere j j (codes "main") v vs m is j_within fine (below_itself p typed.whole j j_within) j_within here
      (subst (λ (xs : List Value). AllFit p w3 xs (map (meant p j) (formals_of p m))) (sym none) (subst (λ (ys : List (List ℕ)). AllFit p w3 [] (map (meant p j) ys)) (sym (same.formals ∙ main.formals)) tt))))))))
    where
      first_own : (c : ClassId) (ds : List ClassId) → IsChain p (Some c) ds → (x : MethodRef) → own_method p c (codes "main") ≡ Some x → implementation p ds (codes "main") ≡ Some x
      first_own c [] chain x e = absurd chain
      first_own c (d ∷ ds) chain x e = ap (λ (o : Option MethodRef). first_of o (implementation p ds (codes "main"))) (ap (λ (y : ClassId). own_method p y (codes "main")) chain.0 ∙ e)

-- an outcome that is not stuck is no stuck run
not_stuck_run : (p : List Class) (names : List (List ℕ)) (w : World) (n : ℕ) (Q : World → Value → Type 0) (o : Outcome Value) (work words peak : ℕ) → NotStuck p w n Q o → (run_of p names o work words peak).end ≢ IsStuck
not_stuck_run p names w n Q (Meters.Val v s left) wk g q h = λ e. absurd (cc)
not_stuck_run p names w n Q (Meters.Stop x s) wk g q h = λ e. absurd (cc)
not_stuck_run p names w n Q (Meters.On s) wk g q h = λ e. absurd (cc)
not_stuck_run p names w n Q Meters.Stuck wk g q h = absurd h

pub never_stuck : (p : List Class) → IsTypedTable p → (names : List (List ℕ)) (input : List ℕ) (n : ℕ) → (run p names input n).end ≢ IsStuck
unfolding run
never_stuck p typed names input n =
    let m : Metered Value = eval p (calls_within p n) Void [] main_call (start input) n in
    not_stuck_run p names [] n Any m.outcome m.work m.words m.peak ((main_sound p typed n).sound (start input) n (omega arith) tt)
