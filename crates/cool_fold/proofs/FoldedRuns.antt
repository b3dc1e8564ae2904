-- Calls and whole runs have the same results in a folded program as in the original program, and no cost counter (meter) is greater.
use Rattle.std.proofs.Common.{◌≡◌, ◌++◌, ℕ, zero, suc, ◌<◌, List, [], ◌∷◌, map, length, Option, Some, None, ap, sym, ◌∙◌, refl, subst, arith}
use Rattle.std.specs.Prelude.{option_map, Contains, slice_get}
use Rattle.std.specs.List.{AllByRecursion}
use Rattle.cool_syntax.specs.declared.file_tree.Feature.{Feature}
use Rattle.cool_syntax.specs.declared.file_tree.Feature.TheVariants.{Attribute}
use Rattle.cool_syntax.specs.declared.file_tree.Feature.TheVariants.{Method}
use Rattle.cool_classes.specs.declared.class_id.ClassId.{ClassId}
use Rattle.cool_classes.specs.declared.method.MethodRef.TheVariants.{User}
use Rattle.cool_classes.specs.declared.method.AttributeRef.{AttributeRef}
use Rattle.cool_classes.specs.Chains.{Class, features_of, Below}
use Rattle.cool_classes.specs.Features.{formals_of, HasMethod, HasAttribute}
use Rattle.cool_classes.specs.Features.{attribute_name}
use Rattle.cool_classes.specs.Features.{attributes_of, formals_in}
use Rattle.cool_classes.proofs.AttributesOfChains.{attributes_have}
use Rattle.cool_classes.proofs.Climbs.{all_within}
use Rattle.cool_rules.specs.Conformance.{class_of as class_meant}
use Rattle.cool_rules.specs.Scopes.{AreTypes, Binding}
use Rattle.cool_rules.specs.Typing.{HasType}
use Rattle.cool_rules.specs.Typing.{FitsDeclared, IsTypedInit, formals_in_scope, attributes_in_scope}
use Rattle.cool_classes.specs.LawfulTables.{MayInherit}
use Rattle.cool_rules.specs.TypedTables.{IsTypedTable}
use Rattle.cool_meaning.specs.Values.{Value, class_of, Environment}
use Rattle.cool_meaning.specs.Meters.{◌>>=◌, give, store}
use Rattle.cool_classes.specs.ClimbedChains.{chain as chain_of}
use Rattle.cool_meaning.specs.Lookups.{attributes}
use Rattle.cool_meaning.specs.Lookups.{method_in, init_in, init_of, located, attribute_names, formal_names, locations_of, environment_of, attributes_at}
use Rattle.cool_meaning.specs.Evaluation.{Body, Initials, Calls, eval}
use Rattle.cool_meaning.specs.Evaluation.{run_method, run_initial, run_initials, run_call, calls_within}
use Rattle.cool_rules.proofs.TypesAreTypes.{formals_are_types}
use Rattle.cool_rules.proofs.ChainsOfTables.{attributes_above, below_trans}
use Rattle.cool_classes.proofs.ChainsOfTables.{chain_is}
use Rattle.cool_classes.proofs.ChainsOfTables.{chain_of as chain_by}
use Rattle.cool_meaning.specs.FittingValues.{World, AreMade, Fits, AllFit, meant, attribute_classes, Holds, Scene}
use Rattle.cool_meaning.proofs.FittingValues.{still_all_made, still_fits}
use Rattle.cool_meaning.proofs.SoundComputations.{locate_all_sound}
use Rattle.cool_meaning.proofs.SoundMethods.{Any}
use Rattle.cool_meaning.proofs.MethodsOfTables.{defined_attribute}
use Rattle.cool_meaning.proofs.MethodsOfTables.{defined, attributes_owned}
use Rattle.cool_syntax.specs.Tree.{Tree}
use Rattle.cool_meaning.proofs.SoundParts.{AllCallsSound}
use Rattle.cool_meaning.specs.BasicMethods.{locate_all}
use Rattle.cool_fold.proofs.NoMoreMeters.{Keeps, keeps_same, bind_keeps, then_keeps, working_keeps}
use Rattle.cool_syntax.specs.declared.file_tree.Formal.{Formal}
use Rattle.cool_syntax.specs.declared.file_tree.MethodDef.{MethodDef}
use Rattle.cool_meaning.proofs.SoundEvaluation.{eval_sound}
use Rattle.cool_meaning.proofs.SoundRuns.{holds_formals, attributes_hold, own_locations, within_sound}
use Rattle.cool_meaning.proofs.SoundRuns as runs
use Rattle.cool_rules.specs.NodeTypes.{own_scope}
use Rattle.cool_fold.specs.Folding.{fold, fold_feature, fold_option, fold_table}
use Rattle.cool_fold.proofs.FoldedCalls.{CallsKeep, AllCallsKeep}
use Rattle.cool_fold.proofs.FoldedExpressions.{folds}
use Rattle.cool_fold.proofs.FoldedTables.{features_folded, got_folded, tables_same}
use Rattle.cool_fold.proofs.TypesInScope.{scope_typed}

module _ (p : List Class) (typed : IsTypedTable p) where
  -- the names of attributes, and what they are located at

  attribute_names_same : (rs : List AttributeRef) → attribute_names (fold_table p) rs ≡ attribute_names p rs
  attribute_names_same [] = refl
  attribute_names_same (r ∷ rs) =
      ap (λ (x : List ℕ). x ∷ attribute_names (fold_table p) rs) ((tables_same p).attribute_names r) ∙ ap (λ (xs : List (List ℕ)). attribute_name p r ∷ xs) (attribute_names_same rs)

  located_same : (o : Option ClassId) (ls : List ℕ) → attributes_at (fold_table p) o ls ≡ attributes_at p o ls
  located_same None ls = refl
  located_same (Some c) ls =
      ap (λ (rs : List AttributeRef). located (attribute_names (fold_table p) rs) ls) ((tables_same p).attributes c) ∙ ap (λ (xs : List (List ℕ)). located xs ls) (attribute_names_same (attributes p c))

  environment_same : (self : Value) → environment_of (fold_table p) self ≡ environment_of p self
  environment_same self = located_same (class_of self) (locations_of self)

  feature_folded : (c : ClassId) (i : ℕ) (x : Feature) → slice_get (features_of p c) i ≡ Some x → slice_get (features_of (fold_table p) c) i ≡ Some (fold_feature p c x)
  feature_folded c i x there = ap (λ (fs : List Feature). slice_get fs i) (features_folded p c) ∙ got_folded p c (features_of p c) i ∙ ap (option_map (fold_feature p c)) there

  -- the attributes of a class
  attributes_there : (k : ClassId) → k.0 < length p → AllByRecursion (HasAttribute p) (attributes p k)
  attributes_there k within = attributes_have p (chain_of p k) (λ j d less. all_within p typed.whole.depth typed.whole.grounded k within (chain_of p k) (chain_is p k typed.whole.table within) j d less)

  module _ (calls calls' : Calls) (b : ℕ) (sound : AllCallsSound p calls b) (keep : AllCallsKeep p calls calls' b) where
    -- an expression that a feature declares, folded in the scope of its class
    declared_keeps : (w : World) (c k : ClassId) (self : Value) (inner : List Binding) (env : Environment) (e : Tree) (declared : List ℕ) → c.0 < length p → k.0 < length p → MayInherit k → Below p k c → class_of self ≡ Some k
        → Fits p w self k → AreTypes p inner → (f : FitsDeclared p c inner e declared) → Holds w k (inner ++ attributes_in_scope p (attributes_of p f.chain)) env
        → Keeps p b w (eval p calls self env e) (eval (fold_table p) calls' self env (fold p c (inner ++ own_scope p c) e))
    declared_keeps w c k self inner env e declared c_within within may below is fit inner_types f holds =
        let same : chain_of p c ≡ f.chain = chain_by p c f.chain f.is_chain in
        let scope_same : inner ++ attributes_in_scope p (attributes_of p f.chain) ≡ inner ++ own_scope p c = ap (λ (ds : List ClassId). inner ++ attributes_in_scope p (attributes_of p ds)) (sym same) in
        let types = scope_typed p typed.whole c inner inner_types in
        folds p (fold_table p) typed (tables_same p) calls calls' b sound keep c k self c_within e w (inner ++ own_scope p c) env f.type types
        (record { c_within = c_within; k_within = within; below = below; plain = may; class = is; fits = fit; holds = subst (λ (s : List Binding). Holds w k s env) scope_same holds })
        (subst (λ (s : List Binding). HasType p c s e f.type) scope_same f.has)

    -- a method
    body_keeps : (w : World) (owner : ClassId) (i : ℕ) (self : Value) (k : ClassId) (vs : List Value) → HasMethod p (User owner i) → class_of self ≡ Some k → k.0 < length p → MayInherit k → Below p k owner
        → Fits p w self k → AllFit p w vs (map (meant p k) (formals_of p (User owner i))) → Keeps p b w (run_call p calls (Body owner i self vs)) (run_call (fold_table p) calls' (Body owner i self vs))
    body_keeps w owner i self k vs has is within may below fit args =
        let (m, there) = defined (slice_get (features_of p owner) i) has.1 in
        let there' = feature_folded owner i (Method m) there in
        let m' : MethodDef = record m { body = fold p owner (formals_in_scope p m.formals ++ own_scope p owner) m.body } in
        let f : FitsDeclared p owner (formals_in_scope p m.formals) m.body m.result.name = typed.features owner i (Method m) has.0 there in
        let args' : AllFit p w vs (map (meant p k) (map (λ (x : Formal). x.declared.name) m.formals)) = subst (λ (o : Option Feature). AllFit p w vs (map (meant p k) (formals_in o))) there args in
        subst (λ (o : Option Feature). Keeps p b w (run_method p calls self vs (method_in o)) (run_method (fold_table p) calls' self vs (method_in (slice_get (features_of (fold_table p) owner) i)))) (sym there)
        (subst (λ (o : Option Feature). Keeps p b w (run_method p calls self vs (Some m)) (run_method (fold_table p) calls' self vs (method_in o))) (sym there')
        (bind_keeps {Q = λ w' ls. AreMade w' ls (map (meant p k) (map (λ (x : Formal). x.declared.name) m.formals))} (locate_all_sound vs (map (meant p k) (map (λ (x : Formal). x.declared.name) m.formals)) args') (keeps_same (locate_all vs)) (λ w1 ls g1 made.
        let fit1 = still_fits p w w1 g1 self k fit in
        subst (λ (env : Environment). Keeps p b w1 (eval p calls self (located (formal_names m.formals) ls ++ environment_of p self) m.body) (eval (fold_table p) calls' self (located (formal_names m.formals) ls ++ env) m'.body)) (sym (environment_same self))
        (declared_keeps w1 owner k self (formals_in_scope p m.formals) (located (formal_names m.formals) ls ++ environment_of p self) m.body m.result.name has.0 within may below is fit1 (formals_are_types p typed.whole m.formals) f
        (holds_formals p w1 k m.formals ls (attributes_in_scope p (attributes_of p f.chain)) (environment_of p self) made (attributes_hold p typed w1 owner k self f.chain f.is_chain is within may below fit1))))))

    -- an initial value
    init_keeps : (w : World) (r : AttributeRef) (self : Value) (k : ClassId) (l : ℕ) → HasAttribute p r → class_of self ≡ Some k → k.0 < length p → MayInherit k → Below p k r.owner → Fits p w self k
        → Keeps p b w (run_initial p calls self l (init_of p r)) (run_initial (fold_table p) calls' self l (init_of (fold_table p) r))
    init_keeps w r self k l has is within may below fit =
        let (a, there) = defined_attribute (slice_get (features_of p r.owner) r.index) has.1 in
        subst (λ (o : Option Feature). Keeps p b w (run_initial p calls self l (init_in o)) (run_initial (fold_table p) calls' self l (init_of (fold_table p) r))) (sym there)
        (subst (λ (o : Option Feature). Keeps p b w (run_initial p calls self l a.init) (run_initial (fold_table p) calls' self l (init_in o))) (sym (feature_folded r.owner r.index (Attribute a) there))
        (by a.declared.name a.init (typed.features r.owner r.index (Attribute a) has.0 there)))
      where
        by : (name : List ℕ) (o : Option Tree) → IsTypedInit p r.owner name o → Keeps p b w (run_initial p calls self l o) (run_initial (fold_table p) calls' self l (fold_option p r.owner o))
        by name None f = keeps_same (give tt)
        by name (Some e) f =
            let holds = attributes_hold p typed w r.owner k self f.chain f.is_chain is within may below fit in
            let scene : Scene p w r.owner k self (attributes_in_scope p (attributes_of p f.chain)) (environment_of p self) = record { c_within = has.0; k_within = within; below = below; plain = may; class = is; fits = fit; holds = holds } in
            working_keeps 1 (subst (λ (env : Environment). Keeps p b w (eval p calls self (environment_of p self) e >>= λ v. store l v) (eval (fold_table p) calls' self env (fold p r.owner (own_scope p r.owner) e) >>= λ v. store l v)) (sym (environment_same self))
            (bind_keeps {Q = λ w' v. Fits p w' v (class_meant k f.type)} (eval_sound p typed calls b sound r.owner k self e w (attributes_in_scope p (attributes_of p f.chain)) (environment_of p self) f.type scene f.has)
            (declared_keeps w r.owner k self [] (environment_of p self) e name has.0 within may below is fit tt f holds) (λ w1 v g1 fits. keeps_same (store l v))))

    all_init_keeps : (w : World) (rs more : List AttributeRef) (ls : List ℕ) (self : Value) (k : ClassId) → AllByRecursion (HasAttribute p) rs → AllByRecursion (λ (r : AttributeRef). Below p k r.owner) rs
        → class_of self ≡ Some k → k.0 < length p → MayInherit k → Fits p w self k → AreMade w ls (attribute_classes p k (rs ++ more)) → Keeps p b w (run_initials p calls self rs ls) (run_initials (fold_table p) calls' self rs ls)
    all_init_keeps w [] more ls self k has owned is within may fit made = keeps_same (give self)
    all_init_keeps w (r ∷ rs) more [] self k has owned is within may fit made = absurd made
    all_init_keeps w (r ∷ rs) more (l ∷ ls) self k has owned is within may fit made =
        then_keeps {Q = Any} (runs.init_sound p typed calls b sound w r self k l has.0 is within may owned.0 fit made.0) (init_keeps w r self k l has.0 is within may owned.0 fit) (λ w1 g1.
        all_init_keeps w1 rs more ls self k has.1 owned.1 is within may (still_fits p w w1 g1 self k fit) (still_all_made w w1 g1 ls (attribute_classes p k (rs ++ more)) made.1))

    initials_keep : (w : World) (c : ClassId) (self : Value) (k : ClassId) → c.0 < length p → class_of self ≡ Some k → k.0 < length p → MayInherit k → Below p k c → Fits p w self k
        → Keeps p b w (run_call p calls (Initials c self)) (run_call (fold_table p) calls' (Initials c self))
    initials_keep w c self k c_within is within may below fit =
        let (more, split) = attributes_above p k c (chain_of p k) (chain_of p c) below (chain_is p k typed.whole.table within) (chain_is p c typed.whole.table c_within) in
        subst (λ (rs : List AttributeRef). Keeps p b w (run_initials p calls self (attributes p c) (locations_of self)) (run_initials (fold_table p) calls' self rs (locations_of self))) (sym ((tables_same p).attributes c))
        (all_init_keeps w (attributes p c) more (locations_of self) self k (attributes_there c c_within) (owners (attributes p c) (attributes_owned p (chain_of p c))) is within may fit
        (subst (λ (rs : List AttributeRef). AreMade w (locations_of self) (attribute_classes p k rs)) split (own_locations p typed w self k is may fit)))
      where
        owners : (rs : List AttributeRef) → AllByRecursion (λ (r : AttributeRef). Contains (chain_of p c) r.owner) rs → AllByRecursion (λ (r : AttributeRef). Below p k r.owner) rs
        owners [] h = tt
        owners (r ∷ rs) h = (below_trans p k c r.owner below (chain_of p c, chain_is p c typed.whole.table c_within, h.0), owners rs h.1)

  -- with so many steps at most
  pub within_keeps : (n m : ℕ) → m < n → CallsKeep p (calls_within p n) (calls_within (fold_table p) n) m
  within_keeps zero m less = absurd (omega arith)
  within_keeps (suc n) m less = record {
    body = λ w owner i self k vs has is within may below fit args.
        body_keeps (calls_within p n) (calls_within (fold_table p) n) m (λ j few. within_sound p typed n j (omega arith)) (λ j few. within_keeps n j (omega arith)) w owner i self k vs has is within may below fit args;
    initials = λ w c self k c_within is within may below fit.
        initials_keep (calls_within p n) (calls_within (fold_table p) n) m (λ j few. within_sound p typed n j (omega arith)) (λ j few. within_keeps n j (omega arith)) w c self k c_within is within may below fit;
  }
