-- A folded expression has the same result as the original one, and no cost counter (meter) is greater, if this holds for the calls that it makes.
use Rattle.std.proofs.Common.{◌≡◌, ◌*◌, ◌≢◌, ℕ, suc, ◌<◌, List, [], ◌∷◌, map, length, Option, Some, Bool, true, false, ap, sym, ◌∙◌, refl, subst, neg_ℤ, not}
use Rattle.std.specs.Prelude.{if◌then◌else◌, bytes_eq, slice_get}
use Rattle.std.proofs.lemmas.Slice.Eq.{bytes_eq-Decides}
use Rattle.cool_classes.specs.declared.class_id.ClassId.{ClassId}
use Rattle.cool_classes.specs.declared.class_id.Ty.{Ty}
use Rattle.cool_classes.specs.declared.class_id.Ty.TheVariants.{Class as IsClass, SelfType}
use Rattle.cool_classes.specs.Chains.{Class, name_of, Below}
use Rattle.cool_classes.specs.Features.{Denotes}
use Rattle.cool_rules.specs.Conformance.{class_of as class_meant}
use Rattle.cool_rules.specs.Scopes.{AreTypes, Binding}
use Rattle.cool_rules.specs.Typing.{int_type, bool_type, object_type, with_name, HasType, HaveTypes, HaveItems, HasInit, HaveBranches}
use Rattle.cool_rules.specs.TypedTables.{IsTypedTable}
use Rattle.cool_meaning.specs.Values.{Value, Void, Int, Bool as Truth, Str, class_of, default_of, Environment}
use Rattle.cool_meaning.specs.Meters.{◌>>=◌, give, rule, working, locate, CaseVoid}
use Rattle.cool_meaning.specs.Numbers.{signed}
use Rattle.cool_classes.specs.ClimbedChains.{chain as chain_of}
use Rattle.cool_meaning.specs.Lookups.{class_made}
use Rattle.cool_meaning.specs.BasicMethods.{as_number}
use Rattle.cool_meaning.specs.BasicMethods.{as_truth}
use Rattle.cool_meaning.specs.Evaluation.{Calls, class_or, exact, arithmetic, compare, make, Branch, nearest, take_branch, value_named, assign, is_void, eval, eval_all, eval_items, eval_init, branch_of}
use Rattle.cool_meaning.specs.Evaluation.{branch_count}
use Rattle.cool_rules.proofs.ChainsOfTables.{below_within}
use Rattle.cool_classes.proofs.ChainsOfTables.{chain_is}
use Rattle.cool_rules.proofs.NamesOfTables.{class_by_name}
use Rattle.cool_rules.proofs.RulesOfTables.{meant_is}
use Rattle.cool_meaning.specs.FittingValues.{World, Fits, AllFit, Scene}
use Rattle.cool_meaning.proofs.FittingValues.{grown_on, still_fits, fits_above, class_fits}
use Rattle.cool_meaning.proofs.SoundComputations.{fewer_sound, locate_sound}
use Rattle.cool_meaning.proofs.SoundMethods.{Any, truth_sound}
use Rattle.cool_syntax.specs.Tree.{Tree, Trees, MaybeTree, Cases, Last, More, Without, With, NoCase, CaseOf}
use Rattle.cool_classes.specs.Names.{self_type}
use Rattle.cool_rules.specs.Rules.{class_named}
use Rattle.cool_meaning.proofs.SoundParts.{wider_sound, class_or_sound, AllCallsSound}
use Rattle.cool_syntax.specs.Tree as trees
use Rattle.cool_fold.proofs.NoMoreMeters.{Keeps, keeps_same, keeps_then, bind_keeps, working_keeps, holding_keeps, rule_keeps, fewer_keeps, if_keeps}
use Rattle.cool_meaning.proofs.SoundEvaluation.{scene_later, scene_with, eval_sound, all_sound, init_sound}
use Rattle.cool_rules.proofs.RulesDecided.{denotes_type}
use Rattle.cool_rules.specs.StaticTypes.{type_of}
use Rattle.cool_fold.specs.Folding.{fold, fold_all, fold_maybe, fold_cases, dispatch_by}
use Rattle.cool_fold.proofs.Rows.{arith_folds, compare_row, neg_folds, not_folds, void_folds, if_folds}
use Rattle.cool_fold.proofs.FoldedCalls.{SameTables, AllCallsKeep, loop_keeps, make_keeps, KeptBranch, nearest_keeps}
use Rattle.cool_rules.proofs.StaticTypesAreGiven.{type_is}
use Rattle.cool_fold.proofs.FoldedDispatches.{named_there, dispatch_folds, static_folds}
use Rattle.lists.proofs.EqualBytes.{bytes_same, bytes_differ}

module _ (p p' : List Class) (typed : IsTypedTable p) (same_tables : SameTables p p') (calls calls' : Calls) (b : ℕ) (calls_sound : AllCallsSound p calls b) (keep : AllCallsKeep p calls calls' b) (c k : ClassId) (self : Value)
    (within : c.0 < length p) where
  abbrev IsOf : Ty → World → Value → Type 0
  IsOf t w v = Fits p w v (class_meant k t)

  -- New objects

  new_keeps : (w : World) (scope : List Binding) (env : Environment) (name : List ℕ) (t : Ty) → Scene p w c k self scope env → Denotes p name t
      → Keeps p b w (make p calls (class_made p self name)) (make p' calls' (class_made p' self name))
  new_keeps w scope env name SelfType scene is =
      let made : class_made p self name ≡ Some k = ap (λ (x : Bool). if x then class_of self else class_named p name) (bytes_same name self_type is) ∙ scene.class in
      let made' : class_made p' self name ≡ Some k = ap (λ (x : Bool). if x then class_of self else class_named p' name) (bytes_same name self_type is) ∙ scene.class in
      subst (λ (o : Option ClassId). Keeps p b w (make p calls o) (make p' calls' (class_made p' self name))) (sym made)
      (subst (λ (o : Option ClassId). Keeps p b w (make p calls (Some k)) (make p' calls' o)) (sym made') (make_keeps p p' typed same_tables calls calls' b calls_sound keep w k scene.k_within))
  new_keeps w scope env name (IsClass d) scene (d_within, is) =
      let other : name ≢ self_type = λ same. typed.whole.table.no_self_type d d_within (is ∙ same) in
      let made : class_made p self name ≡ Some d = ap (λ (x : Bool). if x then class_of self else class_named p name) (bytes_differ name self_type other) ∙ class_by_name p typed.whole.table d name d_within is in
      let made' : class_made p' self name ≡ Some d = ap (λ (x : Bool). if x then class_of self else class_named p' name) (bytes_differ name self_type other) ∙ named_there p p' typed same_tables name d d_within is in
      subst (λ (o : Option ClassId). Keeps p b w (make p calls o) (make p' calls' (class_made p' self name))) (sym made)
      (subst (λ (o : Option ClassId). Keeps p b w (make p calls (Some d)) (make p' calls' o)) (sym made') (make_keeps p p' typed same_tables calls calls' b calls_sound keep w d d_within))

  branch_count_same : (scope : List Binding) (cs : Cases) → branch_count (fold_cases p c scope cs) ≡ branch_count cs
  branch_count_same scope NoCase = refl
  branch_count_same scope (CaseOf at name declared e cs) = ap suc (branch_count_same scope cs)

  -- Branches

  -- the same test on both sides
  branch_by : (y : Bool) (w : World) (d : ClassId) (f g : Branch) (r r' : Option Branch) → (y ≡ true → (v : Value) → Fits p w v d → Keeps p b w (f v) (g v)) → KeptBranch p p' typed same_tables calls calls' b calls_sound keep w d r r'
      → KeptBranch p p' typed same_tables calls calls' b calls_sound keep w d (if y then Some f else r) (if y then Some g else r')
  branch_by true w d f g r r' h more = h refl
  branch_by false w d f g r r' h more = more

  -- a class has one name in both tables
  renamed : (w : World) (d : ClassId) (o : Option Branch) (branch : List ℕ → Option Branch) → KeptBranch p p' typed same_tables calls calls' b calls_sound keep w d o (branch (name_of p d))
      → KeptBranch p p' typed same_tables calls calls' b calls_sound keep w d o (branch (name_of p' d))
  renamed w d o branch h = subst (λ (n : List ℕ). KeptBranch p p' typed same_tables calls calls' b calls_sound keep w d o (branch n)) (sym (same_tables.names d)) h

  -- Expressions

  mutual
    pub folds : (t : Tree) (w : World) (scope : List Binding) (env : Environment) (type : Ty) → AreTypes p scope → Scene p w c k self scope env → HasType p c scope t type
        → Keeps p b w (eval p calls self env t) (eval p' calls' self env (fold p c scope t))
    folds (trees.Id at name) w scope env type types scene h = keeps_same (rule (value_named self env name))
    folds (trees.Int at n) w scope env type types scene h = keeps_same (rule (give (Int (signed n))))
    folds (trees.Str at bytes) w scope env type types scene h = keeps_same (rule (give (Str bytes)))
    folds (trees.Bool at x) w scope env type types scene h = keeps_same (rule (give (Truth x)))
    folds (trees.Assign at name e) w scope env type types scene (declared, other, has, there, conforms) =
        rule_keeps (bind_keeps {Q = IsOf type} (eval_sound p typed calls b calls_sound c k self e w scope env type scene has) (folds e w scope env type types scene has) (λ w1 v g1 fit. keeps_same (assign env name v)))
    folds (trees.Dispatch at e name es) w scope env type types scene (receiver, given', has, have, call) =
        let same_class : class_meant c (type_of p c scope e) ≡ class_meant c receiver = ap (class_meant c) (type_is p typed.whole c within e scope receiver types has) in
        subst (λ (y : ClassId). Keeps p b w (eval p calls self env (trees.Dispatch at e name es)) (eval p' calls' self env (dispatch_by p y at (fold p c scope e) name (fold_all p c scope es)))) (sym same_class)
        (dispatch_folds p p' typed same_tables calls calls' b calls_sound keep c k self within at e (fold p c scope e) name es (fold_all p c scope es) w scope env receiver given' type scene has call (all_sound p typed calls b calls_sound c k self es w scope env given' scene have)
        (folds_all es w scope env given' types scene have) (λ w1 scene1. folds e w1 scope env receiver types scene1 has))
    folds (trees.StaticDispatch at e class name es) w scope env type types scene (receiver, given', x, has, have, denotes, conforms, call) =
        static_folds p p' typed same_tables calls calls' b calls_sound keep c k self within at e (fold p c scope e) class name es (fold_all p c scope es) w scope env receiver given' x type scene has denotes conforms call (all_sound p typed calls b calls_sound c k self es w scope env given' scene have)
        (folds_all es w scope env given' types scene have) (λ w1 scene1. folds e w1 scope env receiver types scene1 has)
    folds (trees.If at test first second) w scope env type types scene (t, u, has, has1, has2, join) =
        keeps_then (rule_keeps (bind_keeps {Q = IsOf bool_type} (eval_sound p typed calls b calls_sound c k self test w scope env bool_type scene has) (folds test w scope env bool_type types scene has) (λ w1 v g1 fit.
        bind_keeps {Q = Any} (truth_sound p typed v fit) (keeps_same (as_truth v)) (λ w2 x g2 y.
        let scene2 = scene_later p w w2 c k self scope env (grown_on w w1 w2 g1 g2) scene in
        if_keeps x (folds first w2 scope env t types scene2 has1) (folds second w2 scope env u types scene2 has2)))))
        (if_folds p' calls' self env p c scope at (fold p c scope test) (fold p c scope first) (fold p c scope second))
    folds (trees.While at test body) w scope env type types scene (t, has, has1, is) =
        rule_keeps (loop_keeps p p' typed same_tables b w (eval p calls self env test) (eval p' calls' self env (fold p c scope test)) (eval p calls self env body) (eval p' calls' self env (fold p c scope body))
        (λ m w1 few g1. fewer_sound m few (eval_sound p typed calls b calls_sound c k self test w1 scope env bool_type (scene_later p w w1 c k self scope env g1 scene) has))
        (λ m w1 few g1. wider_sound (λ w' v fit. tt) (fewer_sound m few (eval_sound p typed calls b calls_sound c k self body w1 scope env t (scene_later p w w1 c k self scope env g1 scene) has1)))
        (λ m w1 few g1. fewer_keeps m few (folds test w1 scope env bool_type types (scene_later p w w1 c k self scope env g1 scene) has))
        (λ m w1 few g1. fewer_keeps m few (folds body w1 scope env t types (scene_later p w w1 c k self scope env g1 scene) has1)))
    folds (trees.Block at es) w scope env type types scene h = rule_keeps (folds_items es w scope env Void object_type type types scene h)
    folds (trees.Let at name declared init body) w scope env type types scene (bound, other, denotes, has, has1) =
        rule_keeps (bind_keeps {Q = IsOf bound} (init_sound p typed calls b calls_sound c k self init w scope env declared.name bound scene denotes has) (folds_maybe init w scope env declared.name bound types scene has) (λ w1 v g1 fit.
        bind_keeps {Q = λ w' l. slice_get w' l ≡ Some (class_meant k bound)} (locate_sound v (class_meant k bound) fit) (keeps_same (locate v)) (λ w2 l g2 made.
        subst (λ (y : Ty). Keeps p b w2 (eval p calls self (record { name = name; location = l } ∷ env) body) (eval p' calls' self (record { name = name; location = l } ∷ env) (fold p c (with_name name y scope) body)))
        (sym (meant_is p typed.whole.table declared.name bound denotes))
        (folds body w2 (with_name name bound scope) (record { name = name; location = l } ∷ env) type (denotes_type p typed.whole declared.name bound denotes, types)
        (scene_with p w2 c k self scope env name bound l made (scene_later p w w2 c k self scope env (grown_on w w1 w2 g1 g2) scene)) has1))))
    folds (trees.Case at e cs) w scope env type types scene (t, ts, has, have, different, join) =
        rule_keeps (bind_keeps {Q = IsOf t} (eval_sound p typed calls b calls_sound c k self e w scope env t scene has) (folds e w scope env t types scene has) (λ w1 v g1 fit.
        bind_keeps {Q = λ w' j. class_of v ≡ Some j} (class_or_sound (CaseVoid at) v) (keeps_same (class_or (CaseVoid at) v)) (λ w2 j g2 is.
        let (below, j_within, fine) = class_fits p typed w2 v (class_meant k t) j (still_fits p w1 w2 g2 v (class_meant k t) fit) is in
        let scene2 = scene_later p w w2 c k self scope env (grown_on w w1 w2 g1 g2) scene in
        subst (λ (n : ℕ). Keeps p b w2 (working (branch_count cs * length (chain_of p j)) (take_branch at j v (nearest p (branch_of p calls self env cs) (chain_of p j))))
        (working (n * length (chain_of p' j)) (take_branch at j v (nearest p' (branch_of p' calls' self env (fold_cases p c scope cs)) (chain_of p' j))))) (sym (branch_count_same scope cs))
        (subst (λ (ds : List ClassId). Keeps p b w2 (working (branch_count cs * length (chain_of p j)) (take_branch at j v (nearest p (branch_of p calls self env cs) (chain_of p j))))
        (working (branch_count cs * length ds) (take_branch at j v (nearest p' (branch_of p' calls' self env (fold_cases p c scope cs)) ds)))) (sym (same_tables.chains j))
        (working_keeps _ (nearest_keeps p p' typed same_tables calls calls' b calls_sound keep w2 at j v (branch_of p calls self env cs) (branch_of p' calls' self env (fold_cases p c scope cs)) (chain_of p j) (λ d there.
        let on_chain : Below p j d = (chain_of p j, chain_is p j typed.whole.table j_within, there) in
        (fits_above p typed w2 v j d fine on_chain, renamed w2 d (branch_of p calls self env cs (name_of p d)) (branch_of p' calls' self env (fold_cases p c scope cs)) (kept_branches cs w2 scope env ts types scene2 have d (below_within p typed.whole j d j_within on_chain))))))))))
    folds (trees.New at class) w scope env type types scene h = new_keeps w scope env class.name type scene h
    folds (trees.IsVoid at e) w scope env type types scene (t, has, is) =
        keeps_then (rule_keeps (bind_keeps {Q = IsOf t} (eval_sound p typed calls b calls_sound c k self e w scope env t scene has) (folds e w scope env t types scene has) (λ w1 v g1 fit. keeps_same (give (Truth (is_void v))))))
        (void_folds p' calls' self env at (fold p c scope e))
    folds (trees.Not at e) w scope env type types scene (has, is) =
        keeps_then (rule_keeps (bind_keeps {Q = IsOf bool_type} (eval_sound p typed calls b calls_sound c k self e w scope env bool_type scene has) (folds e w scope env bool_type types scene has)
        (λ w1 v g1 fit. keeps_same (as_truth v >>= λ x. give (Truth (not x)))))) (not_folds p' calls' self env at (fold p c scope e))
    folds (trees.Neg at e) w scope env type types scene (has, is) =
        keeps_then (rule_keeps (bind_keeps {Q = IsOf int_type} (eval_sound p typed calls b calls_sound c k self e w scope env int_type scene has) (folds e w scope env int_type types scene has)
        (λ w1 v g1 fit. keeps_same (as_number v >>= λ n. exact at (neg_ℤ n))))) (neg_folds p' calls' self env at (fold p c scope e))
    folds (trees.Arith at op e f) w scope env type types scene (has, has1, is) =
        keeps_then (rule_keeps (bind_keeps {Q = IsOf int_type} (eval_sound p typed calls b calls_sound c k self e w scope env int_type scene has) (folds e w scope env int_type types scene has) (λ w1 v g1 fit.
        bind_keeps {Q = IsOf int_type} (eval_sound p typed calls b calls_sound c k self f w1 scope env int_type (scene_later p w w1 c k self scope env g1 scene) has1) (folds f w1 scope env int_type types (scene_later p w w1 c k self scope env g1 scene) has1)
        (λ w2 u g2 fit1. keeps_same (as_number v >>= λ m. as_number u >>= λ n. arithmetic op at m n)))))
        (arith_folds p' calls' self env at op (fold p c scope e) (fold p c scope f))
    folds (trees.Compare at op e f) w scope env type types scene (t, u, has, has1, comparable, is) =
        keeps_then (rule_keeps (bind_keeps {Q = IsOf t} (eval_sound p typed calls b calls_sound c k self e w scope env t scene has) (folds e w scope env t types scene has) (λ w1 v g1 fit.
        bind_keeps {Q = IsOf u} (eval_sound p typed calls b calls_sound c k self f w1 scope env u (scene_later p w w1 c k self scope env g1 scene) has1) (folds f w1 scope env u types (scene_later p w w1 c k self scope env g1 scene) has1)
        (λ w2 x g2 fit1. keeps_same (compare op v x)))))
        (compare_row p' calls' self env at op (fold p c scope e) (fold p c scope f))

    pub folds_all : (ts : Trees) (w : World) (scope : List Binding) (env : Environment) (given' : List Ty) → AreTypes p scope → Scene p w c k self scope env → HaveTypes p c scope ts given'
        → Keeps p b w (eval_all p calls self env ts) (eval_all p' calls' self env (fold_all p c scope ts))
    folds_all Last w scope env given' types scene h = keeps_same (give [])
    folds_all (More e es) w scope env [] types scene h = absurd h
    folds_all (More e es) w scope env (t ∷ ts) types scene h =
        bind_keeps {Q = IsOf t} (eval_sound p typed calls b calls_sound c k self e w scope env t scene h.0) (folds e w scope env t types scene h.0) (λ w1 v g1 fit.
        holding_keeps 1 (bind_keeps {Q = λ w' vs. AllFit p w' vs (map (class_meant k) ts)} (all_sound p typed calls b calls_sound c k self es w1 scope env ts (scene_later p w w1 c k self scope env g1 scene) h.1)
        (folds_all es w1 scope env ts types (scene_later p w w1 c k self scope env g1 scene) h.1) (λ w2 vs g2 fits. keeps_same (give (v ∷ vs)))))

    folds_items : (ts : Trees) (w : World) (scope : List Binding) (env : Environment) (v : Value) (before type : Ty) → AreTypes p scope → Scene p w c k self scope env → HaveItems p c scope before ts type
        → Keeps p b w (eval_items p calls self env v ts) (eval_items p' calls' self env v (fold_all p c scope ts))
    folds_items Last w scope env v before type types scene h = keeps_same (give v)
    folds_items (More e es) w scope env v before type types scene (t, has, have) =
        bind_keeps {Q = IsOf t} (eval_sound p typed calls b calls_sound c k self e w scope env t scene has) (folds e w scope env t types scene has) (λ w1 u g1 fit.
        folds_items es w1 scope env u t type types (scene_later p w w1 c k self scope env g1 scene) have)

    folds_maybe : (o : MaybeTree) (w : World) (scope : List Binding) (env : Environment) (name : List ℕ) (bound : Ty) → AreTypes p scope → Scene p w c k self scope env → HasInit p c scope bound o
        → Keeps p b w (eval_init p calls self env name o) (eval_init p' calls' self env name (fold_maybe p c scope o))
    folds_maybe Without w scope env name bound types scene h = keeps_same (give (default_of name))
    folds_maybe (With e) w scope env name bound types scene (t, has, conforms) = folds e w scope env t types scene has

    kept_branches : (cs : Cases) (w : World) (scope : List Binding) (env : Environment) (ts : List Ty) → AreTypes p scope → Scene p w c k self scope env → HaveBranches p c scope cs ts → (d : ClassId) → d.0 < length p
        → KeptBranch p p' typed same_tables calls calls' b calls_sound keep w d (branch_of p calls self env cs (name_of p d)) (branch_of p' calls' self env (fold_cases p c scope cs) (name_of p d))
    kept_branches NoCase w scope env [] types scene h d d_within = tt
    kept_branches NoCase w scope env (t ∷ ts) types scene h d d_within = absurd h
    kept_branches (CaseOf at name declared e cs) w scope env [] types scene h d d_within = absurd h
    kept_branches (CaseOf at name declared e cs) w scope env (t ∷ ts) types scene ((x, other, denotes, has), have) d d_within =
        branch_by (bytes_eq declared.name (name_of p d)) w d _ _ _ _ (λ same v fit.
        let is : d ≡ x = typed.whole.table.names d x d_within denotes.0 (sym (denotes.1 ∙ (bytes_eq-Decides declared.name (name_of p d)).0 same)) in
        bind_keeps {Q = λ w' l. slice_get w' l ≡ Some x} (locate_sound v x (subst (λ (y : ClassId). Fits p w v y) is fit)) (keeps_same (locate v)) (λ w1 l g1 made.
        subst (λ (y : Ty). Keeps p b w1 (eval p calls self (record { name = name; location = l } ∷ env) e) (eval p' calls' self (record { name = name; location = l } ∷ env) (fold p c (with_name name y scope) e)))
        (sym (meant_is p typed.whole.table declared.name (IsClass x) denotes))
        (folds e w1 (with_name name (IsClass x) scope) (record { name = name; location = l } ∷ env) t (denotes.0, types) (scene_with p w1 c k self scope env name (IsClass x) l made (scene_later p w w1 c k self scope env g1 scene)) has)))
        (kept_branches cs w scope env ts types scene have d d_within)
