-- If method calls have the same results in two class tables with the same chains, methods and attributes (`SameTables`), so have new objects, dispatches, loops
-- and branches.
use Rattle.std.proofs.Common.{◌≡◌, ◌+◌, ℕ, zero, suc, ◌<◌, ◌≤◌, pos, List, [], ◌∷◌, map, length, Option, Some, None, Bool, true, false, ap, sym, ◌∙◌, refl, subst, arith}
use Rattle.std.specs.Prelude.{Contains, if◌then◌else◌, ◌==◌, slice_get}
use Rattle.std.specs.List.{AllByRecursion}
use Rattle.cool_syntax.specs.declared.place.Place.{Place}
use Rattle.cool_syntax.specs.declared.file_tree.Feature.{Feature}
use Rattle.cool_syntax.specs.declared.file_tree.Feature.TheVariants.{Attribute}
use Rattle.cool_classes.specs.declared.class_id.ClassId.{ClassId}
use Rattle.cool_classes.specs.declared.class_id.Ty.{Ty}
use Rattle.cool_classes.specs.declared.method.MethodRef.{MethodRef}
use Rattle.cool_classes.specs.declared.method.MethodRef.TheVariants.{Basic, User}
use Rattle.cool_classes.specs.declared.method.AttributeRef.{AttributeRef}
use Rattle.cool_classes.specs.Chains.{Class, class_number, name_of, features_of, Below}
use Rattle.cool_classes.specs.Features.{Denotes, implementation, formals_of, HasMethod, attribute_type, HasAttribute, result_in}
use Rattle.cool_classes.specs.Features.{attribute_name}
use Rattle.cool_classes.specs.Tables.{IsTyped}
use Rattle.cool_classes.proofs.Methods.{found_has}
use Rattle.cool_classes.proofs.AttributesOfChains.{attributes_have}
use Rattle.cool_classes.proofs.Climbs.{all_within}
use Rattle.cool_rules.specs.Conformance.{class_of as class_meant}
use Rattle.cool_rules.specs.Scopes.{found}
use Rattle.cool_classes.specs.LawfulTables.{MayInherit}
use Rattle.cool_rules.specs.TypedTables.{IsTypedTable}
use Rattle.cool_meaning.specs.Values.{Value, Void, Str, Obj, class_of, default_of}
use Rattle.cool_meaning.specs.Values.{State}
use Rattle.cool_meaning.specs.Meters.{NoBranch, Computation, ◌>>=◌, ◌>>◌, give, stop, stuck, spend, rule, working, giving, holding, given}
use Rattle.cool_meaning.specs.Meters.{Metered}
use Rattle.cool_classes.specs.ClimbedChains.{chain as chain_of}
use Rattle.cool_meaning.specs.Lookups.{attributes, default_values}
use Rattle.cool_meaning.specs.BasicMethods.{new_number, new_truth, new_string}
use Rattle.cool_meaning.specs.BasicMethods.{as_truth, basic, copy, draw, locate_all, load_all}
use Rattle.cool_meaning.specs.Evaluation.{Body, Initials, Calls, same, turns, loop, new_object, make, invoke, dispatch, Branch, or_else, nearest, take_branch}
use Rattle.cool_rules.proofs.ChainsOfTables.{below_trans, below_itself, chain_within}
use Rattle.cool_classes.proofs.ChainsOfTables.{chain_is}
use Rattle.cool_rules.proofs.RulesOfTables.{meant_is}
use Rattle.cool_meaning.proofs.BasicClasses.{high_inherits}
use Rattle.cool_meaning.specs.FittingValues.{World, AreMade, Fits, AllFit, meant, attribute_classes}
use Rattle.cool_meaning.proofs.FittingValues.{Grown, not_grown, grown_on, still_all_made}
use Rattle.cool_meaning.proofs.SoundComputations.{Sound, locate_all_sound}
use Rattle.cool_meaning.proofs.SoundMethods.{Any, draw_sound, truth_sound}
use Rattle.cool_meaning.proofs.MethodsOfTables.{implementation_own, user_own, defined_attribute}
use Rattle.cool_rules.specs.Rules.{class_named}
use Rattle.cool_meaning.proofs.SoundParts.{is_other, AllCallsSound, default_fits}
use Rattle.cool_classes.specs.declared.method.BasicMethod.{BasicMethod}
use Rattle.cool_classes.specs.declared.method.BasicMethod.TheVariants.{TypeName, Copy}
use Rattle.cool_fold.proofs.NoMoreMeters.{NoMore, Keeps, no_more_same, keeps_same, bind_keeps, then_keeps, working_keeps, giving_keeps, holding_keeps, spend_keeps, if_keeps}
use Rattle.std.proofs.lemmas.List.Elements.{Contains-append_right}
use Rattle.lists.proofs.AllItems.{all_get}

-- Tables of one shape: classes of the same names, chains, methods and attributes
pub record SameTables (p p' : List Class) : Type 0 where
  pub names : (c : ClassId) → name_of p' c ≡ name_of p c
  pub chains : (c : ClassId) → chain_of p' c ≡ chain_of p c
  pub implementations : (ds : List ClassId) (f : List ℕ) → implementation p' ds f ≡ implementation p ds f
  pub attributes : (c : ClassId) → attributes p' c ≡ attributes p c
  pub types : (r : AttributeRef) → attribute_type p' r ≡ attribute_type p r
  pub attribute_names : (r : AttributeRef) → attribute_name p' r ≡ attribute_name p r
  pub classes : (name : List ℕ) → class_named p' name ≡ class_named p name

-- Calls that keep the meaning, on what fits
pub record CallsKeep (p : List Class) (calls calls' : Calls) (b : ℕ) : Type 0 where
  pub body : (w : World) (owner : ClassId) (i : ℕ) (self : Value) (k : ClassId) (vs : List Value) → HasMethod p (User owner i) → class_of self ≡ Some k → k.0 < length p → MayInherit k → Below p k owner
      → Fits p w self k → AllFit p w vs (map (meant p k) (formals_of p (User owner i))) → Keeps p b w (calls (Body owner i self vs)) (calls' (Body owner i self vs))
  pub initials : (w : World) (c : ClassId) (self : Value) (k : ClassId) → c.0 < length p → class_of self ≡ Some k → k.0 < length p → MayInherit k → Below p k c → Fits p w self k
      → Keeps p b w (calls (Initials c self)) (calls' (Initials c self))

abbrev pub AllCallsKeep : List Class → Calls → Calls → ℕ → Type 0
AllCallsKeep p calls calls' b = (m : ℕ) → m < b → CallsKeep p calls calls' m

-- equal computations
pub keeps_equal : {A : Type 0} {p : List Class} {b : ℕ} {w : World} (d d' : Computation A) → ((s : State) (n : ℕ) → d' s n ≡ d s n) → Keeps p b w d d'
keeps_equal d d' e = record { keeps = λ s n less fits. subst (λ (m : Metered _). NoMore (d s n) m) (sym (e s n)) (no_more_same (d s n)) }

module _ (p p' : List Class) (typed : IsTypedTable p) (same_tables : SameTables p p') where
  -- Basic methods

  named_type : (o : Option ClassId) (s : State) (n : ℕ) → (given o >>= λ c. give (Str (name_of p' c))) s n ≡ (given o >>= λ c. give (Str (name_of p c))) s n
  named_type None s n = refl
  named_type (Some c) s n = ap (λ (x : List ℕ). (give c >>= λ _. give (Str x)) s n) (same_tables.names c)

  copied : (v : Value) (s : State) (n : ℕ) → copy p' v s n ≡ copy p v s n
  copied (Obj c i ls) s n =
      ap (λ (x : ℕ). working (length ls + x) (giving (4 + length ls) (load_all ls >>= λ vs. locate_all vs >>= λ ls'. draw >>= λ i'. give (Obj c i' ls'))) s n) (ap length (same_tables.chains c))
  copied _ s n = refl

  basic_same : (m : BasicMethod) (at : Place) (v : Value) (vs : List Value) (s : State) (n : ℕ) → basic p' m at v vs s n ≡ basic p m at v vs s n
  basic_same TypeName at v vs s n = named_type (class_of v) s n
  basic_same Copy at v vs s n = copied v s n
  basic_same _ at v vs s n = refl

  -- Loops

  turns_keeps : (j b : ℕ) (w : World) (test test' body body' : Computation Value) → ((m : ℕ) (w' : World) → m ≤ b → Grown w w' → Sound p m w' (λ w2 v. Fits p w2 v (class_number 3)) test)
      → ((m : ℕ) (w' : World) → m ≤ b → Grown w w' → Sound p m w' (Any {A = Value}) body) → ((m : ℕ) (w' : World) → m ≤ b → Grown w w' → Keeps p m w' test test')
      → ((m : ℕ) (w' : World) → m ≤ b → Grown w w' → Keeps p m w' body body') → Keeps p b w (turns j test body) (turns j test' body')
  turns_keeps zero b w test test' body body' st sb kt kb = keeps_same stuck
  turns_keeps (suc j) b w test test' body body' st sb kt kb =
      bind_keeps {Q = λ w2 v. Fits p w2 v (class_number 3)} (st b w (omega arith) (not_grown w)) (kt b w (omega arith) (not_grown w)) (λ w1 v g1 fit.
      bind_keeps {Q = Any} (truth_sound p typed v fit) (keeps_same (as_truth v)) (λ w2 x g2 y.
      if_keeps x (spend_keeps (λ m less. working_keeps 1 (then_keeps {Q = Any} (sb m w2 (omega arith) (grown_on w w1 w2 g1 g2)) (kb m w2 (omega arith) (grown_on w w1 w2 g1 g2)) (λ w3 g3.
      turns_keeps j m w3 test test' body body' (λ i w' few g. st i w' (omega arith) (grown_on w w3 w' (grown_on w w2 w3 (grown_on w w1 w2 g1 g2) g3) g)) (λ i w' few g. sb i w' (omega arith) (grown_on w w3 w' (grown_on w w2 w3 (grown_on w w1 w2 g1 g2) g3) g))
      (λ i w' few g. kt i w' (omega arith) (grown_on w w3 w' (grown_on w w2 w3 (grown_on w w1 w2 g1 g2) g3) g)) (λ i w' few g. kb i w' (omega arith) (grown_on w w3 w' (grown_on w w2 w3 (grown_on w w1 w2 g1 g2) g3) g))))))
      (keeps_same (give Void))))

  pub loop_keeps : (b : ℕ) (w : World) (test test' body body' : Computation Value) → ((m : ℕ) (w' : World) → m ≤ b → Grown w w' → Sound p m w' (λ w2 v. Fits p w2 v (class_number 3)) test)
      → ((m : ℕ) (w' : World) → m ≤ b → Grown w w' → Sound p m w' (Any {A = Value}) body) → ((m : ℕ) (w' : World) → m ≤ b → Grown w w' → Keeps p m w' test test')
      → ((m : ℕ) (w' : World) → m ≤ b → Grown w w' → Keeps p m w' body body') → Keeps p b w (loop test body) (loop test' body')
  loop_keeps b w test test' body body' st sb kt kb = record {
    keeps = λ s n less fits. (turns_keeps (suc n) n w test test' body body' (λ m w' few. st m w' (omega arith)) (λ m w' few. sb m w' (omega arith)) (λ m w' few. kt m w' (omega arith)) (λ m w' few. kb m w' (omega arith))).keeps s n (omega arith) fits;
  }

  module _ (calls calls' : Calls) (b : ℕ) (calls_sound : AllCallsSound p calls b) (keep : AllCallsKeep p calls calls' b) where
    -- New objects

    attribute_denotes : (r : AttributeRef) → HasAttribute p r → (t : Ty) × Denotes p (attribute_type p r) t
    attribute_denotes r h =
        let (a, is) = defined_attribute (slice_get (features_of p r.owner) r.index) h.1 in
        let types : IsTyped p (Attribute a) = all_get (IsTyped p) (features_of p r.owner) r.index (Attribute a) (typed.whole.table.types r.owner h.0) is in
        subst (λ (o : Option Feature). (t : Ty) × Denotes p (result_in o) t) (sym is) types

    attribute_defaults : (w : World) (k : ClassId) → k.0 < length p → MayInherit k → (rs : List AttributeRef) → AllByRecursion (HasAttribute p) rs → AllFit p w (default_values p rs) (attribute_classes p k rs)
    attribute_defaults w k within may [] h = tt
    attribute_defaults w k within may (r ∷ rs) h =
        let (t, denotes) = attribute_denotes r h.0 in (
          subst (λ (x : Ty). Fits p w (default_of (attribute_type p r)) (class_meant k x)) (sym (meant_is p typed.whole.table (attribute_type p r) t denotes)) (default_fits p typed w k (attribute_type p r) t within may denotes),
          attribute_defaults w k within may rs h.1,
        )

    attributes_there : (k : ClassId) → k.0 < length p → AllByRecursion (HasAttribute p) (attributes p k)
    attributes_there k within = attributes_have p (chain_of p k) (λ j d less. all_within p typed.whole.depth typed.whole.grounded k within (chain_of p k) (chain_is p k typed.whole.table within) j d less)

    abbrev object_with : Calls → ClassId → ℕ → ℕ → List Value → Computation Value
    object_with run c a d vs =
        working (a + d) (giving (4 + a) (locate_all vs >>= λ ls. draw >>= λ i. run (Initials c (Obj c i ls)) >> give (Obj c i ls)))

    same_defaults : (rs : List AttributeRef) → default_values p' rs ≡ default_values p rs
    same_defaults [] = refl
    same_defaults (r ∷ rs) = ap (λ (x : List ℕ). default_of x ∷ default_values p' rs) (same_tables.types r) ∙ ap (λ (vs : List Value). default_of (attribute_type p r) ∷ vs) (same_defaults rs)

    object_same : (c : ClassId) → new_object p' calls' c ≡ object_with calls' c (length (attributes p c)) (length (chain_of p c)) (default_values p (attributes p c))
    object_same c =
        ap (λ (rs : List AttributeRef). object_with calls' c (length rs) (length (chain_of p' c)) (default_values p' rs)) (same_tables.attributes c)
        ∙ ap (λ (ds : List ClassId). object_with calls' c (length (attributes p c)) (length ds) (default_values p' (attributes p c))) (same_tables.chains c)
        ∙ ap (λ (vs : List Value). object_with calls' c (length (attributes p c)) (length (chain_of p c)) vs) (same_defaults (attributes p c))

    object_keeps : (m : ℕ) → m < b → (w : World) (k : ClassId) → k.0 < length p → MayInherit k → Keeps p m w (new_object p calls k) (new_object p' calls' k)
    object_keeps m less w k within may =
        subst (λ (d : Computation Value). Keeps p m w (new_object p calls k) d) (sym (object_same k))
        (working_keeps _ (giving_keeps _ (bind_keeps {Q = λ w' ls. AreMade w' ls (attribute_classes p k (attributes p k))}
        (locate_all_sound (default_values p (attributes p k)) (attribute_classes p k (attributes p k)) (attribute_defaults w k within may (attributes p k) (attributes_there k within)))
        (keeps_same (locate_all (default_values p (attributes p k)))) (λ w1 ls g1 made.
        bind_keeps {Q = Any} draw_sound (keeps_same draw) (λ w2 i g2 x.
        let fine : Fits p w2 (Obj k i ls) k = (record { within = within; plain = may; made = still_all_made w1 w2 g2 ls (attribute_classes p k (attributes p k)) made }, below_itself p typed.whole k within) in
        then_keeps {Q = Any} ((calls_sound m less).initials w2 k (Obj k i ls) k within refl within may (below_itself p typed.whole k within) fine)
        ((keep m less).initials w2 k (Obj k i ls) k within refl within may (below_itself p typed.whole k within) fine) (λ w3 g3. keeps_same (give (Obj k i ls))))))))

    pub make_keeps : (w : World) (k : ClassId) → k.0 < length p → Keeps p b w (make p calls (Some k)) (make p' calls' (Some k))
    make_keeps w k within = by (k.0 == 2) (k.0 == 3) (k.0 == 4) refl refl refl
      where
        by : (x y z : Bool) → (k.0 == 2) ≡ x → (k.0 == 3) ≡ y → (k.0 == 4) ≡ z
            → Keeps p b w
            (if x then rule (spend (new_number (pos 0))) else (if y then rule (spend (new_truth false)) else (if z then rule (spend (new_string [])) else working 1 (holding (length (chain_of p k)) (spend (new_object p calls k))))))
            (if x then rule (spend (new_number (pos 0))) else (if y then rule (spend (new_truth false)) else (if z then rule (spend (new_string [])) else working 1 (holding (length (chain_of p' k)) (spend (new_object p' calls' k))))))
        by true y z ex ey ez = keeps_same (rule (spend (new_number (pos 0))))
        by false true z ex ey ez = keeps_same (rule (spend (new_truth false)))
        by false false true ex ey ez = keeps_same (rule (spend (new_string [])))
        by false false false ex ey ez =
            let may : MayInherit k = record { no_int = is_other k.0 2 ex; no_bool = is_other k.0 3 ey; no_string = is_other k.0 4 ez } in
            subst (λ (ds : List ClassId). Keeps p b w (working 1 (holding (length (chain_of p k)) (spend (new_object p calls k)))) (working 1 (holding (length ds) (spend (new_object p' calls' k))))) (sym (same_tables.chains k))
            (working_keeps 1 (holding_keeps _ (spend_keeps (λ m less. object_keeps m less w k within may))))

    -- Dispatch

    invoke_keeps : (m : ℕ) → m < b → (w : World) (at : Place) (c k : ClassId) (name : List ℕ) (v : Value) (vs : List Value) (n : MethodRef) → class_of v ≡ Some k → k.0 < length p → Fits p w v k → Below p k c
        → c.0 < length p → implementation p (chain_of p c) name ≡ Some n → AllFit p w vs (map (meant p k) (formals_of p n)) → Keeps p m w (invoke p calls at v vs (Some n)) (invoke p' calls' at v vs (Some n))
    invoke_keeps m less w at c k name v vs (Basic x) is within fit below c_within found args = keeps_equal (basic p x at v vs) (basic p' x at v vs) (basic_same x at v vs)
    invoke_keeps m less w at c k name v vs (User owner i) is within fit below c_within found args =
        let (d, there, own) = implementation_own p (chain_of p c) name (User owner i) found in
        let d_within : d.0 < length p = chain_within p typed.whole c c_within (chain_of p c) (chain_is p c typed.whole.table c_within) d there in
        let (same, high) = user_own p d owner i name own in
        let below_owner : Below p k owner = subst (λ (y : ClassId). Below p k y) (sym same) (below_trans p k c d below (chain_of p c, chain_is p c typed.whole.table c_within, there)) in
        let has : HasMethod p (User owner i) = found_has p d name (User owner i) d_within own in
        (keep m less).body w owner i v k vs has is within (high_inherits p typed k owner below_owner (subst (λ (y : ClassId). 5 ≤ y.0) (sym same) high)) below_owner fit args

    -- a dispatch that looks for its method in a class c, and one that looks in a class x and finds the same
    pub dispatch_keeps : (w : World) (at : Place) (c k x : ClassId) (name : List ℕ) (v : Value) (vs : List Value) (n : MethodRef) → class_of v ≡ Some k → k.0 < length p → Fits p w v k → Below p k c
        → c.0 < length p → implementation p (chain_of p c) name ≡ Some n → implementation p (chain_of p x) name ≡ Some n → AllFit p w vs (map (meant p k) (formals_of p n))
        → Keeps p b w (dispatch p calls at c name v vs) (dispatch p' calls' at x name v vs)
    dispatch_keeps w at c k x name v vs n is within fit below c_within found found' args =
        let there : implementation p' (chain_of p' x) name ≡ Some n = same_tables.implementations (chain_of p' x) name ∙ (ap (λ (ds : List ClassId). implementation p ds name) (same_tables.chains x) ∙ found') in
        spend_keeps (λ m less. working_keeps (length vs)
        (subst (λ (o : Option MethodRef). Keeps p m w (invoke p calls at v vs o) (invoke p' calls' at v vs (implementation p' (chain_of p' x) name))) (sym found)
        (subst (λ (o : Option MethodRef). Keeps p m w (invoke p calls at v vs (Some n)) (invoke p' calls' at v vs o)) (sym there)
        (invoke_keeps m less w at c k name v vs n is within fit below c_within found args))))

    -- Cases

    -- the claim for branches of a class with a value that fits it
    abbrev pub KeptBranch : World → ClassId → Option Branch → Option Branch → Type 0
    KeptBranch w d None None = Unit {0}
    KeptBranch w d None (Some f) = ⊥
    KeptBranch w d (Some f) None = ⊥
    KeptBranch w d (Some f) (Some g) = (v : Value) → Fits p w v d → Keeps p b w (f v) (g v)

    pub nearest_keeps : (w : World) (at : Place) (c : ClassId) (v : Value) (branch branch' : List ℕ → Option Branch) (ds : List ClassId)
        → ((d : ClassId) → Contains ds d → Fits p w v d × KeptBranch w d (branch (name_of p d)) (branch' (name_of p' d))) → Keeps p b w (take_branch at c v (nearest p branch ds)) (take_branch at c v (nearest p' branch' ds))
    nearest_keeps w at c v branch branch' [] h = keeps_same (stop (NoBranch at c))
    nearest_keeps w at c v branch branch' (d ∷ ds) h =
        let (fit, kept) = h d (0, omega arith, refl) in
        by (branch (name_of p d)) (branch' (name_of p' d)) fit kept (nearest_keeps w at c v branch branch' ds (λ e there. h e (Contains-append_right (d ∷ []) ds e there)))
      where
        by : (o o' : Option Branch) → Fits p w v d → KeptBranch w d o o' → Keeps p b w (take_branch at c v (nearest p branch ds)) (take_branch at c v (nearest p' branch' ds))
            → Keeps p b w (take_branch at c v (or_else o (nearest p branch ds))) (take_branch at c v (or_else o' (nearest p' branch' ds)))
        by None None fit kept more = more
        by None (Some g) fit kept more = absurd kept
        by (Some f) None fit kept more = absurd kept
        by (Some f) (Some g) fit kept more = kept v fit
