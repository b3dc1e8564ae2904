-- In the semantics, `new` gives default values to the attributes at new locations, draws an identity, and then has the outcome of evaluating the initial
-- values.
use Rattle.std.proofs.Common.{◌≡◌, ℕ, suc, ◌+◌, ◌<◌, List, [], ◌∷◌, ◌++◌, length, Option, Some, Bool as Truth, true, false, ap, sym, ◌∙◌, refl, subst, arith, append_assoc, append-nil, length-append}
use Rattle.std.specs.Prelude.{slice_get, ◌==◌, if◌then◌else◌, pos}
use Rattle.std.specs.List.{AllByRecursion}
use Rattle.cool_classes.specs.declared.class_id.ClassId.{ClassId}
use Rattle.cool_classes.specs.declared.class_id.Ty.{Ty}
use Rattle.cool_syntax.specs.declared.file_tree.Feature.{Feature}
use Rattle.cool_syntax.specs.declared.file_tree.Feature.TheVariants.{Attribute}
use Rattle.cool_classes.specs.declared.method.AttributeRef.{AttributeRef}
use Rattle.cool_classes.specs.Chains.{Class, features_of}
use Rattle.cool_classes.specs.ClimbedChains.{chain}
use Rattle.cool_classes.specs.Features.{Denotes, attribute_type, HasAttribute, result_in}
use Rattle.cool_classes.specs.LawfulTables.{MayInherit}
use Rattle.cool_classes.specs.Tables.{IsTyped}
use Rattle.cool_classes.proofs.AttributesOfChains.{attributes_have}
use Rattle.cool_classes.proofs.ChainsOfTables.{chain_is}
use Rattle.cool_classes.proofs.Climbs.{all_within}
use Rattle.cool_rules.specs.Conformance.{class_of as class_meant}
use Rattle.cool_rules.specs.TypedTables.{IsTypedTable}
use Rattle.cool_rules.proofs.RulesOfTables.{meant_is}
use Rattle.cool_rules.proofs.ChainsOfTables.{below_itself}
use Rattle.cool_meaning.specs.Values.{Value, Obj, State, default_of}
use Rattle.cool_meaning.specs.Meters.{Outcome, Val, Stop, On, Stuck, Metered, Computation, free, join, seq_of, seq, ◌>>=◌, ◌>>◌, give, spend, rule, working, holding}
use Rattle.cool_meaning.specs.Lookups.{attributes, default_values}
use Rattle.cool_meaning.specs.BasicMethods.{locate_all, draw, new_number, new_truth, new_string}
use Rattle.cool_meaning.specs.Evaluation.{Calls, Initials, new_object, make}
use Rattle.cool_meaning.specs.FittingValues.{AllFit, Fits, AreMade, attribute_classes}
use Rattle.cool_meaning.specs.FittingValues as fitting
use Rattle.cool_meaning.proofs.FittingValues as growing
use Rattle.cool_meaning.proofs.MethodsOfTables.{defined_attribute}
use Rattle.cool_meaning.proofs.SoundComputations.{NotStuck, locate_all_sound}
use Rattle.cool_meaning.proofs.SoundParts.{default_fits}
use Rattle.cool_simulation.proofs.ground.LargerMaps.{numbers, with_values}
use Rattle.lists.proofs.AllItems.{all_get}

-- values at new locations
pub located_all : (vs : List Value) (st : State) (n : ℕ) → locate_all vs st n ≡ free (Val (numbers (length st.store) (length vs)) (record st { store = st.store ++ vs }) n)
located_all [] st n = ap (λ (xs : List Value). free (Val [] (record st { store = xs }) n)) (sym (append-nil st.store))
located_all (v ∷ vs) st n =
    let st1 : State = record st { store = st.store ++ v ∷ [] } in
    let long : length st1.store ≡ suc (length st.store) = length-append st.store (v ∷ []) ∙ omega arith in
    let joined : (st.store ++ v ∷ []) ++ vs ≡ st.store ++ v ∷ vs = append_assoc st.store (v ∷ []) vs in
    ap (λ (m : Metered (List ℕ)). join 0 0 0 (seq m (λ ls. give (length st.store ∷ ls)))) (located_all vs st1 n)
    ∙ (ap (λ (k : ℕ). free (Val (length st.store ∷ numbers k (length vs)) (record st { store = (st.store ++ v ∷ []) ++ vs }) n)) long
    ∙ ap (λ (xs : List Value). free (Val (length st.store ∷ numbers (suc (length st.store)) (length vs)) (record st { store = xs }) n)) joined)

-- the outcome of the call of the initial values, and then the object
unfoldable pub outcome_with : Value → Outcome Value → Outcome Value
outcome_with v (Val u t left) = Val v t left
outcome_with v (Stop e t) = Stop e t
outcome_with v (On t) = On t
outcome_with v Stuck = Stuck

pub gives_outcome : (o : Outcome Value) (a b c : ℕ) (v : Value) → (seq_of o a b c (λ _. give v)).outcome ≡ outcome_with v o
unfolding outcome_with
gives_outcome (Val u t left) a b c v = refl
gives_outcome (Stop e t) a b c v = refl
gives_outcome (On t) a b c v = refl
gives_outcome Stuck a b c v = refl

pub gives_meters : (o : Outcome Value) (a b c : ℕ) (v : Value) → ((seq_of o a b c (λ _. give v)).work ≡ a) × ((seq_of o a b c (λ _. give v)).words ≡ b) × ((seq_of o a b c (λ _. give v)).peak ≡ c)
gives_meters (Val u t left) a b c v = (omega arith, omega arith, omega arith)
gives_meters (Stop e t) a b c v = (refl, refl, refl)
gives_meters (On t) a b c v = (refl, refl, refl)
gives_meters Stuck a b c v = (refl, refl, refl)

-- the defaults of a new object, and its value
abbrev pub made_values : List Class → ClassId → List Value
made_values p c = default_values p (attributes p c)

abbrev pub made_object : List Class → ClassId → State → Value
made_object p c st = Obj c st.drawn (numbers (length st.store) (length (made_values p c)))

-- the call of its initial values
abbrev pub made_call : List Class → Calls → ClassId → State → ℕ → Metered Value
made_call p calls c st n = calls (Initials c (made_object p c st)) (with_values st (made_values p c)) n

-- the outcome and the meters of a new object, by those of the call
pub record IsMade (p : List Class) (calls : Calls) (c : ClassId) (st : State) (n : ℕ) (m : Metered Value) : Type 0 where
  pub outcome_is : m.outcome ≡ outcome_with (made_object p c st) (made_call p calls c st n).outcome
  pub work_is : m.work ≡ length (attributes p c) + length (chain p c) + (made_call p calls c st n).work
  pub words_are : m.words ≡ 4 + length (attributes p c) + (made_call p calls c st n).words
  pub peak_is : m.peak ≡ (made_call p calls c st n).peak

pub object_made : (p : List Class) (calls : Calls) (c : ClassId) (st : State) (n : ℕ) → IsMade p calls c st n (new_object p calls c st n)
object_made p calls c st n =
    let vs : List Value = made_values p c in
    let rest : List ℕ → Computation Value = λ ls. draw >>= λ i. calls (Initials c (Obj c i ls)) >> give (Obj c i ls) in
    let whole : Metered Value = seq (locate_all vs st n) rest in
    let e : whole ≡ seq (free (Val (numbers (length st.store) (length vs)) (record st { store = st.store ++ vs }) n)) rest = ap (λ (m : Metered (List ℕ)). seq m rest) (located_all vs st n) in
    let r = made_call p calls c st n in
    let v : Value = made_object p c st in
    let meters = gives_meters r.outcome r.work r.words r.peak v in
    let work = ap (λ (m : Metered Value). m.work) e in
    let words = ap (λ (m : Metered Value). m.words) e in
    let peak = ap (λ (m : Metered Value). m.peak) e in
    record {
      outcome_is = ap (λ (m : Metered Value). m.outcome) e ∙ gives_outcome r.outcome r.work r.words r.peak v;
      work_is = omega arith;
      words_are = omega arith;
      peak_is = omega arith;
    }

-- the choice among the four

pub plain_number : (c : ClassId) → MayInherit c → ((c.0 == 2) ≡ false) × ((c.0 == 3) ≡ false) × ((c.0 == 4) ≡ false)
plain_number c may =
    let no_int = may.no_int in let no_bool = may.no_bool in let no_string = may.no_string in
    let e2 : (c.0 == 2) ≡ false = grind arith in
    let e3 : (c.0 == 3) ≡ false = grind arith in
    let e4 : (c.0 == 4) ≡ false = grind arith in
    (e2, e3, e4)

pub make_plain : (p : List Class) (calls : Calls) (c : ClassId) → MayInherit c → make p calls (Some c) ≡ working 1 (holding (length (chain p c)) (spend (new_object p calls c)))
make_plain p calls c may =
    let (e2, e3, e4) = plain_number c may in
    by (c.0 == 2) (c.0 == 3) (c.0 == 4) e2 e3 e4
  where
    last : Computation Value
    last = working 1 (holding (length (chain p c)) (spend (new_object p calls c)))

    by : (x y z : Truth) → x ≡ false → y ≡ false → z ≡ false
        → (if x then rule (spend (new_number (pos 0))) else (if y then rule (spend (new_truth false)) else (if z then rule (spend (new_string []))
        else working 1 (holding (length (chain p c)) (spend (new_object p calls c)))))) ≡ working 1 (holding (length (chain p c)) (spend (new_object p calls c)))
    by true y z ex ey ez = absurd (cc)
    by false true z ex ey ez = absurd (cc)
    by false false true ex ey ez = absurd (cc)
    by false false false ex ey ez = refl

module _ (p : List Class) (typed : IsTypedTable p) where
  -- the defaults fit the types of the attributes

  attribute_denotes : (r : AttributeRef) → HasAttribute p r → (t : Ty) × Denotes p (attribute_type p r) t
  attribute_denotes r h =
      let (a, is) = defined_attribute (slice_get (features_of p r.owner) r.index) h.1 in
      let types : IsTyped p (Attribute a) = all_get (IsTyped p) (features_of p r.owner) r.index (Attribute a) (typed.whole.table.types r.owner h.0) is in
      subst (λ (o : Option Feature). (t : Ty) × Denotes p (result_in o) t) (sym is) types

  defaults_fit : (w : fitting.World) (k : ClassId) → k.0 < length p → MayInherit k → (rs : List AttributeRef) → AllByRecursion (HasAttribute p) rs → AllFit p w (default_values p rs) (attribute_classes p k rs)
  defaults_fit w k within may [] h = tt
  defaults_fit w k within may (r ∷ rs) h =
      let (t, denotes) = attribute_denotes r h.0 in (
        subst (λ (x : Ty). Fits p w (default_of (attribute_type p r)) (class_meant k x)) (sym (meant_is p typed.whole.table (attribute_type p r) t denotes)) (default_fits p typed w k (attribute_type p r) t within may denotes),
        defaults_fit w k within may rs h.1,
      )

  attributes_there : (k : ClassId) → k.0 < length p → AllByRecursion (HasAttribute p) (attributes p k)
  attributes_there k within = attributes_have p (chain p k) (λ j d less. all_within p typed.whole.depth typed.whole.grounded k within (chain p k) (chain_is p k typed.whole.table within) j d less)

  -- the store with the defaults fits a larger world, in which the object fits its class
  pub record IsStored (w : fitting.World) (c : ClassId) (st : State) : Type 0 where
    pub world : fitting.World
    pub grown : growing.Grown w world
    pub store : AllFit p world (st.store ++ made_values p c) world
    pub object : Fits p world (made_object p c st) c

  pub object_stored : (w : fitting.World) (c : ClassId) (st : State) → c.0 < length p → MayInherit c → AllFit p w st.store w → IsStored w c st
  object_stored w c st within may fits =
      let vs : List Value = made_values p c in
      let ds : List ClassId = attribute_classes p c (attributes p c) in
      let sound = (locate_all_sound {p = p} {b = 0} {w = w} vs ds (defaults_fit w c within may (attributes p c) (attributes_there c within))).sound st 0 (omega arith) fits in
      let fine = subst (λ (m : Metered (List ℕ)). NotStuck p w 0 (λ w' ls. AreMade w' ls ds) m.outcome) (located_all vs st 0) sound in
      record {
        world = fine.world;
        grown = fine.grown;
        store = fine.store;
        object = (record { within = within; plain = may; made = fine.value }, below_itself p typed.whole c within);
      }
