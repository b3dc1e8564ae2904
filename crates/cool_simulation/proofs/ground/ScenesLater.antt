-- If a state satisfies the preconditions to run an expression's code, so does the state after a subexpression or a push.
use Rattle.std.proofs.Common.{◌≡◌, ℕ, ◌+◌, ◌-◌, ◌*◌, ◌<◌, ◌≤◌, ◌⊎◌, inl, inr, List, [], ◌∷◌, length, Option, Some, None, Bool, true, false, sym, subst, arith}
use Rattle.std.specs.Prelude.{pos, if◌then◌else◌, ◌==◌}
use Rattle.std.specs.List.{AllByRecursion}
use Rattle.mips_isa.specs.Bytes.{Bytes, set_word}
use Rattle.mips_isa.specs.Calls.{State as Machine}
use Rattle.cool_syntax.specs.Tree.{Tree}
use Rattle.cool_syntax.specs.Tree as trees
use Rattle.cool_classes.specs.declared.class_id.ClassId.{ClassId}
use Rattle.cool_classes.specs.declared.class_id.Ty.{Ty}
use Rattle.cool_classes.specs.declared.class_id.Ty.TheVariants.{Class as IsClass, SelfType}
use Rattle.cool_classes.specs.Chains.{Class, class_number}
use Rattle.cool_classes.specs.ClimbedChains.{chain}
use Rattle.cool_rules.specs.Conformance.{IsType, class_of as class_meant}
use Rattle.cool_rules.specs.Scopes.{Binding}
use Rattle.cool_rules.specs.TypedTables.{IsTypedTable}
use Rattle.cool_rules.proofs.ChainsOfTables.{below_within}
use Rattle.cool_runtime.specs.Contents.{Same}
use Rattle.cool_runtime.specs.Machines.{At, Pointers, Console}
use Rattle.cool_runtime.proofs.Words.{byte_other}
use Rattle.cool_codegen.specs.Variables.{Named}
use Rattle.cool_meaning.specs.Values.{Value, Void, Int, Bool as Truth, Str, Obj, State, Environment}
use Rattle.cool_meaning.specs.Meters.{Outcome, Val, Computation, rule, spend, working, holding}
use Rattle.cool_meaning.specs.BasicMethods.{new_number, new_truth, new_string}
use Rattle.cool_meaning.specs.Evaluation.{Calls, eval, make, new_object}
use Rattle.cool_meaning.specs.Lookups.{class_made}
use Rattle.cool_meaning.proofs.BasicClasses.{basic_within}
use Rattle.cool_meaning.specs.FittingValues.{AllFit, Fits, Holds}
use Rattle.cool_meaning.proofs.FittingValues.{fit_at}
use Rattle.cool_meaning.specs.FittingValues as fitting
use Rattle.cool_meaning.proofs.FittingValues as growing
use Rattle.cool_meaning.proofs.SoundComputations.{NotStuck, IsFine}
use Rattle.cool_meaning.proofs.SoundEvaluation.{scene_later}
use Rattle.cool_simulation.specs.Loadings.{Loading}
use Rattle.cool_simulation.specs.Pictures.{Map, Pictures, Kept, Grown, Shows}
use Rattle.cool_simulation.specs.Simulation.{Begins, IsVariableAt}
use Rattle.cool_simulation.proofs.ground.PicturesStay.{pic_stays, staying_of}

module _ (l : Loading) where
  located_home : (map map' : Map) (st : State) (m : Bytes) (gp sp located : ℕ) (drawn gp' sp' : ℕ) → Pictures l.table l.world l.memory m map st gp sp → Grown map map' drawn (length st.store) gp' sp' → (n : ℕ) → 0 < map.home n
      → map'.home n ≡ map.home n
  located_home map map' st m gp sp located drawn gp' sp' pictures grown n some = by order
    where
      order : (n < length st.store) ⊎ (length st.store ≤ n)
      order = grind arith

      by : (n < length st.store) ⊎ (length st.store ≤ n) → map'.home n ≡ map.home n
      by (inl less) = grown.home n less
      by (inr more) = absurd (let none = pictures.fresh n more in omega arith)

  -- the code of a later expression may begin: registers but the frame and self are others, memory kept what is no home, and the store grew
  pub begins_later : (c k : ClassId) (self : Value) (scope : List Binding) (vs : List Named) (env : Environment) (made made' : fitting.World) (d d' : ℕ) (q : Pointers) (m m' : Bytes) (map map' : Map) (console console' : Console)
      (st st' : State) (s s' : Machine) (pc gp sp acc ra : ℕ) → Begins l c k self scope vs env made d q m map console st s
      → At l.world (record q { pc = pc; gp = gp; sp = sp; acc = acc; ra = ra }) m' console' s' → Shows st' console' → Pictures l.table l.world l.memory m' map' st' gp sp
      → Kept m m' map.marked q.gp q.sp → Grown map map' st.drawn (length st.store) q.gp q.sp → q.gp ≤ gp → st.drawn ≤ st'.drawn → sp + 4 * d' ≡ q.fp
      → growing.Grown made made' → AllFit l.table made' st'.store made'
      → Begins l c k self scope vs env made' d' (record q { pc = pc; gp = gp; sp = sp; acc = acc; ra = ra }) m' map' console' st' s'
  begins_later c k self scope vs env made made' d d' q m m' map map' console console' st st' s s' pc gp sp acc ra begins at shows pictures kept grown le drawn depth world fits =
      record {
        at = at;
        shows = shows;
        pictures = pictures;
        variables = record {
          typed = begins.variables.typed;
          homes = λ name v there.
              let (n, located, some, place) = begins.variables.homes name v there in
              let same = located_home map map' st m q.gp q.sp 0 st.drawn q.gp q.sp begins.pictures grown n some in
              (n, located, subst (λ (a : ℕ). 0 < a) (sym same) some, subst (λ (a : ℕ). IsVariableAt q v a) (sym same) place);
        };
        self_is = pic_stays l.world m m' map map' st.drawn st'.drawn q.gp gp self q.self le drawn (staying_of l.world m m' map map' st.drawn (length st.store) q.gp q.sp kept grown) begins.self_is;
        depth = depth;
        frame = begins.frame;
        scene = scene_later l.table made made' c k self scope env world begins.scene;
        fits = fits;
      }

  -- the word under the stack may be written
  pub under_stack : (m : Bytes) (gp sp v : ℕ) → gp + 4 ≤ sp → Same m (set_word m (sp - 4) v) gp sp
  under_stack m gp sp v room = record { below = λ q h. byte_other m (sp - 4) v q (inl (omega arith)); over = λ q h. byte_other m (sp - 4) v q (inr (omega arith)) }

-- properties of a value that is not stuck
pub fine_value : {A : Type 0} (p : List Class) (made : fitting.World) (n : ℕ) (Q : fitting.World → A → Type 0) (o : Outcome A) (v : A) (t : State) (left : ℕ) → o ≡ Val v t left → NotStuck p made n Q o → IsFine p made n Q v t left
fine_value p made n Q o v t left e h = subst (NotStuck p made n Q) e h

-- each evaluation that comes to a value has some work

if_works : (x : Bool) (d e : Computation Value) (st : State) (n : ℕ) → 1 ≤ (d st n).work → 1 ≤ (e st n).work → 1 ≤ ((if x then d else e) st n).work
if_works true d e st n h k = h
if_works false d e st n h k = k

make_works : (p : List Class) (calls : Calls) (o : Option ClassId) (st : State) (n : ℕ) (v : Value) (t : State) (left : ℕ) → (make p calls o st n).outcome ≡ Val v t left → 1 ≤ (make p calls o st n).work
make_works p calls None st n v t left e = absurd (cc)
make_works p calls (Some c) st n v t left e =
    if_works (c.0 == 2) (rule (spend (new_number (pos 0)))) _ st n (omega arith)
    (if_works (c.0 == 3) (rule (spend (new_truth false))) _ st n (omega arith)
    (if_works (c.0 == 4) (rule (spend (new_string []))) (working 1 (holding (length (chain p c)) (spend (new_object p calls c)))) st n (omega arith) (omega arith)))

pub eval_works : (p : List Class) (calls : Calls) (self : Value) (env : Environment) (t : Tree) (st : State) (n : ℕ) (v : Value) (u : State) (left : ℕ) → (eval p calls self env t st n).outcome ≡ Val v u left
    → 1 ≤ (eval p calls self env t st n).work
eval_works p calls self env (trees.New at class) st n v u left e = make_works p calls (class_made p self class.name) st n v u left e
eval_works p calls self env (trees.leaf at form) st n v u left e = omega arith
eval_works p calls self env (trees.Not at t) st n v u left e = omega arith
eval_works p calls self env (trees.Compare at op a b) st n v u left e = omega arith
eval_works p calls self env (trees.Dispatch at t name ts) st n v u left e = omega arith
eval_works p calls self env t st n v u left e = omega arith

-- the types in scope are types
pub types_in_scope : (p : List Class) → IsTypedTable p → (made : fitting.World) (k : ClassId) (store : List Value) → AllFit p made store made → (scope : List Binding) (env : Environment) → Holds made k scope env
    → AllByRecursion (λ (b : Binding). IsType p b.value) scope
types_in_scope p typed made k store fits [] env h = tt
types_in_scope p typed made k store fits (b ∷ scope) [] h = absurd h
types_in_scope p typed made k store fits (b ∷ scope) (e ∷ env) h =
    let (v, there, fit) = fit_at p made store made e.location (class_meant k b.value) fits h.1 in
    (of_type b.value (within v (class_meant k b.value) fit), types_in_scope p typed made k store fits scope env h.2)
  where
    of_type : (t : Ty) → (class_meant k t).0 < length p → IsType p t
    of_type (IsClass a) h = h
    of_type SelfType h = tt

    within : (v : Value) (d : ClassId) → Fits p made v d → d.0 < length p
    within Void d fit = fit.1
    within (Int n) d fit = below_within p typed.whole (class_number 2) d (basic_within p typed 2 (omega arith)) fit
    within (Truth x) d fit = below_within p typed.whole (class_number 3) d (basic_within p typed 3 (omega arith)) fit
    within (Str bytes) d fit = below_within p typed.whole (class_number 4) d (basic_within p typed 4 (omega arith)) fit
    within (Obj c i ls) d fit = below_within p typed.whole c d fit.0.within fit.1
