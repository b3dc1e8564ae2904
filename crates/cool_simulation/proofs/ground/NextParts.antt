-- After the code of a subexpression, the machine satisfies the preconditions of the next subexpression's code, with the first value perhaps pushed.
use Rattle.std.proofs.Common.{◌≡◌, ℕ, ◌+◌, ◌-◌, ◌≤◌, List, length, refl, sym, subst, arith}
use Rattle.mips_isa.specs.Bytes.{Bytes, set_word}
use Rattle.mips_isa.specs.Calls.{State as Machine}
use Rattle.cool_syntax.specs.Tree.{Tree}
use Rattle.cool_classes.specs.declared.class_id.ClassId.{ClassId}
use Rattle.cool_classes.specs.declared.class_id.Ty.{Ty}
use Rattle.cool_rules.specs.Conformance.{class_of as class_meant}
use Rattle.cool_rules.specs.Scopes.{Binding}
use Rattle.cool_rules.specs.Typing.{HasType}
use Rattle.cool_runtime.specs.Machines.{At, Pointers, Console}
use Rattle.cool_codegen.specs.Variables.{Named}
use Rattle.cool_meaning.specs.Values.{Value, State, Environment}
use Rattle.cool_meaning.specs.Meters.{Val}
use Rattle.cool_meaning.specs.Evaluation.{Calls, eval}
use Rattle.cool_meaning.specs.FittingValues.{Fits, AllFit, Scene}
use Rattle.cool_meaning.specs.FittingValues as fitting
use Rattle.cool_meaning.proofs.FittingValues as growing
use Rattle.cool_meaning.proofs.SoundComputations.{IsFine, NotStuck}
use Rattle.cool_meaning.proofs.SoundParts.{AllCallsSound}
use Rattle.cool_meaning.proofs.SoundEvaluation.{scene_later, eval_sound}
use Rattle.cool_simulation.specs.Loadings.{Loading, IsLoaded}
use Rattle.cool_simulation.specs.Pictures.{Map, Grown}
use Rattle.cool_simulation.specs.Simulation.{Begins, Done, Variables, IsVariableAt}
use Rattle.cool_simulation.proofs.ground.PicturesStay.{pic_stays, staying_same, pictures_same, pictures_lower}
use Rattle.cool_simulation.proofs.ground.PartsBehind.{gone_of, pic_gone, push_same}
use Rattle.cool_simulation.proofs.ground.BoundVariables.{within_store}

-- variables stay at home where the map grew
pub variables_gone : (map map' : Map) (drawn located gp sp : ℕ) (q q' : Pointers) (scope : List Binding) (vs : List Named) (env : Environment) → ((l : ℕ) → located ≤ l → map.home l ≡ 0) → Grown map map' drawn located gp sp
    → q'.fp ≡ q.fp → q'.self ≡ q.self → Variables map q scope vs env → Variables map' q' scope vs env
variables_gone map map' drawn located gp sp q q' scope vs env fresh grown same_fp same_self h = record {
  typed = h.typed;
  homes = λ name v found.
      let (l, there, some, at) = h.homes name v found in
      let same : map'.home l ≡ map.home l = grown.home l (within_store map.home located l fresh some) in (
        l,
        there,
        omega arith,
        subst (λ x. IsVariableAt q' v x) (sym same) (subst (λ x. IsVariableAt (record q' { fp = x }) v (map.home l)) (sym same_fp) (subst (λ x. IsVariableAt (record q' { fp = q.fp; self = x }) v (map.home l)) (sym same_self) at)),
      );
}

module _ (l : Loading) (loaded : IsLoaded l) (calls : Calls) (b : ℕ) (sound : AllCallsSound l.table calls b) (c k : ClassId) (self : Value) where
  -- The state after a part with a value: the store fits the objects made meanwhile, and a next part may begin.
  pub record Next (scope : List Binding) (vs : List Named) (env : Environment) (made : fitting.World) (type : Ty) (d : ℕ) (q : Pointers) (m : Bytes) (map : Map) (console : Console) (v : Value) (st : State) (left n : ℕ) (s : Machine) : Type 0 where
    pub made' : fitting.World
    pub later : growing.Grown made made'
    pub value_fits : Fits l.table made' v (class_meant k type)
    pub fewer : left ≤ n
    pub begins : Begins l c k self scope vs env made' d q m map console st s

  -- soundness of a part that comes to a value
  pub fine_of : (t : Tree) (scope : List Binding) (env : Environment) (made : fitting.World) (st t1 : State) (type : Ty) (n left : ℕ) (v : Value) → Scene l.table made c k self scope env → AllFit l.table made st.store made
      → HasType l.table c scope t type → n ≤ b → (eval l.table calls self env t st n).outcome ≡ Val v t1 left → IsFine l.table made n (λ w v. Fits l.table w v (class_meant k type)) v t1 left
  fine_of t scope env made st t1 type n left v scene fits has less e =
      subst (λ o. NotStuck l.table made n (λ w v. Fits l.table w v (class_meant k type)) o) e
      ((eval_sound l.table loaded.buildable.typed calls b sound c k self t made scope env type scene has).sound st n less fits)

  pub next : (t : Tree) (scope : List Binding) (vs : List Named) (env : Environment) (made : fitting.World) (type : Ty) (d : ℕ) (q : Pointers) (m : Bytes) (map : Map) (console : Console) (st t1 : State) (s u : Machine) (n left words pc : ℕ) (v : Value)
      → Begins l c k self scope vs env made d q m map console st s → HasType l.table c scope t type → n ≤ b → (eval l.table calls self env t st n).outcome ≡ Val v t1 left
      → (done : Done l (record q { pc = pc }) m map st words v t1 u)
      → Next scope vs env made type d (record q { pc = pc; gp = done.gp; acc = done.acc; ra = done.ra }) done.memory done.map' done.console v t1 left n u
  next t scope vs env made type d q m map console st t1 s u n left words pc v begins has less e done =
      let fine = fine_of t scope env made st t1 type n left v begins.scene begins.fits has less e in
      let gone = gone_of l (record q { pc = pc }) m map st words v t1 u done in
      record {
        made' = fine.world;
        later = fine.grown;
        value_fits = fine.value;
        fewer = fine.fewer;
        begins = record {
          at = done.at;
          shows = done.shows;
          pictures = done.pictures;
          variables = variables_gone map done.map' st.drawn (length st.store) q.gp q.sp q (record q { pc = pc; gp = done.gp; acc = done.acc; ra = done.ra }) scope vs env begins.pictures.fresh gone.grown refl refl begins.variables;
          self_is = pic_gone l.world m done.memory map done.map' st t1 q.gp done.gp q.sp words self q.self gone begins.self_is;
          depth = begins.depth;
          frame = begins.frame;
          scene = scene_later l.table made fine.world c k self scope env fine.grown begins.scene;
          fits = fine.store;
        };
      }

  -- other registers only
  pub begins_at : (scope : List Binding) (vs : List Named) (env : Environment) (made : fitting.World) (d : ℕ) (q : Pointers) (m : Bytes) (map : Map) (console : Console) (st : State) (s u : Machine) (pc acc ra : ℕ)
      → Begins l c k self scope vs env made d q m map console st s → At l.world (record q { pc = pc; acc = acc; ra = ra }) m console u
      → Begins l c k self scope vs env made d (record q { pc = pc; acc = acc; ra = ra }) m map console st u
  begins_at scope vs env made d q m map console st s u pc acc ra begins at = record {
    at = at;
    shows = begins.shows;
    pictures = begins.pictures;
    variables = record { typed = begins.variables.typed; homes = begins.variables.homes };
    self_is = begins.self_is;
    depth = begins.depth;
    frame = begins.frame;
    scene = begins.scene;
    fits = begins.fits;
  }

  -- a word was pushed
  pub begins_pushed : (scope : List Binding) (vs : List Named) (env : Environment) (made : fitting.World) (d : ℕ) (q : Pointers) (m : Bytes) (map : Map) (console : Console) (st : State) (s u : Machine) (pc : ℕ) → q.gp + 4 ≤ q.sp
      → Begins l c k self scope vs env made d q m map console st s → At l.world (record q { pc = pc; sp = q.sp - 4 }) (set_word m (q.sp - 4) q.acc) console u
      → Begins l c k self scope vs env made (d + 1) (record q { pc = pc; sp = q.sp - 4 }) (set_word m (q.sp - 4) q.acc) map console st u
  begins_pushed scope vs env made d q m map console st s u pc room begins at =
      let same = push_same l.world m q.gp q.sp q.acc room in
      let numbers = begins.at.numbers in
      let depth = begins.depth in
      record {
        at = at;
        shows = begins.shows;
        pictures = pictures_lower l.world l.table l.memory _ map st q.gp q.sp (q.sp - 4) (omega arith) (pictures_same l.world l.table l.memory m _ map st q.gp q.gp q.sp numbers.gp_from (omega arith) same begins.pictures);
        variables = record { typed = begins.variables.typed; homes = begins.variables.homes };
        self_is = pic_stays l.world m _ map map st.drawn st.drawn q.gp q.gp self q.self (omega arith) (omega arith) (staying_same l.world m _ map st.drawn q.gp q.sp same) begins.self_is;
        depth = omega arith;
        frame = begins.frame;
        scene = begins.scene;
        fits = begins.fits;
      }

  -- code that changed no store stands where it was
  pub begins_done : (scope : List Binding) (vs : List Named) (env : Environment) (made : fitting.World) (d : ℕ) (q : Pointers) (m : Bytes) (map : Map) (console : Console) (st : State) (s u : Machine) (pc words : ℕ) (v : Value)
      → Begins l c k self scope vs env made d q m map console st s → (done : Done l (record q { pc = pc }) m map st words v st u)
      → Begins l c k self scope vs env made d (record q { pc = pc; gp = done.gp; acc = done.acc; ra = done.ra }) done.memory done.map' done.console st u
  begins_done scope vs env made d q m map console st s u pc words v begins done =
      let gone = gone_of l (record q { pc = pc }) m map st words v st u done in
      record {
        at = done.at;
        shows = done.shows;
        pictures = done.pictures;
        variables = variables_gone map done.map' st.drawn (length st.store) q.gp q.sp q (record q { pc = pc; gp = done.gp; acc = done.acc; ra = done.ra }) scope vs env begins.pictures.fresh gone.grown refl refl begins.variables;
        self_is = pic_gone l.world m done.memory map done.map' st st q.gp done.gp q.sp words self q.self gone begins.self_is;
        depth = begins.depth;
        frame = begins.frame;
        scene = begins.scene;
        fits = begins.fits;
      }
