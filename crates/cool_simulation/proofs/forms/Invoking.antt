-- The call in a dispatch spends one step of the semantics, and then runs the method found, which is one of the compiled program's or a basic one.
use Rattle.std.proofs.Common.{◌≡◌, ℕ, zero, suc, ◌+◌, ◌-◌, ◌*◌, ◌<◌, ◌≤◌, List, [], ◌∷◌, length, get_or, map as each, Option, Some, None, refl, sym, ◌∙◌, subst, arith}
use Rattle.mips_isa.specs.Bytes.{Bytes}
use Rattle.mips_isa.specs.Calls.{State as Machine}
use Rattle.mips_isa.specs.Lines.{Name}
use Rattle.cool_syntax.specs.declared.place.Place.{Place}
use Rattle.cool_classes.specs.declared.class_id.ClassId.{ClassId}
use Rattle.cool_classes.specs.declared.method.MethodRef.{MethodRef}
use Rattle.cool_classes.specs.declared.method.MethodRef.TheVariants.{Basic, User}
use Rattle.cool_classes.specs.Chains.{Below}
use Rattle.cool_classes.specs.ClimbedChains.{chain}
use Rattle.cool_classes.specs.Features.{implementation, basic_formals, formals_of, HasMethod}
use Rattle.cool_classes.specs.LawfulTables.{MayInherit}
use Rattle.cool_classes.proofs.ChainsOfTables.{chain_is}
use Rattle.cool_classes.proofs.Methods.{found_has}
use Rattle.cool_rules.proofs.ChainsOfTables.{below_trans, chain_within}
use Rattle.cool_runtime.specs.Reaches.{Reaches, stands}
use Rattle.cool_runtime.specs.Contents.{StringAt}
use Rattle.cool_runtime.specs.Machines.{Pointers, Console}
use Rattle.cool_runtime.proofs.Runs.{wider}
use Rattle.cool_runtime.proofs.Pieces.{done}
use Rattle.cool_layout.specs.Labels.{method_label}
use Rattle.cool_meaning.specs.Values.{Value, State}
use Rattle.cool_meaning.specs.Meters.{spend, working}
use Rattle.cool_meaning.specs.Evaluation.{Call, Body, Calls, invoke}
use Rattle.cool_meaning.proofs.BasicClasses.{high_inherits}
use Rattle.cool_meaning.specs.FittingValues.{AllFit, meant}
use Rattle.cool_meaning.proofs.FittingValues.{fit_length}
use Rattle.cool_meaning.specs.FittingValues as fitting
use Rattle.cool_meaning.proofs.MethodsOfTables.{implementation_own, user_own}
use Rattle.cool_simulation.specs.Loadings.{Loading, IsLoaded, Watched}
use Rattle.cool_simulation.specs.Pictures.{Map}
use Rattle.cool_simulation.specs.Simulation.{Done, Runs, Way, Paused, AllCallsCorrect}
use Rattle.cool_simulation.specs.Visits.{Visits, Visit, behind_step, called}
use Rattle.cool_simulation.proofs.forms.CallLines.{AtPlace}
use Rattle.cool_simulation.proofs.forms.Received.{Received, BasicCorrect, called_of, received_at}
use Rattle.cool_simulation.proofs.ground.PartsOfRuns.{run_wider, run_behind}
use Rattle.cool_simulation.proofs.ground.Passages.{passes}

pub each_length : {A B : Type 0} (f : A → B) (xs : List A) → length (each f xs) ≡ length xs
each_length f [] = refl
each_length f (x ∷ xs) = let rest = each_length f xs in omega arith

-- a method of the program that a class has: its owner has it, and stands above each class below that one
pub callee : (l : Loading) → IsLoaded l → (j x owner : ClassId) (i : ℕ) (name : List ℕ) → implementation l.table (chain l.table x) name ≡ Some (User owner i) → x.0 < length l.table → Below l.table j x
    → HasMethod l.table (User owner i) × Below l.table j owner × MayInherit j
callee l loaded j x owner i name found within below =
    let p = l.table in
    let typed = loaded.buildable.typed in
    let (d, there, own) = implementation_own p (chain p x) name (User owner i) found in
    let d_within : d.0 < length p = chain_within p typed.whole x within (chain p x) (chain_is p x typed.whole.table within) d there in
    let (same, high) = user_own p d owner i name own in
    let below_owner : Below p j owner = subst (λ (y : ClassId). Below p j y) (sym same) (below_trans p j x d below (chain p x, chain_is p x typed.whole.table within, there)) in
    let has : HasMethod p (User owner i) = found_has p d name (User owner i) d_within own in
    let plain : MayInherit j = high_inherits p typed j owner below_owner (subst (λ (y : ClassId). 5 ≤ y.0) (sym same) high) in
    (has, below_owner, plain)

module _ (l : Loading) (loaded : IsLoaded l) (basics : BasicCorrect l) (calls : Calls) (begun_in : Call → Visits) (b : ℕ) (correct : AllCallsCorrect l calls begun_in b) where
  -- the method runs
  invoked : (at : Place) (self : Value) (j x : ClassId) (vs : List Value) (made : fitting.World) (q : Pointers) (m : Bytes) (map : Map) (console : Console) (st : State) (s : Machine) (n : ℕ) (name : List ℕ) (file : Name) (method : MethodRef)
      → n < b → q.ra < 4294967296 → implementation l.table (chain l.table x) name ≡ Some method → x.0 < length l.table → Below l.table j x → AllFit l.table made vs (each (meant l.table j) (formals_of l.table method))
      → Received l j self vs made q m map console st s → q.pc ≡ l.world.place (method_label l.table method) → AtPlace l.world q m console file at.line s
      → StringAt l.world m q.gp (l.world.place file) (get_or l.files at.file []) → at.line < 2147483648
      → q.gp + 4 * (invoke l.table calls at self vs (Some method) st n).words ≤ l.world.top → l.world.low ≤ q.sp - (16 + 16 * (invoke l.table calls at self vs (Some method) st n).peak)
      → Way l (invoke l.table calls at self vs (Some method) st n).outcome → ((x : Visit) → called l.table calls begun_in self vs (Some method) st n x → Watched l.watch x)
      → Runs l s n (64 * (length vs + (invoke l.table calls at self vs (Some method) st n).work) + 51)
      (Done l (record q { pc = q.ra; sp = q.sp + 4 * length vs }) m map st (invoke l.table calls at self vs (Some method) st n).words) (invoke l.table calls at self vs (Some method) st n).outcome
  invoked at self j x vs made q m map console st s n name file (Basic method) less small_ra found within below args received begins placed string small heap stack way watched =
      basics method at self j vs made q m map console st s n received begins (subst (λ (a : ℕ). StringAt l.world m q.gp a (get_or l.files at.file [])) (sym placed.file_is) string) placed.line_is small
      (fit_length l.table made vs (each (meant l.table j) (basic_formals method)) args ∙ each_length (meant l.table j) (basic_formals method))
      (record { heap = heap; stack = omega arith; way = way })
  invoked at self j x vs made q m map console st s n name file (User owner i) less small_ra found within below args received begins placed string small heap stack way watched =
      let (has, below_owner, plain) = callee l loaded j x owner i name found within below in
      run_wider l (calls (Body owner i self vs) st n).outcome s n (64 * (calls (Body owner i self vs) st n).work + 17) (64 * (length vs + (calls (Body owner i self vs) st n).work) + 51) _ (omega arith)
      ((correct n less).body owner i self j vs made q m map console st s n (omega arith) has below_owner (called_of l j self vs made q m map console st s plain small_ra received) begins args
      (record { heap = heap; stack = omega arith; way = way }) watched)

  -- the step is spent by the lines of the call
  pub dispatched : (at : Place) (self : Value) (j x : ClassId) (vs : List Value) (made : fitting.World) (q : Pointers) (m : Bytes) (map : Map) (console : Console) (st : State) (s : Machine) (n ra : ℕ) (name : List ℕ) (file : Name)
      (o : Option MethodRef) → implementation l.table (chain l.table x) name ≡ o → n ≤ b → ra < 4294967296 → x.0 < length l.table → Below l.table j x
      → ((method : MethodRef) → implementation l.table (chain l.table x) name ≡ Some method → AllFit l.table made vs (each (meant l.table j) (formals_of l.table method)))
      → Received l j self vs made q m map console st s
      → ((method : MethodRef) → implementation l.table (chain l.table x) name ≡ Some method
      → Reaches l.world s 1 9 (stands (AtPlace l.world (record q { pc = l.world.place (method_label l.table method); ra = ra }) m console file at.line)))
      → StringAt l.world m q.gp (l.world.place file) (get_or l.files at.file []) → at.line < 2147483648
      → q.gp + 4 * (spend (working (length vs) (invoke l.table calls at self vs o)) st n).words ≤ l.world.top
      → l.world.low ≤ q.sp - (16 + 16 * (spend (working (length vs) (invoke l.table calls at self vs o)) st n).peak)
      → Way l (spend (working (length vs) (invoke l.table calls at self vs o)) st n).outcome → ((y : Visit) → behind_step (called l.table calls begun_in self vs o) st n y → Watched l.watch y)
      → Runs l s n (64 * (spend (working (length vs) (invoke l.table calls at self vs o)) st n).work + 60)
      (Done l (record q { pc = ra; sp = q.sp + 4 * length vs; ra = ra }) m map st (spend (working (length vs) (invoke l.table calls at self vs o)) st n).words)
      (spend (working (length vs) (invoke l.table calls at self vs o)) st n).outcome
  dispatched at self j x vs made q m map console st s zero ra name file o e le small_ra within below args received lines string small heap stack way watched =
      let at' = received.at in
      passes l s 0 60 _ (done l.world 60 s (Paused st) (record { output = at'.output_is ∙ received.shows.output; input = at'.input_is ∙ received.shows.input }))
  dispatched at self j x vs made q m map console st s (suc n) ra name file None e le small_ra within below args received lines string small heap stack way watched = tt
  dispatched at self j x vs made q m map console st s (suc n) ra name file (Some method) e le small_ra within below args received lines string small heap stack way watched =
      let r = invoke l.table calls at self vs (Some method) st n in
      let q' : Pointers = record q { pc = l.world.place (method_label l.table method); ra = ra } in
      run_behind l r.outcome s (suc n) n 9 (64 * (length vs + r.work) + 51) (64 * (length vs + r.work) + 60) _ _ (omega arith)
      (wider l.world s 1 (suc n - n) 9 9 _ (omega arith) (omega arith) (lines method e)) (λ t placed.
      invoked at self j x vs made q' m map console st t n name file method (omega arith) small_ra e within below (args method e)
      (received_at l j self vs made q m map console st s t (l.world.place (method_label l.table method)) ra received placed.at) refl placed string small heap stack way watched)
