-- In the run of a loaded program, the machine reaches the initial values of the new Main object, and then the body of `main`, each in the correct state
-- (`Shown`).
use Rattle.std.proofs.Common.{◌≡◌, ℕ, zero, suc, ◌+◌, ◌*◌, List, [], length, Option, Some, sym, ap, ◌∙◌, refl, subst, arith, None}
use Rattle.std.specs.Prelude.{codes, max}
use Rattle.mips_isa.specs.Calls.{State as Machine}
use Rattle.cool_syntax.specs.Bare.{nowhere}
use Rattle.cool_classes.specs.declared.class_id.ClassId.{ClassId}
use Rattle.cool_classes.specs.declared.method.MethodRef.{MethodRef}
use Rattle.cool_classes.specs.declared.method.MethodRef.TheVariants.{User}
use Rattle.cool_classes.specs.ClimbedChains.{chain}
use Rattle.cool_classes.specs.Features.{implementation}
use Rattle.cool_rules.proofs.ChainsOfTables.{below_itself}
use Rattle.cool_runtime.specs.Machines.{At, Pointers, Console}
use Rattle.cool_meaning.specs.Values.{Value, Void, State, start}
use Rattle.cool_meaning.specs.Meters.{Outcome, DispatchVoid, Metered, Val, join, spend, working}
use Rattle.cool_meaning.specs.SourceRun.{Run, run, run_of}
use Rattle.cool_meaning.specs.Evaluation.{Body, calls_within, class_or, invoke, make}
use Rattle.cool_meaning.specs.Lookups.{class_made}
use Rattle.cool_meaning.specs.FittingValues.{Fits}
use Rattle.cool_meaning.proofs.SoundComputations.{IsFine, NotStuck}
use Rattle.cool_meaning.proofs.SoundParts.{make_sound}
use Rattle.cool_meaning.proofs.SoundRuns.{never_stuck, within_sound}
use Rattle.cool_simulation.specs.Loadings.{Loading, IsLoaded}
use Rattle.cool_simulation.specs.MainRun.{RunRoom, Starts}
use Rattle.cool_simulation.specs.Pictures.{Map}
use Rattle.cool_simulation.specs.Simulation.{AllCallsCorrect, Done, Shown}
use Rattle.cool_simulation.specs.Shown.{AllCallsShown, Comes}
use Rattle.cool_simulation.specs.Visits.{Visit, begun_within, behind, behind_step, called as called_begun, dispatched, program_begun}
use Rattle.cool_simulation.proofs.ground.DataHere.{prototype_here}
use Rattle.cool_simulation.proofs.theorem.MainCall as main
use Rattle.cool_simulation.proofs.theorem.MainNames.{main_class, main_found, main_has, main_made, main_main_is, main_plain}
use Rattle.cool_simulation.proofs.shown.Comings.{Ample, ample_as, ample_first, ample_less, ample_then, cases, comes_after, comes_behind, value_behind}
use Rattle.cool_simulation.proofs.shown.News.{made_shown}
use Rattle.cool_simulation.proofs.ground.Passages.{unwatched}

module _ (l : Loading) (is : IsLoaded l) (none : l.watch ≡ None) (n : ℕ) (correct : AllCallsCorrect l (calls_within l.table n) (begun_within l.table n) n) (shown : AllCallsShown l (calls_within l.table n) (begun_within l.table n) n) (input : List ℕ) (q : Pointers) (map : Map)
    (console : Console) (s : Machine) (starts : Starts l input q map console s) where
  abbrev class : ClassId
  class = is.buildable.typed.lawful.main.class

  abbrev object : Value
  object = main.object l is n correct input q map console s starts

  -- `Shown` for `main`, after the new object
  main_shown : (t : State) (left : ℕ) (u : Machine) (d : Done l (record q { pc = q.pc + 16 }) l.memory map (start input) (make l.table (calls_within l.table n) (Some class) (start input) n).words object t u)
      (fine : IsFine l.table [] n (λ w y. Fits l.table w y class) object t left) (x : Visit) → Ample l (record q { gp = d.gp }) 12 (main.after_new l is n correct object t left)
      → behind_step (called_begun l.table (calls_within l.table n) (begun_within l.table n) object [] (implementation l.table (chain l.table class) (codes "main"))) t left x → Comes l.world u (Shown l x)
  main_shown t zero u d fine x ample h = absurd h
  main_shown t (suc k) u d fine x ample h =
      let p = l.table in
      let typed = is.buildable.typed in
      let calls = calls_within p n in
      let index = (main_class p typed).index in
      let method : MethodRef = User class index in
      let q1 : Pointers = main.q1 l is n correct input q map console s starts t (suc k) u d fine in
      let fewer = fine.fewer in
      let called : (o : Option MethodRef) → Metered Value = λ o. join 0 0 0 (spend (working (length {A = Value} []) (invoke p calls nowhere object [] o)) t (suc k)) in
      let ample1 : Ample l (record q { gp = d.gp }) 12 (called (Some method)) = subst (λ o. Ample l (record q { gp = d.gp }) 12 (called o)) (main_found p typed) ample in
      let r = calls (Body class index object []) t k in
      let ample2 : Ample l q1 12 r = ample_as l (record q { gp = d.gp }) q1 12 12 (called (Some method)) r refl (omega arith) (omega arith) (omega arith) (omega arith) ample1 in
      let h1 = subst (λ o. behind_step (called_begun p calls (begun_within p n) object [] o) t (suc k) x) (main_found p typed) h in
      comes_behind l.world u 1 1 (At l.world q1 d.memory d.console) (Shown l x) (main.jumps l is n correct input q map console s starts t (suc k) u d fine)
      (λ u1 at. (shown k (omega arith)).body class index object class [] fine.world q1 d.memory d.map' d.console t u1 k x (omega arith) (main_has p typed) (below_itself p typed.whole class typed.lawful.main.within)
      (main.called l is n correct input q map console s starts t (suc k) u d fine u1 at) (sym (ap l.world.place (main_main_is p typed))) (main.no_formals l is n correct input q map console s starts t (suc k) u d fine) ample2.room ample2.alive h1)

  pub program_shown : RunRoom l.world (run l.table l.files input n) → (x : Visit) → program_begun l.table input n x → Comes l.world s (Shown l x)
  program_shown run_room x visit =
      let p = l.table in
      let typed = is.buildable.typed in
      let calls = calls_within p n in
      let st = start input in
      let within = typed.lawful.main.within in
      let M = make p calls (Some class) st n in
      let F = main.after_new l is n correct in
      let X = main.X l is n correct input q map console s starts (Some class) in
      let run_x = main.run_x l is n correct input q map console s starts (Some class) in
      let is_run : run p l.files input n ≡ run_x = main.run_is l is n correct input q map console s starts ∙ ap (main.run_x l is n correct input q map console s starts) (main_made p typed) in
      let room1 : RunRoom l.world run_x = subst (RunRoom l.world) is_run run_room in
      let meters = main.run_meters p l.files X.outcome (1 + (0 + X.work)) (0 + X.words) (1 + max 0 (0 + X.peak)) in
      let heap = room1.heap in
      let stack = room1.stack in
      let gp = starts.gp in
      let sp = starts.sp in
      let words = meters.1 in
      let peak = meters.2 in
      let ample : Ample l q 12 X = record {
        room = record { heap = omega arith; stack = omega arith; way = main.run_way l X.outcome (1 + (0 + X.work)) (0 + X.words) (1 + max 0 (0 + X.peak)) room1.way };
        alive = λ e. never_stuck p typed l.files input n (ap (λ (r : Run). r.end) is_run ∙ ap (λ (o : Outcome Value). (run_of p l.files o (1 + (0 + X.work)) (0 + X.words) (1 + max 0 (0 + X.peak))).end) e);
      } in
      let F_later = main.after_later l is n correct input q map console s starts in
      let ample0 : Ample l q 0 M = ample_less l q q 12 0 M (omega arith) (omega arith) (ample_first l M F q 12 F_later ample) in
      let proto = prototype_here l is l.memory map st q.gp q.sp starts.at.numbers.gp_from starts.pictures class within in
      cases visit
      (λ h. made_shown l is none calls (begun_within p n) n correct (main.within_later p n) shown class within (main_plain p typed) [] q l.memory map console st s (main.making l is n correct input q map console s starts) (q.pc + 16) 20 n x
      (class_made p Void (codes "Main")) (main_made p typed) (main.ra_fits l is n correct input q map console s starts) (omega arith) (main.creates l is n correct input q map console s starts proto.lies proto.head.size_is)
      (subst (λ (o : Option ClassId). Ample l q 0 (make p calls o st n)) (sym (main_made p typed)) ample0) h)
      (λ (v, t, left, e, h).
      let e1 : M.outcome ≡ Val v t left = subst (λ (o : Option ClassId). (make p calls o st n).outcome ≡ Val v t left) (main_made p typed) e in
      let sound = (make_sound p typed calls n (within_sound p typed n) [] class within).sound st n (omega arith) tt in
      let fine : IsFine p [] n (λ w y. Fits p w y class) v t left = subst (NotStuck p [] n (λ w y. Fits p w y class)) e1 sound in
      let same : object ≡ v = main.object_given p calls class st n v t left (main_plain p typed) e1 in
      comes_after l none M.outcome s n (64 * M.work) (λ v t u. Done l (record q { pc = q.pc + 16 }) l.memory map st M.words v t u) v t left (Shown l x) e1 (main.made l is n correct input q map console s starts ample0.room (λ y h. unwatched l none y))
      (λ u d.
      let V = λ (w : Value). behind (class_or (DispatchVoid nowhere) w) (λ c. dispatched p calls (begun_within p n) c (codes "main") w []) in
      let used = d.gp_to in
      let rest : Ample l (record q { gp = d.gp }) 12 (F v t left) = ample_then l M F q (record q { gp = d.gp }) 12 12 v t left e1 ample used (omega arith) in
      onward v t left u same d fine rest x h))
    where
      onward : (v : Value) (t : State) (left : ℕ) (u : Machine) → object ≡ v → (d : Done l (record q { pc = q.pc + 16 }) l.memory map (start input) (make l.table (calls_within l.table n) (Some class) (start input) n).words v t u)
          → IsFine l.table [] n (λ w y. Fits l.table w y class) v t left → Ample l (record q { gp = d.gp }) 12 (main.after_new l is n correct v t left) → (x : Visit)
          → behind (class_or (DispatchVoid nowhere) v) (λ c. dispatched l.table (calls_within l.table n) (begun_within l.table n) c (codes "main") v []) t left x → Comes l.world u (Shown l x)
      onward v t left u same =
          subst (λ (w : Value). (d : Done l (record q { pc = q.pc + 16 }) l.memory map (start input) (make l.table (calls_within l.table n) (Some class) (start input) n).words w t u)
          → IsFine l.table [] n (λ w' y. Fits l.table w' y class) w t left → Ample l (record q { gp = d.gp }) 12 (main.after_new l is n correct w t left) → (x : Visit)
          → behind (class_or (DispatchVoid nowhere) w) (λ c. dispatched l.table (calls_within l.table n) (begun_within l.table n) c (codes "main") w []) t left x → Comes l.world u (Shown l x)) same
          (λ d fine ample x h. main_shown t left u d fine x ample
          (value_behind (class_or (DispatchVoid nowhere) object) (λ c. dispatched l.table (calls_within l.table n) (begun_within l.table n) c (codes "main") object []) t left x h))
