-- In the code of each kind of expression, the machine reaches all expressions that its evaluation begins (`Shown`), if it does so in calls with fewer steps.
use Rattle.std.proofs.Common.{ℕ, ◌≡◌, None}
use Rattle.cool_syntax.specs.Tree.{Tree, Trees, Cases, Last, More, Without, With, NoCase, CaseOf}
use Rattle.cool_syntax.specs.Tree as trees
use Rattle.cool_syntax.specs.WrittenTrees.{IsWritable, AreWritable, AreCasesWritable}
use Rattle.cool_meaning.specs.Evaluation.{Call, Calls}
use Rattle.cool_meaning.proofs.SoundParts.{AllCallsSound}
use Rattle.cool_simulation.specs.Loadings.{Loading, IsLoaded}
use Rattle.cool_simulation.specs.Simulation.{AllCallsCorrect}
use Rattle.cool_simulation.specs.Shown.{AllCallsShown, AllShown}
use Rattle.cool_simulation.specs.Visits.{Visits}
use Rattle.cool_simulation.proofs.forms.Forms.{all_forms_correct, bodies_correct, each_form_correct, form_correct}
use Rattle.cool_simulation.proofs.ground.EvaluationLater.{CallsLater}
use Rattle.cool_simulation.proofs.shown.Blocks.{EachShown, block_shown}
use Rattle.cool_simulation.proofs.shown.Cases.{BodiesShown, case_shown}
use Rattle.cool_simulation.proofs.shown.Conditionals.{if_shown}
use Rattle.cool_simulation.proofs.shown.Dispatches.{dispatch_shown, static_dispatch_shown}
use Rattle.cool_simulation.proofs.shown.Lets.{let_default_shown, let_shown}
use Rattle.cool_simulation.proofs.shown.Loops.{while_shown}
use Rattle.cool_simulation.proofs.shown.News.{new_shown}
use Rattle.cool_simulation.proofs.shown.OnePart.{assign_shown, bool_shown, id_shown, int_shown, is_void_shown, neg_shown, not_shown, str_shown}
use Rattle.cool_simulation.proofs.shown.TwoOperands.{arith_shown, compare_shown}

module _ (l : Loading) (loaded : IsLoaded l) (none : l.watch ≡ None) (calls : Calls) (begun_in : Call → Visits) (b : ℕ) (later : CallsLater calls) (sound : AllCallsSound l.table calls b) (correct : AllCallsCorrect l calls begun_in b)
    (shown : AllCallsShown l calls begun_in b) where
  mutual
    pub form_shown : (t : Tree) → IsWritable t → AllShown l calls begun_in b t
    form_shown (trees.Id at name) h = id_shown l loaded none calls begun_in b sound at name
    form_shown (trees.Int at value) h = int_shown l loaded none calls begun_in b sound at value
    form_shown (trees.Str at bytes) h = str_shown l loaded none calls begun_in b sound at bytes
    form_shown (trees.Bool at value) h = bool_shown l loaded none calls begun_in b sound at value
    form_shown (trees.Assign at name t) h = assign_shown l loaded none calls begun_in b sound at name t (form_shown t h)
    form_shown (trees.Dispatch at t name ts) h =
        dispatch_shown l loaded none calls begun_in b sound later shown at t name ts (form_correct l loaded calls begun_in b later sound correct t h.0) (all_forms_correct l loaded calls begun_in b later sound correct ts h.1)
        (each_form_correct l loaded calls begun_in b later sound correct ts h.1) (form_shown t h.0) (each_form_shown ts h.1) correct
    form_shown (trees.StaticDispatch at t class name ts) h =
        static_dispatch_shown l loaded none calls begun_in b sound later shown at t class name ts (form_correct l loaded calls begun_in b later sound correct t h.0) (all_forms_correct l loaded calls begun_in b later sound correct ts h.1)
        (each_form_correct l loaded calls begun_in b later sound correct ts h.1) (form_shown t h.0) (each_form_shown ts h.1) correct
    form_shown (trees.If at t y n) h = if_shown l loaded none calls begun_in b sound later at t y n (form_correct l loaded calls begun_in b later sound correct t h.0) (form_shown t h.0) (form_shown y h.1) (form_shown n h.2)
    form_shown (trees.While at t u) h =
        while_shown l loaded none calls begun_in b sound later at t u (form_correct l loaded calls begun_in b later sound correct t h.0) (form_correct l loaded calls begun_in b later sound correct u h.1) (form_shown t h.0) (form_shown u h.1)
    form_shown (trees.Block at Last) h = absurd h
    form_shown (trees.Block at (More t ts)) h =
        block_shown l loaded none calls begun_in b sound later at (More t ts) (form_correct l loaded calls begun_in b later sound correct t h.0, each_form_correct l loaded calls begun_in b later sound correct ts h.1) (form_shown t h.0, each_form_shown ts h.1)
    form_shown (trees.Let at name declared Without t) h = let_default_shown l loaded none calls begun_in b sound later at name declared t (form_shown t h.1)
    form_shown (trees.Let at name declared (With u) t) h = let_shown l loaded none calls begun_in b sound later at name declared u t (form_correct l loaded calls begun_in b later sound correct u h.0) (form_shown u h.0) (form_shown t h.1)
    form_shown (trees.Case at t NoCase) h = absurd h
    form_shown (trees.Case at t (CaseOf here name declared u cs)) h =
        case_shown l loaded none calls begun_in b sound later at t (CaseOf here name declared u cs) (form_correct l loaded calls begun_in b later sound correct t h.0)
        (form_correct l loaded calls begun_in b later sound correct u h.1, bodies_correct l loaded calls begun_in b later sound correct cs h.2) (form_shown t h.0) (form_shown u h.1, bodies_shown cs h.2)
    form_shown (trees.New at class) h = new_shown l loaded none calls begun_in b correct later shown sound at class
    form_shown (trees.IsVoid at t) h = is_void_shown l loaded none calls begun_in b sound at t (form_shown t h)
    form_shown (trees.Arith at op t u) h = arith_shown l loaded none calls begun_in b sound later at op t u (form_correct l loaded calls begun_in b later sound correct t h.0) (form_shown t h.0) (form_shown u h.1)
    form_shown (trees.Neg at t) h = neg_shown l loaded none calls begun_in b sound at t (form_shown t h)
    form_shown (trees.Compare at op t u) h = compare_shown l loaded none calls begun_in b sound later at op t u (form_correct l loaded calls begun_in b later sound correct t h.0) (form_shown t h.0) (form_shown u h.1)
    form_shown (trees.Not at t) h = not_shown l loaded none calls begun_in b sound at t (form_shown t h)

    each_form_shown : (ts : Trees) → AreWritable ts → EachShown l calls begun_in b ts
    each_form_shown Last h = tt
    each_form_shown (More t ts) h = (form_shown t h.0, each_form_shown ts h.1)

    bodies_shown : (cs : Cases) → AreCasesWritable cs → BodiesShown l calls begun_in b cs
    bodies_shown NoCase h = tt
    bodies_shown (CaseOf at name declared t cs) h = (form_shown t h.0, bodies_shown cs h.1)
