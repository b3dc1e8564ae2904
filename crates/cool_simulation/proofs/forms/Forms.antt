-- The code of every expression without an empty block simulates its evaluation, if the code of all calls with fewer steps does.
use Rattle.std.proofs.Common.{ℕ}
use Rattle.cool_syntax.specs.declared.operator.CompareOp.TheVariants.{Less, LessEqual, Equal}
use Rattle.cool_syntax.specs.Tree.{Tree, Trees, Cases, Last, More, Without, With, NoCase, CaseOf}
use Rattle.cool_syntax.specs.Tree as trees
use Rattle.cool_syntax.specs.WrittenTrees.{IsWritable, AreWritable, AreCasesWritable}
use Rattle.cool_meaning.specs.Evaluation.{Call, Calls}
use Rattle.cool_meaning.proofs.SoundParts.{AllCallsSound}
use Rattle.cool_simulation.specs.Loadings.{Loading, IsLoaded}
use Rattle.cool_simulation.specs.Simulation.{Correct, AllCorrect, AllCallsCorrect}
use Rattle.cool_simulation.specs.Visits.{Visits}
use Rattle.cool_simulation.proofs.forms.Arguments.{none_correct, more_correct}
use Rattle.cool_simulation.proofs.forms.Arithmetic.{arith_correct}
use Rattle.cool_simulation.proofs.forms.Assignments.{assign_correct}
use Rattle.cool_simulation.proofs.forms.BasicCalls.{basic_correct}
use Rattle.cool_simulation.proofs.forms.Blocks.{EachCorrect, block_correct}
use Rattle.cool_simulation.proofs.forms.CaseCorrect.{case_correct}
use Rattle.cool_simulation.proofs.forms.CaseParts.{BodiesCorrect}
use Rattle.cool_simulation.proofs.forms.Comparisons.{less_correct, less_equal_correct}
use Rattle.cool_simulation.proofs.forms.Conditionals.{if_correct}
use Rattle.cool_simulation.proofs.forms.Constants.{int_correct, str_correct, bool_correct}
use Rattle.cool_simulation.proofs.forms.Dispatches.{dispatch_correct}
use Rattle.cool_simulation.proofs.forms.Equalities.{equal_correct}
use Rattle.cool_simulation.proofs.ground.EvaluationLater.{CallsLater}
use Rattle.cool_simulation.proofs.forms.Lets.{let_correct, let_default_correct}
use Rattle.cool_simulation.proofs.forms.Loops.{while_correct}
use Rattle.cool_simulation.proofs.forms.Names.{id_correct}
use Rattle.cool_simulation.proofs.forms.Negatives.{neg_correct}
use Rattle.cool_simulation.proofs.forms.NewCorrect.{new_correct}
use Rattle.cool_simulation.proofs.forms.StaticDispatches.{static_dispatch_correct}
use Rattle.cool_simulation.proofs.forms.Tests.{not_correct, is_void_correct}

module _ (l : Loading) (loaded : IsLoaded l) (calls : Calls) (begun_in : Call → Visits) (b : ℕ) (later : CallsLater calls) (sound : AllCallsSound l.table calls b) (correct : AllCallsCorrect l calls begun_in b) where
  mutual
    pub form_correct : (t : Tree) → IsWritable t → Correct l calls begun_in b t
    form_correct (trees.Id at name) h = id_correct l loaded calls begun_in b at name
    form_correct (trees.Int at value) h = int_correct l loaded calls begun_in b at value
    form_correct (trees.Str at bytes) h = str_correct l loaded calls begun_in b at bytes
    form_correct (trees.Bool at value) h = bool_correct l loaded calls begun_in b at value
    form_correct (trees.Assign at name t) h = assign_correct l loaded calls begun_in b sound later at name t (form_correct t h)
    form_correct (trees.Dispatch at t name ts) h = dispatch_correct l loaded (basic_correct l loaded) calls begun_in b later sound correct at t name ts (form_correct t h.0) (all_forms_correct ts h.1)
    form_correct (trees.StaticDispatch at t class name ts) h =
        static_dispatch_correct l loaded (basic_correct l loaded) calls begun_in b later sound correct at t class name ts (form_correct t h.0) (all_forms_correct ts h.1)
    form_correct (trees.If at t y n) h = if_correct l loaded calls begun_in b sound later at t y n (form_correct t h.0) (form_correct y h.1) (form_correct n h.2)
    form_correct (trees.While at t u) h = while_correct l loaded calls begun_in b sound later at t u (form_correct t h.0) (form_correct u h.1)
    form_correct (trees.Block at Last) h = absurd h
    form_correct (trees.Block at (More t ts)) h = block_correct l loaded calls begun_in b sound later at t ts (form_correct t h.0) (each_form_correct ts h.1)
    form_correct (trees.Let at name declared Without t) h = let_default_correct l loaded calls begun_in b sound later at name declared t (form_correct t h.1)
    form_correct (trees.Let at name declared (With u) t) h = let_correct l loaded calls begun_in b sound later at name declared u t (form_correct u h.0) (form_correct t h.1)
    form_correct (trees.Case at t NoCase) h = absurd h
    form_correct (trees.Case at t (CaseOf here name declared u cs)) h =
        case_correct l loaded calls begun_in b sound later at t (CaseOf here name declared u cs) (form_correct t h.0) (form_correct u h.1, bodies_correct cs h.2)
    form_correct (trees.New at class) h = new_correct l loaded calls begun_in b correct later at class
    form_correct (trees.IsVoid at t) h = is_void_correct l loaded calls begun_in b sound later at t (form_correct t h)
    form_correct (trees.Arith at op t u) h = arith_correct l loaded calls begun_in b sound later at op t u (form_correct t h.0) (form_correct u h.1)
    form_correct (trees.Neg at t) h = neg_correct l loaded calls begun_in b sound later at t (form_correct t h)
    form_correct (trees.Compare at Less t u) h = less_correct l loaded calls begun_in b sound later at t u (form_correct t h.0) (form_correct u h.1)
    form_correct (trees.Compare at LessEqual t u) h = less_equal_correct l loaded calls begun_in b sound later at t u (form_correct t h.0) (form_correct u h.1)
    form_correct (trees.Compare at Equal t u) h = equal_correct l loaded calls begun_in b sound later at t u (form_correct t h.0) (form_correct u h.1)
    form_correct (trees.Not at t) h = not_correct l loaded calls begun_in b sound later at t (form_correct t h)

    pub all_forms_correct : (ts : Trees) → AreWritable ts → AllCorrect l calls begun_in b ts
    all_forms_correct Last h = none_correct l loaded calls begun_in b later sound
    all_forms_correct (More t ts) h = more_correct l loaded calls begun_in b later sound t ts (form_correct t h.0) (all_forms_correct ts h.1)

    pub each_form_correct : (ts : Trees) → AreWritable ts → EachCorrect l calls begun_in b ts
    each_form_correct Last h = tt
    each_form_correct (More t ts) h = (form_correct t h.0, each_form_correct ts h.1)

    pub bodies_correct : (cs : Cases) → AreCasesWritable cs → BodiesCorrect l loaded calls begun_in b cs
    bodies_correct NoCase h = tt
    bodies_correct (CaseOf at name declared t cs) h = (form_correct t h.0, bodies_correct cs h.1)
