-- A run begins at the configuration that makes a new object of class Main and then calls its method `main`.
use Rattle.std.proofs.Common.{◌≡◌, ℕ, List, [], ◌∷◌, ◌++◌, None, Ok, Err, inl, sym, ◌∙◌, refl, subst, append-nil, arith}
use Rattle.std.specs.Prelude.{codes}
use Rattle.cool_ports.specs.SinkPuts.{SinkSeen, seen}
use Rattle.cool_syntax.specs.Bare.{nowhere}
use Rattle.cool_classes.specs.Chains.{Class}
use Rattle.cool_rules.specs.Rules.{class_named}
use Rattle.cool_meaning.specs.Values.{start}
use Rattle.cool_eval.specs.declared.ending.Ending.{Ending}
use Rattle.cool_eval.specs.declared.ending.Ending.TheVariants as ending
use Rattle.cool_eval.specs.declared.frame.Focus.{Focus}
use Rattle.cool_eval.specs.declared.machine.Machine.{Machine}
use Rattle.cool_eval.specs.Configurations.{frames_of, stack_of, state_of, Comes}
use Rattle.cool_eval.specs.Counts.{FaultsInCalls}
use Rattle.cool_eval.specs.Devices.{Reaches, sink_after}
use Rattle.cool_eval.specs.StackMachine.{Receiver, Next, begin_new, begun, step}
use Rattle.cool_eval.specs.Running.{outcome_of, puts_of, IsNeverStuck, RunsShort, Ended}
use Rattle.cool_eval.proofs.PutsOfSteps.{sink_still}
use Rattle.cool_eval.proofs.RunSoFar.{SoFar, nothing_before, reached_on, reached_end, short_here, main_focus, main_frames, main_reached}

-- no step has put anything
none_put : (p : List Class) (input : List ℕ) (before : List (List ℕ)) → IsNeverStuck (outcome_of p input)
    → before ≡ before ++ puts_of (outcome_of p input) 0
none_put p input before never = sym (append-nil before)

-- memory ran out before the first step
pub short_at_start : (p : List Class) (steps : ℕ) (first : SinkSeen) (input : List ℕ)
    → RunsShort (outcome_of p input) steps first input first
short_at_start p steps first input =
    short_here p input 0 main_focus main_frames (start input) (main_reached p input) steps steps (omega arith) first first first.puts (none_put p input first.puts) [] input refl (nothing_before first) refl

-- after the first step the sink is as it was
quiet_start : (first : SinkSeen) → first ≡ sink_after first [] []
quiet_start first = nothing_before first ∙ sink_still first []

-- the result of a step that touches neither source nor sink, over a sink without puts
comes_reaches : (p : List Class) (e : Ending) (m : Machine) (first : SinkSeen) (input : List ℕ) (next : Next)
    → Comes p (Err e) m input [] next → Reaches p (Err e) m (seen first.held first.puts) [] input input first next
comes_reaches p (ending.Error e) m first input next is = ([], quiet_start first, is)
comes_reaches p ending.StepLimit m first input next is = ([], quiet_start first, is)
comes_reaches p ending.Stuck m first input next is = is
comes_reaches p ending.Memory m first input next is = (nothing_before first, inl refl)
comes_reaches p ending.ReadFault m first input next is = absurd is
comes_reaches p ending.WriteFault m first input next is = absurd is

comes_quietly : (p : List Class) (e : Ending) (m : Machine) (input : List ℕ) (next : Next) (left : ℕ) → Comes p (Err e) m input [] next → FaultsInCalls {A = Focus} (Err e) left m.left
comes_quietly p (ending.Error e) m input next left is = tt
comes_quietly p ending.StepLimit m input next left is = tt
comes_quietly p ending.Stuck m input next left is = tt
comes_quietly p ending.Memory m input next left is = tt
comes_quietly p ending.ReadFault m input next left is = absurd is
comes_quietly p ending.WriteFault m input next left is = absurd is

-- A machine with no frame, whose store is empty and which has all steps left.
module _ (p : List Class) (steps : ℕ) (first : SinkSeen) (input : List ℕ) (before : Machine) (main method : List ℕ)
    (main_is : main ≡ codes "Main") (method_is : method ≡ codes "main")
    (frames : before.frames.items ≡ []) (stored : before.store.values ≡ []) (drawn : before.store.drawn ≡ 0)
    (left : before.left ≡ steps) where
  abbrev main_begun : Next
  main_begun =
      begin_new p (class_named p main) (Receiver nowhere None method [] ∷ frames_of p before) (state_of before input []) before.left

  main_same : main_begun ≡ step p main_focus main_frames (start input) steps
  unfolding stack_of step begun
  main_same = rw (main_is, method_is, frames, stored, drawn, left) refl

  pub so_begun : (f : Focus) (m : Machine) → Comes p (Ok f) m input [] main_begun → SoFar p steps first input f m input first
  so_begun f m is =
      reached_on p steps 0 steps first first.puts input main_focus main_frames (start input) (main_reached p input) (omega arith) (none_put p input first.puts) f m input input first
      ([], quiet_start first, sym main_same ∙ is)

  pub begun_ends : (e : Ending) (m : Machine) → Comes p (Err e) m input [] main_begun
      → Ended (outcome_of p input) steps first (Err e) input first
  begun_ends e m is =
      let next : Next = step p main_focus main_frames (start input) steps in
      reached_end p input 0 main_focus main_frames (start input) (main_reached p input) steps steps (omega arith) first first first.puts (none_put p input first.puts) [] input refl e m (comes_quietly p e m input main_begun steps is)
      (comes_reaches p e m first input next (subst (λ (n : Next). Comes p (Err e) m input [] n) main_same is))
