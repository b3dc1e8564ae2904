-- The interpreter's list of frames is the machine's stack in reverse order: a frame that is added at the end of the list is the first frame of the stack.
use Rattle.std.proofs.Common.{◌≡◌, List, [], ◌∷◌, ◌++◌, ap, refl}
use Rattle.cool_classes.specs.Chains.{Class}
use Rattle.cool_eval.specs.declared.frame.Frame.{Frame}
use Rattle.cool_eval.specs.Configurations.{frame_of, stack_of}
use Rattle.cool_eval.specs.StackMachine as machine

-- a frame at the end is the first that is seen
pub stack_more : (p : List Class) (fs : List Frame) (f : Frame) → stack_of p (fs ++ f ∷ []) ≡ frame_of p f ∷ stack_of p fs
unfolding stack_of
stack_more p [] f = refl
stack_more p (x ∷ fs) f = ap (λ (gs : List machine.Frame). gs ++ frame_of p x ∷ []) (stack_more p fs f)
