-- Each frame that does not wait for the receiver of a dispatch is one that calls no method when it gets its value (`IsQuiet`).
use Rattle.std.proofs.Common.{◌≡◌, ℕ, List, Option, Vec, refl}
use denote.Ref.{Bor}
use Rattle.cool_syntax.specs.declared.place.Place.{Place}
use Rattle.cool_eval.specs.declared.value.Value.{Value}
use Rattle.cool_eval.specs.declared.frame.Frame.{Frame}
use Rattle.cool_eval.specs.declared.frame.Frame.TheVariants as held
use Rattle.cool_eval.specs.Configurations.{IsQuiet}

-- a frame that is none of a call is quiet
pub quiet_else : (f : Frame) → ((at : Place) (class : Option (Bor (List ℕ))) (name : Bor (List ℕ)) (given : Vec Value _) → f ≡ held.Receiver at class name given → ⊥) → IsQuiet f
quiet_else (held.Receiver at class name given) no_call = absurd (no_call at class name given refl)
quiet_else _ no_call = tt
