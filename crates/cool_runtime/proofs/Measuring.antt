-- The routine for `String.length` returns the Int that a String holds as its length.
use Rattle.std.proofs.Common.{◌≡◌, ℕ, ◌+◌, List, arith}
use Rattle.mips_isa.specs.declared.register.TheConstants.{A0}
use Rattle.mips_isa.specs.Bytes.{Bytes, word}
use Rattle.mips_isa.specs.Machine.{wrap}
use Rattle.mips_isa.specs.Calls.{State}
use Rattle.cool_runtime.specs.Reaches.{World, Reaches, stands}
use Rattle.cool_runtime.specs.Standing.{HasLines}
use Rattle.cool_runtime.specs.Walk.{beside}
use Rattle.cool_runtime.specs.Labels.{string_length}
use Rattle.cool_runtime.specs.Contents.{StringAt}
use Rattle.cool_runtime.specs.Machines.{At, Pointers, Console}
use Rattle.cool_runtime.specs.Routines.{length_lines}
use Rattle.cool_runtime.proofs.Runs.{here}
use Rattle.cool_runtime.proofs.Walking.{walk}
use Rattle.cool_runtime.proofs.Words.{load_eq}

module _ (w : World) where
  -- the Int of a String's length is the result; none is made
  pub length_gives : (p : Pointers) (m : Bytes) (c : Console) (s : State) (bytes : List ℕ) → HasLines w (w.place string_length) length_lines → At w p m c s → p.pc ≡ w.place string_length → StringAt w m p.gp p.acc bytes
      → Reaches w s 0 2 (stands (At w (record p { pc = p.ra; acc = word m (p.acc + 12) }) m c))
  length_gives p m c s bytes has at begins string =
      let laid = w.laid in
      let v : word s.core.memory (wrap (s.core.registers A0 + 12)) ≡ word m (p.acc + 12) = load_eq _ _ _ _ at.memory_is (let l = string.lies in omega arith) in
      walk w length_lines 0 s.core.registers s.core.pc s.core.memory (beside s) (w.place string_length) 0 0 _ has (omega arith)
      (omega arith, here w _ _ (record { numbers = omega arith; memory_is = at.memory_is; input_is = at.input_is; ended_is = at.ended_is; output_is = at.output_is }))
