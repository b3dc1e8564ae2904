-- The routines `out_int` and `out_string` write an Int in decimal and the bytes of a String to the output, and return to their caller.
use Rattle.std.proofs.Common.{◌≡◌, ℕ, ◌+◌, ◌≤◌, List, ◌++◌, ap, ◌∙◌, arith}
use Rattle.std.specs.Prelude.{Some}
use Rattle.std.specs.Fmt.{signed_decimal}
use Rattle.mips_isa.specs.Bytes.{Bytes, word}
use Rattle.mips_isa.specs.Machine.{wrap}
use Rattle.mips_isa.specs.Calls.{State, signed, string_at}
use Rattle.cool_runtime.specs.Reaches.{World, Reaches, stands}
use Rattle.cool_runtime.specs.Standing.{HasLines}
use Rattle.cool_runtime.specs.Walk.{beside, PrintInt, PrintString}
use Rattle.cool_runtime.specs.Labels.{out_int, out_string}
use Rattle.cool_runtime.specs.Contents.{IntAt, StringAt}
use Rattle.cool_runtime.specs.Machines.{At, Pointers, Console, wrote}
use Rattle.cool_runtime.specs.Routines.{out_int_lines, out_string_lines}
use Rattle.cool_runtime.proofs.Runs.{here}
use Rattle.cool_runtime.proofs.Walking.{walk}
use Rattle.cool_runtime.proofs.Words.{load_eq}
use Rattle.cool_runtime.proofs.Strings.{printable}

module _ (w : World) where
  pub out_int_writes : (p : Pointers) (m : Bytes) (c : Console) (s : State) (v : ℕ)
      → HasLines w (w.place out_int) out_int_lines → At w p m c s → p.pc ≡ w.place out_int → p.sp + 4 ≤ 2147483648 → IntAt w m p.gp (word m p.sp) v
      → Reaches w s 0 8 (stands (At w (record p { pc = p.ra; sp = p.sp + 4 }) m (wrote c (signed_decimal (signed v)))))
  out_int_writes p m c s v has at begins room int =
      let laid = w.laid in
      let m0 = s.core.memory in
      let r = s.core.registers in
      let object : word m0 (wrap (r 29 + 0)) ≡ word m p.sp = load_eq _ _ _ _ at.memory_is (omega arith) in
      let value : word m0 (wrap (word m0 (wrap (r 29 + 0)) + 12)) ≡ v = load_eq _ _ _ _ at.memory_is (omega arith) ∙ int.value in
      walk w out_int_lines 0 r s.core.pc m0 (beside s) (w.place out_int) 0 0 _ has (omega arith) (
        omega arith,
        (
          omega arith,
          (
            PrintInt,
            (
              omega arith,
              here w _ _ (record {
                numbers = omega arith;
                memory_is = at.memory_is;
                input_is = at.input_is;
                ended_is = at.ended_is;
                output_is = ap (λ n. s.output ++ signed_decimal (signed n)) value ∙ ap (λ o. o ++ signed_decimal (signed v)) at.output_is;
              }),
            ),
          ),
        ),
      )

  pub out_string_writes : (p : Pointers) (m : Bytes) (c : Console) (s : State) (bytes : List ℕ)
      → HasLines w (w.place out_string) out_string_lines → At w p m c s → p.pc ≡ w.place out_string → p.sp + 4 ≤ 2147483648 → StringAt w m p.gp (word m p.sp) bytes
      → Reaches w s 0 8 (stands (At w (record p { pc = p.ra; sp = p.sp + 4 }) m (wrote c bytes)))
  out_string_writes p m c s bytes has at begins room string =
      let laid = w.laid in
      let m0 = s.core.memory in
      let r = s.core.registers in
      let object : word m0 (wrap (r 29 + 0)) ≡ word m p.sp = load_eq _ _ _ _ at.memory_is (omega arith) in
      let place : wrap (word m0 (wrap (r 29 + 0)) + 16) ≡ word m p.sp + 16 = omega arith in
      let found : string_at w.segments m0 (wrap (word m0 (wrap (r 29 + 0)) + 16)) ≡ Some bytes =
      ap (λ f. string_at w.segments f (wrap (word m0 (wrap (r 29 + 0)) + 16))) at.memory_is ∙ ap (string_at w.segments m) place
      ∙ printable w m p.gp (word m p.sp) bytes at.numbers.gp_to string in
      walk w out_string_lines 0 r s.core.pc m0 (beside s) (w.place out_string) 0 0 _ has (omega arith) (
        omega arith,
        (
          PrintString bytes,
          (
            omega arith,
            found,
            here w _ _ (record {
              numbers = omega arith;
              memory_is = at.memory_is;
              input_is = at.input_is;
              ended_is = at.ended_is;
              output_is = ap (λ o. o ++ bytes) at.output_is;
            }),
          ),
        ),
      )
