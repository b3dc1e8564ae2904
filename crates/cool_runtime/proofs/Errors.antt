-- Each routine for a run-time error writes the file, the line and the text of the error, and exits with status 3.
use Rattle.std.proofs.Common.{◌≡◌, ℕ, ◌+◌, ◌<◌, inl, List, ◌++◌, ap, ◌∙◌, arith, append_assoc}
use Rattle.std.specs.Prelude.{Some}
use Rattle.std.specs.Fmt.{signed_decimal}
use Rattle.mips_isa.specs.declared.register.TheConstants.{T8, T9}
use Rattle.mips_isa.specs.Bytes.{Bytes}
use Rattle.mips_isa.specs.Machine.{wrap}
use Rattle.mips_isa.specs.Calls.{State, signed, string_at}
use Rattle.mips_isa.specs.Lines.{Name}
use Rattle.cool_runtime.specs.Reaches.{World, Reaches, exits}
use Rattle.cool_runtime.specs.Standing.{HasLines}
use Rattle.cool_runtime.specs.Walk.{beside, PrintInt, PrintString, ExitWith}
use Rattle.cool_runtime.specs.Labels.{colon_text}
use Rattle.cool_runtime.specs.Contents.{StringAt, TextAt}
use Rattle.cool_runtime.specs.Machines.{At, Pointers, Console, EndsWith}
use Rattle.cool_runtime.specs.Routines.{error_lines}
use Rattle.cool_runtime.proofs.Walking.{walk}
use Rattle.cool_runtime.proofs.Strings.{printable, text_printable}

module _ (w : World) where
  pub error_ends : (name text : Name) (p : Pointers) (m : Bytes) (c : Console) (s : State) (file colon words : List ℕ) (line : ℕ) → HasLines w (w.place name) (error_lines name text) → At w p m c s → p.pc ≡ w.place name
      → StringAt w m p.gp (s.core.registers T8) file → s.core.registers T9 ≡ line → line < 4294967296 → TextAt w m (w.place colon_text) colon → TextAt w m (w.place text) words
      → Reaches w s 0 16 (exits 3 (EndsWith c (file ++ (colon ++ (signed_decimal (signed line) ++ words)))))
  error_ends name text p m c s file colon words line has at begins string line_is fits first last =
      let laid = w.laid in
      let m0 = s.core.memory in
      let r = s.core.registers in
      let place : wrap (r 24 + 16) ≡ r 24 + 16 = (let lies = string.lies in omega arith) in
      let number : wrap (r 25 + r 0) ≡ line = omega arith in
      let found : string_at w.segments m0 (wrap (r 24 + 16)) ≡ Some file =
      ap (λ f. string_at w.segments f (wrap (r 24 + 16))) at.memory_is ∙ ap (string_at w.segments m) place ∙ printable w m p.gp (r 24) file at.numbers.gp_to string in
      let found_colon : string_at w.segments m0 (w.place colon_text) ≡ Some colon = ap (λ f. string_at w.segments f (w.place colon_text)) at.memory_is ∙ text_printable w m (w.place colon_text) colon first in
      let found_words : string_at w.segments m0 (w.place text) ≡ Some words = ap (λ f. string_at w.segments f (w.place text)) at.memory_is ∙ text_printable w m (w.place text) words last in
      let o = c.output in
      let d = signed_decimal (signed line) in
      let joined : (((o ++ file) ++ colon) ++ d) ++ words ≡ o ++ (file ++ (colon ++ (d ++ words))) =
      append_assoc ((o ++ file) ++ colon) d words ∙ append_assoc (o ++ file) colon (d ++ words) ∙ append_assoc o file (colon ++ (d ++ words)) in
      walk w (error_lines name text) 0 r s.core.pc m0 (beside s) (w.place name) 0 0 _ has (omega arith) (
        PrintString file,
        (
          omega arith,
          found,
          (
            omega arith,
            (
              PrintString colon,
              (
                omega arith,
                found_colon,
                (
                  PrintInt,
                  (
                    omega arith,
                    (
                      omega arith,
                      (
                        PrintString words,
                        (
                          omega arith,
                          found_words,
                          (
                            ExitWith,
                            (
                              omega arith,
                              inl (
                                omega arith,
                                record {
                                  output_is = ap (λ x. (((x ++ file) ++ colon) ++ signed_decimal (signed (wrap (r 25 + r 0)))) ++ words) at.output_is ∙ ap (λ n. (((o ++ file) ++ colon) ++ signed_decimal (signed n)) ++ words) number ∙ joined;
                                  input_is = at.input_is;
                                },
                              ),
                            ),
                          ),
                        ),
                      ),
                    ),
                  ),
                ),
              ),
            ),
          ),
        ),
      )
