-- After the receiver's code, the instructions of a dispatch reach the method found in the dispatch table, or the end of the run if the receiver is void.
use Rattle.std.proofs.Common.{◌≡◌, ℕ, ◌+◌, ◌*◌, ◌%◌, ◌<◌, ◌≤◌, List, [], ◌∷◌, ◌++◌, refl, ◌∙◌, arith}
use Rattle.std.specs.Prelude.{pos}
use Rattle.mips_isa.specs.Bytes.{Bytes, word}
use Rattle.mips_isa.specs.Machine.{wrap}
use Rattle.mips_isa.specs.Calls.{State}
use Rattle.mips_isa.specs.Lines.{Line, Name, Li}
use Rattle.mips_isa.specs.Assembly.{instruction_line}
use Rattle.cool_runtime.specs.Reaches.{World, Reaches, stands}
use Rattle.cool_runtime.specs.Standing.{HasLines}
use Rattle.cool_runtime.specs.Walk.{beside}
use Rattle.cool_runtime.specs.Labels.{dispatch_abort}
use Rattle.cool_runtime.specs.Contents.{Lies}
use Rattle.cool_runtime.specs.Instructions.{la, bne, j, jal, lw, jalr}
use Rattle.cool_runtime.specs.CodeOfCalls.{dispatch_lines}
use Rattle.cool_runtime.specs.Machines.{At, Pointers, Console}
use Rattle.cool_runtime.proofs.Runs.{here}
use Rattle.cool_runtime.proofs.Walking.{walk, walk_more}
use Rattle.cool_runtime.proofs.Words.{load_eq}
use Rattle.cool_runtime.proofs.Copying.{differ, same_numbers}
use Rattle.cool_runtime.proofs.Pieces.{has_front}

-- the machine stands so, with the place of the call
pub record AtPlace (w : World) (p : Pointers) (m : Bytes) (c : Console) (file : Name) (line : ℕ) (s : State) : Type 0 where
  pub at : At w p m c s
  pub file_is : s.core.registers 24 ≡ w.place file
  pub line_is : s.core.registers 25 ≡ line

abbrev pub receiver_lines : Name → ℕ → List Line
receiver_lines file line = la 24 file ∷ instruction_line (Li 25 (pos line)) ∷ bne 4 0 ∷ j dispatch_abort ∷ []

module _ (w : World) where
  pub finds_void : (file : Name) (line : ℕ) (back : List Line) (p : Pointers) (m : Bytes) (c : Console) (s : State) → HasLines w p.pc (receiver_lines file line ++ back) → At w p m c s
      → line < 4294967296 → p.acc ≡ 0 → Reaches w s 0 6 (stands (AtPlace w (record p { pc = w.place dispatch_abort }) m c file line))
  finds_void file line back p m c s has at fits void =
      let laid = w.laid in
      walk w (receiver_lines file line) 0 s.core.registers s.core.pc s.core.memory (beside s) p.pc 0 0 _ (has_front w (receiver_lines file line) back p.pc has) (omega arith) (
        omega arith,
        (
          omega arith,
          fits,
          (
            (λ t. absurd (differ _ _ t (omega arith))),
            (λ f. here w _ _ (record {
              at = record { numbers = omega arith; memory_is = at.memory_is; input_is = at.input_is; ended_is = at.ended_is; output_is = at.output_is };
              file_is = refl;
              line_is = refl;
            })),
          ),
        ),
      )

  abbrev static_rest : ℕ → Name → List Line
  static_rest line method = instruction_line (Li 25 (pos line)) ∷ bne 4 0 ∷ j dispatch_abort ∷ jal method ∷ []

  pub goes_static : (file : Name) (line : ℕ) (method : Name) (p : Pointers) (m : Bytes) (c : Console) (s : State) → HasLines w p.pc (la 24 file ∷ static_rest line method) → At w p m c s
      → line < 4294967296 → 0 < p.acc → Reaches w s 1 7 (stands (AtPlace w (record p { pc = w.place method; ra = p.pc + 28 }) m c file line))
  goes_static file line method p m c s has at fits some =
      let laid = w.laid in
      walk_more w (la 24 file) (static_rest line method) s.core.registers s.core.pc s.core.memory (beside s) p.pc 0 0 _ (omega arith) has (omega arith) (
        omega arith,
        (
          omega arith,
          fits,
          (
            (λ t. here w _ _ (record {
              at = record { numbers = omega arith; memory_is = at.memory_is; input_is = at.input_is; ended_is = at.ended_is; output_is = at.output_is };
              file_is = refl;
              line_is = refl;
            })),
            (λ f. absurd (let same = same_numbers _ _ f in omega arith)),
          ),
        ),
      )

  -- a slot of a dispatch table holds the address of a method
  pub record SlotAt (m : Bytes) (table slot method : ℕ) : Type 0 where
    pub even : (table + 4 * slot) % 4 ≡ 0
    pub from : 268435456 ≤ table + 4 * slot
    pub to : table + 4 * slot + 4 ≤ w.segments.data_end
    pub holds : word m (table + 4 * slot) ≡ method

  abbrev table_rest : ℕ → ℕ → List Line
  table_rest line slot = instruction_line (Li 25 (pos line)) ∷ bne 4 0 ∷ j dispatch_abort ∷ lw 8 (pos 8) 4 ∷ lw 8 (pos (4 * slot)) 8 ∷ jalr 8 ∷ []

  pub goes_by_table : (file : Name) (line slot : ℕ) (p : Pointers) (m : Bytes) (c : Console) (s : State) (table method : ℕ) → HasLines w p.pc (dispatch_lines file line slot) → At w p m c s
      → line < 4294967296 → Lies w p.gp p.acc 12 → word m (p.acc + 8) ≡ table → SlotAt m table slot method
      → Reaches w s 1 9 (stands (AtPlace w (record p { pc = method; ra = p.pc + 36 }) m c file line))
  goes_by_table file line slot p m c s table method has at fits lies is entry =
      let laid = w.laid in
      let m0 = s.core.memory in
      let v1 : word m0 (wrap (s.core.registers 4 + 8)) ≡ table = load_eq _ _ _ _ at.memory_is (omega arith) ∙ is in
      let v2 : word m0 (wrap (word m0 (wrap (s.core.registers 4 + 8)) + 4 * slot)) ≡ method = load_eq _ _ _ _ at.memory_is (omega arith) ∙ entry.holds in
      walk_more w (la 24 file) (table_rest line slot) s.core.registers s.core.pc m0 (beside s) p.pc 0 0 _ (omega arith) has (omega arith) (
        omega arith,
        (
          omega arith,
          fits,
          (
            (λ t. (
              omega arith,
              (
                omega arith,
                here w _ _ (record {
                  at = record { numbers = omega arith; memory_is = at.memory_is; input_is = at.input_is; ended_is = at.ended_is; output_is = at.output_is };
                  file_is = refl;
                  line_is = refl;
                }),
              ),
            )),
            (λ f. absurd (let same = same_numbers _ _ f in omega arith)),
          ),
        ),
      )
