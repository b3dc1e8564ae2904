-- A program text without the words at marked addresses (beginnings of expressions) agrees with the whole text elsewhere: each run over it is also a run over
-- the whole text, with the same registers, memory and console.
use Rattle.std.proofs.Common.{◌≡◌, ℕ, ◌+◌, ◌*◌, ◌%◌, ◌<◌, ◌≤◌, inl, inr, List, [], ◌∷◌, length, None, Bool as Truth, true, false, refl, sym, ap, ◌∙◌, subst, arith}
use Rattle.mips_isa.specs.declared.instr.Instr.{Instr}
use Rattle.mips_isa.specs.Assembly.{instructions}
use Rattle.mips_isa.specs.Bytes.{Bytes}
use Rattle.mips_isa.specs.Calls.{State, Outcome, Running, Exited, Trapped}
use Rattle.mips_isa.specs.Decoding.{decoded}
use Rattle.mips_isa.specs.Lines.{Name, AsmInstr, Plain, ToTwo, ToOne, ToJump, La, Li, Move, Neg, Nop, B, BranchZero, BranchOrder, Mul, Statement, Empty, Instruction, Data, Directive, Line}
use Rattle.mips_isa.specs.Machine.{word_of_text}
use Rattle.mips_isa.specs.Run.{run}
use Rattle.mips_asm.proofs.Assembled.{length_of_instructions}
use Rattle.cool_runtime.specs.Machines.{At, Numbers, Pointers, Console}
use Rattle.cool_runtime.specs.Reaches.{World, Ends, Goal, Limited, OnTheWay, Reaches}
use Rattle.cool_runtime.specs.Standing.{InstructionAt, InstructionsAt, IsTarget, InstructionHolds, Holds, PlacedAt, HasLines, size, sizes}
use Rattle.cool_simulation.specs.Quiet.{IsFree}
use Rattle.cool_simulation.proofs.ground.QuietRuns.{IsLive, same_run}
use Rattle.mips_isa.specs.declared.address_map.TheConstants.{TEXT_START}

-- Statements that do not depend on the text also hold in a world with another text.
module _ (w : World) (text : List ℕ) where
  abbrev pub over : World
  over = record w { text = text }

  pub at_over : (p : Pointers) (m : Bytes) (c : Console) (s : State) → At w p m c s → At over p m c s
  at_over p m c s at = record { numbers = numbers_over at.numbers; memory_is = at.memory_is; input_is = at.input_is; ended_is = at.ended_is; output_is = at.output_is }
    where
      numbers_over : Numbers w p s → Numbers over p s
      numbers_over h = record {
        pc_is = h.pc_is;
        zero_is = h.zero_is;
        acc_is = h.acc_is;
        self_is = h.self_is;
        low_is = h.low_is;
        end_is = h.end_is;
        gp_is = h.gp_is;
        sp_is = h.sp_is;
        fp_is = h.fp_is;
        ra_is = h.ra_is;
        acc_fits = h.acc_fits;
        gp_from = h.gp_from;
        gp_to = h.gp_to;
        gp_even = h.gp_even;
        sp_from = h.sp_from;
        sp_to = h.sp_to;
        sp_even = h.sp_even;
      }

  pub at_under : (p : Pointers) (m : Bytes) (c : Console) (s : State) → At over p m c s → At w p m c s
  at_under p m c s at = record { numbers = numbers_under at.numbers; memory_is = at.memory_is; input_is = at.input_is; ended_is = at.ended_is; output_is = at.output_is }
    where
      numbers_under : Numbers over p s → Numbers w p s
      numbers_under h = record {
        pc_is = h.pc_is;
        zero_is = h.zero_is;
        acc_is = h.acc_is;
        self_is = h.self_is;
        low_is = h.low_is;
        end_is = h.end_is;
        gp_is = h.gp_is;
        sp_is = h.sp_is;
        fp_is = h.fp_is;
        ra_is = h.ra_is;
        acc_fits = h.acc_fits;
        gp_from = h.gp_from;
        gp_to = h.gp_to;
        gp_even = h.gp_even;
        sp_from = h.sp_from;
        sp_to = h.sp_to;
        sp_even = h.sp_even;
      }

  way_over : (output input : List ℕ) → OnTheWay w output input → OnTheWay over output input
  way_over output input h = record { written = h.written; taken = h.taken }

  limited_over : (code : ℕ) (s : State) → Limited w code s → Limited over code s
  limited_over code s h = record { why = h.why; console = way_over s.output s.input h.console }

  pub ends_over : (lo : ℕ) (goal : Goal) (m : ℕ) (o : Outcome) → Ends w lo goal m o → Ends over lo goal m o
  ends_over lo goal m (Running s) h = h
  ends_over lo goal m (Exited code s) (inl h) = inl h
  ends_over lo goal m (Exited code s) (inr h) = inr (limited_over code s h)
  ends_over lo goal m (Trapped trap s) h = h

  labels_under : (pc : ℕ) (labels : List Name) → PlacedAt over pc labels → PlacedAt w pc labels
  labels_under pc [] h = tt
  labels_under pc (label ∷ rest) h = (h.0, labels_under pc rest h.1)

  target_under : (label : Name) → IsTarget over label → IsTarget w label
  target_under label h = record { even = h.even; low = h.low }

  instruction_under : (i : AsmInstr) → InstructionHolds over i → InstructionHolds w i
  instruction_under (Plain i) h = h
  instruction_under (ToTwo op rs rt target) h = target_under target h
  instruction_under (ToOne op rs target) h = target_under target h
  instruction_under (ToJump op target) h = target_under target h
  instruction_under (La rd label) h = h
  instruction_under (Li rd value) h = h
  instruction_under (Move rd rs) h = h
  instruction_under (Neg rd rs) h = h
  instruction_under Nop h = h
  instruction_under (B target) h = target_under target h
  instruction_under (BranchZero op rs target) h = target_under target h
  instruction_under (BranchOrder op rs rt target) h = target_under target h
  instruction_under (Mul rd rs rt) h = h

  names_under : (s : Statement) → Holds over s → Holds w s
  names_under Empty h = h
  names_under (Instruction i) h = instruction_under i h
  names_under (Data item) h = h
  names_under (Directive directive) h = h

module _ (w : World) (text : List ℕ) (marked : ℕ → Truth) (same : (a : ℕ) → a % 4 ≡ 0 → TEXT_START ≤ a → marked a ≡ false → word_of_text w.text a ≡ word_of_text text a)
    (traps : (a : ℕ) → a % 4 ≡ 0 → TEXT_START ≤ a → marked a ≡ true → decoded (word_of_text w.text a) ≡ None) where
  instruction_quiet : (pc : ℕ) (i : Instr) → marked pc ≡ false → InstructionAt (over w text) pc i → InstructionAt w pc i
  instruction_quiet pc i free h = record { even = h.even; from = h.from; to = h.to; low = h.low; is = ap decoded (same pc h.even h.from free) ∙ h.is }

  instructions_quiet : (is : List Instr) (pc to : ℕ) → pc + 4 * length is ≤ to → IsFree marked pc to → InstructionsAt (over w text) pc is → InstructionsAt w pc is
  instructions_quiet [] pc to le free h = tt
  instructions_quiet (i ∷ is) pc to le free h = (instruction_quiet pc i (free pc h.0.even (omega arith) (omega arith)) h.0, instructions_quiet is (pc + 4) to (omega arith) (λ j even from low. free j even (omega arith) low) h.1)

  -- lines without a mark
  pub lines_quiet : (lines : List Line) (pc to : ℕ) → pc + sizes lines ≤ to → IsFree marked pc to → HasLines (over w text) pc lines → HasLines w pc lines
  lines_quiet [] pc to le free h = tt
  lines_quiet (line ∷ rest) pc to le free h =
      let many = length_of_instructions w.place pc line.statement in (
        record {
          labels = labels_under w text pc line.labels h.0.labels;
          words = instructions_quiet (instructions w.place pc line.statement) pc to (omega arith) free h.0.words;
          names = names_under w text line.statement h.0.names;
        },
        lines_quiet rest (pc + size line) to (omega arith) (λ j even from low. free j even (omega arith) low) h.1,
      )

  live_end : (lo : ℕ) (goal : Goal) (m : ℕ) (o : Outcome) → Ends w lo goal m o → IsLive o
  live_end lo goal m (Running s) h = tt
  live_end lo goal m (Exited code s) h = tt
  live_end lo goal m (Trapped trap s) h = h

  -- a run over them
  pub run_quiet : (s : State) (lo hi : ℕ) (goal : Goal) → Reaches w s lo hi goal
      → (r : Reaches (over w text) s lo hi goal) × ((m : ℕ) (t : State) → m < r.count → run text w.segments m s ≡ Running t → marked t.core.pc ≡ true → ⊥)
  run_quiet s lo hi goal r =
      let h = same_run w.text text marked same traps w.segments r.count s (run w.text w.segments r.count s) refl (live_end lo goal r.count (run w.text w.segments r.count s) r.ends) in (
        record { count = r.count; within = r.within; ends = subst (λ (o : Outcome). Ends (over w text) lo goal r.count o) (sym h.0) (ends_over w text lo goal r.count (run w.text w.segments r.count s) r.ends) },
        h.1,
      )
