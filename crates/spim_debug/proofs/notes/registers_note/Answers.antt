use Rattle.std.proofs.Common.{◌∙◌, ap, ℕ, ◌++◌, List, arith}
use Rattle.std.specs.Prelude.{codes, flat_map}
use Rattle.std.specs.List.{range_with_len}
use Rattle.spim_cpu.specs.Cpu.{core_of}
use Rattle.spim_debug.specs.Notes.{spaced}
use Rattle.spim_debug.proofs.RegistersInOrder.{in_front}
use Rattle.spim_debug.proofs.notes.registers_note.Goals as goal

pub loop-number-preserved : goal.loop-number-preserved
loop-number-preserved c =
    let core = core_of c.args.cpu.now in
    let n = c.loop-number.number in
    record {
      bytes = c.push_spaced-in-loop-number.ensures.bytes
          ∙ ap (λ (bs : List ℕ). bs ++ spaced c.register.result) c.loop-number.invariant.bytes
          ∙ ap (λ (k : ℕ). (codes "regs" ++ (spaced core.pc ++ flat_map (λ i. spaced (core.registers i)) (range_with_len 0 n))) ++ spaced k) (c.register.ensures ∙ ap core.registers c.new.ensures)
          ∙ in_front (codes "regs") (spaced core.pc) (λ i. spaced (core.registers i)) n;
      len = omega (arith, c.push_spaced-in-loop-number.ensures.len, c.loop-number.invariant.len);
    }
