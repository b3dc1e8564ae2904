use Rattle.std.proofs.Common.{◌≡◌, ◌+◌, ◌*◌, ◌++◌}
use Rattle.std.specs.Prelude.{codes, flat_map}
use Rattle.std.specs.List.{range_with_len}
use Rattle.arrayvec.specs.ArrayString.{array_string_len}
use Rattle.spim_cpu.specs.Cpu.{core_of}
use Rattle.spim_debug.specs.Notes.{spaced}
use Rattle.spim_debug.proofs.notes.registers_note.Given as goal

-- pc and the registers so far are in the note
abbrev pub invariant-loop-number : goal.invariant-loop-number
invariant-loop-number l = record {
  bytes : l.note.bytes ≡ codes "regs" ++ (spaced (core_of l.fn.cpu).pc ++ flat_map (λ k. spaced ((core_of l.fn.cpu).registers k)) (range_with_len 0 l.number));
  len : array_string_len l.note ≡ 13 + 9 * l.number;
}
