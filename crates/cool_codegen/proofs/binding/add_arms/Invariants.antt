-- The lines and spans (ranges of lines) that `add_arms` has so far, followed by those of the remaining branches, are those of all branches of the `case`.
use Rattle.std.proofs.Common.{◌≡◌, ◌++◌, map}
use Rattle.std.specs.List.{AllByRecursion}
use Rattle.mips_isa.specs.Lines.{lines_of}
use Rattle.cool_codegen.specs.Numbered.{made_lines}
use Rattle.cool_codegen.specs.Shown.{arms_spans, made_of, shown_of, IsWithin}
use Rattle.cool_codegen.proofs.binding.add_arms.Given as goal

abbrev pub invariant-loop-arm : goal.invariant-loop-arm
invariant-loop-arm l = record {
  within : AllByRecursion IsWithin (map made_of l.arm-iterator.rest.items);
  lines : lines_of l.lines.items ++ made_lines (map made_of l.arm-iterator.rest.items) ≡ lines_of l.fn.lines.items ++ made_lines (map made_of l.fn.arms.items);
  spans : map shown_of l.spans.items ++ arms_spans (lines_of l.lines.items) (map made_of l.arm-iterator.rest.items)
      ≡ map shown_of l.fn.spans.items ++ arms_spans (lines_of l.fn.lines.items) (map made_of l.fn.arms.items);
}
