-- `add_arms` appends the lines of each branch of a `case`, and its spans (ranges of lines) moved by the number of lines before. The line numbers of the moved
-- spans are below 2 ^ 64, because each span lies within the lines of its branch.
use Rattle.std.proofs.Common.{◌+◌, ◌<◌, ◌^◌, ◌++◌, length, sym, subst, rules, arith}
use Rattle.std.specs.List.{AllByRecursion}
use Rattle.mips_isa.specs.Lines.{lines_of}
use Rattle.cool_codegen.specs.declared.span.Span as declared_span
use Rattle.cool_codegen.specs.Shown.{made_of, IsWithin}
use Rattle.cool_codegen.proofs.SpansNoted.{as_many, in_range}
use Rattle.cool_codegen.proofs.binding.add_arms.Goals as goal

pub add_moved-requires : goal.add_moved-requires
add_moved-requires c =
    let arm = c.in-Some.arm in
    let within : IsWithin (made_of arm) = search rules in
    let many = as_many arm.lines.items in
    let before = c.len-before.ensures in
    let here = c.loop-arm.lines.ok.0 in
    let own = arm.lines.ok.0 in
    let both = c.in_ok-append.ensures.len in
    let small = c.append.new.self.small in
    let fits : c.len-before.result + length (lines_of arm.lines.items) < 2 ^ 64 = omega arith in
    record {
      within = subst (AllByRecursion (λ (x : declared_span.Span). (c.len-before.result + x.from < 2 ^ 64) × (c.len-before.result + x.to < 2 ^ 64))) (sym c.deref.ensures.value)
          (in_range arm.spans.items c.len-before.result (length (lines_of arm.lines.items)) fits within);
    }
