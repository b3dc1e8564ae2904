-- Each step of the loop of `Emission::first_pass` generates one batch of lines, passes it to the assembler, and offers it to `Kept::keep`. After the last step
-- the assembler has taken all lines of the program.
use Rattle.std.proofs.Common.{◌∙◌, ◌≤◌, ◌++◌, length, take, ap, sym, subst, arith}
use Rattle.mips_isa.specs.Lines.{lines_of, AreInRange}
use Rattle.mips_asm.specs.FirstPasses.{HasTaken}
use Rattle.cool_emit.specs.Additions.{files_of}
use Rattle.cool_emit.specs.Batches.{batches_of, joined}
use Rattle.cool_emit.specs.Sections.{sections_in}
use Rattle.cool_emit.proofs.BatchesInTurn.{all_joined, all_lines, asked_in_all, how_many, joined_more, ranges_of_batch}
use Rattle.cool_emit.proofs.emission.Emission.first_pass.Goals as goal

pub loop-number-init : goal.loop-number-init
loop-number-init c = record {
  constants = (0, (omega arith, λ i. record { integers = c.new-consts.ensures.integers i; strings = c.new-consts.ensures.strings i }));
  taken = c.new-pass.ensures;
  kept = c.new-kept.ensures.first (batches_of c.args.self.now.program.now (files_of c.args.self.now));
  few = c.new-kept.ensures.few;
}

pub take-requires-clause-ranges : goal.take-requires-clause-ranges
take-requires-clause-ranges c =
    let e = c.args.self.now in
    subst AreInRange (sym (ap lines_of c.deref.ensures.value))
    (ranges_of_batch e.program.now (files_of e) c.requires.sound.buildable c.loop-number.number (lines_of c.in_ok-lines.lines.items) c.in_ok-lines.ensures.lines)

pub loop-number-preserved : goal.loop-number-preserved
loop-number-preserved c =
    let e = c.args.self.now in
    let all = batches_of e.program.now (files_of e) in
    let k = c.loop-number.number in
    let made = lines_of c.in_ok-lines.lines.items in
    let front = joined (take k all) in
    record {
      constants = c.in_ok-lines.ensures.constants;
      taken =
          subst (HasTaken c.take.new.self)
          (ap (λ ls. front ++ lines_of ls) c.deref.ensures.value ∙ sym (joined_more all k made c.in_ok-lines.ensures.lines))
          (c.in_ok-take.ensures front c.loop-number.invariant.taken);
      kept = c.in_ok-keep.ensures.first all c.loop-number.invariant.kept c.in_ok-lines.ensures.lines;
      few = c.in_ok-keep.ensures.few;
    }

pub returns-clause-taken : goal.returns-clause-taken
returns-clause-taken c =
    let e = c.args.self.now in
    let p = e.program.now in
    let files = files_of e in
    let all = batches_of p files in
    let count = how_many p files in
    let same = ap length c.requires.sections in
    let long : length all ≤ c.loop-number.number = let no = c.loop-number-test.false in omega arith in
    subst (HasTaken c.loop-number.pass) (all_joined all c.loop-number.number long ∙ all_lines p files c.requires.sound.buildable) c.loop-number.invariant.taken

pub returns-clause-constants : goal.returns-clause-constants
returns-clause-constants c =
    let e = c.args.self.now in
    let same = ap length c.requires.sections in
    let long : length (sections_in e.program.now) ≤ c.loop-number.number = let no = c.loop-number-test.false in omega arith in
    asked_in_all e.program.now (files_of e) c.requires.sound.buildable c.loop-number.number c.loop-number.consts long c.loop-number.invariant.constants
