-- `Emission::second_pass` gives the assembler the lines kept from the first pass, and then generates each batch of lines that was not kept.
use Rattle.std.proofs.Common.{◌∙◌, ◌+◌, ◌≤◌, ◌++◌, ℕ, List, [], length, drop, ap, sym, subst, arith, Err}
use Rattle.std.proofs.lemmas.Result.{err_from_is_err_and}
use Rattle.mips_isa.specs.Lines.{lines_of, AreInRange}
use Rattle.mips_asm.specs.declared.second_pass.SecondPass.{SecondPass}
use Rattle.mips_asm.specs.SecondPasses.{HasLeft}
use Rattle.cool_classes.specs.Chains.{Class}
use Rattle.cool_emit.specs.Additions.{files_of}
use Rattle.cool_emit.specs.Batches.{batches_of, joined, AreAsked}
use Rattle.cool_emit.specs.Programs.{program_lines}
use Rattle.cool_emit.specs.Sections.{sections_in}
use Rattle.cool_emit.proofs.BatchesInTurn.{all_are_asked, how_many, joined_less, left_behind, none_left, ranges_of_batch, ranges_of_front}
use Rattle.cool_emit.proofs.PassesEnd.{short_of_memory}
use Rattle.cool_emit.proofs.emission.Emission.second_pass.Goals as goal

pub take-requires-clause-due : goal.take-requires-clause-due
take-requires-clause-due c =
    let e = c.args.self.now in
    let p = e.program.now in
    let files = files_of e in
    let n = c.args.kept.batches in (
      program_lines p files,
      (
        joined (drop n (batches_of p files)),
        subst (HasLeft c.args.pass (program_lines p files))
            (left_behind p files c.requires.sound.buildable n (lines_of c.deref.result.now) (ap lines_of c.deref.ensures.value ∙ c.requires.kept.lines))
            c.requires.all,
      ),
    )

pub take-requires-clause-ranges : goal.take-requires-clause-ranges
take-requires-clause-ranges c =
    let e = c.args.self.now in
    subst AreInRange (sym (ap lines_of c.deref.ensures.value ∙ c.requires.kept.lines))
    (ranges_of_front e.program.now (files_of e) c.requires.sound.buildable c.args.kept.batches)

pub loop-number-init : goal.loop-number-init
loop-number-init c =
    let e = c.args.self.now in
    let p = e.program.now in
    let files = files_of e in
    let b = c.requires.sound.buildable in
    let n = c.args.kept.batches in
    record {
      constants = subst (AreAsked p files n) (sym c.requires.constants) (all_are_asked p files b n);
      left =
          c.in_ok-take.ensures (program_lines p files) (joined (drop n (batches_of p files)))
          (subst (HasLeft c.args.pass (program_lines p files))
          (left_behind p files b n (lines_of c.deref.result.now) (ap lines_of c.deref.ensures.value ∙ c.requires.kept.lines)) c.requires.all);
    }

pub take-requires-in-loop-number-clause-due : goal.take-requires-in-loop-number-clause-due
take-requires-in-loop-number-clause-due c =
    let e = c.args.self.now in
    let p = e.program.now in
    let files = files_of e in
    let all = batches_of p files in
    let k = c.loop-number.number in
    let behind = joined (drop (k + 1) all) in (
      program_lines p files,
      (
        behind,
        subst (HasLeft c.loop-number.pass (program_lines p files))
            (joined_less all k (lines_of c.in_ok-lines.lines.items) c.in_ok-lines.ensures.lines ∙ ap (λ ls. lines_of ls ++ behind) (sym c.deref-in-loop-number.ensures.value))
            c.loop-number.invariant.left,
      ),
    )

pub take-requires-in-loop-number-clause-ranges : goal.take-requires-in-loop-number-clause-ranges
take-requires-in-loop-number-clause-ranges c =
    let e = c.args.self.now in
    subst AreInRange (sym (ap lines_of c.deref-in-loop-number.ensures.value))
    (ranges_of_batch e.program.now (files_of e) c.requires.sound.buildable c.loop-number.number (lines_of c.in_ok-lines.lines.items) c.in_ok-lines.ensures.lines)

pub returns-in_err-take-2 : goal.returns-in_err-take-2
returns-in_err-take-2 c =
    let p = err_from_is_err_and c.from_residual-in_err-take-2.result c.from_residual-in_err-take-2.ensures.1 in
    short_of_memory (program_lines c.args.self.now.program.now (files_of c.args.self.now)) c.from_residual-in_err-take-2.result (p.1 ∙ ap Err p.2)

pub loop-number-preserved : goal.loop-number-preserved
loop-number-preserved c =
    let e = c.args.self.now in
    let p = e.program.now in
    let files = files_of e in
    let all = batches_of p files in
    let k = c.loop-number.number in
    let behind = joined (drop (k + 1) all) in
    record {
      constants = c.in_ok-lines.ensures.constants;
      left =
          c.in_ok-take-2.ensures (program_lines p files) behind
          (subst (HasLeft c.loop-number.pass (program_lines p files))
          (joined_less all k (lines_of c.in_ok-lines.lines.items) c.in_ok-lines.ensures.lines ∙ ap (λ ls. lines_of ls ++ behind) (sym c.deref-in-loop-number.ensures.value))
          c.loop-number.invariant.left);
    }

-- after the last batch nothing is left
done : (pass : SecondPass) (p : List Class) (files : List (List ℕ)) (k : ℕ) → length (sections_in p) + 1 ≤ k
    → HasLeft pass (program_lines p files) (joined (drop k (batches_of p files))) → HasLeft pass (program_lines p files) []
done pass p files k long h =
    let count = how_many p files in
    subst (HasLeft pass (program_lines p files)) (none_left (batches_of p files) k (omega arith)) h

pub finish-requires : goal.finish-requires
finish-requires c =
    let e = c.args.self.now in
    let same = ap length c.requires.sections in
    record {
      done = (
        program_lines e.program.now (files_of e),
        done c.loop-number.pass e.program.now (files_of e) c.loop-number.number (let no = c.loop-number-test.false in omega arith) c.loop-number.invariant.left,
      );
    }

pub returns : goal.returns
returns c =
    let e = c.args.self.now in
    let same = ap length c.requires.sections in
    c.finish.ensures (program_lines e.program.now (files_of e))
    (done c.loop-number.pass e.program.now (files_of e) c.loop-number.number (let no = c.loop-number-test.false in omega arith) c.loop-number.invariant.left)
