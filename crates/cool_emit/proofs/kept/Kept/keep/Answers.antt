-- `Kept::keep` stores the lines of a batch only if those of all earlier batches are stored, so the stored lines are those of the first batches (`AreFirst`).
use Rattle.std.proofs.Common.{◌≡◌, ◌∙◌, ◌++◌, ℕ, List, take, ap, sym, arith}
use Rattle.std.proofs.lemmas.Option.{slice_get_within}
use Rattle.mips_isa.specs.Lines.{Line, lines_of}
use Rattle.cool_emit.specs.Batches.{joined}
use Rattle.cool_emit.proofs.BatchesInTurn.{joined_more}
use Rattle.cool_emit.proofs.kept.Kept.keep.Goals as goal

pub returns-in_ok-add_lines-clause-first : goal.returns-in_ok-add_lines-clause-first
returns-in_ok-add_lines-clause-first c all h is =
    let k = c.args.number in
    let made = lines_of c.args.lines.items in
    let next : c.args.self.now.batches ≡ k = sym c.if-number-self.true in
    let less = slice_get_within all k made is in
    record {
      within = omega arith;
      lines =
          c.in_ok-add_lines.ensures
          ∙ (ap (λ (ls : List Line). ls ++ made) (h.lines ∙ ap (λ (n : ℕ). joined (take n all)) next)
          ∙ sym (joined_more all k made is));
    }
