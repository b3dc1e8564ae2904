use Rattle.std.proofs.Common.{◌≡◌, ◌++◌, ◌∷◌, [], ◌∙◌, sym, ap, subst, true, false, List, map, arith, rules, Err}
use Rattle.mips_isa.specs.Lines.{statement_of}
use Rattle.mips_text.specs.Answers.{Meets}
use Rattle.mips_text.specs.Reading.{has_label, line_read, rest_read}
use Rattle.mips_text.specs.Statements.{label_at}
use Rattle.mips_text.specs.Views.{word_seen}
use Rattle.mips_text.specs.Words.{Word}
use Rattle.mips_text.proofs.LabelsOfLines.{label_read, rest_faulty, rest_met, words_taken}
use Rattle.mips_text.proofs.lines.line_of_words.Goals as goal

pub loop-labels-preserved : goal.loop-labels-preserved
loop-labels-preserved c =
    let words : List Word = map word_seen c.args.words.now in
    let here : has_label words c.loop-labels.at ≡ true = sym c.has_label.ensures.exact ∙ c.loop-labels-test.true in
    let more : c.in_ok-labels.labels ≡ c.loop-labels.labels ++ label_at words c.loop-labels.at ∷ [] = search rules in
    record {
      within = omega arith;
      read = rw more (label_read c.loop-labels.labels words c.loop-labels.at (line_read words) here c.loop-labels.invariant.read);
    }

pub returns-in-Err : goal.returns-in-Err
returns-in-Err c =
    let words : List Word = map word_seen c.args.words.now in
    let none : has_label words c.loop-labels.at ≡ false = sym c.has_label.ensures.exact ∙ c.loop-labels-test.false in
    let P : List Word → Type 0 = λ (ws : List Word). Meets statement_of (Err c.in-Err.flaw) (rest_read ws) in
    rest_faulty c.loop-labels.labels words c.loop-labels.at (line_read words) c.in-Err.flaw none c.loop-labels.invariant.read (subst P (words_taken c.args.words.now c.loop-labels.at) c.in-Err.ensures)

pub returns-in-Ok : goal.returns-in-Ok
returns-in-Ok c =
    let words : List Word = map word_seen c.args.words.now in
    let none : has_label words c.loop-labels.at ≡ false = sym c.has_label.ensures.exact ∙ c.loop-labels-test.false in
    rest_met c.loop-labels.labels words c.loop-labels.at (line_read words) (statement_of c.in-Ok.statement) none c.loop-labels.invariant.read (ap rest_read (sym (words_taken c.args.words.now c.loop-labels.at)) ∙ c.in-Ok.ensures)
