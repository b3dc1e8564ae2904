use Rattle.std.proofs.Common.{◌≡◌, ◌∙◌, ap, ℕ, false}
use Rattle.std.specs.Option.{option_copied}
use Rattle.spim_cpu.specs.Advancing.{has_mark, is_past, is_stop}
use Rattle.spim_cpu.proofs.Advancing.{goes_less, within_past, within_stop}
use Rattle.spim_cpu.proofs.cpu.Cpu.advance.Goals as goal

pub returns-in-None-clause-goes : goal.returns-in-None-clause-goes
returns-in-None-clause-goes g c =
    let none : (a : ℕ) → is_past a ≡ false → g.B.Breaks.holds c.args.breaks.now a ≡ false =
    λ a goes. c.marks.ensures a (within_past a goes) ∙ ap (λ m. has_mark (option_copied m) a) c.in-None.is in
    goes_less is_past (g.B.Breaks.holds c.args.breaks.now) _ _ c.advance_freely.result _ _ none c.advance_freely.ensures.goes

pub returns-in-Some-clause-goes : goal.returns-in-Some-clause-goes
returns-in-Some-clause-goes g c =
    let free : (a : ℕ) → is_stop c.in-Some.marks.now a ≡ false → g.B.Breaks.holds c.args.breaks.now a ≡ false =
    λ a goes. c.marks.ensures a (within_stop c.in-Some.marks.now a goes).0 ∙ ap (λ m. has_mark (option_copied m) a) c.in-Some.is ∙ (within_stop c.in-Some.marks.now a goes).1 in
    goes_less (is_stop c.in-Some.marks.now) (g.B.Breaks.holds c.args.breaks.now) _ _ c.advance_to_mark.result _ _ free c.advance_to_mark.ensures.goes
