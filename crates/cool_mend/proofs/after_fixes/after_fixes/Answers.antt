-- Each turn of the loop of `after_fixes` makes one more step: the errors after the fixes that were made, and the fixes of these errors.
use Rattle.std.proofs.Common.{◌≡◌, ℕ, ◌<◌, List, [], ◌∷◌, length, subst, sym, ap, ◌∙◌}
use Rattle.std.specs.Prelude.{IfSome, Option}
use Rattle.std.specs.Global.{Vec}
use Rattle.std.specs.List.{AllByRecursion}
use Rattle.lists.proofs.AllItems.{all_append}
use Rattle.cool_faults.specs.Files.{bytes_of}
use Rattle.cool_mend.specs.declared.explanation.AfterFixes.{AfterFixes}
use Rattle.cool_mend.specs.declared.explanation.Explanation.{Explanation}
use Rattle.cool_mend.specs.AfterFixes.{AreAfterFixes, AreMade, ArePlaced, HasProgress, IsAfterFixes, Progress, after, begun}
use Rattle.cool_mend.proofs.EditsMade.{many_made}
use Rattle.cool_mend.proofs.NewFaults.{after_all, after_more, many_after, steps_more}
use Rattle.cool_mend.proofs.after_fixes.after_fixes.Goals as goal

pub loop-preserved : goal.loop-preserved
loop-preserved c =
    let files = bytes_of c.args.files.now in
    let b = begun files c.args.explained.now in
    let all = c.loop.all.items in
    let p = after_all b all in
    let step = c.in-Some-2.step in
    let before = c.loop.invariant in
    let some = λ (P : AfterFixes → Type 0) (h : IfSome c.in_ok-step.field-0 P). subst (λ (o : Option AfterFixes). IfSome o P) c.in-Some-2.is h in
    let grows = c.in_ok-push.ensures.items in
    let to : after_all b c.push.new.self.items ≡ after p step = ap (after_all b) grows ∙ after_more all step b in
    let many : length (bytes_of c.loop.made.files.items) ≡ length files = many_made p.files p.explained c.loop.made.edits.items (bytes_of c.loop.made.files.items) before.made ∙ many_after all b before.steps in
    let next = c.in_ok-made-2.made in
    record {
      steps = subst (AreAfterFixes b) (sym grows) (steps_more all step b before.steps (some (IsAfterFixes p) (c.in_ok-step.ensures.step p before.progress before.made)));
      progress = subst (λ (q : Progress). HasProgress q c.next.new.steps.shifts.items c.next.new.steps.told.items) (sym to)
          (some (λ (a : AfterFixes). HasProgress (after p a) c.next.new.steps.shifts.items c.next.new.steps.told.items) (c.in_ok-step.ensures.progress p before.progress before.made));
      made = subst (λ (q : Progress). AreMade q.files q.explained next.edits.items (bytes_of next.files.items)) (sym to)
          (subst (λ (fs : List (Vec ℕ)). AreMade (bytes_of fs) step.explanations.items next.edits.items (bytes_of next.files.items)) c.deref.ensures.value
          (subst (λ (xs : List Explanation). AreMade (bytes_of c.deref.result.now) xs next.edits.items (bytes_of next.files.items)) c.deref-in-loop.ensures.value c.in_ok-made-2.ensures.made));
      few = c.in_ok-made-2.ensures.few;
      small = c.in_ok-made-2.ensures.small;
      placed = λ inside. subst (AllByRecursion (ArePlaced (length files))) (sym grows)
          (all_append (ArePlaced (length files)) all (step ∷ []) (before.placed inside)
          (subst (λ (n : ℕ). ArePlaced n step) many (some (ArePlaced (length (bytes_of c.loop.made.files.items))) (c.in_ok-step.ensures.placed (subst (λ (n : ℕ). 0 < n) (sym many) inside))), tt));
    }
