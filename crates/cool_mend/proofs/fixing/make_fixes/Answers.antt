-- Each step of the loop of `make_fixes` makes at most one more fix, the first one that is suggested for the error.
use Rattle.std.proofs.Common.{◌≡◌, ◌-◌, ◌≤◌, ℕ, List, get_or, length, ap, subst, sym, ◌∙◌, arith}
use Rattle.std.specs.Prelude.{IfSome, Option}
use Rattle.std.specs.Global.{Vec}
use Rattle.std.specs.List.{slice_get}
use Rattle.std.proofs.lemmas.Option.{slice_get-get_or}
use Rattle.cool_syntax.specs.declared.TheConstants.{MOST_FILES, MOST_SOURCE_BYTES}
use Rattle.cool_faults.specs.Files.{bytes_of, total}
use Rattle.cool_mend.specs.declared.edit.Edit.{Edit}
use Rattle.cool_mend.specs.declared.explanation.Mend.{Mend}
use Rattle.cool_mend.specs.AfterFixes.{AreMade}
use Rattle.cool_mend.specs.Edits.{IsEdit, edited}
use Rattle.cool_mend.proofs.EditsMade.{made_more}
use Rattle.cool_mend.proofs.fixing.make_fixes.Goals as goal

pub loop-index-preserved-in-Continue-branch-5 : goal.loop-index-preserved-in-Continue-branch-5
loop-index-preserved-in-Continue-branch-5 c =
    let k = c.loop-index.index - 1 in
    let b = c.loop-index.auto.index in
    let t = c.loop-index-test.true in
    let e = c.in_ok-edit.edit in
    let there = ap bytes_of c.deref-in-loop-index-2.ensures.value in
    let some = λ (P : Vec (Vec ℕ) → Type 0) (h : IfSome c.in_ok-new.field-0 P). subst (λ (o : Option (Vec (Vec ℕ))). IfSome o P) c.in-Some-2.is h in
    record {
      made = subst (λ (es : List Edit). AreMade (bytes_of c.args.files.now) c.args.explained.now es (bytes_of c.in-Some-2.new.items)) (sym c.in_ok-push.ensures.items)
          (made_more (bytes_of c.args.files.now) c.args.explained.now c.loop-index.edits.items e (bytes_of c.loop-index.all.items) (bytes_of c.in-Some-2.new.items) c.loop-index.invariant.made
          (subst (λ (fs : List (List ℕ)). IsEdit fs e) there (some (λ _. IsEdit (bytes_of c.deref-in-loop-index-2.result.now) e) c.in_ok-new.ensures.edit))
          (record {
            number = k;
            told = get_or c.args.explained.now k c.index-explained-index.result;
            stands = slice_get-get_or c.args.explained.now k c.index-explained-index.result (omega (arith, b, t));
            fix = c.in-Some.mend.now;
            first = ap (λ (l : List Mend). slice_get l 0) (sym c.deref.ensures.value) ∙ sym c.in-Some.ensures.value;
            same = c.in_ok-edit.ensures;
          })
          (some (λ (all : Vec (Vec ℕ)). bytes_of all.items ≡ edited e (bytes_of c.deref-in-loop-index-2.result.now)) c.in_ok-new.ensures.is ∙ ap (edited e) there));
      few = some (λ (all : Vec (Vec ℕ)). length all.items ≤ MOST_FILES) c.in_ok-new.ensures.few;
      small = some (λ (all : Vec (Vec ℕ)). total (bytes_of all.items) ≤ MOST_SOURCE_BYTES) c.in_ok-new.ensures.small;
    }
