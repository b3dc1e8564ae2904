-- Each step of the loop of `explanations` adds the explanation of the next compile-time error.
use Rattle.std.proofs.Common.{ap, arith, map, refl, subst, sym, ◌∙◌}
use Rattle.std.specs.List.{AllByRecursion}
use Rattle.lists.proofs.AllItems.{all_append}
use Rattle.cool_faults.specs.Files.{bytes_of}
use Rattle.cool_mend.specs.Explanations.{AreMends, IsMend, IsTold}
use Rattle.cool_mend.specs.declared.explanation.Explanation.{Explanation}
use Rattle.std.specs.Global.{Vec}
use Rattle.cool_mend.specs.declared.explanation.Mend.{Mend}
use Rattle.cool_mend.proofs.MendsTold.{faults_next, mends_next}
use Rattle.cool_mend.proofs.explaining.explanations.Goals as goal

pub loop-number-preserved : goal.loop-number-preserved
loop-number-preserved c = record {
  each = ap (map (λ (x : Explanation). x.fault)) c.in_ok-push.ensures.items
      ∙ faults_next c.args.faults.now c.loop-number.number _ _ c.loop-number.all.items c.in_ok-explanation.field-0 (omega (arith, c.loop-number-test.true)) refl c.loop-number.invariant.each c.in_ok-explanation.ensures.fault;
  told = subst (AllByRecursion (IsTold (bytes_of c.args.files.now))) (sym c.in_ok-push.ensures.items)
      (all_append (IsTold (bytes_of c.args.files.now)) c.loop-number.all.items _ c.loop-number.invariant.told (c.in_ok-explanation.ensures.told, tt));
  mends = subst (AreMends (bytes_of c.args.files.now) c.args.faults.now 0) (sym c.in_ok-push.ensures.items)
      (mends_next (bytes_of c.args.files.now) c.args.faults.now c.loop-number.number c.loop-number.all.items c.in_ok-explanation.field-0 (omega (arith, c.loop-number-test.true)) c.loop-number.invariant.each c.loop-number.invariant.mends
      (subst (λ (ms : Vec Mend). AllByRecursion (IsMend (bytes_of c.args.files.now) c.args.faults.now c.loop-number.number) ms.items) (sym c.in_ok-explanation.ensures.mends) c.in_ok-mends.ensures));
}
