-- Each step of the loop of `explained_new` passes an error that comes from a place where one was told, or explains one more new error.
use Rattle.std.proofs.Common.{◌≡◌, ◌<◌, List, [], ◌∷◌, ◌++◌, get_or, length, map, false, refl, subst, sym, ap, ◌∙◌, arith}
use Rattle.std.proofs.lemmas.List.{get_or_default, map_push}
use Rattle.std.proofs.lemmas.Option.{slice_get_read}
use Rattle.std.specs.Global.{Vec}
use Rattle.std.specs.List.{AllByRecursion, list_any}
use Rattle.lists.proofs.AllItems.{all_append}
use Rattle.cool_faults.specs.Files.{bytes_of}
use Rattle.cool_faults.specs.declared.fault.Fault.{Fault}
use Rattle.cool_mend.specs.declared.explanation.Explanation.{Explanation}
use Rattle.cool_mend.specs.declared.explanation.Mend.{Mend}
use Rattle.cool_mend.specs.declared.explanation.Origin.{Origin}
use Rattle.cool_mend.specs.AfterFixes.{IsExplained, is_same, origin_of}
use Rattle.cool_mend.specs.Explanations.{IsMend}
use Rattle.cool_mend.proofs.NewFaults.{new_taken, origin_here}
use Rattle.cool_mend.proofs.after_fixes.explained_new.Goals as goal

pub loop-number-preserved : goal.loop-number-preserved
loop-number-preserved c =
    let files = bytes_of c.args.files.now in
    let faults = c.args.faults.now in
    let shifts = c.args.steps.now.shifts.items in
    let told = c.args.steps.now.told.items in
    let n = c.loop-number.number in
    let before = c.loop-number.invariant in
    let x = c.in_ok-explanation.field-0 in
    let all = c.loop-number.explanations.items in
    let t = c.loop-number-test.true in
    let within : n < length faults = omega (arith, t) in
    let same = c.in_ok-explanation.ensures.fault in
    let is : x.fault ≡ get_or faults n x.fault = same ∙ get_or_default faults n _ x.fault within in
    let grows = c.in_ok-push.ensures.items in
    let from : c.in-Some.origin ≡ origin_of shifts x.fault =
    origin_here c.in-Some.origin _ shifts _ x.fault c.in-Some.ensures (c.deref-in-loop-number.ensures.value ∙ before.shifts) same in
    let fresh : list_any (is_same (origin_of shifts x.fault)) told ≡ false =
    ap (λ (o : Origin). list_any (is_same o) told) (sym from) ∙ ap (list_any (is_same c.in-Some.origin)) (sym (c.deref-in-loop-number-2.ensures.value ∙ before.told)) ∙ sym c.is_told.ensures ∙ c.if-is_told.false in
    let g = λ (y : Explanation). origin_of shifts y.fault in
    let Q = IsExplained files faults in
    record {
      new = ap (map (λ (y : Explanation). y.fault)) grows ∙ map_push (λ (y : Explanation). y.fault) all x ∙ ap (λ (l : List Fault). l ++ x.fault ∷ []) before.new ∙ sym (new_taken told shifts faults n x.fault within is fresh);
      origins = c.in_ok-push-2.ensures.items ∙ ap (λ (l : List Origin). l ++ c.in-Some.origin ∷ []) before.origins ∙ ap (λ (o : Origin). map g all ++ o ∷ []) from ∙ sym (map_push g all x) ∙ ap (map g) (sym grows);
      explained = subst (AllByRecursion Q) (sym grows) (all_append Q all (x ∷ []) before.explained (
        record {
          told = c.in_ok-explanation.ensures.told;
          number = n;
          stands = slice_get_read faults (length faults) n x.fault refl within is;
          mends = subst (λ (ms : Vec Mend). AllByRecursion (IsMend files faults n) ms.items) (sym c.in_ok-explanation.ensures.mends) c.in_ok-mends.ensures;
        },
        tt,
      ));
      told = before.told;
      shifts = before.shifts;
    }
