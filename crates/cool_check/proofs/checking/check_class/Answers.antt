-- `check_class` returns the results of all features of a class: each step of its loop adds the result of one feature, a type error or the types of its nodes.
use Rattle.std.proofs.Common.{◌≡◌, ◌++◌, ◌∷◌, [], ◌+◌, ◌∙◌, List, Ok, Err, drop, ap, subst, sym}
use Rattle.std.specs.Global.{Vec}
use Rattle.std.specs.List.{AllByRecursion}
use Rattle.cool_syntax.specs.TokenFacts.{IsPlaced}
use Rattle.cool_syntax.specs.TreesWithinLimits.{IsFeatureWithin}
use Rattle.cool_classes.specs.Chains.{features_of}
use Rattle.cool_classes.specs.declared.class_id.Ty.{Ty}
use Rattle.cool_rules.specs.NodeTypes.{features_types}
use Rattle.cool_check.specs.declared.fault.TypeFault.{TypeFault}
use Rattle.cool_check.specs.Faults.{IsPlacedError}
use Rattle.cool_check.specs.FirstFaults.{Checked, IsFirst}
use Rattle.cool_check.specs.TypingFaults.{feature_checked, features_faults}
use Rattle.cool_check.proofs.PartsLeft.{columns_later, features_later, holds_at, nothing_between}
use Rattle.cool_check.proofs.PlacedFaults.{placed_more}
use Rattle.cool_check.proofs.checking.check_class.Goals.{in-Ok+in_ok-push-in-Ok, in-Err-Fault+in_ok-push-in-Err-Fault}
use Rattle.cool_check.proofs.checking.check_class.Goals as goal

-- one more fault is not none
no_fault : (before : List TypeFault) (fault : TypeFault) → before ++ fault ∷ [] ≡ [] → ⊥
no_fault [] fault e = absurd (cc)
no_fault (f ∷ before) fault e = absurd (cc)

pub loop-index-preserved : goal.loop-index-preserved
loop-index-preserved c =
    let p = c.args.t.now in
    let fs = features_of p c.args.c in
    let before = c.loop-index.faults.items in
    let rest = features_faults p c.args.c (drop (c.loop-index.index + 1) fs) in
    let later = λ (r : Checked (Unit {0})). features_later p c.args.c fs c.features-features.result.now before c.loop-index.index c.index-features-index.result r c.features-features.ensures.features c.loop-index-test.true c.index-features-index.is in
    elim c.match-check_among.branch [
      | in-Ok+in_ok-push-in-Ok w ↦
          record {
            faults = rw w.faults-is (sym (nothing_between before rest) ∙ later (Ok tt) w.in-Ok.ensures.typed ∙ c.loop-index.invariant.faults);
            types = λ none.
                let earlier = subst (λ (v : Vec TypeFault). v.items ≡ []) w.faults-is none in
                rw w.types-is
                (ap (λ (ts : List (List Ty)). ts ++ features_types p c.args.c (drop (c.loop-index.index + 1) fs)) w.in_ok-push-in-Ok.ensures.items
                ∙ columns_later p c.args.c fs c.features-features.result.now c.loop-index.types.items c.loop-index.index c.index-features-index.result w.in-Ok.found c.features-features.ensures.features c.loop-index-test.true c.index-features-index.is w.in-Ok.ensures.column
                ∙ c.loop-index.invariant.types earlier);
            places = λ n h earlier. rw w.faults-is (c.loop-index.invariant.places n h earlier);
          }
      | in-Err-Fault+in_ok-push-in-Err-Fault w ↦
          let fault = w.in-Err-Fault.fault in
          let first = subst (IsFirst (feature_checked p c.args.c c.index-features-index.result)) w.in-Err-Fault.field-0-is w.in-Err-Fault.ensures.first in
          record {
            types = λ none. absurd (no_fault before fault (sym w.in_ok-push-in-Err-Fault.ensures.items ∙ subst (λ (v : Vec TypeFault). v.items ≡ []) w.faults-is none));
            faults = rw w.faults-is (ap (λ (es : List TypeFault). es ++ rest) w.in_ok-push-in-Err-Fault.ensures.items ∙ later (Err fault) first ∙ c.loop-index.invariant.faults);
            places = λ n h earlier. rw w.faults-is
                (subst (AllByRecursion (λ (f : TypeFault). IsPlaced n f.at)) (sym w.in_ok-push-in-Err-Fault.ensures.items)
                (placed_more n before fault (c.loop-index.invariant.places n h earlier) (subst (IsPlacedError n) w.in-Err-Fault.field-0-is (w.in-Err-Fault.ensures.places n (holds_at (IsFeatureWithin n) fs c.features-features.result.now c.loop-index.index _ h c.features-features.ensures.features c.loop-index-test.true c.index-features-index.is)))));
          }
    ]
