-- `one_feature` parses the tokens between the head of a class and its end. The only feature of the parsed class is the feature of these tokens.
use Rattle.std.proofs.Common.{◌∙◌, sym, subst, List, arith}
use Rattle.cool_syntax.specs.declared.token.Token.{Token}
use Rattle.cool_syntax.specs.Grammar.{Parses}
use Rattle.cool_session.specs.OneFeature.{class_of_one}
use Rattle.cool_session.proofs.OnlyFeatures.{fault_or_memory, feature_found, no_feature, only_found}
use Rattle.cool_session.proofs.one_feature.one_feature.Goals as goal

pub returns-in-Ok-clause-found : goal.returns-in-Ok-clause-found
returns-in-Ok-clause-found c =
    let read : Parses (class_of_one c.args.tokens.now) c.in-Ok.tree.classes =
    subst (λ (ts : List Token). Parses ts c.in-Ok.tree.classes) (c.as_slice.ensures.value ∙ c.in_ok-class.ensures) c.in-Ok.ensures.whole in
    only_found c.args.tokens.now c.into_vec.result.items c.only_feature.result
    (subst (Parses (class_of_one c.args.tokens.now)) (sym c.into_vec.ensures) read)
    c.only_feature.ensures.found

pub returns-in-Ok-clause-only : goal.returns-in-Ok-clause-only
returns-in-Ok-clause-only c = λ x parses few.
    let same = c.as_slice.ensures.value ∙ c.in_ok-class.ensures in
    feature_found c.args.tokens.now x c.into_vec.result.items c.only_feature.result parses
    (λ ds reads. c.into_vec.ensures ∙ c.in-Ok.ensures.only ds (subst (λ (ts : List Token). Parses ts ds) (sym same) reads))
    c.only_feature.ensures.only

-- tokens that are no class are no feature
pub returns-in-Err-Fault-clause-only : goal.returns-in-Err-Fault-clause-only
returns-in-Err-Fault-clause-only c = λ x parses few.
    let same = c.as_slice.ensures.value ∙ c.in_ok-class.ensures in
    absurd (no_feature c.args.tokens.now x parses
    (λ ds reads. fault_or_memory _ _ c.in-Err-Fault.field-0-is
    (c.in-Err-Fault.ensures.only ds (subst (λ (ts : List Token). Parses ts ds) (sym same) reads))))

-- too many tokens
pub returns-then-tokens-clause-only : goal.returns-then-tokens-clause-only
returns-then-tokens-clause-only c = λ x parses few. absurd (omega (arith, few))
