-- `find_difference` returns a difference as `IsDifference` of `Edits.antt` defines it. The sequence of tokens that it returns contains all changed tokens of
-- the only changed file, and as many tokens as before follow it.
use Rattle.std.proofs.Common.{◌≡◌, ◌<◌, ◌+◌, ◌^◌, List, length, sym, ◌∙◌, subst, arith}
use Rattle.cool_syntax.specs.declared.token.Token.{Token}
use Rattle.cool_session.specs.Differing.{AreSameFrom, IsFirstOther}
use Rattle.cool_session.specs.KeptChecks.{HasFewTokens}
use Rattle.cool_session.proofs.FilesDiffer.{file_at, same_files, where_none, number_within, ends_within, apart, differ_in_feature}
use Rattle.cool_session.proofs.difference.find_difference.Goals as goal
use Rattle.cool_classes.proofs.FeaturesChecked.{all_at}

pub returns-in_default : goal.returns-in_default
returns-in_default c = same_files c.args.before.now c.args.now.now c.if-before-now.false c.in_default.ensures

pub index-run-requires : goal.index-run-requires
index-run-requires c =
    let runs = c.in_ok-runs.runs in
    omega (
      arith,
      number_within c.as_slice.result.now runs.items c.in-Some.file c.front_of.result c.back_of.result (length c.as_slice-old.result.now)
          (length c.as_slice-new.result.now) c.in-Some-around.number c.as_slice.ensures.value c.in-Some-around.ensures,
      runs.ok.0,
    )

pub overflow_sub-run : goal.overflow_sub-run
overflow_sub-run c =
    let before = c.args.before.now in
    let file = c.in-Some.file in
    let old = file_at before file c.index-before-file.result c.in-Some.ensures.within ∙ sym c.as_slice-old.ensures.value in
    omega (
      arith,
      apart before c.as_slice.result.now c.in_ok-runs.runs.items c.index-run.result.now file c.front_of.result c.back_of.result
          (length c.as_slice-new.result.now) c.in-Some-around.number c.as_slice-old.result.now c.as_slice.ensures.value c.in_ok-runs.ensures
          c.index-run.ensures old c.in-Some-around.ensures,
    )

pub overflow_cast-run-2 : goal.overflow_cast-run-2
overflow_cast-run-2 c =
    let before = c.args.before.now in
    let file = c.in-Some.file in
    let in_now : file < length c.args.now.now = omega (arith, c.in-Some.ensures.within, c.if-before-now.false) in
    let few : length c.as_slice-new.result.now < 2 ^ 32 =
    subst (λ (ts : List Token). length ts < 2 ^ 32) (sym c.as_slice-new.ensures.value)
    (all_at HasFewTokens c.args.now.now file c.index-now-file.result in_now c.requires.short) in
    let old = file_at before file c.index-before-file.result c.in-Some.ensures.within ∙ sym c.as_slice-old.ensures.value in
    omega (
      arith,
      few,
      ends_within before c.as_slice.result.now c.in_ok-runs.runs.items c.index-run.result.now file c.front_of.result c.back_of.result
          (length c.as_slice-new.result.now) c.in-Some-around.number c.as_slice-old.result.now c.as_slice.ensures.value c.in_ok-runs.ensures
          c.index-run.ensures old c.in-Some-around.ensures,
    )

pub returns : goal.returns
returns c =
    let before = c.args.before.now in
    let now = c.args.now.now in
    let file = c.in-Some.file in
    let first = c.in-Some.ensures in
    let many : length before ≡ length now = c.if-before-now.false in
    let in_now : file < length now = omega (arith, first.within) in
    let last =
    where_none (AreSameFrom before now (file + 1)) (IsFirstOther before now (file + 1)) c.first_other-2.result
    (sym c.is_some.ensures ∙ c.if-is_some.false) c.first_other-2.ensures in
    differ_in_feature before now c.as_slice.result.now c.in_ok-runs.runs.items c.index-run.result.now file c.front_of.result
    c.back_of.result c.in-Some-around.number c.as_slice-old.result.now c.as_slice-new.result.now c.as_slice.ensures.value
    c.in_ok-runs.ensures c.index-run.ensures
    (file_at before file c.index-before-file.result first.within ∙ sym c.as_slice-old.ensures.value)
    (file_at now file c.index-now-file.result in_now ∙ sym c.as_slice-new.ensures.value)
    c.in-Some-around.ensures first last many c.front_of.ensures.same c.back_of.ensures.same c.back_of.ensures.within_first
    c.back_of.ensures.within_second
