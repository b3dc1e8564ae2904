-- `Emission::add_features` appends the code of those features of a class that belong to a part (attributes or methods). The constants stay fewer than 2 ^ 31,
-- as `add_feature` requires, because the features use few.
use Rattle.std.proofs.Common.{◌≡◌, ◌∙◌, ◌<◌, ◌++◌, ◌∷◌, List, [], length, take, get_or, ap, sym, subst, arith}
use Rattle.mips_isa.specs.Lines.{Line, lines_of}
use Rattle.cool_syntax.specs.declared.file_tree.Feature.{Feature}
use Rattle.cool_classes.specs.Chains.{Class, features_of}
use Rattle.cool_consts.specs.Constants.{Constants}
use Rattle.cool_codegen.proofs.FeaturesThere.{stands}
use Rattle.cool_emit.specs.Programs.{Placed}
use Rattle.cool_emit.specs.Additions.{Adds, files_of}
use Rattle.cool_emit.proofs.AddingParts.{code_in, front_length, one_belongs, one_passed, part_from, take_more, whole_front, whole_part}
use Rattle.cool_emit.proofs.PartsAreLight.{few_more_integers, few_more_strings, light_part}
use Rattle.cool_emit.proofs.emission.Emission.add_features.Goals.{then-has+in_ok-add_feature, else-has}
use Rattle.cool_emit.proofs.emission.Emission.add_features.Goals as goal

pub add_feature-requires-clause-few_integers : goal.add_feature-requires-clause-few_integers
add_feature-requires-clause-few_integers c =
    let e = c.args.self.now in
    let light = light_part e.program.now (files_of e) c.requires.sound.buildable c.args.c c.args.part c.loop-index.index in
    let more = few_more_integers (files_of e) _ _ _ _ _ _ c.loop-index.invariant in
    let few = c.requires.few_integers in
    omega arith

pub add_feature-requires-clause-few_strings : goal.add_feature-requires-clause-few_strings
add_feature-requires-clause-few_strings c =
    let e = c.args.self.now in
    let light = light_part e.program.now (files_of e) c.requires.sound.buildable c.args.c c.args.part c.loop-index.index in
    let more = few_more_strings (files_of e) _ _ _ _ _ _ c.loop-index.invariant in
    let few = c.requires.few_strings in
    omega arith

pub loop-index-preserved : goal.loop-index-preserved
loop-index-preserved c =
    let e = c.args.self.now in
    let p = e.program.now in
    let files = files_of e in
    let fs = features_of p c.args.c in
    let i = c.loop-index.index in
    let x = c.index-features-index.result in
    let old = c.args.consts.now in
    let front = lines_of c.args.lines.now.items in
    let same = c.features-features.ensures.features ∙ ap (λ (q : List Class). features_of q c.args.c) c.table.ensures in
    let less = subst (λ (gs : List Feature). i < length gs) same c.loop-index-test.true in
    let is = subst (λ (gs : List Feature). x ≡ get_or gs i x) same c.index-features-index.is in
    let here = stands fs c.features-features.result.now i x same less c.index-features-index.is in
    let long = front_length fs i less in
    let Done : List Feature → Constants → List Line → Type 0 =
    λ gs t ls. Adds files (part_from c.args.part 0 gs) (code_in p files c.args.c (part_from c.args.part 0 gs)) old t front ls in
    let next : Done (take i fs ++ x ∷ []) c.if-has.consts (lines_of c.if-has.lines.items) =
    elim c.if-has.branch [
      | then-has+in_ok-add_feature w ↦
          let added = one_belongs p files c.args.c c.args.part (take i fs) i x old c.loop-index.consts
          w.add_feature.new.consts front (lines_of c.loop-index.lines.items) (lines_of w.add_feature.new.lines.items)
          (sym c.has.ensures ∙ w.if-has.true) long c.loop-index.invariant (w.in_ok-add_feature.ensures x here) in
          subst (λ (t : Constants). Done (take i fs ++ x ∷ []) t (lines_of c.if-has.lines.items)) (sym w.consts-is)
          (subst (λ ls. Done (take i fs ++ x ∷ []) w.add_feature.new.consts (lines_of ls.items)) (sym w.lines-is) added)
      | else-has w ↦
          let passed = one_passed p files c.args.c c.args.part (take i fs) i x old c.loop-index.consts front
          (lines_of c.loop-index.lines.items) (sym c.has.ensures ∙ w.if-has.false) long c.loop-index.invariant in
          subst (λ (t : Constants). Done (take i fs ++ x ∷ []) t (lines_of c.if-has.lines.items)) (sym w.consts-is)
          (subst (λ ls. Done (take i fs ++ x ∷ []) c.loop-index.consts (lines_of ls.items)) (sym w.lines-is) passed)
    ] in
    subst (λ (gs : List Feature). Done gs c.if-has.consts (lines_of c.if-has.lines.items)) (sym (take_more fs i x less is)) next

pub returns : goal.returns
returns c =
    let e = c.args.self.now in
    let p = e.program.now in
    let files = files_of e in
    let fs = features_of p c.args.c in
    let i = c.loop-index.index in
    let same = c.features-features.ensures.features ∙ ap (λ (q : List Class). features_of q c.args.c) c.table.ensures in
    let all : take i fs ≡ fs = whole_front fs i (let no = c.loop-index-test.false in let long = ap length same in omega arith) in
    let front = lines_of c.args.lines.now.items in
    let behind = lines_of c.loop-index.lines.items in
    let Done : List Placed → Type 0 =
    λ ps. Adds files ps (code_in p files c.args.c ps) c.args.consts.now c.loop-index.consts front behind in
    let added = subst (λ (gs : List Feature). Done (part_from c.args.part 0 gs)) all c.loop-index.invariant in
    subst Done (whole_part c.args.part p c.args.c) added
