-- `Told::add_features` appends the debug information of those features of a class that belong to a part (the attributes, or the methods). Each step of its loop
-- handles one feature.
use Rattle.std.proofs.Common.{◌≡◌, ◌∙◌, ◌+◌, ◌^◌, ◌<◌, ◌≤◌, ◌++◌, ◌∷◌, List, [], length, flat_map, slice_get, Some, take, get_or, ap, sym, subst, arith}
use Rattle.cool_syntax.specs.declared.file_tree.Feature.{Feature}
use Rattle.cool_classes.specs.Chains.{Class, features_of}
use Rattle.cool_codegen.proofs.FeaturesThere.{stands}
use Rattle.cool_runtime.specs.Standing.{sizes}
use Rattle.cool_emit.specs.Additions.{files_of, part_of}
use Rattle.cool_emit.specs.Programs.{Placed, placed_code}
use Rattle.cool_emit.specs.Tellings.{TellsFeatures, constants}
use Rattle.cool_emit.specs.declared.code_table.Told.{Told}
use Rattle.cool_emit.proofs.AddingParts.{front_length, part_from, take_more, whole_front, whole_part}
use Rattle.cool_emit.proofs.RoomOfTables.{feature_within}
use Rattle.cool_emit.proofs.TellingParts.{one_passed, one_told}
use Rattle.cool_emit.proofs.code_table.Told.add_features.Goals.{then-has+in_ok-add_feature, else-has}
use Rattle.cool_emit.proofs.code_table.Told.add_features.Goals as goal

pub add_feature-requires-clause-room : goal.add_feature-requires-clause-room
add_feature-requires-clause-room c y there =
    let e = c.args.emission.now in
    let p = e.program.now in
    let fs = features_of p c.args.c in
    let i = c.loop-index.index in
    let x = c.index-features-index.result in
    let same = c.features-features.ensures.features ∙ ap (λ (q : List Class). features_of q c.args.c) c.table.ensures in
    let less = subst (λ (gs : List Feature). i < length gs) same c.loop-index-test.true in
    let is = subst (λ (gs : List Feature). x ≡ get_or gs i x) same c.index-features-index.is in
    let here : slice_get fs i ≡ Some x = stands fs c.features-features.result.now i x same less c.index-features-index.is in
    let one : x ≡ y = cc in
    let code = placed_code p (files_of e) (constants e) c.args.c in
    let within = feature_within code c.args.part fs i x less is (front_length fs i less) (sym c.has.ensures ∙ c.if-has.true) in
    let all : sizes (flat_map code (part_from c.args.part 0 fs)) ≡ sizes (flat_map code (part_of c.args.part p c.args.c)) = ap (λ (ps : List Placed). sizes (flat_map code ps)) (whole_part c.args.part p c.args.c) in
    let address : c.loop-index.self.address ≡ c.args.self.now.address + sizes (flat_map code (part_from c.args.part 0 (take i fs))) = c.loop-index.invariant.address in
    let room : c.args.self.now.address + sizes (flat_map code (part_of c.args.part p c.args.c)) < 2 ^ 32 = c.requires.room in
    subst (λ (z : Feature). c.loop-index.self.address + sizes (code (record { place = i; feature = z })) < 2 ^ 32) one (omega arith)

pub loop-index-preserved : goal.loop-index-preserved
loop-index-preserved c =
    let e = c.args.emission.now in
    let fs = features_of e.program.now c.args.c in
    let i = c.loop-index.index in
    let x = c.index-features-index.result in
    let same = c.features-features.ensures.features ∙ ap (λ (q : List Class). features_of q c.args.c) c.table.ensures in
    let less = subst (λ (gs : List Feature). i < length gs) same c.loop-index-test.true in
    let is = subst (λ (gs : List Feature). x ≡ get_or gs i x) same c.index-features-index.is in
    let here = stands fs c.features-features.result.now i x same less c.index-features-index.is in
    let long = front_length fs i less in
    let Done : List Feature → Told → Type 0 = λ gs t. TellsFeatures e c.args.c (part_from c.args.part 0 gs) c.args.self.now t in
    let next : Done (take i fs ++ x ∷ []) c.if-has.self =
    elim c.if-has.branch [
      | then-has+in_ok-add_feature w ↦
          subst (Done (take i fs ++ x ∷ [])) (sym w.self-is)
          (one_told e c.args.c c.args.part (take i fs) i x c.args.self.now c.loop-index.self w.add_feature.new.self (sym c.has.ensures ∙ w.if-has.true) long c.loop-index.invariant (w.in_ok-add_feature.ensures x here))
      | else-has w ↦
          subst (Done (take i fs ++ x ∷ [])) (sym w.self-is)
          (one_passed e c.args.c c.args.part (take i fs) i x c.args.self.now c.loop-index.self (sym c.has.ensures ∙ w.if-has.false) long c.loop-index.invariant)
    ] in
    subst (λ (gs : List Feature). Done gs c.if-has.self) (sym (take_more fs i x less is)) next

pub returns : goal.returns
returns c =
    let e = c.args.emission.now in
    let p = e.program.now in
    let fs = features_of p c.args.c in
    let i = c.loop-index.index in
    let same = c.features-features.ensures.features ∙ ap (λ (q : List Class). features_of q c.args.c) c.table.ensures in
    let all : take i fs ≡ fs = whole_front fs i (let no = c.loop-index-test.false in let long = ap length same in omega arith) in
    let told = subst (λ (gs : List Feature). TellsFeatures e c.args.c (part_from c.args.part 0 gs) c.args.self.now c.loop-index.self) all c.loop-index.invariant in
    subst (λ (ps : List Placed). TellsFeatures e c.args.c ps c.args.self.now c.loop-index.self) (whole_part c.args.part p c.args.c) told
