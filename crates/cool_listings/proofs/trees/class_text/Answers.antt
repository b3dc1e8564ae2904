-- Each step of the loop of `class_text` adds the lines of the next feature, with the types of the nodes of this feature.
use Rattle.std.proofs.Common.{◌≡◌, ◌∙◌, ℕ, List, ◌++◌, ap, sym, subst, arith, Bor}
use Rattle.std.specs.Prelude.{Option, Some, None}
use Rattle.std.specs.Option.{option_map}
use Rattle.cool_syntax.specs.declared.file_tree.Feature.{Feature}
use Rattle.cool_classes.specs.Chains.{Class}
use Rattle.cool_rules.specs.declared.typed_program.TypedProgram.{TypedProgram}
use Rattle.cool_extents.specs.FoundExtents.{found_extents}
use Rattle.cool_listings.specs.declared.trees.Column.{Column}
use Rattle.cool_listings.specs.Columns.{column_seen, FitsClass, FitsFeature}
use Rattle.cool_listings.specs.TreeLines.{class_text, column_of, feature_text}
use Rattle.cool_listings.proofs.ColumnsFit.{column_told, feature_fits, feature_there, few_features, none_fits}
use Rattle.cool_listings.proofs.LinesLeft.{piece_more}
use Rattle.cool_listings.proofs.trees.class_text.Goals.{in-Some, in-None}
use Rattle.cool_listings.proofs.trees.class_text.Goals as goal

pub overflow_cast-index : goal.overflow_cast-index
overflow_cast-index c =
    let p = c.in-Some.program.now in
    let fits : FitsClass (Some p) c.args.number c.args.class.now = subst (λ (o : Option (Bor TypedProgram)). FitsClass (option_map (λ q. q.now) o) c.args.number c.args.class.now) c.in-Some.is c.requires.fits in
    let low = few_features p c.table.result.now c.args.number c.args.class.now c.as_slice-features.result.now c.loop-index.index c.table.ensures.table c.table.ensures.typed fits c.as_slice-features.ensures c.loop-index-test.true in
    omega arith

pub feature_text-requires : goal.feature_text-requires
feature_text-requires c =
    let x = c.index-features-index.result in
    record {
      rising = c.requires.rising;
      fits =
          elim c.match-program.branch [
            | in-Some w ↦
                let p = w.in-Some.program.now in
                let fits : FitsClass (Some p) c.args.number c.args.class.now = subst (λ (o : Option (Bor TypedProgram)). FitsClass (option_map (λ q. q.now) o) c.args.number c.args.class.now) w.in-Some.is c.requires.fits in
                let there = feature_there p c.args.number c.args.class.now c.as_slice-features.result.now c.loop-index.index x fits c.as_slice-features.ensures c.loop-index-test.true c.index-features-index.is in
                subst (λ (o : Option Column). FitsFeature o x) (sym w.column-is) (feature_fits p (record { 0 = c.args.number }) x (record { table = w.table.result; types = w.types.result }) (w.types.ensures x there))
            | in-None w ↦ subst (λ (o : Option Column). FitsFeature o x) (sym w.column-is) (none_fits x)
          ];
    }

pub loop-index-preserved : goal.loop-index-preserved
loop-index-preserved c =
    let x = c.index-features-index.result in
    let P : Option (Bor TypedProgram) → Option (List Class) = λ o. option_map (λ q. q.now) o in
    let told : column_seen c.match-program.column ≡ column_of (P c.args.program) c.args.number x =
    elim c.match-program.branch [
      | in-Some w ↦
          let p = w.in-Some.program.now in
          let fits : FitsClass (Some p) c.args.number c.args.class.now = subst (λ (o : Option (Bor TypedProgram)). FitsClass (P o) c.args.number c.args.class.now) w.in-Some.is c.requires.fits in
          let there = feature_there p c.args.number c.args.class.now c.as_slice-features.result.now c.loop-index.index x fits c.as_slice-features.ensures c.loop-index-test.true c.index-features-index.is in
          ap column_seen w.column-is
          ∙ column_told p c.args.number x (record { table = w.table.result; types = w.types.result }) w.table.ensures.table (w.types.ensures x there)
          ∙ ap (λ (o : Option (Bor TypedProgram)). column_of (P o) c.args.number x) (sym w.in-Some.is)
      | in-None w ↦ ap column_seen w.column-is ∙ ap (λ (o : Option (Bor TypedProgram)). column_of (P o) c.args.number x) (sym w.in-None.is)
    ] in
    piece_more (λ (feature : Feature). feature_text (column_of (P c.args.program) c.args.number feature) (found_extents c.args.tokens.now) feature) c.as_slice-features.result.now c.loop-index.index x c.loop-index.text.items c.in_ok-feature_text.field-0.items c.extend_from_slice.new.self.items
    (class_text (P c.args.program) (found_extents c.args.tokens.now) c.args.number c.args.class.now)
    c.loop-index-test.true c.index-features-index.is
    (c.in_ok-feature_text.ensures ∙ ap (λ o. feature_text o (found_extents c.args.tokens.now) x) told)
    (c.in_ok-extend_from_slice.ensures.items ∙ ap (λ (l : List ℕ). c.loop-index.text.items ++ l) c.deref.ensures.value)
    c.loop-index.invariant
