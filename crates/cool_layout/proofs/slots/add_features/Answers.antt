-- `add_features` adds the methods among the features of a class to its dispatch table: each step of its loop adds one feature if it is a method.
use Rattle.std.proofs.Common.{◌≡◌, ℕ, ◌+◌, List, [], ◌∷◌, ◌++◌, take, sym, ap, ◌∙◌, subst, arith}
use Rattle.std.proofs.lemmas.List.{take_all}
use Rattle.cool_syntax.specs.declared.file_tree.Feature.{Feature}
use Rattle.cool_classes.specs.declared.method.MethodRef.TheVariants.{User}
use Rattle.cool_layout.specs.declared.slots.Table.{Table}
use Rattle.cool_layout.specs.SlotTables.{OwnMethod, Has, user_own}
use Rattle.cool_layout.proofs.FindingSlots.{method_more, other_more}
use Rattle.cool_layout.proofs.slots.add_features.Goals as goal
use Rattle.cool_layout.proofs.slots.add_features.Goals.{in-Method+in_ok-add_method, in_default}

pub add_method-requires-clause-table : goal.add_method-requires-clause-table
add_method-requires-clause-table c = (user_own c.args.class 0 (take c.loop-index.index c.features-features.result.now), c.loop-index.invariant.1)

pub loop-index-preserved : goal.loop-index-preserved
loop-index-preserved c =
    let p = c.args.t.now in
    let d = c.args.class in
    let fs : List Feature = c.features-features.result.now in
    let i : ℕ = c.loop-index.index in
    elim c.match-features-index.branch [
      | in-Method+in_ok-add_method w ↦
          let own : List OwnMethod = user_own d 0 (take i fs) in
          let m = w.in-Method.method in
          let more = w.in_ok-add_method.ensures.table own c.loop-index.invariant.1 in
          let all : own ++ record { name = w.as_slice-name.result.now; method = User d i } ∷ [] ≡ user_own d 0 (take (i + 1) fs) =
          ap (λ (n : List ℕ). own ++ record { name = n; method = User d i } ∷ []) w.as_slice-name.ensures ∙ sym (method_more d fs i c.index-features-index.result m c.loop-index-test.true c.index-features-index.is w.in-Method.is) in (
            ap (λ (x : Table). x.above) w.table-is ∙ w.in_ok-add_method.ensures.above ∙ c.loop-index.invariant.0,
            subst (λ (x : Table). Has p (user_own d 0 (take (i + 1) fs)) x) (sym w.table-is) (subst (λ (xs : List OwnMethod). Has p xs w.add_method.new.table) all more),
          )
      | in_default w ↦
          let same = other_more d fs i c.index-features-index.result c.loop-index-test.true c.index-features-index.is w.in_default.not-Method in (
            ap (λ (x : Table). x.above) w.table-is ∙ c.loop-index.invariant.0,
            subst (λ (x : Table). Has p (user_own d 0 (take (i + 1) fs)) x) (sym w.table-is) (subst (λ (xs : List OwnMethod). Has p xs c.loop-index.table) (sym same) c.loop-index.invariant.1),
          )
    ]

pub returns-clause-table : goal.returns-clause-table
returns-clause-table c =
    let all : take c.loop-index.index c.features-features.result.now ≡ c.features-features.result.now = take_all c.loop-index.index c.features-features.result.now (let end = c.loop-index-test.false in omega arith) in
    subst (λ (fs : List Feature). Has c.args.t.now (user_own c.args.class 0 fs) c.loop-index.table) (all ∙ c.features-features.ensures.features) c.loop-index.invariant.1
