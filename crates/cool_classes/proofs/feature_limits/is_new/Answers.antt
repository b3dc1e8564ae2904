-- `is_new` returns true exactly for the first method of its name in a class, if no class above has a method of that name.
use Rattle.std.proofs.Common.{◌≡◌, ℕ, List, map, Bool, ◌&&◌, cond, is_none, is_some, ap, sym, ◌∙◌, refl}
use Rattle.cool_classes.specs.declared.class_id.ClassId.{ClassId}
use Rattle.cool_classes.specs.Chains.{features_of}
use Rattle.cool_classes.specs.Entries.{classes}
use Rattle.cool_classes.specs.Features.{first_method, implementation}
use Rattle.cool_classes.specs.FirstNames.{is_index, method_name}
use Rattle.cool_classes.proofs.NewMethods.{new_counts, turned}
use Rattle.cool_classes.proofs.OwnNamesGrow.{own_there, first_method_index}
use Rattle.cool_classes.proofs.feature_limits.is_new.Goals as goal

pub returns-then-is_first_at : goal.returns-then-is_first_at
returns-then-is_first_at c =
    let p = classes c.args.table.now.entries.now in
    let d = c.args.lineage.now.class in
    let ds = c.args.lineage.now.above.items in
    let m = c.in-Method.method in
    let own = own_there c.args.table.now d c.index-own.result.now c.requires.table c.requires.lineage.within c.index-own.ensures in
    let here : c.is_first_at.result ≡ is_index c.args.index (first_method 0 (features_of p d) m.name) =
    c.is_first_at.ensures (map method_name (features_of p d)) own.methods
    ∙ ap (is_index c.args.index) (first_method_index 0 (features_of p d) c.as_slice-name.result.now)
    ∙ ap (λ (n : List ℕ). is_index c.args.index (first_method 0 (features_of p d) n)) c.as_slice-name.ensures in
    let there : c.is_none.result ≡ is_none (implementation p ds m.name) =
    turned (is_some c.nearest_method.result) c.is_none.result c.is_none.ensures ∙ ap is_none (c.nearest_method.ensures.nearest ∙ ap (λ (xs : List ClassId). implementation p xs c.as_slice-name.result.now) c.as_slice.ensures.value ∙ ap (implementation p ds) c.as_slice-name.ensures) in
    ap (λ (t : Bool). cond (t && c.is_none.result) 1 0) (sym c.if-is_first_at.true) ∙ new_counts p ds (features_of p d) c.args.index c.args.feature.now m c.is_first_at.result c.is_none.result c.in-Method.is here there

pub returns-else-is_first_at : goal.returns-else-is_first_at
returns-else-is_first_at c =
    let p = classes c.args.table.now.entries.now in
    let d = c.args.lineage.now.class in
    let ds = c.args.lineage.now.above.items in
    let m = c.in-Method.method in
    let own = own_there c.args.table.now d c.index-own.result.now c.requires.table c.requires.lineage.within c.index-own.ensures in
    let none = is_none (implementation p ds m.name) in
    let here : c.is_first_at.result ≡ is_index c.args.index (first_method 0 (features_of p d) m.name) =
    c.is_first_at.ensures (map method_name (features_of p d)) own.methods
    ∙ ap (is_index c.args.index) (first_method_index 0 (features_of p d) c.as_slice-name.result.now)
    ∙ ap (λ (n : List ℕ). is_index c.args.index (first_method 0 (features_of p d) n)) c.as_slice-name.ensures in
    ap (λ (t : Bool). cond t 1 0) c.if-is_first_at.false ∙ ap (λ (t : Bool). cond (t && none) 1 0) (sym c.if-is_first_at.false)
    ∙ new_counts p ds (features_of p d) c.args.index c.args.feature.now m c.is_first_at.result none c.in-Method.is here refl
