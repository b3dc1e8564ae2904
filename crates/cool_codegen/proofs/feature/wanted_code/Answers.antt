-- `wanted_code` returns the code of the feature at a number in a class: that of a method, that of an initial value, or none. The feature of the postcondition
-- is the one that the code reads, because both are found by the same number.
use Rattle.std.proofs.Common.{◌≡◌, ◌∙◌, ◌<◌, ◌++◌, List, [], length, map, Option, Some, ap, sym, subst, arith}
use Rattle.std.specs.Prelude.{string_bytes, IfOk, OnOk}
use Rattle.mips_isa.specs.Lines.{lines_of}
use Rattle.cool_syntax.specs.declared.file_tree.Feature.{Feature}
use Rattle.cool_syntax.specs.declared.file_tree.Formal.{Formal}
use Rattle.cool_syntax.specs.Tree.{Tree}
use Rattle.cool_classes.specs.Chains.{Class, features_of}
use Rattle.cool_rules.specs.NodeTypes.{feature_types, initial_types, node_types}
use Rattle.cool_rules.specs.TypedTables.{IsTypedTable}
use Rattle.cool_consts.specs.Constants.{Constants}
use Rattle.cool_codegen.specs.declared.feature.FeatureCode.{FeatureCode}
use Rattle.cool_syntax.specs.declared.file_tree.Feature.TheVariants.{Method, Attribute}
use Rattle.cool_codegen.specs.AddedCode.{MakesFeature}
use Rattle.cool_codegen.specs.Shown.{noted, shown, shown_of}
use Rattle.cool_codegen.specs.Spans.{initial_value_spans, method_spans}
use Rattle.cool_codegen.specs.Asked.{with_integers, with_strings, Extends}
use Rattle.cool_codegen.specs.Code.{Context}
use Rattle.cool_codegen.specs.Features.{attributes_in, initial_integers, initial_strings, initial_value_code, method_code, with_formals}
use Rattle.cool_codegen.specs.Variables.{scope_of}
use Rattle.cool_codegen.proofs.AttributesOfClasses.{attribute_there}
use Rattle.cool_codegen.proofs.ConstantsKept.{extended_kept}
use Rattle.cool_codegen.proofs.FeaturesThere.{one_there, small_value, stands}
use Rattle.cool_codegen.proofs.ScopesOfFeatures.{method_types, value_types}
use Rattle.cool_codegen.proofs.feature.wanted_code.Goals as goal

pub initial_value_code-requires-clause-there : goal.initial_value_code-requires-clause-there
initial_value_code-requires-clause-there c =
    let t = c.table-table.result.now in
    let less = subst (λ (p : List Class). c.args.feature < length (features_of p c.args.c)) (sym c.table-table.ensures.table) c.requires.feature in
    let here = stands (features_of t c.args.c) c.features.result.now c.args.feature c.index-features-feature.result c.features.ensures.features less c.index-features-feature.is in
    attribute_there t c.args.c c.args.feature c.in-Attribute.attribute (here ∙ ap Some c.in-Attribute.is)

pub initial_value_code-requires-clause-room : goal.initial_value_code-requires-clause-room
initial_value_code-requires-clause-room c =
    let same = c.features.ensures.features ∙ ap (λ (p : List Class). features_of p c.args.c) c.table-table.ensures.table in
    let here = stands (features_of c.args.p.now c.args.c) c.features.result.now c.args.feature c.index-features-feature.result same c.requires.feature c.index-features-feature.is in
    let small = small_value c.args.p.now (length c.args.names.now) c.args.c c.args.feature c.in-Attribute.attribute c.in-Some.body c.requires.fits c.requires.class (here ∙ ap Some c.in-Attribute.is) c.in-Some.is in
    let few_integers = c.requires.few_integers in
    let few_strings = c.requires.few_strings in
    record { deep = omega arith; integers = omega arith; strings = omega arith }

pub method_code-requires-clause-types : goal.method_code-requires-clause-types
method_code-requires-clause-types c =
    let p = c.args.p.now in
    let k = c.args.c in
    let m = c.in-Method.method in
    let same = c.features.ensures.features ∙ ap (λ (q : List Class). features_of q k) c.table-table.ensures.table in
    let here = stands (features_of p k) c.features.result.now c.args.feature c.index-features-feature.result same c.requires.feature c.index-features-feature.is in
    let typed = subst IsTypedTable c.table-table.ensures.table c.table-table.ensures.typed in
    let table = sym c.table-table.ensures.table in
    let formals = sym c.as_slice.ensures in
    c.types-types.ensures c.index-features-feature.result here
    ∙ ap (feature_types p k) c.in-Method.is
    ∙ method_types p typed k c.requires.class c.args.feature m (here ∙ ap Some c.in-Method.is)
    ∙ (λ i. node_types (table i) k (scope_of (with_formals (table i) (formals i) (attributes_in (table i) k))) m.body)

pub initial_value_code-requires-clause-types : goal.initial_value_code-requires-clause-types
initial_value_code-requires-clause-types c =
    let p = c.args.p.now in
    let k = c.args.c in
    let same = c.features.ensures.features ∙ ap (λ (q : List Class). features_of q k) c.table-table.ensures.table in
    let here = stands (features_of p k) c.features.result.now c.args.feature c.index-features-feature.result same c.requires.feature c.index-features-feature.is in
    let typed = subst IsTypedTable c.table-table.ensures.table c.table-table.ensures.typed in
    let table = sym c.table-table.ensures.table in
    c.types-types.ensures c.index-features-feature.result here
    ∙ ap (feature_types p k) c.in-Attribute.is
    ∙ ap (initial_types p k) c.in-Some.is
    ∙ value_types p typed k c.requires.class c.in-Some.body
    ∙ (λ i. node_types (table i) k (scope_of (attributes_in (table i) k)) c.in-Some.body)

pub returns-in-Method-clause-made : goal.returns-in-Method-clause-made
returns-in-Method-clause-made c x is =
    let p = c.args.p.now in
    let k = c.args.c in
    let files = map string_bytes c.args.names.now in
    let found = c.index-features-feature.result in
    let same = c.features.ensures.features ∙ ap (λ (q : List Class). features_of q k) c.table-table.ensures.table in
    let here = stands (features_of p k) c.features.result.now c.args.feature found same c.requires.feature c.index-features-feature.is in
    let s : Context = record { table = c.table-table.result.now; class = k; feature = c.args.feature; files = files } in
    let m = c.in-Method.method in
    let t = c.args.consts.now in
    let u = c.method_code.new.consts in
    let r = c.method_code.result in
    let made = c.method_code.ensures.made in
    let formals = c.as_slice.ensures in
    let parts : MakesFeature c.args.wanted s (Method m) t u r = record {
      lines = subst (λ (fs : List Formal). IfOk r (λ (code : FeatureCode). (g : Constants) → Extends u g → lines_of code.lines.items ≡ method_code s g fs m.body)) formals made.lines;
      spans = subst (λ (fs : List Formal). IfOk r (λ (code : FeatureCode). (g : Constants) → map shown_of code.spans.items ≡ noted c.args.wanted (map (shown s g) (method_spans length s g fs 0 m.body)))) formals made.spans;
      names = subst (λ (fs : List Formal). IfOk r (λ (code : FeatureCode). code.names ≡ with_formals s.table fs (attributes_in s.table s.class))) formals made.names;
      integers = made.integers;
      strings = made.strings;
    } in
    subst (λ (y : Feature). MakesFeature c.args.wanted (record { table = p; class = k; feature = c.args.feature; files = files }) y t u r) (sym (one_there (features_of p k) c.args.feature found x here is))
    (subst (λ (q : List Class). MakesFeature c.args.wanted (record { table = q; class = k; feature = c.args.feature; files = files }) found t u r) c.table-table.ensures.table
    (subst (λ (y : Feature). MakesFeature c.args.wanted s y t u r) (sym c.in-Method.is) parts))

pub returns-in-Some-clause-made : goal.returns-in-Some-clause-made
returns-in-Some-clause-made c x is =
    let p = c.args.p.now in
    let k = c.args.c in
    let files = map string_bytes c.args.names.now in
    let found = c.index-features-feature.result in
    let same = c.features.ensures.features ∙ ap (λ (q : List Class). features_of q k) c.table-table.ensures.table in
    let here = stands (features_of p k) c.features.result.now c.args.feature found same c.requires.feature c.index-features-feature.is in
    let s : Context = record { table = c.table-table.result.now; class = k; feature = c.args.feature; files = files } in
    let t = c.args.consts.now in
    let u = c.initial_value_code.new.consts in
    let r = c.initial_value_code.result in
    let made = c.initial_value_code.ensures.made in
    let init = sym c.in-Some.is in
    let parts : MakesFeature c.args.wanted s (Attribute c.in-Attribute.attribute) t u r = record {
      lines = subst (λ (o : Option Tree). IfOk r (λ (code : FeatureCode). (g : Constants) → Extends u g → lines_of code.lines.items ≡ initial_value_code s g o)) init made.lines;
      spans = subst (λ (o : Option Tree). IfOk r (λ (code : FeatureCode). (g : Constants) → map shown_of code.spans.items ≡ noted c.args.wanted (map (shown s g) (initial_value_spans length s g 0 o)))) init made.spans;
      names = made.names;
      integers = subst (λ (o : Option Tree). OnOk r (u.integers ≡ with_integers t.integers (initial_integers o))) init made.integers;
      strings = subst (λ (o : Option Tree). OnOk r (u.strings ≡ with_strings t.strings (initial_strings files o))) init made.strings;
    } in
    subst (λ (y : Feature). MakesFeature c.args.wanted (record { table = p; class = k; feature = c.args.feature; files = files }) y t u r) (sym (one_there (features_of p k) c.args.feature found x here is))
    (subst (λ (q : List Class). MakesFeature c.args.wanted (record { table = q; class = k; feature = c.args.feature; files = files }) found t u r) c.table-table.ensures.table
    (subst (λ (y : Feature). MakesFeature c.args.wanted s y t u r) (sym c.in-Attribute.is) parts))

pub returns-in-Method-clause-kept : goal.returns-in-Method-clause-kept
returns-in-Method-clause-kept c = extended_kept _ _ c.method_code.ensures.made.kept

pub returns-in-Some-clause-kept : goal.returns-in-Some-clause-kept
returns-in-Some-clause-kept c = extended_kept _ _ c.initial_value_code.ensures.made.kept
