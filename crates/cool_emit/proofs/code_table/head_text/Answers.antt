-- `head_text` returns the row of debug information for a method and those of its formal parameters, or the row for an initial value. The formal parameters are
-- the latest names in scope, so `names_text` takes as many names.
use Rattle.std.proofs.Common.{◌≡◌, ◌∙◌, ◌≤◌, ◌++◌, ℕ, List, [], length, flat_map, take, ap, ap₂, subst, sym, refl, append-nil, arith}
use Rattle.std.specs.Prelude.{codes, Option, Some, None, IfOk, is_some, map, true, false}
use Rattle.std.proofs.lemmas.List.{length-append}
use Rattle.cool_syntax.specs.declared.file_tree.Feature.{Feature}
use Rattle.cool_syntax.specs.declared.file_tree.Feature.TheVariants.{Method, Attribute}
use Rattle.cool_syntax.specs.declared.file_tree.Formal.{Formal}
use Rattle.cool_syntax.specs.Tree.{Tree}
use Rattle.cool_classes.specs.Chains.{Class, features_of}
use Rattle.cool_codegen.specs.Features.{attributes_in, with_formals}
use Rattle.cool_codegen.specs.Variables.{Named}
use Rattle.cool_codegen.proofs.FeaturesThere.{one_there, stands}
use Rattle.cool_emit.specs.CodeTables.{formal_row, head_rows, initial_row, initial_rows, method_row}
use Rattle.cool_emit.specs.TableLines.{named_text, range_text, row_line}
use Rattle.cool_emit.proofs.FeaturesTold.{formal_lines, formals_first, formals_taken, length_formals}
use Rattle.cool_emit.proofs.code_table.head_text.Goals as goal

-- there are as many names as formals
enough : (p : List Class) (fs : List Formal) (vs : List Named) → length fs ≤ length (with_formals p fs vs)
enough p fs vs =
    let l = ap length (formals_first p fs vs) ∙ length-append (with_formals p fs []) vs in
    let h = length_formals p fs in
    omega arith

-- an attribute with a value or without
of_initial : (p : List Class) (from to : ℕ) (name : List ℕ) (o : Option Tree) → is_some o ≡ true
    → codes "initial " ++ (range_text from to ++ (codes " " ++ (name ++ codes "\n"))) ≡ flat_map (row_line p) (initial_rows from to name o)
of_initial p from to name None some = absurd (cc)
of_initial p from to name (Some t) some = sym (append_end p from to name)
  where
    append_end : (p : List Class) (from to : ℕ) (name : List ℕ) → row_line p (initial_row from to name) ++ [] ≡ row_line p (initial_row from to name)
    append_end p from to name = append-nil (row_line p (initial_row from to name))

of_none : (p : List Class) (from to : ℕ) (name : List ℕ) (o : Option Tree) → is_some o ≡ false → [] ≡ flat_map (row_line p) (initial_rows from to name o)
of_none p from to name None none = refl
of_none p from to name (Some t) none = absurd (cc)

-- a method and its formals
of_method : (p : List Class) (from to : ℕ) (name : List ℕ) (fs : List Formal) (vs names : List Named) (first rest text : List ℕ) → names ≡ with_formals p fs vs
    → first ≡ row_line p (method_row from to name) → rest ≡ flat_map (λ v. codes "formal " ++ (named_text p v ++ codes "\n")) (take (length fs) names) → text ≡ first ++ rest
    → text ≡ row_line p (method_row from to name) ++ flat_map (row_line p) (map formal_row (with_formals p fs []))
of_method p from to name fs vs names first rest text scope one more whole =
    whole
    ∙ ap₂ (λ (t u : List ℕ). t ++ u) one
    (more ∙ ap (λ (us : List Named). flat_map (λ v. codes "formal " ++ (named_text p v ++ codes "\n")) (take (length fs) us)) scope
    ∙ ap (flat_map (λ v. codes "formal " ++ (named_text p v ++ codes "\n"))) (formals_taken p fs vs)
    ∙ formal_lines p (with_formals p fs []))

pub names_text-requires : goal.names_text-requires
names_text-requires c =
    let p = c.args.emission.now.program.now in
    let fs = features_of p c.args.c in
    let same = c.features.ensures.features ∙ ap (λ (q : List Class). features_of q c.args.c) c.table.ensures in
    let here = stands fs c.features.result.now c.args.feature c.index-features-feature.result same c.requires.feature c.index-features-feature.is in
    let scope = c.requires.names (Method c.in-Method.method) (here ∙ ap Some c.in-Method.is) in
    let few = enough p c.in-Method.method.formals (attributes_in p c.args.c) in
    let long = ap length scope in
    let all = ap length c.as_slice-in-Method.ensures in
    record { few = omega arith }

pub returns-in-Method : goal.returns-in-Method
returns-in-Method c x e =
    let p = c.args.emission.now.program.now in
    let fs = features_of p c.args.c in
    let m = c.in-Method.method in
    let same = c.features.ensures.features ∙ ap (λ (q : List Class). features_of q c.args.c) c.table.ensures in
    let here = stands fs c.features.result.now c.args.feature c.index-features-feature.result same c.requires.feature c.index-features-feature.is in
    let scope = c.requires.names (Method m) (here ∙ ap Some c.in-Method.is) in
    let is : x ≡ Method m = one_there fs c.args.feature c.index-features-feature.result x here e ∙ c.in-Method.is in
    subst (λ (y : Feature). c.extend_from_slice.new.self.items ≡ flat_map (row_line p) (head_rows p c.args.from c.args.to y)) (sym is)
    (of_method p c.args.from c.args.to m.name m.formals (attributes_in p c.args.c) c.args.names c.in_ok-text-in-Method.text.items c.in_ok-names_text-in-Method.field-0.items c.extend_from_slice.new.self.items
    scope
    (c.in_ok-text-in-Method.ensures ∙ ap (λ (name : List ℕ). row_line p (method_row c.args.from c.args.to name)) c.as_slice.ensures)
    (c.in_ok-names_text-in-Method.ensures ∙ ap (λ (gs : List Formal). flat_map (λ v. codes "formal " ++ (named_text p v ++ codes "\n")) (take (length gs) c.args.names)) c.as_slice-in-Method.ensures)
    (c.in_ok-extend_from_slice-in-Method.ensures.items ∙ ap (λ (t : List ℕ). c.in_ok-text-in-Method.text.items ++ t) c.deref.ensures.value))

pub returns-then-is_some : goal.returns-then-is_some
returns-then-is_some c x e =
    let p = c.args.emission.now.program.now in
    let fs = features_of p c.args.c in
    let a = c.in-Attribute.attribute in
    let same = c.features.ensures.features ∙ ap (λ (q : List Class). features_of q c.args.c) c.table.ensures in
    let here = stands fs c.features.result.now c.args.feature c.index-features-feature.result same c.requires.feature c.index-features-feature.is in
    let is : x ≡ Attribute a = one_there fs c.args.feature c.index-features-feature.result x here e ∙ c.in-Attribute.is in
    let some : is_some a.init ≡ true = sym c.is_some.ensures ∙ c.if-is_some.true in
    subst (λ (y : Feature). IfOk c.feature_line-then-is_some.result (λ text. text.items ≡ flat_map (row_line p) (head_rows p c.args.from c.args.to y))) (sym is)
    (subst (λ (l : List ℕ). IfOk c.feature_line-then-is_some.result (λ text. text.items ≡ l))
    (ap (λ (name : List ℕ). codes "initial " ++ (range_text c.args.from c.args.to ++ (codes " " ++ (name ++ codes "\n")))) c.as_slice-then-is_some.ensures
    ∙ of_initial p c.args.from c.args.to a.name a.init some)
    c.feature_line-then-is_some.ensures)

pub returns : goal.returns
returns c x e =
    let p = c.args.emission.now.program.now in
    let fs = features_of p c.args.c in
    let a = c.in-Attribute.attribute in
    let same = c.features.ensures.features ∙ ap (λ (q : List Class). features_of q c.args.c) c.table.ensures in
    let here = stands fs c.features.result.now c.args.feature c.index-features-feature.result same c.requires.feature c.index-features-feature.is in
    let is : x ≡ Attribute a = one_there fs c.args.feature c.index-features-feature.result x here e ∙ c.in-Attribute.is in
    let none : is_some a.init ≡ false = sym c.is_some.ensures ∙ c.if-is_some.false in
    subst (λ (y : Feature). c.new.result.items ≡ flat_map (row_line p) (head_rows p c.args.from c.args.to y)) (sym is)
    (c.new.ensures.items ∙ of_none p c.args.from c.args.to a.name a.init none)
