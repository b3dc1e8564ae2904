-- `TypedProgram::types` returns the types of the nodes of one feature's expression: the invariant of `TypedProgram` has one list of types for each feature
-- of each class.
use Rattle.std.proofs.Common.{◌≡◌, List, length, get_or, ap, ◌∙◌, subst, arith}
use Rattle.std.specs.Global.{Vec}
use Rattle.cool_classes.specs.declared.class_id.Ty.{Ty}
use Rattle.cool_classes.specs.Chains.{Class, features_of}
use Rattle.cool_rules.specs.NodeTypes.{columns_of, table_types, features_types}
use Rattle.cool_rules.proofs.ColumnsHeld.{length-held, class_columns, length-features_types, column_at}
use Rattle.cool_rules.proofs.typed_program.TypedProgram.types.Goals as goal

-- columns of a table are those of the same table
kept : (held : List (Vec (List Ty))) (q p : List Class) → q ≡ p → columns_of held ≡ table_types q → columns_of held ≡ table_types p
kept held q p same = subst (λ (x : List Class). columns_of held ≡ table_types x) same

pub index-requires : goal.index-requires
index-requires c =
    let p = c.args.self.now in
    let same = length-held p c.self.inside.types.items (kept c.self.inside.types.items c.self.inside.table p c.self.view_is c.self.invariant.2) in
    let within = c.requires.class in
    omega arith

pub index-requires-2 : goal.index-requires-2
index-requires-2 c =
    let p = c.args.self.now in
    let kept_here = kept c.self.inside.types.items c.self.inside.table p c.self.view_is c.self.invariant.2 in
    let columns = class_columns p c.self.inside.types.items kept_here c.args.c c.requires.class c.index.result.now c.index.ensures in
    let long : length c.index.result.now.items ≡ length (features_types p c.args.c (features_of p c.args.c)) = ap length columns in
    let within = c.requires.feature in
    omega (arith, length-features_types p c.args.c (features_of p c.args.c))

pub returns : goal.returns
returns c = λ x at.
    let p = c.args.self.now in
    let kept_here = kept c.self.inside.types.items c.self.inside.table p c.self.view_is c.self.invariant.2 in
    let columns = class_columns p c.self.inside.types.items kept_here c.args.c c.requires.class c.index.result.now c.index.ensures in
    c.index-2.ensures ∙ ap (λ ts. get_or ts c.args.feature c.index-2.result.now) columns ∙ column_at p c.args.c (features_of p c.args.c) c.args.feature x c.index-2.result.now at
