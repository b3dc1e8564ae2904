-- `Code::class_of_receiver` reads the type of the receiver in the list of node types and returns its class, which is in the class table.
use Rattle.std.proofs.Common.{◌≡◌, ◌<◌, length, ap, subst, sym, ◌∙◌}
use Rattle.std.proofs.lemmas.Option.{same_Some, slice_get_within}
use Rattle.cool_syntax.specs.NodeLists.{tree_at}
use Rattle.cool_classes.specs.declared.class_id.Ty.{Ty}
use Rattle.cool_classes.specs.declared.class_id.Ty.TheVariants.{Class as IsClass, SelfType}
use Rattle.cool_rules.specs.Conformance.{class_of, IsType}
use Rattle.cool_rules.specs.StaticTypes.{type_of}
use Rattle.cool_rules.proofs.PartsStand.{part_type}
use Rattle.cool_rules.proofs.TypesAreTypes.{type_is_type}
use Rattle.cool_codegen.specs.Numbered.{receiver_class}
use Rattle.cool_codegen.specs.CodeSettings.{typed_body}
use Rattle.cool_codegen.specs.Variables.{scope_of}
use Rattle.cool_codegen.proofs.VariablesHave.{types_in_scope}
use Rattle.cool_codegen.proofs.code.Code.class_of_receiver.Goals as goal

pub get-object-requires : goal.get-object-requires
get-object-requires c = record {
  below = slice_get_within c.args.self.now.setting.types.now c.args.receiver.0 _ (part_type (typed_body c.args.self.now.setting) (scope_of c.args.self.now.variables) c.args.receiver c.requires.part);
}

pub returns-clause-class : goal.returns-clause-class
unfolding receiver_class
returns-clause-class c =
    let s = c.args.self.now.setting in
    let type = same_Some _ _ (sym c.get-object.ensures ∙ part_type (typed_body s) (scope_of c.args.self.now.variables) c.args.receiver c.requires.part) in
    c.class_of.ensures ∙ ap (class_of s.class) type

pub returns-clause-within : goal.returns-clause-within
returns-clause-within c =
    let s = c.args.self.now.setting in
    let p = s.table.now in
    let sound = c.requires.ready.sound in
    let scope = scope_of c.args.self.now.variables in
    let type : c.get-object.result ≡ type_of p s.class scope (tree_at s.body.now c.args.receiver) = same_Some _ _ (sym c.get-object.ensures ∙ part_type (typed_body s) scope c.args.receiver c.requires.part) in
    let is_type = type_is_type p sound.whole s.class sound.class (tree_at s.body.now c.args.receiver) scope (types_in_scope p c.args.self.now.variables c.requires.ready.types) in
    subst (λ k. k.0 < length p) (sym c.class_of.ensures) (within c.get-object.result (subst (IsType p) (sym type) is_type))
  where
    within : (t : Ty) → IsType c.args.self.now.setting.table.now t → (class_of c.args.self.now.setting.class t).0 < length c.args.self.now.setting.table.now
    within (IsClass d) h = h
    within SelfType h = c.requires.ready.sound.class
