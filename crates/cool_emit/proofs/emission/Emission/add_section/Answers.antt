-- `Emission::add_section` appends the lines of a section of the text (`section_code`): the routines, an initializer, or a method, which has the code of the
-- feature at its number.
use Rattle.std.proofs.Common.{◌≡◌, ◌∙◌, ℕ, List, [], ◌∷◌, flat_map, slice_get, Some, ap, sym, subst, append-nil}
use Rattle.std.specs.Prelude.{Result, OnOk}
use Rattle.mips_isa.specs.Lines.{Line, lines_of}
use Rattle.cool_syntax.specs.declared.file_tree.Feature.{Feature}
use Rattle.cool_classes.specs.declared.class_id.ClassId.{ClassId}
use Rattle.cool_classes.specs.Chains.{Class, features_of}
use Rattle.cool_consts.specs.Constants.{Constants}
use Rattle.cool_emit.specs.Additions.{Adds, files_of}
use Rattle.cool_emit.specs.Programs.{Placed, placed_code}
use Rattle.cool_emit.specs.declared.section.Section.{Section}
use Rattle.cool_emit.specs.declared.section.Section.TheVariants.{Method}
use Rattle.cool_emit.specs.Sections.{features_in, placed_at, section_code, IsSection}
use Rattle.cool_emit.proofs.AddingParts.{adds_same}
use Rattle.cool_emit.proofs.emission.Emission.add_section.Goals as goal
use Rattle.std.proofs.lemmas.Result.{on_ok_weaker}
use Rattle.lists.proofs.ItemsAt.{there_is}

-- the additions of a feature are those of its section
method_added : {A E : Type 0} (p : List Class) (files : List (List ℕ)) (c : ClassId) (place : ℕ) (section : Section) (old new : Constants) (before after : List Line) (r : Result A E)
    → section ≡ Method c place → IsSection p section
    → ((x : Feature) → slice_get (features_of p c) place ≡ Some x
    → OnOk r (Adds files (record { place = place; feature = x } ∷ []) (λ g. placed_code p files g c (record { place = place; feature = x })) old new before after))
    → OnOk r (Adds files (features_in p section) (λ g. section_code p files g section) old new before after)
method_added p files c place section old new before after r is within h =
    let x = there_is (features_of p c) place (subst (IsSection p) is within).1 in
    let one : Placed = record { place = place; feature = x.0 } in
    let same : features_in p section ≡ one ∷ [] = ap (features_in p) is ∙ ap (placed_at place) x.1 in
    on_ok_weaker r
    (λ k. adds_same files (one ∷ []) (features_in p section) (λ g. placed_code p files g c one) (λ g. section_code p files g section) old new before after (sym same)
    (λ g. sym (append-nil (placed_code p files g c one)) ∙ ap (λ o. flat_map (placed_code p files g c) (placed_at place o)) (sym x.1) ∙ ap (section_code p files g) (sym is)) k)
    (h x.0 x.1)

pub returns-in-Method : goal.returns-in-Method
returns-in-Method c =
    let e = c.args.self.now in
    method_added e.program.now (files_of e) c.in-Method.c c.in-Method.feature c.args.section.now c.args.consts.now c.add_feature.new.consts
    (lines_of c.args.lines.now.items) (lines_of c.add_feature.new.lines.items) c.add_feature.result c.in-Method.is c.requires.there c.add_feature.ensures
