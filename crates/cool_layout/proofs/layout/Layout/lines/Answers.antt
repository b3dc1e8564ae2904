-- `Layout::lines` returns the lines of assembly for the prototypes, dispatch tables and names of the classes of a class table. The classes in preorder are
-- classes of the table, as `add_class_objects` and `add_names` require.
use Rattle.std.proofs.Common.{◌<◌, List, length, sym, ◌∙◌, subst}
use Rattle.std.specs.List.{AllByRecursion}
use Rattle.cool_classes.specs.declared.class_id.ClassId.{ClassId}
use Rattle.cool_layout.proofs.TagRanges.{preorder_in}
use Rattle.cool_layout.proofs.layout.Layout.lines.Goals as goal

pub add_class_objects-requires : goal.add_class_objects-requires
add_class_objects-requires c =
    let p = c.args.t.now in
    record {
      within = subst (λ (ds : List ClassId). AllByRecursion (λ d. d.0 < length p) ds) (sym (c.as_slice-order.ensures.value ∙ c.requires.layout.order)) (preorder_in p c.requires.layout.rooted);
    }

pub add_names-requires-clause-within : goal.add_names-requires-clause-within
add_names-requires-clause-within c =
    let p = c.args.t.now in
    subst (λ (ds : List ClassId). AllByRecursion (λ d. d.0 < length p) ds) (sym (c.as_slice-order.ensures.value ∙ c.requires.layout.order)) (preorder_in p c.requires.layout.rooted)
