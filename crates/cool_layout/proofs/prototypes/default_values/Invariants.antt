-- The loop of `default_values` has added the default values of the attributes before the current one.
use Rattle.std.proofs.Common.{◌≡◌, map, take}
use Rattle.mips_isa.specs.Lines.{item_of}
use Rattle.cool_classes.specs.Features.{attribute_type}
use Rattle.cool_layout.specs.LinesOfLayout.{default_value}
use Rattle.cool_layout.proofs.prototypes.default_values.Given as goal

abbrev pub invariant-loop-attribute : goal.invariant-loop-attribute
invariant-loop-attribute l = map item_of l.fields.items ≡ map (λ a. default_value (attribute_type l.t a)) (take l.attribute-index l.attributes)
