-- The loop of `name_addresses` has added the addresses of the names of the classes before the current one.
use Rattle.std.proofs.Common.{◌≡◌, map, take}
use Rattle.mips_isa.specs.Lines.{item_of, Address}
use Rattle.cool_layout.specs.Labels.{class_name}
use Rattle.cool_layout.proofs.tables.name_addresses.Given as goal

abbrev pub invariant-loop-class : goal.invariant-loop-class
invariant-loop-class l = map item_of l.items.items ≡ map (λ c. Address (class_name c)) (take l.class-index l.order)
