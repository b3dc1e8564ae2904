-- The loop of `method_addresses` has added the addresses of the methods before the current one.
use Rattle.std.proofs.Common.{◌≡◌, map, take}
use Rattle.mips_isa.specs.Lines.{item_of, Address}
use Rattle.cool_layout.specs.Labels.{method_label}
use Rattle.cool_layout.proofs.tables.method_addresses.Given as goal

abbrev pub invariant-loop-method : goal.invariant-loop-method
invariant-loop-method l = map item_of l.items.items ≡ map (λ m. Address (method_label l.t m)) (take l.method-index l.methods)
