-- The operands of `.word` that a loop has still to assemble give the bytes after those so far, and their first error is that of all operands.
use Rattle.std.proofs.Common.{◌≡◌, ◌∙◌, ℕ, List, ◌∷◌, ◌++◌, flat_map, Option}
use Rattle.std.specs.List.{AllByRecursion}
use Rattle.mips_isa.specs.declared.place.Place.{Place}
use Rattle.mips_isa.specs.Lines.{Name, WordItem, IsItem}
use Rattle.mips_isa.specs.Assembly.{item_value, four_bytes, address_or_zero}
use Rattle.mips_asm.specs.Parts.{items_fault}

-- the bytes of items
abbrev pub bytes_of_items : (Name → Option Place) → List WordItem → List ℕ
bytes_of_items place = flat_map (λ item. four_bytes (item_value (λ name. address_or_zero (place name)) item))

-- The items that are left of all. The bytes so far and those of the items that are left are the bytes of all items, after the bytes that stood there before.
pub record ItemsLeft (place : Name → Option Place) (all : List WordItem) (before : List ℕ) (rest : List WordItem) (so_far : List ℕ) : Type 0 where
  pub ranges : AllByRecursion IsItem rest
  pub fault : items_fault place rest ≡ items_fault place all
  pub bytes : so_far ++ bytes_of_items place rest ≡ before ++ bytes_of_items place all
