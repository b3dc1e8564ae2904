-- `places_of` gives the segment and the address of each label, from the symbol table and the addresses of the data items.
use Rattle.std.specs.Prelude.{ℕ, List, Option, Some, None, slice_get, bytes_eq}
use Rattle.std.specs.Map.{lookup}
use Rattle.mips_isa.specs.declared.place.Place.{Place}
use Rattle.mips_isa.specs.declared.place.Segment.TheVariants.{Text, Data}
use Rattle.mips_isa.specs.Lines.{Name}
use Rattle.mips_asm.specs.declared.mark.Mark.{Mark}
use Rattle.mips_asm.specs.declared.mark.Mark.TheVariants.{InText, BeforeItem}

-- the labels of lines: the names, each with where it stands, and the address of each item of data and of the end of the data
abbrev pub LabelParts : Type 0
LabelParts = List (Name × Mark) × List ℕ

-- the place of an item of data at an address
abbrev pub item_place : Option ℕ → Option Place
item_place None = None
item_place (Some address) = Some (record { segment = Data; address = address })

-- the place of a label, by where it stands
abbrev pub place_at : List ℕ → Option Mark → Option Place
place_at items None = None
place_at items (Some (InText address)) = Some (record { segment = Text; address = address })
place_at items (Some (BeforeItem number)) = item_place (slice_get items number)

-- the place of each name
abbrev pub places_of : LabelParts → Name → Option Place
places_of labels name = place_at labels.1 (lookup (bytes_eq name) labels.0)
