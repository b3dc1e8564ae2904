-- `listed` gives the labels of a line of assembly as a list, from their representation in the code: no label, one, or a vector.
use Rattle.std.specs.Prelude.{ℕ, List, [], ◌∷◌}
use Rattle.mips_isa.specs.declared.line_labels.Listing as declared
use Rattle.mips_isa.specs.declared.line_labels.Listing.TheVariants.{Nothing, One, Many}

-- the names, in their order
abbrev pub listed : declared.Listing → List (List ℕ)
listed Nothing = []
listed (One label) = label ∷ []
listed (Many labels) = labels.value.items
