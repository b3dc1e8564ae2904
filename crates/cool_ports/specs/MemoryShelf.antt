-- The state of the shelf (file system) that holds its files in memory, as contracts see it: the bytes of each file by its name, and the names of the files
-- that it was asked for.
use Rattle.std.specs.Prelude.{List, ℕ, Option, option_map}
use Rattle.std.specs.BTreeMap.{get_by_text}
use Rattle.cool_ports.specs.declared.mem_shelf.MemShelf.{MemShelf}
use Rattle.cool_ports.specs.MemoryObjects.{Schedule}

-- the bytes of the file of this name
abbrev pub file_of : MemShelf → List ℕ → Option (List ℕ)
file_of shelf name = option_map (λ file. file.items) (get_by_text shelf.contents name)

-- the names that the shelf was asked for
abbrev pub asked_of : MemShelf → List (List ℕ)
asked_of shelf = shelf.asked.entries

-- the bytes of each file that the shelf gave
abbrev pub gave_of : MemShelf → List (List ℕ)
gave_of shelf = shelf.gave.entries

-- the calls that are to fail, with the numbers of calls and of faults so far
abbrev pub schedule_of : MemShelf → Schedule
schedule_of shelf = shelf.schedule
