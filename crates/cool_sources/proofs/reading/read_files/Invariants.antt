-- In the loop of `read_files`, the files so far were read without a fault, and `left` is the number of bytes that the others may have.
use Rattle.std.proofs.Common.{◌≡◌, ◌+◌, ◌++◌, length, map, take}
use Rattle.std.specs.Prelude.{string_bytes}
use Rattle.std.specs.List.{AllByRecursion}
use Rattle.lists.specs.Bytes.{AreBytes}
use Rattle.cool_faults.specs.Files.{bytes_of, total}
use Rattle.cool_sources.proofs.reading.read_files.Given as goal
use Rattle.cool_ports.specs.ShelfFiles.{AreHeld}

abbrev pub invariant-loop-index : goal.invariant-loop-index
invariant-loop-index g l = record {
  held : AreHeld (g.F.Shelf.files l.fn.files) (map string_bytes (take l.index l.names)) (bytes_of l.contents.items);
  bytes : AllByRecursion AreBytes (bytes_of l.contents.items);
  rest : total (bytes_of l.contents.items) + l.left ≡ l.most;
  each : length l.contents.items ≡ l.index;
  calm : g.F.Shelf.faults l.files ≡ g.F.Shelf.faults l.fn.files;
  asked : g.F.Shelf.asked l.files ≡ g.F.Shelf.asked l.fn.files ++ map string_bytes (take l.index l.names);
  gave : g.F.Shelf.gave l.files ≡ g.F.Shelf.gave l.fn.files ++ bytes_of l.contents.items;
  kept : g.F.Shelf.files l.files ≡ g.F.Shelf.files l.fn.files;
}
