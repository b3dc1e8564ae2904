-- The postcondition of `asm` and `build`: they write the assembly lines, or the image, of a correct compilation of the program in their files, or a message
-- with the reason why there is none.
use Rattle.std.specs.Prelude.{◌≡◌, ℕ, List, [], Some, false}
use Rattle.cool_syntax.specs.declared.TheConstants.{MOST_SOURCE_BYTES}
use Rattle.cool_classes.specs.Chains.{Class}
use Rattle.cool_faults.specs.Verdicts.{IsAccepted}
use Rattle.cool_ports.specs.SinkPuts.{pieces_of}
use Rattle.cool_emit.specs.Programs.{program_lines}
use Rattle.cool_simulation.specs.Accord.{Means}
use Rattle.mips_isa.specs.Assembly.{image_of}
use Rattle.mips_image.specs.{ImageBytes.{image_bytes}, declared.stored_image.TheConstants.{CHECKED_VERSION}}
use Rattle.mips_text.specs.Printing.{printed}
use Rattle.cool_driver.specs.{Calls.{Request, Call, Got, ShelfUse, shelf_of, UnlessCutShort}, Comes.{Comes, PutAsDue}, Execution.{IsAssembled}}
use Rattle.cool_driver.specs.{Does.{Doing}, Sources.{AreKnown, IsProgram, IsNoProgram, SourcesExactly, unless_too_many}, Statuses.{DONE}, declared.writing.TheConstants.{MOST_PIECE_BYTES}}
use Rattle.cool_driver.specs.{declared.commands.build.Form.{Form}, declared.commands.build.Form.TheVariants.{Text, Image}}

-- the bytes that `asm` and `build` write for a program whose files have these names: its lines, and the image of its lines in the version of checked
-- arithmetic
abbrev pub built_bytes : Form → List Class → List (List ℕ) → List ℕ
built_bytes Text p names = printed (program_lines p names)
built_bytes Image p names = image_bytes CHECKED_VERSION (image_of (program_lines p names))

-- The compiled code of a program means it: the image of its lines, which is also the image of the text of its lines.
pub record IsCompiled (p : List Class) (names : List (List ℕ)) : Type 0 where
  pub means : Means (image_of (program_lines p names)) p names
  pub assembled : IsAssembled (image_of (program_lines p names)) (printed (program_lines p names))

-- the bytes are those of the program that the files of these names are, in a form, which mean it
abbrev pub IsBuilt : Form → List (List ℕ) → ShelfUse → List ℕ → Type 0
IsBuilt form names shelf bytes = (p : List Class) × IsProgram shelf names p × IsCompiled p names × (bytes ≡ built_bytes form p names)

pub data DueToBuild (form : Form) (names : List (List ℕ)) (r : Request) : ℕ → List ℕ → List ℕ → List ℕ → Type 0 where
  built : (p : List Class) → IsProgram (shelf_of r) names p → IsCompiled p names → DueToBuild form names r DONE (built_bytes form p names) [] r.input
  refused : (status : ℕ) (note : List ℕ) → IsNoProgram (shelf_of r) names status note → DueToBuild form names r status [] note r.input

pub data PiecesOfBuild (form : Form) (names : List (List ℕ)) (r : Request) : List ℕ → List ℕ → List ℕ → Type 0 where
  of_program : (p : List Class) → IsProgram (shelf_of r) names p → PiecesOfBuild form names r [] (built_bytes form p names) r.input

-- The end of a call of `asm` or `build` with files of these names.
pub record BuildEnds (form : Form) (names : List (List ℕ)) (c : Call) (status : ℕ) : Type 0 where
  pub comes : Comes (DueToBuild form names c.request) (PiecesOfBuild form names c.request) c status
  -- if the files were read and are accepted, the status is 0, and the lines or the image are written
  pub built_exactly : (contents : List (List ℕ)) (p : List Class) → AreKnown (shelf_of c.request) MOST_SOURCE_BYTES names contents
      → IsAccepted contents p
      → UnlessCutShort status ((status ≡ DONE) × Got c.out (built_bytes form p names))
  -- they are put in pieces, in order
  pub built_pieces : (contents : List (List ℕ)) (p : List Class) → AreKnown (shelf_of c.request) MOST_SOURCE_BYTES names contents
      → IsAccepted contents p
      → PutAsDue (pieces_of MOST_PIECE_BYTES (built_bytes form p names)) c.out status
  -- and the image, for which the text stands, too, means the program
  pub built_means : (contents : List (List ℕ)) (p : List Class) → AreKnown (shelf_of c.request) MOST_SOURCE_BYTES names contents
      → IsAccepted contents p → UnlessCutShort status (IsCompiled p names)
  pub sources : SourcesExactly names c status

-- The specification of `asm` and `build` with files of these names.
abbrev pub building : Form → List (List ℕ) → Doing
building form names = record { asked = unless_too_many names names; sources = Some names; takes = false; ends = BuildEnds form names }
