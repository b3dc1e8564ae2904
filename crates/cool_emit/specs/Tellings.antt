-- `Tells` specifies one step of writing the debug information of a program: the rows appended for a piece of code, and the address after this code.
use Rattle.std.specs.Prelude.{◌≡◌, ℕ, ◌+◌, List, [], ◌∷◌, ◌++◌, flat_map}
use Rattle.mips_isa.specs.Lines.{Line}
use Rattle.cool_classes.specs.declared.class_id.ClassId.{ClassId}
use Rattle.cool_classes.specs.Chains.{Class}
use Rattle.cool_runtime.specs.Standing.{size, sizes}
use Rattle.cool_consts.specs.Constants.{Constants}
use Rattle.cool_codegen.specs.Spans.{along}
use Rattle.cool_emit.specs.Additions.{files_of}
use Rattle.cool_emit.specs.CodeTables.{Row, feature_rows}
use Rattle.cool_emit.specs.Programs.{Placed, class_code, initializer_code, placed_code, program_constants}
use Rattle.cool_emit.specs.SpansOfPrograms.{told_in_class, told_in_initializer}
use Rattle.cool_emit.specs.TableLines.{row_line}
use Rattle.cool_emit.specs.declared.code_table.Told.{Told}
use Rattle.cool_emit.specs.declared.emission.Emission.{Emission}

-- code was passed, and its rows, by the address at which it begins, were told
pub record Tells (p : List Class) (code : List Line) (rows : ℕ → List Row) (old new : Told) : Type 0 where
  pub address : new.address ≡ old.address + sizes code
  pub text : new.text.items ≡ old.text.items ++ flat_map (row_line p) (rows old.address)

module _ (e : Emission) where
  abbrev pub constants : Constants
  constants = program_constants e.program.now (files_of e)

  abbrev pub rows_of : ClassId → ℕ → Placed → List Row
  rows_of = feature_rows e.program.now (files_of e) constants

  -- so of features of a class
  abbrev pub TellsFeatures : ClassId → List Placed → Told → Told → Type 0
  TellsFeatures c fs =
      Tells e.program.now (flat_map (placed_code e.program.now (files_of e) constants c) fs)
      (λ pc. along sizes (placed_code e.program.now (files_of e) constants c) (rows_of c) pc fs)

  -- the output for the initializer of a class
  abbrev pub TellsInitializer : ClassId → Told → Told → Type 0
  TellsInitializer c =
      Tells e.program.now (initializer_code e.program.now (files_of e) constants c)
      (λ pc. told_in_initializer sizes e.program.now (files_of e) constants rows_of pc c)

  -- and of a class
  abbrev pub TellsClass : ClassId → Told → Told → Type 0
  TellsClass c =
      Tells e.program.now (class_code e.program.now (files_of e) constants c) (λ pc. told_in_class sizes e.program.now (files_of e) constants rows_of pc c)

-- the address of each of these lines, of which the first has this one, and the address behind them
abbrev pub addresses : ℕ → List Line → List ℕ
addresses pc [] = pc ∷ []
addresses pc (line ∷ lines) = pc ∷ addresses (pc + size line) lines
