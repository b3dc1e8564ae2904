-- `batches_of` divides the assembly lines of a program into batches: one for each section of its text, and a last one for its data.
use Rattle.std.specs.Prelude.{◌≡◌, ℕ, ◌+◌, ◌≤◌, List, [], ◌∷◌, ◌++◌, length, map, flat_map, take}
use Rattle.mips_isa.specs.Assembly.{directive_line}
use Rattle.mips_isa.specs.Lines.{Line, ToData, lines_of}
use Rattle.cool_classes.specs.Chains.{Class}
use Rattle.cool_consts.specs.Constants.{Constants}
use Rattle.cool_codegen.specs.Asked.{with_integers, with_strings}
use Rattle.cool_emit.specs.Additions.{integers_asked, strings_asked}
use Rattle.cool_emit.specs.Programs.{program_constants, program_data}
use Rattle.cool_emit.specs.Sections.{features_in, section_code, sections_in}
use Rattle.cool_emit.specs.declared.kept.Kept.{Kept}
use Rattle.cool_emit.specs.declared.kept.TheConstants.{MOST_KEPT_LINES}
use Rattle.cool_emit.specs.declared.section.Section.{Section}

abbrev pub batches_of : List Class → List (List ℕ) → List (List Line)
batches_of p files =
    map (section_code p files (program_constants p files)) (sections_in p) ++ (directive_line ToData ∷ program_data p files) ∷ []

-- the lines of batches
abbrev pub joined : List (List Line) → List Line
joined = flat_map (λ batch. batch)

-- The kept lines are those of the first batches.
pub record AreFirst (all : List (List Line)) (kept : Kept) : Type 0 where
  pub within : kept.batches ≤ length all
  pub lines : lines_of kept.lines.items ≡ joined (take kept.batches all)

-- A batch of this number follows what is kept, and there is room for its lines, so many of them.
abbrev pub HasRoom : Kept → ℕ → ℕ → Type 0
HasRoom kept number many = (number ≡ kept.batches) × (length kept.lines.items + many ≤ MOST_KEPT_LINES)

-- The batches are those before, with one more of these lines behind them.
abbrev pub IsKept : Kept → List Line → Kept → Type 0
IsKept before lines after =
    (after.batches ≡ before.batches + 1) × (lines_of after.lines.items ≡ lines_of before.lines.items ++ lines)

-- the constants for which some sections ask, one after another
abbrev pub asked_by : List Class → List (List ℕ) → List Section → Constants
asked_by p files sections = record {
  integers = with_integers [] (integers_asked (flat_map (features_in p) sections));
  strings = with_strings [] (strings_asked files (flat_map (features_in p) sections));
}

-- The constants are those for which the first sections ask, so many of them or more.
abbrev pub AreAsked : List Class → List (List ℕ) → ℕ → Constants → Type 0
AreAsked p files least t = (n : ℕ) × ((least ≤ n) × (t ≡ asked_by p files (take n (sections_in p))))
