-- The lines of a program within the limits satisfy `AreSound` (registers, numbers and labels are valid), so they assemble without error.
use Rattle.std.proofs.Common.{◌≡◌, ℕ, List, ◌∷◌, drop, length, map, refl, subst, sym}
use Rattle.std.specs.Prelude.{String, string_bytes}
use Rattle.std.specs.Global.{Global}
use Rattle.std.proofs.lemmas.List.{length-map}
use Rattle.mips_isa.specs.Assembly.{start_name}
use Rattle.cool_classes.specs.Chains.{Class}
use Rattle.cool_rules.specs.Fits.{Fits}
use Rattle.cool_rules.specs.TypedTables.{IsTypedTable}
use Rattle.cool_runtime.specs.Instructions.{label, la}
use Rattle.cool_runtime.specs.Labels.{main_prototype}
use Rattle.cool_runtime.specs.RoutineLines.{routine_lines}
use Rattle.cool_emit.specs.FileNames.{AreShortNames}
use Rattle.cool_emit.specs.Programs.{program_text, program_data, IsBuildable}
use Rattle.cool_emit.specs.SoundLines.{AreSound}
use Rattle.cool_emit.proofs.DataOfPrograms.{data_sound}
use Rattle.cool_emit.proofs.LabelsAreDifferent.{labels_different}
use Rattle.cool_emit.proofs.RoomOfData.{data_fits}
use Rattle.cool_emit.proofs.RoomOfText.{text_fits}
use Rattle.cool_emit.proofs.TextOfPrograms.{text_sound}

-- the text begins with the start of the run
text_starts : (p : List Class) (files : List (List ℕ))
    → program_text p files ≡ label start_name ∷ la 4 main_prototype ∷ drop 2 (program_text p files)
unfolding routine_lines
text_starts p files = refl

pub programs_sound : (p : List Class) (files : List (List ℕ)) → IsBuildable p files → AreSound (program_text p files) (program_data p files)
programs_sound p files b = record {
  text_lines = text_sound p files b;
  data_lines = data_sound p files b;
  different = labels_different p files b;
  text_fits = text_fits p files b;
  data_fits = data_fits p files b;
  main = main_prototype;
  behind = drop 2 (program_text p files);
  starts = text_starts p files;
}

-- the same, where the names are those of strings
pub names_sound : (p q : List Class) (names : List (String Global)) → q ≡ p → Fits p (length names)
    → AreShortNames (map string_bytes names) → IsTypedTable q
    → AreSound (program_text p (map string_bytes names)) (program_data p (map string_bytes names))
names_sound p q names same fits short typed =
    programs_sound p (map string_bytes names) (record {
      fits = subst (Fits p) (sym (length-map names string_bytes)) fits;
      typed = subst IsTypedTable same typed;
      names = short;
    })
