-- No label occurs twice in a program: each name is counted at most once, since the bytes of a label determine what it labels.
use Rattle.std.proofs.Common.{ℕ, ◌≤◌, List, ◌∷◌, arith}
use Rattle.mips_isa.specs.Lines.{Name, ToData}
use Rattle.mips_isa.specs.Assembly.{directive_line}
use Rattle.cool_classes.specs.Chains.{Class}
use Rattle.cool_runtime.specs.RoutineLines.{all_routine_lines}
use Rattle.cool_emit.specs.SoundLines.{labels_of}
use Rattle.cool_emit.specs.Programs.{IsBuildable, program_constants, program_text, program_data, program_lines, classes_code}
use Rattle.cool_emit.proofs.CountedNames.{between, different, beside, at_most_one}
use Rattle.cool_emit.proofs.NamesApart.{sort}
use Rattle.cool_emit.proofs.LabelsOfClasses.{classes_once}
use Rattle.cool_emit.proofs.LabelsOfCode.{marks, marks-append}
use Rattle.cool_emit.proofs.LabelsOfData.{data_once}
use Rattle.cool_emit.proofs.RoutineLabelsApart.{routines_once}
use Rattle.lists.specs.Different.{AreDifferent}

-- a name counts once at most among the labels of a program
label_once : (p : List Class) (files : List (List ℕ)) → IsBuildable p files → (x : Name) → marks x (program_lines p files) ≤ 1
label_once p files b x =
    let code = classes_code p files (program_constants p files) in
    let behind = directive_line ToData ∷ program_data p files in
    let s = sort x in
    omega (
      arith,
      marks-append x (program_text p files) behind,
      marks-append x all_routine_lines code,
      routines_once x,
      classes_once x p files b (program_constants p files),
      data_once p files b x,
      beside 0 1 18 s (omega arith) (omega arith),
      beside 1 4 18 s (omega arith) (omega arith),
      at_most_one (between 0 18 s),
    )

-- no label stands twice
pub labels_different : (p : List Class) (files : List (List ℕ)) → IsBuildable p files → AreDifferent (labels_of (program_lines p files))
labels_different p files b = different (labels_of (program_lines p files)) (label_once p files b)
