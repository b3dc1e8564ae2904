-- `text_of` is the text that `cool_explain` writes for people. It has for each compile-time error the message, the source line with its range marked, what
-- is known of the error, and the lines that fix it, or general advice. It has for each warning the message and the source line.
use Rattle.std.specs.Prelude.{ℕ, List, [], ◌∷◌, ◌++◌, codes, decimal, get_or, Option, Some, None, nat_eq, if◌then◌else◌}
use Rattle.std.specs.List.{flat_map}
use Rattle.cool_syntax.specs.declared.place.Place.{Place}
use Rattle.cool_faults.specs.Shown.{shown}
use Rattle.cool_faults.specs.Texts.{fault_line}
use Rattle.cool_faults.specs.Verdicts.{place_of}
use Rattle.cool_faults.specs.Files.{bytes_of}
use Rattle.cool_mend.specs.declared.explanation.AfterFixes.{AfterFixes}
use Rattle.cool_mend.specs.declared.explanation.Explained.{Explained}
use Rattle.cool_mend.specs.declared.explanation.Explanation.{Explanation}
use Rattle.cool_mend.specs.declared.explanation.Mend.{Mend}
use Rattle.cool_mend.specs.declared.explanation.Notice.{Notice}
use Rattle.cool_explanations.specs.Changes.{changed_text}
use Rattle.cool_explanations.specs.Cures.{cure_of}
use Rattle.cool_explanations.specs.Facts.{facts}
use Rattle.cool_explanations.specs.SourceLines.{source_line}

-- the item of this number, or nothing
abbrev pub file_of : List (List ℕ) → ℕ → List ℕ
file_of files number = get_or files number []

-- a line of words below the source line
abbrev pub note_line : List ℕ → List ℕ
note_line words = codes "      = " ++ (shown words ++ codes "\n")

-- which file is meant, behind this word, where it is another one than that of the fault
abbrev pub of_file : List (List ℕ) → ℕ → ℕ → List ℕ → List ℕ
of_file names file other word = if nat_eq other file then [] else word ++ file_of names other

-- the line of the other definition, and its file, if that is another one than this
abbrev pub other_words : List (List ℕ) → Place → ℕ → List ℕ
other_words names p file = codes "the other definition is in line " ++ (decimal p.line ++ of_file names file p.file (codes " of "))

-- where the other definition is, of a name that is defined twice
abbrev pub other_text : List (List ℕ) → ℕ → Option Place → List ℕ
other_text names file None = []
other_text names file (Some p) = note_line (other_words names p file)

-- the source line of an expression that gives a value, with a mark below its place
abbrev pub value_line : List (List ℕ) → Place → List ℕ
value_line files p = source_line (file_of files p.file) p.line p.byte p.byte

-- where a value comes from, if that is known
abbrev pub value_text : List (List ℕ) → List Place → List ℕ
value_text files [] = []
value_text files (p ∷ ps) = note_line (codes "the value comes from here:") ++ flat_map (value_line files) (p ∷ ps)

-- general advice for a fault, if it is given
abbrev pub cure_text : Option (List ℕ) → List ℕ
cure_text None = []
cure_text (Some cure) = note_line (codes "to fix it: " ++ cure)

-- the words about a fix
abbrev pub mend_line : List (List ℕ) → ℕ → Mend → List ℕ
mend_line names file m = note_line (m.words.items ++ (of_file names file m.edit.file (codes ", in ") ++ codes ":"))

-- the same, and the lines that it changes
abbrev pub mend_text : List (List ℕ) → List (List ℕ) → ℕ → Mend → List ℕ
mend_text names files file m =
    mend_line names file m ++ changed_text (file_of files m.edit.file) m.edit

-- the explanation of a fault of files of these names
abbrev pub explanation_text : List (List ℕ) → List (List ℕ) → Explanation → List ℕ
explanation_text names files x =
    let at = place_of x.fault in
    let file = file_of files at.file in
    fault_line names x.fault
    ++ (source_line file at.line at.byte x.here.end
    ++ (flat_map note_line (facts file x)
    ++ (value_text files x.values.items
    ++ (other_text names at.file x.other
    ++ (cure_text (cure_of x.fault x.said.items x.mends.items)
    ++ flat_map (mend_text names files at.file) x.mends.items)))))

-- the line of a warning: its file and line, and its words
abbrev pub warning_line : List (List ℕ) → Notice → List ℕ
warning_line names n =
    shown (file_of names n.at.file) ++ (codes ":" ++ (decimal n.at.line ++ (codes ": warning: " ++ (n.words.items ++ codes "\n"))))

-- a warning, with its source line
abbrev pub warning_text : List (List ℕ) → List (List ℕ) → Notice → List ℕ
warning_text names files n = warning_line names n ++ source_line (file_of files n.at.file) n.at.line n.at.byte n.end

-- the explanations of faults that files of these names have after further fixes
abbrev pub after_text : List (List ℕ) → AfterFixes → List ℕ
after_text names a =
    codes "after the fixes above, these errors come next:\n" ++ flat_map (explanation_text names (bytes_of a.files.items)) a.explanations.items

-- the explanations of faults, those of the faults after fixes, and the warnings
abbrev pub text_of : List (List ℕ) → List (List ℕ) → Explained → List ℕ
text_of names files told =
    flat_map (explanation_text names files) told.explanations.items
    ++ (flat_map (after_text names) told.after_fixes.items ++ flat_map (warning_text names files) told.notices.items)
