-- `lines_of` is the output of `cool_explain --lines`, for other programs to read. FILE is the number of the file among the names, from 0, LINE counts from
-- 1, and START, END and BYTE are bytes, from 0.
--
--     fault FILE:LINE:START:END KIND: WORDS    as `check` tells it
--     rule NAME: PREMISE                       the typing rule that the fault breaks, and the premise that fails
--     fact WORDS                               what is known of the fault
--     value FILE:LINE:BYTE                     an expression that gives the value, if a value has the wrong type
--     other FILE:LINE:BYTE                     where the other definition stands of what is defined twice
--     cure WORDS                               general advice on such a fault, if there are no further words and no mend
--     mend WORDS                               an edit that was tried follows
--     edit FILE:START:END TEXT                 TEXT goes in the place of these bytes
--     apply FILE:START:END TEXT                an edit told above is made: behind these lines stand the faults after it
--     origin FILE:BYTE                         where one of these faults comes from in the given files, one line for each, in order
--     notice FILE:LINE:START:END WORDS         legal, but likely a mistake
--
-- In WORDS and TEXT \n is a newline, and \\ a backslash.
use Rattle.std.specs.Prelude.{◌≡◌, refl, ℕ, List, [], ◌∷◌, ◌++◌, codes, decimal, max, nat_eq, Option, Some, None, if◌then◌else◌}
use Rattle.std.specs.List.{flat_map}
use Rattle.cool_syntax.specs.declared.place.Place.{Place}
use Rattle.cool_faults.specs.Shown.{shown}
use Rattle.cool_faults.specs.Texts.{fault_words}
use Rattle.cool_faults.specs.Verdicts.{place_of}
use Rattle.cool_mend.specs.declared.edit.Edit.{Edit}
use Rattle.cool_faults.specs.Files.{bytes_of}
use Rattle.cool_mend.specs.declared.explanation.AfterFixes.{AfterFixes}
use Rattle.cool_mend.specs.declared.explanation.Explained.{Explained}
use Rattle.cool_mend.specs.declared.explanation.Explanation.{Explanation}
use Rattle.cool_mend.specs.declared.explanation.Mend.{Mend}
use Rattle.cool_mend.specs.declared.explanation.Notice.{Notice}
use Rattle.cool_mend.specs.declared.explanation.Origin.{Origin}
use Rattle.cool_explanations.specs.Cures.{cure_of}
use Rattle.cool_explanations.specs.Facts.{facts}
use Rattle.cool_explanations.specs.Rules.{rule_line}
use Rattle.cool_explanations.specs.Texts.{file_of}

-- a place, and where the range ends that begins there
abbrev pub range_text : Place → ℕ → List ℕ
range_text p end = decimal p.file ++ (codes ":" ++ (decimal p.line ++ (codes ":" ++ (decimal p.byte ++ (codes ":" ++ decimal (max end p.byte))))))

-- bytes on one line
abbrev pub escaped_byte : ℕ → List ℕ
escaped_byte b = if nat_eq b 10 then codes "\\n" else (if nat_eq b 92 then codes "\\\\" else b ∷ [])

abbrev pub escaped : List ℕ → List ℕ
escaped = flat_map escaped_byte

-- a line of words behind what it is
abbrev pub word_line : List ℕ → List ℕ → List ℕ
word_line what words = what ++ (escaped (shown words) ++ codes "\n")

abbrev pub fact_line : List ℕ → List ℕ
fact_line = word_line (codes "fact ")

-- a line of a place behind what it is
abbrev pub place_line : List ℕ → Place → List ℕ
place_line what p = what ++ (decimal p.file ++ (codes ":" ++ (decimal p.line ++ (codes ":" ++ (decimal p.byte ++ codes "\n")))))

abbrev pub value_line : Place → List ℕ
value_line = place_line (codes "value ")

abbrev pub other_line : Option Place → List ℕ
other_line None = []
other_line (Some p) = place_line (codes "other ") p

abbrev pub cure_line : Option (List ℕ) → List ℕ
cure_line None = []
cure_line (Some cure) = word_line (codes "cure ") cure

abbrev pub range_line : List ℕ → Edit → List ℕ
range_line what e =
    what ++ (decimal e.file ++ (codes ":" ++ (decimal e.start ++ (codes ":" ++ (decimal e.end ++ (codes " " ++ (escaped e.text.items ++ codes "\n")))))))

abbrev pub mend_lines : Mend → List ℕ
mend_lines m = word_line (codes "mend ") m.words.items ++ range_line (codes "edit ") m.edit

-- the line of a fault
abbrev pub first_line : Explanation → List ℕ
first_line x = codes "fault " ++ (range_text (place_of x.fault) x.here.end ++ word_line (codes " ") (fault_words x.fault))

-- the explanation of a fault of these files
abbrev pub explanation_lines : List (List ℕ) → Explanation → List ℕ
explanation_lines files x =
    first_line x
    ++ (rule_line x.fault
    ++ (flat_map fact_line (facts (file_of files (place_of x.fault).file) x)
    ++ (flat_map value_line x.values.items
    ++ (other_line x.other
    ++ (cure_line (cure_of x.fault x.said.items x.mends.items)
    ++ flat_map mend_lines x.mends.items)))))

abbrev pub notice_line : Notice → List ℕ
notice_line n = codes "notice " ++ (range_text n.at n.end ++ word_line (codes " ") n.words.items)

-- the edits that are made, and the faults that files have after them
abbrev pub apply_line : Edit → List ℕ
apply_line = range_line (codes "apply ")

abbrev pub origin_line : Origin → List ℕ
origin_line o = codes "origin " ++ (decimal o.file ++ (codes ":" ++ (decimal o.byte ++ codes "\n")))

abbrev pub after_lines : AfterFixes → List ℕ
after_lines a =
    flat_map apply_line a.edits.items
    ++ (flat_map origin_line a.origins.items ++ flat_map (explanation_lines (bytes_of a.files.items)) a.explanations.items)

-- the answer for these files
abbrev pub lines_of : List (List ℕ) → Explained → List ℕ
lines_of files told =
    flat_map (explanation_lines files) told.explanations.items
    ++ (flat_map after_lines told.after_fixes.items ++ flat_map notice_line told.notices.items)

-- Worked example: a text of two lines with a backslash.
one_line : escaped (codes "a\\\nb") ≡ codes "a\\\\\\nb"
one_line = refl
