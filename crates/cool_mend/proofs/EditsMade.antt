-- Lemmas on several edits of files, made one after the other, to which one more edit is appended.
use Rattle.std.proofs.Common.{◌≡◌, ℕ, ◌+◌, ◌<◌, List, [], ◌∷◌, ◌++◌, get_or, length, take, drop, refl, subst, sym, ap, ◌∙◌, arith}
use Rattle.std.proofs.lemmas.List.{length-append, length-drop, length-take}
use Rattle.lists.proofs.AllItems.{all_append}
use Rattle.cool_mend.specs.declared.edit.Edit.{Edit}
use Rattle.cool_mend.specs.declared.explanation.Explanation.{Explanation}
use Rattle.cool_mend.specs.AfterFixes.{AreEdits, AreMade, IsFixOf, edited_by}
use Rattle.cool_mend.specs.Edits.{IsEdit, edited}

-- the files after one more edit
pub edited_more : (es : List Edit) (e : Edit) (files : List (List ℕ)) → edited_by (es ++ e ∷ []) files ≡ edited e (edited_by es files)
edited_more [] e files = refl
edited_more (x ∷ xs) e files = edited_more xs e (edited x files)

-- one more edit, of the files after the others
pub edits_more : (es : List Edit) (e : Edit) (files : List (List ℕ)) → AreEdits files es → IsEdit (edited_by es files) e → AreEdits files (es ++ e ∷ [])
edits_more [] e files are is = (is, tt)
edits_more (x ∷ xs) e files are is = (are.0, edits_more xs e (edited x files) are.1 is)

-- one more fix is made
pub made_more : (files : List (List ℕ)) (explained : List Explanation) (es : List Edit) (e : Edit) (now next : List (List ℕ)) → AreMade files explained es now → IsEdit now e → IsFixOf explained e → next ≡ edited e now
    → AreMade files explained (es ++ e ∷ []) next
made_more files explained es e now next made is fix to = record {
  valid = edits_more es e files made.valid (subst (λ (fs : List (List ℕ)). IsEdit fs e) made.lead is);
  suggested = all_append (IsFixOf explained) es (e ∷ []) made.suggested (fix, tt);
  lead = to ∙ ap (edited e) made.lead ∙ sym (edited_more es e files);
}

-- an edit keeps the number of files
pub many_edited : (e : Edit) (files : List (List ℕ)) → e.file < length files → length (edited e files) ≡ length files
many_edited e files within =
    omega (arith, within, length-append (take e.file files) ((take e.start (get_or files e.file []) ++ (e.text.items ++ drop e.end (get_or files e.file []))) ∷ drop (e.file + 1) files), length-take e.file files, length-drop (e.file + 1) files)

-- several edits do, too
pub many_by : (es : List Edit) (files : List (List ℕ)) → AreEdits files es → length (edited_by es files) ≡ length files
many_by [] files are = refl
many_by (e ∷ es) files are = many_by es (edited e files) are.1 ∙ many_edited e files are.0.file

pub many_made : (files : List (List ℕ)) (explained : List Explanation) (es : List Edit) (now : List (List ℕ)) → AreMade files explained es now → length now ≡ length files
many_made files explained es now made = ap length made.lead ∙ many_by es files made.valid
