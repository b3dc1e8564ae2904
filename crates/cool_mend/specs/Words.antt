-- `HasWords` says how a suggested fix is described: in words computed from the bytes that its edit removes and adds, or by the sentence of a named hint.
use Rattle.std.specs.Prelude.{◌≡◌, ℕ, Bool, List, [], ◌++◌, codes, if◌then◌else◌}
use Rattle.cool_guess.specs.declared.candidate.Reason.{Reason}
use Rattle.cool_guess.specs.Words.{reason_words}
use Rattle.cool_mend.specs.declared.edit.Edit.{Edit}
use Rattle.cool_mend.specs.declared.explanation.Mend.{Mend}
use Rattle.cool_mend.specs.Mends.{taken}

-- the words on an edit of files for a reason, with a remark if it changes another feature than that of the fault
abbrev pub fix_words : Reason → Bool → Edit → List (List ℕ) → List ℕ
fix_words reason elsewhere e files = reason_words reason (taken e files) e.text.items ++ (if elsewhere then codes "; this changes another feature" else [])

-- The words are those on the mend's edit, for some reason.
pub record HasWords (files : List (List ℕ)) (m : Mend) : Type 0 where
  pub reason : Reason
  pub elsewhere : Bool
  pub words : m.words.items ≡ fix_words reason elsewhere m.edit files
