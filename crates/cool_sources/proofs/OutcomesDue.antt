-- Lemmas on the specified outcome of a call (status, output text and message on standard error) for its file names: bad arguments, too many files, a refused
-- file, or an answer.
use Rattle.std.proofs.Common.{◌≡◌, ◌≢◌, ◌<◌, ◌≤◌, inl, inr, ℕ, List, [], ◌∷◌, length, map, Bool, true, false, refl, sym, ◌∙◌, ap, subst, arith}
use Rattle.std.specs.Prelude.{◌==◌, string_bytes, String}
use Rattle.std.specs.Global.{Global}
use Rattle.std.proofs.lemmas.List.{length-map}
use Rattle.cool_syntax.specs.declared.TheConstants.{MOST_FILES, MOST_SOURCE_BYTES}
use Rattle.cool_ports.specs.declared.shelf.ShelfFault.{ShelfFault}
use Rattle.cool_sources.specs.Devices.{ShelfUse, IsUnused, AreRead}
use Rattle.cool_sources.specs.Notes.{file_note}
use Rattle.cool_sources.specs.Reading.{IsRefusedAt}
use Rattle.cool_sources.specs.Tasks.{IsCall, IsDue, TaskSpec, verdict}
use Rattle.cool_sources.specs.Tasks.IsDue.{answered, memory, too_many, unread, usage}
use Rattle.cool_sources.specs.declared.answer.Answer.{Answer}
use Rattle.cool_sources.specs.declared.status.Status.{Status}
use Rattle.cool_sources.specs.declared.status.Status.TheVariants.{FileFault, Memory, Usage}

module _ (task : TaskSpec) (shelf : ShelfUse) (names : List (List ℕ)) where
  -- the outcome with an equal status, text and note
  pub due_as : (status other : Status) (text bytes note told : List ℕ) → status ≡ other → text ≡ bytes → note ≡ told → IsDue task shelf names other bytes told
      → IsDue task shelf names status text note
  due_as status other text bytes note told e f h due =
      subst (λ (s : Status). IsDue task shelf names s text note) (sym e)
      (subst (λ (t : List ℕ). IsDue task shelf names other t note) (sym f) (subst (λ (n : List ℕ). IsDue task shelf names other bytes n) (sym h) due))

-- names that are there, and that the task accepts, are a call
pub is_call : (task : TaskSpec) (names : List (String Global)) → names ≢ [] → task.accepts (map string_bytes names) ≡ true → IsCall task (map string_bytes names)
is_call task [] some accepted = absurd (some refl)
is_call task (n ∷ names) some accepted = (λ (e : map string_bytes (n ∷ names) ≡ []). absurd cc, accepted)

-- they are as many as their bytes
pub many_of : (names : List (String Global)) → MOST_FILES < length names → MOST_FILES < length (map string_bytes names)
many_of names many = omega (arith, length-map names string_bytes, many)

pub few_of : (names : List (String Global)) → length names ≤ MOST_FILES → length (map string_bytes names) ≤ MOST_FILES
few_of names few = omega (arith, length-map names string_bytes, few)

-- a shelf that was asked for nothing
pub unused : (shelf : ShelfUse) → shelf.faults_after ≡ shelf.faults_before → shelf.asked_after ≡ shelf.asked_before → shelf.gave_after ≡ shelf.gave_before → IsUnused shelf
unused shelf calm asked gave = record { calm = calm; asked = asked; gave = gave }

-- whether names are there
pub no_names : (names : List (String Global)) → true ≡ (length names == 0) → names ≡ []
no_names [] h = refl
no_names (n ∷ names) h = absurd (grind (arith, h))

pub some_names : (names : List (String Global)) → false ≡ (length names == 0) → names ≢ []
some_names [] h e = absurd (grind (arith, h))
some_names (n ∷ names) h e = absurd cc
