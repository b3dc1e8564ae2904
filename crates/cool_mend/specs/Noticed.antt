-- The notices (warnings) of a program, for code that is legal but likely a mistake: `due_in_program` lists them, and `AreNoticed` says that the first of them
-- are given for files.
use Rattle.std.specs.Prelude.{◌≡◌, ℕ, List, [], map, take, Option, Some, None}
use Rattle.std.specs.List.{AllByRecursion, flat_map}
use Rattle.cool_syntax.specs.declared.file_tree.Feature.{Feature}
use Rattle.cool_syntax.specs.declared.place.Place.{Place}
use Rattle.cool_syntax.specs.Tree.{Tree}
use Rattle.cool_classes.specs.Chains.{Class}
use Rattle.cool_faults.specs.Verdicts.{IsAccepted}
use Rattle.cool_notices.specs.declared.kind.Notice.{Notice as Due}
use Rattle.cool_notices.specs.Notices.{due_notices, words}
use Rattle.cool_mend.specs.declared.explanation.Notice.{Notice}
use Rattle.cool_mend.specs.declared.noticing.TheConstants.{MOST_NOTICES}
use Rattle.cool_mend.specs.Ranges.{HasRange}
use Rattle.cool_mend.specs.Values.{body_of}

-- the notices that are due in a feature, in a class and in a program, in the order of the text
abbrev pub due_in_body : Option Tree → List Due
due_in_body None = []
due_in_body (Some body) = due_notices body

abbrev pub due_in_feature : Feature → List Due
due_in_feature f = due_in_body (body_of f)

abbrev pub due_in_class : Class → List Due
due_in_class c = flat_map due_in_feature c.features

abbrev pub due_in_program : List Class → List Due
due_in_program p = flat_map due_in_class p

-- the text and the place of a notice: of one by the definition, and of one that is written
pub record Saying : Type 0 where
  pub at : Place
  pub words : List ℕ

abbrev pub due_saying : Due → Saying
due_saying n = record { at = n.at; words = words n.kind }

abbrev pub saying : Notice → Saying
saying n = record { at = n.at; words = n.words.items }

-- Files that are accepted as a program have these notices: the first that are due in it, so many as are told, each with the range of the item at its place.
pub record AreNoticed (files : List (List ℕ)) (notices : List Notice) : Type 0 where
  pub table : List Class
  pub accepted : IsAccepted files table
  pub first : map saying notices ≡ map due_saying (take MOST_NOTICES (due_in_program table))
  pub ranges : AllByRecursion (HasRange files) notices
