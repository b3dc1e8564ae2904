-- `Held` is the state of a session: its files, and the data stored from the last check that reached type checking.
use Rattle.std.specs.Prelude.{◌≡◌, ℕ, List, [], Option, None, Ok, replicate}
use Rattle.cool_faults.specs.Files.{bytes_of}
use Rattle.cool_session.specs.declared.session.Session.{Session}
use Rattle.cool_session.specs.Files.{files_set, names_of, names_set, position, set_room, without}
use Rattle.cool_session.specs.Fresh.{Base}
use Rattle.cool_session.specs.NewFeatures.{base_seen}

-- the names of the files, their bytes, and the data stored from the last check that reached type checking
pub record Held : Type 0 where
  pub names : List (List ℕ)
  pub files : List (List ℕ)
  pub base : Option Base

abbrev pub held_by : Session → Held
held_by s = record { names = names_of s.names.items; files = bytes_of s.files.items; base = base_seen s.base }

abbrev pub nothing_held : Held
nothing_held = record { names = []; files = []; base = None }

-- the states after a file is set, after one is removed, and after a check
abbrev pub with_file : Held → List ℕ → List ℕ → Held
with_file h name bytes = record { names = names_set h.names name; files = files_set h.names h.files name bytes; base = h.base }

abbrev pub without_file : Held → List ℕ → Held
without_file h name =
    record { names = without (position h.names name) h.names; files = without (position h.names name) h.files; base = h.base }

abbrev pub with_base : Held → Option Base → Held
with_base h base = record { names = h.names; files = h.files; base = base }

-- the limits allow a file of this name with so many bytes, whichever they are
abbrev pub HasRoom : Held → List ℕ → ℕ → Type 0
HasRoom h name n = set_room h.names h.files name (replicate n 0) ≡ Ok tt
