-- `AreOwn` and `AreNamed` say that the code's maps find the first method and the first attribute of a name in a class, and the first class of a name.
use Rattle.std.specs.Prelude.{◌≡◌, ℕ, ◌<◌, List, map, length, get_or, Some}
use Rattle.cool_syntax.specs.declared.file_tree.Feature.{Feature}
use Rattle.std.specs.Global.{Vec}
use Rattle.cool_classes.specs.declared.entry.Entry.{Entry}
use Rattle.cool_classes.specs.declared.own_names.OwnNames.{OwnNames}
use Rattle.cool_classes.specs.declared.own_names.TableNames.{TableNames}
use Rattle.cool_classes.specs.Chains.{Class, features_of, class_number}
use Rattle.cool_classes.specs.Entries.{classes, AreWhole}
use Rattle.cool_classes.specs.LawfulTables.{IsLawful}
use Rattle.cool_classes.specs.FirstNames.{shown_names, FindsFirst, method_name, attribute_name}
use Rattle.cool_classes.specs.Resolved.{AreResolved}

-- the names of these features
pub record AreOwn (own : OwnNames) (fs : List Feature) : Type 0 where
  pub methods : FindsFirst (shown_names own.methods.entries) (map method_name fs)
  pub attributes : FindsFirst (shown_names own.attributes.entries) (map attribute_name fs)

-- the names of the features of the classes below a number
pub record AreAllOwn (count : ℕ) (all : List OwnNames) (p : List Class) : Type 0 where
  pub same : length all ≡ count
  pub own : (c : ℕ) (d : OwnNames) → c < count → AreOwn (get_or all c d) (features_of p (class_number c))

-- the names of classes
abbrev pub AreNamed : List (Vec ℕ × ℕ) → List Entry → Type 0
AreNamed entries es = FindsFirst (shown_names entries) (map (λ (c : Class). Some c.name) (classes es))

-- the entries of a whole table that keeps the rules of classes, by the names of its classes and with those of their features
pub record IsIndexed (es : List Entry) (named : List (Vec ℕ × ℕ)) (all : List OwnNames) : Type 0 where
  pub whole : AreWhole es
  pub lawful : IsLawful (classes es)
  pub names : AreNamed named es
  pub own : AreAllOwn (length es) all (classes es)

-- the classes of resolved entries, by their names and with those of their features
pub record AreTableNames (table : TableNames) : Type 0 where
  pub resolved : AreResolved table.entries.now
  pub names : AreNamed table.classes.entries table.entries.now
  pub own : AreAllOwn (length table.entries.now) table.own.items (classes table.entries.now)
