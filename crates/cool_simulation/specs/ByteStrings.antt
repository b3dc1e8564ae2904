-- `ClassesHaveBytes` says that the string constants of a program consist of bytes, which are numbers below 256.
use Rattle.std.specs.Prelude.{List, IfSome}
use Rattle.cool_syntax.specs.declared.file_tree.ClassDef.{ClassDef}
use Rattle.cool_syntax.specs.declared.file_tree.Feature.{Feature}
use Rattle.cool_syntax.specs.declared.file_tree.Feature.TheVariants.{Method, Attribute}
use Rattle.cool_syntax.specs.Tree.{Tree, Trees, MaybeTree, Cases, string_or}
use Rattle.cool_syntax.specs.Gatherings.{Gathering, gathered, gathered_all, gathered_maybe, gathered_cases}
use Rattle.std.specs.List.{AllByRecursion}
use Rattle.lists.specs.Bytes.{AreBytes}

-- each string constant of an expression has numbers below 256
abbrev bytes : Gathering (Type 0)
bytes = record { none = Unit {0}; both = λ A B. A × B; form = string_or (Unit {0}) AreBytes; branch = λ Body. Body }

abbrev pub HasBytes : Tree → Type 0
HasBytes = gathered bytes

abbrev pub HaveBytes : Trees → Type 0
HaveBytes = gathered_all bytes

abbrev pub MaybeHasBytes : MaybeTree → Type 0
MaybeHasBytes = gathered_maybe bytes

abbrev pub CasesHaveBytes : Cases → Type 0
CasesHaveBytes = gathered_cases bytes

abbrev pub FeatureHasBytes : Feature → Type 0
FeatureHasBytes (Method m) = HasBytes m.body
FeatureHasBytes (Attribute a) = IfSome a.init HasBytes

abbrev pub ClassesHaveBytes : List ClassDef → Type 0
ClassesHaveBytes = AllByRecursion (λ (c : ClassDef). AllByRecursion FeatureHasBytes c.features)
