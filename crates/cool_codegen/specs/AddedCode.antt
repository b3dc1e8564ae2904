-- `IsReady` and `HasRoom` are the precondition for generating the code of a subexpression. `Adds` is the postcondition: the lines, the spans (ranges of lines)
-- and the constants that the code adds.
use Rattle.std.specs.Prelude.{◌≡◌, ℕ, ◌+◌, ◌*◌, ◌-◌, ◌^◌, ◌<◌, ◌≤◌, List, ◌++◌, length, map, Result, IfOk, OnOk}
use Rattle.std.specs.List.{AllByRecursion}
use Rattle.mips_isa.specs.Lines.{Line, lines_of}
use Rattle.cool_syntax.specs.declared.node.Node.{Node}
use Rattle.cool_syntax.specs.declared.node.NodeId.{NodeId}
use Rattle.cool_syntax.specs.declared.place.Place.{Place}
use Rattle.cool_syntax.specs.declared.file_tree.Feature.{Feature}
use Rattle.cool_syntax.specs.Tree.{of_list}
use Rattle.cool_syntax.specs.NodeLists.{all_trees, at_id, made, tree_at, HasPartsBelow}
use Rattle.cool_syntax.specs.TreesWithinLimits.{AreTreesWithin, IsTreeWithin}
use Rattle.cool_rules.specs.Scopes.{Binding}
use Rattle.cool_rules.specs.TypedParts.{AreParts, HasParts, IsPart}
use Rattle.cool_consts.specs.Constants.{Constants}
use Rattle.cool_codegen.specs.declared.code.Code.{Code}
use Rattle.cool_codegen.specs.declared.feature.FeatureCode.{FeatureCode}
use Rattle.cool_codegen.specs.declared.code_setting.CodeSetting.{CodeSetting}
use Rattle.cool_codegen.specs.declared.code_setting.Wanted.{Wanted}
use Rattle.cool_codegen.specs.Asked.{integers_in, strings_in, with_integers, with_strings, Extends, Keeps}
use Rattle.cool_codegen.specs.Code.{Context}
use Rattle.cool_codegen.specs.Features.{feature_code, feature_integers, feature_names, feature_strings}
use Rattle.cool_codegen.specs.Spans.{feature_spans}
use Rattle.cool_codegen.specs.Shown.{Shown, noted, shown, shown_of}
use Rattle.cool_codegen.specs.Numbered.{node_asked, node_lines, node_size, node_spans}
use Rattle.cool_codegen.specs.CodeSettings.{context, typed_body, HaveTypes, IsSound}
use Rattle.cool_codegen.specs.Variables.{Named}

-- The setting is sound, and the variables in scope have types of its table.
pub record IsReady (s : CodeSetting) (vs : List Named) : Type 0 where
  pub sound : IsSound s
  pub types : HaveTypes s.table.now vs

-- At this depth and after these constants, the words that so many nodes push and the constants that they name stay within the limits.
pub record HasRoom (t : Constants) (depth size : ℕ) : Type 0 where
  pub deep : depth + size < 2 ^ 28
  pub integers : length t.integers + size < 2 ^ 32 - 1
  pub strings : length t.strings + 2 * size < 2 ^ 32 - 1

-- A number is that of an expression of the body, with these names in scope, whose places are in the files.
pub record IsExpressionOf (s : CodeSetting) (scope : List Binding) (id : NodeId) : Type 0 where
  pub part : IsPart (typed_body s) scope id
  pub places : IsTreeWithin (length s.names.now) (tree_at s.body.now id)

-- Numbers are those of expressions of the body, with these names in scope, that are parts of the one at this number.
pub record AreExpressionsOf (s : CodeSetting) (scope : List Binding) (end : NodeId) (ids : List NodeId) : Type 0 where
  pub parts : AreParts (typed_body s) scope ids
  pub below : AllByRecursion (λ id. id.0 < end.0) ids
  pub places : AreTreesWithin (length s.names.now) (of_list (map (at_id (all_trees s.body.now)) ids))

-- A node of this number has expressions of the body as parts, where it has these names in scope.
pub record IsNodeOf (s : CodeSetting) (scope : List Binding) (id : NodeId) (node : Node) : Type 0 where
  pub parts : HasParts (typed_body s) scope node
  pub below : HasPartsBelow id.0 node
  pub places : IsTreeWithin (length s.names.now) (made (all_trees s.body.now) node)

-- The code of so many nodes was added, with these spans. The constants are those after the code, and those before it kept their numbers; the setting and the
-- names in scope are as before.
pub record Adds {X E : Type 0} (code : List Line) (shows : List Shown) (named : Constants) (size : ℕ) (before after : Code) (result : Result X E) : Type 0 where
  pub setting : after.setting ≡ before.setting
  pub scope : OnOk result (after.variables ≡ before.variables)
  pub lines : OnOk result (lines_of after.lines.items ≡ lines_of before.lines.items ++ code)
  pub spans : OnOk result (map shown_of after.spans.items ≡ map shown_of before.spans.items ++ shows)
  pub asked : OnOk result (after.consts ≡ named)
  pub more_integers : OnOk result (length after.consts.integers ≤ length before.consts.integers + size)
  pub more_strings : OnOk result (length after.consts.strings ≤ length before.consts.strings + 2 * size)
  pub kept : Keeps before.consts after.consts

-- The code of the node of this number was added at this depth, with the spans of its parts.
abbrev pub AddsNode : {X E : Type 0} → ℕ → NodeId → Node → Code → Code → Result X E → Type 0
AddsNode depth id node before after result =
    Adds (node_lines (context before.setting) before.setting.body.now before.consts before.variables depth id node)
    (node_spans before.setting.wanted (context before.setting) before.setting.body.now before.consts before.variables depth (lines_of before.lines.items) id node)
    (node_asked (context before.setting).files before.setting.body.now before.consts node)
    (node_size before.setting.body.now node) before after result

-- The file of a place has a name, and two more strings stay within the limit on strings.
pub record CanName (s : CodeSetting) (t : Constants) (at : Place) : Type 0 where
  pub few : length t.strings + 2 < 2 ^ 32 - 1
  pub file : at.file < length s.names.now

-- Code is as before, except for the spans.
pub record NotesAlone (before after : Code) : Type 0 where
  pub setting : after.setting ≡ before.setting
  pub scope : after.variables ≡ before.variables
  pub lines : after.lines ≡ before.lines
  pub consts : after.consts ≡ before.consts

-- The code of a feature was made, with these names in scope in all of it. Its lines are the same by each table that extends the constants after it, and its
-- noted spans are the same by each table.
pub record MakesCode {E : Type 0} (s : CodeSetting) (code : Constants → List Line) (shows : Constants → List Shown) (variables : List Named) (t u : Constants) (result : Result FeatureCode E) : Type 0 where
  pub lines : IfOk result (λ made. (g : Constants) → Extends u g → lines_of made.lines.items ≡ code g)
  pub spans : IfOk result (λ made. (g : Constants) → map shown_of made.spans.items ≡ noted s.wanted (shows g))
  pub names : IfOk result (λ made. made.names ≡ variables)
  pub integers : OnOk result (u.integers ≡ with_integers t.integers (integers_in s.body.now))
  pub strings : OnOk result (u.strings ≡ with_strings t.strings (strings_in (context s).files s.body.now))
  pub kept : Keeps t u

-- The code of a feature was made: its lines are the same by each table that extends the constants after it, and its noted spans are the same by each table.
-- The names are those in scope in all of the feature.
pub record MakesFeature {E : Type 0} (want : Wanted) (s : Context) (x : Feature) (t u : Constants) (result : Result FeatureCode E) : Type 0 where
  pub lines : IfOk result (λ made. (g : Constants) → Extends u g → lines_of made.lines.items ≡ feature_code s g x)
  pub spans : IfOk result (λ made. (g : Constants) → map shown_of made.spans.items ≡ noted want (map (shown s g) (feature_spans length s g 0 x)))
  pub names : IfOk result (λ made. made.names ≡ feature_names s x)
  pub integers : OnOk result (u.integers ≡ with_integers t.integers (feature_integers x))
  pub strings : OnOk result (u.strings ≡ with_strings t.strings (feature_strings s.files x))
