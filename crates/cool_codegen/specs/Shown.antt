-- `Shown` is the debug information of the code of one expression: the source location and the kind of the expression, and its lines from the first up to the
-- one after the last. It also has the number of words pushed in the frame where the code begins, the number of names in scope there, and the name entered last.
use Rattle.std.specs.Prelude.{ℕ, ◌+◌, ◌≤◌, List, [], ◌∷◌, ◌++◌, length, map, slice_get, Option}
use Rattle.std.specs.List.{AllByRecursion}
use Rattle.std.specs.Global.{Vec}
use Rattle.std.specs.Option.{option_map}
use Rattle.cool_syntax.specs.declared.place.Place.{Place}
use Rattle.cool_syntax.specs.Tree.{Tree, place_of}
use Rattle.cool_syntax.specs.Tree as trees
use Rattle.mips_isa.specs.Lines.{Line}
use Rattle.cool_consts.specs.Constants.{Constants}
use Rattle.cool_codegen.specs.declared.arm.Arm as declared_arm
use Rattle.cool_codegen.specs.declared.span.Form.{Form}
use Rattle.cool_codegen.specs.declared.span.Form.TheVariants as forms
use Rattle.cool_codegen.specs.declared.span.Span as declared_span
use Rattle.cool_codegen.specs.declared.code_setting.Wanted.{Wanted}
use Rattle.cool_codegen.specs.declared.code_setting.Wanted.TheVariants.{Lines, Spans}
use Rattle.cool_codegen.specs.Arms.{arm_of}
use Rattle.cool_rules.specs.Scopes.{binding_of}
use Rattle.cool_codegen.specs.Variables.{Named}
use Rattle.cool_codegen.specs.Code.{Context}
use Rattle.cool_codegen.specs.Spans.{Span, Branch, code_of}

abbrev pub form_of : Tree → Form
form_of (trees.Assign at name t) = forms.Assign
form_of (trees.Dispatch at t name ts) = forms.Call
form_of (trees.StaticDispatch at t class name ts) = forms.StaticCall
form_of (trees.If at t y n) = forms.If
form_of (trees.While at t b) = forms.While
form_of (trees.Block at ts) = forms.Block
form_of (trees.Let at name declared o t) = forms.Let
form_of (trees.Case at t cs) = forms.Case
form_of (trees.New at class) = forms.New
form_of (trees.IsVoid at t) = forms.IsVoid
form_of (trees.Arith at op a b) = forms.Arith op
form_of (trees.Neg at t) = forms.Neg
form_of (trees.Compare at op a b) = forms.Compare op
form_of (trees.Not at t) = forms.Not
form_of (trees.Id at name) = forms.Name
form_of (trees.Int at value) = forms.Integer
form_of (trees.Str at bytes) = forms.String
form_of (trees.Bool at value) = forms.Bool

pub record Shown : Type 0 where
  pub at : Place
  pub form : Form
  pub from : ℕ
  pub to : ℕ
  pub depth : ℕ
  pub names : ℕ
  pub latest : Option Named

-- the span of a tree whose code stands from a line to another, with these names in scope
abbrev pub whole : List Named → ℕ → ℕ → ℕ → Tree → Shown
whole vs d from to t = record { at = place_of t; form = form_of t; from = from; to = to; depth = d; names = length vs; latest = slice_get vs 0 }

-- the data shown by a span, by lines
abbrev pub shown : Context → Constants → Span → Shown
shown s g x = whole x.scope x.depth x.from (x.from + length (code_of s g x)) x.tree

-- the data with another end
abbrev pub ended : ℕ → Shown → Shown
ended to x = record { at = x.at; form = x.form; from = x.from; to = to; depth = x.depth; names = x.names; latest = x.latest }

-- the data of the same span so many lines later
abbrev pub later : ℕ → Shown → Shown
later n x = record { at = x.at; form = x.form; from = n + x.from; to = n + x.to; depth = x.depth; names = x.names; latest = x.latest }

-- the data shown by a span that was noted
abbrev pub shown_of : declared_span.Span → Shown
shown_of x = record {
  at = x.at;
  form = x.form;
  from = x.from;
  to = x.to;
  depth = x.depth;
  names = x.names;
  latest = option_map binding_of x.latest;
}

-- the spans that are noted: all if they are wanted, and none if only lines are
abbrev pub noted : Wanted → List Shown → List Shown
noted Lines xs = []
noted Spans xs = xs

-- a branch whose code was made, with what its spans show, by the lines from its first
abbrev pub made_of : declared_arm.Arm (Vec declared_span.Span) → Branch (List Shown)
made_of a = record { arm = arm_of a; inside = map shown_of a.spans.items }

-- the spans lie within the lines of the branch
abbrev pub IsWithin : Branch (List Shown) → Type 0
IsWithin b = AllByRecursion (λ x. (x.from ≤ length b.arm.lines) × (x.to ≤ length b.arm.lines)) b.inside

-- the spans of branches whose lines stand one behind the other, behind others
abbrev pub arms_spans : List Line → List (Branch (List Shown)) → List Shown
arms_spans before [] = []
arms_spans before (b ∷ bs) = map (later (length before)) b.inside ++ arms_spans (before ++ b.arm.lines) bs
