-- `due_notices` lists the notices (warnings) that are due in an expression: forms that are legal, but likely a mistake.
use Rattle.std.specs.Prelude.{◌≡◌, ℕ, zero, ◌-◌, List, [], ◌∷◌, ◌++◌, length, take, Bool, true, false, bytes_eq, Option, Some, None, option_map, unwrap_or, is_some, if◌then◌else◌, codes, refl}
use Rattle.std.specs.Option.{option_to_list}
use Rattle.cool_syntax.specs.declared.operator.ArithOp.{ArithOp}
use Rattle.cool_syntax.specs.declared.operator.ArithOp.TheVariants.{Div}
use Rattle.cool_syntax.specs.declared.operator.CompareOp.TheVariants.{Equal, Less}
use Rattle.cool_syntax.specs.declared.place.Place.{Place}
use Rattle.cool_syntax.specs.Tree.{Tree, Trees, MaybeTree, Cases, Last, More, Without, With, NoCase, CaseOf, place_of}
use Rattle.cool_syntax.specs.Tree as trees
use Rattle.cool_notices.specs.declared.kind.Notice.{Notice}
use Rattle.cool_notices.specs.declared.kind.NoticeKind.{NoticeKind}
use Rattle.cool_notices.specs.declared.kind.NoticeKind.TheVariants as kind

-- the name that an expression is, where it is one
abbrev pub name_of : Tree → Option (List ℕ)
name_of (trees.Id at name) = Some name
name_of t = None

-- which notice is due at an expression whose value is not used: it has no effect of its own. A comparison with a name to its left likely was to be an
-- assignment to that name.
abbrev pub idle_kind : Tree → Option NoticeKind
idle_kind (trees.Compare at op a b) = Some (if is_some (name_of a) then kind.Comparison else kind.Unused)
idle_kind (trees.Arith at op a b) = Some kind.Unused
idle_kind (trees.Neg at t) = Some kind.Unused
idle_kind (trees.Not at t) = Some kind.Unused
idle_kind (trees.IsVoid at t) = Some kind.Unused
idle_kind (trees.Id at name) = Some kind.Unused
idle_kind (trees.Int at value) = Some kind.Unused
idle_kind (trees.Str at bytes) = Some kind.Unused
idle_kind (trees.Bool at value) = Some kind.Unused
idle_kind t = None

abbrev pub idle_notice : Tree → Option Notice
idle_notice t = option_map (λ k. record { kind = k; at = place_of t }) (idle_kind t)

-- the notices of the items of a block whose values are not used: all but the last
abbrev pub idle_notices : Trees → List Notice
idle_notices Last = []
idle_notices (More a Last) = []
idle_notices (More a (More b ts)) = option_to_list (idle_notice a) ++ idle_notices (More b ts)

-- a notice, where it is due
abbrev pub notice_if : Bool → NoticeKind → Place → Option Notice
notice_if is_due k at = if is_due then Some (record { kind = k; at = at }) else None

-- whether an expression is this name; whether two are one name; whether one is the constant 0, and what
-- is done by it a division
abbrev pub is_name : Tree → List ℕ → Bool
is_name t name = unwrap_or (option_map (λ other. bytes_eq other name) (name_of t)) false

abbrev pub are_one_name : Tree → Tree → Bool
are_one_name s t = unwrap_or (option_map (is_name t) (name_of s)) false

abbrev pub is_zero : Tree → Bool
is_zero (trees.Int at zero) = true
is_zero t = false

abbrev pub is_by_zero : ArithOp → Tree → Bool
is_by_zero Div t = is_zero t
is_by_zero op t = false

-- the notice of a predicate: at an assignment
abbrev pub test_notice : Tree → Option Notice
test_notice (trees.Assign at name value) = Some (record { kind = kind.AssignedTest; at = at })
test_notice t = None

-- the notice that is due at an expression itself, whether or not its value is used
abbrev pub own_notice : Tree → Option Notice
own_notice (trees.Assign at name value) = notice_if (is_name value name) kind.OwnValue at
own_notice (trees.If at test y n) = test_notice test
own_notice (trees.While at test body) = test_notice test
own_notice (trees.Compare at op a b) = notice_if (are_one_name a b) kind.SameSides at
own_notice (trees.Arith at op a b) = notice_if (is_by_zero op b) kind.ByZero at
own_notice t = None

-- those of the items of an expression that is a block
abbrev pub block_notices : Tree → List Notice
block_notices (trees.Block at items) = idle_notices items
block_notices t = []

-- those at an expression but for its parts
abbrev pub notices_at : Tree → List Notice
notices_at t = block_notices t ++ option_to_list (own_notice t)

-- The notices that are due in an expression, in order: those of its parts as they stand in the text, and then those at itself.
abbrev mutual
  pub due_notices : Tree → List Notice
  due_notices (trees.leaf at form) = notices_at (trees.leaf at form)
  due_notices (trees.unary at form a) = due_notices a ++ notices_at (trees.unary at form a)
  due_notices (trees.binary at form a b) = due_notices a ++ due_notices b ++ notices_at (trees.binary at form a b)
  due_notices (trees.call at form a ts) = due_notices a ++ due_in_all ts ++ notices_at (trees.call at form a ts)
  due_notices (trees.If at a b c) = due_notices a ++ due_notices b ++ due_notices c ++ notices_at (trees.If at a b c)
  due_notices (trees.Block at ts) = due_in_all ts ++ notices_at (trees.Block at ts)
  due_notices (trees.Let at name declared o a) = due_in_maybe o ++ due_notices a ++ notices_at (trees.Let at name declared o a)
  due_notices (trees.Case at a cs) = due_notices a ++ due_in_cases cs ++ notices_at (trees.Case at a cs)

  pub due_in_all : Trees → List Notice
  due_in_all Last = []
  due_in_all (More t ts) = due_notices t ++ due_in_all ts

  pub due_in_maybe : MaybeTree → List Notice
  due_in_maybe Without = []
  due_in_maybe (With t) = due_notices t

  pub due_in_cases : Cases → List Notice
  due_in_cases NoCase = []
  due_in_cases (CaseOf at name declared t cs) = due_notices t ++ due_in_cases cs

-- notices, and the first of more after them, until there are so many
abbrev pub up_to : ℕ → List Notice → List Notice → List Notice
up_to most before more = before ++ take (most - length before) more

-- Worked examples: in `{ n = 2; n = n; n; }` the first item has one notice, and the second two: its own, as a part of the block, and that
-- of its value; the last item has none. `3 / 0` has one, and `0 / 3` none.
items_are_noticed : (p : Place) → due_notices (trees.Block p (More (trees.Compare p Equal (trees.Id p (codes "n")) (trees.Int p 2)) (More (trees.Compare p Equal (trees.Id p (codes "n")) (trees.Id p (codes "n"))) (More (trees.Id p (codes "n")) Last))))
    ≡ record { kind = kind.SameSides; at = p } ∷ record { kind = kind.Comparison; at = p } ∷ record { kind = kind.Comparison; at = p } ∷ []
items_are_noticed p = refl

-- `n < 2` as such an item has the notice that `<-` was likely meant, and `1 < 2` only that its value is not used
less_is_noticed : (p : Place) → idle_kind (trees.Compare p Less (trees.Id p (codes "n")) (trees.Int p 2)) ≡ Some kind.Comparison
less_is_noticed p = refl

numbers_are_not_assigned : (p : Place) → idle_kind (trees.Compare p Less (trees.Int p 1) (trees.Int p 2)) ≡ Some kind.Unused
numbers_are_not_assigned p = refl

division_is_noticed : (p : Place) → due_notices (trees.Arith p Div (trees.Int p 3) (trees.Int p 0)) ≡ record { kind = kind.ByZero; at = p } ∷ []
division_is_noticed p = refl

other_division_is_not : (p : Place) → due_notices (trees.Arith p Div (trees.Int p 0) (trees.Int p 3)) ≡ []
other_division_is_not p = refl

-- the text of a notice
abbrev pub words : NoticeKind → List ℕ
words kind.Comparison = codes "the result of this comparison is not used: write `<-` to assign"
words kind.Unused = codes "the value of this expression is not used"
words kind.OwnValue = codes "this assigns a variable to itself; if it hides an attribute of the same name, rename one of them"
words kind.AssignedTest = codes "`<-` assigns a value: write `=` to compare"
words kind.SameSides = codes "both sides of this comparison are the same variable"
words kind.ByZero = codes "this divides by 0, which ends the program with an error"
