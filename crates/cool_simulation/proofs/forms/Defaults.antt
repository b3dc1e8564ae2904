-- The code for the default value of a type loads the value with which a variable of the type begins: void, or the default object of Int, Bool or String.
use Rattle.std.proofs.Common.{◌≡◌, ◌≢◌, ℕ, ◌+◌, ◌<◌, pos, List, [], length, refl, sym, ap, ◌∙◌, subst, arith, ◌≤◌}
use Rattle.std.specs.Prelude.{Bool as Truth, true, false, bytes_eq, codes, nat_eq, if◌then◌else◌}
use Rattle.std.proofs.lemmas.Slice.Eq.{bytes_eq-Decides}
use Rattle.mips_isa.specs.Bytes.{Bytes}
use Rattle.mips_isa.specs.Calls.{State as Machine}
use Rattle.mips_isa.specs.Lines.{Line, Name}
use Rattle.cool_classes.specs.declared.class_id.ClassId.{ClassId}
use Rattle.cool_classes.specs.declared.class_id.Ty.{Ty}
use Rattle.cool_classes.specs.declared.class_id.Ty.TheVariants.{Class as IsClass, SelfType}
use Rattle.cool_classes.specs.Chains.{Class, class_number, name_of}
use Rattle.cool_classes.specs.Features.{Denotes}
use Rattle.cool_rules.specs.TypedTables.{IsTypedTable}
use Rattle.cool_runtime.specs.Reaches.{Reaches, stands}
use Rattle.cool_runtime.specs.Standing.{HasLines, sizes}
use Rattle.cool_runtime.specs.Labels.{false_constant}
use Rattle.cool_runtime.specs.RoutineLabels.{default_int, default_string}
use Rattle.cool_runtime.specs.Machines.{At, Pointers, Console}
use Rattle.cool_runtime.proofs.Pieces.{next, done}
use Rattle.cool_codegen.specs.Pieces.{take_lines, take_void_lines}
use Rattle.cool_codegen.specs.Code.{default_code}
use Rattle.cool_meaning.specs.Values.{Value, Void, Int, Bool, Str, State, default_of}
use Rattle.cool_meaning.proofs.BasicClasses.{by_number, basic_name, basic_within}
use Rattle.cool_simulation.specs.Loadings.{Loading, IsLoaded, Watched, marks, whole}
use Rattle.cool_simulation.specs.Pictures.{Map, Pictures, Shows, Pic}
use Rattle.cool_simulation.specs.Simulation.{Done, Passes, Shown}
use Rattle.cool_simulation.proofs.ground.Walks.{takes_void}
use Rattle.cool_simulation.proofs.forms.Constants.{takes_value, head_takes_value}
use Rattle.cool_simulation.proofs.ground.PartsBehind.{done_here}
use Rattle.cool_simulation.proofs.ground.DataHere.{truth_pic, default_int_pic, default_string_pic}
use Rattle.std.proofs.lemmas.Bool.{eqb-true}
use Rattle.cool_simulation.specs.Quiet.{IsFree}
use Rattle.cool_simulation.specs.Visits.{Visit}
use Rattle.cool_simulation.proofs.ground.Heads.{head_takes_void}
use Rattle.cool_simulation.proofs.ground.Passages.{passes_weaker, passes_wider}
use Rattle.cool_simulation.proofs.ground.PartsOfRuns.{stands_as}

is_other : (n m : ℕ) → nat_eq n m ≡ false → n ≢ m
is_other n m e = grind arith

-- Names of basic types

plain_default : (name : List ℕ) → bytes_eq name (codes "Int") ≡ false → bytes_eq name (codes "Bool") ≡ false → bytes_eq name (codes "String") ≡ false → default_of name ≡ Void
plain_default name a b c = rw (a, b, c) refl

module _ (p : List Class) (typed : IsTypedTable p) (d : ClassId) (within : d.0 < length p) (name : List ℕ) (is : name_of p d ≡ name) where
  -- the class at a number has its name
  named : (n : ℕ) (x : List ℕ) → n < 5 → name_of p (class_number n) ≡ x → nat_eq d.0 n ≡ true → name ≡ x
  named n x less e same = sym is ∙ ap (name_of p) (by_number d n (eqb-true d.0 n same)) ∙ e

  not_named : (n : ℕ) (x : List ℕ) → n < 5 → name_of p (class_number n) ≡ x → nat_eq d.0 n ≡ false → bytes_eq name x ≡ false
  not_named n x less e other = by (bytes_eq name x) refl
    where
      by : (t : Truth) → bytes_eq name x ≡ t → bytes_eq name x ≡ false
      by false f = f
      by true f =
          let same : d ≡ class_number n = typed.whole.table.names d (class_number n) within (basic_within p typed n less) (is ∙ ((bytes_eq-Decides name x).0 f ∙ sym e)) in
          absurd (is_other d.0 n other (ap (λ (c : ClassId). c.0) same))

-- the code of a default has a word at least
pub default_words : (t : Ty) → 4 ≤ sizes (default_code t)
unfolding take_lines take_void_lines
default_words SelfType = omega arith
default_words (IsClass d) = by (nat_eq d.0 2) (nat_eq d.0 3) (nat_eq d.0 4)
  where
    by : (x y z : Truth) → 4 ≤ sizes (if x then take_lines default_int else if y then take_lines false_constant else if z then take_lines default_string else take_void_lines)
    by true y z = omega arith
    by false true z = omega arith
    by false false true = omega arith
    by false false false = omega arith

-- The result of the code of a default, by the type: void, or the default of a basic class.
module _ (p : List Class) (typed : IsTypedTable p) (Leaves : List Line → Value → Type 0) (leaves_void : Leaves take_void_lines Void) (leaves_int : Leaves (take_lines default_int) (Int (pos 0)))
    (leaves_false : Leaves (take_lines false_constant) (Bool false)) (leaves_string : Leaves (take_lines default_string) (Str [])) where
  default_leaves : (name : List ℕ) (t : Ty) → Denotes p name t → Leaves (default_code t) (default_of name)
  default_leaves name SelfType is = subst (λ (n : List ℕ). Leaves take_void_lines (default_of n)) (sym is) leaves_void
  default_leaves name (IsClass d) (within, is) = by (nat_eq d.0 2) (nat_eq d.0 3) (nat_eq d.0 4) refl refl refl
    where
      int_name : name_of p (class_number 2) ≡ codes "Int"
      int_name = basic_name p typed 2 (omega arith)

      bool_name : name_of p (class_number 3) ≡ codes "Bool"
      bool_name = basic_name p typed 3 (omega arith)

      string_name : name_of p (class_number 4) ≡ codes "String"
      string_name = basic_name p typed 4 (omega arith)

      by : (x y z : Truth) → nat_eq d.0 2 ≡ x → nat_eq d.0 3 ≡ y → nat_eq d.0 4 ≡ z
          → Leaves (if x then take_lines default_int else if y then take_lines false_constant else if z then take_lines default_string else take_void_lines) (default_of name)
      by true y z ex ey ez = subst (λ (n : List ℕ). Leaves (take_lines default_int) (default_of n)) (sym (named p typed d within name is 2 (codes "Int") (omega arith) int_name ex)) leaves_int
      by false true z ex ey ez = subst (λ (n : List ℕ). Leaves (take_lines false_constant) (default_of n)) (sym (named p typed d within name is 3 (codes "Bool") (omega arith) bool_name ey)) leaves_false
      by false false true ex ey ez = subst (λ (n : List ℕ). Leaves (take_lines default_string) (default_of n)) (sym (named p typed d within name is 4 (codes "String") (omega arith) string_name ez)) leaves_string
      by false false false ex ey ez =
          subst (λ (v : Value). Leaves take_void_lines v)
          (sym (plain_default name (not_named p typed d within name is 2 (codes "Int") (omega arith) int_name ex) (not_named p typed d within name is 3 (codes "Bool") (omega arith) bool_name ey)
          (not_named p typed d within name is 4 (codes "String") (omega arith) string_name ez))) leaves_void

module _ (l : Loading) (loaded : IsLoaded l) (q : Pointers) (m : Bytes) (map : Map) (console : Console) (st : State) (s : Machine) (at : At l.world q m console s) (shows : Shows st console)
    (pictures : Pictures l.table l.world l.memory m map st q.gp q.sp) where
  -- code without a mark leaves it
  abbrev Leaves : List Line → Value → Type 0
  Leaves lines v = HasLines l.world q.pc lines → Reaches l.world s 0 2 (stands (Done l (record q { pc = q.pc + sizes lines }) m map st 0 v st))

  leaves_void : Leaves take_void_lines Void
  unfolding take_void_lines
  leaves_void has =
      next l.world s 1 1 2 _ _ (takes_void l.world q m console s has at) (omega arith)
      (λ u there. done l.world 1 u _ (done_here l (record q { pc = q.pc + 4 }) m map st 0 Void u 0 q.ra console there shows pictures refl))

  leaves_value : (label : Name) (v : Value) → Pic l.world m map st.drawn q.gp v (l.world.place label) → Leaves (take_lines label) v
  unfolding take_lines
  leaves_value label v pic has = takes_value l label v q m map console st s 0 0 has at shows pictures pic

  pub default_runs : (name : List ℕ) (t : Ty) → Denotes l.table name t → Leaves (default_code t) (default_of name)
  default_runs =
      default_leaves l.table loaded.buildable.typed Leaves leaves_void
      (leaves_value default_int (Int (pos 0)) (default_int_pic l loaded m map st q.gp q.sp at.numbers.gp_from pictures))
      (leaves_value false_constant (Bool false) (truth_pic l loaded m map st q.gp q.sp at.numbers.gp_from pictures false))
      (leaves_value default_string (Str []) (default_string_pic l loaded m map st q.gp q.sp at.numbers.gp_from pictures))

  -- and so does code at the first word of a visit
  module _ (x : Visit) (watched : Watched l.watch x) (shown : Shown l x s) where
    abbrev Heads : List Line → Value → Type 0
    Heads lines v = HasLines (whole l) q.pc lines → IsFree (marks l.watch) (q.pc + 4) (q.pc + sizes lines) → Passes l s 0 2 (stands (Done l (record q { pc = q.pc + sizes lines }) m map st 0 v st))

    heads_void : Heads take_void_lines Void
    unfolding take_void_lines
    heads_void has free =
        passes_wider l s 0 0 1 2 _ (omega arith) (omega arith)
        (passes_weaker l s 0 1 _ _ (stands_as _ _ (λ u there. done_here l (record q { pc = q.pc + 4 }) m map st 0 Void u 0 q.ra console there shows pictures refl)) (head_takes_void l q m console s at x watched shown has))

    heads_value : (label : Name) (v : Value) → Pic l.world m map st.drawn q.gp v (l.world.place label) → Heads (take_lines label) v
    unfolding take_lines
    heads_value label v pic has free = head_takes_value l label v q m map console st s 0 x watched shown has free at shows pictures pic

    pub head_default : (name : List ℕ) (t : Ty) → Denotes l.table name t → Heads (default_code t) (default_of name)
    head_default =
        default_leaves l.table loaded.buildable.typed Heads heads_void
        (heads_value default_int (Int (pos 0)) (default_int_pic l loaded m map st q.gp q.sp at.numbers.gp_from pictures))
        (heads_value false_constant (Bool false) (truth_pic l loaded m map st q.gp q.sp at.numbers.gp_from pictures false))
        (heads_value default_string (Str []) (default_string_pic l loaded m map st q.gp q.sp at.numbers.gp_from pictures))
