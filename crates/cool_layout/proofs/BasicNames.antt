-- The names of the basic classes are those of the manual, and no other class has one of them.
use Rattle.std.proofs.Common.{◌≡◌, ℕ, ◌<◌, ◌≤◌, List, [], ◌∷◌, length, take, get_or, get_or-take, Bool, true, false, refl, sym, ap, ◌∙◌, arith, true≢false}
use Rattle.std.specs.Prelude.{pos, codes, bytes_eq, nat_eq, if◌then◌else◌}
use Rattle.mips_isa.specs.Lines.{Number, Address}
use Rattle.cool_runtime.specs.Labels.{false_constant}
use Rattle.cool_classes.specs.declared.class_id.ClassId.{ClassId}
use Rattle.cool_classes.specs.Chains.{Class, class_number, name_of, nothing}
use Rattle.cool_classes.specs.Tables.{IsTable, basic_classes}
use Rattle.cool_runtime.specs.RoutineLabels.{default_int, default_string}
use Rattle.cool_layout.specs.LinesOfLayout.{default_value}
use Rattle.lists.proofs.EqualBytes.{bytes_equal}

-- the five basic classes are there
pub five : (p : List Class) → take 5 p ≡ basic_classes → 5 ≤ length p
five p e = at p (ap length e)
  where
    at : (ps : List Class) → length (take 5 ps) ≡ 5 → 5 ≤ length ps
    at [] l = absurd (omega (arith, l))
    at (a ∷ []) l = absurd (omega (arith, l))
    at (a ∷ b ∷ []) l = absurd (omega (arith, l))
    at (a ∷ b ∷ c ∷ []) l = absurd (omega (arith, l))
    at (a ∷ b ∷ c ∷ d ∷ []) l = absurd (omega (arith, l))
    at (a ∷ b ∷ c ∷ d ∷ e ∷ ps) l = omega arith

-- their names
pub basic_name : (p : List Class) → take 5 p ≡ basic_classes → (k : ℕ) → k < 5 → name_of p (class_number k) ≡ name_of basic_classes (class_number k)
basic_name p e k low = ap (λ (c : Class). c.name) (sym (get_or-take 5 p k nothing low) ∙ ap (λ ps. get_or ps k nothing) e)

module _ (p : List Class) (table : IsTable p) (c : ClassId) (within : c.0 < length p) where
  -- another class has another name
  other_name : (k : ℕ) → k < 5 → false ≡ nat_eq c.0 k → bytes_eq (name_of p c) (name_of basic_classes (class_number k)) ≡ false
  other_name k low other = by (bytes_eq (name_of p c) (name_of basic_classes (class_number k))) refl
    where
      by : (b : Bool) → bytes_eq (name_of p c) (name_of basic_classes (class_number k)) ≡ b → b ≡ false
      by false e = refl
      by true e =
          let l = five p table.basic in
          let same : c ≡ class_number k = table.names c (class_number k) within (omega arith) (bytes_equal (name_of p c) (name_of basic_classes (class_number k)) e ∙ sym (basic_name p table.basic k low)) in
          let self : nat_eq k k ≡ true = grind arith in
          absurd (true≢false (sym (other ∙ ap (λ (d : ClassId). nat_eq d.0 k) same ∙ self)))

  -- an attribute of another class than Int, Bool and String is void
  pub void_first : false ≡ nat_eq c.0 2 → false ≡ nat_eq c.0 3 → false ≡ nat_eq c.0 4 → Number (pos 0) ≡ default_value (name_of p c)
  void_first not_int not_bool not_string =
      let int : bytes_eq (name_of p c) (codes "Int") ≡ false = other_name 2 (omega arith) not_int in
      let bool : bytes_eq (name_of p c) (codes "Bool") ≡ false = other_name 3 (omega arith) not_bool in
      let string : bytes_eq (name_of p c) (codes "String") ≡ false = other_name 4 (omega arith) not_string in
      sym (by (bytes_eq (name_of p c) (codes "Int")) (bytes_eq (name_of p c) (codes "Bool")) (bytes_eq (name_of p c) (codes "String")) int bool string)
    where
      by : (i b s : Bool) → i ≡ false → b ≡ false → s ≡ false → (if i then Address default_int else if b then Address false_constant else if s then Address default_string else Number (pos 0)) ≡ Number (pos 0)
      by i b s e f g = rw (e, f, g) refl
