-- An operator on constants and the constant that folding puts in its place have the same result, and no cost counter (meter) is greater for the constant.
use Rattle.std.proofs.Common.{◌≡◌, ℕ, ◌-◌, ◌%◌, ◌<◌, ◌≤◌, ℤ, pos, negsuc, Bool as Truth, true, false, not, List, Option, Some, None, refl, sym, ap, ◌∙◌, subst, arith}
use Rattle.std.specs.Prelude.{if◌then◌else◌, nat_lt, ◌+ℤ◌, ◌-ℤ◌, ◌*ℤ◌, neg_ℤ, int_div, int_lt, int_le}
use Rattle.cool_syntax.specs.declared.place.Place.{Place}
use Rattle.cool_syntax.specs.declared.operator.ArithOp.{ArithOp}
use Rattle.cool_syntax.specs.declared.operator.ArithOp.TheVariants.{Add, Sub, Mul, Div}
use Rattle.cool_syntax.specs.declared.operator.CompareOp.{CompareOp}
use Rattle.cool_syntax.specs.declared.operator.CompareOp.TheVariants.{Less, LessEqual, Equal}
use Rattle.cool_syntax.specs.Tree.{Tree}
use Rattle.cool_syntax.specs.Tree as trees
use Rattle.cool_classes.specs.Chains.{Class}
use Rattle.cool_classes.specs.declared.class_id.ClassId.{ClassId}
use Rattle.cool_classes.specs.declared.class_id.Ty.{Ty}
use Rattle.cool_rules.specs.Rules.{same_type}
use Rattle.cool_rules.specs.Scopes.{Binding}
use Rattle.cool_meaning.specs.Values.{Value, Int, Bool, Str, State, Environment}
use Rattle.cool_meaning.specs.Meters.{Val, Overflow, DivisionByZero, Metered, Computation, join, seq, ◌>>=◌, rule, give, stop}
use Rattle.cool_meaning.specs.BasicMethods.{as_number, as_truth, new_number}
use Rattle.cool_meaning.specs.Numbers.{fits, is_zero, signed, word_of}
use Rattle.cool_meaning.specs.Evaluation.{Calls, eval, exact, arithmetic, compare, same, is_void}
use Rattle.cool_rules.specs.StaticTypes.{type_of}
use Rattle.cool_fold.specs.Folding.{constant_in, number_in, truth_in, one_sort, exactly, result, number_or, arith_by, neg_by, less_by, equal_by, compare_by, not_by, is_void_by, taken_by, if_by}
use Rattle.cool_fold.proofs.NoMoreMeters.{NoMore, Always, no_more_same}
use Rattle.std.proofs.lemmas.Bool.{ltb-true}
use Rattle.std.proofs.lemmas.Option.{same_Some}

-- Numbers and words

signed_low : (n : ℕ) → n < 2147483648 → signed n ≡ pos n
signed_low n h =
    let low : n % 4294967296 ≡ n = omega arith in
    let yes : nat_lt n 2147483648 ≡ true = grind arith in
    rw (low, yes) refl

signed_high : (n : ℕ) → n < 2147483648 → signed (4294967295 - n) ≡ negsuc n
signed_high n h =
    let low : (4294967295 - n) % 4294967296 ≡ 4294967295 - n = omega arith in
    let no : nat_lt (4294967295 - n) 2147483648 ≡ false = grind arith in
    let back : 4294967295 - (4294967295 - n) ≡ n = omega arith in
    rw (low, no, back) refl

pub read_back : (n : ℤ) → fits n ≡ true → signed (word_of n) ≡ n
read_back (pos n) fit = signed_low n (ltb-true n 2147483648 fit)
read_back (negsuc n) fit = signed_high n (ltb-true n 2147483648 fit)

-- Constants

number_is : (o : Option Value) (n : ℤ) → number_in o ≡ Some n → o ≡ Some (Int n)
number_is (Some (Int m)) n e = ap (λ (x : ℤ). Some (Int x)) (same_Some m n e)
number_is _ n e = absurd cc

truth_is : (o : Option Value) (b : Truth) → truth_in o ≡ Some b → o ≡ Some (Bool b)
truth_is (Some (Bool a)) b e = ap (λ (x : Truth). Some (Bool x)) (same_Some a b e)
truth_is _ b e = absurd cc

module _ (p : List Class) (calls : Calls) (self : Value) (env : Environment) where
  abbrev run : Tree → Computation Value
  run t = eval p calls self env t

  -- a constant comes to its value at once
  pub constant_gives : (t : Tree) (v : Value) → constant_in t ≡ Some v → (s : State) (n : ℕ) → eval p calls self env t s n ≡ rule (give v) s n
  constant_gives (trees.Int at m) v e s n = ap (λ (x : Value). rule (give x) s n) (same_Some (Int (signed m)) v e)
  constant_gives (trees.Str at bytes) v e s n = ap (λ (x : Value). rule (give x) s n) (same_Some (Str bytes) v e)
  constant_gives (trees.Bool at b) v e s n = ap (λ (x : Value). rule (give x) s n) (same_Some (Bool b) v e)
  constant_gives _ v e s n = absurd cc

  number_gives : (t : Tree) (m : ℤ) → number_in (constant_in t) ≡ Some m → (s : State) (n : ℕ) → eval p calls self env t s n ≡ rule (give (Int m)) s n
  number_gives t m e s n = constant_gives t (Int m) (number_is (constant_in t) m e) s n

  truth_gives : (t : Tree) (b : Truth) → truth_in (constant_in t) ≡ Some b → (s : State) (n : ℕ) → eval p calls self env t s n ≡ rule (give (Bool b)) s n
  truth_gives t b e s n = constant_gives t (Bool b) (truth_is (constant_in t) b e) s n

  -- Arithmetic

  exact_by : (at : Place) (x : ℤ) (t : Truth) → fits x ≡ t → (r : ℤ) → (if t then Some x else None) ≡ Some r → (s : State) (n : ℕ) → ((exact at x s n).outcome ≡ Val (Int r) s n) × (fits r ≡ true)
  exact_by at x true fit r e s n =
      let same : x ≡ r = cc in (
        ap (λ (y : Truth). ((if y then new_number x else stop (Overflow at)) s n).outcome) fit ∙ ap (λ (y : ℤ). Val (Int y) s n) same,
        subst (λ (y : ℤ). fits y ≡ true) same fit,
      )
  exact_by at x false fit r e s n = absurd cc

  exact_gives : (at : Place) (x r : ℤ) → exactly x ≡ Some r → (s : State) (n : ℕ) → ((exact at x s n).outcome ≡ Val (Int r) s n) × (fits r ≡ true)
  exact_gives at x r e s n = exact_by at x (fits x) refl r e s n

  arithmetic_gives : (op : ArithOp) (at : Place) (x y r : ℤ) → result op x y ≡ Some r → (s : State) (n : ℕ) → ((arithmetic op at x y s n).outcome ≡ Val (Int r) s n) × (fits r ≡ true)
  arithmetic_gives Add at x y r e s n = exact_gives at (x +ℤ y) r e s n
  arithmetic_gives Sub at x y r e s n = exact_gives at (x -ℤ y) r e s n
  arithmetic_gives Mul at x y r e s n = exact_gives at (x *ℤ y) r e s n
  arithmetic_gives Div at x y r e s n = by (is_zero y) e
    where
      by : (t : Truth) → (if t then None else exactly (int_div x y)) ≡ Some r → (((if t then stop (DivisionByZero at) else exact at (int_div x y)) s n).outcome ≡ Val (Int r) s n) × (fits r ≡ true)
      by true e = absurd cc
      by false e = exact_gives at (int_div x y) r e s n

  -- a number in place of what comes to it with one rule at least
  number_row : (t : Tree) (at : Place) (o : Option ℤ) → ((r : ℤ) → o ≡ Some r → (s : State) (n : ℕ) → ((eval p calls self env t s n).outcome ≡ Val (Int r) s n) × (1 ≤ (eval p calls self env t s n).work) × (1 ≤ (eval p calls self env t s n).peak) × (fits r ≡ true))
      → Always (eval p calls self env t) (eval p calls self env (number_or t at o))
  number_row t at None h = record { always = λ s n. no_more_same (eval p calls self env t s n) }
  number_row t at (Some r) h = record {
    always = λ s n.
        let k = h r refl s n in
        record { outcome = ap (λ (x : ℤ). Val (Int x) s n) (read_back r k.3) ∙ sym k.0; work = k.1; words = omega arith; peak = k.2 };
  }

  arith_row : (at : Place) (op : ArithOp) (a b : Tree) (oa ob : Option ℤ) → number_in (constant_in a) ≡ oa → number_in (constant_in b) ≡ ob
      → Always (eval p calls self env (trees.Arith at op a b)) (eval p calls self env (arith_by at op a b oa ob))
  arith_row at op a b None ob ea eb = record { always = λ s n. no_more_same (eval p calls self env (trees.Arith at op a b) s n) }
  arith_row at op a b (Some x) None ea eb = record { always = λ s n. no_more_same (eval p calls self env (trees.Arith at op a b) s n) }
  arith_row at op a b (Some x) (Some y) ea eb =
      number_row (trees.Arith at op a b) at (result op x y) (λ r e s n.
      let k = arithmetic_gives op at x y r e s n in
      let is = whole s n in
      (ap (λ (m : Metered Value). m.outcome) is ∙ k.0, subst (λ (m : Metered Value). 1 ≤ m.work) (sym is) (omega arith), subst (λ (m : Metered Value). 1 ≤ m.peak) (sym is) (omega arith), k.1))
    where
      last : State → ℕ → Metered Value
      last s n = join 0 0 0 (join 0 0 0 (arithmetic op at x y s n))

      whole : (s : State) (n : ℕ) → eval p calls self env (trees.Arith at op a b) s n ≡ rule (λ t k. join 1 0 1 (join 1 0 1 (join 0 0 0 (join 0 0 0 (arithmetic op at x y t k))))) s n
      whole s n =
          ap (λ (m : Metered Value). rule (λ t k. seq m (λ v. eval p calls self env b >>= λ w. as_number v >>= λ i. as_number w >>= λ j. arithmetic op at i j)) s n) (number_gives a x ea s n)
          ∙ ap (λ (m : Metered Value). rule (λ t k. join 1 0 1 (seq m (λ w. as_number (Int x) >>= λ i. as_number w >>= λ j. arithmetic op at i j))) s n) (number_gives b y eb s n)

  neg_row : (at : Place) (a : Tree) (oa : Option ℤ) → number_in (constant_in a) ≡ oa → Always (eval p calls self env (trees.Neg at a)) (eval p calls self env (neg_by at a oa))
  neg_row at a None ea = record { always = λ s n. no_more_same (eval p calls self env (trees.Neg at a) s n) }
  neg_row at a (Some x) ea =
      number_row (trees.Neg at a) at (exactly (neg_ℤ x)) (λ r e s n.
      let k = exact_gives at (neg_ℤ x) r e s n in
      let is = whole s n in
      (ap (λ (m : Metered Value). m.outcome) is ∙ k.0, subst (λ (m : Metered Value). 1 ≤ m.work) (sym is) (omega arith), subst (λ (m : Metered Value). 1 ≤ m.peak) (sym is) (omega arith), k.1))
    where
      whole : (s : State) (n : ℕ) → eval p calls self env (trees.Neg at a) s n ≡ rule (λ t k. join 1 0 1 (join 0 0 0 (exact at (neg_ℤ x) t k))) s n
      whole s n = ap (λ (m : Metered Value). rule (λ t k. seq m (λ v. as_number v >>= λ i. exact at (neg_ℤ i))) s n) (number_gives a x ea s n)

  -- Comparisons, and what gives a truth

  -- a truth in place of what comes to it with one rule at least
  truth_row : (t : Tree) (at : Place) (b : Truth) → ((s : State) (n : ℕ) → ((eval p calls self env t s n).outcome ≡ Val (Bool b) s n) × (1 ≤ (eval p calls self env t s n).work) × (1 ≤ (eval p calls self env t s n).peak))
      → Always (eval p calls self env t) (eval p calls self env (trees.Bool at b))
  truth_row t at b h = record { always = λ s n. let k = h s n in record { outcome = sym k.0; work = k.1; words = omega arith; peak = k.2 } }

  both_is : (at : Place) (op : CompareOp) (a b : Tree) (v w : Value) → constant_in a ≡ Some v → constant_in b ≡ Some w → (s : State) (n : ℕ)
      → eval p calls self env (trees.Compare at op a b) s n ≡ rule (λ t k. join 1 0 1 (join 1 0 1 (compare op v w t k))) s n
  both_is at op a b v w ea eb s n =
      ap (λ (m : Metered Value). rule (λ t k. seq m (λ v. eval p calls self env b >>= λ w. compare op v w)) s n) (constant_gives a v ea s n)
      ∙ ap (λ (m : Metered Value). rule (λ t k. join 1 0 1 (seq m (λ w. compare op v w))) s n) (constant_gives b w eb s n)

  compared : (at : Place) (op : CompareOp) (a b : Tree) (v w : Value) (x : Truth) → constant_in a ≡ Some v → constant_in b ≡ Some w → ((s : State) (n : ℕ) → (compare op v w s n).outcome ≡ Val (Bool x) s n)
      → Always (eval p calls self env (trees.Compare at op a b)) (eval p calls self env (trees.Bool at x))
  compared at op a b v w x ea eb h =
      truth_row (trees.Compare at op a b) at x (λ s n.
      let is = both_is at op a b v w ea eb s n in
      (ap (λ (m : Metered Value). m.outcome) is ∙ h s n, subst (λ (m : Metered Value). 1 ≤ m.work) (sym is) (omega arith), subst (λ (m : Metered Value). 1 ≤ m.peak) (sym is) (omega arith)))

  left_alone : (t : Tree) → Always (eval p calls self env t) (eval p calls self env t)
  left_alone t = record { always = λ s n. no_more_same (eval p calls self env t s n) }

  less_row : (at : Place) (a b : Tree) (oa ob : Option ℤ) → number_in (constant_in a) ≡ oa → number_in (constant_in b) ≡ ob
      → Always (eval p calls self env (trees.Compare at Less a b)) (eval p calls self env (less_by int_lt at Less a b oa ob))
  less_row at a b None ob ea eb = left_alone (trees.Compare at Less a b)
  less_row at a b (Some x) None ea eb = left_alone (trees.Compare at Less a b)
  less_row at a b (Some x) (Some y) ea eb = compared at Less a b (Int x) (Int y) (int_lt x y) (number_is (constant_in a) x ea) (number_is (constant_in b) y eb) (λ s n. refl)

  less_equal_row : (at : Place) (a b : Tree) (oa ob : Option ℤ) → number_in (constant_in a) ≡ oa → number_in (constant_in b) ≡ ob
      → Always (eval p calls self env (trees.Compare at LessEqual a b)) (eval p calls self env (less_by int_le at LessEqual a b oa ob))
  less_equal_row at a b None ob ea eb = left_alone (trees.Compare at LessEqual a b)
  less_equal_row at a b (Some x) None ea eb = left_alone (trees.Compare at LessEqual a b)
  less_equal_row at a b (Some x) (Some y) ea eb = compared at LessEqual a b (Int x) (Int y) (int_le x y) (number_is (constant_in a) x ea) (number_is (constant_in b) y eb) (λ s n. refl)

  equal_row : (at : Place) (a b : Tree) (oa ob : Option Value) → constant_in a ≡ oa → constant_in b ≡ ob → Always (eval p calls self env (trees.Compare at Equal a b)) (eval p calls self env (equal_by at a b oa ob))
  equal_row at a b None ob ea eb = left_alone (trees.Compare at Equal a b)
  equal_row at a b (Some v) None ea eb = left_alone (trees.Compare at Equal a b)
  equal_row at a b (Some v) (Some w) ea eb = by (one_sort v w)
    where
      by : (t : Truth) → Always (eval p calls self env (trees.Compare at Equal a b)) (eval p calls self env (if t then trees.Bool at (same v w) else trees.Compare at Equal a b))
      by true = compared at Equal a b v w (same v w) ea eb (λ s n. refl)
      by false = left_alone (trees.Compare at Equal a b)

  pub compare_row : (at : Place) (op : CompareOp) (a b : Tree) → Always (eval p calls self env (trees.Compare at op a b)) (eval p calls self env (compare_by at op a b))
  compare_row at Less a b = less_row at a b (number_in (constant_in a)) (number_in (constant_in b)) refl refl
  compare_row at LessEqual a b = less_equal_row at a b (number_in (constant_in a)) (number_in (constant_in b)) refl refl
  compare_row at Equal a b = equal_row at a b (constant_in a) (constant_in b) refl refl

  pub arith_folds : (at : Place) (op : ArithOp) (a b : Tree)
      → Always (eval p calls self env (trees.Arith at op a b)) (eval p calls self env (arith_by at op a b (number_in (constant_in a)) (number_in (constant_in b))))
  arith_folds at op a b = arith_row at op a b (number_in (constant_in a)) (number_in (constant_in b)) refl refl

  pub neg_folds : (at : Place) (a : Tree) → Always (eval p calls self env (trees.Neg at a)) (eval p calls self env (neg_by at a (number_in (constant_in a))))
  neg_folds at a = neg_row at a (number_in (constant_in a)) refl

  not_row : (at : Place) (a : Tree) (o : Option Truth) → truth_in (constant_in a) ≡ o → Always (eval p calls self env (trees.Not at a)) (eval p calls self env (not_by at a o))
  not_row at a None e = left_alone (trees.Not at a)
  not_row at a (Some b) e =
      truth_row (trees.Not at a) at (not b) (λ s n.
      let is = ap (λ (m : Metered Value). rule (λ t k. seq m (λ v. as_truth v >>= λ x. give (Bool (not x)))) s n) (truth_gives a b e s n) in
      (ap (λ (m : Metered Value). m.outcome) is, subst (λ (m : Metered Value). 1 ≤ m.work) (sym is) (omega arith), subst (λ (m : Metered Value). 1 ≤ m.peak) (sym is) (omega arith)))

  pub not_folds : (at : Place) (a : Tree) → Always (eval p calls self env (trees.Not at a)) (eval p calls self env (not_by at a (truth_in (constant_in a))))
  not_folds at a = not_row at a (truth_in (constant_in a)) refl

  void_row : (at : Place) (a : Tree) (o : Option Value) → constant_in a ≡ o → Always (eval p calls self env (trees.IsVoid at a)) (eval p calls self env (is_void_by at a o))
  void_row at a None e = left_alone (trees.IsVoid at a)
  void_row at a (Some v) e =
      truth_row (trees.IsVoid at a) at (is_void v) (λ s n.
      let is = ap (λ (m : Metered Value). rule (λ t k. seq m (λ u. give (Bool (is_void u)))) s n) (constant_gives a v e s n) in
      (ap (λ (m : Metered Value). m.outcome) is, subst (λ (m : Metered Value). 1 ≤ m.work) (sym is) (omega arith), subst (λ (m : Metered Value). 1 ≤ m.peak) (sym is) (omega arith)))

  pub void_folds : (at : Place) (a : Tree) → Always (eval p calls self env (trees.IsVoid at a)) (eval p calls self env (is_void_by at a (constant_in a)))
  void_folds at a = void_row at a (constant_in a) refl

  -- Tests

  taken_row : (t part : Tree) (type whole : Ty) → Always (eval p calls self env t) (eval p calls self env part) → Always (eval p calls self env t) (eval p calls self env (taken_by t part type whole))
  taken_row t part type whole h = by (same_type type whole)
    where
      by : (x : Truth) → Always (eval p calls self env t) (eval p calls self env (if x then part else t))
      by true = h
      by false = left_alone t

  if_row : (table : List Class) (c : ClassId) (scope : List Binding) (at : Place) (t y n : Tree) (o : Option Truth) → truth_in (constant_in t) ≡ o
      → Always (eval p calls self env (trees.If at t y n)) (eval p calls self env (if_by table c scope at t y n o))
  if_row table c scope at t y n None e = left_alone (trees.If at t y n)
  if_row table c scope at t y n (Some true) e =
      taken_row (trees.If at t y n) y (type_of table c scope y) (type_of table c scope (trees.If at t y n)) (record {
        always = λ s k.
            let is = ap (λ (m : Metered Value). rule (λ u j. seq m (λ v. as_truth v >>= λ b. if b then eval p calls self env y else eval p calls self env n)) s k) (truth_gives t true e s k) in
            subst (λ (m : Metered Value). NoMore m (eval p calls self env y s k)) (sym is) (record { outcome = refl; work = omega arith; words = omega arith; peak = omega arith });
      })
  if_row table c scope at t y n (Some false) e =
      taken_row (trees.If at t y n) n (type_of table c scope n) (type_of table c scope (trees.If at t y n)) (record {
        always = λ s k.
            let is = ap (λ (m : Metered Value). rule (λ u j. seq m (λ v. as_truth v >>= λ b. if b then eval p calls self env y else eval p calls self env n)) s k) (truth_gives t false e s k) in
            subst (λ (m : Metered Value). NoMore m (eval p calls self env n s k)) (sym is) (record { outcome = refl; work = omega arith; words = omega arith; peak = omega arith });
      })

  pub if_folds : (table : List Class) (c : ClassId) (scope : List Binding) (at : Place) (t y n : Tree)
      → Always (eval p calls self env (trees.If at t y n)) (eval p calls self env (if_by table c scope at t y n (truth_in (constant_in t))))
  if_folds table c scope at t y n = if_row table c scope at t y n (truth_in (constant_in t)) refl
