-- Evaluating an expression only appends to the output and only consumes input (`After`), if calls do the same.
use Rattle.std.proofs.Common.{ℕ, zero, suc, ℤ, ◌+ℤ◌, ◌-ℤ◌, ◌*ℤ◌, List, refl}
use Rattle.std.specs.Prelude.{Option, Some, None, if◌then◌else◌, Bool as Truth, true, false, int_div, int_lt, int_le}
use Rattle.cool_syntax.specs.declared.place.Place.{Place}
use Rattle.cool_syntax.specs.declared.operator.ArithOp.{ArithOp}
use Rattle.cool_syntax.specs.declared.operator.ArithOp.TheVariants.{Add, Sub, Mul, Div}
use Rattle.cool_syntax.specs.declared.operator.CompareOp.{CompareOp}
use Rattle.cool_syntax.specs.declared.operator.CompareOp.TheVariants.{Less, LessEqual, Equal}
use Rattle.cool_syntax.specs.Tree.{Tree, Trees, Last, More}
use Rattle.cool_classes.specs.Chains.{Class}
use Rattle.cool_meaning.specs.Values.{Value, Void, Bool, State, Environment, location_of}
use Rattle.cool_meaning.specs.Meters.{Overflow, DivisionByZero, Computation, ◌>>=◌, ◌>>◌, give, given, locate, spend}
use Rattle.cool_meaning.specs.BasicMethods.{as_truth, as_number}
use Rattle.cool_meaning.specs.Numbers.{fits, is_zero}
use Rattle.cool_meaning.specs.Evaluation.{Call, Calls, assign, exact, arithmetic, compare, same, turns, eval, eval_items}
use Rattle.cool_meaning.proofs.Later.{later_same, After, seq_after}
use Rattle.cool_meaning.proofs.MoreSteps.{Alike, after_of, no_rule_alike, give_alike, stop_alike, draw_alike, locate_alike, load_alike, store_alike, print_alike, take_line_alike}
use Rattle.cool_meaning.proofs.RelatedEvaluation.{IsKept, IsSpent, number_kept, truth_kept, new_number_kept, eval_kept}

-- A computation comes to what stands later.
pub record ComesLater {A : Type 0} (d : Computation A) : Type 0 where
  pub later : (s : State) (n : ℕ) → After s (d s n).outcome

-- calls do
abbrev pub CallsLater : Calls → Type 0
CallsLater calls = (call : Call) → ComesLater (calls call)

alike_later : {A : Type 0} {d d' : Computation A} → Alike d d' → ComesLater d'
alike_later h = record { later = λ s n. after_of h s n }

pub bind_later : {A B : Type 0} {d : Computation A} {f : A → Computation B} → ComesLater d → ((v : A) → ComesLater (f v)) → ComesLater (d >>= f)
bind_later {d = d} {f = f} h g = record { later = λ s n. seq_after s (d s n).outcome (d s n).work (d s n).words (d s n).peak f (h.later s n) (λ v t k. (g v).later t k) }

pub then_later : {A B : Type 0} {d : Computation A} {e : Computation B} → ComesLater d → ComesLater e → ComesLater (d >> e)
then_later {d = d} {e = e} h g = record { later = λ s n. seq_after s (d s n).outcome (d s n).work (d s n).words (d s n).peak (λ _. e) (h.later s n) (λ v t k. g.later t k) }

spend_by : {A : Type 0} (d : Computation A) → ComesLater d → (s : State) (n : ℕ) → After s (spend d s n).outcome
spend_by d h s zero = later_same s s refl refl
spend_by d h s (suc n) = h.later s n

pub spend_later : {A : Type 0} {d : Computation A} → ComesLater d → ComesLater (spend d)
spend_later {d = d} h = record { later = spend_by d h }

pub later_kept : IsKept (λ A d d'. ComesLater d')
later_kept = record {
  give_kept = λ v. alike_later (give_alike v);
  stop_kept = λ e. alike_later (stop_alike e);
  stuck_kept = alike_later no_rule_alike;
  bind_kept = λ h g. bind_later h g;
  then_kept = λ h g. then_later h g;
  working_kept = λ n h. record { later = h.later };
  giving_kept = λ n h. record { later = h.later };
  holding_kept = λ n h. record { later = h.later };
  draw_kept = alike_later draw_alike;
  locate_kept = λ v. alike_later (locate_alike v);
  load_kept = λ l. alike_later (load_alike l);
  store_kept = λ l v. alike_later (store_alike l v);
  print_kept = λ bytes. alike_later (print_alike bytes);
  take_line_kept = alike_later take_line_alike;
}

pub if_later : {A : Type 0} (c : Truth) {d e : Computation A} → ComesLater d → ComesLater e → ComesLater (if c then d else e)
if_later true h k = h
if_later false h k = k

pub turns_later : (k : ℕ) (test body : Computation Value) → ComesLater test → ComesLater body → ComesLater (turns k test body)
turns_later zero test body h g = alike_later no_rule_alike
turns_later (suc k) test body h g =
    bind_later h (λ v. bind_later (truth_kept (λ A d d'. ComesLater d') later_kept v) (λ b. if_later b
    (spend_later (record { later = (then_later g (turns_later k test body h g)).later })) (alike_later (give_alike Void))))

later_spent : IsSpent (λ A d d'. ComesLater d') (λ A d d'. ComesLater d')
later_spent = record {
  before = later_kept;
  after = later_kept;
  spend_kept = λ h. spend_later h;
  loop_kept = λ {test} {test'} {body} {body'} h g. record { later = λ s n. (turns_later (suc n) test' body' h g).later s n };
}

-- the value of an expression, of the items of a block
pub eval_later : (p : List Class) (calls : Calls) → CallsLater calls → (self : Value) (env : Environment) (t : Tree) → ComesLater (eval p calls self env t)
eval_later p calls h self env t = eval_kept (λ A d d'. ComesLater d') (λ A d d'. ComesLater d') later_spent p calls calls h self env t

pub items_later : (p : List Class) (calls : Calls) → CallsLater calls → (self : Value) (env : Environment) (v : Value) (ts : Trees) → ComesLater (eval_items p calls self env v ts)
items_later p calls h self env v Last = alike_later (give_alike v)
items_later p calls h self env v (More t ts) = bind_later (eval_later p calls h self env t) (λ w. items_later p calls h self env w ts)

pub give_later : {A : Type 0} (v : A) → ComesLater (give v)
give_later v = alike_later (give_alike v)

pub truth_later : (v : Value) → ComesLater (as_truth v)
truth_later v = truth_kept (λ A d d'. ComesLater d') later_kept v

pub number_later : (v : Value) → ComesLater (as_number v)
number_later v = number_kept (λ A d d'. ComesLater d') later_kept v

pub exact_later : (at : Place) (n : ℤ) → ComesLater (exact at n)
exact_later at n = if_later (fits n) (new_number_kept (λ A d d'. ComesLater d') later_kept n) (alike_later (stop_alike (Overflow at)))

pub arithmetic_later : (op : ArithOp) (at : Place) (m n : ℤ) → ComesLater (arithmetic op at m n)
arithmetic_later Add at m n = exact_later at (m +ℤ n)
arithmetic_later Sub at m n = exact_later at (m -ℤ n)
arithmetic_later Mul at m n = exact_later at (m *ℤ n)
arithmetic_later Div at m n = if_later (is_zero n) (alike_later (stop_alike (DivisionByZero at))) (exact_later at (int_div m n))

pub compare_later : (op : CompareOp) (v w : Value) → ComesLater (compare op v w)
compare_later Less v w = bind_later (number_later v) (λ m. bind_later (number_later w) (λ n. give_later (Bool (int_lt m n))))
compare_later LessEqual v w = bind_later (number_later v) (λ m. bind_later (number_later w) (λ n. give_later (Bool (int_le m n))))
compare_later Equal v w = record { later = (give_later (Bool (same v w))).later }

pub given_later : {A : Type 0} (o : Option A) → ComesLater (given o)
given_later None = alike_later no_rule_alike
given_later (Some v) = give_later v

pub assign_later : (env : Environment) (name : List ℕ) (v : Value) → ComesLater (assign env name v)
assign_later env name v = bind_later (given_later (location_of env name)) (λ l. then_later (alike_later (store_alike l v)) (give_later v))

pub locate_later : (v : Value) → ComesLater (locate v)
locate_later v = alike_later (locate_alike v)
