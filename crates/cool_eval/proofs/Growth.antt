-- In later states of the stack machine, output was only appended, and input was only taken from the front.
use Rattle.std.proofs.Common.{ℕ, zero, suc, ◌+◌, pos, List, [], length, Option, Some, None, refl, arith}
use Rattle.std.specs.Prelude.{false, ◌==◌}
use Rattle.cool_syntax.specs.declared.place.Place.{Place}
use Rattle.cool_classes.specs.declared.class_id.ClassId.{ClassId}
use Rattle.cool_classes.specs.declared.method.MethodRef.{MethodRef}
use Rattle.cool_classes.specs.declared.method.MethodRef.TheVariants.{Basic, User}
use Rattle.cool_classes.specs.Chains.{Class}
use Rattle.cool_classes.specs.Features.{implementation}
use Rattle.cool_classes.specs.ClimbedChains.{chain}
use Rattle.cool_meaning.specs.Values.{Value, Void, Obj, State}
use Rattle.cool_meaning.specs.Meters.{Computation, ◌>>=◌, ◌>>◌, rule, spend, working}
use Rattle.cool_meaning.specs.Lookups.{attributes, default_values}
use Rattle.cool_meaning.specs.BasicMethods.{new_number, new_truth, new_string}
use Rattle.cool_meaning.specs.Evaluation.{Call, Body, Initials, turns, loop, make, new_object, invoke, dispatch}
use Rattle.cool_meaning.proofs.Later.{later_same, After, seq_after}
use Rattle.cool_meaning.proofs.MoreSteps.{Alike, after_of, give_alike, stop_alike, no_rule_alike, draw_alike, locate_alike, load_alike, store_alike, print_alike, take_line_alike}
use Rattle.cool_meaning.proofs.LongerEvaluation.{more_calls_within}
use Rattle.cool_meaning.proofs.RelatedEvaluation.{IsKept, new_number_kept, new_truth_kept, new_string_kept, locate_all_kept, basic_kept}
use Rattle.cool_eval.specs.StackMachine.{Frame, Focus, Continue}
use Rattle.cool_eval.proofs.PropertiesOfMeanings.{IsOfWords, IsOfSteps, words_kept, of_rule, of_if, of_truth, of_configuration}
use Rattle.cool_eval.proofs.StepsMean.{calls, means}

-- whatever this does, what it comes to stands later
record Grows {A : Type 0} (d : Computation A) : Type 0 where
  after : (s : State) (n : ℕ) → After s (d s n).outcome

of_alike : {A : Type 0} {d : Computation A} → Alike d d → Grows d
of_alike h = record { after = λ s n. after_of h s n }

bind_grows : {A B : Type 0} {d : Computation A} {f : A → Computation B} → Grows d → ((v : A) → Grows (f v)) → Grows (d >>= f)
bind_grows {d = d} {f = f} h k = record { after = λ s n. seq_after s (d s n).outcome (d s n).work (d s n).words (d s n).peak f (h.after s n) (λ v t m. (k v).after t m) }

then_grows : {A B : Type 0} {d : Computation A} {f : Computation B} → Grows d → Grows f → Grows (d >> f)
then_grows {f = f} h k = bind_grows {f = λ _. f} h (λ v. k)

grows_kept : IsKept (λ A d d'. Grows d)
grows_kept = record {
  give_kept = λ v. of_alike (give_alike v);
  stop_kept = λ e. of_alike (stop_alike e);
  stuck_kept = of_alike no_rule_alike;
  bind_kept = λ h g. bind_grows h g;
  then_kept = λ h g. then_grows h g;
  working_kept = λ k h. record { after = λ s n. h.after s n };
  giving_kept = λ k h. record { after = λ s n. h.after s n };
  holding_kept = λ k h. record { after = λ s n. h.after s n };
  draw_kept = of_alike draw_alike;
  locate_kept = λ v. of_alike (locate_alike v);
  load_kept = λ l. of_alike (load_alike l);
  store_kept = λ l v. of_alike (store_alike l v);
  print_kept = λ bytes. of_alike (print_alike bytes);
  take_line_kept = of_alike take_line_alike;
}

grows_words : IsOfWords (λ A d. Grows d)
grows_words = words_kept (λ A d. Grows d) grows_kept

spend_grows : {A : Type 0} {d : Computation A} → Grows d → Grows (spend d)
spend_grows {d = d} h = record { after = by }
  where
    by : (s : State) (n : ℕ) → After s (spend d s n).outcome
    by s zero = later_same s s refl refl
    by s (suc n) = h.after s n

-- Loops

turn_grows : {next : Computation Value} (body : Computation Value) → Grows body → Grows next → Grows (spend (working 1 (body >> next)))
turn_grows {next = next} body h k = spend_grows (grows_words.of_working 1 (then_grows {d = body} {f = next} h k))

turns_grow : (j : ℕ) (test body : Computation Value) → Grows test → Grows body → Grows (turns j test body)
turns_grow zero test body h k = grows_words.of_stuck
turns_grow (suc j) test body h k =
    bind_grows h (λ v. bind_grows (of_truth (λ A d. Grows d) grows_words v) (λ b.
    of_if (λ A d. Grows d) grows_words b (turn_grows body k (turns_grow j test body h k)) (grows_words.of_give Void)))

loop_grows : (test body : Computation Value) → Grows test → Grows body → Grows (loop test body)
loop_grows test body h k = record { after = λ s n. (turns_grow (suc n) test body h k).after s n }

module _ (p : List Class) (a : ℕ) where
  -- Calls and new objects

  call_grows : (call : Call) → Grows (calls p a call)
  call_grows call = of_alike (more_calls_within p a a 0 (omega arith) call)

  invoke_grows : (at : Place) (v : Value) (vs : List Value) (o : Option MethodRef) → Grows (invoke p (calls p a) at v vs o)
  invoke_grows at v vs None = of_alike no_rule_alike
  invoke_grows at v vs (Some (Basic m)) = basic_kept (λ A d d'. Grows d) grows_kept p m at v vs
  invoke_grows at v vs (Some (User owner k)) = call_grows (Body owner k v vs)

  dispatch_grows : (at : Place) (c : ClassId) (name : List ℕ) (v : Value) (vs : List Value)
      → Grows (dispatch p (calls p a) at c name v vs)
  dispatch_grows at c name v vs =
      spend_grows (grows_words.of_working (length vs) (invoke_grows at v vs (implementation p (chain p c) name)))

  object_grows : (c : ClassId) → Grows (new_object p (calls p a) c)
  object_grows c =
      grows_words.of_working (length (attributes p c) + length (chain p c)) (grows_words.of_giving (4 + length (attributes p c))
      (bind_grows (locate_all_kept (λ A d d'. Grows d) grows_kept (default_values p (attributes p c))) (λ ls.
      bind_grows (of_alike draw_alike) (λ i. then_grows (call_grows (Initials c (Obj c i ls))) (grows_words.of_give (Obj c i ls))))))

  value_grows : (d : Computation Value) → Grows d → Grows (rule (spend d))
  value_grows d h = of_rule (λ A e. Grows e) grows_words (spend_grows h)

  make_grows : (o : Option ClassId) → Grows (make p (calls p a) o)
  make_grows None = grows_words.of_stuck
  make_grows (Some c) =
      of_if (λ A d. Grows d) grows_words (c.0 == 2) (value_grows (new_number (pos 0)) (new_number_kept (λ A d d'. Grows d) grows_kept (pos 0)))
      (of_if (λ A d. Grows d) grows_words (c.0 == 3) (value_grows (new_truth false) (new_truth_kept (λ A d d'. Grows d) grows_kept false))
      (of_if (λ A d. Grows d) grows_words (c.0 == 4) (value_grows (new_string []) (new_string_kept (λ A d d'. Grows d) grows_kept []))
      (grows_words.of_working 1 (grows_words.of_holding (length (chain p c)) (spend_grows (object_grows c))))))

  grows_steps : IsOfSteps p a (λ A d. Grows d)
  grows_steps = record {
    words = grows_words;
    of_loop = loop_grows;
    of_turn = λ test body h k. turn_grows body k (loop_grows test body h k);
    of_dispatch = dispatch_grows;
    of_make = make_grows;
  }

  -- the outcome that a configuration means has a later state
  pub means_later : (focus : Focus) (fs : List Frame) (s : State) (n : ℕ) → After s (means p a (Continue focus fs s n))
  means_later focus fs s n = (of_configuration p a (λ A d. Grows d) grows_steps focus fs).after s n
