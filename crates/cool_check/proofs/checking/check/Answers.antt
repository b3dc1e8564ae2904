-- `check` returns all type errors of a program in order, or the typed program if there are none: the class table is well typed then, and `check_classes` has
-- returned the types of its nodes.
use Rattle.std.proofs.Common.{◌≡◌, ℕ, suc, List, [], ◌∷◌, length, true, ap, ◌∙◌, refl, subst, sym, arith}
use Rattle.std.specs.Prelude.{◌==◌}
use Rattle.std.specs.List.{AllByRecursion}
use Rattle.cool_syntax.specs.TokenFacts.{IsPlaced}
use Rattle.cool_check.specs.declared.fault.TypeFault.{TypeFault}
use Rattle.cool_check.proofs.AcceptedTables.{accepted_typed}
use Rattle.cool_check.proofs.checking.check.Goals as goal

pub returns-clause-places : goal.returns-clause-places
returns-clause-places c = λ n h. subst (AllByRecursion (λ (f : TypeFault). IsPlaced n f.at)) (sym c.new-2.ensures) (c.in_order.ensures.places n (c.in_ok-faults.ensures.places n h))

-- no items are none
none_found : (xs : List TypeFault) → true ≡ (length xs == 0) → xs ≡ []
none_found [] e = refl
none_found (x ∷ xs) e = absurd (some (length xs) (sym e))
  where
    equal : (m n : ℕ) → (m == n) ≡ true → m ≡ n
    equal m n h = grind arith

    some : (n : ℕ) → (suc n == 0) ≡ true → ⊥
    some n h = let same = equal (suc n) 0 h in omega arith

-- if no fault is found, the table is a typed one, and the types of its nodes were kept
pub new-requires : goal.new-requires
new-requires c =
    let none = none_found c.in_ok-faults.field-0.faults.items (c.if-is_empty.ensures ∙ ap (λ (n : ℕ). n == 0) c.in_ok-faults.field-0.faults.ok.0) in
    record {
      fits = c.requires.fits;
      typed = accepted_typed c.args.t c.in_ok-faults.ensures.whole c.in_ok-faults.ensures.lawful (sym c.in_ok-faults.ensures.faults ∙ none);
      types = c.in_ok-faults.ensures.types none;
    }

pub returns-then-is_empty-clause-accepted : goal.returns-then-is_empty-clause-accepted
returns-then-is_empty-clause-accepted c =
    let none = none_found c.in_ok-faults.field-0.faults.items (c.if-is_empty.ensures ∙ ap (λ (n : ℕ). n == 0) c.in_ok-faults.field-0.faults.ok.0) in
    accepted_typed c.args.t c.in_ok-faults.ensures.whole c.in_ok-faults.ensures.lawful (sym c.in_ok-faults.ensures.faults ∙ none)
