-- In the semantics, reading the list of an object's attribute locations gives the list of their values, unless a location has none.
use Rattle.std.proofs.Common.{◌≡◌, ℕ, zero, suc, List, [], ◌∷◌, length, get_or, Option, Some, None, refl, ap, ◌∙◌}
use Rattle.std.specs.Prelude.{slice_get}
use Rattle.cool_meaning.specs.Values.{Value, State}
use Rattle.cool_meaning.specs.Meters.{Outcome, Val, Stuck, Metered, free, join, seq, seq_of, give, given}
use Rattle.cool_meaning.specs.BasicMethods.{load_all}

-- each location has a value, or no rule applies
pub data Loads (ls : List ℕ) (st : State) (n : ℕ) : Type 0 where
  Loaded : (vs : List Value) → load_all ls st n ≡ free (Val vs st n) → length vs ≡ length ls → ((j : ℕ) (v : Value) → slice_get vs j ≡ Some v → slice_get st.store (get_or ls j 0) ≡ Some v) → Loads ls st n
  Missing : (load_all ls st n).outcome ≡ Stuck → Loads ls st n

pub loads : (ls : List ℕ) (st : State) (n : ℕ) → Loads ls st n
loads [] st n = Loaded [] refl refl (λ j v e. absurd (cc))
loads (l ∷ ls) st n = by (slice_get st.store l) refl (loads ls st n)
  where
    values : (v : Value) (vs : List Value) → slice_get st.store l ≡ Some v → ((j : ℕ) (u : Value) → slice_get vs j ≡ Some u → slice_get st.store (get_or ls j 0) ≡ Some u) → (j : ℕ) (u : Value) → slice_get (v ∷ vs) j ≡ Some u
        → slice_get st.store (get_or (l ∷ ls) j 0) ≡ Some u
    values v vs there more zero u e = there ∙ e
    values v vs there more (suc j) u e = more j u e

    by : (o : Option Value) → slice_get st.store l ≡ o → Loads ls st n → Loads (l ∷ ls) st n
    by None e more = Missing (ap (λ (o : Option Value). (seq (given o st n) (λ v. λ s k. seq (load_all ls s k) (λ vs. give (v ∷ vs)))).outcome) e)
    by (Some v) e (Missing wrong) =
        Missing (ap (λ (o : Option Value). (seq (given o st n) (λ v. λ s k. seq (load_all ls s k) (λ vs. give (v ∷ vs)))).outcome) e
        ∙ ap (λ (o : Outcome (List Value)). (seq_of o (load_all ls st n).work (load_all ls st n).words (load_all ls st n).peak (λ vs. give (v ∷ vs))).outcome) wrong)
    by (Some v) e (Loaded vs is long more) =
        Loaded (v ∷ vs)
        (ap (λ (o : Option Value). seq (given o st n) (λ v. λ s k. seq (load_all ls s k) (λ vs. give (v ∷ vs)))) e
        ∙ ap (λ (x : Metered (List Value)). join 0 0 0 (seq x (λ vs. give (v ∷ vs)))) is)
        (ap suc long) (values v vs e more)
