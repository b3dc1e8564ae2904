-- A check calls the type checker at most once for each feature, and no more often than there are features without a stored result.
use Rattle.std.proofs.Common.{◌≡◌, ℕ, zero, suc, ◌+◌, ◌≤◌, List, length, Option, Result, Ok, Err, sym, ap, ◌∙◌, arith, add-one}
use Rattle.std.specs.Prelude.{OnErr}
use Rattle.std.specs.Borrow.{Bor}
use Rattle.cool_syntax.specs.declared.token.TokenKind.{TokenKind}
use Rattle.cool_check.specs.Calls.{called}
use Rattle.cool_session.specs.declared.base.Base.{Base}
use Rattle.cool_session.specs.NewFeatures.{AreNew, calls_after, IsAskedAtMost}
use Rattle.cool_session.proofs.NewFeaturesCounted.{new_bound}

-- a fact without condition holds if there is an error
pub on_error : {A E P : Type 0} (r : Result A E) → P → OnErr r P
on_error (Ok x) h = tt
on_error (Err e) h = h

called_more : (n before : ℕ) → called 1 (called n before) ≡ called (suc n) before
called_more n before = omega arith

-- one call more
pub next_call : (n before now : ℕ) → now ≡ calls_after n before → called 1 now ≡ calls_after (n + 1) before
next_call zero before now is = ap (called 1) is
next_call (suc n) before now is =
    ap (called 1) is ∙ (called_more (suc n) before ∙ ap (λ (k : ℕ). calls_after k before) (sym (add-one (suc n))))

-- so many calls are no more than there are features that are not kept
pub asked_at_most : (base : Option (Bor Base)) (now : List (List TokenKind)) (before after i n : ℕ) → after ≡ calls_after n before → i ≤ length now
    → AreNew base now i n → IsAskedAtMost base now before after
asked_at_most base now before after i n is le new =
    record { number = n; asked = is; most = λ m all. new_bound now base i n m le new all }
