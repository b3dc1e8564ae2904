-- Lemmas on the bytes that a system call takes from the input one after another, until it has enough, at a newline or at the end of the input.
use Rattle.std.proofs.Common.{◌≡◌, ℕ, zero, suc, ◌<◌, Bool, true, false, List, [], ◌∷◌, ◌++◌, length, length-append, replicate, refl, sym, ◌∙◌, ap, append_assoc, append-nil, arith}
use Rattle.std.specs.Prelude.{Option, Some, None, Ok, Err, if◌then◌else◌, ◌==◌}
use Rattle.cool_ports.specs.declared.Failed.{Failed}
use Rattle.cool_ports.specs.SourceBytes.{IsAtEnd}
use Rattle.mips_isa.specs.Calls.{Taken, taken, asked}
use Rattle.cool_ports.specs.Taking.{with_front, GaveByte}
use Rattle.spim_machine.specs.Input.{TookAll, TookSome}
use Rattle.cool_ports.proofs.GivingBytes.{front-nil, front-append}

-- these bytes, and then what is taken
abbrev pub prepend : List ℕ → Taken → Taken
prepend said t = record t { got = said ++ t.got }

-- zeros are dropped
taken-zeros : (n k : ℕ) (more : List ℕ) → taken (suc n) (replicate k 0 ++ more) ≡ taken (suc n) more
taken-zeros n zero more = refl
taken-zeros n (suc k) more = taken-zeros n k more

-- a bound above the length does not matter
taken-bound : (input : List ℕ) (n m : ℕ) → length input < n → length input < m → taken n input ≡ taken m input
taken-bound input zero m a b = absurd (omega arith)
taken-bound input (suc n) zero a b = absurd (omega arith)
taken-bound [] (suc n) (suc m) a b = refl
taken-bound (x ∷ rest) (suc n) (suc m) a b =
    let all : taken (suc n) rest ≡ taken (suc m) rest = taken-bound rest (suc n) (suc m) (omega (arith, a)) (omega (arith, b)) in
    let behind : taken n rest ≡ taken m rest = taken-bound rest n m (omega (arith, a)) (omega (arith, b)) in
    rw (all, behind) refl

-- A call asks for a byte: it drops zeros, takes a byte and goes on as `next`, and ends at a newline and at the input's end.
pub record AsksByte (ask next : List ℕ → Taken) : Type 0 where
  pub zeros : (k : ℕ) (more : List ℕ) → ask (replicate k 0 ++ more) ≡ ask more
  pub byte : (b : ℕ) (more : List ℕ) → 0 < b → (b == 10) ≡ false → ask (b ∷ more) ≡ prepend (b ∷ []) (next more)
  pub newline : (more : List ℕ) → ask (10 ∷ more) ≡ record { got = 10 ∷ []; rest = more; ended = false }
  pub end : ask [] ≡ record { got = []; rest = []; ended = true }

-- a byte other than 0 and a newline is taken, and then the rest
byte_is : (b n : ℕ) (more : List ℕ) → 0 < b → (b == 10) ≡ false → taken (suc n) (b ∷ more) ≡ prepend (b ∷ []) (taken n more)
byte_is b n more above other =
    let some : (b == 0) ≡ false = grind arith in
    rw (some, other) refl

-- a call for so many bytes
pub asks_more : (n : ℕ) → AsksByte (taken (suc n)) (taken n)
asks_more n = record {
  zeros = taken-zeros n;
  byte = λ b more above other. byte_is b n more above other;
  newline = λ more. refl;
  end = refl;
}

-- a call for a whole line: its bound is above the length, as in `asked_line`
abbrev pub line : List ℕ → Taken
line input = taken (suc (length input)) input

-- zeros are dropped from a line, too
line-zeros : (k : ℕ) (more : List ℕ) → line (replicate k 0 ++ more) ≡ line more
line-zeros k more = taken-zeros (length (replicate k 0 ++ more)) k more ∙ taken-bound more (suc (length (replicate k 0 ++ more))) (suc (length more)) (simp length-append (omega arith)) (omega arith)

-- the rest of a line is a line
pub asks_line : AsksByte line line
asks_line = record {
  zeros = line-zeros;
  byte = λ b more above other. byte_is b (length (b ∷ more)) more above other ∙ ap (prepend (b ∷ [])) (taken-bound more (length (b ∷ more)) (suc (length more)) (omega arith) (omega arith));
  newline = λ more. refl;
  end = refl;
}

-- if the end was answered, it is not asked for again
abbrev pub unless_ended : Bool → (List ℕ → Taken) → List ℕ → Taken
unless_ended ended ask input = if ended then record { got = []; rest = input; ended = true } else ask input

-- A source gave bytes of which a call took these, and goes on as `next`.
pub record TakingOn (ask next : List ℕ → Taken) (before after : Option (List ℕ)) (said : List ℕ) : Type 0 where
  pub front : List ℕ
  pub gave : before ≡ with_front front after
  pub goes : (more : List ℕ) → ask (front ++ more) ≡ prepend said (next more)

-- at the start it took none
pub taking_none : (ask : List ℕ → Taken) (left : Option (List ℕ)) → TakingOn ask ask left left []
taking_none ask left = record { front = []; gave = sym (front-nil left); goes = λ more. refl }

-- bytes before bytes before what a source has left
front_of_two : (before mid after : Option (List ℕ)) (a b : List ℕ) → before ≡ with_front a mid → mid ≡ with_front b after
    → before ≡ with_front (a ++ b) after
front_of_two before mid after a b first second = first ∙ ap (with_front a) second ∙ front-append a b after

-- bytes before bytes before what is taken
prepend-prepend : (a b : List ℕ) (t : Taken) → prepend a (prepend b t) ≡ prepend (a ++ b) t
prepend-prepend a b t = ap (λ got. record t { got = got }) (sym (append_assoc a b t.got))

-- two parts of what it took, one after the other
pub taking_more : (ask mid_ask next : List ℕ → Taken) (before mid after : Option (List ℕ)) (a b : List ℕ)
    → TakingOn ask mid_ask before mid a → TakingOn mid_ask next mid after b → TakingOn ask next before after (a ++ b)
taking_more ask mid_ask next before mid after a b s t = record {
  front = s.front ++ t.front;
  gave = front_of_two before mid after s.front t.front s.gave t.gave;
  goes = λ more. ap ask (append_assoc s.front t.front more) ∙ s.goes (t.front ++ more) ∙ ap (prepend a) (t.goes more) ∙ prepend-prepend a b (next more);
}

-- the rest of the call took all that it asks for
pub taking_all : (ask next : List ℕ → Taken) (before mid after : Option (List ℕ)) (a got : List ℕ) (ended : Bool)
    → TakingOn ask next before mid a → TookAll next got mid ended after → TookAll ask (a ++ got) before ended after
taking_all ask next before mid after a got ended s t = record {
  front = s.front ++ t.front;
  gave = front_of_two before mid after s.front t.front s.gave t.gave;
  asked = λ rest is. ap ask (append_assoc s.front t.front rest) ∙ s.goes (t.front ++ rest) ∙ ap (prepend a) (t.asked rest is);
}

-- in the rest of the call a take failed
pub taking_some : (ask next : List ℕ → Taken) (before mid after : Option (List ℕ)) (a got : List ℕ) → TakingOn ask next before mid a
    → TookSome next got mid after → TookSome ask (a ++ got) before after
taking_some ask next before mid after a got s t = record {
  front = s.front ++ t.front;
  gave = front_of_two before mid after s.front t.front s.gave t.gave;
  asks = s.goes t.front ∙ ap (prepend a) t.asks;
}

-- if a byte came, the end was not answered, before or after
pub still_ended : (before after : Option (List ℕ)) (was ended : Bool) (byte : ℕ) → GaveByte was before (Ok (Some byte)) ended after
    → ended ≡ was
still_ended before after true ended byte g = absurd g
still_ended before after false ended byte g = g.0

-- a byte came, and the call goes on
pub taking_byte : (ask next : List ℕ → Taken) → AsksByte ask next → (before after : Option (List ℕ)) (was ended : Bool) (byte : ℕ)
    → GaveByte was before (Ok (Some byte)) ended after → (byte == 10) ≡ false
    → TakingOn (unless_ended was ask) (unless_ended was next) before after (byte ∷ [])
taking_byte ask next asks before after true ended byte g other = absurd g
taking_byte ask next asks before after false ended byte (is, above, (zeros, gave)) other = record {
  front = replicate zeros 0 ++ byte ∷ [];
  gave = gave;
  goes = λ more. ap ask (append_assoc (replicate zeros 0) (byte ∷ []) more) ∙ asks.zeros zeros (byte ∷ more) ∙ asks.byte byte more above other;
}

-- a newline ends the call, and counts as taken
newline_at : (ask next : List ℕ → Taken) → AsksByte ask next → (before after : Option (List ℕ)) (was ended : Bool)
    → GaveByte was before (Ok (Some 10)) ended after → TookAll (unless_ended was ask) (10 ∷ []) before ended after
newline_at ask next asks before after true ended g = absurd g
newline_at ask next asks before after false ended (is, above, (zeros, gave)) = rw is (record {
  front = replicate zeros 0 ++ 10 ∷ [];
  gave = gave;
  asked = λ rest told. ap ask (append_assoc (replicate zeros 0) (10 ∷ []) rest) ∙ asks.zeros zeros (10 ∷ rest) ∙ asks.newline rest;
})

-- the same of a byte that is a newline
pub took_newline : (ask next : List ℕ → Taken) → AsksByte ask next → (before after : Option (List ℕ)) (was ended : Bool) (byte : ℕ)
    → GaveByte was before (Ok (Some byte)) ended after → byte ≡ 10 → TookAll (unless_ended was ask) (byte ∷ []) before ended after
took_newline ask next asks before after was ended byte g ten =
    let newline = rw ten at g in
    rw ten (newline_at ask next asks before after was ended newline)

-- a source at its end has no bytes left
no_rest : (left : Option (List ℕ)) (rest : List ℕ) → IsAtEnd left → left ≡ Some rest → rest ≡ []
no_rest None rest at_end told = cc
no_rest (Some left) rest at_end told = cc

-- the input's end ends the call
pub took_end : (ask next : List ℕ → Taken) → AsksByte ask next → (before after : Option (List ℕ)) (was ended : Bool)
    → GaveByte was before (Ok None) ended after → TookAll (unless_ended was ask) [] before ended after
took_end ask next asks before after true ended (is, same) = rw (is, same) (record { front = []; gave = sym (front-nil before); asked = λ rest told. refl })
took_end ask next asks before after false ended (is, at_end, (zeros, gave)) = rw is (record {
  front = replicate zeros 0;
  gave = gave;
  asked = λ rest told. let none = no_rest after rest at_end told in rw none (asks.zeros zeros [] ∙ asks.end);
})

-- a call for no bytes takes none
pub took_none : (left : Option (List ℕ)) (was ended : Bool) → ended ≡ was → TookAll (unless_ended was (taken 0)) [] left ended left
took_none left true ended is = rw is (record { front = []; gave = sym (front-nil left); asked = λ rest told. refl })
took_none left false ended is = rw is (record { front = []; gave = sym (front-nil left); asked = λ rest told. refl })

-- a take failed: the end was not answered, and with only the zeros the call would have met it
pub took_some : (ask next : List ℕ → Taken) → AsksByte ask next
    → (before after : Option (List ℕ)) (was ended : Bool) (failed : Failed) → GaveByte was before (Err failed) ended after
    → (was ≡ false) × (ended ≡ was) × TookSome (unless_ended was ask) [] before after
took_some ask next asks before after true ended failed g = absurd g
took_some ask next asks before after false ended failed (is, (zeros, gave)) = (
  refl,
  is,
  record {
    front = replicate zeros 0;
    gave = gave;
    asks = ap ask (sym (append-nil (replicate zeros 0))) ∙ asks.zeros zeros [] ∙ asks.end;
  },
)

-- a call for one byte takes the byte that came, be it a newline or not
one_at : (before after : Option (List ℕ)) (was ended : Bool) (byte : ℕ) (newline : Bool) → (byte == 10) ≡ newline
    → GaveByte was before (Ok (Some byte)) ended after → TookAll (asked was 1) (byte ∷ []) before ended after
one_at before after was ended byte true is g = took_newline _ _ (asks_more 0) before after was ended byte g (grind arith)
one_at before after was ended byte false is g =
    taking_all _ _ before after after (byte ∷ []) [] ended (taking_byte _ _ (asks_more 0) before after was ended byte g is) (took_none after was ended (still_ended before after was ended byte g))

-- the same without the test
pub took_one : (before after : Option (List ℕ)) (was ended : Bool) (byte : ℕ) → GaveByte was before (Ok (Some byte)) ended after
    → TookAll (asked was 1) (byte ∷ []) before ended after
took_one before after was ended byte g = one_at before after was ended byte (byte == 10) refl g
