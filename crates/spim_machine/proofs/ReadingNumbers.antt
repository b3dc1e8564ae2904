-- If `read_int` reads a line byte by byte, the result is the number that the definition gives for the whole line.
use Rattle.std.proofs.Common.{◌≡◌, ℕ, Bool, false, List, [], ◌∷◌, ◌++◌, refl, sym, ◌∙◌, ap, append_assoc}
use Rattle.std.specs.Prelude.{Option, Some, None, Ok, Err, ◌==◌}
use Rattle.cool_ports.specs.declared.Failed.{Failed}
use Rattle.mips_isa.specs.Calls.{asked_line, number_of}
use Rattle.spim_machine.specs.declared.number.Number.{Number}
use Rattle.spim_machine.specs.declared.number.Number.TheVariants.{Blanks}
use Rattle.cool_ports.specs.Taking.{GaveByte}
use Rattle.spim_machine.specs.Input.{TookAll, TookSome}
use Rattle.spim_machine.specs.Numbers.{number_from}
use Rattle.spim_machine.proofs.TakingBytes.{TakingOn, asks_line, taking_none, taking_more, taking_all, taking_some, taking_byte, took_newline, took_end, took_some}

-- A source gave the front of a line, and a number was read from it as far as it came.
pub record ReadUpTo (was : Bool) (before after : Option (List ℕ)) (number : Number) : Type 0 where
  pub said : List ℕ
  pub taking : TakingOn (asked_line was) (asked_line was) before after said
  pub number_is : (rest : List ℕ) → number_from number rest ≡ number_of (said ++ rest)

-- at the start nothing was read
pub read_none : (was : Bool) (left : Option (List ℕ)) → ReadUpTo was left left Blanks
read_none was left = record { said = []; taking = taking_none (asked_line was) left; number_is = λ rest. refl }

-- a number with one more byte
number_with : (number next : Number) (said : List ℕ) (byte : ℕ)
    → ((rest : List ℕ) → number_from number rest ≡ number_of (said ++ rest))
    → ((rest : List ℕ) → number_from next rest ≡ number_from number (byte ∷ rest)) → (rest : List ℕ)
    → number_from next rest ≡ number_of ((said ++ byte ∷ []) ++ rest)
number_with number next said byte is with_byte rest = with_byte rest ∙ is (byte ∷ rest) ∙ ap number_of (sym (append_assoc said (byte ∷ []) rest))

-- a byte came, and the line goes on
pub read_byte : (before mid after : Option (List ℕ)) (was ended : Bool) (number next : Number) (byte : ℕ)
    → ReadUpTo was before mid number → GaveByte was mid (Ok (Some byte)) ended after → (byte == 10) ≡ false
    → ((rest : List ℕ) → number_from next rest ≡ number_from number (byte ∷ rest)) → ReadUpTo was before after next
read_byte before mid after was ended number next byte r gave other with_byte = record {
  said = r.said ++ byte ∷ [];
  taking = taking_more _ _ _ before mid after r.said (byte ∷ []) r.taking (taking_byte _ _ asks_line mid after was ended byte gave other);
  number_is = number_with number next r.said byte r.number_is with_byte;
}

-- A call took a whole line, at whose front this number is.
abbrev pub TookNumber : Bool → Option (List ℕ) → Bool → Option (List ℕ) → ℕ → Type 0
TookNumber was before ended after n = (got : List ℕ) × TookAll (asked_line was) got before ended after × (n ≡ number_of got)

-- a newline ends the line
pub read_newline : (before mid after : Option (List ℕ)) (was ended : Bool) (number next : Number) (byte n : ℕ)
    → ReadUpTo was before mid number → GaveByte was mid (Ok (Some byte)) ended after → byte ≡ 10
    → ((rest : List ℕ) → number_from next rest ≡ number_from number (byte ∷ rest)) → n ≡ number_from next []
    → TookNumber was before ended after n
read_newline before mid after was ended number next byte n r gave ten with_byte is = (
  r.said ++ byte ∷ [],
  taking_all _ _ before mid after r.said (byte ∷ []) ended r.taking (took_newline _ _ asks_line mid after was ended byte gave ten),
  is ∙ with_byte [] ∙ r.number_is (byte ∷ []),
)

-- the input's end ends the line
pub read_end : (before mid after : Option (List ℕ)) (was ended : Bool) (number : Number) (n : ℕ) → ReadUpTo was before mid number
    → GaveByte was mid (Ok None) ended after → n ≡ number_from number [] → TookNumber was before ended after n
read_end before mid after was ended number n r gave is = (
  r.said ++ [],
  taking_all _ _ before mid after r.said [] ended r.taking (took_end _ _ asks_line mid after was ended gave),
  is ∙ r.number_is [],
)

-- a take failed
pub read_failed : (before mid after : Option (List ℕ)) (was ended : Bool) (number : Number) (failed : Failed)
    → ReadUpTo was before mid number → GaveByte was mid (Err failed) ended after
    → (got : List ℕ) × (was ≡ false) × (ended ≡ was) × TookSome (asked_line was) got before after
read_failed before mid after was ended number failed r gave =
    let some = took_some _ _ asks_line mid after was ended failed gave in
    (r.said ++ [], some.0, some.1, taking_some _ _ before mid after r.said [] r.taking some.2)
