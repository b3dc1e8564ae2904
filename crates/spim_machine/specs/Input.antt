-- The bytes that a system call takes from the input: all that it asks for (`TookAll`), or a part of them before a read fails (`TookSome`).
use Rattle.std.specs.Prelude.{◌≡◌, ℕ, Bool, true, List, [], ◌++◌, Option, Some}
use Rattle.mips_isa.specs.Calls.{Taken}
use Rattle.cool_ports.specs.Taking.{with_front}

-- A call that takes `ask input` of an input took all that it asks for.
pub record TookAll (ask : List ℕ → Taken) (got : List ℕ) (before : Option (List ℕ)) (ended : Bool) (after : Option (List ℕ)) : Type 0 where
  pub front : List ℕ
  pub gave : before ≡ with_front front after
  pub asked : (rest : List ℕ) → after ≡ Some rest → ask (front ++ rest) ≡ record { got = got; rest = rest; ended = ended }

-- A call took these bytes and asked for one more: with only these it would have got so much and met the end.
pub record TookSome (ask : List ℕ → Taken) (got : List ℕ) (before after : Option (List ℕ)) : Type 0 where
  pub front : List ℕ
  pub gave : before ≡ with_front front after
  pub asks : ask front ≡ record { got = got; rest = []; ended = true }
