-- Each command of a session is carried out, ends the session, or is interrupted by a failed read, a failed write or lack of memory.
use Rattle.std.proofs.Common.{◌≡◌, ◌⊎◌, inl, inr, ℕ, zero, suc, ◌<◌, ◌≤◌, true, false, List, [], ◌∷◌, ◌++◌, length, map, refl, sym, ◌∙◌, ap, subst, arith}
use Rattle.std.specs.Prelude.{◌≢◌, ◌==◌, Option, Some, None, option_map, Result, Ok, Err}
use Rattle.std.specs.Result.{is_err}
use Rattle.cool_faults.specs.declared.fault.Fault.{Fault}
use Rattle.cool_faults.specs.Verdicts.{IsFaultList}
use Rattle.cool_ports.specs.SinkPuts.{SinkSeen}
use Rattle.cool_ports.proofs.SeenSinks.{after-nil, some_all}
use Rattle.cool_session.specs.declared.command.Command as declared
use Rattle.cool_session.specs.declared.ending.Ending.TheVariants.{Over, BadCommand, EndsInFile, TooLarge}
use Rattle.cool_session.specs.declared.ending.Interruption.{Interruption}
use Rattle.cool_session.specs.declared.ending.Interruption.TheVariants.{ReadFault, WriteFault, Memory}
use Rattle.cool_session.specs.declared.error.SetError.{SetError}
use Rattle.cool_session.specs.Commands.{Command, command, File, Drop, Check, Quit}
use Rattle.cool_session.specs.Exchanges.{Line, head, Asks, Does, sets, drops, checks, quits, no_command, no_file, cut, large, Begins, a_file}
use Rattle.cool_session.specs.Fresh.{Base, Types}
use Rattle.cool_session.specs.Held.{Held, with_file, without_file, with_base, HasRoom}
use Rattle.cool_session.specs.Obeying.{TookFile, PutLines, Obeyed, command_of}
use Rattle.cool_session.specs.Replies.{reply_lines}

-- the session's state, by its parts
pub held_is : (names names' files files' : List (List ℕ)) (base base' : Option Base) → names ≡ names' → files ≡ files' → base ≡ base'
    → ◌≡◌ {A = Held} (record { names = names; files = files; base = base }) (record { names = names'; files = files'; base = base' })
held_is names names' files files' base base' p q r = rw (p, q, r) refl

-- the room, by an answer
pub no_room : (answer room : Result (Unit {0}) SetError) → answer ≡ room → is_err answer ≡ true → room ≡ Ok tt → ⊥
no_room (Ok u) room e h k = absurd cc
no_room (Err x) room e h k = absurd cc

pub some_room : (answer room : Result (Unit {0}) SetError) → answer ≡ room → is_err answer ≡ false → room ≡ Ok tt
some_room (Ok u) room e h = sym e
some_room (Err x) room e h = absurd cc

-- at most so many are fewer, or so many
less_or_equal : (n m : ℕ) → n ≤ m → (n < m) ⊎ (n ≡ m)
less_or_equal zero zero most = inr refl
less_or_equal zero (suc m) most = inl (omega arith)
less_or_equal (suc n) zero most = absurd (omega (arith, most))
less_or_equal (suc n) (suc m) most = later (less_or_equal n m (omega (arith, most)))
  where
    later : (n < m) ⊎ (n ≡ m) → (suc n < suc m) ⊎ (suc n ≡ suc m)
    later (inl less) = inl (omega (arith, less))
    later (inr same) = inr (ap suc same)

module _ (number : ℕ) (h : Held) (input : List ℕ) where
  -- no lines leave a sink as it is
  quiet : (h' : Held) (left : List ℕ) (sink : SinkSeen) → Does h input [] h' left → Obeyed number h input (Ok None) h' left sink sink
  quiet h' left sink does = ([], does, sym (after-nil sink))

  pub bad_command : (h' : Held) (left : List ℕ) (sink : SinkSeen) → Asks input None left
      → Obeyed number h input (Ok (Some (BadCommand number))) h' left sink sink
  bad_command h' left sink ask = (no_command left ask, refl)

  pub quit_command : (h' : Held) (left : List ℕ) (sink : SinkSeen) → Asks input (Some Quit) left
      → Obeyed number h input (Ok (Some Over)) h' left sink sink
  quit_command h' left sink ask = (quits left ask, refl)

  pub drop_command : (name : List ℕ) (h' : Held) (left : List ℕ) (sink : SinkSeen) → Asks input (Some (Drop name)) left
      → h' ≡ without_file h name
      → Obeyed number h input (Ok None) h' left sink sink
  drop_command name h' left sink ask is = rw is (quiet (without_file h name) left sink (drops name left ask))

  -- memory ran out after the line was taken
  pub line_cut : (line : List ℕ) (h' : Held) (left : List ℕ) (sink : SinkSeen) → head input ≡ Line line left
      → Obeyed number h input (Err Memory) h' left sink sink
  line_cut line h' left sink taken = inr (inr (line, taken, refl))

  module _ (name : List ℕ) (n : ℕ) (rest : List ℕ) (ask : Asks input (Some (File name n)) rest) (h' : Held) (left : List ℕ)
      (sink : SinkSeen) where
    pub file_too_large : (HasRoom h name n → ⊥) → left ≡ rest → Obeyed number h input (Ok (Some (TooLarge number))) h' left sink sink
    file_too_large full same = rw same (large name n rest ask full, refl)

    part_begins : HasRoom h name n → (part : List ℕ) → rest ≡ part ++ left → length part < n → Begins h input left
    part_begins room part is short =
        a_file name n part (subst (λ (xs : List ℕ). Asks input (Some (File name n)) xs) is ask) room short

    file_does : HasRoom h name n → (bytes : List ℕ) → length bytes ≡ n → rest ≡ bytes ++ left → Does h input [] (with_file h name bytes) left
    file_does room bytes long is =
        sets name bytes left
        (subst (λ (xs : List ℕ). Asks input (Some (File name (length bytes))) xs) is
        (subst (λ (m : ℕ). Asks input (Some (File name m)) rest) (sym long) ask))
        (subst (λ (m : ℕ). HasRoom h name m) (sym long) room)

    -- all bytes of the file were taken, and memory ran out
    pub file_unset : HasRoom h name n → (bytes : List ℕ) → (length bytes ≡ n) × (rest ≡ bytes ++ left)
        → Obeyed number h input (Err Memory) h' left sink sink
    file_unset room bytes (long, is) =
        inr (inl ([], with_file h name bytes, file_does room bytes long is, some_all sink sink [] (sym (after-nil sink))))

    part_unset : HasRoom h name n → (part : List ℕ) → rest ≡ part ++ left → (length part < n) ⊎ (length part ≡ n)
        → Obeyed number h input (Err Memory) h' left sink sink
    part_unset room part is (inl short) = inl (part_begins room part is short, refl)
    part_unset room part is (inr long) = file_unset room part (long, is)

    pub file_cut : HasRoom h name n → (e : Interruption) → TookFile n (Err e) rest left → Obeyed number h input (Err e) h' left sink sink
    file_cut room ReadFault (part, is, short) = (part_begins room part is short, refl)
    file_cut room WriteFault k = absurd k
    file_cut room Memory (part, is, most) = part_unset room part is (less_or_equal (length part) n most)

    pub file_unended : HasRoom h name n → (length rest < n) × (left ≡ []) → Obeyed number h input (Ok (Some (EndsInFile number))) h' left sink sink
    file_unended room (short, none) = rw none (cut name n rest ask room short, refl)

    pub file_set : HasRoom h name n → (bytes : List ℕ) → (length bytes ≡ n) × (rest ≡ bytes ++ left) → h' ≡ with_file h name bytes
        → Obeyed number h input (Ok None) h' left sink sink
    file_set room bytes (long, is) set =
        rw set (quiet (with_file h name bytes) left sink (file_does room bytes long is))

  module _ (left : List ℕ) (ask : Asks input (Some Check) left) (h' : Held) (before : SinkSeen) where
    pub nothing_to_check : h.files ≡ [] → Obeyed number h input (Ok (Some (BadCommand number))) h' left before before
    nothing_to_check none = (no_file left ask none, refl)

    module _ (faults : List Fault) (typed : ℕ) (base : Option Base) (some : h.files ≢ []) (list : IsFaultList h.files faults)
        (types : Types h.files h.base typed base) (after : SinkSeen) where
      pub checked : PutLines (reply_lines h.names faults typed) (Ok tt) before after → h' ≡ with_base h base
          → Obeyed number h input (Ok None) h' left before after
      checked put is = rw is (reply_lines h.names faults typed, checks faults typed base left ask some list types, put)

      pub check_cut : (e : Interruption) → PutLines (reply_lines h.names faults typed) (Err e) before after
          → Obeyed number h input (Err e) h' left before after
      check_cut ReadFault k = absurd k
      check_cut WriteFault got = (reply_lines h.names faults typed, with_base h base, checks faults typed base left ask some list types, got)
      check_cut Memory got = inr (inl (reply_lines h.names faults typed, with_base h base, checks faults typed base left ask some list types, got))

-- the command of a line at the head of an input
pub asks_of : (input line rest left : List ℕ) (what : Option Command) → head input ≡ Line line rest → left ≡ rest → what ≡ command line
    → Asks input what left
asks_of input line rest left what at same is = (line, at ∙ ap (Line line) (sym same), sym is)

-- the command that was read
pub read_as : (line : List ℕ) (answer is : Option declared.Command) → answer ≡ is → option_map command_of answer ≡ command line
    → option_map command_of is ≡ command line
read_as line answer is same read = subst (λ (o : Option declared.Command). option_map command_of o ≡ command line) same read

pub no_items : {X : Type 0} (xs : List X) → true ≡ (length xs == 0) → xs ≡ []
no_items [] h = refl
no_items (x ∷ xs) h = absurd (grind (arith, h))

pub some_items : {X Y Z : Type 0} (xs : List X) (ys : List Y) (f : X → Z) → length ys ≡ length xs → false ≡ (length ys == 0) → map f xs ≡ [] → ⊥
some_items [] ys f same h e = let none : length ys ≡ 0 = same in grind (arith, none, h)
some_items (x ∷ xs) ys f same h e = absurd cc
