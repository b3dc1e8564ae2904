-- `Exchange` defines a session by its input: the lines of its replies, how it ends, and the rest of the input.
use Rattle.std.specs.Prelude.{◌≡◌, ◌≢◌, ℕ, zero, suc, ◌+◌, ◌<◌, ◌≤◌, ◌==◌, if◌then◌else◌, not, true, List, [], ◌∷◌, ◌++◌, length, codes, Option, Some, None, refl}
use Rattle.std.specs.List.{list_all}
use Rattle.std.proofs.Common.{arith}
use Rattle.cool_faults.specs.declared.fault.Fault.{Fault}
use Rattle.cool_faults.specs.Verdicts.{IsFaultList}
use Rattle.cool_session.specs.declared.ending.Ending.{Ending}
use Rattle.cool_session.specs.declared.ending.Ending.TheVariants.{Over, BadCommand, EndsInFile, TooLarge}
use Rattle.cool_session.specs.Commands.{Command, command, File, Drop, Check, Quit}
use Rattle.cool_session.specs.Files.{set_room}
use Rattle.cool_session.specs.Fresh.{Base, Types}
use Rattle.cool_session.specs.Held.{Held, nothing_held, with_file, without_file, with_base, HasRoom}
use Rattle.cool_session.specs.Replies.{reply_lines}

-- The head of the input: a line and the input after its newline, or the rest after a line that is too long or has no newline.
pub data Head : Type 0 where
  Line : List ℕ → List ℕ → Head
  NoLine : List ℕ → Head

abbrev pub with_first : ℕ → Head → Head
with_first b (Line bytes rest) = Line (b ∷ bytes) rest
with_first b (NoLine rest) = NoLine rest

-- the head, where a line has so many bytes at most
abbrev pub head_within : ℕ → List ℕ → Head
head_within most [] = NoLine []
head_within zero (b ∷ bs) = if b == 10 then Line [] bs else NoLine bs
head_within (suc most) (b ∷ bs) = if b == 10 then Line [] bs else with_first b (head_within most bs)

unfoldable pub head : List ℕ → Head
head = head_within 300

-- The first line of the input is this command, or `None` if it is no command, and `rest` is the input after the line.
abbrev pub Asks : List ℕ → Option Command → List ℕ → Type 0
Asks input what rest = (line : List ℕ) × (head input ≡ Line line rest) × (command line ≡ what)

-- A command after which a session goes on, at the head of an input: its replies, what is held then, and what is left of the input.
pub data Does (h : Held) (input : List ℕ) : List (List ℕ) → Held → List ℕ → Type 0 where
  sets : (name bytes rest : List ℕ) → Asks input (Some (File name (length bytes))) (bytes ++ rest) → HasRoom h name (length bytes)
      → Does h input [] (with_file h name bytes) rest
  drops : (name rest : List ℕ) → Asks input (Some (Drop name)) rest → Does h input [] (without_file h name) rest
  checks : (faults : List Fault) (typed : ℕ) (base : Option Base) (rest : List ℕ) → Asks input (Some Check) rest → h.files ≢ []
      → IsFaultList h.files faults → Types h.files h.base typed base → Does h input (reply_lines h.names faults typed) (with_base h base) rest

-- The end of a session at the head of an input, where the command of this number is; and the rest of the input.
pub data EndsAt (number : ℕ) (h : Held) (input : List ℕ) : Ending → List ℕ → Type 0 where
  over : input ≡ [] → EndsAt number h input Over []
  quits : (rest : List ℕ) → Asks input (Some Quit) rest → EndsAt number h input Over rest
  no_line : (rest : List ℕ) → input ≢ [] → head input ≡ NoLine rest → EndsAt number h input (BadCommand number) rest
  no_command : (rest : List ℕ) → Asks input None rest → EndsAt number h input (BadCommand number) rest
  no_file : (rest : List ℕ) → Asks input (Some Check) rest → h.files ≡ [] → EndsAt number h input (BadCommand number) rest
  cut : (name : List ℕ) (n : ℕ) (rest : List ℕ) → Asks input (Some (File name n)) rest → HasRoom h name n → length rest < n
      → EndsAt number h input (EndsInFile number) []
  large : (name : List ℕ) (n : ℕ) (rest : List ℕ) → Asks input (Some (File name n)) rest → (HasRoom h name n → ⊥)
      → EndsAt number h input (TooLarge number) rest

-- A command was begun at the head of an input, and this is left: a part of a line was taken, without its newline and not too long, or a
-- line and a part of a file that has room.
pub data Begins (h : Held) (input left : List ℕ) : Type 0 where
  a_line : (part : List ℕ) → input ≡ part ++ left → length part ≤ 300 → list_all (λ b. not (b == 10)) part ≡ true → Begins h input left
  a_file : (name : List ℕ) (n : ℕ) (part : List ℕ) → Asks input (Some (File name n)) (part ++ left) → HasRoom h name n → length part < n
      → Begins h input left

-- So many commands of an input were done, from its beginning on: their replies, what is held then, and what is left of the input.
pub data Did (input : List ℕ) : ℕ → List (List ℕ) → Held → List ℕ → Type 0 where
  none : Did input 0 [] nothing_held input
  more : (n : ℕ) (replies : List (List ℕ)) (h : Held) (middle : List ℕ) (lines : List (List ℕ)) (h' : Held) (left : List ℕ)
      → Did input n replies h middle → Does h middle lines h' left → Did input (n + 1) (replies ++ lines) h' left

-- A whole session: its replies, how it ends, and what it leaves of the input.
pub record Exchange (input : List ℕ) (replies : List (List ℕ)) (end : Ending) (left : List ℕ) : Type 0 where
  pub count : ℕ
  pub held : Held
  pub rest : List ℕ
  pub did : Did input count replies held rest
  pub ends : EndsAt (count + 1) held rest end left

-- A session that was cut short while a line or a file was taken: the replies of the commands that were done, and what is left of the input.
pub record Unread (input : List ℕ) (replies : List (List ℕ)) (left : List ℕ) : Type 0 where
  pub count : ℕ
  pub held : Held
  pub rest : List ℕ
  pub did : Did input count replies held rest
  pub begins : Begins held rest left

-- A session that was cut short in the work of a command of which all input was taken: the replies of the commands before it, the lines of
-- its own reply, and what is left of the input.
pub record Unwritten (input : List ℕ) (replies lines : List (List ℕ)) (left : List ℕ) : Type 0 where
  pub count : ℕ
  pub held : Held
  pub rest : List ℕ
  pub later : Held
  pub did : Did input count replies held rest
  pub does : Does held rest lines later left

-- A session that was cut short after a line was taken: the replies of the commands before, and what is left of the input.
pub record Undone (input : List ℕ) (replies : List (List ℕ)) (left : List ℕ) : Type 0 where
  pub count : ℕ
  pub held : Held
  pub rest : List ℕ
  pub line : List ℕ
  pub did : Did input count replies held rest
  pub taken : head rest ≡ Line line left

-- A part of a session: the replies of the commands that were done, and what they leave of the input.
pub record Part (input : List ℕ) (replies : List (List ℕ)) (left : List ℕ) : Type 0 where
  pub count : ℕ
  pub held : Held
  pub did : Did input count replies held left

-- there is a session with this input
abbrev pub HasExchange : List ℕ → Type 0
HasExchange input = (replies : List (List ℕ)) × (end : Ending) × (left : List ℕ) × Exchange input replies end left

-- there is only one session with this input
abbrev pub HasOneExchange : List ℕ → Type 0
HasOneExchange input =
    (replies replies' : List (List ℕ)) (end end' : Ending) (left left' : List ℕ) → Exchange input replies end left
    → Exchange input replies' end' left' → (replies ≡ replies') × (end ≡ end') × (left ≡ left')

-- the replies of a part of a session are a front of those of the whole
abbrev pub HasFronts : List ℕ → Type 0
HasFronts input =
    (front replies : List (List ℕ)) (end : Ending) (rest left : List ℕ) → Part input front rest → Exchange input replies end left
    → (others : List (List ℕ)) × (replies ≡ front ++ others)

-- Worked examples
check_alone : Exchange (codes "check\n") [] (BadCommand 1) []
unfolding head command
check_alone = record { count = 0; held = nothing_held; rest = codes "check\n"; did = none; ends = no_file [] (codes "check", refl, refl) refl }

quit_at_once : Exchange (codes "quit\nmore") [] Over (codes "more")
unfolding head command
quit_at_once =
    record { count = 0; held = nothing_held; rest = codes "quit\nmore"; did = none; ends = quits (codes "more") (codes "quit", refl, refl) }

no_newline : head (codes "quit") ≡ NoLine []
unfolding head
no_newline = refl

ends_in_a_file : Exchange (codes "file a 5\nab") [] (EndsInFile 1) []
unfolding head command set_room
ends_in_a_file = record {
  count = 0;
  held = nothing_held;
  rest = codes "file a 5\nab";
  did = none;
  ends = cut (codes "a") 5 (codes "ab") (codes "file a 5", refl, refl) refl (omega arith);
}
