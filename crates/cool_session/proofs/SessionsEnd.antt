-- Each input has a session, because in each step the session ends or carries out a command that takes at least one byte of the input. The files held stay
-- within the limits.
use Rattle.std.proofs.Common.{◌≡◌, ◌⊎◌, inl, inr, ℕ, zero, suc, ◌+◌, ◌<◌, ◌≤◌, Bool, true, false, List, [], ◌∷◌, ◌++◌, length, take, drop, replicate, remove, take-append-drop, refl, sym, ap, ◌∙◌, subst, arith, length-set}
use Rattle.std.specs.Prelude.{Option, Some, None, IfSome, Result, Ok, Err, bytes_eq, if◌then◌else◌, ◌==◌, is_some}
use Rattle.std.proofs.Common.{true≢false, is_ok}
use Rattle.std.proofs.lemmas.Bool.{cases_lt}
use Rattle.std.proofs.lemmas.List.{length_push, length-replicate}
use Rattle.cool_syntax.specs.declared.TheConstants.{MOST_FILES, MOST_SOURCE_BYTES}
use Rattle.cool_faults.specs.Files.{total}
use Rattle.cool_faults.specs.Laws.{HaveVerdicts}
use Rattle.cool_session.specs.declared.ending.Ending.{Ending}
use Rattle.cool_session.specs.declared.ending.Ending.TheVariants.{Over, BadCommand, EndsInFile, TooLarge}
use Rattle.cool_session.specs.declared.error.SetError.{SetError}
use Rattle.cool_session.specs.Commands.{Command, command, File, Drop, Check, Quit}
use Rattle.cool_session.specs.Exchanges.{Head, Line, NoLine, with_first, head_within, head, Asks, Does, sets, drops, checks, EndsAt, over, quits, no_line, no_command, no_file, cut, large, Did, none, more, HasExchange}
use Rattle.cool_session.specs.Files.{placed, without, position, position_from, set_room}
use Rattle.cool_session.specs.Fresh.{IsOfFiles}
use Rattle.cool_session.specs.Held.{Held, nothing_held, with_file, without_file, with_base, HasRoom}
use Rattle.cool_session.specs.Replies.{reply_lines}
use Rattle.cool_session.proofs.CountsOfChecks.{listed_at_least, types_of_list, of_files_after}
use Rattle.cool_session.proofs.FilesSet.{fits, placed_total, removed_less}

-- A line takes a byte

taken_by : Head → ℕ
taken_by (Line line rest) = suc (length rest)
taken_by (NoLine rest) = 0

first_takes : (b : ℕ) (h : Head) → taken_by (with_first b h) ≡ taken_by h
unfolding taken_by
first_takes b (Line line rest) = refl
first_takes b (NoLine rest) = refl

within_takes : (most : ℕ) (input : List ℕ) → taken_by (head_within most input) ≤ length input
unfolding taken_by
within_takes zero [] = omega arith
within_takes (suc most) [] = omega arith
within_takes zero (b ∷ bs) = by (b == 10)
  where
    by : (newline : Bool) → taken_by (if newline then Line [] bs else NoLine bs) ≤ length (b ∷ bs)
    by true = omega arith
    by false = omega arith
within_takes (suc most) (b ∷ bs) = by (b == 10) (within_takes most bs)
  where
    by : (newline : Bool) → taken_by (head_within most bs) ≤ length bs
        → taken_by (if newline then Line [] bs else with_first b (head_within most bs)) ≤ length (b ∷ bs)
    by true later = omega arith
    by false later = let same = first_takes b (head_within most bs) in omega (arith, same, later)

line_takes : (input line rest : List ℕ) → head input ≡ Line line rest → length rest < length input
unfolding head taken_by
line_takes input line rest is =
    let same : taken_by (head_within 300 input) ≡ suc (length rest) = ap taken_by is in
    let most = within_takes 300 input in omega (arith, same, most)

-- The session's data stays within the limits

record IsKept (h : Held) : Type 0 where
  paired : length h.names ≡ length h.files
  few : length h.files ≤ MOST_FILES
  small : total h.files ≤ MOST_SOURCE_BYTES
  base : IsOfFiles h.base

nothing_kept : IsKept nothing_held
nothing_kept = record { paired = refl; few = omega arith; small = omega arith; base = tt }

placed_many : {X Y : Type 0} (place : Option ℕ) (xs : List X) (ys : List Y) (x : X) (y : Y) → length xs ≡ length ys
    → length (placed place xs x) ≡ length (placed place ys y)
placed_many None xs ys x y same = omega (arith, length_push xs x, length_push ys y, same)
placed_many (Some k) xs ys x y same = omega (arith, length-set xs k x, length-set ys k y, same)

none_some : {X : Type 0} {x : X} → ◌≡◌ {A = Option X} None (Some x) → ⊥
none_some e = true≢false (sym (ap is_some e))

removed_many : {X Y : Type 0} (k : ℕ) (xs : List X) (ys : List Y) → length xs ≡ length ys → length (remove xs k) ≡ length (remove ys k)
removed_many zero [] [] same = refl
removed_many (suc k) [] [] same = refl
removed_many k [] (y ∷ ys) same = absurd (omega (arith, same))
removed_many k (x ∷ xs) [] same = absurd (omega (arith, same))
removed_many zero (x ∷ xs) (y ∷ ys) same = omega (arith, same)
removed_many (suc k) (x ∷ xs) (y ∷ ys) same = ap suc (removed_many k xs ys (omega (arith, same)))

removed_few : {X : Type 0} (k : ℕ) (xs : List X) → length (remove xs k) ≤ length xs
removed_few zero [] = omega arith
removed_few (suc k) [] = omega arith
removed_few zero (x ∷ xs) = omega arith
removed_few (suc k) (x ∷ xs) = let less = removed_few k xs in omega (arith, less)

taken_whole : (n : ℕ) (xs : List ℕ) → n ≤ length xs → length (take n xs) ≡ n
taken_whole zero xs most = refl
taken_whole (suc n) [] most = absurd (omega (arith, most))
taken_whole (suc n) (x ∷ xs) most = ap suc (taken_whole n xs (omega (arith, most)))

dropped_few : (n : ℕ) (xs : List ℕ) → length (drop n xs) ≤ length xs
dropped_few zero xs = omega arith
dropped_few (suc n) [] = omega arith
dropped_few (suc n) (x ∷ xs) = let less = dropped_few n xs in omega (arith, less)

position_within : (i : ℕ) (names : List (List ℕ)) (name : List ℕ) → IfSome (position_from i names name) (λ k. k < i + length names)
position_within i [] name = tt
position_within i (n ∷ ns) name = by (bytes_eq n name) (position_within (i + 1) ns name)
  where
    later : (place : Option ℕ) → IfSome place (λ k. k < i + 1 + length ns) → IfSome place (λ k. k < i + length (n ∷ ns))
    later None h = tt
    later (Some k) h = omega (arith, h)

    by : (here : Bool) → IfSome (position_from (i + 1) ns name) (λ k. k < i + 1 + length ns)
        → IfSome (if here then Some i else position_from (i + 1) ns name) (λ k. k < i + length (n ∷ ns))
    by true h = omega arith
    by false h = later (position_from (i + 1) ns name) h

module _ (h : Held) (kept : IsKept h) where
  place_within : (name : List ℕ) → IfSome (position h.names name) (λ k. k < length h.files)
  place_within name =
      let same : 0 + length h.names ≡ length h.files = omega (arith, kept.paired) in
      subst (λ (n : ℕ). IfSome (position h.names name) (λ k. k < n)) same (position_within 0 h.names name)

  file_kept : (name bytes : List ℕ) → HasRoom h name (length bytes) → IsKept (with_file h name bytes)
  file_kept name bytes room =
      let place = position h.names name in
      let some : List ℕ = replicate (length bytes) 0 in
      let within = place_within name in
      let most = fits h.names h.files name some place refl room in
      let names = placed_many place h.names h.files name bytes kept.paired in
      let sum = placed_total place h.files bytes within in
      let other = placed_total place h.files some within in
      let long : length some ≡ length bytes = length-replicate {A = ℕ} (length bytes) 0 in
      record {
        paired = names;
        few = omega (arith, names, most.0);
        small = omega (arith, sum, other, long, most.1);
        base = kept.base;
      }

  dropped_kept : (name : List ℕ) → IsKept (without_file h name)
  dropped_kept name = by (position h.names name)
    where
      by : (place : Option ℕ) → IsKept (record { names = without place h.names; files = without place h.files; base = h.base })
      by None = record { paired = kept.paired; few = kept.few; small = kept.small; base = kept.base }
      by (Some k) = record {
        paired = removed_many k h.names h.files kept.paired;
        few = omega (arith, removed_few k h.files, kept.few);
        small = omega (arith, removed_less h.files k, kept.small);
        base = kept.base;
      }

-- A turn: the session ends, or a command is done that takes a byte

IsEnd : ℕ → Held → List ℕ → Type 0
IsEnd number h input = (end : Ending) × (left : List ℕ) × EndsAt number h input end left

record GoesOn (h : Held) (input : List ℕ) : Type 0 where
  lines : List (List ℕ)
  later : Held
  left : List ℕ
  does : Does h input lines later left
  kept : IsKept later
  less : length left < length input

module _ (verdicts : HaveVerdicts) (number : ℕ) (h : Held) (kept : IsKept h) (input : List ℕ) where
  Turn : Type 0
  Turn = IsEnd number h input ⊎ GoesOn h input

  module _ (line rest : List ℕ) (at : head input ≡ Line line rest) where
    less : length rest < length input
    less = line_takes input line rest at

    check_turn : (files : List (List ℕ)) → h.files ≡ files → command line ≡ Some Check → Turn
    unfolding Turn IsEnd
    check_turn [] nothing is = inl (BadCommand number, rest, no_file rest (line, at, is) nothing)
    check_turn (f ∷ fs) files is =
        let (faults, list) = listed_at_least verdicts h.files kept.few kept.small in
        let (typed, after, types) = types_of_list h.files faults list h.base kept.base in
        inr (record {
          lines = reply_lines h.names faults typed;
          later = with_base h after;
          left = rest;
          does = checks faults typed after rest (line, at, is) (λ e. absurd (omega (arith, ap length files, ap length e))) list types;
          kept = record {
            paired = kept.paired;
            few = kept.few;
            small = kept.small;
            base = of_files_after h.files h.base typed after types kept.base;
          };
          less = less;
        })

    file_turn : (name : List ℕ) (n : ℕ) → command line ≡ Some (File name n) → (room : Result (Unit {0}) SetError)
        → set_room h.names h.files name (replicate n 0) ≡ room → Turn
    unfolding Turn IsEnd
    file_turn name n is (Err e) room =
        inl (TooLarge number, rest, large name n rest (line, at, is) (λ fits. true≢false (sym (ap is_ok (sym room ∙ fits)))))
    file_turn name n is (Ok u) room = by (cases_lt (length rest) n)
      where
        by : (length rest < n) ⊎ (n ≤ length rest) → Turn
        by (inl short) = inl (EndsInFile number, [], cut name n rest (line, at, is) room short)
        by (inr long) =
            let parts : take n rest ++ drop n rest ≡ rest = take-append-drop n rest in
            let many : length (take n rest) ≡ n = taken_whole n rest long in
            let fewer : length (drop n rest) ≤ length rest = dropped_few n rest in
            let asks : Asks input (Some (File name (length (take n rest)))) (take n rest ++ drop n rest) =
            (line, subst (λ (xs : List ℕ). head input ≡ Line line xs) (sym parts) at, subst (λ (m : ℕ). command line ≡ Some (File name m)) (sym many) is)
            in
            let fit : HasRoom h name (length (take n rest)) = subst (λ (m : ℕ). HasRoom h name m) (sym many) room in
            inr (record {
              lines = [];
              later = with_file h name (take n rest);
              left = drop n rest;
              does = sets name (take n rest) (drop n rest) asks fit;
              kept = file_kept h kept name (take n rest) fit;
              less = omega (arith, fewer, less);
            })

    line_turn : (asked : Option Command) → command line ≡ asked → Turn
    unfolding Turn IsEnd
    line_turn None is = inl (BadCommand number, rest, no_command rest (line, at, is))
    line_turn (Some Quit) is = inl (Over, rest, quits rest (line, at, is))
    line_turn (Some (Drop name)) is =
        inr (record {
          lines = [];
          later = without_file h name;
          left = rest;
          does = drops name rest (line, at, is);
          kept = dropped_kept h kept name;
          less = less;
        })
    line_turn (Some Check) is = check_turn h.files refl is
    line_turn (Some (File name n)) is = file_turn name n is (set_room h.names h.files name (replicate n 0)) refl

  head_turn : (input ≡ [] → ⊥) → (first : Head) → head input ≡ first → Turn
  unfolding Turn IsEnd
  head_turn some (Line line rest) at = line_turn line rest at (command line) refl
  head_turn some (NoLine rest) at = inl (BadCommand number, rest, no_line rest some at)

turn : HaveVerdicts → (number : ℕ) (h : Held) → IsKept h → (input : List ℕ) → IsEnd number h input ⊎ GoesOn h input
unfolding Turn IsEnd
turn verdicts number h kept [] = inl (Over, [], over refl)
turn verdicts number h kept (b ∷ bs) =
    head_turn verdicts number h kept (b ∷ bs) (λ e. absurd (omega (arith, ap length e))) (head (b ∷ bs)) refl

-- So it goes on until the session ends

module _ (verdicts : HaveVerdicts) (input : List ℕ) where
  goes_on : (most n : ℕ) (replies : List (List ℕ)) (h : Held) (rest : List ℕ) → length rest ≤ most → IsKept h → Did input n replies h rest
      → HasExchange input
  unfolding IsEnd
  goes_on zero n replies h rest short kept did = by (turn verdicts (n + 1) h kept rest)
    where
      by : IsEnd (n + 1) h rest ⊎ GoesOn h rest → HasExchange input
      by (inl (end, left, ends)) = (replies, end, left, record { count = n; held = h; rest = rest; did = did; ends = ends })
      by (inr g) = absurd (omega (arith, short, g.less))
  goes_on (suc most) n replies h rest short kept did =
      by (turn verdicts (n + 1) h kept rest)
      (λ g.
      goes_on most (n + 1) (replies ++ g.lines) g.later g.left (omega (arith, short, g.less)) g.kept
      (more n replies h rest g.lines g.later g.left did g.does))
    where
      by : IsEnd (n + 1) h rest ⊎ GoesOn h rest → (GoesOn h rest → HasExchange input) → HasExchange input
      by (inl (end, left, ends)) later = (replies, end, left, record { count = n; held = h; rest = rest; did = did; ends = ends })
      by (inr g) later = later g

  pub exchange_at_least : HasExchange input
  exchange_at_least = goes_on (length input) 0 [] nothing_held input (omega arith) nothing_kept none
