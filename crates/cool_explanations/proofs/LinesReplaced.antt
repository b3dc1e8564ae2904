-- If an edit replaces a range of bytes in a file, the lines in front of the range and those behind it stay, and each changed line has its right line
-- number.
use Rattle.std.proofs.Common.{◌≡◌, ℕ, suc, ◌+◌, ◌-◌, ◌<◌, ◌≤◌, List, [], ◌∷◌, ◌++◌, length, get_or, take, drop, Bool, true, false, nat_eq, refl, ap, sym, subst, ◌∙◌, append-nil, append_assoc, length-append, arith}
use Rattle.std.proofs.lemmas.List.{drop_all, drop-append-le, length-take, take-append-drop, take-take}
use Rattle.std.proofs.lemmas.List.Sums.{sum_by-cons}
use Rattle.std.specs.List.{AllByRecursion, count_by}
use Rattle.std.specs.Prelude.{bytes_eq, cond, if◌then◌else◌, Some, slice_get}
use Rattle.lists.proofs.EqualBytes.{bytes_equal}
use Rattle.cool_mend.specs.declared.edit.Edit.{Edit}
use Rattle.cool_mend.specs.Edits.{IsEdit, edited_file}
use Rattle.cool_explanations.specs.Changes.Change.{becomes}
use Rattle.cool_explanations.specs.Changes.{Change, Stretch, all_but_last, change_at, changes, last_of, line_number, lines, lines_from, touched, without_end}
use Rattle.cool_explanations.specs.ChangedLines.{IsChange, IsLine, IsReplacement, ShowsEdit}
use Rattle.cool_explanations.specs.Shown.{part}
use Rattle.cool_explanations.specs.SourceLines.{first_line, last_line, last_start}
use Rattle.cool_explanations.proofs.NoChangeLeftOut.{has_all_changes}

-- Lists that have a last line

-- there is a line in any bytes
some_line : (line bytes : List ℕ) → 0 < length (lines_from line bytes)
some_line line [] = omega arith
some_line line (b ∷ bs) = by (nat_eq b 10) (some_line (line ++ b ∷ []) bs) where
  by : (t : Bool) → 0 < length (lines_from (line ++ b ∷ []) bs) → 0 < length (if t then line ∷ lines_from [] bs else lines_from (line ++ b ∷ []) bs)
  by true some = omega arith
  by false some = some

-- the last of more lines, and the others
last_more : (x : List ℕ) (l : List (List ℕ)) → 0 < length l → last_of (x ∷ l) ≡ last_of l
last_more x [] some = absurd (omega (arith, some))
last_more x (y ∷ l) some =
    let more : suc (suc (length l)) - 1 ≡ suc (suc (length l) - 1) = omega arith in
    ap (λ (n : ℕ). get_or (x ∷ y ∷ l) n []) more

front_more : (x : List ℕ) (l : List (List ℕ)) → 0 < length l → all_but_last (x ∷ l) ≡ x ∷ all_but_last l
front_more x [] some = absurd (omega (arith, some))
front_more x (y ∷ l) some =
    let more : suc (suc (length l)) - 1 ≡ suc (suc (length l) - 1) = omega arith in
    ap (λ (n : ℕ). take n (x ∷ y ∷ l)) more

with_last : (l : List (List ℕ)) → 0 < length l → l ≡ all_but_last l ++ last_of l ∷ []
with_last [] some = absurd (omega (arith, some))
with_last (x ∷ []) some = refl
with_last (x ∷ y ∷ l) some =
    let rest : 0 < length (y ∷ l) = omega arith in
    ap (λ (r : List (List ℕ)). x ∷ r) (with_last (y ∷ l) rest)
    ∙ ap (λ (r : List (List ℕ)). r ++ last_of (y ∷ l) ∷ []) (sym (front_more x (y ∷ l) rest))
    ∙ ap (λ (z : List ℕ). all_but_last (x ∷ y ∷ l) ++ z ∷ []) (sym (last_more x (y ∷ l) rest))

-- The lines of stretches of bytes

-- a second stretch goes on with the last line of the first
of_two : (line a b : List ℕ) → lines_from line (a ++ b) ≡ all_but_last (lines_from line a) ++ lines_from (last_of (lines_from line a)) b
of_two line [] b = refl
of_two line (x ∷ a) b = by (nat_eq x 10) (of_two [] a b) (of_two (line ++ x ∷ []) a b) where
  by : (t : Bool) → lines_from [] (a ++ b) ≡ all_but_last (lines_from [] a) ++ lines_from (last_of (lines_from [] a)) b
      → lines_from (line ++ x ∷ []) (a ++ b) ≡ all_but_last (lines_from (line ++ x ∷ []) a) ++ lines_from (last_of (lines_from (line ++ x ∷ []) a)) b
      → (if t then line ∷ lines_from [] (a ++ b) else lines_from (line ++ x ∷ []) (a ++ b))
      ≡ all_but_last (if t then line ∷ lines_from [] a else lines_from (line ++ x ∷ []) a) ++ lines_from (last_of (if t then line ∷ lines_from [] a else lines_from (line ++ x ∷ []) a)) b
  by true new on =
      ap (λ (l : List (List ℕ)). line ∷ l) new
      ∙ ap (λ (l : List (List ℕ)). l ++ lines_from (last_of (lines_from [] a)) b) (sym (front_more line (lines_from [] a) (some_line [] a)))
      ∙ ap (λ (l : List ℕ). all_but_last (line ∷ lines_from [] a) ++ lines_from l b) (sym (last_more line (lines_from [] a) (some_line [] a)))
  by false new on = on

-- bytes without a newline, which are one line
abbrev IsOneLine : List ℕ → Type 0
IsOneLine line = (bytes : List ℕ) → lines (line ++ bytes) ≡ lines_from line bytes

one_more : (line : List ℕ) (b : ℕ) → nat_eq b 10 ≡ false → IsOneLine line → IsOneLine (line ++ b ∷ [])
one_more line b other one bytes =
    ap lines (append_assoc line (b ∷ []) bytes) ∙ one (b ∷ bytes) ∙ ap (λ (t : Bool). if t then line ∷ lines_from [] bytes else lines_from (line ++ b ∷ []) bytes) other

-- the last line of bytes is one line
last_is_one : (line bytes : List ℕ) → IsOneLine line → IsOneLine (last_of (lines_from line bytes))
last_is_one line [] one = one
last_is_one line (b ∷ bs) one = by (nat_eq b 10) refl (last_is_one [] bs (λ bytes. refl)) (λ next. last_is_one (line ++ b ∷ []) bs next) where
  by : (t : Bool) → nat_eq b 10 ≡ t → IsOneLine (last_of (lines_from [] bs)) → (IsOneLine (line ++ b ∷ []) → IsOneLine (last_of (lines_from (line ++ b ∷ []) bs)))
      → IsOneLine (last_of (if t then line ∷ lines_from [] bs else lines_from (line ++ b ∷ []) bs))
  by true is new on = subst IsOneLine (sym (last_more line (lines_from [] bs) (some_line [] bs))) new
  by false is new on = on (one_more line b is one)

-- the lines behind the first one
abbrev behind : List ℕ → List (List ℕ)
behind bytes = drop 1 (lines bytes)

-- bytes that go on a line: it ends with their first line
first_and_rest : (line bytes : List ℕ) → lines_from line bytes ≡ (line ++ first_line bytes) ∷ behind bytes
first_and_rest line [] = ap (λ (l : List ℕ). l ∷ []) (sym (append-nil line))
first_and_rest line (b ∷ bs) = by (nat_eq b 10) (first_and_rest (line ++ b ∷ []) bs) (first_and_rest (b ∷ []) bs) where
  by : (t : Bool) → lines_from (line ++ b ∷ []) bs ≡ ((line ++ b ∷ []) ++ first_line bs) ∷ behind bs → lines_from (b ∷ []) bs ≡ (b ∷ first_line bs) ∷ behind bs
      → (if t then line ∷ lines_from [] bs else lines_from (line ++ b ∷ []) bs)
      ≡ (line ++ (if t then [] else b ∷ first_line bs)) ∷ drop 1 (if t then [] ∷ lines_from [] bs else lines_from (b ∷ []) bs)
  by true on alone = ap (λ (l : List ℕ). l ∷ lines_from [] bs) (sym (append-nil line))
  by false on alone =
      on
      ∙ ap (λ (l : List ℕ). l ∷ behind bs) (append_assoc line (b ∷ []) (first_line bs))
      ∙ ap (λ (l : List (List ℕ)). (line ++ b ∷ first_line bs) ∷ drop 1 l) (sym alone)

-- the first line is one line
only_first : (line bytes : List ℕ) → lines_from line (first_line bytes) ≡ (line ++ first_line bytes) ∷ []
only_first line [] = ap (λ (l : List ℕ). l ∷ []) (sym (append-nil line))
only_first line (b ∷ bs) = by (nat_eq b 10) refl (only_first (line ++ b ∷ []) bs) where
  by : (t : Bool) → nat_eq b 10 ≡ t → lines_from (line ++ b ∷ []) (first_line bs) ≡ ((line ++ b ∷ []) ++ first_line bs) ∷ []
      → lines_from line (if t then [] else b ∷ first_line bs) ≡ (line ++ (if t then [] else b ∷ first_line bs)) ∷ []
  by true is on = ap (λ (l : List ℕ). l ∷ []) (sym (append-nil line))
  by false is on =
      ap (λ (t : Bool). if t then line ∷ lines_from [] (first_line bs) else lines_from (line ++ b ∷ []) (first_line bs)) is
      ∙ on ∙ ap (λ (l : List ℕ). l ∷ []) (append_assoc line (b ∷ []) (first_line bs))

-- the last line, by the place where it begins
last_begins : (front bytes : List ℕ) (start : ℕ) → start ≤ length front → last_of (lines_from (drop start front) bytes) ≡ drop (last_start start (length front) bytes) (front ++ bytes)
last_begins front [] start within = ap (drop start) (sym (append-nil front))
last_begins front (b ∷ bs) start within =
    by (nat_eq b 10) (last_begins (front ++ b ∷ []) bs (length front + 1) (omega (arith, counted))) (last_begins (front ++ b ∷ []) bs start (omega (arith, counted)))
  where
    counted : length (front ++ b ∷ []) ≡ length front + 1
    counted = length-append front (b ∷ [])

    Begins : (start from : ℕ) → Type 0
    Begins start from = last_of (lines_from (drop start (front ++ b ∷ [])) bs) ≡ drop (last_start start from bs) ((front ++ b ∷ []) ++ bs)

    moved : (start : ℕ) → Begins start (length (front ++ b ∷ [])) → last_of (lines_from (drop start (front ++ b ∷ [])) bs) ≡ drop (last_start start (length front + 1) bs) (front ++ b ∷ bs)
    moved start is =
        is ∙ ap (λ (n : ℕ). drop (last_start start n bs) ((front ++ b ∷ []) ++ bs)) counted
        ∙ ap (drop (last_start start (length front + 1) bs)) (append_assoc front (b ∷ []) bs)

    by : (t : Bool) → Begins (length front + 1) (length (front ++ b ∷ [])) → Begins start (length (front ++ b ∷ []))
        → last_of (if t then drop start front ∷ lines_from [] bs else lines_from (drop start front ++ b ∷ []) bs)
        ≡ drop (last_start (if t then length front + 1 else start) (length front + 1) bs) (front ++ b ∷ bs)
    by true new on =
        last_more (drop start front) (lines_from [] bs) (some_line [] bs)
        ∙ ap (λ (l : List ℕ). last_of (lines_from l bs)) (sym (drop_all (length front + 1) (front ++ b ∷ []) (omega (arith, counted))))
        ∙ moved (length front + 1) new
    by false new on =
        ap (λ (l : List ℕ). last_of (lines_from l bs)) (sym (drop-append-le start front (b ∷ []) within))
        ∙ moved start on

last_is : (bytes : List ℕ) → last_of (lines bytes) ≡ last_line bytes
last_is bytes = last_begins [] bytes 0 (omega arith)

-- how many lines there are
count_lines : (line bytes : List ℕ) → length (lines_from line bytes) ≡ count_by (λ b. nat_eq b 10) bytes + 1
count_lines line [] = refl
count_lines line (b ∷ bs) = by (nat_eq b 10) (count_lines [] bs) (count_lines (line ++ b ∷ []) bs) ∙ ap (λ (n : ℕ). n + 1) (sym (sum_by-cons (λ b. cond (nat_eq b 10) 1 0) b bs))
  where
    count : ℕ
    count = count_by (λ b. nat_eq b 10) bs

    by : (t : Bool) → length (lines_from [] bs) ≡ count + 1 → length (lines_from (line ++ b ∷ []) bs) ≡ count + 1
        → length (if t then line ∷ lines_from [] bs else lines_from (line ++ b ∷ []) bs) ≡ (cond t 1 0 + count) + 1
    by true new on = omega (arith, new)
    by false new on = omega (arith, on)

-- the number of the line that begins or goes on behind bytes
number_is : (bytes : List ℕ) → line_number bytes ≡ length (all_but_last (lines bytes)) + 1
number_is bytes =
    let all = lines bytes in
    omega (arith, count_lines [] bytes, length-take (length all - 1) all)

-- the lines of three stretches of bytes: those in front of the one in which the second stretch begins, those up to the one in which it ends, and those behind it
of_three : (a m b : List ℕ) → lines (a ++ (m ++ b)) ≡ all_but_last (lines a) ++ (lines (last_line a ++ (m ++ first_line b)) ++ behind b)
of_three a m b =
    let l = last_of (lines a) in
    let front = all_but_last (lines (l ++ m)) in
    let last = last_of (lines (l ++ m)) in
    let whole : lines_from l (m ++ b) ≡ front ++ (last ++ first_line b) ∷ behind b =
    sym (last_is_one [] a (λ bytes. refl) (m ++ b)) ∙ ap lines (sym (append_assoc l m b)) ∙ of_two [] (l ++ m) b ∙ ap (λ (x : List (List ℕ)). front ++ x) (first_and_rest last b) in
    let middle : lines (l ++ (m ++ first_line b)) ≡ front ++ (last ++ first_line b) ∷ [] =
    ap lines (sym (append_assoc l m (first_line b))) ∙ of_two [] (l ++ m) (first_line b) ∙ ap (λ (x : List (List ℕ)). front ++ x) (only_first last b) in
    of_two [] a (m ++ b)
    ∙ ap (λ (x : List (List ℕ)). all_but_last (lines a) ++ x)
    (whole ∙ sym (append_assoc front ((last ++ first_line b) ∷ []) (behind b)) ∙ ap (λ (x : List (List ℕ)). x ++ behind b) (sym middle)
    ∙ ap (λ (x : List ℕ). lines (x ++ (m ++ first_line b)) ++ behind b) (last_is a))

-- The lines that an edit replaces

-- a file is its front, a range, and its rest
in_three : (file : List ℕ) (start end : ℕ) → start ≤ end → file ≡ take start file ++ (part start end file ++ drop end file)
in_three file start end order =
    sym (ap (λ (l : List ℕ). l ++ (part start end file ++ drop end file)) (sym (take-take start end file order))
    ∙ sym (append_assoc (take start (take end file)) (part start end file) (drop end file))
    ∙ ap (λ (l : List ℕ). l ++ drop end file) (take-append-drop start (take end file))
    ∙ take-append-drop end file)

touched_is : (files : List (List ℕ)) (e : Edit) → e.start ≤ e.end → IsReplacement (get_or files e.file []) (edited_file e files) (touched (get_or files e.file []) e)
touched_is files e order =
    let file = get_or files e.file [] in
    record {
      before = all_but_last (lines (take e.start file));
      after = behind (drop e.end file);
      olds = ap lines (in_three file e.start e.end order) ∙ of_three (take e.start file) (part e.start e.end file) (drop e.end file);
      news = of_three (take e.start file) e.text.items (drop e.end file);
      number = number_is (take e.start file);
    }

-- without the last line of both, if that stays
trimmed : (file edited : List ℕ) (s : Stretch) → 0 < length s.olds → 0 < length s.news → last_of s.olds ≡ last_of s.news → IsReplacement file edited s
    → IsReplacement file edited (record { number = s.number; olds = all_but_last s.olds; news = all_but_last s.news })
trimmed file edited s old new same is =
    record {
      before = is.before;
      after = last_of s.olds ∷ is.after;
      olds = is.olds ∙ ap (λ (l : List (List ℕ)). is.before ++ l) (moved s.olds old);
      news = is.news ∙ ap (λ (l : List (List ℕ)). is.before ++ l) (moved s.news new ∙ ap (λ (x : List ℕ). all_but_last s.news ++ x ∷ is.after) (sym same));
      number = is.number;
    }
  where
    moved : (l : List (List ℕ)) → 0 < length l → l ++ is.after ≡ all_but_last l ++ last_of l ∷ is.after
    moved l some = ap (λ (x : List (List ℕ)). x ++ is.after) (with_last l some) ∙ append_assoc (all_but_last l) (last_of l ∷ []) is.after

replacement_is : (files : List (List ℕ)) (e : Edit) → e.start ≤ e.end → IsReplacement (get_or files e.file []) (edited_file e files) (without_end (touched (get_or files e.file []) e))
replacement_is files e order = by (bytes_eq (last_of s.olds) (last_of s.news)) refl where
  file : List ℕ
  file = get_or files e.file []

  s : Stretch
  s = touched file e

  front : List ℕ
  front = last_line (take e.start file)

  back : List ℕ
  back = first_line (drop e.end file)

  by : (t : Bool) → bytes_eq (last_of s.olds) (last_of s.news) ≡ t
      → IsReplacement file (edited_file e files) (if t then record { number = s.number; olds = all_but_last s.olds; news = all_but_last s.news } else s)
  by true same =
      trimmed file (edited_file e files) s (some_line [] (front ++ (part e.start e.end file ++ back))) (some_line [] (front ++ (e.text.items ++ back))) (bytes_equal (last_of s.olds) (last_of s.news) same)
      (touched_is files e order)
  by false other = touched_is files e order

-- Each change is at its line

-- a line that stands behind others
line_there : (bytes line : List ℕ) (before after : List (List ℕ)) (n : ℕ) → lines bytes ≡ before ++ line ∷ after → n ≡ length before + 1 → IsLine bytes n line
line_there bytes line before after n is number =
    let place : n - 1 ≡ length before = omega (arith, number) in
    (omega (arith, number), ap (slice_get (lines bytes)) place ∙ ap (λ (l : List (List ℕ)). slice_get l (length before)) is ∙ found before)
  where
    found : (xs : List (List ℕ)) → slice_get (xs ++ line ∷ after) (length xs) ≡ Some line
    found [] = refl
    found (x ∷ xs) = found xs

-- the next line stands behind one more
next_there : (bytes line : List ℕ) (before after : List (List ℕ)) → lines bytes ≡ before ++ line ∷ after → lines bytes ≡ (before ++ line ∷ []) ++ after
next_there bytes line before after is = is ∙ sym (append_assoc before (line ∷ []) after)

next_number : (line : List ℕ) (before : List (List ℕ)) (n : ℕ) → n ≡ length before + 1 → suc n ≡ length (before ++ line ∷ []) + 1
next_number line before n number = omega (arith, number, length-append before (line ∷ []))

module _ (file edited : List ℕ) (after : List (List ℕ)) where
  -- lines that come, and lines that go
  comes_there : (n : ℕ) (news before : List (List ℕ)) → lines edited ≡ before ++ (news ++ after) → n ≡ length before + 1 → AllByRecursion (IsChange file edited) (changes n [] news)
  comes_there n [] before is number = tt
  comes_there n (new ∷ news) before is number = (
    line_there edited new before (news ++ after) n is number,
    comes_there (suc n) news (before ++ new ∷ []) (next_there edited new before (news ++ after) is) (next_number new before n number),
  )

  goes_there : (n : ℕ) (olds before : List (List ℕ)) → lines file ≡ before ++ (olds ++ after) → n ≡ length before + 1 → AllByRecursion (IsChange file edited) (changes n olds [])
  goes_there n [] before is number = tt
  goes_there n (old ∷ olds) before is number = (
    line_there file old before (olds ++ after) n is number,
    goes_there (suc n) olds (before ++ old ∷ []) (next_there file old before (olds ++ after) is) (next_number old before n number),
  )

  -- lines that become others
  one_there : (n : ℕ) (old new : List ℕ) (rest : List Change) → IsLine file n old → IsLine edited n new → AllByRecursion (IsChange file edited) rest
      → AllByRecursion (IsChange file edited) (change_at n (Some old) (Some new) ++ rest)
  one_there n old new rest is_old is_new are = by (bytes_eq old new) where
    by : (t : Bool) → AllByRecursion (IsChange file edited) ((if t then [] else becomes n old new ∷ []) ++ rest)
    by true = are
    by false = ((is_old, is_new), are)

  changes_there : (n : ℕ) (olds news front back : List (List ℕ)) → lines file ≡ front ++ (olds ++ after) → lines edited ≡ back ++ (news ++ after)
      → n ≡ length front + 1 → n ≡ length back + 1 → AllByRecursion (IsChange file edited) (changes n olds news)
  changes_there n [] news front back of_file of_edited in_file in_edited = comes_there n news back of_edited in_edited
  changes_there n (old ∷ olds) [] front back of_file of_edited in_file in_edited = goes_there n (old ∷ olds) front of_file in_file
  changes_there n (old ∷ olds) (new ∷ news) front back of_file of_edited in_file in_edited =
      one_there n old new (changes (suc n) olds news) (line_there file old front (olds ++ after) n of_file in_file) (line_there edited new back (news ++ after) n of_edited in_edited)
      (changes_there (suc n) olds news (front ++ old ∷ []) (back ++ new ∷ []) (next_there file old front (olds ++ after) of_file) (next_there edited new back (news ++ after) of_edited)
      (next_number old front n in_file) (next_number new back n in_edited))

changes_stand : (file edited : List ℕ) (s : Stretch) → IsReplacement file edited s → AllByRecursion (IsChange file edited) (changes s.number s.olds s.news)
changes_stand file edited s is = changes_there file edited is.after s.number s.olds s.news is.before is.before is.olds is.news is.number is.number

-- so the lines that are shown of an edit are those that it changes
pub edit_shown : (files : List (List ℕ)) (e : Edit) → IsEdit files e → ShowsEdit files e
edit_shown files e is =
    let file = get_or files e.file [] in
    let shown = without_end (touched file e) in
    let replaced = replacement_is files e is.order in
    record { replaced = replaced; each = changes_stand file (edited_file e files) shown replaced; complete = has_all_changes shown.number shown.olds shown.news }
