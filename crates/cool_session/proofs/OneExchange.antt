-- Each input has at most one session, which consists of its replies, its end, and the rest of the input. The replies of a part of a session are a prefix of
-- those of the session.
use Rattle.std.proofs.Common.{◌≡◌, ◌≢◌, ◌⊎◌, inl, inr, ℕ, suc, ◌+◌, ◌<◌, ◌≤◌, true, false, List, [], ◌∷◌, ◌++◌, length, take, drop, replicate, length-append, append-nil, append_assoc, refl, sym, ◌∙◌, ap, subst, arith}
use Rattle.std.specs.Prelude.{nat_lt, if◌then◌else◌, Option, Some, None, Result, Ok, Err}
use Rattle.std.proofs.Math.Seq.{drop-append_seam}
use Rattle.std.proofs.Math.Seq.{take-append_seam}
use Rattle.cool_faults.specs.declared.fault.Fault.{Fault}
use Rattle.cool_faults.specs.Verdicts.{IsFaultList}
use Rattle.cool_faults.proofs.OneVerdict.{one_list}
use Rattle.cool_session.specs.declared.ending.Ending.{Ending}
use Rattle.cool_session.specs.declared.ending.Ending.TheVariants.{Over, BadCommand, EndsInFile, TooLarge}
use Rattle.cool_session.specs.declared.error.SetError.{SetError}
use Rattle.cool_session.specs.Commands.{Command, command, File, Drop, Check, Quit}
use Rattle.cool_session.specs.Exchanges.{Head, Line, NoLine, head, Asks, Does, sets, drops, checks, EndsAt, over, quits, no_line, no_command, no_file, cut, large, Did, none, more, Exchange, Part}
use Rattle.cool_session.specs.Files.{set_room}
use Rattle.cool_session.specs.Fresh.{Base, Differ, IsFresh, Types}
use Rattle.cool_session.specs.Fresh as fresh
use Rattle.cool_session.specs.Held.{Held, with_file, without_file, with_base}
use Rattle.cool_session.specs.Replies.{reply_lines}
use Rattle.cool_session.proofs.ChecksOfFiles.{one_base}
use Rattle.std.proofs.lemmas.Bool.{cases_lt}

-- The data stored for files is unique

one_differ : {X : Type 0} (xs ys xs' ys' : List X) (n m : ℕ) → Differ xs ys n → Differ xs' ys' m → xs ≡ xs' → ys ≡ ys' → n ≡ m
one_differ xs ys xs' ys' n m fresh.none fresh.none p q = refl
one_differ xs ys xs' ys' n m fresh.none (fresh.same x us vs k e) p q = absurd cc
one_differ xs ys xs' ys' n m fresh.none (fresh.other x y us vs k ne e) p q = absurd cc
one_differ xs ys xs' ys' n m (fresh.same x us vs k d) fresh.none p q = absurd cc
one_differ xs ys xs' ys' n m (fresh.same x us vs k d) (fresh.same z us' vs' j e) p q =
    let first : us ≡ us' = cc in
    let second : vs ≡ vs' = cc in
    one_differ us vs us' vs' k j d e first second
one_differ xs ys xs' ys' n m (fresh.same x us vs k d) (fresh.other z y us' vs' j ne e) p q =
    let equal : z ≡ y = cc in absurd (ne equal)
one_differ xs ys xs' ys' n m (fresh.other x y us vs k ne d) fresh.none p q = absurd cc
one_differ xs ys xs' ys' n m (fresh.other x y us vs k ne d) (fresh.same z us' vs' j e) p q =
    let equal : x ≡ y = cc in absurd (ne equal)
one_differ xs ys xs' ys' n m (fresh.other x y us vs k ne d) (fresh.other z w us' vs' j ne' e) p q =
    let first : us ≡ us' = cc in
    let second : vs ≡ vs' = cc in
    ap suc (one_differ us vs us' vs' k j d e first second)

one_fresh : (now : Base) (base : Option Base) (n m : ℕ) → IsFresh now base n → IsFresh now base m → n ≡ m
one_fresh now base n m fresh.first fresh.first = refl
one_fresh now base n m (fresh.signed_anew old other) (fresh.signed_anew old' other') = refl
one_fresh now base n m (fresh.signed_anew old other) (fresh.edited old' k same d) = absurd (other same)
one_fresh now base n m (fresh.edited old k same d) (fresh.signed_anew old' other) = absurd (other same)
one_fresh now base n m (fresh.edited old k same d) (fresh.edited old' j same' e) = one_differ _ _ _ _ k j d e refl refl

one_types : (files : List (List ℕ)) (base : Option Base) (n m : ℕ) (b c : Option Base) → Types files base n b → Types files base m c
    → (n ≡ m) × (b ≡ c)
one_types files base n m b c (fresh.typed now k t f) (fresh.typed now' j t' f') =
    let same : now ≡ now' = one_base files now now' t t' in
    (one_fresh now' base k j (subst (λ (x : Base). IsFresh x base k) same f) f', ap Some same)
one_types files base n m b c (fresh.typed now k t f) (fresh.untyped never) = absurd (never now t)
one_types files base n m b c (fresh.untyped never) (fresh.typed now k t f) = absurd (never now t)
one_types files base n m b c (fresh.untyped never) (fresh.untyped never') = (refl, refl)

-- The head of an input: nothing, no line, a line that asks nothing, or a command; and the input after it
data Turn : Type 0 where
  Nothing : Turn
  Broken : List ℕ → Turn
  Unknown : List ℕ → Turn
  Asked : Command → List ℕ → Turn

asked_turn : Option Command → List ℕ → Turn
asked_turn None rest = Unknown rest
asked_turn (Some c) rest = Asked c rest

head_turn : Head → Turn
head_turn (Line line rest) = asked_turn (command line) rest
head_turn (NoLine rest) = Broken rest

turn : List ℕ → Turn
turn [] = Nothing
turn (b ∷ bs) = head_turn (head (b ∷ bs))

no_head : (line rest : List ℕ) → head [] ≡ Line line rest → ⊥
unfolding head
no_head line rest e = absurd cc

asks_turn : (input : List ℕ) (what : Option Command) (rest : List ℕ) → Asks input what rest → turn input ≡ asked_turn what rest
unfolding turn head_turn
asks_turn [] what rest (line, at, is) = absurd (no_head line rest at)
asks_turn (b ∷ bs) what rest (line, at, is) = ap head_turn at ∙ ap (λ (w : Option Command). asked_turn w rest) is

broken_turn : (input rest : List ℕ) → input ≢ [] → head input ≡ NoLine rest → turn input ≡ Broken rest
unfolding turn head_turn
broken_turn [] rest some e = absurd (some refl)
broken_turn (b ∷ bs) rest some e = ap head_turn e

-- the end of a session at a turn, if it ends there
at_check : ℕ → List (List ℕ) → List ℕ → Option (Ending × List ℕ)
at_check number [] rest = Some (BadCommand number, rest)
at_check number (f ∷ fs) rest = None

at_file : ℕ → Result (Unit {0}) SetError → ℕ → List ℕ → Option (Ending × List ℕ)
at_file number (Err e) n rest = Some (TooLarge number, rest)
at_file number (Ok u) n rest = if nat_lt (length rest) n then Some (EndsInFile number, []) else None

at_turn : ℕ → Held → Turn → Option (Ending × List ℕ)
at_turn number h Nothing = Some (Over, [])
at_turn number h (Broken rest) = Some (BadCommand number, rest)
at_turn number h (Unknown rest) = Some (BadCommand number, rest)
at_turn number h (Asked Quit rest) = Some (Over, rest)
at_turn number h (Asked (Drop name) rest) = None
at_turn number h (Asked Check rest) = at_check number h.files rest
at_turn number h (Asked (File name n) rest) = at_file number (set_room h.names h.files name (replicate n 0)) n rest

refused : (number : ℕ) (room : Result (Unit {0}) SetError) (n : ℕ) (rest : List ℕ) → (room ≡ Ok tt → ⊥)
    → at_file number room n rest ≡ Some (TooLarge number, rest)
unfolding at_file
refused number (Ok u) n rest full = absurd (full refl)
refused number (Err e) n rest full = refl

some_files : (number : ℕ) (files : List (List ℕ)) (rest : List ℕ) → files ≢ [] → at_check number files rest ≡ None
unfolding at_check
some_files number [] rest some = absurd (some refl)
some_files number (f ∷ fs) rest some = refl

no_files : (number : ℕ) (files : List (List ℕ)) (rest : List ℕ) → files ≡ [] → at_check number files rest ≡ Some (BadCommand number, rest)
unfolding at_check
no_files number files rest e = rw e refl

cut_file : (number : ℕ) (room : Result (Unit {0}) SetError) (n : ℕ) (rest : List ℕ) → room ≡ Ok tt → length rest < n
    → at_file number room n rest ≡ Some (EndsInFile number, [])
unfolding at_file
cut_file number room n rest fits short = let less : nat_lt (length rest) n ≡ true = grind (arith, short) in rw (fits, less) refl

whole_file : (number : ℕ) (room : Result (Unit {0}) SetError) (n : ℕ) (rest : List ℕ) → room ≡ Ok tt → n ≤ length rest
    → at_file number room n rest ≡ None
unfolding at_file
whole_file number room n rest fits long = let less : nat_lt (length rest) n ≡ false = grind (arith, long) in rw (fits, less) refl

module _ (number : ℕ) (h : Held) (input : List ℕ) where
  ends_at : (end : Ending) (left : List ℕ) → EndsAt number h input end left → at_turn number h (turn input) ≡ Some (end, left)
  unfolding turn asked_turn at_turn
  ends_at end left (over nothing) = rw nothing refl
  ends_at end left (quits rest ask) = rw (asks_turn input (Some Quit) rest ask) refl
  ends_at end left (no_line rest some at) = rw (broken_turn input rest some at) refl
  ends_at end left (no_command rest ask) = rw (asks_turn input None rest ask) refl
  ends_at end left (no_file rest ask nothing) = rw (asks_turn input (Some Check) rest ask) (no_files number h.files rest nothing)
  ends_at end left (cut name n rest ask room short) = rw (asks_turn input (Some (File name n)) rest ask) (cut_file number _ n rest room short)
  ends_at end left (large name n rest ask full) = rw (asks_turn input (Some (File name n)) rest ask) (refused number _ n rest full)

  goes_on : (lines : List (List ℕ)) (h' : Held) (left : List ℕ) → Does h input lines h' left → at_turn number h (turn input) ≡ None
  unfolding turn asked_turn at_turn
  goes_on lines h' left (sets name bytes rest ask room) =
      rw (asks_turn input (Some (File name (length bytes))) (bytes ++ rest) ask)
      (whole_file number _ (length bytes) (bytes ++ rest) room (omega (arith, length-append bytes rest)))
  goes_on lines h' left (drops name rest ask) = rw (asks_turn input (Some (Drop name)) rest ask) refl
  goes_on lines h' left (checks faults typed base rest ask some list types) =
      rw (asks_turn input (Some Check) rest ask) (some_files number h.files rest some)

  one_end : (end end' : Ending) (left left' : List ℕ) → EndsAt number h input end left → EndsAt number h input end' left'
      → (end ≡ end') × (left ≡ left')
  one_end end end' left left' e e' =
      let same : ◌≡◌ {A = Option (Ending × List ℕ)} (Some (end, left)) (Some (end', left')) = sym (ends_at end left e) ∙ ends_at end' left' e' in
      let both : ◌≡◌ {A = Ending × List ℕ} (end, left) (end', left') = cc in
      (ap (λ (x : Ending × List ℕ). x.0) both, ap (λ (x : Ending × List ℕ). x.1) both)

  not_both : (end : Ending) (left : List ℕ) (lines : List (List ℕ)) (h' : Held) (rest : List ℕ) → EndsAt number h input end left
      → Does h input lines h' rest → ⊥
  not_both end left lines h' rest e d =
      let same : ◌≡◌ {A = Option (Ending × List ℕ)} (Some (end, left)) None = sym (ends_at end left e) ∙ goes_on lines h' rest d in
      absurd cc

-- the effect of a turn
Doing : Held → Turn → List (List ℕ) → Held → List ℕ → Type 0
Doing h Nothing lines h' left = ⊥
Doing h (Broken rest) lines h' left = ⊥
Doing h (Unknown rest) lines h' left = ⊥
Doing h (Asked Quit rest) lines h' left = ⊥
Doing h (Asked (Drop name) rest) lines h' left = (lines ≡ []) × (h' ≡ without_file h name) × (left ≡ rest)
Doing h (Asked (File name n) rest) lines h' left = (lines ≡ []) × (h' ≡ with_file h name (take n rest)) × (left ≡ drop n rest)
Doing h (Asked Check rest) lines h' left =
    (faults : List Fault) × (typed : ℕ) × (base : Option Base) × IsFaultList h.files faults × Types h.files h.base typed base
    × (lines ≡ reply_lines h.names faults typed) × (h' ≡ with_base h base) × (left ≡ rest)

does_so : (h : Held) (input : List ℕ) (lines : List (List ℕ)) (h' : Held) (left : List ℕ) → Does h input lines h' left
    → Doing h (turn input) lines h' left
unfolding turn asked_turn Doing
does_so h input lines h' left (sets name bytes rest ask room) =
    rw (asks_turn input (Some (File name (length bytes))) (bytes ++ rest) ask)
    (refl, ap (with_file h name) (sym (take-append_seam bytes rest)), sym (drop-append_seam bytes rest))
does_so h input lines h' left (drops name rest ask) = rw (asks_turn input (Some (Drop name)) rest ask) (refl, refl, refl)
does_so h input lines h' left (checks faults typed base rest ask some list types) =
    rw (asks_turn input (Some Check) rest ask) (faults, typed, base, list, types, refl, refl, refl)

one_doing : (h : Held) (t : Turn) (a b : List (List ℕ)) (h1 h2 : Held) (l1 l2 : List ℕ) → Doing h t a h1 l1 → Doing h t b h2 l2
    → (a ≡ b) × (h1 ≡ h2) × (l1 ≡ l2)
unfolding Doing
one_doing h Nothing a b h1 h2 l1 l2 d e = absurd d
one_doing h (Broken rest) a b h1 h2 l1 l2 d e = absurd d
one_doing h (Unknown rest) a b h1 h2 l1 l2 d e = absurd d
one_doing h (Asked Quit rest) a b h1 h2 l1 l2 d e = absurd d
one_doing h (Asked (Drop name) rest) a b h1 h2 l1 l2 d e = (d.0 ∙ sym e.0, d.1 ∙ sym e.1, d.2 ∙ sym e.2)
one_doing h (Asked (File name n) rest) a b h1 h2 l1 l2 d e = (d.0 ∙ sym e.0, d.1 ∙ sym e.1, d.2 ∙ sym e.2)
one_doing h (Asked Check rest) a b h1 h2 l1 l2 (fs, n, base, list, types, lines, held, left) (gs, m, base', list', types', lines', held', left') =
    let faults : fs ≡ gs = one_list h.files fs gs list list' in
    let kept = one_types h.files h.base n m base base' types types' in (
      lines ∙ ap (λ (xs : List Fault). reply_lines h.names xs n) faults ∙ ap (reply_lines h.names gs) kept.0 ∙ sym lines',
      held ∙ ap (with_base h) kept.1 ∙ sym held',
      left ∙ sym left',
    )

one_did : (input : List ℕ) (n : ℕ) (a : List (List ℕ)) (h : Held) (l : List ℕ) → Did input n a h l
    → (m : ℕ) (b : List (List ℕ)) (k : Held) (r : List ℕ) → Did input m b k r → m ≡ n → (a ≡ b) × (h ≡ k) × (l ≡ r)
one_did input n a h l none m b k r none e = (refl, refl, refl)
one_did input n a h l none m b k r (more i c g mid ls k' r' d does) e = absurd (omega (arith, e))
one_did input n a h l (more i c g mid ls k' r' d does) m b k r none e = absurd (omega (arith, e))
one_did input n a h l (more i c g mid ls h' l' d does) m b k r (more j c' g' mid' ls' k' r' d' does') e =
    let before = one_did input i c g mid d j c' g' mid' d' (omega (arith, e)) in
    let here = subst (λ (x : List ℕ). Does g' x ls h' l') before.2 (subst (λ (x : Held). Does x mid ls h' l') before.1 does) in
    let last = one_doing g' (turn mid') ls ls' h' k' l' r' (does_so g' mid' ls h' l' here) (does_so g' mid' ls' k' r' does') in
    (ap (λ (x : List (List ℕ)). x ++ ls) before.0 ∙ ap (λ (x : List (List ℕ)). c' ++ x) last.0, last.1, last.2)

-- before the last of more commands one of this number was done
record Passed (input : List ℕ) (n : ℕ) : Type 0 where
  replies : List (List ℕ)
  held : Held
  rest : List ℕ
  lines : List (List ℕ)
  later : Held
  left : List ℕ
  did : Did input n replies held rest
  does : Does held rest lines later left

passed : (input : List ℕ) (n m : ℕ) (b : List (List ℕ)) (k : Held) (r : List ℕ) → Did input m b k r → n < m → Passed input n
passed input n m b k r none less = absurd (omega (arith, less))
passed input n m b k r (more i c g mid ls k' r' d does) less = by (cases_lt n i) (λ before. passed input n i c g mid d before)
  where
    by : (n < i) ⊎ (i ≤ n) → (n < i → Passed input n) → Passed input n
    by (inl before) earlier = earlier before
    by (inr here) earlier =
        let same : i ≡ n = omega (arith, here, less) in
        record {
          replies = c;
          held = g;
          rest = mid;
          lines = ls;
          later = k';
          left = r';
          did = subst (λ (x : ℕ). Did input x c g mid) same d;
          does = does;
        }

-- no session ends before another one that goes on
not_before : (input : List ℕ) (a b : List (List ℕ)) (e f : Ending) (l r : List ℕ) → (x : Exchange input a e l) → (y : Exchange input b f r)
    → x.count < y.count → ⊥
not_before input a b e f l r x y less =
    let p = passed input x.count y.count b y.held y.rest y.did less in
    let same = one_did input x.count a x.held x.rest x.did x.count p.replies p.held p.rest p.did refl in
    let ends = subst (λ (m : List ℕ). EndsAt (x.count + 1) p.held m e l) same.2
    (subst (λ (h : Held). EndsAt (x.count + 1) h x.rest e l) same.1 x.ends) in
    not_both (x.count + 1) p.held p.rest e l p.lines p.later p.left ends p.does

pub one_exchange : (input : List ℕ) (a b : List (List ℕ)) (e f : Ending) (l r : List ℕ) → Exchange input a e l → Exchange input b f r
    → (a ≡ b) × (e ≡ f) × (l ≡ r)
one_exchange input a b e f l r x y =
    let low : x.count < y.count → ⊥ = not_before input a b e f l r x y in
    let high : y.count < x.count → ⊥ = not_before input b a f e r l y x in
    let count : y.count ≡ x.count = grind (arith, low, high) in
    let same = one_did input x.count a x.held x.rest x.did y.count b y.held y.rest y.did count in
    let ends = subst (λ (m : List ℕ). EndsAt (x.count + 1) y.held m e l) same.2
    (subst (λ (h : Held). EndsAt (x.count + 1) h x.rest e l) same.1 x.ends) in
    let last = one_end (x.count + 1) y.held y.rest e f l r ends (subst (λ (n : ℕ). EndsAt (n + 1) y.held y.rest f r) count y.ends) in
    (same.0, last.0, last.1)

-- the replies of a front of the commands are a front of the replies
did_front : (input : List ℕ) (n : ℕ) (a : List (List ℕ)) (h : Held) (l : List ℕ) → Did input n a h l
    → (m : ℕ) (b : List (List ℕ)) (k : Held) (r : List ℕ) → Did input m b k r → n ≤ m → (others : List (List ℕ)) × (b ≡ a ++ others)
did_front input n a h l d m b k r none less =
    let same = one_did input n a h l d 0 [] _ input none (omega (arith, less)) in
    ([], sym (append-nil a ∙ same.0))
did_front input n a h l d m b k r (more i c g mid ls k' r' e does) less = by (cases_lt i n) (λ later. did_front input n a h l d i c g mid e later)
  where
    by : (i < n) ⊎ (n ≤ i) → (n ≤ i → (others : List (List ℕ)) × (c ≡ a ++ others)) → (others : List (List ℕ)) × (c ++ ls ≡ a ++ others)
    by (inl last) earlier =
        let same = one_did input n a h l d (i + 1) (c ++ ls) k' r' (more i c g mid ls k' r' e does) (omega (arith, last, less)) in
        ([], sym same.0 ∙ sym (append-nil a))
    by (inr later) earlier =
        let front = earlier later in
        (front.0 ++ ls, ap (λ (x : List (List ℕ)). x ++ ls) front.1 ∙ append_assoc a front.0 ls)

-- the replies of a part of a session are a front of those of the whole
pub part_front : (input : List ℕ) (a b : List (List ℕ)) (e : Ending) (l r : List ℕ) → Part input a l → Exchange input b e r
    → (others : List (List ℕ)) × (b ≡ a ++ others)
part_front input a b e l r x y = by (cases_lt y.count x.count)
  where
    by : (y.count < x.count) ⊎ (x.count ≤ y.count) → (others : List (List ℕ)) × (b ≡ a ++ others)
    by (inl less) =
        let p = passed input y.count x.count a x.held l x.did less in
        let same = one_did input y.count b y.held y.rest y.did y.count p.replies p.held p.rest p.did refl in
        let held = subst (λ (h : Held). EndsAt (y.count + 1) h y.rest e r) same.1 y.ends in
        let ends = subst (λ (m : List ℕ). EndsAt (y.count + 1) p.held m e r) same.2 held in
        absurd (not_both (y.count + 1) p.held p.rest e r p.lines p.later p.left ends p.does)
    by (inr less) = did_front input x.count a x.held l x.did y.count b y.held y.rest y.did less
