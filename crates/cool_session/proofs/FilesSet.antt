-- A file can be set exactly if the number of files and the total number of bytes are then within the limits. The total is the old one plus the new bytes, less
-- those of a replaced file.
use Rattle.std.proofs.Common.{◌≡◌, true≢false, is_ok, is_some, subst, not, bytes_eq, if◌then◌else◌, Result, ℕ, zero, suc, ◌+◌, ◌<◌, ◌≤◌, Bool, true, false, List, [], ◌∷◌, ◌++◌, map, length, get_or, slice_set, Option, Some, None, IfSome, unwrap_or, ap, sym, ◌∙◌, refl, arith}
use Rattle.std.specs.Prelude.{remove, nat_lt, Ok, Err}
use Rattle.std.proofs.lemmas.Slice.Eq.{bytes_eq-Decides}
use Rattle.std.proofs.lemmas.List.{length-set, length_push}
use Rattle.cool_syntax.specs.declared.TheConstants.{MOST_FILES, MOST_SOURCE_BYTES}
use Rattle.cool_faults.specs.Files.{total}
use Rattle.cool_session.specs.declared.error.SetError.{SetError}
use Rattle.cool_session.specs.declared.error.SetError.TheVariants.{TooMany, TooLarge}
use Rattle.cool_session.specs.Files.{placed, length_at, position_from, position, room, set_room}
use Rattle.cool_faults.proofs.FileSizes.{total-push}

pub removed_map : {X Y : Type 0} (f : X → Y) (xs : List X) (k : ℕ) → map f (remove xs k) ≡ remove (map f xs) k
removed_map f [] zero = refl
removed_map f [] (suc k) = refl
removed_map f (x ∷ xs) zero = refl
removed_map f (x ∷ xs) (suc k) = ap (λ ys. f x ∷ ys) (removed_map f xs k)

pub removed_less : (fs : List (List ℕ)) (k : ℕ) → total (remove fs k) ≤ total fs
removed_less [] zero = omega arith
removed_less [] (suc k) = omega arith
removed_less (f ∷ fs) zero = omega arith
removed_less (f ∷ fs) (suc k) = omega (arith, removed_less fs k)

set_total : (fs : List (List ℕ)) (k : ℕ) (b : List ℕ) → k < length fs → total (slice_set fs k b) + length (get_or fs k []) ≡ total fs + length b
set_total [] k b h = absurd (omega (arith, h))
set_total (f ∷ fs) zero b h = omega arith
set_total (f ∷ fs) (suc k) b h = let less : k < length fs = omega (arith, h) in omega (arith, set_total fs k b less)

-- the bytes together with those of the file that was there are the bytes before with the new ones
pub placed_total : (place : Option ℕ) (fs : List (List ℕ)) (b : List ℕ) → IfSome place (λ k. k < length fs)
    → total (placed place fs b) + unwrap_or (length_at fs place) 0 ≡ total fs + length b
placed_total None fs b h = omega (arith, total-push fs b)
placed_total (Some k) fs b h = set_total fs k b h

at_most : (fs : List (List ℕ)) (k : ℕ) → length (get_or fs k []) ≤ total fs
at_most [] k = omega arith
at_most (f ∷ fs) zero = omega arith
at_most (f ∷ fs) (suc k) = omega (arith, at_most fs k)

pub length_within : (place : Option ℕ) (fs : List (List ℕ)) → unwrap_or (length_at fs place) 0 ≤ total fs
length_within None fs = omega arith
length_within (Some k) fs = at_most fs k

pub not_held : (place : Option ℕ) (b : Bool) → is_some place ≡ not b → b ≡ true → place ≡ None
not_held None b e h = refl
not_held (Some k) b e h = absurd (true≢false (e ∙ ap not h))

pub is_held : (place : Option ℕ) (b : Bool) → is_some place ≡ not b → b ≡ false → place ≡ None → ⊥
is_held None b e h n = true≢false (sym (e ∙ ap not h))
is_held (Some k) b e h n = true≢false (ap is_some n)

-- Whether there is room, by the number of names and the bytes together

room_many : (ns fs : List (List ℕ)) → MOST_FILES < length ns → room ns fs ≡ Err TooMany
room_many ns fs h = let e : nat_lt MOST_FILES (length ns) ≡ true = grind (arith, h) in rw e refl

room_large : (ns fs : List (List ℕ)) → length ns ≤ MOST_FILES → MOST_SOURCE_BYTES < total fs → room ns fs ≡ Err TooLarge
room_large ns fs few h =
    let e : nat_lt MOST_FILES (length ns) ≡ false = grind (arith, few) in
    let g : nat_lt MOST_SOURCE_BYTES (total fs) ≡ true = grind (arith, h) in rw (e, g) refl

room_enough : (ns fs : List (List ℕ)) → length ns ≤ MOST_FILES → total fs ≤ MOST_SOURCE_BYTES → room ns fs ≡ Ok tt
room_enough ns fs few h =
    let e : nat_lt MOST_FILES (length ns) ≡ false = grind (arith, few) in
    let g : nat_lt MOST_SOURCE_BYTES (total fs) ≡ false = grind (arith, h) in rw (e, g) refl

refused : (e : SetError) → ◌≡◌ {A = Result (Unit {0}) SetError} (Err e) (Ok tt) → ⊥
refused e h = true≢false (sym (ap is_ok h))

-- if there is room, so few files have so few bytes
room_within : (ns fs : List (List ℕ)) → room ns fs ≡ Ok tt → (length ns ≤ MOST_FILES) × (total fs ≤ MOST_SOURCE_BYTES)
room_within ns fs e =
    let many : MOST_FILES < length ns → ⊥ = λ h. refused TooMany (sym (room_many ns fs h) ∙ e) in
    let few : length ns ≤ MOST_FILES = grind (arith, many) in
    let large : MOST_SOURCE_BYTES < total fs → ⊥ = λ h. refused TooLarge (sym (room_large ns fs few h) ∙ e) in
    (few, grind (arith, large))

-- as many names as before, or one more
placed_few : {X : Type 0} (place : Option ℕ) (xs : List X) (x : X) (most : ℕ) → length xs ≤ most → (place ≡ None → length xs ≡ most → ⊥)
    → length (placed place xs x) ≤ most
placed_few None xs x most h g = by_size (length xs) refl
  where
    by_size : (n : ℕ) → length xs ≡ n → length (xs ++ x ∷ []) ≤ most
    by_size n e = let other : length xs ≡ most → ⊥ = g refl in grind (arith, length_push xs x, other, h)
placed_few (Some k) xs x most h g = omega (arith, length-set xs k x, h)

module _ (names files : List (List ℕ)) (name bytes : List ℕ) (place : Option ℕ) (is : place ≡ position names name) where
  pub too_many : place ≡ None → length names ≡ MOST_FILES → set_room names files name bytes ≡ Err TooMany
  unfolding set_room
  too_many e h = rw (sym is, e) (room_many (names ++ name ∷ []) _ (omega (arith, length_push names name, h)))

  pub too_large : length names ≤ MOST_FILES → (place ≡ None → length names ≡ MOST_FILES → ⊥) → IfSome place (λ k. k < length files)
      → MOST_SOURCE_BYTES + unwrap_or (length_at files place) 0 < total files + length bytes → set_room names files name bytes ≡ Err TooLarge
  unfolding set_room
  too_large few more within h =
      rw (sym is)
      (room_large (placed place names name) (placed place files bytes) (placed_few place names name MOST_FILES few more)
      (omega (arith, placed_total place files bytes within, h)))

  pub enough : length names ≤ MOST_FILES → (place ≡ None → length names ≡ MOST_FILES → ⊥) → IfSome place (λ k. k < length files)
      → total files + length bytes ≤ MOST_SOURCE_BYTES + unwrap_or (length_at files place) 0 → set_room names files name bytes ≡ Ok tt
  unfolding set_room
  enough few more within h =
      rw (sym is)
      (room_enough (placed place names name) (placed place files bytes) (placed_few place names name MOST_FILES few more)
      (omega (arith, placed_total place files bytes within, h)))

  -- there was room
  pub fits : set_room names files name bytes ≡ Ok tt
      → (length (placed place names name) ≤ MOST_FILES) × (total (placed place files bytes) ≤ MOST_SOURCE_BYTES)
  unfolding set_room
  fits h = room_within (placed place names name) (placed place files bytes) (rw is h)

-- At the position of a name stands the name

held_from : (i : ℕ) (ns : List (List ℕ)) (name : List ℕ) (j : ℕ) → position_from i ns name ≡ Some j
    → (k : ℕ) × (j ≡ i + k) × (slice_set ns k name ≡ ns)
held_from i [] name j e = absurd (true≢false (sym (ap is_some e)))
held_from i (n ∷ ns) name j e = by (bytes_eq n name) refl (λ later. held_from (i + 1) ns name j later)
  where
    by : (b : Bool) → bytes_eq n name ≡ b → (position_from (i + 1) ns name ≡ Some j → (k : ℕ) × (j ≡ i + 1 + k) × (slice_set ns k name ≡ ns))
        → (k : ℕ) × (j ≡ i + k) × (slice_set (n ∷ ns) k name ≡ n ∷ ns)
    by true h behind =
        let here : ◌≡◌ {A = Option ℕ} (Some i) (Some j) = subst (λ (b : Bool). (if b then Some i else position_from (i + 1) ns name) ≡ Some j) h e
        in
        let same : i ≡ j = ap (λ (o : Option ℕ). unwrap_or o 0) here in
        (0, omega (arith, same), ap (λ (m : List ℕ). m ∷ ns) (sym ((bytes_eq-Decides n name).0 h)))
    by false h behind =
        let later : position_from (i + 1) ns name ≡ Some j =
        subst (λ (b : Bool). (if b then Some i else position_from (i + 1) ns name) ≡ Some j) h e in
        let (k, at, same) = behind later in
        (suc k, omega (arith, at), ap (λ (ms : List (List ℕ)). n ∷ ms) same)

pub held : (ns : List (List ℕ)) (name : List ℕ) (j : ℕ) → position ns name ≡ Some j → slice_set ns j name ≡ ns
held ns name j e =
    let (k, at, same) = held_from 0 ns name j e in
    let there : k ≡ j = omega (arith, at) in
    subst (λ (m : ℕ). slice_set ns m name ≡ ns) there same

-- Whether there is room depends only on the number of bytes

set_size : (fs : List (List ℕ)) (k : ℕ) (a b : List ℕ) → length a ≡ length b → total (slice_set fs k a) ≡ total (slice_set fs k b)
set_size [] zero a b e = refl
set_size [] (suc k) a b e = refl
set_size (f ∷ fs) zero a b e = ap (λ (n : ℕ). n + total fs) e
set_size (f ∷ fs) (suc k) a b e = ap (λ (n : ℕ). length f + n) (set_size fs k a b e)

placed_size : (place : Option ℕ) (fs : List (List ℕ)) (a b : List ℕ) → length a ≡ length b → total (placed place fs a) ≡ total (placed place fs b)
placed_size None fs a b e = omega (arith, total-push fs a, total-push fs b, e)
placed_size (Some k) fs a b e = set_size fs k a b e

room_by_total : (ns fs gs : List (List ℕ)) → total fs ≡ total gs → room ns fs ≡ room ns gs
room_by_total ns fs gs e = rw e refl

pub room_by_length : (names files : List (List ℕ)) (name a b : List ℕ) → length a ≡ length b
    → set_room names files name a ≡ set_room names files name b
unfolding set_room
room_by_length names files name a b e =
    room_by_total (placed (position names name) names name) _ _ (placed_size (position names name) files a b e)
