-- If files differ from earlier ones only in one feature, the tokens before and after this feature are the same, and those of the feature differ.
use Rattle.std.proofs.Common.{◌≡◌, ◌≢◌, ◌⊎◌, ℕ, zero, suc, ◌+◌, ◌-◌, ◌<◌, ◌≤◌, List, [], ◌∷◌, ◌++◌, length, get_or, take, drop, Option, Some, None, is_some, MatchOption, true≢false, false, refl, sym, ap, ◌∙◌, subst, arith, inl, inr}
use Rattle.std.specs.Prelude.{slice_get}
use Rattle.std.specs.List.{slice_range}
use Rattle.std.proofs.lemmas.Bool.{cases_eq, cases_lt}
use Rattle.std.proofs.lemmas.List.{map-append, drop-drop, take-take, take-append-drop, take-map, drop-map}
use Rattle.std.proofs.lemmas.Option.{get_or_from_slice_get, slice_get_within}
use Rattle.cool_syntax.specs.declared.token.Token.{Token}
use Rattle.cool_syntax.specs.declared.token.TokenKind.{TokenKind}
use Rattle.cool_lexer.specs.declared.lexer.Lexed.{Lexed}
use Rattle.cool_session.specs.declared.runs.Run.{Run}
use Rattle.cool_session.specs.Differing.{AreSameFrom, IsAround, IsFirstOther, IsSameFile}
use Rattle.cool_session.specs.Edits.{DifferInFeature, SameTokens}
use Rattle.cool_session.specs.FeatureTokens.{kinds}
use Rattle.cool_session.specs.Runs.{bounds_of, file_tokens, IsWithin}
use Rattle.cool_session.proofs.FeaturesKept.{run_within}

-- Files

-- the tokens of a file that is read at its number
pub file_at : (files : List Lexed) (k : ℕ) (d : Lexed) → k < length files → file_tokens files k ≡ (get_or files k d).tokens.items
file_at [] k d less = absurd (omega (arith, less))
file_at (f ∷ files) zero d less = refl
file_at (f ∷ files) (suc k) d less = let fewer : k < length files = omega (arith, less) in file_at files k d fewer

-- one more file that is the same
pub same_next : (before now : List Lexed) (from k : ℕ) → ((j : ℕ) → from ≤ j → j < k → IsSameFile before now j) → IsSameFile before now k
    → (j : ℕ) → from ≤ j → j < k + 1 → IsSameFile before now j
same_next before now from k so here j low high = by (cases_eq j k)
  where
    by : (j ≡ k) ⊎ (j ≡ k → ⊥) → IsSameFile before now j
    by (inl e) = subst (IsSameFile before now) (sym e) here
    by (inr other) = let less : j < k = omega (arith, high, other) in so j low less

-- files that are the same one by one have the same tokens
pub same_files : (before now : List Lexed) → length before ≡ length now → AreSameFrom before now 0 → SameTokens before now
same_files [] [] many h = refl
same_files [] (n ∷ now) many h = absurd (omega (arith, many))
same_files (b ∷ before) [] many h = absurd (omega (arith, many))
same_files (b ∷ before) (n ∷ now) many h =
    let fewer : length before ≡ length now = omega (arith, many) in
    λ i. h 0 (omega arith) i ∷ same_files before now fewer (λ j low. h (suc j) (omega arith)) i

-- the statement if no file was found
pub where_none : {X : Type 0} (P : Type 0) (Q : X → Type 0) (o : Option X) → is_some o ≡ false → MatchOption o P Q → P
where_none P Q None none h = h
where_none P Q (Some x) none h = absurd (true≢false none)

-- Tokens

-- a front that is the same is the same in a part of it
front_less : (m n : ℕ) (xs ys : List Token) → m ≤ n → kinds (take n xs) ≡ kinds (take n ys) → kinds (take m xs) ≡ kinds (take m ys)
front_less m n xs ys less same =
    let kind = λ (t : Token). t.kind in
    ap kinds (sym (take-take m n xs less))
    ∙ (sym (take-map kind m (take n xs))
    ∙ (ap (take m) same
    ∙ (take-map kind m (take n ys)
    ∙ ap kinds (take-take m n ys less))))

-- and what is the same at the end
back_less : (more p q : ℕ) (xs ys : List Token) → kinds (drop p xs) ≡ kinds (drop q ys)
    → kinds (drop (p + more) xs) ≡ kinds (drop (q + more) ys)
back_less more p q xs ys same =
    let kind = λ (t : Token). t.kind in
    ap kinds (sym (drop-drop more p xs))
    ∙ (sym (drop-map kind more (drop p xs))
    ∙ (ap (drop more) same
    ∙ (drop-map kind more (drop q ys)
    ∙ ap kinds (drop-drop more q ys))))

-- tokens are those in front of a run, those of the run and those after it
whole : (xs : List Token) (start end : ℕ) → start ≤ end
    → kinds xs ≡ kinds (take start xs) ++ (kinds (slice_range xs start end) ++ kinds (drop end xs))
whole xs start end less =
    let kind = λ (t : Token). t.kind in
    let place : start + (end - start) ≡ end = omega (arith, less) in
    let rest : slice_range xs start end ++ drop end xs ≡ drop start xs =
    ap (λ (zs : List Token). slice_range xs start end ++ zs) (sym (drop-drop (end - start) start xs ∙ ap (λ (n : ℕ). drop n xs) place))
    ∙ take-append-drop (end - start) (drop start xs) in
    ap kinds (sym (take-append-drop start xs))
    ∙ (map-append kind (take start xs) (drop start xs)
    ∙ ap (λ (ks : List TokenKind). kinds (take start xs) ++ ks)
    (ap kinds (sym rest) ∙ map-append kind (slice_range xs start end) (drop end xs)))

-- The run around what differs

module _ (slice runs : List Run) (file front back many_old many_new number : ℕ) (value : slice ≡ runs)
    (around : IsAround slice file front back many_old many_new number) where
  number_there : slice_get runs number ≡ Some around.run
  number_there = ap (λ (rs : List Run). slice_get rs number) (sym value) ∙ around.there

  -- there is a run of this number
  pub number_within : number < length runs
  number_within = slice_get_within runs number around.run number_there

-- facts about the run that is read there
module _ (before : List Lexed) (slice runs : List Run) (run : Run) (file front back many_new number : ℕ) (xs : List Token)
    (value : slice ≡ runs) (is : runs ≡ bounds_of 0 before) (read : run ≡ get_or runs number run) (old : file_tokens before file ≡ xs)
    (around : IsAround slice file front back (length xs) many_new number) where
  there_now : slice_get runs number ≡ Some around.run
  there_now = number_there slice runs file front back (length xs) many_new number value around

  found : around.run ≡ run
  found = sym (read ∙ get_or_from_slice_get runs number around.run run there_now)

  stands : IsWithin before run
  stands =
      subst (IsWithin before) (sym read)
      (run_within before runs number run is (number_within slice runs file front back (length xs) many_new number value around))

  of_file : run.file ≡ file
  of_file = ap (λ (r : Run). r.file) (sym found) ∙ around.of_file

  -- it ends within the tokens of its file
  pub ends_within : run.end ≤ length xs
  ends_within = subst (λ (ts : List Token). run.end ≤ length ts) (ap (file_tokens before) of_file ∙ old) stands.end

  starts : run.start ≤ front
  starts = subst (λ (r : Run). r.start ≤ front) found around.starts

  ends : length xs ≤ run.end + back
  ends = subst (λ (r : Run). length xs ≤ r.end + back) found around.ends

  -- the tokens in front of it and after it do not overlap now
  pub apart : run.start + length xs ≤ many_new + run.end
  apart = subst (λ (r : Run). r.start + length xs ≤ many_new + r.end) found around.apart

  there : slice_get (bounds_of 0 before) number ≡ Some run
  there = subst (λ (rs : List Run). slice_get rs number ≡ Some run) is (there_now ∙ ap Some found)

module _ (before now : List Lexed) (slice runs : List Run) (run : Run) (file front back number : ℕ) (xs ys : List Token)
    (value : slice ≡ runs) (is : runs ≡ bounds_of 0 before) (read : run ≡ get_or runs number run)
    (old : file_tokens before file ≡ xs) (new : file_tokens now file ≡ ys)
    (around : IsAround slice file front back (length xs) (length ys) number)
    (first : IsFirstOther before now 0 file) (last : AreSameFrom before now (file + 1)) (many : length before ≡ length now)
    (in_front : kinds (take front xs) ≡ kinds (take front ys))
    (at_end : kinds (drop (length xs - back) xs) ≡ kinds (drop (length ys - back) ys))
    (in_old : back ≤ length xs) (in_new : back ≤ length ys) where
  file_is : run.file ≡ file
  file_is = of_file before slice runs run file front back (length ys) number xs value is read old around

  within : IsWithin before run
  within = stands before slice runs run file front back (length ys) number xs value is read old around

  few : run.end ≤ length xs
  few = ends_within before slice runs run file front back (length ys) number xs value is read old around

  low : run.start ≤ front
  low = starts before slice runs run file front back (length ys) number xs value is read old around

  high : length xs ≤ run.end + back
  high = ends before slice runs run file front back (length ys) number xs value is read old around

  wide : run.start + length xs ≤ length ys + run.end
  wide = apart before slice runs run file front back (length ys) number xs value is read old around

  -- the position where the run ends now
  abbrev pub end : ℕ
  end = length ys + run.end - length xs

  old_there : file_tokens before run.file ≡ xs
  old_there = ap (file_tokens before) file_is ∙ old

  new_there : file_tokens now run.file ≡ ys
  new_there = ap (file_tokens now) file_is ∙ new

  front_is : kinds (take run.start ys) ≡ kinds (take run.start xs)
  front_is = sym (front_less run.start front xs ys low in_front)

  back_is : kinds (drop end ys) ≡ kinds (drop run.end xs)
  back_is =
      let more = run.end + back - length xs in
      let p : length xs - back + more ≡ run.end = omega (arith, in_old, high) in
      let q : length ys - back + more ≡ length ys + run.end - length xs = omega (arith, in_new, high) in
      ap (λ (n : ℕ). kinds (drop n ys)) (sym q)
      ∙ (sym (back_less more (length xs - back) (length ys - back) xs ys at_end)
      ∙ ap (λ (n : ℕ). kinds (drop n xs)) p)

  ordered : run.start ≤ end
  ordered = omega (arith, wide)

  differs : kinds (slice_range ys run.start end) ≢ kinds (slice_range xs run.start run.end)
  differs e =
      first.other
      (ap kinds new
      ∙ (whole ys run.start end ordered
      ∙ ((λ i. front_is i ++ (e i ++ back_is i))
      ∙ (sym (whole xs run.start run.end within.start)
      ∙ sym (ap kinds old)))))

  other_file : (k : ℕ) → k ≢ run.file → kinds (file_tokens now k) ≡ kinds (file_tokens before k)
  other_file k apart_from = by (cases_lt k file)
    where
      not_it : k ≡ file → ⊥
      not_it e = apart_from (e ∙ sym file_is)

      by : (k < file) ⊎ (file ≤ k) → kinds (file_tokens now k) ≡ kinds (file_tokens before k)
      by (inl less) = first.same k (omega arith) less
      by (inr more) = let past : file + 1 ≤ k = omega (arith, more, not_it) in last k past

  -- files that are the same outside one run differ only in its feature
  pub differ_in_feature : DifferInFeature before now number (record { file = run.file; start = run.start; end = end })
  differ_in_feature = record {
    old = run;
    there = there before slice runs run file front back (length ys) number xs value is read old around;
    within = record {
      file = subst (λ (n : ℕ). run.file < n) many within.file;
      start = ordered;
      end = subst (λ (ts : List Token). end ≤ length ts) (sym new_there) (omega (arith, few));
    };
    differ = record {
      file = refl;
      start = refl;
      front =
          ap (λ (ts : List Token). kinds (take run.start ts)) new_there
          ∙ (front_is ∙ sym (ap (λ (ts : List Token). kinds (take run.start ts)) old_there));
      back =
          ap (λ (ts : List Token). kinds (drop end ts)) new_there
          ∙ (back_is ∙ sym (ap (λ (ts : List Token). kinds (drop run.end ts)) old_there));
      other = λ e. differs
          (sym (ap (λ (ts : List Token). kinds (slice_range ts run.start end)) new_there)
          ∙ (e ∙ ap (λ (ts : List Token). kinds (slice_range ts run.start run.end)) old_there));
    };
    many = sym many;
    others = other_file;
  }
