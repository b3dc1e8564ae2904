-- The tokens between the begin and the end position that are computed for a feature are the tokens of this feature, and both positions are within its file.
use Rattle.std.proofs.Common.{◌≡◌, ℕ, zero, suc, ◌+◌, ◌-◌, ◌<◌, ◌≤◌, List, [], ◌∷◌, ◌++◌, map, length, get_or, take, drop, Bool, true, false, if◌then◌else◌, refl, sym, ap, ◌∙◌, subst, arith}
use Rattle.std.specs.List.{AllByRecursion, slice_range}
use Rattle.std.proofs.lemmas.List.{map-append, drop-drop}
use Rattle.cool_syntax.specs.declared.token.Token.{Token}
use Rattle.cool_syntax.specs.declared.token.TokenKind.{TokenKind}
use Rattle.cool_syntax.specs.declared.token.TokenKind.TheVariants as kind
use Rattle.cool_syntax.specs.declared.token.Sign.TheVariants as sign
use Rattle.cool_syntax.specs.LexicalStructure.{depth_after, ends_run}
use Rattle.cool_lexer.specs.declared.lexer.Lexed.{Lexed}
use Rattle.cool_session.specs.declared.runs.Run.{Run}
use Rattle.cool_session.specs.Bases.{tokens_of}
use Rattle.cool_session.specs.FeatureTokens.{run_ended, runs_from, runs_of}
use Rattle.cool_session.specs.Runs.{bounds_ended, bounds_from, bounds_in, bounds_of, file_tokens, IsWithin, run_tokens}
use Rattle.lists.proofs.AllItems.{all_append}

-- Pieces of a list

take_next : {X : Type 0} (n : ℕ) (x : X) (xs rest : List X) → drop n xs ≡ x ∷ rest → take (suc n) xs ≡ take n xs ++ x ∷ []
take_next zero x [] rest h = absurd (omega (arith, ap length h))
take_next zero x (y ∷ ys) rest h = ap (λ (z : _). z ∷ []) (ap (λ (zs : List _). get_or zs 0 x) h)
take_next (suc n) x [] rest h = absurd (omega (arith, ap length h))
take_next (suc n) x (y ∷ ys) rest h = ap (λ (zs : List _). y ∷ zs) (take_next n x ys rest h)

drop_next : {X : Type 0} (n : ℕ) (x : X) (xs rest : List X) → drop n xs ≡ x ∷ rest → drop (n + 1) xs ≡ rest
drop_next n x xs rest h = sym (drop-drop 1 n xs) ∙ ap (drop 1) h

-- the length of a list of which this is left
left_length : {X : Type 0} (n : ℕ) (x : X) (xs rest : List X) → drop n xs ≡ x ∷ rest → n < length xs
left_length zero x [] rest h = absurd (omega (arith, ap length h))
left_length zero x (y ∷ ys) rest h = omega arith
left_length (suc n) x [] rest h = absurd (omega (arith, ap length h))
left_length (suc n) x (y ∷ ys) rest h = let less : n < length ys = left_length n x ys rest h in omega (arith, less)

module _ (all : List Token) where
  piece_more : (start at : ℕ) (t : Token) (ts : List Token) → start ≤ at → drop at all ≡ t ∷ ts
      → slice_range all start (at + 1) ≡ slice_range all start at ++ t ∷ []
  piece_more start at t ts le h =
      let place : start + (at - start) ≡ at = omega (arith, le) in
      let here : drop (at - start) (drop start all) ≡ t ∷ ts =
      drop-drop (at - start) start all ∙ (ap (λ (n : ℕ). drop n all) place ∙ h) in
      let size : at + 1 - start ≡ suc (at - start) = omega (arith, le) in
      ap (λ (n : ℕ). take n (drop start all)) size ∙ take_next (at - start) t (drop start all) ts here

  piece_none : (at : ℕ) → slice_range all at at ≡ []
  piece_none at = let none : at - at ≡ 0 = omega arith in ap (λ (n : ℕ). take n (drop at all)) none

  abbrev piece_of : Run → List Token
  piece_of run = slice_range all run.start run.end

  ended : (k : TokenKind) (run : Run) (tokens : List Token) → piece_of run ≡ tokens → map piece_of (bounds_ended k run) ≡ run_ended k tokens
  ended (kind.Sign sign.Semi) run tokens is = ap (λ (ts : List Token). ts ∷ []) is
  ended _ run tokens is = refl

  pieces : (file d start at : ℕ) (ts : List Token) → start ≤ at → drop at all ≡ ts
      → map piece_of (bounds_from file d start at ts) ≡ runs_from d (slice_range all start at) ts
  pieces file d start at [] le h = refl
  pieces file d start at (t ∷ ts) le h =
      by (ends_run t.kind d) (piece_more start at t ts le h)
      (pieces file (depth_after t.kind d) (at + 1) (at + 1) ts (omega arith) (drop_next at t all ts h))
      (pieces file (depth_after t.kind d) start (at + 1) ts (omega (arith, le)) (drop_next at t all ts h))
    where
      by : (b : Bool) → slice_range all start (at + 1) ≡ slice_range all start at ++ t ∷ []
          → map piece_of (bounds_from file (depth_after t.kind d) (at + 1) (at + 1) ts)
          ≡ runs_from (depth_after t.kind d) (slice_range all (at + 1) (at + 1)) ts
          → map piece_of (bounds_from file (depth_after t.kind d) start (at + 1) ts) ≡ runs_from (depth_after t.kind d) (slice_range all start
          (at + 1)) ts
          → map piece_of (if b
          then bounds_ended t.kind (record { file = file; start = start; end = at + 1 }) ++ bounds_from file (depth_after t.kind d) (at + 1)
          (at + 1) ts
          else bounds_from file (depth_after t.kind d) start (at + 1) ts)
          ≡ (if b then run_ended t.kind (slice_range all start at ++ t ∷ []) ++ runs_from (depth_after t.kind d) [] ts
          else runs_from (depth_after t.kind d) (slice_range all start at ++ t ∷ []) ts)
      by true more anew on =
          let run : Run = record { file = file; start = start; end = at + 1 } in
          map-append piece_of (bounds_ended t.kind run) (bounds_from file (depth_after t.kind d) (at + 1) (at + 1) ts)
          ∙ (λ i. ended t.kind run (slice_range all start at ++ t ∷ []) more i
          ++ (anew ∙ ap (λ (now : List Token). runs_from (depth_after t.kind d) now ts) (piece_none (at + 1))) i)
      by false more anew on = on ∙ ap (λ (now : List Token). runs_from (depth_after t.kind d) now ts) more

-- Bounds of a file

-- the bounds stand among the tokens of the file
pub record Stands (all : List Token) (k : ℕ) (run : Run) : Type 0 where
  pub file : run.file ≡ k
  pub start : run.start ≤ run.end
  pub end : run.end ≤ length all

ended_stands : (all : List Token) (file : ℕ) (k : TokenKind) (run : Run) → Stands all file run → AllByRecursion (Stands all file) (bounds_ended k run)
ended_stands all file (kind.Sign sign.Semi) run h = (h, tt)
ended_stands all file _ run h = tt

pub stand : (all : List Token) (file d start at : ℕ) (ts : List Token) → start ≤ at → drop at all ≡ ts
    → AllByRecursion (Stands all file) (bounds_from file d start at ts)
stand all file d start at [] le h = tt
stand all file d start at (t ∷ ts) le h =
    by (ends_run t.kind d)
    (stand all file (depth_after t.kind d) (at + 1) (at + 1) ts (omega arith) (drop_next at t all ts h))
    (stand all file (depth_after t.kind d) start (at + 1) ts (omega (arith, le)) (drop_next at t all ts h))
  where
    by : (b : Bool) → AllByRecursion (Stands all file) (bounds_from file (depth_after t.kind d) (at + 1) (at + 1) ts)
        → AllByRecursion (Stands all file) (bounds_from file (depth_after t.kind d) start (at + 1) ts)
        → AllByRecursion (Stands all file) (if b
        then bounds_ended t.kind (record { file = file; start = start; end = at + 1 }) ++ bounds_from file (depth_after t.kind d) (at + 1) (at + 1) ts
        else bounds_from file (depth_after t.kind d) start (at + 1) ts)
    by true anew on =
        let run : Run = record { file = file; start = start; end = at + 1 } in
        let within : at + 1 ≤ length all = omega (arith, left_length at t all ts h) in
        all_append (Stands all file) (bounds_ended t.kind run) _
        (ended_stands all file t.kind run (record { file = refl; start = omega (arith, le); end = within })) anew
    by false anew on = on

-- Bounds of files

file_there : (k : ℕ) (files : List Lexed) (l : Lexed) (rest : List Lexed) → drop k files ≡ l ∷ rest → file_tokens files k ≡ l.tokens.items
file_there zero [] l rest h = absurd (omega (arith, ap length h))
file_there zero (f ∷ files) l rest h = ap (λ (ls : List Lexed). (get_or ls 0 l).tokens.items) h
file_there (suc k) [] l rest h = absurd (omega (arith, ap length h))
file_there (suc k) (f ∷ files) l rest h = file_there k files l rest h

module _ (files : List Lexed) where
  same_pieces : (all : List Token) (k : ℕ) (runs : List Run) → file_tokens files k ≡ all → AllByRecursion (Stands all k) runs
      → map (run_tokens files) runs ≡ map (piece_of all) runs
  same_pieces all k [] there h = refl
  same_pieces all k (run ∷ runs) there (h, hs) =
      λ i. slice_range ((ap (file_tokens files) h.file ∙ there) i) run.start run.end ∷ same_pieces all k runs there hs i

  stands_within : (all : List Token) (k : ℕ) (runs : List Run) → k < length files → file_tokens files k ≡ all → AllByRecursion (Stands all k) runs
      → AllByRecursion (IsWithin files) runs
  stands_within all k [] less there h = tt
  stands_within all k (run ∷ runs) less there (h, hs) = (
    record {
      file = subst (λ (n : ℕ). n < length files) (sym h.file) less;
      start = h.start;
      end = subst (λ (ts : List Token). run.end ≤ length ts) (sym (ap (file_tokens files) h.file ∙ there)) h.end;
    },
    stands_within all k runs less there hs,
  )

  tokens_there : (k : ℕ) (left : List Lexed) → drop k files ≡ left → map (run_tokens files) (bounds_of k left) ≡ runs_of (tokens_of left)
  tokens_there k [] h = refl
  tokens_there k (l ∷ ls) h =
      let all = l.tokens.items in
      map-append (run_tokens files) (bounds_in k all) (bounds_of (k + 1) ls)
      ∙ (λ i. (same_pieces all k (bounds_in k all) (file_there k files l ls h) (stand all k 0 0 0 all (omega arith) refl)
      ∙ pieces all k 0 0 0 all (omega arith) refl) i ++ tokens_there (k + 1) ls (drop_next k l files ls h) i)

  within_there : (k : ℕ) (left : List Lexed) → drop k files ≡ left → AllByRecursion (IsWithin files) (bounds_of k left)
  within_there k [] h = tt
  within_there k (l ∷ ls) h =
      let all = l.tokens.items in
      all_append (IsWithin files) (bounds_in k all) (bounds_of (k + 1) ls)
      (stands_within all k (bounds_in k all) (left_length k l files ls h) (file_there k files l ls h) (stand all k 0 0 0 all (omega arith) refl))
      (within_there (k + 1) ls (drop_next k l files ls h))

  -- the tokens between the bounds are the runs
  pub tokens_of_bounds : map (run_tokens files) (bounds_of 0 files) ≡ runs_of (tokens_of files)
  tokens_of_bounds = tokens_there 0 files refl

  -- the bounds stand in the files
  pub bounds_within : AllByRecursion (IsWithin files) (bounds_of 0 files)
  bounds_within = within_there 0 files refl
