-- A step without output writes no piece to the sink (output stream), and the pieces written by fewer steps are the first of those written by more steps.
use Rattle.std.proofs.Common.{◌≡◌, ℕ, zero, suc, ◌+◌, ◌≤◌, List, [], ◌++◌, length, refl, sym, ap, ◌∙◌, append_assoc, append-nil, arith}
use Rattle.std.specs.Prelude.{◌-◌, take}
use Rattle.std.proofs.Math.Seq.{drop-append_seam, drop-length, take-append_seam}
use Rattle.std.proofs.lemmas.List.{length-append}
use Rattle.cool_ports.specs.SinkPuts.{SinkSeen, pieces_of, PutFront}
use Rattle.cool_ports.proofs.SeenSinks.{seen_is}
use Rattle.cool_eval.specs.Devices.{sink_before, sink_after}
use Rattle.cool_eval.specs.Puts.{written_since, steps_puts}

-- if the output stays the same, there is no piece
pub no_piece_since : (before now : List ℕ) → before ≡ now → pieces_of 64 (written_since before now) ≡ []
no_piece_since before now is =
    ap (λ (xs : List ℕ). pieces_of 64 (written_since xs now)) is ∙ ap (pieces_of 64) (drop-length now)

-- and the sink is as it was
pub sink_still : (first : SinkSeen) (output : List ℕ) → sink_before first output ≡ sink_after first output output
sink_still first output =
    seen_is (sink_before first output) (sink_after first output output) refl
    (sym (append-nil first.puts) ∙ ap (λ (ps : List (List ℕ)). first.puts ++ ps) (sym (no_piece_since output output refl)))

-- the bytes written after an output
pub text_since : (output bytes : List ℕ) → written_since output (output ++ bytes) ≡ bytes
text_since output bytes = drop-append_seam output bytes

-- the bytes before a last text
pub before_text : (output text : List ℕ) → take (length (output ++ text) - length text) (output ++ text) ≡ output
before_text output text =
    let count : length (output ++ text) - length text ≡ length output = omega (arith, length-append output text) in
    ap (λ (n : ℕ). take n (output ++ text)) count ∙ take-append_seam output text

module _ (output : ℕ → List ℕ) where
  -- steps with which the output stays the same put nothing
  pub steps_still : (from n : ℕ) (text : List ℕ) → ((k : ℕ) → output (from + k) ≡ text)
      → steps_puts output (from + n) ≡ steps_puts output from
  steps_still from zero text still =
      let level : from + 0 ≡ from = omega arith in
      ap (steps_puts output) level
  steps_still from (suc n) text still =
      let level : from + suc n ≡ suc (from + n) = omega arith in
      let same : output (from + n) ≡ output (suc (from + n)) = still n ∙ sym (still (suc n)) ∙ ap output level in
      ap (steps_puts output) level
      ∙ (ap (λ (ps : List (List ℕ)). steps_puts output (from + n) ++ ps) (no_piece_since (output (from + n)) (output (suc (from + n))) same)
      ∙ (append-nil (steps_puts output (from + n)) ∙ steps_still from n text still))

  -- the puts of a step more, by its outputs
  pub step_more : (n : ℕ) (before now : List ℕ) → output n ≡ before → output (suc n) ≡ now
      → steps_puts output (suc n) ≡ steps_puts output n ++ pieces_of 64 (written_since before now)
  step_more n before now is then =
      ap (λ (xs : List ℕ). steps_puts output n ++ pieces_of 64 (written_since xs (output (suc n)))) is
      ∙ ap (λ (xs : List ℕ). steps_puts output n ++ pieces_of 64 (written_since before xs)) then

  -- the puts of fewer steps are a front of those of more
  more_steps : (fewer n : ℕ) → (later : List (List ℕ)) × (steps_puts output (fewer + n) ≡ steps_puts output fewer ++ later)
  more_steps fewer zero =
      let level : fewer + 0 ≡ fewer = omega arith in
      ([], ap (steps_puts output) level ∙ sym (append-nil (steps_puts output fewer)))
  more_steps fewer (suc n) =
      let level : fewer + suc n ≡ suc (fewer + n) = omega arith in
      let (later, is) = more_steps fewer n in
      let texts : List (List ℕ) = pieces_of 64 (written_since (output (fewer + n)) (output (suc (fewer + n)))) in (
        later ++ texts,
        ap (steps_puts output) level
            ∙ (ap (λ (ps : List (List ℕ)). ps ++ texts) is ∙ append_assoc (steps_puts output fewer) later texts),
      )

  pub steps_within : (fewer steps : ℕ) → fewer ≤ steps
      → (later : List (List ℕ)) × (steps_puts output steps ≡ steps_puts output fewer ++ later)
  steps_within fewer steps less =
      let level : steps ≡ fewer + (steps - fewer) = omega (arith, less) in
      let (later, is) = more_steps fewer (steps - fewer) in
      (later, ap (steps_puts output) level ∙ is)

-- the same outputs lead to the same puts
pub same_puts : (a b : ℕ → List ℕ) → ((k : ℕ) → a k ≡ b k) → (n : ℕ) → steps_puts a n ≡ steps_puts b n
same_puts a b same zero = refl
same_puts a b same (suc n) =
    ap (λ (ps : List (List ℕ)). ps ++ pieces_of 64 (written_since (a n) (a (suc n)))) (same_puts a b same n)
    ∙ sym (step_more b n (a n) (a (suc n)) (sym (same n)) (sym (same (suc n))))

-- a front of a front
pub front_longer : (before texts more after : List (List ℕ)) → PutFront before texts after
    → PutFront before (texts ++ more) after
front_longer before texts more after (rest, h) = (
  rest ++ more,
  record { front = h.front; cut = ap (λ (ps : List (List ℕ)). ps ++ more) h.cut ∙ append_assoc h.front rest more; put = h.put },
)

-- a front behind what was put whole
pub front_behind : (before texts more after : List (List ℕ)) → PutFront (before ++ texts) more after
    → PutFront before (texts ++ more) after
front_behind before texts more after (rest, h) = (
  rest,
  record {
    front = texts ++ h.front;
    cut = ap (λ (ps : List (List ℕ)). texts ++ ps) h.cut ∙ sym (append_assoc texts h.front rest);
    put = h.put ∙ append_assoc before texts h.front;
  },
)
