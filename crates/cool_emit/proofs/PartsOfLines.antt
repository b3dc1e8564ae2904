-- Lemmas on assembly lines that are a consecutive part of a text and begin after a given number of its lines.
use Rattle.std.proofs.Common.{◌≡◌, ◌∙◌, ℕ, ◌+◌, ◌≤◌, List, ◌++◌, length, take, sym, ap, append_assoc, arith}
use Rattle.std.proofs.lemmas.List.{length-append}
use Rattle.mips_isa.specs.Lines.{Line}
use Rattle.cool_codegen.specs.Spans.{StandsBehind}
use Rattle.cool_emit.proofs.TellingParts.{take_front}

-- the lines behind so many lines of a text are the lines behind these
module _ (text part : List Line) (n : ℕ) (h : StandsBehind text n part) where
  pub front_taken : h.front ≡ take n text
  front_taken = sym (ap (take n) h.whole ∙ ap (λ (k : ℕ). take k (h.front ++ (part ++ h.rest))) (sym h.many) ∙ take_front h.front (part ++ h.rest))

  pub both_taken : take (n + length part) text ≡ h.front ++ part
  both_taken =
      ap (take (n + length part)) (h.whole ∙ sym (append_assoc h.front part h.rest))
      ∙ ap (λ (k : ℕ). take k ((h.front ++ part) ++ h.rest)) (let l = length-append h.front part in let m = h.many in omega arith)
      ∙ take_front (h.front ++ part) h.rest

  pub within : n + length part ≤ length text
  within =
      let l = ap length h.whole ∙ length-append h.front (part ++ h.rest) in
      let r = length-append part h.rest in
      let m = h.many in omega arith
