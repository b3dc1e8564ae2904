-- The run-time routines that report an error with its file and line write the text that the semantics gives for the error.
use Rattle.std.proofs.Common.{◌≡◌, ℕ, ◌<◌, List, [], ◌∷◌, ◌++◌, get_or, false, refl, sym, ap, ◌∙◌, arith, append_assoc}
use Rattle.std.specs.Prelude.{codes, nat_le}
use Rattle.std.specs.Fmt.{decimal, signed_decimal}
use Rattle.mips_isa.specs.Calls.{State as Machine, signed}
use Rattle.cool_syntax.specs.declared.place.Place.{Place}
use Rattle.cool_runtime.specs.Reaches.{Reaches, exits}
use Rattle.cool_runtime.specs.Machines.{Console, EndsWith}
use Rattle.cool_runtime.proofs.Runs.{exits_as}
use Rattle.cool_meaning.specs.Values.{State}
use Rattle.cool_meaning.specs.Meters.{Error}
use Rattle.cool_meaning.specs.SourceRun.{place_text, line, error_text}
use Rattle.cool_simulation.specs.Loadings.{Loading}
use Rattle.cool_simulation.specs.Pictures.{Shows}
use Rattle.cool_simulation.specs.Simulation.{Stopped}

line_printed : (n : ℕ) → n < 2147483648 → signed_decimal (signed n) ≡ decimal n
line_printed n small = let low : nat_le 2147483648 n ≡ false = grind arith in rw low refl

-- the file's name, a colon, the line and the words, which begin with a colon and end with a newline
pub placed_text : (files : List (List ℕ)) (at : Place) (words : List ℕ) → at.line < 2147483648
    → line (place_text files at ++ words) ≡ get_or files at.file [] ++ (codes ":" ++ (signed_decimal (signed at.line) ++ (codes ": " ++ (words ++ 10 ∷ []))))
placed_text files at words small =
    let file = get_or files at.file [] in
    let digits = decimal at.line in
    let front : List ℕ = codes ":" ++ (digits ++ codes ": ") in
    ap (λ (x : List ℕ). x ++ 10 ∷ []) (append_assoc file front words)
    ∙ (append_assoc file (front ++ words) (10 ∷ [])
    ∙ ap (λ (x : List ℕ). file ++ (codes ":" ++ x)) (inner digits words ∙ ap (λ (d : List ℕ). d ++ (codes ": " ++ (words ++ 10 ∷ []))) (sym (line_printed at.line small))))
  where
    inner : (d words : List ℕ) → ((d ++ codes ": ") ++ words) ++ 10 ∷ [] ≡ d ++ (codes ": " ++ (words ++ 10 ∷ []))
    inner d words = ap (λ (x : List ℕ). x ++ 10 ∷ []) (append_assoc d (codes ": ") words) ∙ append_assoc d (codes ": " ++ words) (10 ∷ [])

module _ (l : Loading) where
  -- an end with the text of an error is an end by the error
  pub stops : (e : Error) (st : State) (c : Console) (bytes : List ℕ) (s : Machine) (most : ℕ) → Shows st c → error_text l.table l.files e ≡ bytes → Reaches l.world s 0 most (exits 3 (EndsWith c bytes))
      → Reaches l.world s 0 most (exits 3 (Stopped l e st))
  stops e st c bytes s most shows is h =
      exits_as l.world s 0 most 3 (EndsWith c bytes) (Stopped l e st)
      (λ t ends. record { output = ends.output_is ∙ (ap (λ (o : List ℕ). o ++ bytes) shows.output ∙ ap (λ (b : List ℕ). st.output ++ b) (sym is)); input = ends.input_is ∙ shows.input }) h
