-- If the rest of a text begins with a blank, the lexer's step over this one byte keeps the tokens and the line, and moves the location by one byte.
use Rattle.std.proofs.Common.{rules, ◌≡◌, refl, sym, subst, ℕ, ◌+◌, List, [], ◌∷◌, get_or}
use Rattle.cool_syntax.specs.Lexemes.{Space}
use Rattle.cool_lexer.specs.declared.reading.Reading.{Reading}
use Rattle.cool_lexer.specs.Readings.{Passes}
use Rattle.cool_lexer.proofs.Items.{begins}

-- the reading after a blank
abbrev pub blank_after : Reading → Reading
blank_after old = record { tokens = old.tokens; run = old.run; place = record { file = old.place.file; line = old.place.line; byte = old.place.byte + 1 } }

blank : (bs : List ℕ) (old : Reading) → Passes (32 ∷ bs) old (blank_after old) 1
blank bs old = record { form = Space; item = begins 32 bs; fits = tt; tokens = search rules; run = refl; place = search rules }

pub passes_blank : (rest : List ℕ) (old : Reading) → get_or rest 0 0 ≡ 32 → Passes rest old (blank_after old) 1
passes_blank [] old h = absurd (search rules)
passes_blank (b ∷ bs) old h = subst (λ (x : ℕ). Passes (x ∷ bs) old (blank_after old) 1) (sym h) (blank bs old)
