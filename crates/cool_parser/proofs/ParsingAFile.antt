-- Lemmas on the parser's loop: the remaining tokens lead from each state to the outcome of the whole list, and a file without tokens has no classes.
use Rattle.std.proofs.Common.{◌≡◌, ℕ, ◌+◌, ◌<◌, List, [], ◌∷◌, length, drop, get_or, Option, Some, refl, ◌∙◌, ap}
use Rattle.std.proofs.lemmas.List.{drop_more}
use Rattle.cool_syntax.specs.declared.place.Place.{Place}
use Rattle.cool_syntax.specs.declared.token.Token.{Token}
use Rattle.cool_syntax.specs.declared.file_tree.ClassDef.{ClassDef}
use Rattle.cool_parser.specs.declared.mode.Mode.{Mode}
use Rattle.cool_parser.specs.ParsingMachine.{Context, State, step, outcome, parsed, Whole, Unexpected}

-- the place of the last token does not matter as long as a state is there
pub any_place : (at other : Place) (s : State) (ts : List Token) (end : Place) → outcome at (Some s) ts end ≡ outcome other (Some s) ts end
any_place at other s [] end = refl
any_place at other s (t ∷ ts) end = refl

-- one more token
pub more : (ts : List Token) (i : ℕ) (d : Token) (c : Context) (m : Mode) (o : Option State) (at end : Place) → i < length ts
    → step c m (get_or ts i d).kind (get_or ts i d).at ≡ o
    → outcome at (Some (record { context = c; mode = m })) (drop i ts) end ≡ outcome (get_or ts i d).at o (drop (i + 1) ts) end
more ts i d c m o at end h e =
    ap (λ xs. outcome at (Some (record { context = c; mode = m })) xs end) (drop_more ts i d h)
    ∙ ap (λ x. outcome (get_or ts i d).at x (drop (i + 1) ts) end) e

-- no tokens are the file without classes
pub empty_whole : (ts : List Token) (end : Place) (classes : List ClassDef) → parsed ts end ≡ Whole classes → ts ≡ [] → classes ≡ []
empty_whole [] end classes e h = cc
empty_whole (t ∷ ts) end classes e h = absurd (cc)

-- and so have no fault
pub empty_no_fault : {A : Type 0} (ts : List Token) (end at : Place) → parsed ts end ≡ Unexpected at → ts ≡ [] → A
empty_no_fault [] end at e h = absurd (cc)
empty_no_fault (t ∷ ts) end at e h = absurd (cc)
