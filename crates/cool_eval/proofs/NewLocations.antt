-- A computation that gives values new locations appends the values to the store, at the locations that follow.
use Rattle.std.proofs.Common.{◌≡◌, ℕ, suc, List, [], ◌∷◌, ◌++◌, length, ap, sym, ◌∙◌, append_assoc, append-nil, length-append, arith}
use Rattle.cool_meaning.specs.Values.{Value, State}
use Rattle.cool_meaning.specs.Meters.{Outcome, Val, seq_of, give}
use Rattle.cool_meaning.specs.BasicMethods.{locate_all}
use Rattle.cool_eval.specs.Values.{locations_from}

-- values are appended to the store, at the locations that follow
pub located_all : (vs : List Value) (s : State) (n : ℕ) → (locate_all vs s n).outcome ≡ Val (locations_from (length s.store) (length vs)) (record s { store = s.store ++ vs }) n
located_all [] s n = ap (λ (vs : List Value). Val [] (record s { store = vs }) n) (sym (append-nil s.store))
located_all (v ∷ vs) s n =
    let next : State = record s { store = s.store ++ v ∷ [] } in
    let rest = locate_all vs next n in
    let longer : length (s.store ++ v ∷ []) ≡ suc (length s.store) = omega (arith, length-append s.store (v ∷ [])) in
    ap (λ (o : Outcome (List ℕ)). (seq_of o rest.work rest.words rest.peak (λ ls. give (length s.store ∷ ls))).outcome) (located_all vs next n)
    ∙ ap (λ (l : ℕ). Val (length s.store ∷ locations_from l (length vs)) (record s { store = (s.store ++ v ∷ []) ++ vs }) n) longer
    ∙ ap (λ (ws : List Value). Val (locations_from (length s.store) (suc (length vs))) (record s { store = ws }) n) (append_assoc s.store (v ∷ []) vs)
