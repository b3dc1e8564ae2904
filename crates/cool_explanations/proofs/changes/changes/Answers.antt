-- `changes` returns the texts of the changes from the old lines to the new ones: each step of its loop passes one line.
use Rattle.std.proofs.Common.{◌≡◌, ◌∙◌, ◌<◌, ◌≤◌, ℕ, zero, suc, List, [], ◌∷◌, Option, Some, None, refl, sym, ap, length, option_map}
use Rattle.std.specs.Prelude.{MatchOption, map, slice_get}
use Rattle.std.specs.List.{HoldsAt}
use Rattle.std.specs.Global.{Vec}
use Rattle.std.proofs.lemmas.Option.{slice_get_past, slice_get_read}
use Rattle.cool_faults.specs.Files.{bytes_of}
use Rattle.cool_explanations.specs.Changes.{change_text, changes}
use Rattle.cool_explanations.proofs.LinesChanged.{change_passed}
use Rattle.cool_explanations.proofs.changes.changes.Goals as goal

-- the bytes of a line, if there is one with this index
bytes_at : (lines : List (Vec ℕ)) (i : ℕ) → option_map (λ l. l.items) (slice_get lines i) ≡ slice_get (bytes_of lines) i
bytes_at [] i = refl
bytes_at (line ∷ lines) zero = refl
bytes_at (line ∷ lines) (suc i) = bytes_at lines i

entry_at : {X : Type 0} (value : X → Vec ℕ) (lines : List (Vec ℕ)) (i : ℕ) (r : Option X)
    → MatchOption r (length lines ≤ i) (λ x. (i < length lines) × HoldsAt (λ y. value x ≡ y) lines i)
    → option_map (λ x. (value x).items) r ≡ slice_get (bytes_of lines) i
entry_at value lines i None past = ap (option_map (λ l. l.items)) (sym (slice_get_past lines i past)) ∙ bytes_at lines i
entry_at value lines i (Some x) found =
    ap (option_map (λ l. l.items)) (sym (slice_get_read lines (length lines) i (value x) refl found.0 (found.1 (value x)))) ∙ bytes_at lines i

pub loop-index-preserved : goal.loop-index-preserved
loop-index-preserved c =
    let first = c.args.first in
    let i = c.loop-index.index in
    let old = bytes_of c.args.old.now in
    let new = bytes_of c.args.new.now in
    change_passed first i old new (bytes_of c.loop-index.all.items) (bytes_of c.add_change.new.all.items) (map change_text (changes first old new))
    (option_map (λ l. l.now.items) c.get.result) (option_map (λ l. l.now.items) c.get-in-loop-index.result)
    (entry_at (λ l. l.now) c.args.old.now i c.get.result c.get.ensures.lookup.3)
    (entry_at (λ l. l.now) c.args.new.now i c.get-in-loop-index.result c.get-in-loop-index.ensures.lookup.3)
    c.loop-index.invariant c.in_ok-add_change.ensures
