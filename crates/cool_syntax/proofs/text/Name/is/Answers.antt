-- `Name::is` tells whether two names are equal. It may compare two short names by their numbers of bytes and their arrays, because the array is zero after the
-- bytes of the name.
use Rattle.std.proofs.Common.{◌≡◌, ◌≤◌, ◌∙◌, sym, ap, ℕ, List, length, take, drop, replicate, ◌-◌, subst}
use Rattle.std.specs.Prelude.{bytes_eq}
use Rattle.std.proofs.lemmas.Bool.{ne_eqb}
use Rattle.cool_syntax.specs.Spellings.{IsSpelled, spelled}
use Rattle.cool_syntax.specs.declared.text.Spelling.TheVariants.{Short}
use Rattle.cool_syntax.specs.declared.text.TheConstants.{MOST_SHORT_NAME}
use Rattle.cool_syntax.proofs.ComparingShortNames.{one_count, other_count}
use Rattle.cool_syntax.proofs.text.Name.is.Goals as goal

pub returns-then-count-other_count : goal.returns-then-count-other_count
returns-then-count-other_count c =
    let n = c.in-Short-Short.count in
    let m = c.in-Short-Short.other_count in
    let xs = c.in-Short-Short.bytes in
    let ys = c.in-Short-Short.other_bytes in
    let a : IsSpelled (Short n xs) = subst IsSpelled c.in-Short-Short.is-0 c.self.invariant in
    let b : IsSpelled (Short m ys) = subst IsSpelled c.in-Short-Short.is-1 c.other.invariant in
    let k = c.if-count-other_count.true in
    let rest : drop n xs ≡ drop n ys = a.2 ∙ ap (λ (i : ℕ). replicate (MOST_SHORT_NAME - i) 0) k ∙ sym b.2 ∙ ap (λ (i : ℕ). drop i ys) (sym k) in
    let here : take n xs ≡ c.args.self.now = ap spelled (sym c.in-Short-Short.is-0) ∙ c.self.view_is in
    let there : take n ys ≡ c.args.other.now = ap (λ (i : ℕ). take i ys) k ∙ ap spelled (sym c.in-Short-Short.is-1) ∙ c.other.view_is in
    c.same_room.ensures ∙ one_count n xs ys rest ∙ ap (λ (zs : List ℕ). bytes_eq zs (take n ys)) here ∙ ap (bytes_eq c.args.self.now) there

pub returns-else-count-other_count : goal.returns-else-count-other_count
returns-else-count-other_count c =
    let n = c.in-Short-Short.count in
    let m = c.in-Short-Short.other_count in
    let xs = c.in-Short-Short.bytes in
    let ys = c.in-Short-Short.other_bytes in
    let a : IsSpelled (Short n xs) = subst IsSpelled c.in-Short-Short.is-0 c.self.invariant in
    let b : IsSpelled (Short m ys) = subst IsSpelled c.in-Short-Short.is-1 c.other.invariant in
    let p : n ≤ length xs = subst (λ (k : ℕ). n ≤ k) (sym a.1) a.0 in
    let q : m ≤ length ys = subst (λ (k : ℕ). m ≤ k) (sym b.1) b.0 in
    let here : take n xs ≡ c.args.self.now = ap spelled (sym c.in-Short-Short.is-0) ∙ c.self.view_is in
    let there : take m ys ≡ c.args.other.now = ap spelled (sym c.in-Short-Short.is-1) ∙ c.other.view_is in
    ne_eqb n m c.if-count-other_count.false ∙ sym (other_count n m xs ys p q c.if-count-other_count.false)
    ∙ ap (λ (zs : List ℕ). bytes_eq zs (take m ys)) here ∙ ap (bytes_eq c.args.self.now) there
