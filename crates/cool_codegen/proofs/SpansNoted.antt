-- Lemmas on two changes of the list of spans (ranges of lines of expressions) during code generation: one span gets another end, and the spans of a branch are
-- moved by a number of lines.
use Rattle.std.proofs.Common.{◌≡◌, ℕ, ◌+◌, ◌<◌, ◌≤◌, ◌^◌, List, [], ◌∷◌, ◌++◌, Bool, true, false, length, map, get_or, ap, sym, refl, ◌∙◌, arith}
use Rattle.std.specs.Prelude.{if◌then◌else◌, nat_lt, slice_set}
use Rattle.std.specs.Global.{Vec}
use Rattle.std.specs.List.{AllByRecursion}
use Rattle.std.proofs.lemmas.List.{get_or-map, length-append, length-map, map-set}
use Rattle.std.proofs.Math.Seq.{get_or-append_seam, set-append_seam}
use Rattle.mips_isa.specs.declared.line.Line as declared_line
use Rattle.mips_isa.specs.Lines.{lines_of}
use Rattle.cool_codegen.specs.declared.span.Span as declared_span
use Rattle.cool_codegen.specs.declared.arm.Arm as declared_arm
use Rattle.cool_codegen.specs.Shown.{Shown, ended, made_of, noted, shown_of}
use Rattle.cool_codegen.specs.declared.code_setting.Wanted.{Wanted}
use Rattle.cool_codegen.specs.declared.code_setting.Wanted.TheVariants.{Spans}
use Rattle.cool_codegen.specs.Spans.{Branch, branch_of, with_branch}

pub as_many : (ls : List declared_line.Line) → length (lines_of ls) ≡ length ls
as_many ls = length-map ls _

-- a span with another end
abbrev until : ℕ → declared_span.Span → declared_span.Span
until to y = record { at = y.at; form = y.form; from = y.from; to = to; depth = y.depth; names = y.names; latest = y.latest }

pub replaced : (xs : List declared_span.Span) (before rest : List Shown) (x : Shown) (n : ℕ) (y : declared_span.Span) (to : ℕ)
    → map shown_of xs ≡ before ++ x ∷ rest → length before ≡ n → y ≡ get_or xs n y → n < length xs → map shown_of (slice_set xs n (until to y)) ≡ before ++ ended to x ∷ rest
replaced xs before rest x n y to has number is within =
    let there : shown_of y ≡ x =
    ap shown_of is ∙ sym (get_or-map shown_of xs n y x within) ∙ (λ i. get_or (has i) (sym number i) x) ∙ get_or-append_seam before x rest x in
    map-set shown_of xs n (until to y) ∙ (λ i. slice_set (has i) (sym number i) (ended to (there i))) ∙ set-append_seam before x rest (ended to x)

-- if spans are wanted, the number of one that was noted, whatever was noted behind it
pub noted_there : (want : Wanted) (xs ys zs : List declared_span.Span) (n : ℕ) (x : Shown) (more : List Shown)
    → n ≡ length xs → map shown_of ys ≡ map shown_of xs ++ noted want (x ∷ []) → map shown_of zs ≡ map shown_of ys ++ more → want ≡ Spans → n < length zs
noted_there want xs ys zs n x more number begun behind spans =
    omega (
      arith,
      ap length (begun ∙ ap (λ (v : Wanted). map shown_of xs ++ noted v (x ∷ [])) spans),
      ap length behind,
      length-append (map shown_of xs) (x ∷ []),
      length-append (map shown_of ys) more,
      length-map xs shown_of,
      length-map ys shown_of,
      length-map zs shown_of,
    )

-- branches seen by what their spans show are put alike
abbrev seen : Branch (Vec declared_span.Span) → Branch (List Shown)
seen b = record { arm = b.arm; inside = map shown_of b.inside.items }

seen_put : (bs : List (Branch (Vec declared_span.Span))) (b : Branch (Vec declared_span.Span)) → map seen (with_branch bs b) ≡ with_branch (map seen bs) (seen b)
seen_put [] b = refl
seen_put (a ∷ bs) b = by (nat_lt a.arm.depth b.arm.depth) (seen_put bs b)
  where
    by : (t : Bool) → map seen (with_branch bs b) ≡ with_branch (map seen bs) (seen b) → map seen (if t then b ∷ a ∷ bs else a ∷ with_branch bs b) ≡ (if t then seen b ∷ seen a ∷ map seen bs else seen a ∷ with_branch (map seen bs) (seen b))
    by true h = refl
    by false h = ap (λ ys. seen a ∷ ys) h

seen_all : (xs : List (declared_arm.Arm (Vec declared_span.Span))) → map made_of xs ≡ map seen (map branch_of xs)
seen_all [] = refl
seen_all (x ∷ xs) = ap (λ ys. made_of x ∷ ys) (seen_all xs)

pub put_made : (xs ys : List (declared_arm.Arm (Vec declared_span.Span))) (x : declared_arm.Arm (Vec declared_span.Span))
    → map branch_of ys ≡ with_branch (map branch_of xs) (branch_of x) → map made_of ys ≡ with_branch (map made_of xs) (made_of x)
put_made xs ys x put = seen_all ys ∙ ap (map seen) put ∙ seen_put (map branch_of xs) (branch_of x) ∙ ap (λ bs. with_branch bs (made_of x)) (sym (seen_all xs))

-- spans within lines, moved on by others
pub in_range : (xs : List declared_span.Span) (before n : ℕ) → before + n < 2 ^ 64 → AllByRecursion (λ x. (x.from ≤ n) × (x.to ≤ n)) (map shown_of xs)
    → AllByRecursion (λ (x : declared_span.Span). (before + x.from < 2 ^ 64) × (before + x.to < 2 ^ 64)) xs
in_range [] before n fits h = tt
in_range (x ∷ xs) before n fits h = (((let f = h.0.0 in omega arith), (let t = h.0.1 in omega arith)), in_range xs before n fits h.1)
