-- The data lines of a list of constants with one more at its end are those of the list, followed by those of this constant.
use Rattle.std.proofs.Common.{◌≡◌, ℕ, suc, ◌+◌, List, [], ◌∷◌, ◌++◌, length, sym, ap, ◌∙◌, arith, append_assoc}
use Rattle.std.proofs.lemmas.List.{append-nil}
use Rattle.mips_isa.specs.Lines.{Line}
use Rattle.cool_runtime.specs.LinesOfData.{int_lines, string_lines}
use Rattle.cool_consts.specs.Labels.{int_constant, string_constant, string_length}
use Rattle.cool_consts.specs.LinesOfConstants.{integers_lines, strings_lines}

pub one_more_integer : (tag k : ℕ) (ns : List ℕ) (n : ℕ) → integers_lines tag k (ns ++ n ∷ []) ≡ integers_lines tag k ns ++ int_lines (int_constant (k + length ns)) tag n
one_more_integer tag k [] n = let e : k ≡ k + 0 = omega arith in ap (λ j. int_lines (int_constant j) tag n) e
one_more_integer tag k (m ∷ ns) n =
    let e : k + 1 + length ns ≡ k + suc (length ns) = omega arith in
    let here : List Line = int_lines (int_constant k) tag m in
    ap (λ l. here ++ l) (one_more_integer tag (k + 1) ns n ∙ ap (λ j. integers_lines tag (k + 1) ns ++ int_lines (int_constant j) tag n) e)
    ∙ sym (append_assoc here (integers_lines tag (k + 1) ns) _)

pub one_more_string : (int_tag string_tag k : ℕ) (all : List (List ℕ)) (bytes : List ℕ)
    → strings_lines int_tag string_tag k (all ++ bytes ∷ []) ≡ strings_lines int_tag string_tag k all ++ string_lines (string_constant (k + length all)) (string_length (k + length all)) int_tag string_tag bytes
one_more_string int_tag string_tag k [] bytes =
    let e : k ≡ k + 0 = omega arith in append-nil _ ∙ ap (λ j. string_lines (string_constant j) (string_length j) int_tag string_tag bytes) e
one_more_string int_tag string_tag k (first ∷ all) bytes =
    let e : k + 1 + length all ≡ k + suc (length all) = omega arith in
    let here : List Line = string_lines (string_constant k) (string_length k) int_tag string_tag first in
    ap (λ l. here ++ l) (one_more_string int_tag string_tag (k + 1) all bytes ∙ ap (λ j. strings_lines int_tag string_tag (k + 1) all ++ string_lines (string_constant j) (string_length j) int_tag string_tag bytes) e)
    ∙ sym (append_assoc here (strings_lines int_tag string_tag (k + 1) all) _)
