-- Two lists of expressions or of `case` branches differ only in source locations exactly if their elements, compared one by one, differ only in these.
use Rattle.std.proofs.Common.{◌≡◌, ◌↔◌, List, [], ◌∷◌, map, refl, sym, ◌∙◌, ap}
use Rattle.cool_expr.specs.declared.expr.Expr.{Expr}
use Rattle.cool_expr.specs.declared.expr.Branch.{Branch}
use Rattle.cool_syntax.specs.Tree.{Tree, Twig, More, CaseOf, of_list, of_twigs}
use Rattle.cool_expr.specs.View.{tree, twig}
use Rattle.cool_syntax.specs.Bare.{bare, bare_all, bare_cases, bare_twig}

-- the parts of a list determine it
of_list-inj : (ts us : List Tree) → of_list ts ≡ of_list us → ts ≡ us
of_list-inj [] [] h = refl
of_list-inj [] (u ∷ us) h = absurd cc
of_list-inj (t ∷ ts) [] h = absurd cc
of_list-inj (t ∷ ts) (u ∷ us) h = let e : ts ≡ us = of_list-inj ts us cc in cc

-- trees of expressions without places, one by one
bare_exprs : (es : List Expr) → bare_all (of_list (map tree es)) ≡ of_list (map (λ e. bare (tree e)) es)
bare_exprs [] = refl
bare_exprs (e ∷ es) = ap (More (bare (tree e))) (bare_exprs es)

-- the trees of two lists of expressions differ only in places if those of their elements do
pub same_exprs : (ts us : List Tree) (xs ys : List Expr) → map tree xs ≡ ts → map tree ys ≡ us → (bare_all (of_list ts) ≡ bare_all (of_list us)) ↔ (map (λ e. bare (tree e)) xs ≡ map (λ e. bare (tree e)) ys)
same_exprs ts us xs ys p q =
    let a : bare_all (of_list ts) ≡ of_list (map (λ e. bare (tree e)) xs) = sym (ap (λ w. bare_all (of_list w)) p) ∙ bare_exprs xs in
    let b : bare_all (of_list us) ≡ of_list (map (λ e. bare (tree e)) ys) = sym (ap (λ w. bare_all (of_list w)) q) ∙ bare_exprs ys in
    (λ h. of_list-inj _ _ (sym a ∙ h ∙ b), λ h. a ∙ ap of_list h ∙ sym b)

-- the branches of a list determine it
of_twigs-inj : (ws vs : List Twig) → of_twigs ws ≡ of_twigs vs → ws ≡ vs
of_twigs-inj [] [] h = refl
of_twigs-inj [] (v ∷ vs) h = absurd cc
of_twigs-inj (w ∷ ws) [] h = absurd cc
of_twigs-inj (w ∷ ws) (v ∷ vs) h =
    let e : ws ≡ vs = of_twigs-inj ws vs cc in
    let a : w.at ≡ v.at = cc in
    let n : w.name ≡ v.name = cc in
    let d : w.declared ≡ v.declared = cc in
    let b : w.body ≡ v.body = cc in
    let s : w ≡ v = λ i. record { at = a i; name = n i; declared = d i; body = b i } in
    cc

-- branches without places, one by one
bare_branches : (bs : List Branch) → bare_cases (of_twigs (map twig bs)) ≡ of_twigs (map (λ b. bare_twig (twig b)) bs)
bare_branches [] = refl
bare_branches (b ∷ bs) = let w = bare_twig (twig b) in ap (CaseOf w.at w.name w.declared w.body) (bare_branches bs)

-- the branches of two cases differ only in places if each branch does
pub same_branches : (ws vs : List Twig) (xs ys : List Branch) → map twig xs ≡ ws → map twig ys ≡ vs → (bare_cases (of_twigs ws) ≡ bare_cases (of_twigs vs)) ↔ (map (λ b. bare_twig (twig b)) xs ≡ map (λ b. bare_twig (twig b)) ys)
same_branches ws vs xs ys p q =
    let a : bare_cases (of_twigs ws) ≡ of_twigs (map (λ b. bare_twig (twig b)) xs) = sym (ap (λ w. bare_cases (of_twigs w)) p) ∙ bare_branches xs in
    let b : bare_cases (of_twigs vs) ≡ of_twigs (map (λ b. bare_twig (twig b)) ys) = sym (ap (λ w. bare_cases (of_twigs w)) q) ∙ bare_branches ys in
    (λ h. of_twigs-inj _ _ (sym a ∙ h ∙ b), λ h. a ∙ ap of_twigs h ∙ sym b)
