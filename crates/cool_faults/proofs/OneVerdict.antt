-- Source files have at most one list of compile-time errors and at most one program, and they are never both accepted and rejected.
use Rattle.std.proofs.Common.{◌≡◌, ◌≢◌, ℕ, ◌+◌, List, [], ◌∷◌, map, ap, sym, ◌∙◌, refl, subst}
use Rattle.std.specs.List.{AllByRecursion}
use Rattle.std.specs.List.Sorted.{IsPermutation}
use Rattle.std.proofs.lemmas.List.Sorted.{length_permutation, IsPermutation-refl, IsPermutation-sym, IsPermutation-trans, IsPermutation-map, sum_by-IsPermutation}
use Rattle.std.proofs.Common.{arith}
use Rattle.cool_syntax.specs.declared.file_tree.ClassDef.{ClassDef}
use Rattle.cool_syntax.specs.declared.file_tree.FileTree.{FileTree}
use Rattle.cool_syntax.specs.declared.token.Token.{Token}
use Rattle.cool_syntax.specs.FaultOrder.{Standing}
use Rattle.cool_syntax.specs.Grammar.{Parses, IsUnexpected}
use Rattle.cool_lexer.proofs.OneReading.{one_cutting, one_first_fault, never_both}
use Rattle.cool_parser.proofs.ParsingIsTheGrammar.{one_tree as one_file, file_or_fault, one_fault}
use Rattle.cool_classes.specs.declared.fault.ClassFault.{ClassFault}
use Rattle.cool_classes.specs.Chains.{Class}
use Rattle.cool_classes.specs.ClassFaults.{classes_meant, feature_phase, HasClassPhase}
use Rattle.cool_classes.specs.Definitions.{definitions}
use Rattle.cool_classes.proofs.RowsExact.{no_phase, phase_moved}
use Rattle.cool_check.specs.declared.fault.TypeFault.{TypeFault}
use Rattle.cool_check.specs.TypingFaults.{typing_faults}
use Rattle.cool_faults.specs.declared.fault.Fault.{Fault}
use Rattle.cool_faults.specs.declared.fault.Fault.TheVariants.{Lex, Syntax, Class as OfClasses, Typing}
use Rattle.cool_faults.specs.Verdicts.{IsTree, AreTrees, LexFaults, SyntaxFaults, IsPhase, of_lexer, of_parser, of_classes, of_features, of_typing, AreFaultless, IsFaultList, faultless, faulty, IsRefused, IsAccepted, end_of, standing_of}
use Rattle.cool_faults.specs.Verdicts as verdict
use Rattle.cool_faults.proofs.AcceptedFiles.{accepted_list, accepted_meant}
use Rattle.cool_faults.specs.Untyped.{IsEarly}
use Rattle.cool_faults.proofs.OneOrder.{all_moved, one_order}
use Rattle.cool_faults.proofs.OneStanding.{one_fault as one_of_standing}
use Rattle.cool_faults.proofs.RisingFaults.{IsIn, all_in, one_typing_fault}

-- a list in another order than none is none
pub none_moved : {X : Type 0} (xs : List X) → IsPermutation [] xs → xs ≡ []
none_moved [] h = refl
none_moved (x ∷ xs) h = let long = length_permutation [] (x ∷ xs) h in absurd (omega arith)

-- a file has one tree
one_tree : (file : ℕ) (bytes : List ℕ) (t u : FileTree) → IsTree file bytes t → IsTree file bytes u → t ≡ u
one_tree file bytes t u a b =
    let tokens : a.tokens ≡ b.tokens = one_cutting file bytes a.tokens b.tokens a.lexes b.lexes in
    let number = a.number ∙ sym b.number in
    let classes = one_file b.tokens t.classes u.classes (subst (λ (ts : List Token). Parses ts t.classes) tokens a.parses) b.parses in
    λ i. record { file = number i; classes = classes i }

pub one_trees : (file : ℕ) (files : List (List ℕ)) (ts us : List FileTree) → AreTrees file files ts → AreTrees file files us → ts ≡ us
one_trees file [] [] [] a b = refl
one_trees file [] [] (u ∷ us) a b = absurd b
one_trees file [] (t ∷ ts) us a b = absurd a
one_trees file (bytes ∷ files) [] us a b = absurd a
one_trees file (bytes ∷ files) (t ∷ ts) [] a b = absurd b
one_trees file (bytes ∷ files) (t ∷ ts) (u ∷ us) a b =
    let first = one_tree file bytes t u a.0 b.0 in
    let rest = one_trees (file + 1) files ts us a.1 b.1 in λ i. first i ∷ rest i

-- if all files are trees, none has a fault of the lexer or the parser
pub no_lexical : (file : ℕ) (files : List (List ℕ)) (ts : List FileTree) (faults : List Fault) → AreTrees file files ts → LexFaults file files faults → faults ≡ []
no_lexical file files ts faults trees (verdict.none f) = refl
no_lexical file files [] faults trees (verdict.good f bytes rest fs tokens lexes more) = absurd trees
no_lexical file files (t ∷ ts) faults trees (verdict.good f bytes rest fs tokens lexes more) = no_lexical (file + 1) rest ts fs trees.1 more
no_lexical file files [] faults trees (verdict.bad f bytes rest fs fault is more) = absurd trees
no_lexical file files (t ∷ ts) faults trees (verdict.bad f bytes rest fs fault is more) = absurd (never_both file bytes trees.0.tokens fault.kind fault.at trees.0.lexes is)

pub no_syntactic : (file : ℕ) (files : List (List ℕ)) (ts : List FileTree) (faults : List Fault) → AreTrees file files ts → SyntaxFaults file files faults → faults ≡ []
no_syntactic file files ts faults trees (verdict.none f) = refl
no_syntactic file files [] faults trees (verdict.good f bytes rest fs tree is more) = absurd trees
no_syntactic file files (t ∷ ts) faults trees (verdict.good f bytes rest fs tree is more) = no_syntactic (file + 1) rest ts fs trees.1 more
no_syntactic file files [] faults trees (verdict.bad f bytes rest fs tokens fault lexes stops more) = absurd trees
no_syntactic file files (t ∷ ts) faults trees (verdict.bad f bytes rest fs tokens fault lexes stops more) =
    let same : trees.0.tokens ≡ tokens = one_cutting file bytes trees.0.tokens tokens trees.0.lexes lexes in
    absurd (file_or_fault tokens (end_of file bytes) fault.at t.classes (subst (λ (us : List Token). Parses us t.classes) same trees.0.parses) stops)

-- the faults of typing of trees are these, in some order
abbrev pub AreOfTyping : List FileTree → List Fault → Type 0
AreOfTyping ts faults = IsPermutation (map Typing (typing_faults (classes_meant (definitions ts)))) faults

-- if no phase before typing finds a fault, none has any, if typing has none
pub nothing_but_typing : (files : List (List ℕ)) (faults : List Fault) (ts : List FileTree) → AreTrees 0 files ts → HasClassPhase (definitions ts) []
    → feature_phase (definitions ts) ≡ [] → ((us : List FileTree) → AreTrees 0 files us → AreOfTyping us faults → faults ≡ [])
    → IsPhase files faults → faults ≡ []
nothing_but_typing files faults ts are classes features typing (of_lexer h) = no_lexical 0 files ts faults are h
nothing_but_typing files faults ts are classes features typing (of_parser h) = no_syntactic 0 files ts faults are h
nothing_but_typing files faults ts are classes features typing (of_classes us fs trees phase moved) =
    let same = one_trees 0 files ts us are trees in
    let none : fs ≡ [] = no_phase (definitions us) fs (subst (λ (vs : List FileTree). HasClassPhase (definitions vs) []) same classes) phase in
    none_moved faults (subst (λ (xs : List ClassFault). IsPermutation (map OfClasses xs) faults) none moved)
nothing_but_typing files faults ts are classes features typing (of_features us trees phase moved) =
    let same = one_trees 0 files ts us are trees in
    let none : feature_phase (definitions us) ≡ [] = subst (λ (vs : List FileTree). feature_phase (definitions vs) ≡ []) same features in
    none_moved faults (subst (λ (xs : List ClassFault). IsPermutation (map OfClasses xs) faults) none moved)
nothing_but_typing files faults ts are classes features typing (of_typing us trees phase other moved) = typing us trees moved

-- if no phase finds a fault, no phase has any
nothing_found : (files : List (List ℕ)) (faults : List Fault) → AreFaultless files → IsPhase files faults → faults ≡ []
nothing_found files faults a = nothing_but_typing files faults a.trees a.are_trees a.classes a.features none
  where
    none : (us : List FileTree) → AreTrees 0 files us → AreOfTyping us faults → faults ≡ []
    none us trees moved =
        let same = one_trees 0 files a.trees us a.are_trees trees in
        let clear : typing_faults (classes_meant (definitions us)) ≡ [] = subst (λ (vs : List FileTree). typing_faults (classes_meant (definitions vs)) ≡ []) same a.typing in
        none_moved faults (subst (λ (xs : List TypeFault). IsPermutation (map Typing xs) faults) clear moved)

-- files are one program at most
pub one_program : (files : List (List ℕ)) (p q : List Class) → IsAccepted files p → IsAccepted files q → p ≡ q
one_program files p q a b =
    let same = one_trees 0 files a.trees b.trees a.are_trees b.are_trees in
    accepted_meant files p a ∙ ap (λ (ts : List FileTree). classes_meant (definitions ts)) same ∙ sym (accepted_meant files q b)

-- faults of the lexer, and of the parser, are one list
one_lexical : (file : ℕ) (files : List (List ℕ)) (xs ys : List Fault) → LexFaults file files xs → LexFaults file files ys → xs ≡ ys
one_lexical file files xs ys (verdict.none f) (verdict.none g) = refl
one_lexical file files xs ys (verdict.good f bytes rest fs ts lexes more) (verdict.good g bytes' rest' gs us also further) = one_lexical (file + 1) rest fs gs more further
one_lexical file files xs ys (verdict.good f bytes rest fs ts lexes more) (verdict.bad g bytes' rest' gs fault is further) = absurd (never_both file bytes ts fault.kind fault.at lexes is)
one_lexical file files xs ys (verdict.bad f bytes rest fs fault is more) (verdict.good g bytes' rest' gs us also further) = absurd (never_both file bytes us fault.kind fault.at also is)
one_lexical file files xs ys (verdict.bad f bytes rest fs one is more) (verdict.bad g bytes' rest' gs two also further) =
    let e = one_first_fault file bytes one.kind two.kind one.at two.at is also in
    let later = one_lexical (file + 1) rest fs gs more further in
    λ i. Lex (record { kind = e.0 i; at = e.1 i }) ∷ later i

one_syntactic : (file : ℕ) (files : List (List ℕ)) (xs ys : List Fault) → SyntaxFaults file files xs → SyntaxFaults file files ys → xs ≡ ys
one_syntactic file files xs ys (verdict.none f) (verdict.none g) = refl
one_syntactic file files xs ys (verdict.good f bytes rest fs t is more) (verdict.good g bytes' rest' gs u also further) = one_syntactic (file + 1) rest fs gs more further
one_syntactic file files xs ys (verdict.good f bytes rest fs t is more) (verdict.bad g bytes' rest' gs us fault lexes stops further) =
    let same = one_cutting file bytes is.tokens us is.lexes lexes in
    absurd (file_or_fault us (end_of file bytes) fault.at t.classes (subst (λ (vs : List Token). Parses vs t.classes) same is.parses) stops)
one_syntactic file files xs ys (verdict.bad f bytes rest fs us fault lexes stops more) (verdict.good g bytes' rest' gs t is further) =
    let same = one_cutting file bytes is.tokens us is.lexes lexes in
    absurd (file_or_fault us (end_of file bytes) fault.at t.classes (subst (λ (vs : List Token). Parses vs t.classes) same is.parses) stops)
one_syntactic file files xs ys (verdict.bad f bytes rest fs ts one lexes stops more) (verdict.bad g bytes' rest' gs us two also halts further) =
    let same = one_cutting file bytes ts us lexes also in
    let at = one_fault us (end_of file bytes) one.at two.at (subst (λ (vs : List Token). IsUnexpected vs (end_of file bytes) one.at) same stops) halts in
    let later = one_syntactic (file + 1) rest fs gs more further in
    λ i. Syntax (record { at = at i }) ∷ later i

-- files that the parser looks at have no fault of the lexer
none_before : (file : ℕ) (files : List (List ℕ)) (xs ys : List Fault) → LexFaults file files xs → SyntaxFaults file files ys → xs ≡ []
none_before file files xs ys (verdict.none f) (verdict.none g) = refl
none_before file files xs ys (verdict.good f bytes rest fs ts lexes more) (verdict.good g bytes' rest' gs u also further) = none_before (file + 1) rest fs gs more further
none_before file files xs ys (verdict.good f bytes rest fs ts lexes more) (verdict.bad g bytes' rest' gs us fault also stops further) = none_before (file + 1) rest fs gs more further
none_before file files xs ys (verdict.bad f bytes rest fs fault is more) (verdict.good g bytes' rest' gs u also further) = absurd (never_both file bytes also.tokens fault.kind fault.at also.lexes is)
none_before file files xs ys (verdict.bad f bytes rest fs fault is more) (verdict.bad g bytes' rest' gs us other also stops further) = absurd (never_both file bytes us fault.kind fault.at also is)

-- two orders of the same faults
same_moved : {X : Type 0} (as' bs xs ys : List X) → IsPermutation as' bs → IsPermutation as' xs → IsPermutation bs ys → IsPermutation xs ys
same_moved as' bs xs ys ab ax by' = IsPermutation-trans xs as' ys (IsPermutation-sym as' xs ax) (IsPermutation-trans as' bs ys ab by')

-- two lists of faults of the first phase that finds any are one in another order
one_phase : (files : List (List ℕ)) (xs ys : List Fault) → xs ≢ [] → ys ≢ [] → IsPhase files xs → IsPhase files ys → IsPermutation xs ys
one_phase files xs ys some_first some_second = by
  where
    equal : xs ≡ ys → IsPermutation xs ys
    equal e = subst (IsPermutation xs) e (IsPermutation-refl xs)

    no_first : xs ≡ [] → IsPermutation xs ys
    no_first e = absurd (some_first e)

    no_second : ys ≡ [] → IsPermutation xs ys
    no_second e = absurd (some_second e)

    nothing_moved : (fs : List Fault) (zs : List Fault) → fs ≡ [] → IsPermutation fs zs → zs ≡ []
    nothing_moved fs zs e h = none_moved zs (subst (λ (gs : List Fault). IsPermutation gs zs) e h)

    trees_are : (ts us : List FileTree) → AreTrees 0 files ts → AreTrees 0 files us → ts ≡ us
    trees_are ts us a b = one_trees 0 files ts us a b

    classes_none : (ds : List ClassDef) (fs : List ClassFault) → HasClassPhase ds [] → HasClassPhase ds fs → map OfClasses fs ≡ []
    classes_none ds fs none phase = ap (map OfClasses) (no_phase ds fs none phase)

    by : IsPhase files xs → IsPhase files ys → IsPermutation xs ys
    by (of_lexer a) (of_lexer b) = equal (one_lexical 0 files xs ys a b)
    by (of_lexer a) (of_parser b) = no_first (none_before 0 files xs ys a b)
    by (of_lexer a) (of_classes ts fs trees phase moved) = no_first (no_lexical 0 files ts xs trees a)
    by (of_lexer a) (of_features ts trees phase moved) = no_first (no_lexical 0 files ts xs trees a)
    by (of_lexer a) (of_typing ts trees phase features moved) = no_first (no_lexical 0 files ts xs trees a)
    by (of_parser a) (of_lexer b) = no_second (none_before 0 files ys xs b a)
    by (of_parser a) (of_parser b) = equal (one_syntactic 0 files xs ys a b)
    by (of_parser a) (of_classes ts fs trees phase moved) = no_first (no_syntactic 0 files ts xs trees a)
    by (of_parser a) (of_features ts trees phase moved) = no_first (no_syntactic 0 files ts xs trees a)
    by (of_parser a) (of_typing ts trees phase features moved) = no_first (no_syntactic 0 files ts xs trees a)
    by (of_classes ts fs trees phase moved) (of_lexer b) = no_second (no_lexical 0 files ts ys trees b)
    by (of_classes ts fs trees phase moved) (of_parser b) = no_second (no_syntactic 0 files ts ys trees b)
    by (of_classes ts fs trees phase moved) (of_classes us gs also other turned) =
        let there = subst (λ (vs : List FileTree). HasClassPhase (definitions vs) fs) (trees_are ts us trees also) phase in
        same_moved (map OfClasses fs) (map OfClasses gs) xs ys (IsPermutation-map OfClasses fs gs (phase_moved (definitions us) fs gs there other)) moved turned
    by (of_classes ts fs trees phase moved) (of_features us also none turned) =
        let there = subst (λ (vs : List FileTree). HasClassPhase (definitions vs) fs) (trees_are ts us trees also) phase in
        no_first (nothing_moved (map OfClasses fs) xs (classes_none (definitions us) fs none there) moved)
    by (of_classes ts fs trees phase moved) (of_typing us also none features turned) =
        let there = subst (λ (vs : List FileTree). HasClassPhase (definitions vs) fs) (trees_are ts us trees also) phase in
        no_first (nothing_moved (map OfClasses fs) xs (classes_none (definitions us) fs none there) moved)
    by (of_features ts trees none moved) (of_lexer b) = no_second (no_lexical 0 files ts ys trees b)
    by (of_features ts trees none moved) (of_parser b) = no_second (no_syntactic 0 files ts ys trees b)
    by (of_features ts trees none moved) (of_classes us gs also other turned) =
        let there = subst (λ (vs : List FileTree). HasClassPhase (definitions vs) gs) (trees_are us ts also trees) other in
        no_second (nothing_moved (map OfClasses gs) ys (classes_none (definitions ts) gs none there) turned)
    by (of_features ts trees none moved) (of_features us also clear turned) =
        let same : feature_phase (definitions ts) ≡ feature_phase (definitions us) = ap (λ (vs : List FileTree). feature_phase (definitions vs)) (trees_are ts us trees also) in
        same_moved (map OfClasses (feature_phase (definitions ts))) (map OfClasses (feature_phase (definitions us))) xs ys
        (subst (λ (fs : List ClassFault). IsPermutation (map OfClasses (feature_phase (definitions ts))) (map OfClasses fs)) same (IsPermutation-refl (map OfClasses (feature_phase (definitions ts))))) moved turned
    by (of_features ts trees none moved) (of_typing us also clear features turned) =
        let same : feature_phase (definitions ts) ≡ [] = ap (λ (vs : List FileTree). feature_phase (definitions vs)) (trees_are ts us trees also) ∙ features in
        no_first (nothing_moved (map OfClasses (feature_phase (definitions ts))) xs (ap (map OfClasses) same) moved)
    by (of_typing ts trees none features moved) (of_lexer b) = no_second (no_lexical 0 files ts ys trees b)
    by (of_typing ts trees none features moved) (of_parser b) = no_second (no_syntactic 0 files ts ys trees b)
    by (of_typing ts trees none features moved) (of_classes us gs also other turned) =
        let there = subst (λ (vs : List FileTree). HasClassPhase (definitions vs) gs) (trees_are us ts also trees) other in
        no_second (nothing_moved (map OfClasses gs) ys (classes_none (definitions ts) gs none there) turned)
    by (of_typing ts trees none features moved) (of_features us also clear turned) =
        let same : feature_phase (definitions us) ≡ [] = ap (λ (vs : List FileTree). feature_phase (definitions vs)) (trees_are us ts also trees) ∙ features in
        no_second (nothing_moved (map OfClasses (feature_phase (definitions us))) ys (ap (map OfClasses) same) turned)
    by (of_typing ts trees none features moved) (of_typing us also clear fine turned) =
        same_moved (map Typing (typing_faults (classes_meant (definitions ts)))) (map Typing (typing_faults (classes_meant (definitions us)))) xs ys
        (subst (λ (vs : List FileTree). IsPermutation (map Typing (typing_faults (classes_meant (definitions ts)))) (map Typing (typing_faults (classes_meant (definitions vs))))) (trees_are ts us trees also)
        (IsPermutation-refl (map Typing (typing_faults (classes_meant (definitions ts)))))) moved turned

-- the faults of all phases but typing are found before it
lexical_early : (file : ℕ) (files : List (List ℕ)) (fs : List Fault) → LexFaults file files fs → AllByRecursion IsEarly fs
lexical_early file files fs (verdict.none f) = tt
lexical_early file files fs (verdict.good f bytes rest gs ts lexes more) = lexical_early (file + 1) rest gs more
lexical_early file files fs (verdict.bad f bytes rest gs fault is more) = (tt, lexical_early (file + 1) rest gs more)

syntactic_early : (file : ℕ) (files : List (List ℕ)) (fs : List Fault) → SyntaxFaults file files fs → AllByRecursion IsEarly fs
syntactic_early file files fs (verdict.none f) = tt
syntactic_early file files fs (verdict.good f bytes rest gs t is more) = syntactic_early (file + 1) rest gs more
syntactic_early file files fs (verdict.bad f bytes rest gs ts fault lexes stops more) = (tt, syntactic_early (file + 1) rest gs more)

classes_early : (fs : List ClassFault) → AllByRecursion IsEarly (map OfClasses fs)
classes_early [] = tt
classes_early (f ∷ fs) = (tt, classes_early fs)

-- files have one fault list
pub one_list : (files : List (List ℕ)) (xs ys : List Fault) → IsFaultList files xs → IsFaultList files ys → xs ≡ ys
one_list files xs ys (faultless a) (faultless b) = refl
one_list files xs ys (faultless a) (faulty gs some phase order) = absurd (some (nothing_found files gs a phase))
one_list files xs ys (faulty fs some phase order) (faultless b) = absurd (some (nothing_found files fs b phase))
one_list files xs ys (faulty fs some phase order) (faulty gs more other also) = by phase
  where
    moved : IsPermutation fs gs
    moved = one_phase files fs gs some more phase other

    -- if no two of the faults have one standing, the lists are equal
    apart : (Is : Fault → Type 0) → ((x y : Fault) → Is x → Is y → standing_of x ≡ standing_of y → x ≡ y) → AllByRecursion Is fs → fs ≡ gs
    apart Is one all = one_order standing_of Is one fs gs all (all_moved Is fs gs moved all) order also (λ (f : Fault → ℕ). sym (sum_by-IsPermutation f fs gs moved))

    early : AllByRecursion IsEarly fs → fs ≡ gs
    early all = apart IsEarly one_of_standing all

    by : IsPhase files fs → fs ≡ gs
    by (of_lexer a) = early (lexical_early 0 files fs a)
    by (of_parser a) = early (syntactic_early 0 files fs a)
    by (of_classes ts cs trees found turned) = early (all_moved IsEarly (map OfClasses cs) fs turned (classes_early cs))
    by (of_features ts trees none turned) =
        early (all_moved IsEarly (map OfClasses (feature_phase (definitions ts))) fs turned (classes_early (feature_phase (definitions ts))))
    by (of_typing ts trees none features turned) =
        let all : List Fault = map Typing (typing_faults (classes_meant (definitions ts))) in
        apart (λ (x : Fault). IsIn x all) (λ x y i j e. one_typing_fault files ts trees x y i j (ap (λ (s : Standing). s.at) e))
        (all_moved (λ (x : Fault). IsIn x all) all fs turned (all_in all (λ (x : Fault). IsIn x all) (λ x i. i)))

-- no files are both accepted and refused
pub never_both_verdicts : (files : List (List ℕ)) (p : List Class) (faults : List Fault) → IsAccepted files p → IsRefused files faults → ⊥
never_both_verdicts files p faults a r = r.some (one_list files faults [] r.list (accepted_list files p a))
