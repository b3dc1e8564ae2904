-- Source files within the limits on their number and size are either accepted as a program or rejected with their list of compile-time errors.
use Rattle.std.proofs.Common.{◌≡◌, ◌≢◌, ◌⊎◌, inl, inr, ℕ, ◌<◌, ◌≤◌, List, [], ◌∷◌, map, length, refl, sym, subst, arith}
use Rattle.std.specs.List.{AllByRecursion}
use Rattle.std.specs.List.Sorted.{IsPermutation}
use Rattle.std.proofs.lemmas.List.Sorted.{length_permutation}
use Rattle.cool_syntax.specs.declared.TheConstants.{MOST_FILES, MOST_SOURCE_BYTES}
use Rattle.cool_syntax.specs.declared.file_tree.ClassDef.{ClassDef}
use Rattle.cool_syntax.specs.declared.file_tree.FileTree.{FileTree}
use Rattle.cool_syntax.specs.TokenFacts.{IsPlaced}
use Rattle.cool_syntax.specs.TreesWithinLimits.{AreClassesWithin}
use Rattle.cool_lexer.specs.declared.lexer.Lexed.{Lexed}
use Rattle.cool_classes.specs.declared.fault.ClassFault.{ClassFault}
use Rattle.cool_classes.specs.ClassFaults.{class_phase, classes_meant, feature_phase, HasClassPhase}
use Rattle.cool_classes.specs.Definitions.{definitions}
use Rattle.cool_check.specs.declared.fault.TypeFault.{TypeFault}
use Rattle.cool_check.specs.TypingFaults.{typing_faults}
use Rattle.cool_check.proofs.AcceptedTables.{accepted_typed}
use Rattle.cool_faults.specs.declared.fault.Fault.{Fault}
use Rattle.cool_faults.specs.declared.fault.Fault.TheVariants.{Class as OfClasses, Typing}
use Rattle.cool_faults.specs.declared.fault.Refusal.TheVariants as refusal
use Rattle.cool_faults.specs.Files.{total}
use Rattle.cool_faults.specs.Laws.{AreAcceptedWhereFaultless, HasVerdict}
use Rattle.cool_faults.specs.Phases.{AreFound, IsLexed, IsLexical, IsParsed, IsSyntactic}
use Rattle.cool_faults.specs.Verdicts.{IsOfClasses, IsOfTyping, place_of, standing_of}
use Rattle.cool_faults.proofs.FaultlessTables.{faultless_table, hierarchy_of}
use Rattle.cool_faults.proofs.FilesRead.{lexed_all, parsed_all}
use Rattle.cool_faults.proofs.FindingsInARow.{AllFound}
use Rattle.cool_faults.proofs.OneOrder.{all_moved}
use Rattle.cool_faults.proofs.OneVerdict.{one_list}
use Rattle.cool_faults.proofs.OrderOfFaults.{classes_of_phase, classes_placed, some_mapped, typing_of_phase}
use Rattle.cool_faults.proofs.OrderOfFaults as moved
use Rattle.cool_faults.proofs.PlacedFaultLists.{features_placed, phase_placed, typing_placed}
use Rattle.cool_faults.proofs.SortedFaults.{Ordered, ordered}
use Rattle.cool_faults.proofs.SyntaxFaults.{IsWhole}
use Rattle.cool_faults.proofs.VerdictsOfPhases.{HaveNoFault, classes_refuse, files_whole, lexer_refuses, parser_refuses, table_accepted, trees_few, typing_refuses}

-- some in another order are some
some_moved : (xs ys : List Fault) → IsPermutation xs ys → xs ≢ [] → ys ≢ []
some_moved [] ys moved some = absurd (some refl)
some_moved (x ∷ xs) [] moved some = let long = length_permutation (x ∷ xs) [] moved in absurd (omega arith)
some_moved (x ∷ xs) (y ∷ ys) moved some = λ e. absurd (cc)

module _ (files : List (List ℕ)) (few : length files ≤ MOST_FILES) (small : total files ≤ MOST_SOURCE_BYTES) where
  module _ (ts : List FileTree) (whole : AllFound IsWhole 0 files ts) where
    ds : List ClassDef
    ds = definitions ts

    -- typing decides
    typing_verdict : HaveNoFault ts → class_phase (definitions ts) (hierarchy_of (definitions ts)).cyclic ≡ [] → (fs : List TypeFault) → typing_faults (classes_meant (definitions ts)) ≡ fs → HasVerdict files
    typing_verdict none clear [] well =
        let t = faultless_table (definitions ts) (trees_few files ts small whole) clear none.1 in
        inl (
          classes_meant (definitions ts),
          table_accepted files ts (classes_meant (definitions ts)) (classes_meant (definitions ts)) small few whole t.of refl none t.whole.table t.limits refl well
              (accepted_typed (classes_meant (definitions ts)) t.whole t.lawful well),
        )
    typing_verdict none clear (f ∷ fs) well =
        let p = classes_meant (definitions ts) in
        let t = faultless_table (definitions ts) (trees_few files ts small whole) clear none.1 in
        let all : List Fault = map Typing (typing_faults p) in
        let o : Ordered standing_of all = ordered standing_of all in
        let some : o.all ≢ [] = some_moved all o.all o.moved (some_mapped Typing (typing_faults p) (λ e. absurd (no_items f fs (sym well) e))) in
        inr (
          o.all,
          typing_refuses files ts p (refusal.Faults o.all) whole t.of refl none t.whole.table o.moved (some, all_moved IsOfTyping all o.all o.moved (typing_of_phase (typing_faults p)), o.order)
              (λ n within. all_moved (λ (x : Fault). IsPlaced n (place_of x)) all o.all o.moved (moved.typing_placed n (typing_faults p) (typing_placed n p within))),
        )
      where
        no_items : (f : TypeFault) (fs : List TypeFault) → f ∷ fs ≡ typing_faults (classes_meant (definitions ts)) → typing_faults (classes_meant (definitions ts)) ≡ [] → ⊥
        no_items f fs e none = absurd (cc)

    -- the faults of classes or features, in order
    refused : (cs : List ClassFault) → cs ≢ [] → HasClassPhase (definitions ts) cs ⊎ (HasClassPhase (definitions ts) [] × (cs ≡ feature_phase (definitions ts)))
        → ((n : ℕ) → 0 < n → AreClassesWithin n (definitions ts) → AllByRecursion (λ (f : ClassFault). IsPlaced n f.at) cs) → HasVerdict files
    refused cs some which placed =
        let all : List Fault = map OfClasses cs in
        let o : Ordered standing_of all = ordered standing_of all in
        inr (
          o.all,
          classes_refuse files ts (refusal.Faults o.all) whole
              (elim which [
                | inl phase ↦ inl (cs, phase, o.moved)
                | inr (none, is) ↦ inr (none, subst (λ (xs : List ClassFault). IsPermutation (map OfClasses xs) o.all) is o.moved)
              ])
              (some_moved all o.all o.moved (some_mapped OfClasses cs some), all_moved IsOfClasses all o.all o.moved (classes_of_phase cs), o.order)
              (λ n least within. all_moved (λ (x : Fault). IsPlaced n (place_of x)) all o.all o.moved (classes_placed n cs (placed n least within))),
        )

    feature_verdict : class_phase (definitions ts) (hierarchy_of (definitions ts)).cyclic ≡ [] → (fs : List ClassFault) → feature_phase (definitions ts) ≡ fs → HasVerdict files
    feature_verdict clear [] free =
        let h = hierarchy_of (definitions ts) in
        typing_verdict ((h.cyclic, h.cycles, sym clear), free) clear (typing_faults (classes_meant (definitions ts))) refl
    feature_verdict clear (f ∷ fs) free =
        let h = hierarchy_of (definitions ts) in
        refused (f ∷ fs) (λ e. absurd (cc)) (inr ((h.cyclic, h.cycles, sym clear), sym free))
        (λ n least within. subst (AllByRecursion (λ (x : ClassFault). IsPlaced n x.at)) free (features_placed n (definitions ts) within))

    class_verdict : (fs : List ClassFault) → class_phase (definitions ts) (hierarchy_of (definitions ts)).cyclic ≡ fs → HasVerdict files
    class_verdict [] clear = feature_verdict clear (feature_phase (definitions ts)) refl
    class_verdict (f ∷ fs) is =
        let h = hierarchy_of (definitions ts) in
        refused (f ∷ fs) (λ e. absurd (cc)) (inl (h.cyclic, h.cycles, sym is))
        (λ n least within. phase_placed n (definitions ts) least within (f ∷ fs) (h.cyclic, h.cycles, sym is))

  parser_verdict : (ls : List Lexed) → AreFound IsLexed IsLexical 0 files ls [] → (ts : List FileTree) (fs : List Fault) → AreFound IsParsed IsSyntactic 0 ls ts fs → HasVerdict files
  parser_verdict ls lexed ts [] found =
      let whole = files_whole files ls ts lexed found in
      class_verdict ts whole (class_phase (definitions ts) (hierarchy_of (definitions ts)).cyclic) refl
  parser_verdict ls lexed ts (f ∷ fs) found = inr (f ∷ fs, parser_refuses files ls (refusal.Faults (f ∷ fs)) small lexed ((λ e. absurd (cc)), (ts, found)))

  lexer_verdict : (ls : List Lexed) (fs : List Fault) → AreFound IsLexed IsLexical 0 files ls fs → HasVerdict files
  lexer_verdict ls [] found = let trees = parsed_all 0 ls in parser_verdict ls found trees.results trees.faults trees.found
  lexer_verdict ls (f ∷ fs) found = inr (f ∷ fs, lexer_refuses files (refusal.Faults (f ∷ fs)) small ((λ e. absurd (cc)), (ls, found)))

  pub always_one_verdict : HasVerdict files
  always_one_verdict = let tokens = lexed_all 0 files small in lexer_verdict tokens.results tokens.faults tokens.found

-- files without a fault are a program
pub accepted_where_faultless : AreAcceptedWhereFaultless
accepted_where_faultless files few small none =
    elim (always_one_verdict files few small) [
      | inl accepted ↦ accepted
      | inr (faults, refused) ↦ absurd (refused.some (one_list files faults [] refused.list none))
    ]
