-- Each error in a reply has a source location in one of the files, because the tokens of the files have.
use Rattle.std.proofs.Common.{ℕ, zero, suc, ◌+◌, ◌<◌, ◌≤◌, Bool, true, false, if◌then◌else◌, List, [], ◌∷◌, ◌++◌, length, map, Option, Some, None, refl, sym, subst, arith}
use Rattle.std.specs.List.{AllByRecursion}
use Rattle.std.proofs.ByRecursion.{All-append}
use Rattle.cool_syntax.specs.declared.token.Token.{Token}
use Rattle.cool_syntax.specs.declared.token.TokenKind.{TokenKind}
use Rattle.cool_syntax.specs.declared.token.TokenKind.TheVariants as kind
use Rattle.cool_syntax.specs.declared.token.Sign.TheVariants as sign
use Rattle.cool_syntax.specs.LexicalStructure.{depth_after, ends_run}
use Rattle.cool_syntax.specs.TokenFacts.{AreWithinLimits, IsPlaced}
use Rattle.cool_lexer.specs.declared.lexer.Lexed.{Lexed}
use Rattle.cool_classes.specs.Chains.{Class}
use Rattle.cool_classes.proofs.AllOfLists.{all_permuted}
use Rattle.cool_check.specs.declared.fault.TypeFault.{TypeFault}
use Rattle.cool_faults.specs.declared.fault.Fault.{Fault}
use Rattle.cool_faults.specs.declared.fault.Fault.TheVariants.{Typing}
use Rattle.cool_faults.specs.Phases.{IsLexed, IsLexical}
use Rattle.cool_faults.specs.Verdicts.{place_of}
use Rattle.cool_faults.proofs.FindingsInARow.{AllFound, all_found}
use Rattle.cool_session.specs.declared.base.KeptFault.{KeptFault}
use Rattle.cool_session.specs.Bases.{tokens_of}
use Rattle.cool_session.specs.FeatureTokens.{run_ended, runs_from, runs_of}
use Rattle.cool_session.specs.KeptChecks.{IsRead}
use Rattle.cool_session.specs.KeptFaults.{AreFaultsOf, fault_kept, faults_kept, place_of_token}

-- tokens that stand in one of so many files
abbrev AreThere : ℕ → List Token → Type 0
AreThere n = AllByRecursion (λ (t : Token). IsPlaced n t.at)

-- typing faults that stand in one of so many files
abbrev FaultsAreThere : ℕ → List TypeFault → Type 0
FaultsAreThere n = AllByRecursion (λ (f : TypeFault). IsPlaced n f.at)

-- The tokens of features

ended_there : (n : ℕ) (k : TokenKind) (run : List Token) → AreThere n run → AllByRecursion (AreThere n) (run_ended k run)
ended_there n (kind.Sign sign.Semi) run h = (h, tt)
ended_there n _ run h = tt

runs_there : (n d : ℕ) (run ts : List Token) → AreThere n run → AreThere n ts → AllByRecursion (AreThere n) (runs_from d run ts)
runs_there n d run [] h g = tt
runs_there n d run (t ∷ ts) h (p, g) =
    let more = All-append (λ (t : Token). IsPlaced n t.at) run (t ∷ []) h (p, tt) in
    by (ends_run t.kind d) more (runs_there n (depth_after t.kind d) [] ts tt g) (runs_there n (depth_after t.kind d) (run ++ t ∷ []) ts more g)
  where
    by : (b : Bool) → AreThere n (run ++ t ∷ []) → AllByRecursion (AreThere n) (runs_from (depth_after t.kind d) [] ts)
        → AllByRecursion (AreThere n) (runs_from (depth_after t.kind d) (run ++ t ∷ []) ts)
        → AllByRecursion (AreThere n) (if b then run_ended t.kind (run ++ t ∷ []) ++ runs_from (depth_after t.kind d) [] ts
        else runs_from (depth_after t.kind d) (run ++ t ∷ []) ts)
    by true more anew on =
        All-append (AreThere n) (run_ended t.kind (run ++ t ∷ [])) (runs_from (depth_after t.kind d) [] ts)
        (ended_there n t.kind (run ++ t ∷ []) more) anew
    by false more anew on = on

tokens_there : (n : ℕ) (ts : List Token) → AreWithinLimits n ts → AreThere n ts
tokens_there n [] h = tt
tokens_there n (t ∷ ts) (h, hs) = (h.0, tokens_there n ts hs)

files_there : (n i : ℕ) (files : List (List ℕ)) (ls : List Lexed) → AllFound IsLexed i files ls → i + length files ≤ n
    → AllByRecursion (AreThere n) (runs_of (tokens_of ls))
files_there n i [] [] h few = tt
files_there n i [] (l ∷ ls) h few = absurd h
files_there n i (bytes ∷ files) [] h few = absurd h
files_there n i (bytes ∷ files) (l ∷ ls) (h, hs) few =
    All-append (AreThere n) (runs_from 0 [] l.tokens.items) (runs_of (tokens_of ls))
    (runs_there n 0 [] l.tokens.items tt (tokens_there n l.tokens.items (h.limits n (omega (arith, few)))))
    (files_there n (i + 1) files ls hs (omega (arith, few)))

-- The faults at them

place_there : (n : ℕ) (run : List Token) (k : ℕ) → 0 < n → AreThere n run → IsPlaced n (place_of_token run k)
place_there n [] k some h = (omega (arith, some), omega arith)
place_there n (t ∷ run) zero some (h, hs) = h
place_there n (t ∷ run) (suc k) some (h, hs) = place_there n run k some hs

kept_there : (n : ℕ) (run : List Token) (kept : Option KeptFault) → 0 < n → AreThere n run → FaultsAreThere n (fault_kept run kept)
kept_there n run None some h = tt
kept_there n run (Some kept) some h = (place_there n run kept.token some h, tt)

all_kept_there : (n : ℕ) (runs : List (List Token)) (kept : List (Option KeptFault)) → 0 < n → AllByRecursion (AreThere n) runs
    → FaultsAreThere n (faults_kept runs kept)
all_kept_there n [] kept some h = tt
all_kept_there n (run ∷ runs) [] some h = tt
all_kept_there n (run ∷ runs) (k ∷ kept) some (h, hs) =
    All-append (λ (f : TypeFault). IsPlaced n f.at) (fault_kept run k) (faults_kept runs kept) (kept_there n run k some h)
    (all_kept_there n runs kept some hs)

typing_there : (n : ℕ) (fs : List TypeFault) → FaultsAreThere n fs → AllByRecursion (λ (f : Fault). IsPlaced n (place_of f)) (map Typing fs)
typing_there n [] h = tt
typing_there n (f ∷ fs) (h, hs) = (h, typing_there n fs hs)

pub listed_there : (files : List (List ℕ)) (ls : List Lexed) (p : List Class) → IsRead files ls p → 0 < length files
    → (kept : List (Option KeptFault)) (faults : List Fault) → AreFaultsOf (faults_kept (runs_of (tokens_of ls)) kept) faults
    → AllByRecursion (λ (f : Fault). IsPlaced (length files) (place_of f)) faults
listed_there files ls p h some kept faults of =
    let n = length files in
    let runs = files_there n 0 files ls (all_found IsLexed IsLexical h.lexed refl) (omega arith) in
    let found = all_kept_there n (runs_of (tokens_of ls)) kept some runs in
    subst (AllByRecursion (λ (f : Fault). IsPlaced n (place_of f))) (sym of.is)
    (typing_there n of.types
    (all_permuted (λ (f : TypeFault). IsPlaced n f.at) (faults_kept (runs_of (tokens_of ls)) kept) of.types of.moved found))
