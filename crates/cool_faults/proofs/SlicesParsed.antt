-- If the slice of tokens that the parser gets is the tokens of a file, the tree or the syntax error of the slice is that of the file.
use Rattle.std.proofs.Common.{◌≡◌, ℕ, ◌≤◌, List, subst}
use Rattle.std.specs.List.{AllByRecursion}
use Rattle.cool_syntax.specs.declared.token.Token.{Token}
use Rattle.cool_syntax.specs.declared.file_tree.FileTree.{FileTree}
use Rattle.cool_syntax.specs.FeatureSizes.{IsBoundedClass}
use Rattle.cool_syntax.specs.Grammar.{Parses, IsUnexpected}
use Rattle.cool_syntax.specs.LexicalStructure.{FitsRuns, first_run}
use Rattle.cool_syntax.specs.TokenFacts.{AreWithinLimits, weights}
use Rattle.cool_syntax.specs.TreesWithinLimits.{AreClassesWithin}
use Rattle.cool_syntax.specs.Weights.{classes_weight}
use Rattle.cool_lexer.specs.declared.lexer.Lexed.{Lexed}
use Rattle.cool_parser.specs.declared.fault.ParseFault.{ParseFault}
use Rattle.cool_faults.specs.declared.fault.Fault.TheVariants.{Syntax}
use Rattle.cool_faults.specs.Phases.{IsParsed, IsSyntactic}

-- the slice has the tokens of the file
pub parsed_slice : (file : ℕ) (l : Lexed) (tokens : List Token) (t : FileTree) → tokens ≡ l.tokens.items → t.file ≡ file → Parses tokens t.classes
    → ((files : ℕ) → AreWithinLimits files tokens → AreClassesWithin files t.classes) → classes_weight t.classes ≤ weights tokens
    → (FitsRuns first_run tokens → AllByRecursion IsBoundedClass t.classes) → IsParsed file l t
parsed_slice file l tokens t e number whole limits weight bounded =
    record {
      number = number;
      whole = subst (λ (ts : List Token). Parses ts t.classes) e whole;
      limits = subst (λ (ts : List Token). (files : ℕ) → AreWithinLimits files ts → AreClassesWithin files t.classes) e limits;
      weight = subst (λ (ts : List Token). classes_weight t.classes ≤ weights ts) e weight;
      bounded = subst (λ (ts : List Token). FitsRuns first_run ts → AllByRecursion IsBoundedClass t.classes) e bounded;
    }

-- and its fault is theirs
pub fault_slice : (file : ℕ) (l : Lexed) (tokens : List Token) (f : ParseFault) → tokens ≡ l.tokens.items → IsUnexpected tokens l.end f.at → IsSyntactic file l (Syntax f)
fault_slice file l tokens f e fault = subst (λ (ts : List Token). IsUnexpected ts l.end f.at) e fault
