-- Each file has either tokens or a first lexical error, and the tokens of each file have either a syntax tree or a syntax error.
use Rattle.std.proofs.Common.{◌≡◌, ◌⊎◌, inl, inr, ℕ, ◌+◌, ◌≤◌, List, [], ◌∷◌, length, ap, sym, refl, subst, arith}
use Rattle.std.specs.Global.{Vec}
use Rattle.cool_syntax.specs.declared.TheConstants.{MOST_SOURCE_BYTES}
use Rattle.cool_syntax.specs.declared.file_tree.FileTree.{FileTree}
use Rattle.cool_syntax.specs.declared.token.Token.{Token}
use Rattle.cool_syntax.specs.LexicalStructure.{Lexes}
use Rattle.cool_syntax.specs.TokenFacts.{AreRising, AreWithinLimits, weights}
use Rattle.cool_lexer.specs.declared.lexer.Lexed.{Lexed}
use Rattle.cool_lexer.proofs.AlwaysOneReading.{always_one}
use Rattle.cool_lexer.proofs.ItemsInARow.{few}
use Rattle.cool_lexer.proofs.LexemesKeepLimits.{limits, rising}
use Rattle.cool_lexer.proofs.WeightsOfTokens.{tokens_weigh}
use Rattle.cool_parser.specs.ParsingMachine.{Outcome, Whole, Unexpected, parsed}
use Rattle.cool_parser.proofs.BoundedFeatures.{classes_bounded}
use Rattle.cool_parser.proofs.FilesWithinLimits.{classes_within}
use Rattle.cool_parser.proofs.ParsingIsTheGrammar.{sound, stops}
use Rattle.cool_parser.proofs.WeightsOfFiles.{classes_weigh}
use Rattle.cool_faults.specs.declared.fault.Fault.{Fault}
use Rattle.cool_faults.specs.declared.fault.Fault.TheVariants.{Lex, Syntax}
use Rattle.cool_faults.specs.Files.{total}
use Rattle.cool_faults.specs.Phases.{AreFound, none, good, bad, IsLexed, IsLexical, IsParsed, IsSyntactic}
use Rattle.cool_faults.specs.Verdicts.{end_of}
use denote.RawPtr.{null_ptr}

-- tokens in memory
abbrev vec_of : (ts : List Token) → length ts ≤ MOST_SOURCE_BYTES → Vec Token
vec_of ts h = record { ptr = null_ptr; len = length ts; cap = length ts; alloc = record { memory = record { seal = tt } }; items = ts; ok = (refl, omega arith); small = omega arith }

lexed_one : (file : ℕ) (bytes : List ℕ) → length bytes ≤ MOST_SOURCE_BYTES → ((l : Lexed) × IsLexed file bytes l) ⊎ ((f : Fault) × IsLexical file bytes f)
lexed_one file bytes small =
    elim (always_one file bytes) [
      | inl (ts, lexes) ↦ inl (good_tokens ts lexes)
      | inr (kind, place, is) ↦ inr (Lex (record { kind = kind; at = place }), is)
    ]
  where
    good_tokens : (ts : List Token) → Lexes file bytes ts → (l : Lexed) × IsLexed file bytes l
    good_tokens ts lexes =
        let count = few file bytes 0 bytes lexes.items (length bytes) [] lexes.leads in
        let few_tokens : length ts ≤ length bytes = omega (arith, ap length lexes.lexemes, count) in (
          record { tokens = vec_of ts (omega arith); end = end_of file bytes },
          record {
            lexes = lexes;
            end = refl;
            limits = λ files less. subst (AreWithinLimits files) (sym lexes.lexemes) (limits files file bytes 0 bytes lexes.items (length bytes) [] less small lexes.leads);
            rising = subst (AreRising file 0) (sym lexes.lexemes) (rising file bytes 0 0 bytes lexes.items (length bytes) [] (omega arith) lexes.leads);
            few = few_tokens;
            weight = omega (arith, ap weights lexes.lexemes, tokens_weigh file bytes 0 bytes lexes.items (length bytes) [] lexes.leads);
          },
        )

-- all files
pub record Found {I T : Type 0} (IsGood : ℕ → I → T → Type 0) (IsBad : ℕ → I → Fault → Type 0) (i : ℕ) (xs : List I) : Type 0 where
  pub results : List T
  pub faults : List Fault
  pub found : AreFound IsGood IsBad i xs results faults

pub lexed_all : (i : ℕ) (files : List (List ℕ)) → total files ≤ MOST_SOURCE_BYTES → Found IsLexed IsLexical i files
lexed_all i [] small = record { results = []; faults = []; found = none i }
lexed_all i (bytes ∷ files) small =
    let rest = lexed_all (i + 1) files (omega arith) in
    elim (lexed_one i bytes (omega arith)) [
      | inl (l, is) ↦ record { results = l ∷ rest.results; faults = rest.faults; found = good i bytes files l rest.results rest.faults is rest.found }
      | inr (f, is) ↦ record { results = rest.results; faults = f ∷ rest.faults; found = bad i bytes files f rest.results rest.faults is rest.found }
    ]

parsed_one : (file : ℕ) (l : Lexed) → ((t : FileTree) × IsParsed file l t) ⊎ ((f : Fault) × IsSyntactic file l f)
parsed_one file l = by (parsed l.tokens.items l.end) refl
  where
    by : (o : Outcome) → parsed l.tokens.items l.end ≡ o → ((t : FileTree) × IsParsed file l t) ⊎ ((f : Fault) × IsSyntactic file l f)
    by (Whole classes) e = inl (
      record { file = file; classes = classes },
      record {
        number = refl;
        whole = sound l.tokens.items l.end classes e;
        limits = λ files within. classes_within files l.tokens.items l.end classes e within;
        weight = classes_weigh l.tokens.items l.end classes e;
        bounded = λ fits. classes_bounded l.tokens.items l.end classes e fits;
      },
    )
    by (Unexpected at) e = inr (Syntax (record { at = at }), stops l.tokens.items l.end at e)

pub parsed_all : (i : ℕ) (ls : List Lexed) → Found IsParsed IsSyntactic i ls
parsed_all i [] = record { results = []; faults = []; found = none i }
parsed_all i (l ∷ ls) =
    let rest = parsed_all (i + 1) ls in
    elim (parsed_one i l) [
      | inl (t, is) ↦ record { results = t ∷ rest.results; faults = rest.faults; found = good i l ls t rest.results rest.faults is rest.found }
      | inr (f, is) ↦ record { results = rest.results; faults = f ∷ rest.faults; found = bad i l ls f rest.results rest.faults is rest.found }
    ]
