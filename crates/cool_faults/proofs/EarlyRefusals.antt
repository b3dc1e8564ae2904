-- The compile-time errors from the lexer, the parser and the checks of classes and features are errors of phases before type checking.
use Rattle.std.specs.Prelude.{ℕ, List, [], ◌∷◌}
use Rattle.std.specs.List.{AllByRecursion}
use Rattle.cool_lexer.specs.declared.lexer.Lexed.{Lexed}
use Rattle.cool_faults.specs.declared.fault.Fault.{Fault}
use Rattle.cool_faults.specs.declared.fault.Fault.TheVariants.{Lex, Syntax, Class as OfClasses, Typing}
use Rattle.cool_faults.specs.declared.fault.Refusal.{Refusal}
use Rattle.cool_faults.specs.declared.fault.Refusal.TheVariants as refusal
use Rattle.cool_faults.specs.Phases.{AreFound, none, good, bad, AreFaultsFound, IsLexed, IsLexical, IsParsed, IsSyntactic, IsClassRefusal, IsRefusedWith}
use Rattle.cool_faults.specs.Untyped.{IsEarly, IsEarlyRefusal}
use Rattle.cool_faults.specs.Verdicts.{IsOfClasses}

-- faults that are found are early where each that may be found is
all_early : {I T : Type 0} {IsGood : ℕ → I → T → Type 0} {IsBad : ℕ → I → Fault → Type 0} → ((i : ℕ) (x : I) (f : Fault) → IsBad i x f → IsEarly f) → {i : ℕ} {xs : List I} {ts : List T} {fs : List Fault}
    → AreFound IsGood IsBad i xs ts fs → AllByRecursion IsEarly fs
all_early each (none i) = tt
all_early each (good i x xs t ts fs h rest) = all_early each rest
all_early each (bad i x xs f ts fs h rest) = (each i x f h, all_early each rest)

lexical_early : (i : ℕ) (bytes : List ℕ) (f : Fault) → IsLexical i bytes f → IsEarly f
lexical_early i bytes (Lex f) h = tt
lexical_early i bytes (Syntax f) h = absurd h
lexical_early i bytes (OfClasses f) h = absurd h
lexical_early i bytes (Typing f) h = absurd h

syntactic_early : (i : ℕ) (lexed : Lexed) (f : Fault) → IsSyntactic i lexed f → IsEarly f
syntactic_early i lexed (Lex f) h = absurd h
syntactic_early i lexed (Syntax f) h = tt
syntactic_early i lexed (OfClasses f) h = absurd h
syntactic_early i lexed (Typing f) h = absurd h

class_early : (f : Fault) → IsOfClasses f → IsEarly f
class_early (Lex f) h = absurd h
class_early (Syntax f) h = absurd h
class_early (OfClasses f) h = tt
class_early (Typing f) h = absurd h

all_class_early : (fs : List Fault) → AllByRecursion IsOfClasses fs → AllByRecursion IsEarly fs
all_class_early [] h = tt
all_class_early (f ∷ fs) h = (class_early f h.0, all_class_early fs h.1)

pub lexer_early : (files : List (List ℕ)) (e : Refusal) → AreFaultsFound IsLexed IsLexical files e → IsRefusedWith files e → IsEarlyRefusal files e
lexer_early files refusal.Memory found h = tt
lexer_early files (refusal.Faults faults) (some, (ts, found)) h = record { refused = h; early = all_early lexical_early found }

pub parser_early : (files : List (List ℕ)) (ls : List Lexed) (e : Refusal) → AreFaultsFound IsParsed IsSyntactic ls e → IsRefusedWith files e → IsEarlyRefusal files e
parser_early files ls refusal.Memory found h = tt
parser_early files ls (refusal.Faults faults) (some, (ts, found)) h = record { refused = h; early = all_early syntactic_early found }

pub classes_early : (files : List (List ℕ)) (e : Refusal) → IsClassRefusal e → IsRefusedWith files e → IsEarlyRefusal files e
classes_early files refusal.Memory found h = tt
classes_early files (refusal.Faults faults) found h = record { refused = h; early = all_class_early faults found.1 }

pub refused_with : (files : List (List ℕ)) (e : Refusal) → IsEarlyRefusal files e → IsRefusedWith files e
refused_with files refusal.Memory h = tt
refused_with files (refusal.Faults faults) h = h.refused
