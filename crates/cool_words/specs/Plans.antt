-- `plan_of` defines the plan (the parsed command line: a command with its files and limits) of a list of arguments. There is none if the first argument is no
-- command, if clap, the library that parses arguments, rejects the others, or if a number or file name is out of bounds.
use Rattle.std.specs.Prelude.{◌≡◌, ◌&&◌, ◌==◌, ℕ, Bool, true, false, not, List, [], ◌∷◌, length, map, nat_le, nat_lt, if◌then◌else◌, Option, Some, None, option_map, option_and_then, bytes_eq, codes, String, string_bytes, Result, MatchResult, ⊤, refl}
use Rattle.std.specs.List.{list_all, list_any, repeat}
use Rattle.std.specs.Global.{Global}
use Rattle.std.specs.Option.{option_map_or}
use Rattle.std.specs.Char.{encode_utf8}
use Rattle.std.specs.Str.{chars}
use Rattle.clap.specs.Faults.{defaults_fault, flags_fault, walk_fault}
use Rattle.clap.specs.Walk.{bundle_met, is_empty, walked}
use Rattle.clap.specs.Words.{Row, Text, all_of, first_of, matches_of, fault_of}
use Rattle.cool_words.specs.Commands.{app_for, command_of}
use Rattle.cool_words.specs.Numbers.{IsWithin, number_in}
use Rattle.cool_words.specs.declared.command_word.CommandWord.{CommandWord}
use Rattle.cool_words.specs.declared.command_word.CommandWord.TheVariants.{Check, Asm, Build, Run, Eval, Exec, Debug, Big, Session}
use Rattle.cool_words.specs.declared.plan.RunLimits.{RunLimits}
use Rattle.cool_words.specs.declared.plan.RunPlan.{RunPlan}
use Rattle.cool_words.specs.declared.plan.Plan.{Plan}
use Rattle.cool_words.specs.declared.plan.Plan.TheVariants as plan
use Rattle.cool_words.specs.declared.names.TheConstants.{MOST_NAME_BYTES}
use Rattle.cool_words.specs.declared.words_error.WordsError.{WordsError}
use Rattle.cool_words.specs.declared.words_error.WordsError.TheVariants.{Usage}

-- the words as lists of bytes
abbrev pub words_of : List (String Global) → List Text
words_of = map string_bytes

-- the plan of `run`, in which names are lists of bytes: the names of the files, the limits, and whether the folded program is compiled
pub record RunAsked : Type 0 where
  pub names : List Text
  pub limits : RunLimits
  pub fold : Bool

abbrev pub run_asked : RunPlan → RunAsked
run_asked p = record { names = words_of p.files.items; limits = p.limits; fold = p.fold }

-- the plan that a command line asks for, in which names are lists of bytes
pub data Asked : Type 0 where
  check : List Text → Asked
  asm : List Text → Asked
  build : List Text → Asked
  run : RunAsked → Asked
  eval : List Text → ℕ → Asked
  exec : Text → RunLimits → Asked
  debug : Text → List Text → RunLimits → Asked
  big : ℕ → Asked
  session : Asked

abbrev pub asked_by : Plan → Asked
asked_by (plan.Check files) = check (words_of files.items)
asked_by (plan.Asm files) = asm (words_of files.items)
asked_by (plan.Build files) = build (words_of files.items)
asked_by (plan.Run p) = run (run_asked p)
asked_by (plan.Eval files steps) = eval (words_of files.items) steps
asked_by (plan.Exec file limits) = exec (string_bytes file) limits
asked_by (plan.Debug script files limits) = debug (string_bytes script) (words_of files.items) limits
asked_by (plan.Big n) = big n
asked_by plan.Session = session

-- ---- names and limits

-- a file's name has at most 4,096 bytes, none of them 0
abbrev pub is_file_name : Text → Bool
is_file_name name = nat_le (length name) MOST_NAME_BYTES && not (list_any (λ b. b == 0) name)

-- worked examples
longest_name : is_file_name (repeat 4096 (codes "a")) ≡ true
longest_name = refl

past_the_longest : is_file_name (repeat 4097 (codes "a")) ≡ false
past_the_longest = refl

byte_0_in_it : is_file_name (97 ∷ 0 ∷ []) ≡ false
byte_0_in_it = refl

-- one name or more, each a file's
abbrev pub are_file_names : List Text → Bool
are_file_names names = nat_lt 0 (length names) && list_all is_file_name names

abbrev pub if_names : List Text → Option (List Text)
if_names names = if are_file_names names then Some names else None

abbrev pub files_in : List Row → Option (List Text)
files_in rows = option_and_then if_names (all_of (codes "FILES") rows)

abbrev pub if_name : Text → Option Text
if_name name = if is_file_name name then Some name else None

-- the name of the one file that is the value of an argument
abbrev pub file_in : Text → List Row → Option Text
file_in argument rows = option_and_then if_name (first_of argument rows)

-- the value of the argument from low to high, and the default where it is not used
abbrev pub value_in : Text → ℕ → ℕ → Option ℕ → List Row → Option ℕ
value_in name low high default rows = option_map_or (number_in low high) (first_of name rows) default

-- the limits if the words give none
abbrev pub usual_limits : RunLimits
usual_limits = record { heap_kib = 32768; stack_kib = 8192; steps = 1000000000 }

-- the most steps of a run, 2 ^ 62
abbrev pub most_steps : ℕ
most_steps = 4611686018427387904

abbrev pub steps_in : List Row → Option ℕ
steps_in rows = value_in (codes "steps") 1 most_steps (Some usual_limits.steps) rows

abbrev pub limits_in : List Row → Option RunLimits
limits_in rows =
    option_and_then (λ heap. option_and_then (λ stack. option_map (λ steps. record { heap_kib = heap; stack_kib = stack; steps = steps })
    (steps_in rows))
    (value_in (codes "stack") 4 65536 (Some usual_limits.stack_kib) rows))
    (value_in (codes "heap") 4 262144 (Some usual_limits.heap_kib) rows)

-- ---- flags

-- the flag stands among the words: clap gives it the value `true` then, and else `false`
abbrev pub is_set : Text → List Row → Bool
is_set flag rows = option_map_or (λ value. bytes_eq value (codes "true")) (first_of flag rows) false

-- ---- plans

-- the plan of the command, by what clap found
abbrev pub asked_of : CommandWord → List Row → Option Asked
asked_of Check rows = option_map check (files_in rows)
asked_of Asm rows = option_map asm (files_in rows)
asked_of Build rows = option_map build (files_in rows)
asked_of Run rows =
    option_and_then (λ files. option_map (λ limits. run (record { names = files; limits = limits; fold = is_set (codes "fold") rows })) (limits_in rows)) (files_in rows)
asked_of Eval rows = option_and_then (λ files. option_map (eval files) (steps_in rows)) (files_in rows)
asked_of Exec rows = option_and_then (λ file. option_map (exec file) (limits_in rows)) (file_in (codes "FILE") rows)
asked_of Debug rows =
    option_and_then (λ script. option_and_then (λ files. option_map (debug script files) (limits_in rows)) (files_in rows)) (file_in (codes "SCRIPT") rows)
asked_of Big rows = option_map big (value_in (codes "N") 1 300 None rows)
asked_of Session rows = Some session

-- clap finds no fault in the words, of which the first is the command's
abbrev pub is_accepted : CommandWord → List Text → Bool
is_accepted command words = is_empty (fault_of (app_for command) words)

abbrev pub plan_by : List Text → CommandWord → Option Asked
plan_by words command = if is_accepted command words then asked_of command (matches_of (app_for command) words) else None

-- the plan that the words after the program's name ask for
abbrev pub plan_of : List Text → Option Asked
plan_of [] = None
plan_of (word ∷ rest) = option_and_then (plan_by (word ∷ rest)) (command_of word)

-- computes clap's answer at words that are written out
unfoldable on_literals : ⊤
unfolding walked bundle_met chars encode_utf8 flags_fault walk_fault defaults_fault
on_literals = tt

-- worked examples
abbrev limits : ℕ → RunLimits
limits heap_kib = record usual_limits { heap_kib = heap_kib }

run_with_heap : plan_of (codes "run" ∷ codes "--heap=64" ∷ codes "hello.cl" ∷ []) ≡ Some (run (record { names = codes "hello.cl" ∷ []; limits = limits 64; fold = false }))
unfolding on_literals
run_with_heap = refl

run_of_two : plan_of (codes "run" ∷ codes "a.cl" ∷ codes "--heap" ∷ codes "0064" ∷ codes "b.cl" ∷ [])
    ≡ Some (run (record { names = codes "a.cl" ∷ codes "b.cl" ∷ []; limits = limits 64; fold = false }))
unfolding on_literals
run_of_two = refl

run_with_fold : plan_of (codes "run" ∷ codes "a.cl" ∷ codes "--fold" ∷ codes "--heap" ∷ codes "64" ∷ codes "b.cl" ∷ [])
    ≡ Some (run (record { names = codes "a.cl" ∷ codes "b.cl" ∷ []; limits = limits 64; fold = true }))
unfolding on_literals
run_with_fold = refl

eval_of_one : plan_of (codes "eval" ∷ codes "hello.cl" ∷ []) ≡ Some (eval (codes "hello.cl" ∷ []) 1000000000)
unfolding on_literals
eval_of_one = refl

eval_with_steps : plan_of (codes "eval" ∷ codes "a.cl" ∷ codes "--steps" ∷ codes "1000" ∷ codes "b.cl" ∷ []) ≡ Some (eval (codes "a.cl" ∷ codes "b.cl" ∷ []) 1000)
unfolding on_literals
eval_with_steps = refl

debug_of_one : plan_of (codes "debug" ∷ codes "--heap" ∷ codes "64" ∷ codes "steps.txt" ∷ codes "hello.cl" ∷ [])
    ≡ Some (debug (codes "steps.txt") (codes "hello.cl" ∷ []) (limits 64))
unfolding on_literals
debug_of_one = refl

debug_of_two : plan_of (codes "debug" ∷ codes "steps.txt" ∷ codes "a.cl" ∷ codes "--heap=64" ∷ codes "b.cl" ∷ [])
    ≡ Some (debug (codes "steps.txt") (codes "a.cl" ∷ codes "b.cl" ∷ []) (limits 64))
unfolding on_literals
debug_of_two = refl

name_with_hyphen : plan_of (codes "check" ∷ codes "--" ∷ codes "-x.cl" ∷ []) ≡ Some (check (codes "-x.cl" ∷ []))
unfolding on_literals
name_with_hyphen = refl

hyphen_alone : plan_of (codes "check" ∷ codes "-" ∷ []) ≡ Some (check (codes "-" ∷ []))
unfolding on_literals
hyphen_alone = refl

size_of_300 : plan_of (codes "big" ∷ codes "300" ∷ []) ≡ Some (big 300)
unfolding on_literals
size_of_300 = refl

session_alone : plan_of (codes "session" ∷ []) ≡ Some session
unfolding on_literals
session_alone = refl

-- worked examples of words that ask for no plan
no_words : plan_of [] ≡ None
no_words = refl

no_command : plan_of (codes "fly" ∷ codes "p.cl" ∷ []) ≡ None
no_command = refl

no_file : plan_of (codes "run" ∷ []) ≡ None
unfolding on_literals
no_file = refl

two_files : plan_of (codes "exec" ∷ codes "a" ∷ codes "b" ∷ []) ≡ None
unfolding on_literals
two_files = refl

heap_of_3 : plan_of (codes "run" ∷ codes "--heap" ∷ codes "3" ∷ codes "hello.cl" ∷ []) ≡ None
unfolding on_literals
heap_of_3 = refl

heap_twice : plan_of (codes "run" ∷ codes "--heap" ∷ codes "64" ∷ codes "--heap" ∷ codes "64" ∷ codes "hello.cl" ∷ []) ≡ None
unfolding on_literals
heap_twice = refl

fold_twice : plan_of (codes "run" ∷ codes "--fold" ∷ codes "--fold" ∷ codes "hello.cl" ∷ []) ≡ None
unfolding on_literals
fold_twice = refl

fold_with_value : plan_of (codes "run" ∷ codes "--fold=1" ∷ codes "hello.cl" ∷ []) ≡ None
unfolding on_literals
fold_with_value = refl

steps_of_1x : plan_of (codes "run" ∷ codes "--steps" ∷ codes "1x" ∷ codes "hello.cl" ∷ []) ≡ None
unfolding on_literals
steps_of_1x = refl

eval_with_heap : plan_of (codes "eval" ∷ codes "--heap" ∷ codes "64" ∷ codes "hello.cl" ∷ []) ≡ None
unfolding on_literals
eval_with_heap = refl

eval_with_fold : plan_of (codes "eval" ∷ codes "--fold" ∷ codes "hello.cl" ∷ []) ≡ None
unfolding on_literals
eval_with_fold = refl

eval_of_no_file : plan_of (codes "eval" ∷ []) ≡ None
unfolding on_literals
eval_of_no_file = refl

session_with_word : plan_of (codes "session" ∷ codes "p.cl" ∷ []) ≡ None
unfolding on_literals
session_with_word = refl

session_with_steps : plan_of (codes "session" ∷ codes "--steps=9" ∷ []) ≡ None
unfolding on_literals
session_with_steps = refl

session_with_hyphens : plan_of (codes "session" ∷ codes "--" ∷ codes "p.cl" ∷ []) ≡ None
unfolding on_literals
session_with_hyphens = refl

debug_of_no_file : plan_of (codes "debug" ∷ codes "steps.txt" ∷ []) ≡ None
unfolding on_literals
debug_of_no_file = refl

hyphen_first : plan_of (codes "check" ∷ codes "-x.cl" ∷ []) ≡ None
unfolding on_literals
hyphen_first = refl

help : plan_of (codes "check" ∷ codes "--help" ∷ []) ≡ None
unfolding on_literals
help = refl

-- ---- what an answer says

-- an Ok has the wanted value, the error Usage comes only if there is none, and the error Memory promises nothing
abbrev pub Answers : {T X : Type 0} → (T → X) → Option X → Result T WordsError → Type 0
Answers view wanted result = MatchResult result (λ t. wanted ≡ Some (view t)) (λ e. e ≡ Usage → wanted ≡ None)

-- ---- bounds

-- the limits are those that the words may set
pub record IsBounded (limits : RunLimits) : Type 0 where
  pub heap : IsWithin 4 262144 limits.heap_kib
  pub stack : IsWithin 4 65536 limits.stack_kib
  pub steps : IsWithin 1 most_steps limits.steps

abbrev pub HasFileNames : List Text → Type 0
HasFileNames names = are_file_names names ≡ true

-- the plan's names are those of files, and its numbers are in their bounds
abbrev pub IsWithinBounds : Plan → Type 0
IsWithinBounds (plan.Check files) = HasFileNames (words_of files.items)
IsWithinBounds (plan.Asm files) = HasFileNames (words_of files.items)
IsWithinBounds (plan.Build files) = HasFileNames (words_of files.items)
IsWithinBounds (plan.Run p) = HasFileNames (words_of p.files.items) × IsBounded p.limits
IsWithinBounds (plan.Eval files steps) = HasFileNames (words_of files.items) × IsWithin 1 most_steps steps
IsWithinBounds (plan.Exec file limits) = (is_file_name (string_bytes file) ≡ true) × IsBounded limits
IsWithinBounds (plan.Debug script files limits) = (is_file_name (string_bytes script) ≡ true) × HasFileNames (words_of files.items) × IsBounded limits
IsWithinBounds (plan.Big n) = IsWithin 1 300 n
IsWithinBounds plan.Session = Unit {0}
