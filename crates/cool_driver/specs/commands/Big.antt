-- The postcondition of `big`: its line of output gives the sizes and the outcome of a generated program of a given number, compiled and run within the usual
-- limits on empty input.
use Rattle.std.specs.{Prelude.{◌≡◌, ℕ, ◌+◌, ◌<◌, ◌≤◌, List, [], ◌∷◌, ◌++◌, length, codes, decimal, refl, None, false}, Fmt.{digits}}
use Rattle.cool_big.specs.BigPrograms.{big_text}
use Rattle.cool_classes.specs.Chains.{Class}
use Rattle.cool_faults.specs.{declared.fault.Fault.{Fault}, Verdicts.{IsAccepted, IsRefused}}
use Rattle.mips_isa.specs.{Assembly.{image_of}, Calls.{Outcome}}
use Rattle.cool_emit.specs.Programs.{program_lines}
use Rattle.cool_meaning.specs.SourceRun as source
use Rattle.cool_simulation.specs.Accord.{Accord}
use Rattle.cool_words.specs.Plans.{usual_limits}
use Rattle.cool_driver.specs.{Calls.{Request, Call, Got, UnlessCutShort}, Comes.{Comes}, Does.{Doing}, Statuses.{DONE, REFUSED, WRITE_FAULT}, Execution.{run_of, status_of}, Headline.{limits_of}}
use Rattle.cool_driver.specs.declared.TheConstants.{MOST_BIG_OUTPUT}
use Rattle.spim_debug.specs.Notes.{state_in}

-- its one file, and the file's name
abbrev pub big_files : ℕ → List (List ℕ)
big_files n = big_text n ∷ []

abbrev pub big_names : List (List ℕ)
big_names = codes "big.cl" ∷ []

-- the run of a program over no input
abbrev pub big_run : List Class → Outcome
big_run p = run_of usual_limits (image_of (program_lines p big_names)) []

-- its status, its output and what it left of no input accord with the runs of the source within the usual limits
abbrev pub AccordsWithSource : List Class → Type 0
AccordsWithSource p =
    Accord (source.run p big_names []) (limits_of usual_limits) (status_of (big_run p)) (state_in (big_run p)).output (state_in (big_run p)).input

-- The outcome of a run: the number of bytes of its output, and its status. If more bytes are written than are counted, the status is 8.
pub data RunsTo (o : Outcome) : ℕ → ℕ → Type 0 where
  counted : length (state_in o).output ≤ MOST_BIG_OUTPUT → RunsTo o (length (state_in o).output) (status_of o)
  too_long : MOST_BIG_OUTPUT < length (state_in o).output → RunsTo o MOST_BIG_OUTPUT WRITE_FAULT

-- The outcome of files of these bytes: status 1 without output if they are refused, and else that of their program's run, in accord with the runs of the
-- source.
pub data ComesOut (contents : List (List ℕ)) (output status : ℕ) : Type 0 where
  refused : (faults : List Fault) → IsRefused contents faults → output ≡ 0 → status ≡ REFUSED → ComesOut contents output status
  ran : (p : List Class) → IsAccepted contents p → AccordsWithSource p → RunsTo (big_run p) output status → ComesOut contents output status

-- the line for a program of so many bytes and classes
abbrev pub summary : ℕ → ℕ → ℕ → ℕ → ℕ → List ℕ
summary n source classes output status =
    codes "big " ++ (decimal n ++ (codes ": " ++ (decimal source ++ (codes " source bytes, " ++ (decimal classes ++ (codes " classes, "
    ++ (decimal output ++ (codes " output bytes, status " ++ (decimal status ++ codes "\n")))))))))

-- the line of a number
abbrev pub IsBigLine : ℕ → List ℕ → Type 0
IsBigLine n line =
    (output : ℕ) × (status : ℕ) × ComesOut (big_files n) output status × (line ≡ summary n (length (big_text n)) (n + 2) output status)

-- a worked example
line_for_one : summary 1 305 3 40 0 ≡ codes "big 1: 305 source bytes, 3 classes, 40 output bytes, status 0\n"
unfolding digits
line_for_one = refl

-- The result that is due to `big` with this number: its line.
pub data DueToBig (n : ℕ) (r : Request) : ℕ → List ℕ → List ℕ → List ℕ → Type 0 where
  summed : (line : List ℕ) → IsBigLine n line → r.faults_after ≡ r.faults_before → DueToBig n r DONE line [] r.input

pub data PiecesOfBig (n : ℕ) (r : Request) : List ℕ → List ℕ → List ℕ → Type 0 where
  of_line : (line : List ℕ) → IsBigLine n line → r.faults_after ≡ r.faults_before → PiecesOfBig n r [] line r.input

-- The end of a call of `big` with this number.
pub record BigEnds (n : ℕ) (c : Call) (status : ℕ) : Type 0 where
  pub comes : Comes (DueToBig n c.request) (PiecesOfBig n c.request) c status
  pub summed_exactly : UnlessCutShort status ((status ≡ DONE) × (line : List ℕ) × IsBigLine n line × Got c.out line)

-- The specification of `big` with this number.
abbrev pub summing : ℕ → Doing
summing n = record { asked = []; sources = None; takes = false; ends = BigEnds n }
