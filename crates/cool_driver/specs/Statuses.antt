-- The thirteen exit statuses of a call of `cool`, as numbers with names.
use Rattle.std.specs.Prelude.{ℕ}
use Rattle.cool_driver.specs.declared.status.Status.{Status}
use Rattle.cool_driver.specs.declared.status.Status.TheVariants as status

-- the run ended well, or the files were accepted
abbrev pub DONE : ℕ
DONE = 0

-- the files are no program
abbrev pub REFUSED : ℕ
REFUSED = 1

-- the words are no command line
abbrev pub USAGE : ℕ
USAGE = 2

-- the program exited with a code that is none of 0, 4 and 5, or ended with a run-time error
abbrev pub FAILED : ℕ
FAILED = 3

-- the program ended at its heap's limit
abbrev pub HEAP_LIMIT : ℕ
HEAP_LIMIT = 4

-- the program ended at its stack's limit
abbrev pub STACK_LIMIT : ℕ
STACK_LIMIT = 5

-- the run did not end within its steps
abbrev pub STEP_LIMIT : ℕ
STEP_LIMIT = 6

-- the input failed
abbrev pub READ_FAULT : ℕ
READ_FAULT = 7

-- a write failed
abbrev pub WRITE_FAULT : ℕ
WRITE_FAULT = 8

-- memory ran out
abbrev pub OUT_OF_MEMORY : ℕ
OUT_OF_MEMORY = 9

-- a file was not read, or there are too many
abbrev pub FILE_FAULT : ℕ
FILE_FAULT = 10

-- the machine trapped
abbrev pub TRAPPED : ℕ
TRAPPED = 11

-- the file, the script or the input of a session has a fault
abbrev pub UNFIT : ℕ
UNFIT = 12

-- the number of a status of the code
abbrev pub code_of : Status → ℕ
code_of status.Done = DONE
code_of status.Refused = REFUSED
code_of status.Usage = USAGE
code_of status.Failed = FAILED
code_of status.HeapLimit = HEAP_LIMIT
code_of status.StackLimit = STACK_LIMIT
code_of status.StepLimit = STEP_LIMIT
code_of status.ReadFault = READ_FAULT
code_of status.WriteFault = WRITE_FAULT
code_of status.Memory = OUT_OF_MEMORY
code_of status.FileFault = FILE_FAULT
code_of status.Trapped = TRAPPED
code_of status.Unfit = UNFIT
