-- `Counted` relates a result to the numbers of failed reads of the source and failed writes of the sink: the result is such a fault exactly if its number
-- rose.
use Rattle.std.specs.Prelude.{◌≡◌, ◌<◌, ℕ, Result, Ok, Err}
use Rattle.cool_ports.specs.Counts.{Rose}
use Rattle.cool_eval.specs.declared.ending.Ending.{Ending}
use Rattle.cool_eval.specs.declared.ending.Ending.TheVariants as ending
use Rattle.cool_eval.specs.declared.evaluation.EvalEnd.{EvalEnd}
use Rattle.cool_eval.specs.declared.evaluation.EvalEnd.TheVariants.{Done, Error, StepLimit, ReadFault, WriteFault, Memory}

-- neither count changed
abbrev pub NoneRose : ℕ → ℕ → ℕ → ℕ → Type 0
NoneRose source source' sink sink' = (source' ≡ source) × (sink' ≡ sink)

-- A fault of reading or writing comes only if its count rose, and any other result only if neither count did.
abbrev pub Counted : {A : Type 0} → Result A Ending → ℕ → ℕ → ℕ → ℕ → Type 0
Counted (Ok x) source source' sink sink' = NoneRose source source' sink sink'
Counted (Err ending.ReadFault) source source' sink sink' = Rose source source' × (sink' ≡ sink)
Counted (Err ending.WriteFault) source source' sink sink' = (source' ≡ source) × Rose sink sink'
Counted (Err (ending.Error e)) source source' sink sink' = NoneRose source source' sink sink'
Counted (Err ending.StepLimit) source source' sink sink' = NoneRose source source' sink sink'
Counted (Err ending.Memory) source source' sink sink' = NoneRose source source' sink sink'
Counted (Err ending.Stuck) source source' sink sink' = NoneRose source source' sink sink'

-- `Counted` for the end of a whole run
abbrev pub CountedEnd : EvalEnd → ℕ → ℕ → ℕ → ℕ → Type 0
CountedEnd ReadFault source source' sink sink' = Rose source source' × (sink' ≡ sink)
CountedEnd WriteFault source source' sink sink' = (source' ≡ source) × Rose sink sink'
CountedEnd Done source source' sink sink' = NoneRose source source' sink sink'
CountedEnd Error source source' sink sink' = NoneRose source source' sink sink'
CountedEnd StepLimit source source' sink sink' = NoneRose source source' sink sink'
CountedEnd Memory source source' sink sink' = NoneRose source source' sink sink'

-- the output at the end changes only the sink
abbrev pub CountedFinish : Result (Unit {0}) Ending → EvalEnd → ℕ → ℕ → Type 0
CountedFinish (Ok x) end sink sink' = CountedEnd end 0 0 sink sink'
CountedFinish (Err (ending.Error e)) end sink sink' = CountedEnd end 0 0 sink sink'
CountedFinish (Err ending.StepLimit) end sink sink' = (end ≡ StepLimit) × (sink' ≡ sink)
CountedFinish (Err ending.ReadFault) end sink sink' = (end ≡ ReadFault) × (sink' ≡ sink)
CountedFinish (Err ending.WriteFault) end sink sink' = (end ≡ WriteFault) × (sink' ≡ sink)
CountedFinish (Err ending.Memory) end sink sink' = (end ≡ Memory) × (sink' ≡ sink)
CountedFinish (Err ending.Stuck) end sink sink' = (end ≡ Memory) × (sink' ≡ sink)

-- A fault of reading or writing comes only after a step was spent.
abbrev pub FaultsInCalls : {A : Type 0} → Result A Ending → ℕ → ℕ → Type 0
FaultsInCalls (Ok x) left left' = Unit {0}
FaultsInCalls (Err ending.ReadFault) left left' = left' < left
FaultsInCalls (Err ending.WriteFault) left left' = left' < left
FaultsInCalls (Err (ending.Error e)) left left' = Unit {0}
FaultsInCalls (Err ending.StepLimit) left left' = Unit {0}
FaultsInCalls (Err ending.Memory) left left' = Unit {0}
FaultsInCalls (Err ending.Stuck) left left' = Unit {0}

-- neither a read nor a write failed
abbrev pub IsInner : Ending → Type 0
IsInner ending.ReadFault = ⊥
IsInner ending.WriteFault = ⊥
IsInner _ = Unit {0}
