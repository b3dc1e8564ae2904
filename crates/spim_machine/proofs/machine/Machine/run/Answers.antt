use Rattle.std.proofs.Common.{ap}
use Rattle.spim_machine.specs.declared.halt.Stopped.{Stopped}
use Rattle.spim_machine.proofs.RunsWithoutBreaks.{ran_without_breaks}
use Rattle.spim_machine.proofs.PutsOfRuns.{put_within}
use Rattle.spim_machine.proofs.machine.Machine.run.Goals as goal

pub returns-clause-ran : goal.returns-clause-ran
returns-clause-ran g c first s goes input rest leaves is =
    ran_without_breaks _ _ c.args.budget s first c.run_to.result.halt _ _ _ (c.run_to.ensures.ran first s goes input rest leaves is).ran

pub returns-clause-again : goal.returns-clause-again
returns-clause-again g c halt is = ap (λ (stopped : Stopped). stopped.halt) (c.run_to.ensures.again halt is)

pub returns-clause-puts : goal.returns-clause-puts
returns-clause-puts g c first s goes input rest leaves is =
    put_within _ _ c.args.budget c.run_to.result.executed s first c.run_to.result.halt _ _ _ _ _ c.run_to.ensures.most (c.run_to.ensures.ran first s goes input rest leaves is)
    (c.run_to.ensures.puts first s goes input rest leaves is)
