use Rattle.cool_simulation.proofs.shown.Images.{programs_shown, visits_shown}
use Rattle.cool_simulation.proofs.shown.SpansVisited.{rows_are_visits}
use Rattle.cool_simulation.proofs.laws.law_shown.Goals as goal

pub returns : goal.returns
returns c = record { met = visits_shown; anywhere = programs_shown; visited = rows_are_visits }
