-- The parsed command line has the output format and the file names that the arguments ask for, so a run of it ends as the specification of these says.
use Rattle.std.proofs.Common.{◌≡◌, ◌⊎◌, inl, inr, ℕ, List, [], Bool, true, false, Option, Some, None, refl, sym, subst}
use Rattle.cool_ports.specs.ShelfFiles.{AskedFront}
use Rattle.cool_sources.specs.CommandLine.{IsCall, words_of}
use Rattle.cool_sources.specs.Devices.{ShelfUse, SinkUse}
use Rattle.cool_sources.specs.Ends.{HasEnded}
use Rattle.cool_sources.specs.declared.command_line.Call.{Call}
use Rattle.cool_sources.specs.declared.status.Status.{Status}
use Rattle.cool_explanations.specs.Ends.{spec_of}
use Rattle.cool_explanations.specs.Processes.{form_of, names_of}
use Rattle.cool_explanations.specs.declared.form.Form.{Form}
use Rattle.cool_explanations.specs.declared.form.Form.TheVariants.{Lines, Text}

-- a call with the form that its flag chooses
pub call_asked : (asked : Option (Bool × List (List ℕ))) (call : Call) (form : Form) → IsCall asked (Some call) → ((call.other ≡ true) × (form ≡ Lines)) ⊎ ((call.other ≡ false) × (form ≡ Text))
    → (form_of asked ≡ form) × (names_of asked ≡ words_of call.names.now)
call_asked None call form h chosen = absurd h
call_asked (Some (true, names)) call form h (inl (other, is)) = (sym is, sym h.1)
call_asked (Some (true, names)) call form h (inr (other, is)) = let wrong : call.other ≡ true = h.0 in absurd cc
call_asked (Some (false, names)) call form h (inl (other, is)) = let wrong : call.other ≡ false = h.0 in absurd cc
call_asked (Some (false, names)) call form h (inr (other, is)) = (sym is, sym h.1)

-- and no call
pub none_asked : (asked : Option (Bool × List (List ℕ))) → IsCall asked None → (form_of asked ≡ Text) × (names_of asked ≡ [])
none_asked None h = (refl, refl)
none_asked (Some call) h = absurd h

-- a call of an equal form and equal names ends so
pub ended_so : (form other : Form) (names words : List (List ℕ)) (shelf : ShelfUse) (out notes : SinkUse) (status : Status) → form ≡ other → names ≡ words
    → HasEnded (spec_of other) shelf words out notes status → HasEnded (spec_of form) shelf names out notes status
ended_so form other names words shelf out notes status e f h =
    subst (λ (x : Form). HasEnded (spec_of x) shelf names out notes status) (sym e)
    (subst (λ (ws : List (List ℕ)). HasEnded (spec_of other) shelf ws out notes status) (sym f) h)

pub asked_so : (names words asked : List (List ℕ)) → names ≡ words → AskedFront words [] asked → AskedFront names [] asked
asked_so names words asked f h = subst (λ (ws : List (List ℕ)). AskedFront ws [] asked) (sym f) h
