-- The parsed command line has the output format and the file names that the arguments ask for, so a run of it ends as the specification of these says.
use Rattle.std.proofs.Common.{◌≡◌, ◌⊎◌, inl, inr, ℕ, List, [], Bool, true, false, Option, Some, None, refl, sym, subst}
use Rattle.cool_ports.specs.ShelfFiles.{AskedFront}
use Rattle.cool_sources.specs.CommandLine.{IsCall, call_of, words_of}
use Rattle.cool_sources.specs.Devices.{ShelfUse, SinkUse}
use Rattle.cool_sources.specs.Ends.{HasEnded}
use Rattle.cool_sources.specs.declared.command_line.Call.{Call}
use Rattle.cool_sources.specs.declared.status.Status.{Status}
use Rattle.cool_listings.specs.Ends.{spec_of}
use Rattle.cool_listings.specs.Processes.{call_asked, form_of, names_of, option_of, other_form}
use Rattle.cool_listings.specs.declared.form.Form.{Form}
use Rattle.cool_listings.specs.declared.form.Form.TheVariants.{Marks}

-- a call with the form that its flag chooses
pub asked_by_call : (other : Form) (asked : Option (Bool × List (List ℕ))) (call : Call) (form : Form) → IsCall asked (Some call)
    → ((call.other ≡ true) × (form ≡ other)) ⊎ ((call.other ≡ false) × (form ≡ Marks)) → (form_of other asked ≡ form) × (names_of asked ≡ words_of call.names.now)
asked_by_call other None call form h chosen = absurd h
asked_by_call other (Some (true, names)) call form h (inl (flag, is)) = (sym is, sym h.1)
asked_by_call other (Some (true, names)) call form h (inr (flag, is)) = let wrong : call.other ≡ true = h.0 in absurd cc
asked_by_call other (Some (false, names)) call form h (inl (flag, is)) = let wrong : call.other ≡ false = h.0 in absurd cc
asked_by_call other (Some (false, names)) call form h (inr (flag, is)) = (sym is, sym h.1)

-- the call that is read with the option of the form is that of the arguments
pub call_read : (words : List (List ℕ)) (other : Form) (option : List ℕ) (call : Option Call) → other ≡ other_form words → option ≡ option_of other → IsCall (call_of option words) call
    → IsCall (call_asked words) call
call_read words other option call chosen is h =
    subst (λ (form : Form). IsCall (call_of (option_of form) words) call) chosen (subst (λ (bytes : List ℕ). IsCall (call_of bytes words) call) is h)

-- and no call
pub asked_by_none : (other : Form) (asked : Option (Bool × List (List ℕ))) → IsCall asked None → (form_of other asked ≡ Marks) × (names_of asked ≡ [])
asked_by_none other None h = (refl, refl)
asked_by_none other (Some call) h = absurd h

-- a call of an equal form and equal names ends so
pub ended_so : (form other : Form) (names words : List (List ℕ)) (shelf : ShelfUse) (out notes : SinkUse) (status : Status) → form ≡ other → names ≡ words
    → HasEnded (spec_of other) shelf words out notes status → HasEnded (spec_of form) shelf names out notes status
ended_so form other names words shelf out notes status e f h =
    subst (λ (x : Form). HasEnded (spec_of x) shelf names out notes status) (sym e)
    (subst (λ (ws : List (List ℕ)). HasEnded (spec_of other) shelf ws out notes status) (sym f) h)

pub asked_so : (names words asked : List (List ℕ)) → names ≡ words → AskedFront words [] asked → AskedFront names [] asked
asked_so names words asked f h = subst (λ (ws : List (List ℕ)). AskedFront ws [] asked) (sym f) h
