-- The postconditions of `cool` also hold, from the start of the process, for files, input and outputs that were not used before the call.
use Rattle.std.proofs.Common.{◌≡◌, ℕ, List, [], subst, sym}
use Rattle.std.specs.Prelude.{Option, Some, None}
use Rattle.cool_ports.specs.Answers.{Past, Leaves, nothing_yet}
use Rattle.cool_driver.specs.{Calls.{call_of}, Ends.{Ends}, System.{RunsAsSource, shelf_since_made, sink_since_made}}

-- the end of a call
pub fresh_ends : (words : List (List ℕ)) (status : ℕ) (refused refused' : ℕ) (asked gave : List (List ℕ)) (past past' : Past) (unread unread' : ℕ)
    (held held' : Option (List ℕ)) (unwritten unwritten' : ℕ) (puts puts' : List (List ℕ))
    (noted noted' : Option (List ℕ)) (unnoted unnoted' : ℕ) (notes notes' : List (List ℕ))
    → refused ≡ 0 → past ≡ nothing_yet → unread ≡ 0 → held ≡ Some [] → unwritten ≡ 0 → puts ≡ [] → noted ≡ Some [] → unnoted ≡ 0 → notes ≡ []
    → ((given rest : List ℕ) → Leaves past past' given rest → Ends (call_of words
    (record { files = None; faults_before = refused; faults_after = refused'; asked_after = asked; gave_after = gave }) given rest unread unread'
    (record { held_before = held; held_after = held'; faults_before = unwritten; faults_after = unwritten'; puts_before = puts; puts_after = puts' })
    (record { held_before = noted; held_after = noted'; faults_before = unnoted; faults_after = unnoted'; puts_before = notes; puts_after = notes' })) status)
    → (given rest : List ℕ) → Leaves nothing_yet past' given rest → Ends (call_of words (shelf_since_made refused' asked gave) given rest 0 unread'
    (sink_since_made held' unwritten' puts') (sink_since_made noted' unnoted' notes')) status
fresh_ends words status refused refused' asked gave past past' unread unread' held held' unwritten unwritten' puts puts' noted noted' unnoted unnoted' notes notes'
    calm fresh still none well unput unsaid sure untold ends given rest leaves =
    subst (λ (x : Type 0). x)
    (λ i. Ends (call_of words
    (record { files = None; faults_before = calm i; faults_after = refused'; asked_after = asked; gave_after = gave }) given rest (still i) unread'
    (record { held_before = none i; held_after = held'; faults_before = well i; faults_after = unwritten'; puts_before = unput i; puts_after = puts' })
    (record { held_before = unsaid i; held_after = noted'; faults_before = sure i; faults_after = unnoted'; puts_before = untold i; puts_after = notes' })) status)
    (ends given rest (subst (λ (p : Past). Leaves p past' given rest) (sym fresh) leaves))

-- and what it says of a program that runs
pub fresh_ran : (words : List (List ℕ)) (status : ℕ) (refused refused' : ℕ) (asked gave : List (List ℕ)) (past past' : Past) (held held' : Option (List ℕ))
    → refused ≡ 0 → past ≡ nothing_yet → held ≡ Some []
    → RunsAsSource words (record { files = None; faults_before = refused; faults_after = refused'; asked_after = asked; gave_after = gave }) past past' held held' status
    → RunsAsSource words (shelf_since_made refused' asked gave) nothing_yet past' (Some []) held' status
fresh_ran words status refused refused' asked gave past past' held held' calm fresh none ran =
    subst (λ (x : Type 0). x)
    (λ i. RunsAsSource words (record { files = None; faults_before = calm i; faults_after = refused'; asked_after = asked; gave_after = gave }) (fresh i) past' (none i) held' status)
    ran
