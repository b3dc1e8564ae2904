-- If a call writes the text and the message of its outcome, or a write of these fails, its status and outputs are as specified.
use Rattle.std.proofs.Common.{◌≡◌, ◌≢◌, ◌<◌, ◌⊎◌, inl, inr, ℕ, List, [], ◌∷◌, ◌++◌, length, refl, sym, ◌∙◌, ap, subst, append-nil, arith}
use Rattle.std.specs.Prelude.{◌==◌, Bool, true, false}
use Rattle.cool_ports.specs.Counts.{Rose}
use Rattle.cool_ports.specs.SinkBytes.{appended, GotPrefix}
use Rattle.cool_ports.specs.SinkPuts.{PutFront, pieces_of}
use Rattle.cool_ports.proofs.GettingBytes.{appended-nil}
use Rattle.cool_sources.specs.Devices.{SinkUse}
use Rattle.cool_sources.specs.Ends.{HasGot, IsDone, IsTold, WasCut, puts_of}
use Rattle.cool_sources.specs.Ends.IsDone.{out_cut, whole}
use Rattle.cool_sources.specs.Ends.IsTold.{cut, told}
use Rattle.cool_sources.specs.declared.status.Status.{Status}
use Rattle.cool_sources.specs.declared.status.Status.TheVariants.{WriteFault}

-- a sink that was not used got nothing
pub got_nothing : (sink : SinkUse) → sink.faults_after ≡ sink.faults_before → sink.held_after ≡ sink.held_before → sink.puts_after ≡ sink.puts_before → HasGot sink [] []
got_nothing sink calm held puts = record {
  calm = calm;
  held = held ∙ sym (appended-nil sink.held_before);
  put = puts ∙ sym (append-nil sink.puts_before);
}

-- a note that is not empty is put at once
puts_of_some : (note : List ℕ) → 0 < length note → puts_of note ≡ note ∷ []
puts_of_some [] some = absurd (omega (arith, some))
puts_of_some (b ∷ note) some = refl

-- no note
pub told_none : (status : Status) (note : List ℕ) (notes : SinkUse) → note ≡ [] → notes.faults_after ≡ notes.faults_before → notes.held_after ≡ notes.held_before
    → notes.puts_after ≡ notes.puts_before → IsTold status note notes status
told_none status note notes none calm held puts =
    subst (λ (bytes : List ℕ). IsTold status bytes notes status) (sym none) (told (got_nothing notes calm held puts))

-- the result of `tell`
pub told_some : (status result : Status) (note : List ℕ) (notes : SinkUse) → 0 < length note → status ≢ WriteFault → (result ≡ status) ⊎ (result ≡ WriteFault)
    → (result ≢ WriteFault → notes.held_after ≡ appended notes.held_before note) → (result ≢ WriteFault → notes.faults_after ≡ notes.faults_before)
    → (result ≡ WriteFault → Rose notes.faults_before notes.faults_after) → (result ≡ WriteFault → GotPrefix notes.held_before note notes.held_after)
    → notes.puts_after ≡ notes.puts_before ++ note ∷ [] → IsTold status note notes result
told_some status result note notes some other (inl same) held calm failed got put =
    let written : result ≢ WriteFault = λ e. other (sym same ∙ e) in
    subst (λ (s : Status). IsTold status note notes s) (sym same)
    (told (record { calm = calm written; held = held written; put = put ∙ ap (λ (ps : List (List ℕ)). notes.puts_before ++ ps) (sym (puts_of_some note some)) }))
told_some status result note notes some other (inr same) held calm failed got put =
    subst (λ (s : Status). IsTold status note notes s) (sym same)
    (cut (record { failed = failed same; got = got same }) (put ∙ ap (λ (ps : List (List ℕ)). notes.puts_before ++ ps) (sym (puts_of_some note some))))

-- the text was written, and then the note
pub done_whole : (status result : Status) (text note bytes told_note : List ℕ) (out notes : SinkUse) → bytes ≡ text → told_note ≡ note → out.faults_after ≡ out.faults_before
    → out.held_after ≡ appended out.held_before bytes → out.puts_after ≡ out.puts_before ++ pieces_of 4096 bytes → IsTold status told_note notes result
    → IsDone status text note out notes result
done_whole status result text note bytes told_note out notes is is_note calm held put is_told =
    subst (λ (t : List ℕ). IsDone status t note out notes result) is
    (whole result (record { calm = calm; held = held; put = put }) (subst (λ (n : List ℕ). IsTold status n notes result) is_note is_told))

-- a write of the text failed
pub done_cut : (status : Status) (text note bytes : List ℕ) (out notes : SinkUse) → bytes ≡ text → Rose out.faults_before out.faults_after
    → GotPrefix out.held_before bytes out.held_after → PutFront out.puts_before (pieces_of 4096 bytes) out.puts_after → HasGot notes [] []
    → IsDone status text note out notes WriteFault
done_cut status text note bytes out notes is failed got put unused =
    subst (λ (t : List ℕ). IsDone status t note out notes WriteFault) is (out_cut (record { failed = failed; got = got }) put unused)

-- whether bytes are there
pub no_bytes : (bytes : List ℕ) → true ≡ (length bytes == 0) → bytes ≡ []
no_bytes [] h = refl
no_bytes (b ∷ bytes) h = absurd (grind (arith, h))

pub some_bytes : (bytes : List ℕ) → false ≡ (length bytes == 0) → 0 < length bytes
some_bytes [] h = absurd (grind (arith, h))
some_bytes (b ∷ bytes) h = omega arith
