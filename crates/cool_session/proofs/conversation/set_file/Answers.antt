use Rattle.std.proofs.Common.{◌≡◌, rules, sym, ap, ◌∙◌, ℕ, List}
use Rattle.std.specs.Prelude.{Err}
use Rattle.cool_faults.specs.Files.{bytes_of}
use Rattle.cool_ports.proofs.InputsInParts.{leaves_same}
use Rattle.cool_session.specs.Files.{files_set, names_of}
use Rattle.cool_session.specs.Held.{held_by}
use Rattle.cool_session.specs.NewFeatures.{base_seen}
use Rattle.cool_session.proofs.CommandsDone.{no_room, some_room, file_too_large, file_cut, file_unended, file_set, file_unset, held_is}
use Rattle.cool_session.proofs.conversation.set_file.Goals as goal
use Rattle.lists.proofs.Results.{on_ok}

pub returns-then-is_err-clause-obeyed : goal.returns-then-is_err-clause-obeyed
returns-then-is_err-clause-obeyed g c = λ input rest left held ask leaves.
    file_too_large c.args.number (held_by c.args.session.now) input c.args.name.now c.args.size rest ask (held_by c.args.session.now) left held
    (no_room c.has_room.result _ c.has_room.ensures (sym c.is_err.ensures.value ∙ c.if-is_err.true)) (leaves_same _ rest left leaves)

pub returns-in_err-bytes-clause-obeyed : goal.returns-in_err-bytes-clause-obeyed
returns-in_err-bytes-clause-obeyed g c = λ input rest left held ask leaves.
    let e = c.in_err-bytes.field-0.0 in
    let same : c.from_residual.result ≡ Err e = search rules in
    let room = some_room c.has_room.result _ c.has_room.ensures (sym c.is_err.ensures.value ∙ c.if-is_err.false) in
    rw same
    (file_cut c.args.number (held_by c.args.session.now) input c.args.name.now c.args.size rest ask _ left held room e
    (c.in_err-bytes.ensures.file rest left leaves))

pub returns-in_default-clause-obeyed : goal.returns-in_default-clause-obeyed
returns-in_default-clause-obeyed g c = λ input rest left held ask leaves.
    let room = some_room c.has_room.result _ c.has_room.ensures (sym c.is_err.ensures.value ∙ c.if-is_err.false) in
    let file = rw c.in_default.is at (c.in_ok-bytes.ensures.file rest left leaves) in
    file_unended c.args.number (held_by c.args.session.now) input c.args.name.now c.args.size rest ask (held_by c.args.session.now) left held room
    file

pub returns-then-is_err-2-clause-obeyed : goal.returns-then-is_err-2-clause-obeyed
returns-then-is_err-2-clause-obeyed g c = λ input rest left held ask leaves.
    let room = some_room c.has_room.result _ c.has_room.ensures (sym c.is_err.ensures.value ∙ c.if-is_err.false) in
    let file = rw c.in-Some.is at (c.in_ok-bytes.ensures.file rest left leaves) in
    file_unset c.args.number (held_by c.args.session.now) input c.args.name.now c.args.size rest ask (held_by c.set_file.new.self) left held room
    c.in-Some.bytes.items file

pub returns-clause-obeyed : goal.returns-clause-obeyed
returns-clause-obeyed g c =
    let session = c.args.session.now in
    let room = some_room c.has_room.result _ c.has_room.ensures (sym c.is_err.ensures.value ∙ c.if-is_err.false) in
    let put = sym c.is_err-2.ensures.value ∙ c.if-is_err-2.false in
    let files = on_ok c.set_file.result put c.set_file.ensures.files
    ∙ ap (λ (bytes : List ℕ). files_set (names_of session.names.items) (bytes_of session.files.items) c.args.name.now bytes) c.deref.ensures.value
    in
    let held = held_is _ _ _ _ _ _ (on_ok c.set_file.result put c.set_file.ensures.names) files (ap base_seen c.set_file.ensures.base) in
    λ input rest left kept ask leaves.
    let file = rw c.in-Some.is at (c.in_ok-bytes.ensures.file rest left leaves) in
    file_set c.args.number (held_by session) input c.args.name.now c.args.size rest ask (held_by c.set_file.new.self) left kept room
    c.in-Some.bytes.items file held
