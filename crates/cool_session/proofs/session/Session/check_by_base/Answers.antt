-- `Session::check_by_base` replies with the results of the stored check (base) if it belongs to the present files. Otherwise a reply of `check_edited` comes
-- with a stored check of the present files.
use Rattle.cool_session.proofs.PresentChecks.{present, faults_present, placed_present, none_typed, faults_replied, placed_replied, typed_replied}
use Rattle.cool_session.proofs.session.Session.check_by_base.Goals as goal
use Rattle.cool_faults.specs.Files.{bytes_of}

pub returns-then-self-clause-faults : goal.returns-then-self-clause-faults
returns-then-self-clause-faults g c =
    let now = c.args.self.now in
    let base = c.in-Some.base in
    let h = present now.is_current (bytes_of now.files.items) now.base base c.if-self.true c.in-Some.is now.current in
    faults_present now.files.items base h c.in_ok-known.field-0.faults.items c.in_ok-known.ensures.faults

pub returns-then-self-clause-placed : goal.returns-then-self-clause-placed
returns-then-self-clause-placed g c =
    let now = c.args.self.now in
    let base = c.in-Some.base in
    let h = present now.is_current (bytes_of now.files.items) now.base base c.if-self.true c.in-Some.is now.current in
    placed_present now.files.items base h c.requires c.in_ok-known.field-0.faults.items c.in_ok-known.ensures.faults

pub returns-then-self-clause-typed : goal.returns-then-self-clause-typed
returns-then-self-clause-typed g c =
    let now = c.args.self.now in
    let base = c.in-Some.base in
    let h = present now.is_current (bytes_of now.files.items) now.base base c.if-self.true c.in-Some.is now.current in
    none_typed now.files.items base h now.base c.in-Some.is c.in_ok-known.field-0.typed c.in_ok-known.ensures.typed

pub returns-clause-faults : goal.returns-clause-faults
returns-clause-faults g c =
    faults_replied c.as_slice.result.now c.args.self.now.files.items c.as_slice.ensures.value c.check_edited.new.base c.in_ok-reply.reply
    c.in_ok-reply.ensures.base c.in_ok-reply.ensures.faults

pub returns-clause-placed : goal.returns-clause-placed
returns-clause-placed g c =
    placed_replied c.as_slice.result.now c.args.self.now.files.items c.as_slice.ensures.value c.check_edited.new.base c.requires c.in_ok-reply.reply
    c.in_ok-reply.ensures.base c.in_ok-reply.ensures.faults

pub returns-clause-typed : goal.returns-clause-typed
returns-clause-typed g c =
    typed_replied c.as_slice.result.now c.args.self.now.files.items c.as_slice.ensures.value c.check_edited.new.base c.args.self.now.base c.in-Some.base
    c.in-Some.is c.in_ok-reply.reply c.in_ok-reply.ensures.base c.in_ok-reply.ensures.fresh
