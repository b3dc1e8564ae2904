-- Each step of the loop of `read_files` adds the bytes of the next file. If a file is refused, `read_files` returns the name of that file and the reason.
use Rattle.std.proofs.Common.{◌≡◌, ◌∙◌, rules, ap, length, arith}
use Rattle.std.specs.Prelude.{Err}
use Rattle.cool_sources.specs.Devices.{shelf_use}
use Rattle.cool_sources.specs.declared.reading.ReadError.TheVariants.{Memory}
use Rattle.cool_sources.proofs.FilesRead.{asked_part, asked_turn, bytes_turn, cause_of, gave_turn, held_turn, stop_at, total_turn}
use Rattle.cool_sources.proofs.reading.read_files.Goals as goal
use Rattle.std.proofs.lemmas.List.{length_push}

-- a file was refused
pub returns-in_default : goal.returns-in_default
returns-in_default g c =
    let so_far = c.loop-index.invariant in
    let read = c.in-Err.ensures in
    record {
      read = tt;
      bytes = tt;
      within = tt;
      each = tt;
      calm = tt;
      stop = stop_at c.args.names.now c.loop-index.index c.index-names-index.result c.as_str-name.result.now c.loop-index-test.true c.index-names-index.is c.as_str-name.ensures.value
          (shelf_use g.F.Shelf.files g.F.Shelf.faults g.F.Shelf.asked g.F.Shelf.gave c.args.files.now c.read.new.self) _ _ c.loop-index.contents.items c.args.most c.loop-index.left c.in-Err.fault _ _
          so_far.kept so_far.calm so_far.held so_far.rest
          (cause_of _ _ _ c.as_str-name.result.now c.loop-index.left c.in-Err.fault (λ e. read.missing (ap Err e)) (λ e. read.too_large (ap Err e)) (λ e. read.failed (ap Err e)) c.in_default.not-Memory)
          so_far.asked c.read.ensures.asked so_far.gave read.nothing_given;
      kept = c.read.ensures.kept ∙ so_far.kept;
      no_less = omega (arith, so_far.calm, c.read.ensures.count.no_less);
      asked = asked_part c.args.names.now c.loop-index.index c.index-names-index.result c.as_str-name.result.now c.loop-index-test.true c.index-names-index.is c.as_str-name.ensures.value _ _ _ so_far.asked c.read.ensures.asked;
    }

-- one more file was read
pub loop-index-preserved : goal.loop-index-preserved
loop-index-preserved g c =
    let read = c.in-Ok.ensures in
    let so_far = c.loop-index.invariant in
    let pushed = c.in_ok-push-in-Ok.ensures.items in
    record {
      held = held_turn c.args.names.now c.loop-index.index c.index-names-index.result c.as_str-name.result.now c.loop-index-test.true c.index-names-index.is c.as_str-name.ensures.value
          _ _ c.loop-index.contents.items c.push.new.self.items c.in-Ok.bytes so_far.kept so_far.held read.read pushed;
      bytes = bytes_turn c.loop-index.contents.items c.push.new.self.items c.in-Ok.bytes pushed so_far.bytes (rw c.deref.ensures.value at c.byte_count-left.ensures.bytes);
      rest = omega (arith, total_turn c.loop-index.contents.items c.push.new.self.items c.in-Ok.bytes pushed, so_far.rest, read.within, c.byte_count-left.ensures.count, ap length c.deref.ensures.value);
      each = ap length pushed ∙ length_push c.loop-index.contents.items c.in-Ok.bytes ∙ omega (arith, so_far.each);
      calm = read.no_fault ∙ so_far.calm;
      asked = asked_turn c.args.names.now c.loop-index.index c.index-names-index.result c.as_str-name.result.now c.loop-index-test.true c.index-names-index.is c.as_str-name.ensures.value _ _ _ so_far.asked c.read.ensures.asked;
      gave = gave_turn _ _ _ c.loop-index.contents.items c.push.new.self.items c.in-Ok.bytes pushed so_far.gave read.gave;
      kept = c.read.ensures.kept ∙ so_far.kept;
    }

-- memory ran out
pub returns-in-Memory-clause-asked : goal.returns-in-Memory-clause-asked
returns-in-Memory-clause-asked g c = asked_part c.args.names.now c.loop-index.index c.index-names-index.result c.as_str-name.result.now c.loop-index-test.true c.index-names-index.is c.as_str-name.ensures.value _ _ _ c.loop-index.invariant.asked c.read.ensures.asked

pub returns-in_err-push-in-Ok-clause-asked : goal.returns-in_err-push-in-Ok-clause-asked
returns-in_err-push-in-Ok-clause-asked g c =
    let same : c.from_residual.result ≡ Err Memory = search rules in
    rw same (asked_part c.args.names.now c.loop-index.index c.index-names-index.result c.as_str-name.result.now c.loop-index-test.true c.index-names-index.is c.as_str-name.ensures.value _ _ _ c.loop-index.invariant.asked c.read.ensures.asked)
