use Rattle.std.proofs.Common.{◌≡◌, ◌+◌, ◌∙◌, ap, refl, ℕ, min, List, length, take, arith}
use Rattle.std.proofs.lemmas.Result.{err_from_is_err_and}
use Rattle.std.proofs.lemmas.List.{length-take}
use Rattle.cool_ports.proofs.GettingBytes.{got_none, got_more, got_prefix}
use Rattle.cool_ports.proofs.PuttingPieces.{put_none, put_so_far}
use Rattle.spim_memory.specs.Memory.{segments, bytes_of}
use Rattle.spim_memory.specs.Strings.{bytes_from}
use Rattle.spim_machine.proofs.PiecesOfBytes.{all_left, next_piece, piece_put, all_put, may_load-piece}
use Rattle.spim_machine.proofs.output.put_string.Goals as goal

-- so many bytes of the 64 are so many
size_of_piece : (bytes : List ℕ) (size left : ℕ) → length bytes ≡ 64 → size ≡ min left 64 → length (take size bytes) ≡ size
size_of_piece bytes size left long is = omega (arith, length-take size bytes)

pub loop-done-init : goal.loop-done-init
loop-done-init g c = record {
  within = omega arith;
  got = rw (all_left (bytes_of c.args.memory.now) c.args.address c.args.count) (got_none _ _);
  pieces = rw (all_left (bytes_of c.args.memory.now) c.args.address c.args.count) (put_none _ _);
  no_fault = refl;
}

pub load_bytes-requires-clause-loads : goal.load_bytes-requires-clause-loads
load_bytes-requires-clause-loads g c =
    let long = size_of_piece c.loop-done.bytes _ _ c.min-size.array_long c.min-size.ensures in
    rw long (may_load-piece (segments c.args.memory.now) c.args.address c.loop-done.done c.min-size.result c.args.count c.requires.loads (omega (arith, c.min-size.ensures)))

pub returns-in_err-put-clause-prefix : goal.returns-in_err-put-clause-prefix
returns-in_err-put-clause-prefix g c =
    let m = bytes_of c.args.memory.now in
    let long = size_of_piece c.loop-done.bytes _ _ c.min-size.array_long c.min-size.ensures in
    let piece = c.load_bytes.ensures ∙ ap (bytes_from m (c.args.address + c.loop-done.done)) long in
    let split = next_piece m c.args.address c.loop-done.done c.min-size.result c.args.count _ piece (omega (arith, c.min-size.ensures)) in
    let p = err_from_is_err_and c.from_residual.result c.from_residual.ensures.1 in
    rw p.1 (got_prefix _ _ _ _ _ _ _ c.loop-done.invariant.got split c.in_err-put.ensures.prefix)

pub loop-done-preserved : goal.loop-done-preserved
loop-done-preserved g c =
    let m = bytes_of c.args.memory.now in
    let long = size_of_piece c.loop-done.bytes _ _ c.min-size.array_long c.min-size.ensures in
    let piece = c.load_bytes.ensures ∙ ap (bytes_from m (c.args.address + c.loop-done.done)) long in
    let split = next_piece m c.args.address c.loop-done.done c.min-size.result c.args.count _ piece (omega (arith, c.min-size.ensures)) in
    record {
      within = omega (arith, c.min-size.ensures);
      got = got_more _ _ _ _ _ _ _ c.loop-done.invariant.got split c.in_ok-put.ensures.put;
      pieces = piece_put m c.args.address c.loop-done.done c.min-size.result c.args.count _ _ _ _ _ c.loop-done-test.true c.min-size.ensures piece c.loop-done.invariant.pieces c.in_ok-put.ensures.puts;
      no_fault = c.in_ok-put.ensures.no_fault ∙ c.loop-done.invariant.no_fault;
    }

pub returns-in_err-put-clause-pieces_up_to : goal.returns-in_err-put-clause-pieces_up_to
returns-in_err-put-clause-pieces_up_to g c =
    let m = bytes_of c.args.memory.now in
    let long = size_of_piece c.loop-done.bytes _ _ c.min-size.array_long c.min-size.ensures in
    let piece = c.load_bytes.ensures ∙ ap (bytes_from m (c.args.address + c.loop-done.done)) long in
    let p = err_from_is_err_and c.from_residual.result c.from_residual.ensures.1 in
    rw p.1 (put_so_far _ _ _ _ (piece_put m c.args.address c.loop-done.done c.min-size.result c.args.count _ _ _ _ _ c.loop-done-test.true c.min-size.ensures piece c.loop-done.invariant.pieces c.in_err-put.ensures.puts))

pub returns-clause-pieces : goal.returns-clause-pieces
returns-clause-pieces g c = all_put (bytes_of c.args.memory.now) c.args.address c.loop-done.done c.args.count _ _ _ c.loop-done.invariant.within c.loop-done-test.false c.loop-done.invariant.pieces
