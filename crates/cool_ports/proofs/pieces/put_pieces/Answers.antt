use Rattle.std.proofs.Common.{◌≡◌, ◌++◌, arith, refl, ◌∙◌}
use Rattle.std.proofs.lemmas.List.{take-append-drop}
use Rattle.std.proofs.lemmas.Result.{err_from_is_err_and}
use Rattle.cool_ports.proofs.GettingBytes.{got_none, got_more, got_prefix}
use Rattle.cool_ports.proofs.PuttingPieces.{put_none, put_piece, put_pieces_all, put_so_far}
use Rattle.cool_ports.proofs.pieces.put_pieces.Goals as goal

pub loop-rest-init : goal.loop-rest-init
loop-rest-init g c = record { got = got_none _ _; pieces = put_none _ _; no_fault = refl }

pub returns-in_err-put-clause-prefix : goal.returns-in_err-put-clause-prefix
returns-in_err-put-clause-prefix g c =
    let split : c.split_at.result.0.now ++ c.split_at.result.1.now ≡ c.loop-rest.rest.now = rw (c.split_at.ensures.front, c.split_at.ensures.back) (take-append-drop _ _) in
    let p = err_from_is_err_and c.from_residual.result c.from_residual.ensures.1 in
    rw p.1 (got_prefix _ _ _ _ _ _ _ c.loop-rest.invariant.got split c.in_err-put.ensures.prefix)

pub loop-rest-preserved : goal.loop-rest-preserved
loop-rest-preserved g c =
    let split : c.split_at.result.0.now ++ c.split_at.result.1.now ≡ c.loop-rest.rest.now = rw (c.split_at.ensures.front, c.split_at.ensures.back) (take-append-drop _ _) in
    record {
      got = got_more _ _ _ _ _ _ _ c.loop-rest.invariant.got split c.in_ok-put.ensures.put;
      pieces = put_piece _ _ _ _ _ _ _ _ _ c.requires (grind (arith, c.loop-rest-test.ensures, c.is_empty.ensures)) c.min.ensures c.split_at.ensures.front c.split_at.ensures.back c.loop-rest.invariant.pieces c.in_ok-put.ensures.puts;
      no_fault = c.in_ok-put.ensures.no_fault ∙ c.loop-rest.invariant.no_fault;
    }

pub returns-in_err-put-clause-pieces_up_to : goal.returns-in_err-put-clause-pieces_up_to
returns-in_err-put-clause-pieces_up_to g c =
    let p = err_from_is_err_and c.from_residual.result c.from_residual.ensures.1 in
    rw p.1 (put_so_far _ _ _ _ (put_piece _ _ _ _ _ _ _ _ _ c.requires (grind (arith, c.loop-rest-test.ensures, c.is_empty.ensures)) c.min.ensures c.split_at.ensures.front c.split_at.ensures.back c.loop-rest.invariant.pieces c.in_err-put.ensures.puts))

pub returns-clause-pieces : goal.returns-clause-pieces
returns-clause-pieces g c = put_pieces_all _ _ _ _ _ c.requires (grind (arith, c.loop-rest-test.ensures, c.is_empty.ensures)) c.loop-rest.invariant.pieces
