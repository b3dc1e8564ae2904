-- `node_extent` returns the result of `call_extent` for a call, of `let_extent` for a `let`, and of `operation_extent` for an operation.
use Rattle.std.proofs.Common.{◌∙◌, ap, sym}
use Rattle.cool_extents.specs.FoundExtents.{call_extent, node_extent}
use Rattle.cool_extents.proofs.finding.node_extent.Goals as goal

pub returns-in-Let : goal.returns-in-Let
returns-in-Let c = c.let_extent.ensures ∙ ap (node_extent c.args.tokens.now c.args.found.now) (sym c.in-Let.is)

pub returns-in-Arith : goal.returns-in-Arith
returns-in-Arith c = c.operation_extent.ensures ∙ ap (node_extent c.args.tokens.now c.args.found.now) (sym c.in-Arith.is)

pub returns-in-Compare : goal.returns-in-Compare
returns-in-Compare c = c.operation_extent-in-Compare.ensures ∙ ap (node_extent c.args.tokens.now c.args.found.now) (sym c.in-Compare.is)

pub returns-in-Dispatch : goal.returns-in-Dispatch
returns-in-Dispatch c =
    c.call_extent.ensures ∙ ap (call_extent c.args.tokens.now c.in-Dispatch.at c.args.found.now c.in-Dispatch.receiver) c.as_slice.ensures
    ∙ ap (node_extent c.args.tokens.now c.args.found.now) (sym c.in-Dispatch.is)

pub returns-in-StaticDispatch : goal.returns-in-StaticDispatch
returns-in-StaticDispatch c =
    c.call_extent-in-StaticDispatch.ensures
    ∙ ap (call_extent c.args.tokens.now c.in-StaticDispatch.at c.args.found.now c.in-StaticDispatch.receiver) c.as_slice-in-StaticDispatch.ensures
    ∙ ap (node_extent c.args.tokens.now c.args.found.now) (sym c.in-StaticDispatch.is)
