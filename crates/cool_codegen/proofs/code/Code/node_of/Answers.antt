-- `Code::node_of` returns the node at a number, and the size, lines, constants and spans of the expression there are those that are defined by this node. They
-- agree because the number is that of a subexpression of the typed expression (`IsPart`).
use Rattle.std.proofs.Common.{length, subst, rules}
use Rattle.cool_syntax.proofs.TreesHaveNodes.{one_le_size}
use Rattle.cool_syntax.specs.NodeLists.{tree_at}
use Rattle.cool_syntax.specs.TreesWithinLimits.{IsTreeWithin}
use Rattle.cool_codegen.specs.Numbered.{size_at}
use Rattle.cool_codegen.specs.CodeSettings.{context, typed_body}
use Rattle.cool_codegen.specs.Variables.{scope_of}
use Rattle.cool_rules.proofs.PartsStand.{has_parts, part_within}
use Rattle.cool_codegen.proofs.CodeByNumbers.{asked_of_node, lines_of_node, size_of_node}
use Rattle.cool_codegen.proofs.LinesAlone.{noted_of_node}
use Rattle.cool_codegen.proofs.code.Code.node_of.Goals as goal

pub node-requires : goal.node-requires
node-requires c = record { below = part_within (typed_body c.args.self.now.setting) (scope_of c.args.self.now.variables) c.args.id c.requires.part }

pub returns-clause-node : goal.returns-clause-node
returns-clause-node c = record {
  parts = has_parts (typed_body c.args.self.now.setting) (scope_of c.args.self.now.variables) c.args.id _ c.requires.part c.node.ensures.node;
  below = search rules;
  places = subst (IsTreeWithin (length c.args.self.now.setting.names.now)) c.node.ensures.tree c.requires.places;
}

pub returns-clause-size : goal.returns-clause-size
returns-clause-size c = size_of_node (typed_body c.args.self.now.setting) (scope_of c.args.self.now.variables) c.args.id _ c.requires.part c.node.ensures.node

pub returns-clause-some : goal.returns-clause-some
unfolding size_at
returns-clause-some c = one_le_size (tree_at c.args.self.now.setting.body.now c.args.id)

pub returns-clause-lines : goal.returns-clause-lines
returns-clause-lines c =
    let t = c.args.self.now.consts in
    let vs = c.args.self.now.variables in
    lines_of_node (context c.args.self.now.setting) (typed_body c.args.self.now.setting) (scope_of vs) t vs c.args.depth c.args.id _ c.requires.part c.node.ensures.node

pub returns-clause-asked : goal.returns-clause-asked
returns-clause-asked c =
    let files = (context c.args.self.now.setting).files in
    asked_of_node files (typed_body c.args.self.now.setting) (scope_of c.args.self.now.variables) c.args.self.now.consts c.args.id _ c.requires.part c.node.ensures.node

pub returns-clause-spans : goal.returns-clause-spans
returns-clause-spans c before =
    let vs = c.args.self.now.variables in
    noted_of_node c.args.self.now.setting.wanted (context c.args.self.now.setting) (typed_body c.args.self.now.setting) (scope_of vs) c.args.self.now.consts vs c.args.depth c.args.id _ before c.requires.part c.node.ensures.node c.node.ensures.tree
