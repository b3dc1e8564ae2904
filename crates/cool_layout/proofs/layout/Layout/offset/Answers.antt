-- `Layout::offset` returns the offset of an attribute, which is the same in the objects of its class and of all classes below it: the layout stores one offset
-- for each attribute.
use Rattle.std.proofs.Common.{◌∙◌, arith}
use Rattle.std.proofs.lemmas.List.{get_or_read}
use Rattle.cool_layout.proofs.KeptOffsets.{owner_kept, index_kept, offset_kept, same_offset}
use Rattle.cool_layout.proofs.layout.Layout.offset.Goals as goal

pub index-requires : goal.index-requires
index-requires c = let r = c.requires in let low = owner_kept c.args.self.now r.0 r.1 c.args.c c.args.a r.2 r.3 in let ok = c.args.self.now.offsets.ok.0 in omega arith

pub index-requires-2 : goal.index-requires-2
index-requires-2 c = let r = c.requires in let low = index_kept c.args.self.now r.0 r.1 c.args.c c.args.a r.2 r.3 c.index.result.now c.index.ensures in let ok = c.index.result.now.ok.0 in omega arith

pub returns-clause-offset : goal.returns-clause-offset
returns-clause-offset c p l within there =
    get_or_read c.index.result.now.items c.args.a.index c.index-2.result.now (index_kept c.args.self.now p l c.args.c c.args.a within there c.index.result.now c.index.ensures) c.index-2.ensures 0
    ∙ offset_kept c.args.self.now p l c.args.c c.args.a within there c.index.result.now c.index.ensures

pub returns-clause-same : goal.returns-clause-same
returns-clause-same c p d l within d_in there below = returns-clause-offset c p l within there ∙ same_offset c.args.self.now p l c.args.c c.args.a within there d d_in below
