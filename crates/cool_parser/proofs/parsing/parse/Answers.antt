use Rattle.cool_syntax.proofs.ParsedTreesAreWritable.{parsed_writable}
use Rattle.cool_parser.proofs.BoundedFeatures.{classes_bounded}
use Rattle.cool_parser.proofs.FilesWithinLimits.{classes_within}
use Rattle.cool_parser.proofs.WeightsOfFiles.{classes_weigh}
use Rattle.cool_parser.proofs.ParsingIsTheGrammar.{sound, whole_only, whole_or_fault, error_tells, error_or_whole, error_only}
use Rattle.cool_parser.proofs.parsing.parse.Goals as goal

pub returns-in-Err-clause-only : goal.returns-in-Err-clause-only
returns-in-Err-clause-only c = λ classes p. error_or_whole c.args.tokens.now c.args.end c.in-Err.error classes c.in-Err.ensures p

pub returns-in-Err-clause-fault : goal.returns-in-Err-clause-fault
returns-in-Err-clause-fault c = error_tells c.args.tokens.now c.args.end c.in-Err.error c.in-Err.ensures

pub returns-in-Err-clause-first : goal.returns-in-Err-clause-first
returns-in-Err-clause-first c = λ at u. error_only c.args.tokens.now c.args.end at c.in-Err.error c.in-Err.ensures u

pub returns-in-Ok-clause-whole : goal.returns-in-Ok-clause-whole
returns-in-Ok-clause-whole c = sound c.args.tokens.now c.args.end c.in-Ok.classes c.in-Ok.ensures

pub returns-in-Ok-clause-only : goal.returns-in-Ok-clause-only
returns-in-Ok-clause-only c = λ classes p. whole_only c.args.tokens.now c.args.end c.in-Ok.classes classes c.in-Ok.ensures p

pub returns-in-Ok-clause-first : goal.returns-in-Ok-clause-first
returns-in-Ok-clause-first c = λ at u. whole_or_fault c.args.tokens.now c.args.end at c.in-Ok.classes c.in-Ok.ensures u

pub returns-in-Ok-clause-limits : goal.returns-in-Ok-clause-limits
returns-in-Ok-clause-limits c = λ files l. classes_within files c.args.tokens.now c.args.end c.in-Ok.classes c.in-Ok.ensures l

pub returns-in-Ok-clause-bounded : goal.returns-in-Ok-clause-bounded
returns-in-Ok-clause-bounded c = classes_bounded c.args.tokens.now c.args.end c.in-Ok.classes c.in-Ok.ensures

pub returns-in-Ok-clause-weight : goal.returns-in-Ok-clause-weight
returns-in-Ok-clause-weight c = classes_weigh c.args.tokens.now c.args.end c.in-Ok.classes c.in-Ok.ensures

pub returns-in-Ok-clause-writable : goal.returns-in-Ok-clause-writable
returns-in-Ok-clause-writable c = parsed_writable c.args.tokens.now c.in-Ok.classes (sound c.args.tokens.now c.args.end c.in-Ok.classes c.in-Ok.ensures)
