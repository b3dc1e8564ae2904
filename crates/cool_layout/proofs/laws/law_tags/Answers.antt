-- `law_tags` holds by `are_tags` of `TagRanges.antt`: each class has its own tag, and the tags of a class and of the classes below it are a range.
use Rattle.cool_layout.proofs.TagRanges.{are_tags}
use Rattle.cool_layout.proofs.laws.law_tags.Goals as goal

pub returns : goal.returns
returns c p r = are_tags p r
