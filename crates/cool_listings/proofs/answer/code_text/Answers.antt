-- `code_text` satisfies the precondition of `table`, because `fit` of `Ends.antt` admits only file names within `MOST_FILE_NAME` bytes for the listing of
-- code.
use Rattle.std.proofs.Common.{map}
use Rattle.std.specs.Prelude.{string_bytes}
use Rattle.cool_listings.proofs.ShortNames.{short_names}
use Rattle.cool_listings.proofs.answer.code_text.Goals as goal

pub table-requires-clause-names : goal.table-requires-clause-names
table-requires-clause-names c = short_names (map string_bytes c.args.names.now) c.requires.fit
