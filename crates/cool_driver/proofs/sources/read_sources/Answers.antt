use Rattle.std.proofs.{Common.{◌<◌, ◌≤◌, length, refl, arith, subst, sym, List, ℕ}, lemmas.List.{length-map}}
use Rattle.std.specs.{Prelude.{codes, string_bytes, String}, Global.{Global}}
use Rattle.cool_ports.specs.ShelfFiles.{AskedFront}
use Rattle.cool_syntax.specs.declared.TheConstants.{MOST_FILES}
use Rattle.cool_words.specs.Plans.{words_of}
use Rattle.cool_driver.specs.{Calls.{shelf_use}, Notes.{too_many_note}, Sources.{IsDueUnread, unless_too_many}, Sources.AreUnread.{too_many}}
use Rattle.cool_driver.specs.declared.status.Status.TheVariants as statuses
use Rattle.cool_ports.proofs.AskedNames.{asked_none, asked_whole}
use Rattle.cool_driver.proofs.{ReadingNames.{few_asked, refused_at}, LinesOfNotes.{ends_after, feed}, RefusalsTold.{line_told, stop_told}}
use Rattle.cool_driver.proofs.sources.read_sources.Goals as goal

-- there are too many files
pub returns-then-names-gt-MOST_FILES-clause-refused : goal.returns-then-names-gt-MOST_FILES-clause-refused
returns-then-names-gt-MOST_FILES-clause-refused g c =
    let many : MOST_FILES < length (words_of c.args.names.now) = omega (arith, length-map c.args.names.now string_bytes, c.if-names-gt-MOST_FILES.true) in
    line_told (IsDueUnread (shelf_use g.F.Shelf c.args.files.now c.args.files.now) c.args.most (words_of c.args.names.now)) statuses.FileFault too_many_note c.refuse_by_line.result (ends_after (codes "cool: too many files") (codes "\n") feed) (refl, too_many many refl) c.refuse_by_line.ensures

-- the files were read
pub returns-in-Ok-clause-read : goal.returns-in-Ok-clause-read
returns-in-Ok-clause-read g c =
    let read = c.in-Ok.ensures in
    record {
      few = omega (arith, length-map c.args.names.now string_bytes, c.if-names-gt-MOST_FILES.false);
      held = read.read.held;
      within = read.within;
      calm = read.calm;
      asked = (_, read.read.asked);
      gave = (_, read.read.gave);
    }

-- a file was refused
pub returns-in-Err-Refused-clause-refused : goal.returns-in-Err-Refused-clause-refused
returns-in-Err-Refused-clause-refused g c =
    let names = words_of c.args.names.now in
    let refused = c.in-Err-Refused in
    let stop = rw refused.field-0-is at refused.ensures.stop in
    stop_told (shelf_use g.F.Shelf c.args.files.now c.read_files.new.files) c.args.most names refused.name.now refused.fault
    c.refuse_unread.result (refused_at _ names c.args.most refused.name.now refused.fault (omega (arith, length-map c.args.names.now string_bytes, c.if-names-gt-MOST_FILES.false)) stop)
    c.refuse_unread.ensures

-- the files that the shelf was asked for
pub returns-then-names-gt-MOST_FILES-clause-asked : goal.returns-then-names-gt-MOST_FILES-clause-asked
returns-then-names-gt-MOST_FILES-clause-asked g c = asked_none _ _

-- they are not too many
few : (names : List (String Global)) → length names ≤ MOST_FILES → (before after : List (List ℕ)) → AskedFront (words_of names) before after
    → AskedFront (unless_too_many (words_of names) (words_of names)) before after
few names within before after asked =
    let no_more : length (words_of names) ≤ MOST_FILES = omega (arith, length-map names string_bytes, within) in
    subst (λ (ns : List (List ℕ)). AskedFront ns before after) (sym (few_asked (words_of names) (words_of names) no_more)) asked

pub returns-in-Ok-clause-asked : goal.returns-in-Ok-clause-asked
returns-in-Ok-clause-asked g c = few c.args.names.now c.if-names-gt-MOST_FILES.false _ _ (asked_whole _ _ _ c.in-Ok.ensures.read.asked)

pub returns-in-Err-Refused-clause-asked : goal.returns-in-Err-Refused-clause-asked
returns-in-Err-Refused-clause-asked g c = few c.args.names.now c.if-names-gt-MOST_FILES.false _ _ c.in-Err-Refused.ensures.asked

pub returns-in-Err-Memory-clause-asked : goal.returns-in-Err-Memory-clause-asked
returns-in-Err-Memory-clause-asked g c = few c.args.names.now c.if-names-gt-MOST_FILES.false _ _ c.in-Err-Memory.ensures.asked
