use Rattle.std.proofs.Common.{List, String, ap, get_or, string_bytes, ◌∙◌, ◌≡◌}
use Rattle.std.specs.Global.{Global}
use Rattle.cool_words.specs.Plans.{words_of}
use Rattle.cool_driver.specs.{Sources.{IsDueUnread}, commands.Exec.{IsNoImage}}
use Rattle.cool_ports.proofs.AskedNames.{asked_none}
use Rattle.cool_driver.proofs.{RefusalsTold.{told_so}, rooms.Executions.{file_read, unloaded}}
use Rattle.cool_driver.proofs.commands.exec.load_file.Goals as goal

-- the file stands for no image
pub returns-in-Ok-clause-refused : goal.returns-in-Ok-clause-refused
returns-in-Ok-clause-refused g c =
    let names = ap words_of (c.deref.ensures.value ∙ c.in_ok-names.ensures.items) in
    let read = file_read c.in-Ok.contents.items c.index-in-Ok.ensures (rw names at c.in-Ok.ensures.read) in
    let name : c.as_str.result.now ≡ string_bytes c.args.file =
    c.as_str.ensures.value ∙ ap string_bytes (c.index.ensures ∙ ap (λ (ns : List (String Global)). get_or ns 0 c.index.result.now) c.in_ok-names.ensures.items) in
    unloaded c.load.result read (rw (name, c.deref-in-Ok.ensures.value) at c.load.ensures.refused)

-- it was not read
pub returns-clause-refused : goal.returns-clause-refused
returns-clause-refused g c =
    let names = ap words_of (c.deref.ensures.value ∙ c.in_ok-names.ensures.items) in
    told_so (IsDueUnread _ _ _) (IsNoImage _ _) c.in-Err.refusal (λ status note why. rw why.0 (IsNoImage.not_read note why.1)) (rw names at c.in-Err.ensures.refused)

-- the shelf was asked for the file, or for nothing
pub returns-in_err-names-clause-asked : goal.returns-in_err-names-clause-asked
returns-in_err-names-clause-asked g c = asked_none _ _

pub returns-in-Ok-clause-asked : goal.returns-in-Ok-clause-asked
returns-in-Ok-clause-asked g c = rw (ap words_of (c.deref.ensures.value ∙ c.in_ok-names.ensures.items)) at c.read_sources.ensures.asked

pub returns-clause-asked : goal.returns-clause-asked
returns-clause-asked g c = rw (ap words_of (c.deref.ensures.value ∙ c.in_ok-names.ensures.items)) at c.read_sources.ensures.asked
