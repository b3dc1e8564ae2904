-- `files_answer` returns the listing of the files or, if they have none, the message on standard error that says so.
use Rattle.std.proofs.Common.{rules, inl, inr, map, refl, subst}
use Rattle.std.specs.Prelude.{string_bytes}
use Rattle.cool_faults.specs.Files.{bytes_of}
use Rattle.cool_listings.specs.Ends.{IsTextOf}
use Rattle.cool_listings.proofs.listing.files_answer.Goals as goal

pub returns-in-Some : goal.returns-in-Some
returns-in-Some c =
    inl (record {
      faultless = refl;
      is = subst (IsTextOf c.args.form (map string_bytes c.args.names.now) (bytes_of c.args.contents.now)) c.in-Some.is c.in_ok-text.ensures;
      no_note = refl;
    })

pub returns-in-None : goal.returns-in-None
returns-in-None c =
    inr (record {
      faulty = refl;
      none = subst (IsTextOf c.args.form (map string_bytes c.args.names.now) (bytes_of c.args.contents.now)) c.in-None.is c.in_ok-text.ensures;
      no_text = search rules;
      note = c.refusal_note.ensures;
    })
