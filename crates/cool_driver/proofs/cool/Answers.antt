use Rattle.std.proofs.Common.{◌≡◌, List, None, Some, ℕ, ap, refl}
use Rattle.std.specs.Prelude.{Err, IfOk, Ok, Result}
use Rattle.cool_words.specs.{Plans.{Answers, asked_by, plan_of}, declared.plan.Plan.{Plan}, declared.words_error.WordsError.{WordsError}}
use Rattle.cool_words.specs.declared.words_error.WordsError.TheVariants.{Usage}
use Rattle.cool_driver.specs.CommandLine.{asked_for, words_of}
use Rattle.cool_driver.proofs.cool.Goals as goal

-- the parsed command line is the request of the arguments
answers : (given : List (List ℕ)) (read : Result Plan WordsError) → IfOk read (λ p. plan_of given ≡ Some (asked_by p))
    → (read ≡ Err Usage → plan_of given ≡ None) → Answers asked_by (asked_for given) read
unfolding asked_for
answers given (Ok p) is none = is
answers given (Err e) is none = λ usage. none (ap Err usage)

pub returns : goal.returns
returns g c =
    let words = words_of c.args.words.now in
    let read = answers words c.read_words.result c.read_words.ensures.plan c.read_words.ensures.usage in
    let does = rw (← c.code.ensures) at (c.carry_out.ensures.does _ read) in
    record {
      limits = record { image_bytes = refl; script_bytes = refl; big_output = refl; name_bytes = refl; built_names = refl; piece_bytes = refl; short_name = refl; largest_number = refl };
      files = does.files;
      asked = does.asked;
      lines = does.lines;
      refused = does.refused;
      input = c.carry_out.ensures.input _ read;
      taken = does.taken;
      unended = λ asks seven. c.carry_out.ensures.unended _ read asks (rw c.code.ensures at seven);
      ends = does.ends words;
    }
