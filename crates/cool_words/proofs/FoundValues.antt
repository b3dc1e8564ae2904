-- The functions that read the result of clap (the library that parses arguments) return the file names, numbers and flags in it, or none if they are absent or
-- not valid.
use Rattle.std.proofs.Common.{◌≡◌, ◌∙◌, sym, ap, ℕ, true, false, List, Option, Some, None}
use Rattle.std.specs.Prelude.{bytes_eq, codes, if◌then◌else◌, option_and_then, option_map}
use Rattle.std.specs.Option.{option_map_or}
use Rattle.clap.specs.Words.{Text, first_value, matched_of, raw_values, rows_of}
use Rattle.clap.specs.declared.parser.matches.Found.{Found}
use Rattle.clap.proofs.WalkLemmas.{first_value-rows, raw_values-rows}
use Rattle.cool_words.specs.Numbers.{number_in}
use Rattle.cool_words.specs.Plans.{are_file_names, file_in, files_in, if_name, if_names, is_file_name, is_set, value_in}

-- the one name that is the value of an argument is there
name_there : (f : Found) (argument : Text) (name : Option Text) → name ≡ first_value f argument → file_in argument (rows_of f) ≡ option_and_then if_name name
name_there f argument name e = ap (option_and_then if_name) (sym (e ∙ first_value-rows f argument))

-- and is a file's
pub name_found : (f : Found) (argument name : Text) → Some name ≡ first_value f argument → is_file_name name ≡ true → file_in argument (rows_of f) ≡ Some name
name_found f argument name e k = name_there f argument (Some name) e ∙ ap (λ b. if b then Some name else None) k

-- it is not
pub name_refused : (f : Found) (argument name : Text) → Some name ≡ first_value f argument → is_file_name name ≡ false → file_in argument (rows_of f) ≡ None
name_refused f argument name e k = name_there f argument (Some name) e ∙ ap (λ b. if b then Some name else None) k

-- there is none
pub name_missing : (f : Found) (argument : Text) → None ≡ first_value f argument → file_in argument (rows_of f) ≡ None
name_missing f argument e = name_there f argument None e

-- the names are there
names_there : (f : Found) (names : Option (List Text)) → names ≡ option_map raw_values (matched_of f (codes "FILES")) → files_in (rows_of f) ≡ option_and_then if_names names
names_there f names e = ap (option_and_then if_names) (sym (e ∙ raw_values-rows f (codes "FILES")))

-- and are those of files
pub names_found : (f : Found) (names : List Text) → Some names ≡ option_map raw_values (matched_of f (codes "FILES")) → are_file_names names ≡ true → files_in (rows_of f) ≡ Some names
names_found f names e k = names_there f (Some names) e ∙ ap (λ b. if b then Some names else None) k

-- they are not
pub names_refused : (f : Found) (names : List Text) → Some names ≡ option_map raw_values (matched_of f (codes "FILES")) → are_file_names names ≡ false → files_in (rows_of f) ≡ None
names_refused f names e k = names_there f (Some names) e ∙ ap (λ b. if b then Some names else None) k

-- there are none
pub names_missing : (f : Found) → None ≡ option_map raw_values (matched_of f (codes "FILES")) → files_in (rows_of f) ≡ None
names_missing f e = names_there f None e

-- the value of an argument
pub value_there : (f : Found) (name : Text) (low high : ℕ) (default : Option ℕ) (text : Option Text) → text ≡ first_value f name
    → option_map_or (number_in low high) text default ≡ value_in name low high default (rows_of f)
value_there f name low high default text e = ap (λ o. option_map_or (number_in low high) o default) (e ∙ first_value-rows f name)

-- whether a flag is set
pub flag_there : (f : Found) (flag : Text) (text : Option Text) → text ≡ first_value f flag
    → option_map_or (λ value. bytes_eq value (codes "true")) text false ≡ is_set flag (rows_of f)
flag_there f flag text e = ap (λ o. option_map_or (λ value. bytes_eq value (codes "true")) o false) (e ∙ first_value-rows f flag)
