-- Each line that a command writes to standard error, such as a compile-time error, ends in a line feed.
use Rattle.std.proofs.Common.{◌≡◌, ◌≢◌, ℕ, zero, suc, ◌+◌, ◌<◌, true, List, [], ◌∷◌, ◌++◌, length, get_or, drop, map, refl, sym, ◌∙◌, ap, subst, append_assoc, append-nil, arith}
use Rattle.std.proofs.lemmas.List.{at_drop_more}
use Rattle.std.specs.{Prelude.{codes, decimal}, Global.{Vec}, List.{concat, AllByRecursion}}
use Rattle.cool_faults.specs.{declared.fault.Fault.{Fault}, Shown.{shown}, Texts.{fault_words, fault_line}, Verdicts.{place_of, IsRefused}}
use Rattle.cool_ports.specs.SinkPuts.{PutFront}
use Rattle.cool_syntax.specs.TokenFacts.{IsPlaced}
use Rattle.mips_image.specs.{declared.image_error.ImageError.{ImageError}, declared.image_error.ImageError.TheVariants.{Memory, I1, I2, I3, I4, I5}}
use Rattle.mips_isa.specs.declared.trap.Trap.{Trap}
use Rattle.spim_debug.specs.Notes.{digits}
use Rattle.cool_driver.specs.{Contents.{texts}, Notes.{command_note, image_note, trap_note, trap_words}, Telling.{AreLines, PutsLines, ends_line, note_of}}
use Rattle.lists.proofs.AllItems.{all_append, all_left}

-- a text that ends in a line feed is not empty
pub some_line : (text : List ℕ) → ends_line text ≡ true → 0 < length text
unfolding ends_line
some_line [] h = absurd cc
some_line (byte ∷ text) h = omega arith

-- after another text, it still ends so
ends_more : (byte : ℕ) (text : List ℕ) → ends_line text ≡ true → ends_line (byte ∷ text) ≡ true
unfolding ends_line
ends_more byte [] h = absurd cc
ends_more byte (next ∷ text) h = h

pub ends_after : (front text : List ℕ) → ends_line text ≡ true → ends_line (front ++ text) ≡ true
ends_after [] text h = h
ends_after (byte ∷ front) text h = ends_more byte (front ++ text) (ends_after front text h)

pub feed : ends_line (codes "\n") ≡ true
unfolding ends_line
feed = refl

-- the lines of notes do
pub placed_line : (name line words : List ℕ) → ends_line (name ++ (codes ":" ++ (line ++ (codes ": " ++ (words ++ codes "\n"))))) ≡ true
placed_line name line words =
    ends_after name _ (ends_after (codes ":") _ (ends_after line _ (ends_after (codes ": ") _ (ends_after words (codes "\n") feed))))

pub file_line : (name words : List ℕ) → ends_line (codes "cool: " ++ (name ++ (words ++ codes "\n"))) ≡ true
file_line name words = ends_after (codes "cool: ") _ (ends_after name _ (ends_after words (codes "\n") feed))

pub command_line : (number : ℕ) (words : List ℕ) → ends_line (command_note number words) ≡ true
command_line number words =
    ends_after (codes "session:") _ (ends_after (decimal number) _ (ends_after (codes ": ") _ (ends_after words (codes "\n") feed)))

pub trap_line : (trap : Trap) → ends_line (trap_note trap) ≡ true
trap_line trap =
    ends_after (codes "trap: ") _ (ends_after (trap_words trap.kind) _ (ends_after (codes " at 0x") _ (ends_after (digits trap.address) _
    (ends_after (codes ", pc 0x") _ (ends_after (digits trap.pc) (codes "\n") feed)))))

pub image_line : (name : List ℕ) (fault : ImageError) → fault ≢ Memory → ends_line (image_note name fault) ≡ true
image_line name I1 other = ends_after (shown name) _ (ends_after (codes ": I1: wrong magic") (codes "\n") feed)
image_line name I2 other = ends_after (shown name) _ (ends_after (codes ": I2: unknown version") (codes "\n") feed)
image_line name I3 other = ends_after (shown name) _ (ends_after (codes ": I3: too short") (codes "\n") feed)
image_line name I4 other = ends_after (shown name) _ (ends_after (codes ": I4: sizes out of range") (codes "\n") feed)
image_line name I5 other = ends_after (shown name) _ (ends_after (codes ": I5: bytes after the end") (codes "\n") feed)
image_line name Memory other = absurd (other refl)

-- the lines of faults do
pub fault_lines : (names : List (List ℕ)) (faults : List Fault) → AreLines (map (fault_line names) faults)
fault_lines names [] = tt
fault_lines names (fault ∷ faults) = (placed_line (shown (get_or names (place_of fault).file [])) (decimal (place_of fault).line) (fault_words fault), fault_lines names faults)

-- The puts to a sink

-- nothing
pub no_lines : (puts : List (List ℕ)) → PutsLines puts puts
no_lines puts = ([], sym (append-nil puts), tt)

-- a front of lines
pub front_lines : (before lines after : List (List ℕ)) → AreLines lines → PutFront before lines after → PutsLines before after
front_lines before lines after are (rest, h) = (h.front, h.put, all_left _ h.front rest (subst AreLines h.cut are))

-- lines and then more of them
pub more_lines : (before middle after : List (List ℕ)) → PutsLines before middle → PutsLines middle after → PutsLines before after
more_lines before middle after (lines, put, are) (more, then, also) = (
  lines ++ more,
  then ∙ ap (λ (puts : List (List ℕ)). puts ++ more) put ∙ append_assoc before lines more,
  all_append _ lines more are also,
)

-- a note of one line is that line
pub one_line : (lines : List (Vec ℕ)) (line : List ℕ) → texts lines ≡ line ∷ [] → note_of lines ≡ line
one_line lines line e = ap concat e ∙ append-nil line

-- faults that stand in one of so many files
all_below : (files names : ℕ) (faults : List Fault) → files ≡ names → AllByRecursion (λ f. IsPlaced files (place_of f)) faults → AllByRecursion (λ f. (place_of f).file < names) faults
all_below files names [] same h = tt
all_below files names (fault ∷ faults) same h = (omega (arith, h.0.0, same), all_below files names faults same h.1)

-- the faults of files that have names stand in such files
pub have_names : (names : ℕ) (contents : List (List ℕ)) (faults : List Fault) → IsRefused contents faults → 0 < names → length contents ≡ names → AllByRecursion (λ f. (place_of f).file < names) faults
have_names names contents faults is some same = all_below (length contents) names faults same (is.places (omega arith))

-- the line at a number, in front of those after it
pub lines_at : (lines : List (Vec ℕ)) (i : ℕ) (line : Vec ℕ) → i < length lines → line ≡ get_or lines i line → texts (drop i lines) ≡ line.items ∷ texts (drop (i + 1) lines)
lines_at lines i line h is = at_drop_more texts lines i line h ∙ ap (λ (v : Vec ℕ). v.items ∷ texts (drop (i + 1) lines)) (sym is)

-- it ends in a line feed, where all do
pub line_at : (lines : List (Vec ℕ)) (i : ℕ) (line : Vec ℕ) → AreLines (texts lines) → i < length lines → line ≡ get_or lines i line → ends_line line.items ≡ true
line_at [] i line are h is = absurd (omega arith)
line_at (v ∷ lines) zero line are h is = subst (λ (x : Vec ℕ). ends_line x.items ≡ true) (sym is) are.0
line_at (v ∷ lines) (suc i) line are h is = line_at lines i line are.1 (omega arith) is
