-- Lemmas for the loop that reads source files one after another: the effect of one more file on contents and total size, and of a refused file, which ends the
-- loop.
use Rattle.std.proofs.Common.{◌≡◌, ◌≢◌, ℕ, suc, ◌+◌, ◌-◌, ◌<◌, List, [], ◌∷◌, ◌++◌, length, map, get_or, take, drop, refl, sym, ◌∙◌, ap, subst, append_assoc, take-append-drop, arith}
use Rattle.std.specs.Prelude.{Option, string_bytes, String}
use Rattle.cool_ports.specs.Counts.{Rose}
use Rattle.cool_ports.specs.declared.shelf.ShelfFault.{ShelfFault}
use Rattle.cool_ports.specs.declared.shelf.ShelfFault.TheVariants as faults
use Rattle.std.specs.Global.{Global, Vec}
use Rattle.std.specs.List.{AllByRecursion}
use Rattle.lists.specs.Bytes.{AreBytes}
use Rattle.std.proofs.lemmas.List.{at_drop_more, map_more, map_push, map-append}
use Rattle.cool_ports.specs.ShelfFiles.{FileMap, MayHold, IsMissing, IsLonger, AreHeld, AskedFront}
use Rattle.cool_faults.specs.Files.{bytes_of, total}
use Rattle.cool_sources.specs.Devices.{ShelfUse}
use Rattle.cool_sources.specs.Reading.{IsCause, IsRefusedAt}
use Rattle.cool_faults.proofs.FileSizes.{total-push}
use Rattle.cool_ports.proofs.FilesHeld.{held_more}

-- numbers of 8 bits are bytes
pub all_bytes : (bytes : List ℕ) → ((i : ℕ) → get_or bytes i 0 < 256) → AreBytes bytes
all_bytes [] small = tt
all_bytes (b ∷ bytes) small = (small 0, all_bytes bytes (λ i. small (suc i)))

-- One more file

bytes_more : (contents more : List (Vec ℕ)) (file : Vec ℕ) → more ≡ contents ++ file ∷ [] → bytes_of more ≡ bytes_of contents ++ file.items ∷ []
bytes_more contents more file pushed = ap bytes_of pushed ∙ map_push _ _ _

files_more : (files : List (List ℕ)) (file : List ℕ) → AllByRecursion AreBytes files → AreBytes file → AllByRecursion AreBytes (files ++ file ∷ [])
files_more [] file h k = (k, tt)
files_more (f ∷ files) file h k = (h.0, files_more files file h.1 k)

-- they are bytes
pub bytes_turn : (contents more : List (Vec ℕ)) (file : Vec ℕ) → more ≡ contents ++ file ∷ [] → AllByRecursion AreBytes (bytes_of contents) → AreBytes file.items → AllByRecursion AreBytes (bytes_of more)
bytes_turn contents more file pushed so_far are = rw (bytes_more contents more file pushed) (files_more (bytes_of contents) file.items so_far are)

-- the total of their bytes
pub total_turn : (contents more : List (Vec ℕ)) (file : Vec ℕ) → more ≡ contents ++ file ∷ [] → total (bytes_of more) ≡ total (bytes_of contents) + length file.items
total_turn contents more file pushed = ap total (bytes_more contents more file pushed) ∙ total-push (bytes_of contents) file.items

-- the shelf gave them
pub gave_turn : (before middle after : List (List ℕ)) (contents more : List (Vec ℕ)) (file : Vec ℕ) → more ≡ contents ++ file ∷ [] → middle ≡ before ++ bytes_of contents
    → after ≡ middle ++ file.items ∷ [] → after ≡ before ++ bytes_of more
gave_turn before middle after contents more file pushed so_far gave =
    rw (bytes_more contents more file pushed)
    (gave ∙ ap (λ (xs : List (List ℕ)). xs ++ file.items ∷ []) so_far ∙ append_assoc before (bytes_of contents) (file.items ∷ []))

-- the cause of a refusal
pub cause_of : (files : Option FileMap) (before after : ℕ) (name : List ℕ) (most : ℕ) (fault : ShelfFault) → (fault ≡ faults.Missing → IsMissing files name before after) → (fault ≡ faults.TooLarge → IsLonger files name most before after)
    → (fault ≡ faults.Failed → Rose before after) → fault ≢ faults.Memory → IsCause files before after name most fault
cause_of files before after name most faults.Missing gone long failed other = gone refl
cause_of files before after name most faults.Failed gone long failed other = failed refl
cause_of files before after name most faults.TooLarge gone long failed other = long refl
cause_of files before after name most faults.Memory gone long failed other = absurd (other refl)

-- the name at a number is given to the shelf
module _ (names : List (String Global)) (i : ℕ) (name : String Global) (given : List ℕ) (h : i < length names) (is : name ≡ get_or names i name)
    (called : given ≡ string_bytes name) where
  abbrev front : List (List ℕ)
  front = map string_bytes (take i names)

  here : string_bytes (get_or names i name) ≡ given
  here = ap string_bytes (sym is) ∙ sym called

  names_more : map string_bytes (take (i + 1) names) ≡ front ++ given ∷ []
  names_more = map_more string_bytes names i name h ∙ ap (λ (n : List ℕ). front ++ n ∷ []) here

  -- it stands between those before it and those after it
  names_cut : map string_bytes names ≡ front ++ given ∷ map string_bytes (drop (i + 1) names)
  names_cut =
      ap (map string_bytes) (sym (take-append-drop i names)) ∙ map-append string_bytes (take i names) (drop i names)
      ∙ ap (λ (ns : List (List ℕ)). front ++ ns)
      (at_drop_more (map string_bytes) names i name h ∙ ap (λ (n : List ℕ). n ∷ map string_bytes (drop (i + 1) names)) here)

  -- one more file was read
  pub held_turn : (told now : Option FileMap) (contents more : List (Vec ℕ)) (file : Vec ℕ) → now ≡ told → AreHeld told front (bytes_of contents)
      → MayHold now given file.items → more ≡ contents ++ file ∷ [] → AreHeld told (map string_bytes (take (i + 1) names)) (bytes_of more)
  held_turn told now contents more file same held got pushed =
      rw (names_more, bytes_more contents more file pushed)
      (held_more told front (bytes_of contents) given file.items held (subst (λ (t : Option FileMap). MayHold t given file.items) same got))

  -- the shelf was asked for the names up to this one
  up_to_here : (before middle after : List (List ℕ)) → middle ≡ before ++ front → after ≡ middle ++ given ∷ [] → after ≡ before ++ (front ++ given ∷ [])
  up_to_here before middle after so_far asked = asked ∙ ap (λ (xs : List (List ℕ)). xs ++ given ∷ []) so_far ∙ append_assoc before front (given ∷ [])

  pub asked_turn : (before middle after : List (List ℕ)) → middle ≡ before ++ front → after ≡ middle ++ given ∷ [] → after ≡ before ++ map string_bytes (take (i + 1) names)
  asked_turn before middle after so_far asked = rw names_more (up_to_here before middle after so_far asked)

  -- so it was asked for some of the names
  pub asked_part : (before middle after : List (List ℕ)) → middle ≡ before ++ front → after ≡ middle ++ given ∷ [] → AskedFront (map string_bytes names) before after
  asked_part before middle after so_far asked = record {
    front = map string_bytes (take (i + 1) names);
    rest = map string_bytes (drop (i + 1) names);
    stands = ap (map string_bytes) (sym (take-append-drop (i + 1) names)) ∙ map-append string_bytes (take (i + 1) names) (drop (i + 1) names);
    asked = asked_turn before middle after so_far asked;
  }

  -- it refused this one after those that were read
  pub stop_at : (shelf : ShelfUse) (now : Option FileMap) (now_before : ℕ) (contents : List (Vec ℕ)) (most left : ℕ) (fault : ShelfFault) (asked gave : List (List ℕ))
      → now ≡ shelf.files → now_before ≡ shelf.faults_before → AreHeld shelf.files front (bytes_of contents) → total (bytes_of contents) + left ≡ most
      → IsCause now now_before shelf.faults_after given left fault → asked ≡ shelf.asked_before ++ front → shelf.asked_after ≡ asked ++ given ∷ []
      → gave ≡ shelf.gave_before ++ bytes_of contents → shelf.gave_after ≡ gave → IsRefusedAt shelf (map string_bytes names) most given fault
  stop_at shelf now now_before contents most left fault asked gave same calm held rest cause asked_so_far asked_more gave_so_far no_more =
      let most_left : left ≡ most - total (bytes_of contents) = omega arith in
      record {
        front = front;
        rest = map string_bytes (drop (i + 1) names);
        contents = bytes_of contents;
        stands = names_cut;
        held = held;
        asked = up_to_here shelf.asked_before asked shelf.asked_after asked_so_far asked_more;
        gave = no_more ∙ gave_so_far;
        within = omega arith;
        cause = subst (λ (x : Type 0). x) (λ j. IsCause (same j) (calm j) shelf.faults_after given (most_left j) fault) cause;
      }
