-- `IsImageOf` says that the text segment of a machine has the instructions assembled from given lines, which have no error, and that each label has its
-- assembled address. Only proofs use it.
use Rattle.std.specs.Prelude.{◌≡◌, ◌+◌, ◌*◌, ◌<◌, List, [], ◌∷◌, length, None}
use Rattle.mips_isa.specs.declared.address_map.TheConstants.{TEXT_START, MOST_TEXT_WORDS}
use Rattle.mips_isa.specs.Lines.{Line, AreInRange}
use Rattle.mips_isa.specs.Assembly.{Need, Nothing, Words, Item, Switch, Padding, need, fault_of_all, image_of_all, place_of, address_or_zero}
use Rattle.cool_runtime.specs.Reaches.{World}

-- the text of a run is that of the image of lines, which are already completed, have no fault and do not fill the text to its end
pub record IsImageOf (w : World) (all : List Line) : Type 0 where
  pub faultless : fault_of_all all ≡ None
  pub ranges : AreInRange all
  pub text_is : w.text ≡ (image_of_all all).text
  pub place_is : w.place ≡ (λ name. address_or_zero (place_of all name))
  pub end_is : w.segments.text_end ≡ TEXT_START + 4 * length w.text
  pub room : length w.text < MOST_TEXT_WORDS

-- a line that takes words of text, or nothing
abbrev pub IsTextNeed : Need → Type 0
IsTextNeed Nothing = Unit {0}
IsTextNeed (Words n) = Unit {0}
IsTextNeed (Item unit size) = ⊥
IsTextNeed (Switch segment) = ⊥
IsTextNeed (Padding unit) = ⊥

abbrev pub AreText : List Line → Type 0
AreText [] = Unit {0}
AreText (line ∷ rest) = IsTextNeed (need line.statement) × AreText rest
