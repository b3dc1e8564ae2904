-- Conversions from the types of tokens and their positions in the code to the types of the specification.
use Rattle.mips_text.specs.declared.words.Word as declared_word
use Rattle.mips_text.specs.declared.words.Word.TheVariants as words
use Rattle.mips_text.specs.declared.fronts.Found as declared_found
use Rattle.mips_text.specs.declared.magnitudes.Magnitude as declared_magnitude
use Rattle.mips_text.specs.Words.{Word, Name, Number, Register, Text, Colon, Open, Close, Stray, Front}
use Rattle.mips_text.specs.Fronts.{Magnitude}

abbrev pub word_seen : declared_word.Word → Word
word_seen (words.Name bytes) = Name bytes.now
word_seen (words.Number value) = Number value
word_seen (words.Register name) = Register name.now
word_seen (words.Text raw) = Text raw.now
word_seen words.Colon = Colon
word_seen words.Open = Open
word_seen words.Close = Close
word_seen words.Stray = Stray

abbrev pub found_seen : declared_found.Found → Front
found_seen f = record { word = word_seen f.word; after = f.after }

abbrev pub magnitude_seen : declared_magnitude.Magnitude → Magnitude
magnitude_seen m = record { value = m.value; size = m.size }
