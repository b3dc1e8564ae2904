-- A file for `exec` stands for at most one image. A file with an error stands for none, and an assembly text has at most one first error.
use Rattle.std.proofs.Common.{◌≡◌, ℕ, inl, inr, true, false, List, Some, sym, ◌∙◌, ap}
use Rattle.mips_isa.specs.{Assembly.{fault_of, image_of}, ImageBounds.{ImageParts}, declared.asm_fault.AsmFault.{AsmFault}}
use Rattle.mips_image.specs.{ImageReading.{first_fault, parts_of}, declared.image_error.ImageError.{ImageError}}
use Rattle.mips_image.proofs.ImagesAreRead.{no_fault, parts_read}
use Rattle.mips_text.proofs.OneReading.{never_both, one_first_fault, one_reading}
use Rattle.cool_driver.specs.Execution.{IsImageOf, IsRunnable, IsTextFault, is_text_file}

-- an image is no text
no_text : (found : ImageParts) (bytes : List ℕ) → IsImageOf found bytes → is_text_file bytes ≡ true → ⊥
no_text found bytes is text =
    let binary : is_text_file bytes ≡ false = ap is_text_file is.bytes_are in
    cc

-- and is read as itself
is_read : (found : ImageParts) (bytes : List ℕ) → IsImageOf found bytes → parts_of bytes ≡ found
is_read found bytes is = ap parts_of is.bytes_are ∙ parts_read is.version found is.bounds is.words

-- a file stands for one image
pub one_runnable : (found other : ImageParts) (bytes : List ℕ) → IsRunnable found bytes → IsRunnable other bytes → found ≡ other
one_runnable found other bytes (inl is) (inl also) = sym (is_read found bytes is) ∙ is_read other bytes also
one_runnable found other bytes (inl is) (inr also) = absurd (no_text found bytes is also.text)
one_runnable found other bytes (inr is) (inl also) = absurd (no_text other bytes also is.text)
one_runnable found other bytes (inr is) (inr also) = is.image_is ∙ ap image_of (one_reading bytes is.lines also.lines is.reads also.reads) ∙ sym also.image_is

-- a text with a fault stands for none
pub fault_or_runs : (found : ImageParts) (bytes : List ℕ) (fault : AsmFault) → is_text_file bytes ≡ true → IsTextFault bytes fault → IsRunnable found bytes → ⊥
fault_or_runs found bytes fault text wrong (inl is) = no_text found bytes is text
fault_or_runs found bytes fault text (inl first) (inr made) = never_both bytes made.lines fault made.reads first
fault_or_runs found bytes fault text (inr (lines, reads, some)) (inr made) =
    let none = made.no_fault in
    cc (ap fault_of (one_reading bytes lines made.lines reads made.reads))

-- and neither does what is no text and has a fault of an image
pub unfit_or_runs : (found : ImageParts) (bytes : List ℕ) (fault : ImageError) → is_text_file bytes ≡ false → first_fault bytes ≡ Some fault → IsRunnable found bytes → ⊥
unfit_or_runs found bytes fault binary some (inl is) = cc (ap first_fault is.bytes_are, no_fault is.version found is.known is.bounds)
unfit_or_runs found bytes fault binary some (inr made) = cc (made.text)

-- a text has one fault
pub one_text_fault : (bytes : List ℕ) (a b : AsmFault) → IsTextFault bytes a → IsTextFault bytes b → a ≡ b
one_text_fault bytes a b (inl h) (inl g) = one_first_fault bytes a b h g
one_text_fault bytes a b (inl h) (inr (lines, reads, some)) = absurd (never_both bytes lines a reads h)
one_text_fault bytes a b (inr (lines, reads, some)) (inl g) = absurd (never_both bytes lines b reads g)
one_text_fault bytes a b (inr (lines, reads, some)) (inr (others, also, other)) = cc (ap fault_of (one_reading bytes lines others reads also))
