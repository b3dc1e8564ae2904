-- Unless memory runs out, `read_image` returns an image (an executable program) and its version if and only if the bytes are those of this image in this
-- version.
use Rattle.std.proofs.Common.{◌≡◌, ℕ, List, Some, None, sym, ◌∙◌, ap, subst}
use Rattle.std.specs.Prelude.{Option, Result, Ok, Err, IfOk}
use Rattle.mips_isa.specs.ImageBounds.{ImageParts, IsImage}
use Rattle.mips_image.specs.declared.stored_image.StoredImage.{StoredImage}
use Rattle.mips_image.specs.declared.image_error.ImageError.{ImageError}
use Rattle.mips_image.specs.declared.image_error.ImageError.TheVariants.{Memory, I1, I2, I3, I4, I5}
use Rattle.mips_image.specs.ImageBytes.{image_bytes, IsVersion, HasWords}
use Rattle.mips_image.specs.ImageReading.{word_at, first_fault, parts_of, Reads, IsReadAs}
use Rattle.mips_image.proofs.ImagesAreRead.{no_fault, version_read, parts_read}
use Rattle.mips_image.proofs.ReadingIsImage.{AreBytes, bytes_of_image, version_of_image, image_in_bounds}

-- the same image in the same version has the same bytes
same_bytes : {v w : ℕ} {i j : ImageParts} → v ≡ w → i ≡ j → image_bytes v i ≡ image_bytes w j
same_bytes e f = cc

-- the image that is read has these bytes
pub found_by_reading : (bytes : List ℕ) (result : Result StoredImage ImageError) → AreBytes bytes → Reads bytes result → IfOk result (λ stored. bytes ≡ image_bytes stored.version stored.image)
found_by_reading bytes (Ok stored) f h = bytes_of_image bytes f h.0 ∙ same_bytes (sym h.1) (sym h.2)
found_by_reading bytes (Err fault) f h = tt

-- its version is known
pub version_by_reading : (bytes : List ℕ) (result : Result StoredImage ImageError) → Reads bytes result → IfOk result (λ stored. IsVersion stored.version)
version_by_reading bytes (Ok stored) h = rw h.1 (version_of_image bytes h.0)
version_by_reading bytes (Err fault) h = tt

-- it is an image
pub image_by_reading : (bytes : List ℕ) (result : Result StoredImage ImageError) → AreBytes bytes → Reads bytes result
    → IfOk result (λ stored. IsImage stored.image × HasWords stored.image)
image_by_reading bytes (Ok stored) f h = subst (λ (i : ImageParts). IsImage i × HasWords i) (sym h.2) (image_in_bounds bytes f h.0)
image_by_reading bytes (Err fault) f h = tt

-- nothing is both absent and there
clash : (found : Option ImageError) (fault : ImageError) → found ≡ None → found ≡ Some fault → ⊥
clash found fault e f = cc

-- the bytes of an image have no fault
faultless : (bytes : List ℕ) (fault : ImageError) (version : ℕ) (image : ImageParts) → IsVersion version → IsImage image → bytes ≡ image_bytes version image → first_fault bytes ≡ Some fault → ⊥
faultless bytes fault version image v h e f =
    let none : first_fault bytes ≡ None = ap first_fault e ∙ no_fault version image v h in
    clash (first_fault bytes) fault none f

-- the bytes of an image are read as that image in that version
pub only_by_reading : (bytes : List ℕ) (result : Result StoredImage ImageError) → Reads bytes result → (version : ℕ) (image : ImageParts) → IsVersion version → IsImage image → HasWords image → bytes ≡ image_bytes version image → IsReadAs version image result
only_by_reading bytes (Ok read) h version image v i w e =
    (h.1 ∙ ap (λ bs. word_at bs 4) e ∙ version_read version image v, h.2 ∙ ap parts_of e ∙ parts_read version image i w)
only_by_reading bytes (Err Memory) h version image v i w e = tt
only_by_reading bytes (Err I1) h version image v i w e = faultless bytes I1 version image v i e h
only_by_reading bytes (Err I2) h version image v i w e = faultless bytes I2 version image v i e h
only_by_reading bytes (Err I3) h version image v i w e = faultless bytes I3 version image v i e h
only_by_reading bytes (Err I4) h version image v i w e = faultless bytes I4 version image v i e h
only_by_reading bytes (Err I5) h version image v i w e = faultless bytes I5 version image v i e h
