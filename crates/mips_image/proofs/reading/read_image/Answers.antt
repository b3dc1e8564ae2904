use Rattle.std.proofs.Common.{arith}
use Rattle.mips_image.proofs.ReadingImages.{found_by_reading, version_by_reading, image_by_reading, only_by_reading}
use Rattle.mips_image.proofs.reading.read_image.Goals as goal

pub returns-clause-found : goal.returns-clause-found
returns-clause-found c = found_by_reading c.args.bytes.now _ (λ i. omega (arith, c.type_inv.bytes i)) c.read_all.ensures

pub returns-clause-version : goal.returns-clause-version
returns-clause-version c = version_by_reading c.args.bytes.now _ c.read_all.ensures

pub returns-clause-image : goal.returns-clause-image
returns-clause-image c = image_by_reading c.args.bytes.now _ (λ i. omega (arith, c.type_inv.bytes i)) c.read_all.ensures

pub returns-clause-only : goal.returns-clause-only
returns-clause-only c = only_by_reading c.args.bytes.now _ c.read_all.ensures
