use Rattle.std.proofs.Common.{◌≡◌, Ok, arith}
use Rattle.snapshot_codec.specs.Image.{image_read_in}
use Rattle.snapshot_codec.proofs.Images.{image_uses}
use Rattle.snapshot_codec.proofs.image.read_image_in.Goals as goal

pub overflow_sub-result : goal.overflow_sub-result
overflow_sub-result c =
    let read : image_read_in c.args.dialect c.args.bytes.now ≡ Ok (c.in_ok-image.image, c.rest.result.now) =
    rw (c.rest.ensures, ← c.new-reader.ensures) c.in_ok-image.ensures in
    (image_uses c.args.dialect c.args.bytes.now c.rest.result.now c.in_ok-image.image (λ i. omega (arith, c.type_inv.bytes i)) read).0

pub returns : goal.returns
returns c =
    let read : image_read_in c.args.dialect c.args.bytes.now ≡ Ok (c.in_ok-image.image, c.rest.result.now) =
    rw (c.rest.ensures, ← c.new-reader.ensures) c.in_ok-image.ensures in
    let used = image_uses c.args.dialect c.args.bytes.now c.rest.result.now c.in_ok-image.image
    (λ i. omega (arith, c.type_inv.bytes i)) read in
    (used.1, omega arith)
