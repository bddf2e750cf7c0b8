use Rattle.std.proofs.Common.{IsTrue, cond, Some, Ok, Err, length, ap, subst, sym}
use Rattle.std.proofs.Math.Dec.{leb}
use Rattle.std.proofs.lemmas.Bool.{leb-true, le-leb}
use Rattle.std.proofs.lemmas.Str.{is_utf8-from_IsUtf8}
use Rattle.values.specs.declared.fault.Fault.TheVariants.{BadText}
use Rattle.jute.specs.Format.{buffer_limit}
use Rattle.snapshot_codec.proofs.fits.fits_text.Goals as goal

pub returns : goal.returns
returns c =
    let same = c.as_bytes.ensures.value in
    let text = c.args.text.now in (
      λ t. (
        ap (λ b. cond b (Ok (Some text)) (Err BadText)) (is_utf8-from_IsUtf8 text c.utf8.text),
        leb-true (length text) buffer_limit (subst (λ b. IsTrue (leb (length b) buffer_limit)) same t),
      ),
      λ f. subst (λ b. IsTrue (leb (length b) buffer_limit)) (sym same) (le-leb (length text) buffer_limit f.1),
    )
