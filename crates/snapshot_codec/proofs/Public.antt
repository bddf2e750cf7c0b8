-- The lemmas that other crates may cite: images, in each dialect, and their parts in other streams.
pub use Rattle.snapshot_codec.proofs.Formats.{part_sound, parts_sound, never_waits}
pub use Rattle.snapshot_codec.proofs.Images.{takes_in, again_in, streamed_in, named_in}
pub use Rattle.snapshot_codec.proofs.Written.{written_in}
