-- The lemmas that other crates may cite: the laws of the formats, and those of combinators and streams.
pub use Rattle.jute.proofs.Steps.{IsBytes-drop, IsBytes-front, IsBytes-back, bind_ok, guard_ok, guard_ended, ok_is, guard_err, guard_refused, bind_err, not_refused, behind_read, then_stands}
pub use Rattle.jute.proofs.Numbers.{int_sound, long_sound, boolean_sound}
pub use Rattle.jute.proofs.Both.{sound_at_end, both_sound, both_at_end, mapped_sound, mapped_at_end}
pub use Rattle.jute.proofs.Judged.{judged_sound, judged_back_sound, judged_takes, judged_reads, judged_pieced, judged_eats, case_sound, case_at_end, or_null_sound}
pub use Rattle.jute.proofs.Buffers.{count_sound, buffer_sound, text_in_sound, name_in_sound, text_sound, name_sound}
pub use Rattle.jute.proofs.Vectors.{vector_sound, null_vector_sound}
pub use Rattle.jute.proofs.Tags.{empty_at_end, refusal_sound, tagged_sound, tagged_at_end, whole_found, whole_again, whole_refused, whole_refuses, held_sound}
pub use Rattle.jute.proofs.Frames.{frame_sound}
pub use Rattle.jute.proofs.Records.{id_in_sound, acl_in_sound, acl_written, acl_writable, id_sound, acl_sound, stat_sound, stat_persisted_sound}
pub use Rattle.jute.proofs.Streaming.{comes_in_pieces, items_whole, items_short, items_refused, shorter_rest, refused_other, only_streamed}
pub use Rattle.jute.proofs.Relating.{are_items, are_items_only, only_lawful}
pub use Rattle.jute.proofs.Loading.{at_most, load_step, load_refused, load_read, load_read_on, load_stands, load_eats}
pub use Rattle.jute.proofs.Loaded.{sound_streamed, sound_lawful, stand_on, stand_front, loaded_again, load_takes, load_answers, load_names}
