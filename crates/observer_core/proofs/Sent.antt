-- Why a frame may be sent: what it shows.
use Rattle.std.proofs.Common.{◌≡◌, inl, inr, ℕ, ℤ, negsuc, Bool, true, false, cond, List, Option, Some, refl, sym, ap}
use Rattle.std.specs.Option.{unwrap_or}
use Rattle.settings.specs.declared.dialect.Dialect.{Dialect}
use Rattle.settings.specs.declared.dialect.Dialect.TheVariants.{Zk34, Zk38}
use Rattle.client_records.specs.declared.codes.TheConstants.{OK, NO_WATCHER, NOTIFICATION_XID}
use Rattle.sessions.specs.declared.request.SessionResponse.{SessionResponse}
use Rattle.watch_manager.specs.declared.event.Event.{Event}
use Rattle.read_processor.specs.Look.{without_body}
use Rattle.read_processor.specs.Events.{look_of_event}
use Rattle.read_processor.specs.Reply.{reply_frame}
use Rattle.four_letter.specs.Texts.{reply_text}
use Rattle.four_letter.specs.declared.figures.Figures.{Figures}
use Rattle.four_letter.specs.declared.word.Word.{Word}
use Rattle.client_frames.specs.Connect.{answer_to_connect}
use Rattle.client_service.specs.LaterReads.{unreadable_error, unknown_zxid}
use Rattle.world.specs.World.{World}
use Rattle.observer_core.specs.Shown.{TreeRead, look_in, PlainLook, OfError, plain_look, is_plain, IsLastOrNone}
use Rattle.observer_core.proofs.Stepping.{MaySend}

pub read_reply : (w : World) (xid : ℤ) (read : TreeRead)
    → MaySend w (reply_frame xid w.replica.learner.last_zxid (look_in w.replica.tree read))
read_reply w xid read bytes is = inl (record { xid = xid; read = read; is = is })

pub plain_reply : (w : World) (xid zxid : ℤ) (look : PlainLook) → is_plain look ≡ true → IsLastOrNone w.replica zxid
    → MaySend w (reply_frame xid zxid (plain_look look))
plain_reply w xid zxid look plain named bytes is =
    inr (inl (record { xid = xid; zxid = zxid; named = named; look = look; plain = plain; is = is }))

pub error_reply : (w : World) (xid zxid error : ℤ) → is_plain (OfError error) ≡ true → IsLastOrNone w.replica zxid
    → MaySend w (reply_frame xid zxid (without_body error))
error_reply w xid zxid error plain named = plain_reply w xid zxid (OfError error) plain named

pub unknown_named : (w : World) (d : Dialect)
    → IsLastOrNone w.replica (unknown_zxid d w.replica.learner.last_zxid)
unknown_named w Zk34 = inl refl
unknown_named w Zk38 = inr (inr refl)

pub unreadable_plain : (d : Dialect) → is_plain (OfError (unreadable_error d)) ≡ true
unreadable_plain Zk34 = refl
unreadable_plain Zk38 = refl

pub sought_plain : (is_there : Bool) → is_plain (OfError (cond is_there OK NO_WATCHER)) ≡ true
sought_plain true = refl
sought_plain false = refl

pub notice_shows : (w : World) (event : Event) → MaySend w (reply_frame NOTIFICATION_XID (negsuc 0) (look_of_event event))
notice_shows w event bytes is = inr (inr (inr (inl (record { event = event; is = is }))))

frame_is : (frame bytes : List ℕ) → Some frame ≡ Some bytes → bytes ≡ frame
frame_is frame bytes is = sym (ap (λ (o : Option (List ℕ)). unwrap_or o frame) is)

pub connect_shows : (w : World) (response : SessionResponse) (has_byte : Bool)
    → MaySend w (Some (answer_to_connect response has_byte))
connect_shows w response has_byte bytes is =
    inr (inr (inl (record {
      response = response;
      has_byte = has_byte;
      is = frame_is (answer_to_connect response has_byte) bytes is;
    })))

pub word_shows : (w : World) (word : Word) (figures : Figures) → MaySend w (Some (reply_text word figures))
word_shows w word figures bytes is =
    inr (inr (inr (inr (record {
      word = word;
      figures = figures;
      is = frame_is (reply_text word figures) bytes is;
    }))))
