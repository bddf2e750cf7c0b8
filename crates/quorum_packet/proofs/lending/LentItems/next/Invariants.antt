use Rattle.std.proofs.Common.{◌≡◌, ◌≤◌}
use Rattle.std.specs.Prelude.{is_err}
use Rattle.quorum_packet.specs.Feed.{unread_len}
use Rattle.quorum_packet.specs.Items.{items_shown_at}
use Rattle.quorum_packet.proofs.lending.LentItems.next.Given as goal

-- The items from here on are the items from the start.
abbrev pub invariant-loop-item : goal.invariant-loop-item
invariant-loop-item l = record {
  source : l.self.source ≡ l.fn.self.source;
  same : items_shown_at l.self.place ≡ items_shown_at l.fn.self.place;
  less : unread_len l.self.place.unread ≤ unread_len l.fn.self.place.unread;
  fine : is_err l.self.place.unread ≡ is_err l.fn.self.place.unread;
}

abbrev pub decreases-loop-item : goal.decreases-loop-item
decreases-loop-item l = unread_len l.self.place.unread
