-- What becomes of a line: it is kept, or it is dropped and counted.
use Rattle.std.specs.Prelude.{◌≡◌, ℕ, ◌+◌, ◌-◌, ◌^◌, ◌==◌, ◌&&◌, ◌||◌, nat_le, Bool, List, [], ◌∷◌, ◌++◌, Option, String, min, if◌then◌else◌}
use Rattle.std.specs.declared.alloc.Global.{Global}
use Rattle.rtrb.specs.Ring.{sent}
use Rattle.serve_log.specs.declared.queue.Dropped.{Dropped}
use Rattle.serve_log.specs.declared.queue.Item.{Item}
use Rattle.serve_log.specs.declared.queue.Item.TheVariants as item
use Rattle.serve_log.specs.declared.queue.LineQueue.{LineQueue}
use Rattle.serve_log.specs.declared.time.Stamp.{Stamp}

-- There is room for a line of so many bytes, where so many more lines and bytes may wait. After lines were dropped there
-- is room again once half of the queue is empty: 512 lines and 131,072 bytes.
abbrev pub has_room_for : ℕ → ℕ → ℕ → ℕ → Bool
has_room_for dropped lines bytes line =
    nat_le 1 lines && (nat_le line bytes && ((dropped == 0) || (nat_le 512 lines && nat_le 131072 bytes)))

-- A count ends at the greatest number of 64 bits.
abbrev pub most_count : ℕ
most_count = 2 ^ 64 - 1

-- What is told of dropped lines: nothing, where there are none.
abbrev pub told_items : Dropped → List Item
told_items dropped = if dropped.count == 0 then [] else item.Dropped dropped ∷ []

-- A line is kept: what was dropped before it is told first, once.
pub record IsKept (old : LineQueue) (line : String Global) (new : LineQueue) : Type 0 where
  pub sent : sent new.ring ≡ sent old.ring ++ told_items old.dropped ++ item.Line line ∷ []
  pub none_untold : new.dropped.count ≡ 0

-- A line that was to be written at this time is dropped, and counted.
pub record IsDropped (old : LineQueue) (moment : Option Stamp) (new : LineQueue) : Type 0 where
  pub sent : sent new.ring ≡ sent old.ring
  pub count : new.dropped.count ≡ min (old.dropped.count + 1) most_count
  pub time : new.dropped.time ≡ moment

-- For how many logged lines an item stands.
abbrev pub item_lines : Item → ℕ
item_lines (item.Line line) = 1
item_lines (item.Dropped dropped) = dropped.count

abbrev pub logged_lines : List Item → ℕ
logged_lines [] = 0
logged_lines (one ∷ rest) = item_lines one + logged_lines rest

-- How many lines were logged, by what a queue has put and what it has still to tell.
abbrev pub accounted_lines : LineQueue → ℕ
accounted_lines queue = logged_lines (sent queue.ring) + queue.dropped.count
