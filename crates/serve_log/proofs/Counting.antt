-- For how many lines the items of a queue stand.
use Rattle.std.proofs.Common.{◌≡◌, ◌+◌, List, [], ◌∷◌, ◌++◌, String, arith}
use Rattle.std.specs.declared.alloc.Global.{Global}
use Rattle.serve_log.specs.declared.queue.Dropped.{Dropped}
use Rattle.serve_log.specs.declared.queue.Item.{Item}
use Rattle.serve_log.specs.declared.queue.Item.TheVariants as item
use Rattle.serve_log.specs.Queue.{logged_lines, told_items}

lines_append : (before after : List Item) → logged_lines (before ++ after) ≡ logged_lines before + logged_lines after
lines_append [] after = omega arith
lines_append (one ∷ before) after =
    let rest : logged_lines (before ++ after) ≡ logged_lines before + logged_lines after = lines_append before after in
    omega arith

-- What is told of dropped lines stands for them.
told_lines : (dropped : Dropped) → logged_lines (told_items dropped) ≡ dropped.count
told_lines dropped = grind arith

-- A line that is kept, and what is told before it, stand for it and for what was dropped.
pub kept_lines : (before : List Item) (dropped : Dropped) (line : String Global)
    → logged_lines (before ++ told_items dropped ++ item.Line line ∷ []) ≡ logged_lines before + dropped.count + 1
kept_lines before dropped line =
    let all = lines_append (before ++ told_items dropped) (item.Line line ∷ []) in
    let front = lines_append before (told_items dropped) in
    let counted = told_lines dropped in
    omega arith
