use Rattle.observer_core.proofs.WholeImages.{parts_are_whole_images}
use Rattle.observer_core.proofs.law.parts_are_whole_images.Goals as goal

pub returns : goal.returns
returns c =
    parts_are_whole_images c.images.ensures c.dialects.ensures c.grouped_items.ensures.pieces c.grouped_items.ensures.order
