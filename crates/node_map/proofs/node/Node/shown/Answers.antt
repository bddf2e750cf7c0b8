use Rattle.std.proofs.Common.{rules, ap, ◌∙◌, w32}
use mir.Val.{SFits}
use Rattle.std.proofs.lemmas.Int.{to_z-of_z}
use Rattle.node_map.specs.Stats.{shown_stat, java_int}
use Rattle.node_map.proofs.node.Node.shown.Goals as goal

pub returns : goal.returns
returns c =
    let fits_children : SFits w32 c.java_int.result = search rules in
    let fits_bytes : SFits w32 c.java_int-2.result = search rules in
    c.show.ensures
    ∙ (λ i. shown_stat c.args.self.now.stat
    ((to_z-of_z w32 c.java_int.result fits_children ∙ c.java_int.ensures ∙ ap java_int c.len.ensures) i)
    ((to_z-of_z w32 c.java_int-2.result fits_bytes ∙ c.java_int-2.ensures ∙ ap java_int c.length.ensures) i))
