use Rattle.std.proofs.Common.{rules, ◌≡◌, ◌∙◌, w32, w64}
use mir.Val.{SFits}
use Rattle.std.proofs.lemmas.Int.{to_z-of_z}
use Rattle.node_map.specs.Stats.{shown_cversion}
use Rattle.node_map.proofs.node.show.Goals as goal

pub returns : goal.returns
returns c =
    let fits_czxid : SFits w64 c.args.stat.czxid = search rules in
    let fits_mzxid : SFits w64 c.args.stat.mzxid = search rules in
    let fits_ctime : SFits w64 c.args.stat.ctime = search rules in
    let fits_mtime : SFits w64 c.args.stat.mtime = search rules in
    let fits_ephemeral_owner : SFits w64 c.args.stat.ephemeral_owner = search rules in
    let fits_pzxid : SFits w64 c.args.stat.pzxid = search rules in
    let fits_version : SFits w32 c.args.stat.version = search rules in
    let fits_aversion : SFits w32 c.args.stat.aversion = search rules in
    let fits_cversion : SFits w32 c.args.stat.cversion = search rules in
    let fits : SFits w32 c.shown_cversion.result = search rules in
    let cversion : c.shown_cversion.result ≡ shown_cversion c.args.stat.cversion c.args.children =
    c.shown_cversion.ensures
    ∙ (λ i. shown_cversion (to_z-of_z w32 c.args.stat.cversion fits_cversion i)
    (to_z-of_z w32 c.args.children c.ranges.children i)) in
    λ i. record {
      czxid = to_z-of_z w64 c.args.stat.czxid fits_czxid i;
      mzxid = to_z-of_z w64 c.args.stat.mzxid fits_mzxid i;
      ctime = to_z-of_z w64 c.args.stat.ctime fits_ctime i;
      mtime = to_z-of_z w64 c.args.stat.mtime fits_mtime i;
      ephemeral_owner = to_z-of_z w64 c.args.stat.ephemeral_owner fits_ephemeral_owner i;
      pzxid = to_z-of_z w64 c.args.stat.pzxid fits_pzxid i;
      version = to_z-of_z w32 c.args.stat.version fits_version i;
      aversion = to_z-of_z w32 c.args.stat.aversion fits_aversion i;
      cversion = (to_z-of_z w32 c.shown_cversion.result fits ∙ cversion) i;
      data_length = to_z-of_z w32 c.args.bytes c.ranges.bytes i;
      num_children = to_z-of_z w32 c.args.children c.ranges.children i;
    }
