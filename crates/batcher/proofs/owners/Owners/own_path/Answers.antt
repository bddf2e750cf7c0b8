use Rattle.std.proofs.Common.{refl, Some}
use Rattle.std.specs.Vec.{with_item}
use Rattle.batcher.specs.declared.owners.Owners.{Owners}
use Rattle.batcher.proofs.Numbered.{owned_now}
use Rattle.batcher.proofs.owners.Owners.own_path.Goals as goal

pub returns-clause-owners : goal.returns-clause-owners
returns-clause-owners c q =
    let old = c.args.self.now in
    let path = c.args.path.now in
    let new : Owners = record {
      names = old.names;
      groups = with_item old.groups path.number (Some c.args.group);
    } in
    owned_now old path.number c.args.group path.path c.requires.beside c.requires.number new refl refl q
