use Rattle.batcher.proofs.Owning.{groups_are_apart}
use Rattle.batcher.proofs.Members.{each_is_in_a_group, none_is_a_barrier, groups_cover_their_paths, places_name_the_group}
use Rattle.batcher.proofs.law.groups.Goals as goal

pub returns : goal.returns
returns c =
    record {
      apart = groups_are_apart;
      each = each_is_in_a_group;
      barriers = none_is_a_barrier;
      paths = groups_cover_their_paths;
      places = places_name_the_group;
    }
