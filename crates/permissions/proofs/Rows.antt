-- The worked entries and ids, evaluated.
use Rattle.std.proofs.Common.{refl}
use Rattle.permissions.specs.Rows.{WorkedAddresses, WorkedPermissions, WorkedDigests}

pub worked_addresses : WorkedAddresses
worked_addresses = record {
  address = refl;
  greatest = refl;
  zeros = refl;
  three = refl;
  five = refl;
  large = refl;
  letter = refl;
  gap = refl;
  later = refl;
  within = refl;
  above = refl;
  below = refl;
  rest_of_entry = refl;
  all_bits = refl;
  last_bit = refl;
  without_bits = refl;
  no_bits = refl;
  more_bits = refl;
  empty_bits = refl;
  letters = refl;
  no_address = refl;
}

pub worked_permissions : WorkedPermissions
worked_permissions = record {
  in_network = (refl, refl, refl);
  outside = (refl, refl, refl);
  another_scheme = (refl, refl, refl);
  entry_of_another_scheme = refl;
  same_text = refl;
  another_spelling = refl;
  super_user = (refl, refl, refl);
  nobody = (refl, refl, refl);
  read_before = refl;
}

pub worked_digests : WorkedDigests
worked_digests = record {
  masked = refl;
  without_hash = refl;
  another_scheme = refl;
  user = refl;
  address = refl;
}
