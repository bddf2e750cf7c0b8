-- The connections that are open, by their addresses.
use Rattle.std.specs.Prelude.{◌≡◌, ℕ, false}
use Rattle.std.specs.Option.{unwrap_or}
use Rattle.std.specs.declared.cmp.Ordering.{Ordering}
use Rattle.std.specs.BTreeMap.{BTreeMap, get, is_at}

module _ {K : Type 0} (cmp : K → K → Ordering) where
  -- How many are open of an address.
  abbrev pub open_of : BTreeMap K ℕ → K → ℕ
  open_of counts address = unwrap_or (get cmp counts address) 0

  -- The other addresses have as many as before.
  abbrev pub OtherAddressesStay : K → BTreeMap K ℕ → BTreeMap K ℕ → Type 0
  OtherAddressesStay address before after =
      (other : K) → is_at (cmp address) other ≡ false → get cmp after other ≡ get cmp before other
