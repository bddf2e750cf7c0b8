-- The addresses that an entry of the scheme "ip" names (ZooKeeper Programmer's Guide, access control lists). A client's
-- id is the address of its peer; that of an entry is an address, or a network, which is an address and how many of its
-- bits count.
use Rattle.std.specs.Prelude.{ℕ, ◌+◌, ◌*◌, ◌-◌, ◌/◌, ◌^◌, List, Option, Some, None, Bool, false, ◌==◌}
use Rattle.values.specs.Maybe.{◌>>=◌}
use Rattle.texts.specs.Cut.{cut_at}
use Rattle.texts.specs.Number.{number_up_to}

-- The number before the first dot, if it is below 256, and the text after the dot.
abbrev pub number_before_dot : List ℕ → Option (ℕ × List ℕ)
number_before_dot text = do
  let parts = cut_at 46 text
  number ← number_up_to 255 parts.front
  behind ← parts.behind
  Some (number, behind)

-- An IPv4 address, as a number of 32 bits: four decimal numbers below 256 with dots between them.
abbrev pub address_of : List ℕ → Option ℕ
address_of text = do
  first ← number_before_dot text
  second ← number_before_dot first.1
  third ← number_before_dot second.1
  fourth ← number_up_to 255 third.1
  Some (((first.0 * 256 + second.0) * 256 + third.0) * 256 + fourth)

-- How many bits count: all 32, or as many as the text after the slash says.
abbrev pub bits_of : Option (List ℕ) → Option ℕ
bits_of None = Some 32
bits_of (Some text) = number_up_to 32 text

abbrev pub network_of : List ℕ → Option (ℕ × ℕ)
network_of text = do
  let parts = cut_at 47 text
  address ← address_of parts.front
  bits ← bits_of parts.behind
  Some (address, bits)

abbrev pub has_same_bits : ℕ → ℕ → ℕ → Bool
has_same_bits bits a b = a / 2 ^ (32 - bits) == b / 2 ^ (32 - bits)

-- Whether an address is in a network: their first bits are the same, as many as count. A text that is no network names
-- nothing, and one that is no address is in none.
abbrev pub is_in_network : Option (ℕ × ℕ) → Option ℕ → Bool
is_in_network None found = false
is_in_network (Some network) None = false
is_in_network (Some network) (Some address) = has_same_bits network.1 network.0 address

abbrev pub names_address : List ℕ → List ℕ → Bool
names_address entry address = is_in_network (network_of entry) (address_of address)
