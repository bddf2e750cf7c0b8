-- The texts of addresses, as Java writes them.
use Rattle.std.specs.Prelude.{◌≡◌, ℕ, List, [], ◌∷◌, ◌++◌, Bool, true, false, if◌then◌else◌, codes}
use Rattle.std.specs.Fmt.{digits}
use Rattle.std.specs.List.{flat_map}
use Rattle.std.specs.Net.Addr.{ipv4_octets, ipv6_segments, low_octets, IsIpv4Mapped}
use Rattle.std.specs.Net.Text.{ipv4_text}
use Rattle.std.specs.declared.net.ip_addr.IpAddr.{IpAddr}
use Rattle.std.specs.declared.net.ip_addr.IpAddr.TheVariants.{V4, V6}

-- A group, in hexadecimal digits.
abbrev pub group_text : ℕ → List ℕ
group_text group = digits 16 false group

-- A colon is in front of each but the first.
abbrev pub next_text : Bool → ℕ → List ℕ
next_text is_first group = (if is_first then [] else codes ":") ++ group_text group

abbrev pub groups_text : List ℕ → List ℕ
groups_text [] = []
groups_text (first ∷ rest) = next_text true first ++ flat_map (next_text false) rest

-- An address of IPv4 within one of IPv6 is written as that of IPv4.
abbrev pub IsTextOf : IpAddr → List ℕ → Type 0
IsTextOf (V4 ip) text = text ≡ ipv4_text (ipv4_octets ip)
IsTextOf (V6 ip) text =
    (IsIpv4Mapped (ipv6_segments ip) → text ≡ ipv4_text (low_octets ip))
    × (¬ (IsIpv4Mapped (ipv6_segments ip)) → text ≡ groups_text (ipv6_segments ip))
