-- Entries and ids that were worked out by hand.
use Rattle.std.specs.Prelude.{◌≡◌, ℕ, pos, List, [], ◌∷◌, Bool, Some, None, true, false, codes}
use Rattle.settings.specs.declared.dialect.Dialect.TheVariants.{Zk34, Zk38}
use Rattle.jute.specs.declared.owned.Acl.{Acl}
use Rattle.jute.specs.declared.owned.Id.{Id}
use Rattle.permissions.specs.Addresses.{address_of, names_address}
use Rattle.permissions.specs.Digests.{masked_acl, client_info_of}
use Rattle.permissions.specs.Permissions.{means_id, may_read, may_see_acl, may_administrate}

-- ---- addresses

abbrev pub IsAddress : List ℕ → ℕ → Type 0
IsAddress text number = address_of text ≡ Some number

abbrev pub IsNoAddress : List ℕ → Type 0
IsNoAddress text = address_of text ≡ None

abbrev pub NamesAddress : List ℕ → List ℕ → Type 0
NamesAddress entry address = names_address entry address ≡ true

abbrev pub DoesNotName : List ℕ → List ℕ → Type 0
DoesNotName entry address = names_address entry address ≡ false

pub record WorkedAddresses : Type 0 where
  pub address : IsAddress (codes "10.0.200.1") 167823361
  pub greatest : IsAddress (codes "255.255.255.255") 4294967295
  pub zeros : IsAddress (codes "010.0.0.001") 167772161
  pub three : IsNoAddress (codes "10.0.1")
  pub five : IsNoAddress (codes "10.0.0.1.2")
  pub large : IsNoAddress (codes "10.0.0.256")
  pub letter : IsNoAddress (codes "10.0.0.a")
  pub gap : IsNoAddress (codes "10..0.1")
  pub later : IsNoAddress (codes "::1")
  -- The number of bits divides the third number, and the second.
  pub within : NamesAddress (codes "10.0.2.0/23") (codes "10.0.3.255")
  pub above : DoesNotName (codes "10.0.2.0/23") (codes "10.0.4.0")
  pub below : DoesNotName (codes "10.0.2.0/23") (codes "10.0.1.255")
  pub rest_of_entry : NamesAddress (codes "10.1.2.3/16") (codes "10.1.0.0")
  pub all_bits : NamesAddress (codes "10.0.0.1/32") (codes "10.0.0.1")
  pub last_bit : DoesNotName (codes "10.0.0.1/32") (codes "10.0.0.0")
  pub without_bits : DoesNotName (codes "10.0.0.1") (codes "10.0.0.0")
  pub no_bits : NamesAddress (codes "10.0.0.1/0") (codes "192.168.0.1")
  pub more_bits : DoesNotName (codes "10.0.0.1/33") (codes "10.0.0.1")
  pub empty_bits : DoesNotName (codes "10.0.0.1/") (codes "10.0.0.1")
  pub letters : DoesNotName (codes "10.0.0.1/a") (codes "10.0.0.1")
  pub no_address : DoesNotName (codes "10.0.0.1/0") (codes "::1")

-- ---- permissions

abbrev pub id_with : List ℕ → List ℕ → Id
id_with scheme text = record { scheme = scheme; id = text }

abbrev pub address_id : List ℕ → Id
address_id text = id_with (codes "ip") text

-- An entry that lets its id read.
abbrev pub reading_entry : Id → Acl
reading_entry id = record { perms = pos 1; id = id }

-- What a client with some ids may do, by a list: read, see the list, administrate.
abbrev pub IsLet : List Id → List Acl → Bool → Bool → Bool → Type 0
IsLet ids acls reads sees administrates =
    (may_read Zk38 ids acls ≡ reads) × (may_see_acl ids acls ≡ sees) × (may_administrate ids acls ≡ administrates)

-- The network 10.0.0.0/8 may read.
abbrev pub reading_network : List Acl
reading_network = reading_entry (address_id (codes "10.0.0.0/8")) ∷ []

pub record WorkedPermissions : Type 0 where
  pub in_network : IsLet (address_id (codes "10.9.8.7") ∷ []) reading_network true true false
  pub outside : IsLet (address_id (codes "11.9.8.7") ∷ []) reading_network false false false
  -- Another scheme counts for the same texts alone.
  pub another_scheme : IsLet (id_with (codes "x509") (codes "10.9.8.7") ∷ []) reading_network false false false
  pub entry_of_another_scheme : means_id (id_with (codes "x509") (codes "10.0.0.0/8")) (address_id (codes "10.9.8.7"))
      ≡ false
  pub same_text : means_id (address_id (codes "::1")) (address_id (codes "::1")) ≡ true
  pub another_spelling : means_id (address_id (codes "::1")) (address_id (codes "0:0:0:0:0:0:0:1")) ≡ false
  pub super_user : IsLet (id_with (codes "super") [] ∷ []) [] true true true
  pub nobody : IsLet [] [] false false false
  -- An empty list lets the clients of ZooKeeper 3.4 read, and no later one.
  pub read_before : may_read Zk34 [] [] ≡ true

-- ---- digests

abbrev pub hashed_id : Id
hashed_id = id_with (codes "digest") (codes "ann:QQ==")

-- An id of the scheme digest without a hash.
abbrev pub bare_id : Id
bare_id = id_with (codes "digest") (codes "ann")

pub record WorkedDigests : Type 0 where
  pub masked : masked_acl (reading_entry hashed_id) ≡ reading_entry (id_with (codes "digest") (codes "ann:x"))
  pub without_hash : masked_acl (reading_entry bare_id) ≡ reading_entry bare_id
  pub another_scheme : masked_acl (reading_entry (address_id (codes "::1"))) ≡ reading_entry (address_id (codes "::1"))
  pub user : client_info_of hashed_id ≡ record { auth_scheme = codes "digest"; user = codes "ann" }
  pub address : client_info_of (address_id (codes "::1")) ≡ record { auth_scheme = codes "ip"; user = codes "::1" }
