-- Session ids, the passwords of sessions, and digest ids.
use Rattle.std.specs.Prelude.{ℕ, zero, suc, ◌+◌, ◌*◌, ◌/◌, ◌%◌, ◌^◌, ◌==◌, ℤ, List, [], ◌++◌, take, codes, bit_xor, unsigned_abs}
use Rattle.std.specs.Int.{w32, w64, cast_signed, cast_unsigned, to_be_bytes, to_le_bytes}
use Rattle.std.specs.List.{before_first}
use Rattle.sha1.specs.Sha1.{sha1}
use Rattle.base64.specs.Engines.{standard}
use Rattle.base64.specs.GeneralPurpose.{encode_of}
use Rattle.jute.specs.declared.owned.Id.{Id}
use Rattle.sessions.specs.declared.passwords.Passwords.{Passwords}
use Rattle.sessions.specs.declared.passwords.Passwords.TheVariants.{Keyed, Java}

-- ---- the id of a session: the high byte is the server id, the 7 bytes below are a counter

abbrev pub session_number : ℤ → ℕ → ℕ
session_number server_id counter = unsigned_abs server_id * 2 ^ 56 + counter

-- The number is read as two's complement.
unfoldable pub session_id_of : ℤ → ℕ → ℤ
session_id_of server_id counter = cast_signed w64 (session_number server_id counter)

-- ---- its password, made with a secret: the first 16 bytes of SHA-1 of the secret and the id's 8 bytes

abbrev pub id_bytes : ℤ → List ℕ
id_bytes id = to_be_bytes w64 (cast_unsigned w64 id)

unfoldable pub keyed_password : List ℕ → ℤ → List ℕ
keyed_password secret id = take 16 (sha1 (secret ++ id_bytes id))

-- ---- its password, as each server of ZooKeeper makes it: 16 bytes of a java.util.Random whose seed is made of the id

-- The state that `new Random(seed)` begins with.
abbrev pub first_state : ℕ → ℕ
first_state seed = bit_xor seed 0x5DEECE66D % 2 ^ 48

-- A step of java.util.Random, which is a linear congruential generator.
unfoldable pub next_state : ℕ → ℕ
next_state state = (state * 0x5DEECE66D + 11) % 2 ^ 48

-- The 32 bits that a state gives, in little endian as `nextBytes` has them.
unfoldable pub state_bytes : ℕ → List ℕ
state_bytes state = to_le_bytes w32 (state / 2 ^ 16)

-- The bytes that so many steps from this state give.
abbrev pub random_bytes : ℕ → ℕ → List ℕ
random_bytes zero state = []
random_bytes (suc steps) state = state_bytes (next_state state) ++ random_bytes steps (next_state state)

unfoldable pub java_password : ℤ → List ℕ
java_password id = random_bytes 4 (first_state (bit_xor (cast_unsigned w64 id) 0xB3415C00))

-- ---- by either rule

abbrev pub password_of : Passwords → ℤ → List ℕ
password_of (Keyed secret) id = keyed_password secret id
password_of Java id = java_password id

-- ---- the digest id of "user:password": the user, a colon, and SHA-1 of all the bytes in base64

-- The bytes before the first colon, or all of them if there is none.
abbrev pub user_of : List ℕ → List ℕ
user_of bytes = before_first (λ b. b == 58) bytes

unfoldable pub digest_of : List ℕ → List ℕ
digest_of bytes = user_of bytes ++ (codes ":" ++ encode_of standard (sha1 bytes))

abbrev pub digest_id : List ℕ → Id
digest_id bytes = record { scheme = codes "digest"; id = digest_of bytes }
