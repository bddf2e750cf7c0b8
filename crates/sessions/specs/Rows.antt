-- Passwords that servers of ZooKeeper gave to sessions.
use Rattle.std.specs.Prelude.{◌≡◌, ℕ, pos, List, [], ◌∷◌}
use Rattle.sessions.specs.Credentials.{java_password}

abbrev pub password_of_first_server : List ℕ
password_of_first_server =
    0x33 ∷ 0x93 ∷ 0x34 ∷ 0xdf ∷ 0x44 ∷ 0xb0 ∷ 0x3b ∷ 0xff
    ∷ 0xc9 ∷ 0xf0 ∷ 0x77 ∷ 0x6b ∷ 0x2d ∷ 0x64 ∷ 0x54 ∷ 0x61 ∷ []

abbrev pub password_of_second_server : List ℕ
password_of_second_server =
    0x1a ∷ 0xb9 ∷ 0x18 ∷ 0x7c ∷ 0x9f ∷ 0x5d ∷ 0x61 ∷ 0x09
    ∷ 0x88 ∷ 0x82 ∷ 0x26 ∷ 0x51 ∷ 0x80 ∷ 0x0c ∷ 0xae ∷ 0x01 ∷ []

abbrev pub password_of_small_id : List ℕ
password_of_small_id =
    0x3d ∷ 0x79 ∷ 0x71 ∷ 0xb8 ∷ 0x3a ∷ 0x8c ∷ 0x66 ∷ 0x2f
    ∷ 0x3c ∷ 0x26 ∷ 0x1e ∷ 0x1f ∷ 0xe4 ∷ 0x91 ∷ 0x5c ∷ 0x30 ∷ []

pub record JavaPasswords : Type 0 where
  pub first_server : java_password (pos 0x0100001c0fff0000) ≡ password_of_first_server
  pub second_server : java_password (pos 0x0200001c16d80000) ≡ password_of_second_server
  pub small_id : java_password (pos 0x7777) ≡ password_of_small_id
