-- Sessions, each with a connection.
use Rattle.std.specs.Prelude.{ℕ}
use Rattle.std.specs.Ordering.{int_cmp}
use Rattle.std.specs.Coded.{Coded, coded_ℕ, coded_ℤ}
use Rattle.std.specs.FinMap as finmap

abbrev pub ConnectionBySession : Type 0
ConnectionBySession = finmap.FinMap int_cmp ℕ

abbrev pub connection_by_session_code : Coded ConnectionBySession
connection_by_session_code = finmap.code {R = int_cmp} coded_ℤ coded_ℕ
