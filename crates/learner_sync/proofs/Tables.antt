-- The table of sessions in a PING's answer.
use Rattle.std.proofs.Common.{◌≡◌, ℕ, ℤ, List, [], ◌∷◌, ◌++◌, ◌*◌, length, length-append, append-nil, append_assoc, refl, sym, ap, ◌∙◌, arith}
use Rattle.jute.specs.Format.{int, long, number_bytes}
use Rattle.learner_sync.specs.Answers.{session_rows}

abbrev pub row_bytes : ℤ × ℤ → List ℕ
row_bytes row = long.written row.0 ++ int.written row.1

pub one_more : (rows : List (ℤ × ℤ)) (row : ℤ × ℤ) → session_rows (rows ++ row ∷ []) ≡ session_rows rows ++ row_bytes row
one_more [] row = ap (λ bytes. long.written row.0 ++ bytes) (append-nil (int.written row.1))
one_more (first ∷ rest) row =
    ap (λ bytes. long.written first.0 ++ (int.written first.1 ++ bytes)) (one_more rest row)
    ∙ ap (λ bytes. long.written first.0 ++ bytes) (sym (append_assoc (int.written first.1) (session_rows rest) (row_bytes row)))
    ∙ sym (append_assoc (long.written first.0) (int.written first.1 ++ session_rows rest) (row_bytes row))

long-length : (z : ℤ) → length (long.written z) ≡ 8
unfolding number_bytes
long-length z = refl

int-length : (z : ℤ) → length (int.written z) ≡ 4
unfolding number_bytes
int-length z = refl

pub rows-length : (rows : List (ℤ × ℤ)) → length (session_rows rows) ≡ 12 * length rows
rows-length [] = refl
rows-length (row ∷ rest) =
    let inner : List ℕ = int.written row.1 ++ session_rows rest in
    omega (
      arith,
      length-append (long.written row.0) inner,
      length-append (int.written row.1) (session_rows rest),
      long-length row.0,
      int-length row.1,
      rows-length rest,
    )
