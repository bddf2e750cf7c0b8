-- The texts of a set, written one after another.
use Rattle.std.proofs.Common.{◌≡◌, ℕ, ◌<◌, ◌^◌, List, [], ◌∷◌, ◌++◌, length, All, refl, sym, ap, subst, ◌∙◌, append_assoc, w32, to_z, pos}
use Rattle.std.specs.List.{flat_map, AllByRecursion}
use Rattle.std.proofs.lemmas.List.Concat.{flat_map-cons}
use Rattle.std.proofs.lemmas.List.Elements.{All-head, All-tail}
use Rattle.std.proofs.lemmas.Int.{to_z_pos}
use Rattle.ephemerals.specs.Orders.{Bytes}
use Rattle.jute.specs.Format.{text_or_empty, number_bytes}
use Rattle.client_records.specs.Fields.{names_format}
use Rattle.values.specs.Gains.{Gains}
use Rattle.values.proofs.Gaining.{gains_first, gains_behind, gains_same}

abbrev pub MayBeWritten : Bytes → Type 0
MayBeWritten t = length t < 2 ^ 31

pub each_may : (texts : List Bytes)
    → All text_or_empty.Writable texts → AllByRecursion MayBeWritten texts
each_may [] h = tt
each_may (t ∷ ts) h = (
  All-head text_or_empty.Writable t ts h,
  each_may ts (All-tail text_or_empty.Writable t ts h),
)

abbrev pub spelled : Bytes → List ℕ
spelled t = text_or_empty.written t

-- A prefix of the whole was appended, and the texts left are the rest of it.
pub record Written (old all out : List ℕ) (left : List Bytes) : Type 0 where
  pub front : List ℕ
  pub put : out ≡ old ++ front
  pub rest : all ≡ front ++ flat_map spelled left

-- The count was written.
pub put_count : (old out : List ℕ) (count : ℕ) (texts : List Bytes) → length texts ≡ count
    → length texts < 2 ^ 31
    → out ≡ old ++ number_bytes w32 (to_z w32 count)
    → Written old (names_format.written texts) out texts
put_count old out count texts same few e =
    let shown : to_z w32 count ≡ pos (length texts) = ap (to_z w32) (sym same) ∙ to_z_pos w32 (length texts) few in
    record {
      front = number_bytes w32 (pos (length texts));
      put = e ∙ ap (λ z. old ++ number_bytes w32 z) shown;
      rest = refl;
    }

-- The next text was written.
pub put_next : {old all mid new : List ℕ} {t : Bytes} {left : List Bytes}
    → Written old all mid (t ∷ left) → new ≡ mid ++ spelled t → Written old all new left
put_next {t = t} {left = left} w e = record {
  front = w.front ++ spelled t;
  put = e ∙ ap (λ (x : List ℕ). x ++ spelled t) w.put ∙ append_assoc _ w.front (spelled t);
  rest = w.rest ∙ ap (λ (x : List ℕ). w.front ++ x) (flat_map-cons spelled t left)
      ∙ sym (append_assoc w.front (spelled t) (flat_map spelled left));
}

-- A prefix of the next text was written.
pub put_part : {old all mid new : List ℕ} {t : Bytes} {left : List Bytes}
    → Written old all mid (t ∷ left) → Gains mid (spelled t) new → Gains old all new
put_part {old = old} {t = t} {left = left} w g =
    let whole : w.front ++ (spelled t ++ flat_map spelled left) ≡ _ =
    ap (λ (x : List ℕ). w.front ++ x) (sym (flat_map-cons spelled t left)) ∙ sym w.rest in
    gains_same whole (gains_behind old w.front w.put (gains_first _ g))

-- A prefix of the count was written.
pub put_part_of_count : (old out : List ℕ) (count : ℕ) (texts : List Bytes) → length texts ≡ count
    → length texts < 2 ^ 31
    → Gains old (number_bytes w32 (to_z w32 count)) out → Gains old (names_format.written texts) out
put_part_of_count old out count texts same few g =
    let shown : to_z w32 count ≡ pos (length texts) = ap (to_z w32) (sym same) ∙ to_z_pos w32 (length texts) few in
    gains_first _ (subst (λ z. Gains old (number_bytes w32 z) out) shown g)
