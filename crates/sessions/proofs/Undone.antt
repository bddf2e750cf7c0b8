-- An id that was added is taken away again.
use Rattle.std.proofs.Common.{◌≡◌, ℕ, [], ◌∷◌, length, Option, Some, None, refl, ap, subst, ◌∙◌}
use Rattle.std.specs.List.{list_any}
use Rattle.std.specs.Cmp.{nat_cmp_total}
use Rattle.std.proofs.Math.Seq.{take-length, take-append_seam}
use Rattle.std.proofs.lemmas.Map.Lookups.{exact_unsigned}
use Rattle.std.specs.FinMap as finmap
use Rattle.jute.specs.declared.owned.Id.{Id}
use Rattle.sessions.specs.State.{ConnectedClient, SessionTable}
use Rattle.sessions.specs.Sessions.{AuthResult, ids_in, ids_of, is_same_id, are_within_limits, with_id, show_in, add_id}
use Rattle.sessions.specs.Inner.{with_first_ids}
use Rattle.sessions.proofs.Cases.{at_if}
use Rattle.values.proofs.Keyed.{inserted, insert_same, insert_inserted}

-- A connection keeps so many of its ids.
abbrev pub with_kept : SessionTable → ℕ → ℕ → SessionTable
with_kept t n count = record t {
  connections =
      with_first_ids t.connections n count (finmap.get t.connections n);
}

-- With all that it has, nothing changes.
kept_all : (s : SessionTable) (n : ℕ) (c : ConnectedClient) → finmap.get s.connections n ≡ Some c
    → with_kept s n (length c.ids) ≡ s
kept_all s n c here =
    ap (λ (o : Option ConnectedClient). record s
    { connections = with_first_ids s.connections n (length c.ids) o }) here
    ∙ (λ i. record s { connections = finmap.insert s.connections n (record c { ids = take-length c.ids i }) })
    ∙ (λ i. record s { connections = insert_same nat_cmp_total exact_unsigned s.connections n c here i })

-- With all but the one that was added, neither.
kept_others : (s : SessionTable) (n : ℕ) (c : ConnectedClient) (id : Id) → finmap.get s.connections n ≡ Some c
    → with_kept (record s { connections = finmap.insert s.connections n (with_id c id) }) n (length c.ids) ≡ s
kept_others s n c id here =
    let with_new = finmap.insert s.connections n (with_id c id) in
    ap (λ (o : Option ConnectedClient). record s { connections = with_first_ids with_new n (length c.ids) o })
    (inserted nat_cmp_total exact_unsigned s.connections n (with_id c id))
    ∙ (λ i. record s
    { connections = finmap.insert with_new n (record c { ids = take-append_seam c.ids (id ∷ []) i }) })
    ∙ (λ i. record s
    { connections = insert_inserted nat_cmp_total exact_unsigned s.connections n c (with_id c id) i })
    ∙ (λ i. record s { connections = insert_same nat_cmp_total exact_unsigned s.connections n c here i })

undone_in : (s : SessionTable) (n : ℕ) (id : Id) (o : Option ConnectedClient) → finmap.get s.connections n ≡ o
    → with_kept (show_in s n id o).after n (length (ids_in o)) ≡ s
undone_in s n id None none =
    ap (λ (o : Option ConnectedClient). record s { connections = with_first_ids s.connections n 0 o }) none
undone_in s n id (Some c) here =
    at_if (λ (x : AuthResult). with_kept x.after n (length c.ids) ≡ s) (list_any (λ shown. is_same_id shown id) c.ids) _ _
    (λ _. kept_all s n c here)
    (λ _. at_if (λ (x : AuthResult). with_kept x.after n (length c.ids) ≡ s) (are_within_limits (with_id c id).ids) _ _
    (λ _. kept_others s n c id here) (λ _. kept_all s n c here))

-- A connection that keeps the ids that it had before is as it was.
pub undone : (s t : SessionTable) (n : ℕ) (id : Id) → (add_id s n id).after ≡ t
    → with_kept t n (length (ids_of s n)) ≡ s
undone s t n id is =
    subst (λ (t : SessionTable). with_kept t n (length (ids_of s n)) ≡ s) is
    (undone_in s n id (finmap.get s.connections n) refl)
