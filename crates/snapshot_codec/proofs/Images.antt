-- What is read as an image was spelled so, and a spelling is read; a refusal names the first field that isn't spelled,
-- or the first part that doesn't fit.
use Rattle.std.proofs.Common.{◌≡◌, ℕ, ◌≤◌, ◌-◌, Bool, true, false, cond, ◌||◌, List, [], ◌∷◌, ◌++◌, length, drop, Option, Some, None, is_some, Result, Ok, Err, refl, sym, ap, subst, ◌∙◌, append_assoc, arith, inl, inr}
use mathlib.Core.Bool.{true≢false}
use Rattle.std.specs.Prelude.{ℤ, negsuc}
use Rattle.std.specs.Cmp.{int_cmp_total}
use Rattle.std.specs.FinMap as finmap
use Rattle.std.specs.FinMap.{find}
use Rattle.std.specs.FinSet as set
use Rattle.std.specs.List.{flat_map}
use Rattle.std.specs.Ordering.{int_cmp, int_eq}
use Rattle.std.proofs.lemmas.Grind.{flat_map-append}
use Rattle.std.proofs.lemmas.List.{append-nil, length-append, drop_at}
use Rattle.std.proofs.lemmas.Map.Lookups.{exact_bytes, exact_signed}
use Rattle.settings.specs.declared.dialect.Dialect.{Dialect}
use Rattle.settings.specs.declared.dialect.Dialect.TheVariants.{Zk34}
use Rattle.values.specs.declared.fault.Fault.{Fault}
use Rattle.values.specs.declared.fault.Fault.TheVariants.{Short, BadImage}
use Rattle.ephemerals.specs.Orders.{Bytes, pair_cmp, path_cmp}
use Rattle.ephemerals.proofs.Totals.{path_total, pair_total, pair_exact}
use Rattle.jute.specs.Codes.{open_acl}
use Rattle.jute.specs.Format.{◌>>=◌}
use Rattle.jute.specs.Laws.{IsBytes, TakesSpelling, TakesSpellings, NamesFaults}
use Rattle.jute.specs.Loading.{load_from, made_of, IsLoaded, IsRefused}
use Rattle.jute.specs.Pieces.{IsStable, LeavesFewer}
use Rattle.jute.specs.Stream.{IsStreamable}
use Rattle.jute.specs.declared.owned.Acl.{Acl}
use Rattle.jute.proofs.Public.{bind_ok, bind_err, ok_is, not_refused, guard_ok, guard_ended, guard_err, guard_refused, then_stands, at_most, load_stands, load_eats, stand_on, stand_front, loaded_again, load_takes, load_answers, load_names}
use Rattle.paths_and_acls.specs.Paths.{is_root}
use Rattle.data_tree.specs.Making.{with_session, with_node, has_place}
use Rattle.paths_and_acls.specs.Acls.{acl_or_open}
use Rattle.node_map.specs.Nodes.{Nodes}
use Rattle.data_tree.specs.State.{State}
use Rattle.node_map.specs.Agreement.{is_owner}
use Rattle.node_map.specs.declared.node.Node.{Node}
use Rattle.snapshot_codec.specs.Dialects.{or_missing, comes_late}
use Rattle.snapshot_codec.specs.Image.{SessionEntries, Lists, Rows, parts_in, sessions_in, lists_in, rows_in, list_named, HasPlace, IsAllowedAfter, AreAllowedAfter, AreAt, IsMadeOf, SpellsImageIn, IsRefusedAfter, AgainstImage, image_format, image_in, image_read_in}
use Rattle.snapshot_codec.specs.Made.{LoadedParts, no_parts_in, list_at_key, node_with, with_listed_node, with_part, with_value, image_load}
use Rattle.snapshot_codec.specs.Parts.{Value, Count, Path, Close, Part, part_stream}
use Rattle.snapshot_codec.specs.declared.part.ImageNode.{ImageNode}
use Rattle.snapshot_codec.specs.declared.part.ImagePart.{ImagePart}
use Rattle.snapshot_codec.specs.declared.part.ImagePart.TheVariants as part
use Rattle.snapshot_codec.specs.declared.part.PartPhase.TheVariants.{SessionCount}
use Rattle.snapshot_codec.proofs.Formats.{parts_sound}
use Rattle.snapshot_codec.proofs.Making.{Fits, is_none, none_is, session_fits, list_fits, node_fits, has_place_is, has_place_of, of_has_place, in_time_of, of_in_time}
use Rattle.snapshot_codec.proofs.Reading.{streamed}

-- ---- one part

abbrev pub FitsBehind : LoadedParts → List ImagePart → Type 0
FitsBehind made front = Fits made (flat_map sessions_in front) (flat_map lists_in front) (flat_map rows_in front)

fits_nothing : (dialect : Dialect) → FitsBehind (no_parts_in dialect) []
fits_nothing dialect = record {
  state = record {
    timeouts = λ id. finmap.get-empty int_cmp id;
    nodes = λ path. subst (AreAt dialect [] [] path None) (sym (finmap.get-empty path_cmp path)) tt;
    owners = λ session path. set.contains-empty pair_cmp (session, path) ∙ sym (unowned session path);
  };
  table = λ key. finmap.get-empty int_cmp key;
  closed = λ path none name. refl;
}
  where
    unowned : (session : ℤ) (path : Bytes)
        → is_owner session (finmap.get ((no_parts_in dialect).state.nodes) path) ≡ false
    unowned session path = ap (is_owner session) (finmap.get-empty path_cmp path)

moved : (made : LoadedParts) (s t : SessionEntries) (l m : Lists) (r q : Rows) → Fits made s l r → s ≡ t → l ≡ m → r ≡ q
    → Fits made t m q
moved made s t l m r q f e g h =
    subst (λ (x : Rows). Fits made t m x) h (subst (λ (x : Lists). Fits made t x r) g
    (subst (λ (x : SessionEntries). Fits made x l r) e f))

both_false : (a b : Bool) → (a || b) ≡ false → (a ≡ false) × (b ≡ false)
both_false true b e = absurd (true≢false e)
both_false false b e = (refl, e)

neither_true : (a b : Bool) → a ≡ false → b ≡ false → (a || b) ≡ false
neither_true a b e h = rw (e, h) refl

pub gained : {A : Type 0} (f : ImagePart → List A) (front : List ImagePart) (p : ImagePart) (xs : List A) → f p ≡ xs
    → flat_map f front ++ xs ≡ flat_map f (front ++ p ∷ [])
gained f front p xs e =
    ap (λ (ys : List _). flat_map f front ++ ys) (sym e ∙ sym (append-nil (f p)))
    ∙ sym (flat_map-append f front (p ∷ []))

pub kept : {A : Type 0} (f : ImagePart → List A) (front : List ImagePart) (p : ImagePart) → f p ≡ []
    → flat_map f front ≡ flat_map f (front ++ p ∷ [])
kept f front p e = sym (append-nil (flat_map f front)) ∙ gained f front p [] e

module _ (made : LoadedParts) (front : List ImagePart) (f : FitsBehind made front) where
  abbrev sessions : SessionEntries
  sessions = flat_map sessions_in front

  abbrev lists : Lists
  lists = flat_map lists_in front

  abbrev rows : Rows
  rows = flat_map rows_in front

  named_same : (key : ℤ) → list_at_key made.lists key ≡ list_named lists key
  named_same key = ap (λ (o : Option (List Acl)). cond (int_eq key (negsuc 0)) (Some open_acl) o) (f.table key)

  abbrev Goes : ImagePart → LoadedParts → Type 0
  Goes p next = IsAllowedAfter made.dialect front p × FitsBehind next (front ++ p ∷ [])

  session_goes : (id timeout : ℤ) (next : LoadedParts) → with_part made
      (part.Session (record { id = id; timeout = timeout })) ≡ Ok next
      → Goes (part.Session (record { id = id; timeout = timeout })) next
  session_goes id timeout next e =
      let p = part.Session (record { id = id; timeout = timeout }) in
      let g = guard_ok (is_some (finmap.get made.state.sessions id)) BadImage
      (record made { state = with_session made.state id timeout }) next e in
      let none : find int_cmp id sessions ≡ None = sym (f.state.timeouts id) ∙ is_none _ g.0 in (
        none,
        moved next (sessions ++ (id, timeout) ∷ []) (flat_map sessions_in (front ++ p ∷ [])) lists
            (flat_map lists_in (front ++ p ∷ [])) rows (flat_map rows_in (front ++ p ∷ []))
            (subst (λ (m : LoadedParts). Fits m (sessions ++ (id, timeout) ∷ []) lists rows) g.1
            (session_fits made sessions lists rows id timeout f none))
            (gained sessions_in front p ((id, timeout) ∷ []) refl) (kept lists_in front p refl)
            (kept rows_in front p refl),
      )

  acl_goes : (key : ℤ) (list : Option (List Acl)) (next : LoadedParts)
      → with_part made (part.Acl (record { key = key; list = list })) ≡ Ok next
      → Goes (part.Acl (record { key = key; list = list })) next
  acl_goes key list next e =
      let p = part.Acl (record { key = key; list = list }) in
      let g = guard_ok (comes_late made.dialect made.state.nodes || is_some (finmap.get made.lists key)) BadImage
      (record made { lists = finmap.insert made.lists key (acl_or_open list) }) next e in
      let neither = both_false (comes_late made.dialect made.state.nodes) (is_some (finmap.get made.lists key)) g.0 in
      let time = in_time_of made sessions lists rows f neither.0 in
      let none : find int_cmp key lists ≡ None = sym (f.table key) ∙ is_none _ neither.1 in (
        (none, time),
        moved next sessions (flat_map sessions_in (front ++ p ∷ [])) (lists ++ (key, acl_or_open list) ∷ [])
            (flat_map lists_in (front ++ p ∷ [])) rows (flat_map rows_in (front ++ p ∷ []))
            (subst (λ (m : LoadedParts). Fits m sessions (lists ++ (key, acl_or_open list) ∷ []) rows) g.1
            (list_fits made sessions lists rows key (acl_or_open list) f none time))
            (kept sessions_in front p refl) (gained lists_in front p ((key, acl_or_open list) ∷ []) refl)
            (kept rows_in front p refl),
      )

  node_goes : (n : ImageNode) (named : Option (List Acl)) (next : LoadedParts)
      → or_missing made.dialect (list_named lists n.acl) ≡ named
      → with_listed_node made n named ≡ Ok next
      → Goes (part.Node n) next
  node_goes n None next is e = absurd cc
  node_goes n (Some acl) next is e =
      let p = part.Node n in
      let g = guard_ended (has_place made.state.nodes n.path) BadImage
      (record made { state = with_node made.state n.path (node_with made.dialect n acl) }) next e in
      let place = has_place_of made sessions lists (is_root n.path) rows n.path
      (sym (has_place_is made sessions lists rows n.path f) ∙ g.0) in (
        (place, ap is_some is),
        moved next sessions (flat_map sessions_in (front ++ p ∷ [])) lists (flat_map lists_in (front ++ p ∷ []))
            (rows ++ (n.path, n) ∷ []) (flat_map rows_in (front ++ p ∷ []))
            (subst (λ (m : LoadedParts). Fits m sessions lists (rows ++ (n.path, n) ∷ [])) g.1
            (node_fits made sessions lists rows n.path n acl is f (is_root n.path) refl place))
            (kept sessions_in front p refl) (kept lists_in front p refl)
            (gained rows_in front p ((n.path, n) ∷ []) refl),
      )

  -- A part that is taken fits those before it.
  pub part_goes : (p : ImagePart) (next : LoadedParts) → with_part made p ≡ Ok next → Goes p next
  part_goes (part.Session s) next e = session_goes s.id s.timeout next e
  part_goes (part.Acl a) next e = acl_goes a.key a.list next e
  part_goes (part.Node n) next e =
      node_goes n (or_missing made.dialect (list_named lists n.acl)) next refl
      (ap (λ o. with_listed_node made n (or_missing made.dialect o)) (sym (named_same n.acl)) ∙ e)
  part_goes part.End next e =
      let same : made ≡ next = ok_is made next e in (
        tt,
        subst (λ (m : LoadedParts). FitsBehind m (front ++ part.End ∷ [])) same
            (moved made sessions (flat_map sessions_in (front ++ part.End ∷ [])) lists
            (flat_map lists_in (front ++ part.End ∷ [])) rows (flat_map rows_in (front ++ part.End ∷ [])) f
            (kept sessions_in front part.End refl) (kept lists_in front part.End refl)
            (kept rows_in front part.End refl)),
      )

  node_taken : (n : ImageNode) (named : Option (List Acl)) → HasPlace (is_root n.path) rows n.path
      → is_some named ≡ true
      → (next : LoadedParts) × (with_listed_node made n named ≡ Ok next)
  node_taken n None place some = absurd (true≢false (sym some))
  node_taken n (Some acl) place some = (
    record made { state = with_node made.state n.path (node_with made.dialect n acl) },
    rw (has_place_is made sessions lists rows n.path f ∙ of_has_place made sessions lists
        (is_root n.path) rows n.path place) refl,
  )

  -- A part that fits those before it is taken.
  pub part_taken : (p : ImagePart) → IsAllowedAfter made.dialect front p
      → (next : LoadedParts) × (with_part made p ≡ Ok next)
  part_taken (part.Session s) h = (
    record made { state = with_session made.state s.id s.timeout },
    rw (none_is _ (f.state.timeouts s.id ∙ h)) refl,
  )
  part_taken (part.Acl a) h = (
    record made { lists = finmap.insert made.lists a.key (acl_or_open a.list) },
    rw (neither_true (comes_late made.dialect made.state.nodes) (is_some (finmap.get made.lists a.key))
        (of_in_time made sessions lists rows f h.1) (none_is _ (f.table a.key ∙ h.0))) refl,
  )
  part_taken (part.Node n) h =
      let t = node_taken n (or_missing made.dialect (list_named lists n.acl)) h.0 h.1 in
      (t.0, ap (λ o. with_listed_node made n (or_missing made.dialect o)) (named_same n.acl) ∙ t.1)
  part_taken part.End h = (made, refl)

-- A part is refused for one reason only.
node_fault : (made : LoadedParts) (n : ImageNode) (named : Option (List Acl)) (e : Fault)
    → with_listed_node made n named ≡ Err e → BadImage ≡ e
node_fault made n None e h = cc
node_fault made n (Some acl) e h =
    (guard_refused (has_place made.state.nodes n.path) BadImage e
    (record made { state = with_node made.state n.path (node_with made.dialect n acl) }) h).1

part_fault : (made : LoadedParts) (p : ImagePart) (e : Fault) → with_part made p ≡ Err e → BadImage ≡ e
part_fault made (part.Session s) e h =
    (guard_err (is_some (finmap.get made.state.sessions s.id)) BadImage e
    (record made { state = with_session made.state s.id s.timeout }) h).1
part_fault made (part.Acl a) e h =
    (guard_err (comes_late made.dialect made.state.nodes || is_some (finmap.get made.lists a.key)) BadImage e
    (record made { lists = finmap.insert made.lists a.key (acl_or_open a.list) }) h).1
part_fault made (part.Node n) e h = node_fault made n (or_missing made.dialect (list_at_key made.lists n.acl)) e h
part_fault made part.End e h = absurd (not_refused made e h)

-- ---- all the parts

-- A part leaves the dialect.
node_stays : (made : LoadedParts) (n : ImageNode) (named : Option (List Acl)) (next : LoadedParts)
    → with_listed_node made n named ≡ Ok next → next.dialect ≡ made.dialect
node_stays made n None next e = absurd cc
node_stays made n (Some acl) next e =
    ap (λ (m : LoadedParts). m.dialect) (sym (guard_ended (has_place made.state.nodes n.path) BadImage
    (record made { state = with_node made.state n.path (node_with made.dialect n acl) }) next e).1)

part_stays : (made : LoadedParts) (p : ImagePart) (next : LoadedParts) → with_part made p ≡ Ok next
    → next.dialect ≡ made.dialect
part_stays made (part.Session s) next e =
    ap (λ (m : LoadedParts). m.dialect) (sym (guard_ok (is_some (finmap.get made.state.sessions s.id)) BadImage
    (record made { state = with_session made.state s.id s.timeout }) next e).1)
part_stays made (part.Acl a) next e =
    ap (λ (m : LoadedParts). m.dialect) (sym (guard_ok
    (comes_late made.dialect made.state.nodes || is_some (finmap.get made.lists a.key)) BadImage
    (record made { lists = finmap.insert made.lists a.key (acl_or_open a.list) }) next e).1)
part_stays made (part.Node n) next e =
    node_stays made n (or_missing made.dialect (list_at_key made.lists n.acl)) next e
part_stays made part.End next e = ap (λ (m : LoadedParts). m.dialect) (sym (ok_is made next e))

-- The parts taken fit one another.
order_of : (dialect : Dialect) (vs : List Value) (old new : LoadedParts) (front : List ImagePart) → FitsBehind old front
    → made_of (image_load dialect) old vs ≡ Ok new
    → AreAllowedAfter old.dialect front (flat_map parts_in vs) × FitsBehind new (front ++ flat_map parts_in vs)
    × (new.dialect ≡ old.dialect)
order_of dialect [] old new front f e = (
  tt,
  subst (λ (ps : List ImagePart). FitsBehind new ps) (sym (append-nil front))
      (subst (λ (m : LoadedParts). FitsBehind m front) (ok_is old new e) f),
  ap (λ (m : LoadedParts). m.dialect) (sym (ok_is old new e)),
)
order_of dialect (Count n ∷ vs) old new front f e = order_of dialect vs old new front f e
order_of dialect (Path path ∷ vs) old new front f e = order_of dialect vs old new front f e
order_of dialect (Close ∷ vs) old new front f e = order_of dialect vs old new front f e
order_of dialect (Part p ∷ vs) old new front f e =
    let step = bind_ok (with_part old p) (λ next. made_of (image_load dialect) next vs) new e in
    let goes = part_goes old front f p step.0 step.1 in
    let stays = part_stays old p step.0 step.1 in
    let others = order_of dialect vs step.0 new (front ++ p ∷ []) goes.1 step.2 in (
      (
        goes.0,
        subst (λ (d : Dialect). AreAllowedAfter d (front ++ p ∷ []) (flat_map parts_in vs)) stays others.0,
      ),
      subst (λ (ps : List ImagePart). FitsBehind new ps) (append_assoc front (p ∷ []) (flat_map parts_in vs)) others.1,
      others.2 ∙ stays,
    )

-- Parts that fit one another are taken.
made_by : (dialect : Dialect) (vs : List Value) (old : LoadedParts) (front : List ImagePart) → FitsBehind old front
    → AreAllowedAfter old.dialect front (flat_map parts_in vs)
    → (new : LoadedParts) × (made_of (image_load dialect) old vs ≡ Ok new)
made_by dialect [] old front f h = (old, refl)
made_by dialect (Count n ∷ vs) old front f h = made_by dialect vs old front f h
made_by dialect (Path path ∷ vs) old front f h = made_by dialect vs old front f h
made_by dialect (Close ∷ vs) old front f h = made_by dialect vs old front f h
made_by dialect (Part p ∷ vs) old front f h =
    let step = part_taken old front f p h.0 in
    let goes = part_goes old front f p step.0 step.1 in
    let others = made_by dialect vs step.0 (front ++ p ∷ []) goes.1
    (subst (λ (d : Dialect). AreAllowedAfter d (front ++ p ∷ []) (flat_map parts_in vs))
    (sym (part_stays old p step.0 step.1)) h.1) in (
      others.0,
      ap (λ (q : Result LoadedParts Fault). q >>= λ next. made_of (image_load dialect) next vs) step.1
          ∙ others.1,
    )

-- ---- there is one such state

one_node : (dialect : Dialect) (lists : Lists) (rows : Rows) (path : Bytes) (row : Option ImageNode) (a b : Option Node)
    → AreAt dialect lists rows path row a
    → AreAt dialect lists rows path row b → a ≡ b
one_node dialect lists rows path None None None g h = refl
one_node dialect lists rows path (Some r) (Some a) (Some b) g h =
    let bytes = g.bytes ∙ sym h.bytes in
    let stat = g.stat ∙ sym h.stat in
    let mark = g.mark ∙ sym h.mark in
    let listed : (let o : Option (List Acl) = Some a.acl in o ≡ Some b.acl) = sym g.acl ∙ h.acl in
    let acl : a.acl ≡ b.acl = cc in
    let names = set.same_set path_total exact_bytes a.children b.children
    (λ name. g.children name ∙ sym (h.children name)) in
    λ i. Some (record { bytes = bytes i; acl = acl i; stat = stat i; mark = mark i; children = names i })
one_node dialect lists rows path None None (Some b) g h = absurd h
one_node dialect lists rows path None (Some a) b g h = absurd g
one_node dialect lists rows path (Some r) None b g h = absurd g
one_node dialect lists rows path (Some r) (Some a) None g h = absurd h

one_state : (dialect : Dialect) (s t : State) (ids : SessionEntries) (named : Lists) (placed : Rows)
    → IsMadeOf dialect s ids named placed
    → IsMadeOf dialect t ids named placed → s ≡ t
one_state dialect s t ids named placed f g =
    let timeouts = finmap.same_map int_cmp_total exact_signed s.sessions t.sessions
    (λ q. f.timeouts q ∙ sym (g.timeouts q)) in
    let nodes = finmap.same_map path_total exact_bytes s.nodes t.nodes
    (λ q. one_node dialect named placed q (find path_cmp q placed) _ _ (f.nodes q) (g.nodes q)) in
    let pairs = set.same_set pair_total pair_exact s.pairs t.pairs
    (λ p. f.owners p.0 p.1 ∙ ap (λ (m : Nodes). is_owner p.0 (finmap.get m p.1)) nodes ∙ sym (g.owners p.0 p.1)) in
    λ i. record { nodes = nodes i; pairs = pairs i; sessions = timeouts i }

-- ---- the image

abbrev shown : LoadedParts × List ℕ → Result (State × List ℕ) Fault
shown x = Ok (x.0.state, x.1)

pub takes_in : (dialect : Dialect) (bytes : List ℕ) (s : State) (rest : List ℕ) → IsBytes bytes
    → image_read_in dialect bytes ≡ Ok (s, rest)
    → TakesSpelling (image_in dialect) bytes s rest
unfolding image_read_in
takes_in dialect bytes s rest fits e =
    let loads = bind_ok (load_from (image_load dialect) SessionCount (no_parts_in dialect) bytes) shown (s, rest) e in
    let l = load_takes (image_load dialect) (parts_sound dialect) SessionCount (no_parts_in dialect) loads.0.0 bytes
    loads.0.1 fits loads.1 in
    let f = stand_front (part_stream dialect) l.0.found SessionCount l.0.end bytes loads.0.1 l.0.stand in
    let o = order_of dialect l.0.found (no_parts_in dialect) loads.0.0 [] (fits_nothing dialect) l.0.made in
    let taken : TakesSpelling (image_in dialect) bytes loads.0.0.state loads.0.1 = record {
      text = f.0;
      parts = f.1;
      spells = record {
        found = l.0.found;
        end = l.0.end;
        stand = f.2;
        ends = l.0.ends;
        order = o.0;
        made = subst (λ (d : Dialect). IsMadeOf d loads.0.0.state (flat_map sessions_in (flat_map parts_in l.0.found))
            (flat_map lists_in (flat_map parts_in l.0.found)) (flat_map rows_in (flat_map parts_in l.0.found)))
            o.2 o.1.state;
      };
      rest_fits = l.1;
    } in
    subst (λ (y : State × List ℕ). TakesSpelling (image_in dialect) bytes y.0 y.1)
    (ok_is (loads.0.0.state, loads.0.1) (s, rest) loads.2) taken

pub image_taken : TakesSpellings image_format
image_taken = takes_in Zk34

pub again_in : (dialect : Dialect) (s : State) (text rest : List ℕ) → SpellsImageIn dialect s text
    → image_read_in dialect (text ++ rest) ≡ Ok (s, rest)
unfolding image_read_in
again_in dialect s text rest sp =
    let m = made_by dialect sp.found (no_parts_in dialect) [] (fits_nothing dialect) sp.order in
    let o = order_of dialect sp.found (no_parts_in dialect) m.0 [] (fits_nothing dialect) m.1 in
    let found = flat_map parts_in sp.found in
    let loaded_is : IsMadeOf dialect m.0.state (flat_map sessions_in found) (flat_map lists_in found)
    (flat_map rows_in found) =
    subst (λ (d : Dialect). IsMadeOf d m.0.state (flat_map sessions_in found) (flat_map lists_in found)
    (flat_map rows_in found)) o.2 o.1.state in
    let same : m.0.state ≡ s = one_state dialect m.0.state s _ _ _ loaded_is sp.made in
    let loaded : IsLoaded (image_load dialect) SessionCount (no_parts_in dialect) (text ++ rest) m.0 rest = record {
      found = sp.found;
      end = sp.end;
      stand = stand_on (part_stream dialect) sp.found SessionCount sp.end text rest sp.stand;
      ends = sp.ends;
      made = m.1;
    } in
    ap (λ (q : Result (LoadedParts × List ℕ) Fault). q >>= shown)
    (loaded_again (image_load dialect) (parts_sound dialect) SessionCount (no_parts_in dialect) m.0 (text ++ rest) rest
    loaded)
    ∙ ap (λ (t : State). Ok (t, rest)) same

pub image_again : (s : State) (text rest : List ℕ) → SpellsImageIn Zk34 s text
    → image_read_in Zk34 (text ++ rest) ≡ Ok (s, rest)
image_again = again_in Zk34

-- ---- in pieces

ate : (r : Result (LoadedParts × List ℕ) Fault) (n : ℕ) → LeavesFewer r n → LeavesFewer (r >>= shown) n
ate (Ok x) n h = h
ate (Err e) n h = tt

eats_in : (dialect : Dialect) (bytes : List ℕ) → LeavesFewer (image_read_in dialect bytes) (length bytes)
unfolding image_read_in
eats_in dialect bytes = ate (load_from (image_load dialect) SessionCount (no_parts_in dialect) bytes) (length bytes)
    (load_eats (image_load dialect) (streamed dialect) SessionCount (no_parts_in dialect) bytes)

stands_in : (dialect : Dialect) (bytes more : List ℕ)
    → IsStable (image_read_in dialect bytes) more (image_read_in dialect (bytes ++ more))
unfolding image_read_in
stands_in dialect bytes more =
    then_stands (load_from (image_load dialect) SessionCount (no_parts_in dialect) bytes)
    (load_from (image_load dialect) SessionCount (no_parts_in dialect) (bytes ++ more)) more shown
    (load_stands (image_load dialect) (streamed dialect) SessionCount (no_parts_in dialect) bytes more) (λ a rest. refl)

pub streamed_in : (dialect : Dialect) → IsStreamable (image_in dialect)
streamed_in dialect = record {
  pieced = record {
    stands = stands_in dialect;
    leaves = λ bytes. at_most (image_read_in dialect bytes) (length bytes)
        (eats_in dialect bytes);
  };
  some = record { eats = eats_in dialect };
}

pub image_streamed : IsStreamable image_format
image_streamed = streamed_in Zk34

-- ---- refusals

-- The next value is refused exactly if it doesn't fit.
out_of : (made : LoadedParts) (front : List ImagePart) (v : Value) (e : Fault) → FitsBehind made front
    → with_value made v ≡ Err e → (e ≡ BadImage) × IsRefusedAfter made.dialect front v
out_of made front (Count n) e f h = absurd (not_refused made e h)
out_of made front (Path path) e f h = absurd (not_refused made e h)
out_of made front Close e f h = absurd (not_refused made e h)
out_of made front (Part p) e f h = (
  sym (part_fault made p e h),
  λ goes. let t = part_taken made front f p goes in not_refused t.0 e (sym t.1 ∙ h),
)

is_refused : (made : LoadedParts) (front : List ImagePart) (v : Value) → FitsBehind made front
    → IsRefusedAfter made.dialect front v
    → with_value made v ≡ Err BadImage
is_refused made front (Count n) f out = absurd out
is_refused made front (Path path) f out = absurd out
is_refused made front Close f out = absurd out
is_refused made front (Part p) f out = by (with_part made p) refl
  where
    by : (r : Result LoadedParts Fault) → with_part made p ≡ r → r ≡ Err BadImage
    by (Ok next) h = absurd (out (part_goes made front f p next h).0)
    by (Err e) h = ap (λ d. Err d) (sym (part_fault made p e h))

names_in : (dialect : Dialect) (bytes : List ℕ) (e : Fault) → IsBytes bytes → image_read_in dialect bytes ≡ Err e
    → AgainstImage dialect e bytes
unfolding image_read_in
names_in dialect bytes e fits h =
    elim (bind_err (load_from (image_load dialect) SessionCount (no_parts_in dialect) bytes) shown e h) [
      | inl first ↦ named (load_names (image_load dialect) (parts_sound dialect) SessionCount (no_parts_in dialect)
          bytes e fits first)
      | inr never ↦ absurd (not_refused (never.0.0.state, never.0.1) e never.2)
    ]
  where
    named : IsRefused (image_load dialect) SessionCount (no_parts_in dialect) bytes e → AgainstImage dialect e bytes
    named r =
        let o = order_of dialect r.found (no_parts_in dialect) r.so_far [] (fits_nothing dialect) r.made in
        record {
          found = r.found;
          end = r.end;
          rest = r.rest;
          stand = r.stand;
          none_last = r.none_last;
          order = o.0;
          next = elim r.next [
            | inl field ↦ inl field
            | inr value ↦
                let out = out_of r.so_far (flat_map parts_in r.found) value.0 e o.1 value.5 in
                inr (
                  out.0,
                  (
                    value.0,
                    value.1,
                    value.2,
                    value.3,
                    value.4,
                    subst (λ (d : Dialect). IsRefusedAfter d (flat_map parts_in r.found) value.0) o.2 out.1,
                  ),
                )
          ];
        }

answers_in : (dialect : Dialect) (bytes : List ℕ) (e : Fault) → AgainstImage dialect e bytes
    → image_read_in dialect bytes ≡ Err e
unfolding image_read_in
answers_in dialect bytes e a = ap (λ (q : Result (LoadedParts × List ℕ) Fault). q >>= shown)
    (load_answers (image_load dialect) (parts_sound dialect) SessionCount (no_parts_in dialect) bytes e refused)
  where
    refused : IsRefused (image_load dialect) SessionCount (no_parts_in dialect) bytes e
    refused =
        let m = made_by dialect a.found (no_parts_in dialect) [] (fits_nothing dialect) a.order in
        let o = order_of dialect a.found (no_parts_in dialect) m.0 [] (fits_nothing dialect) m.1 in
        record {
          found = a.found;
          end = a.end;
          rest = a.rest;
          stand = a.stand;
          none_last = a.none_last;
          so_far = m.0;
          made = m.1;
          next = elim a.next [
            | inl field ↦ inl field
            | inr value ↦
                let v = value.1 in
                inr (
                  v.0,
                  v.1,
                  v.2,
                  v.3,
                  v.4,
                  is_refused m.0 (flat_map parts_in a.found) v.0 o.1
                      (subst (λ (d : Dialect). IsRefusedAfter d (flat_map parts_in a.found) v.0) (sym o.2) v.5)
                      ∙ ap (λ d. Err d) (sym value.0),
                )
          ];
        }

pub named_in : (dialect : Dialect) → NamesFaults (image_in dialect)
named_in dialect = record { names = names_in dialect; answers = answers_in dialect }

pub image_named : NamesFaults image_format
image_named = named_in Zk34

-- Bytes that were refused for any fault but `Short` begin no image.
pub begins_none : (dialect : Dialect) (bytes more text rest : List ℕ) (s : State) (e : Fault)
    → image_read_in dialect bytes ≡ Err e → (e ≡ Short → ⊥)
    → bytes ++ more ≡ text ++ rest → SpellsImageIn dialect s text → ⊥
begins_none dialect bytes more text rest s e h other same sp =
    by (subst (λ (r : Result (State × List ℕ) Fault). IsStable r more (image_read_in dialect (bytes ++ more))) h
    (stands_in dialect bytes more))
  where
    by : IsStable (let r : Result (State × List ℕ) Fault = Err e in r) more (image_read_in dialect (bytes ++ more)) → ⊥
    by (inl short) = other short
    by (inr stands) = not_refused (s, rest) e
        (sym (ap (image_read_in dialect) same ∙ again_in dialect s text rest sp) ∙ stands)

-- ---- the length of an image

pub image_uses : (dialect : Dialect) (bytes rest : List ℕ) (s : State) → IsBytes bytes
    → image_read_in dialect bytes ≡ Ok (s, rest)
    → (length rest ≤ length bytes) × (image_read_in dialect bytes ≡ Ok (s, drop (length bytes - length rest) bytes))
image_uses dialect bytes rest s fits e =
    let t = takes_in dialect bytes s rest fits e in
    let total : length bytes ≡ length (t.text ++ rest) = ap length t.parts in
    let used : length bytes - length rest ≡ length t.text = omega (arith, total, length-append t.text rest) in
    let behind : drop (length bytes - length rest) bytes ≡ rest =
    ap (λ (b : List ℕ). drop (length bytes - length rest) b) t.parts
    ∙ drop_at t.text rest (length bytes - length rest) (sym used) in
    (omega (arith, total, length-append t.text rest), e ∙ ap (λ (r : List ℕ). Ok (s, r)) (sym behind))
