-- The requests of one connection agree after each step.
use Rattle.std.proofs.Common.{◌≡◌, ℕ, suc, ◌+◌, ◌<◌, ◌≤◌, Bool, true, false, cond, not, ◌||◌, [], ◌∷◌, ◌++◌, length, drop, None, refl, sym, ap, ◌∙◌, arith, length-append}
use Rattle.std.specs.List.{list_any}
use Rattle.forwarding.specs.declared.request.PendingConnect.{PendingConnect}
use Rattle.forwarding.specs.declared.request.PendingRequest.{PendingRequest}
use Rattle.forwarding.specs.declared.request.PendingRequest.TheVariants.{Connect, Write, Sync, Held}
use Rattle.forwarding.specs.Queue.{RequestQueue, pending_limit, without_oldest_write, is_unsettled, unsettled_count, settled_request, with_oldest_settled, waiting_connect}
use Rattle.forwarding.specs.Agreement.{is_connect, is_settled, settled_are_first, QueueAgrees}

impossible : {A : Type 0} → true ≡ false → A
impossible e = cc

first_false : (a b : Bool) → (a || b) ≡ false → a ≡ false
first_false true b e = e
first_false false b e = refl

second_false : (a b : Bool) → (a || b) ≡ false → b ≡ false
second_false true b e = impossible e
second_false false b e = e

not_true : (b : Bool) → not b ≡ true → b ≡ false
not_true true e = sym e
not_true false e = refl

-- ---- what is left at the back

pub any_rest : (p : PendingRequest → Bool) (q : RequestQueue) → list_any p q ≡ false → list_any p (drop 1 q) ≡ false
any_rest p [] e = refl
any_rest p (x ∷ xs) e = second_false (p x) (list_any p xs) e

any_pushed : (p : PendingRequest → Bool) (q : RequestQueue) (r : PendingRequest) → p r ≡ false
    → list_any p (q ++ r ∷ []) ≡ list_any p q
any_pushed p [] r e = ap (λ b. b || false) e
any_pushed p (x ∷ xs) r e = ap (λ b. p x || b) (any_pushed p xs r e)

pub no_connect : (q : RequestQueue) → list_any is_connect q ≡ false → waiting_connect q ≡ None
no_connect [] e = refl
no_connect (Connect c ∷ rest) e = impossible e
no_connect (Write w ∷ rest) e = refl
no_connect (Sync s ∷ rest) e = refl
no_connect (Held f ∷ rest) e = refl

pub none_unsettled : (q : RequestQueue) → list_any is_unsettled q ≡ false → unsettled_count q ≡ 0
none_unsettled [] e = refl
none_unsettled (x ∷ xs) e =
    ap (λ b. cond b (suc (unsettled_count xs)) (unsettled_count xs)) (first_false (is_unsettled x) _ e)
    ∙ none_unsettled xs (second_false (is_unsettled x) _ e)

none_settled : (q : RequestQueue) → list_any is_settled q ≡ false → settled_are_first q ≡ true
none_settled [] e = refl
none_settled (x ∷ xs) e =
    elim (is_unsettled x) as (λ b. cond b (not (list_any is_settled xs)) (settled_are_first xs) ≡ true) [
      | true ↦ ap not (second_false (is_settled x) _ e)
      | false ↦ none_settled xs (second_false (is_settled x) _ e)
    ]

-- ---- nothing

pub empty_agrees : (places : ℕ) → places ≡ 0 → QueueAgrees places []
empty_agrees places e =
    record { connect_first = refl; within_limit = omega arith; places_are_unsettled = e; settled_first = refl }

pub connect_agrees : (places : ℕ) (c : PendingConnect) → places ≡ 0 → QueueAgrees places (Connect c ∷ [])
connect_agrees places c e =
    record { connect_first = refl; within_limit = omega arith; places_are_unsettled = e; settled_first = refl }

-- ---- a request is pushed

rest_pushed : (q : RequestQueue) (r : PendingRequest) → is_connect r ≡ false → list_any is_connect (drop 1 q) ≡ false
    → list_any is_connect (drop 1 (q ++ r ∷ [])) ≡ false
rest_pushed [] r e h = refl
rest_pushed (x ∷ xs) r e h = any_pushed is_connect xs r e ∙ h

abbrev pub counted : PendingRequest → ℕ → ℕ
counted r n = cond (is_unsettled r) (suc n) n

later : (b : Bool) (r : PendingRequest) (n : ℕ) → cond b (suc (counted r n)) (counted r n) ≡ counted r (cond b (suc n) n)
later true r n =
    elim (is_unsettled r) as (λ b. suc (cond b (suc n) n) ≡ cond b (suc (suc n)) (suc n)) [ true ↦ refl | false ↦ refl ]
later false r n = refl

count_pushed : (q : RequestQueue) (r : PendingRequest) → unsettled_count (q ++ r ∷ []) ≡ counted r (unsettled_count q)
count_pushed [] r = refl
count_pushed (x ∷ xs) r =
    ap (λ n. cond (is_unsettled x) (suc n) n) (count_pushed xs r) ∙ later (is_unsettled x) r (unsettled_count xs)

first_pushed : (q : RequestQueue) (r : PendingRequest) → is_settled r ≡ false
    → settled_are_first (q ++ r ∷ []) ≡ settled_are_first q
first_pushed [] r e =
    elim (is_unsettled r) as (λ b. cond b (not (list_any is_settled [])) (settled_are_first []) ≡ true)
    [ true ↦ refl | false ↦ refl ]
first_pushed (x ∷ xs) r e =
    (λ i. cond (is_unsettled x) (not (any_pushed is_settled xs r e i)) (first_pushed xs r e i))

pub pushed_agrees : (places new : ℕ) (q : RequestQueue) (r : PendingRequest) → is_connect r ≡ false
    → is_settled r ≡ false → new ≡ counted r places → length q < pending_limit → QueueAgrees places q
    → QueueAgrees new (q ++ r ∷ [])
pushed_agrees places new q r e f is room a = record {
  connect_first = rest_pushed q r e a.connect_first;
  within_limit = (let more : length (q ++ r ∷ []) ≡ length q + 1 = length-append q (r ∷ []) in omega arith);
  places_are_unsettled = is ∙ ap (counted r) a.places_are_unsettled ∙ sym (count_pushed q r);
  settled_first = first_pushed q r f ∙ a.settled_first;
}

pub connect_pushed : (q : RequestQueue) (r : PendingRequest) → is_connect r ≡ false
    → waiting_connect (q ++ r ∷ []) ≡ waiting_connect q
connect_pushed [] r e = no_connect (r ∷ []) (ap (λ b. b || false) e)
connect_pushed (Connect c ∷ rest) r e = refl
connect_pushed (Write w ∷ rest) r e = refl
connect_pushed (Sync s ∷ rest) r e = refl
connect_pushed (Held f ∷ rest) r e = refl

-- ---- the oldest write is answered

any_answered : (p : PendingRequest → Bool) → ((w : _) → p (Write w) ≡ false) → (q : RequestQueue)
    → list_any p (without_oldest_write q) ≡ list_any p q
any_answered p passes_none [] = refl
any_answered p passes_none (Connect c ∷ rest) = ap (λ b. p (Connect c) || b) (any_answered p passes_none rest)
any_answered p passes_none (Write w ∷ rest) = sym (ap (λ b. b || list_any p rest) (passes_none w))
any_answered p passes_none (Sync s ∷ rest) = ap (λ b. p (Sync s) || b) (any_answered p passes_none rest)
any_answered p passes_none (Held f ∷ rest) = ap (λ b. p (Held f) || b) (any_answered p passes_none rest)

rest_answered : (q : RequestQueue) → list_any is_connect (drop 1 q) ≡ false
    → list_any is_connect (drop 1 (without_oldest_write q)) ≡ false
rest_answered [] h = refl
rest_answered (Connect c ∷ rest) h = any_answered is_connect (λ w. refl) rest ∙ h
rest_answered (Write w ∷ rest) h = any_rest is_connect rest h
rest_answered (Sync s ∷ rest) h = any_answered is_connect (λ w. refl) rest ∙ h
rest_answered (Held f ∷ rest) h = any_answered is_connect (λ w. refl) rest ∙ h

length_answered : (q : RequestQueue) → length (without_oldest_write q) ≤ length q
length_answered [] = omega arith
length_answered (Connect c ∷ rest) = let h = length_answered rest in omega arith
length_answered (Write w ∷ rest) = omega arith
length_answered (Sync s ∷ rest) = let h = length_answered rest in omega arith
length_answered (Held f ∷ rest) = let h = length_answered rest in omega arith

count_answered : (q : RequestQueue) → unsettled_count (without_oldest_write q) ≡ unsettled_count q
count_answered [] = refl
count_answered (Connect c ∷ rest) = count_answered rest
count_answered (Write w ∷ rest) = refl
count_answered (Sync s ∷ rest) = ap (λ n. cond (not s.is_settled) (suc n) n) (count_answered rest)
count_answered (Held f ∷ rest) = count_answered rest

first_answered : (q : RequestQueue) → settled_are_first (without_oldest_write q) ≡ settled_are_first q
first_answered [] = refl
first_answered (Connect c ∷ rest) = first_answered rest
first_answered (Write w ∷ rest) = refl
first_answered (Sync s ∷ rest) =
    (λ i. cond (not s.is_settled) (not (any_answered is_settled (λ w. refl) rest i)) (first_answered rest i))
first_answered (Held f ∷ rest) = first_answered rest

pub answered_agrees : (places : ℕ) (q : RequestQueue) → QueueAgrees places q
    → QueueAgrees places (without_oldest_write q)
answered_agrees places q a = record {
  connect_first = rest_answered q a.connect_first;
  within_limit = (let less = length_answered q in let limit = a.within_limit in omega arith);
  places_are_unsettled = a.places_are_unsettled ∙ sym (count_answered q);
  settled_first = first_answered q ∙ a.settled_first;
}

pub connect_answered : (q : RequestQueue) → list_any is_connect (drop 1 q) ≡ false
    → waiting_connect (without_oldest_write q) ≡ waiting_connect q
connect_answered [] h = refl
connect_answered (Connect c ∷ rest) h = refl
connect_answered (Write w ∷ rest) h = no_connect rest h
connect_answered (Sync s ∷ rest) h = refl
connect_answered (Held f ∷ rest) h = refl

-- ---- the oldest sync is settled

settled_isnt : (r : PendingRequest) → is_unsettled (settled_request r) ≡ false
settled_isnt (Connect c) = refl
settled_isnt (Write w) = refl
settled_isnt (Sync s) = refl
settled_isnt (Held f) = refl

same_connect : (r : PendingRequest) → is_connect (settled_request r) ≡ is_connect r
same_connect (Connect c) = refl
same_connect (Write w) = refl
same_connect (Sync s) = refl
same_connect (Held f) = refl

any_settled : (q : RequestQueue) → list_any is_connect (with_oldest_settled q) ≡ list_any is_connect q
any_settled [] = refl
any_settled (r ∷ rest) =
    elim (is_unsettled r) as (λ b. list_any is_connect (cond b (settled_request r ∷ rest) (r ∷ with_oldest_settled rest))
    ≡ (is_connect r || list_any is_connect rest)) [
      | true ↦ ap (λ b. b || list_any is_connect rest) (same_connect r)
      | false ↦ ap (λ b. is_connect r || b) (any_settled rest)
    ]

rest_settled : (q : RequestQueue) → list_any is_connect (drop 1 (with_oldest_settled q))
    ≡ list_any is_connect (drop 1 q)
rest_settled [] = refl
rest_settled (r ∷ rest) =
    elim (is_unsettled r) as (λ b. list_any is_connect
    (drop 1 (cond b (settled_request r ∷ rest) (r ∷ with_oldest_settled rest))) ≡ list_any is_connect rest)
    [ true ↦ refl | false ↦ any_settled rest ]

length_settled : (q : RequestQueue) → length (with_oldest_settled q) ≡ length q
length_settled [] = refl
length_settled (r ∷ rest) =
    elim (is_unsettled r) as (λ b. length (cond b (settled_request r ∷ rest) (r ∷ with_oldest_settled rest))
    ≡ suc (length rest)) [ true ↦ refl | false ↦ ap suc (length_settled rest) ]

count_settled : (q : RequestQueue) (n : ℕ) → suc n ≡ unsettled_count q → n ≡ unsettled_count (with_oldest_settled q)
count_settled [] n e = absurd (omega arith)
count_settled (r ∷ rest) n e =
    elim (is_unsettled r) as (λ b. is_unsettled r ≡ b → suc n ≡ cond b (suc (unsettled_count rest)) (unsettled_count rest)
    → n ≡ unsettled_count (cond b (settled_request r ∷ rest) (r ∷ with_oldest_settled rest))) [
      | true ↦ λ f g. less n (unsettled_count rest) g
          ∙ sym (ap (λ b. cond b (suc (unsettled_count rest)) (unsettled_count rest)) (settled_isnt r))
      | false ↦ λ f g. count_settled rest n g
          ∙ sym (ap (λ b. cond b (suc (unsettled_count (with_oldest_settled rest)))
          (unsettled_count (with_oldest_settled rest))) f)
    ] refl e
  where
    less : (a b : ℕ) → suc a ≡ suc b → a ≡ b
    less a b h = omega arith

first_settled : (q : RequestQueue) → settled_are_first q ≡ true → settled_are_first (with_oldest_settled q) ≡ true
first_settled [] e = refl
first_settled (r ∷ rest) e =
    elim (is_unsettled r) as (λ b. is_unsettled r ≡ b → cond b (not (list_any is_settled rest)) (settled_are_first rest)
    ≡ true → settled_are_first (cond b (settled_request r ∷ rest) (r ∷ with_oldest_settled rest)) ≡ true) [
      | true ↦ λ f g.
          ap (λ b. cond b (not (list_any is_settled rest)) (settled_are_first rest)) (settled_isnt r)
          ∙ none_settled rest (not_true (list_any is_settled rest) g)
      | false ↦ λ f g.
          ap (λ b. cond b (not (list_any is_settled (with_oldest_settled rest)))
          (settled_are_first (with_oldest_settled rest))) f
          ∙ first_settled rest g
    ] refl e

pub settled_agrees : (places : ℕ) (q : RequestQueue) → QueueAgrees (suc places) q
    → QueueAgrees places (with_oldest_settled q)
settled_agrees places q a = record {
  connect_first = rest_settled q ∙ a.connect_first;
  within_limit = (let same = length_settled q in let limit = a.within_limit in omega arith);
  places_are_unsettled = count_settled q places a.places_are_unsettled;
  settled_first = first_settled q a.settled_first;
}

pub connect_settled : (q : RequestQueue) → waiting_connect (with_oldest_settled q) ≡ waiting_connect q
connect_settled [] = refl
connect_settled (Connect c ∷ rest) = refl
connect_settled (Write w ∷ rest) = refl
connect_settled (Sync s ∷ rest) =
    elim (not s.is_settled) as (λ b. waiting_connect
    (cond b (settled_request (Sync s) ∷ rest) (Sync s ∷ with_oldest_settled rest)) ≡ None) [ true ↦ refl | false ↦ refl ]
connect_settled (Held f ∷ rest) = refl

-- ---- the request in front is taken

pub taken_agrees : (places : ℕ) (r : PendingRequest) (rest : RequestQueue) → is_unsettled r ≡ false
    → QueueAgrees places (r ∷ rest) → QueueAgrees places rest
taken_agrees places r rest e a = record {
  connect_first = any_rest is_connect rest a.connect_first;
  within_limit = (let limit = a.within_limit in omega arith);
  places_are_unsettled =
      a.places_are_unsettled ∙ ap (λ b. cond b (suc (unsettled_count rest)) (unsettled_count rest)) e;
  settled_first =
      sym (ap (λ b. cond b (not (list_any is_settled rest)) (settled_are_first rest)) e) ∙ a.settled_first;
}
