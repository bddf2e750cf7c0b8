-- Lists that gain items step by step.
use Rattle.std.proofs.Common.{◌≡◌, List, [], ◌++◌, Result, Ok, Err, refl, sym, ap, subst, ◌∙◌, append_assoc}
use Rattle.std.proofs.lemmas.List.{append-nil}
use Rattle.values.specs.Gains.{Gains, Puts}

pub gains_nothing : {A : Type 0} (old items : List A) → Gains old items old
gains_nothing old items = record { front = []; rest = items; gained = sym (append-nil old); of = refl }

pub gains_all : {A : Type 0} (old items new : List A) → new ≡ old ++ items → Gains old items new
gains_all old items new e = record { front = items; rest = []; gained = e; of = sym (append-nil items) }

-- A prefix of the first items is one of all.
pub gains_first : {A : Type 0} {old a new : List A} (b : List A) → Gains old a new → Gains old (a ++ b) new
gains_first {a = a} b g = record {
  front = g.front;
  rest =
      g.rest ++ b;
  gained = g.gained;
  of = ap (λ (x : List _). x ++ b) g.of ∙ append_assoc g.front g.rest b;
}

-- After the first items, all of which were appended.
pub gains_behind : {A : Type 0} {mid b new : List A} (old a : List A) → mid ≡ old ++ a → Gains mid b new
    → Gains old (a ++ b) new
gains_behind {b = b} old a e g = record {
  front = a ++ g.front;
  rest = g.rest;
  gained = g.gained ∙ ap (λ (x : List _). x ++ g.front) e ∙ append_assoc old a g.front;
  of = ap (λ (x : List _). a ++ x) g.of ∙ sym (append_assoc a g.front g.rest);
}

-- All the first items were appended, and then the others or a prefix of them.
pub puts_behind : {A U E : Type 0} (old a mid b new : List A) (r : Result U E) → mid ≡ old ++ a → Puts r mid b new
    → Puts r old (a ++ b) new
puts_behind old a mid b new (Ok u) e h = h ∙ ap (λ (x : List _). x ++ b) e ∙ append_assoc old a b
puts_behind old a mid b new (Err d) e h = gains_behind old a e h

-- The same items, given in another way.
pub puts_same : {A U E : Type 0} (old a b new : List A) (r : Result U E) → a ≡ b → Puts r old a new → Puts r old b new
puts_same old a b new r e h = subst (λ (x : List _). Puts r old x new) e h

pub gains_same : {A : Type 0} {old a b new : List A} → a ≡ b → Gains old a new → Gains old b new
gains_same {old = old} {new = new} e g = subst (λ (x : List _). Gains old x new) e g
