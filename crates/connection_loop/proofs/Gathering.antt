-- Outputs that are gathered one after the other.
use Rattle.std.proofs.Common.{◌≡◌, ◌≢◌, ℕ, ◌+◌, ◌≤◌, nat_lt, ◌++◌, ◌∷◌, [], List, Bool, true, false, true≢false, length, refl, sym, ap, subst, ◌∙◌, arith, append_assoc}
use Rattle.std.proofs.lemmas.Bool.Decides.{nat_tests}
use Rattle.world.specs.declared.output.Output.{Output}
use Rattle.world.specs.declared.output.Output.TheVariants.{ToLeader, ToClient, CloseLeader, CloseClient}
use Rattle.intake.specs.declared.port.PortEnd.{PortEnd}
use Rattle.intake.specs.Ports.{sent_through, received_through, SamePort}
use Rattle.connection_loop.proofs.Ports.{same_port}
use Rattle.connection_loop.specs.Outgoing.{Unwritten, with_output, with_outputs, HasGathered, LosesOutput}
use Rattle.connection_loop.specs.Windows.{Window, with_output_noted, with_outputs_noted}

with_outputs-append : (u : Unwritten) (os : List Output) (o : Output)
    → with_outputs u (os ++ o ∷ []) ≡ with_output (with_outputs u os) o
with_outputs-append u [] o = refl
with_outputs-append u (p ∷ os) o = with_outputs-append (with_output u p) os o

is_some_output : (os : List Output) (o : Output) → os ++ o ∷ [] ≢ []
is_some_output [] o e = let n = ap (λ (l : List Output). length l) e in absurd (omega arith)
is_some_output (p ∷ os) o e = let n = ap (λ (l : List Output). length l) e in absurd (omega arith)

noted-append : (w : Window) (os : List Output) (o : Output)
    → with_outputs_noted w (os ++ o ∷ []) ≡ with_output_noted (with_outputs_noted w os) o
noted-append w [] o = refl
noted-append w (p ∷ os) o = noted-append (with_output_noted w p) os o

output_closes : (u : Unwritten) (o : Output) → u.closing ≡ true → (with_output u o).closing ≡ true
output_closes u (ToLeader bytes) closing = closing
output_closes u (ToClient n bytes) closing = closing
output_closes u (CloseLeader fault) closing = refl
output_closes u (CloseClient n) closing = refl

-- A connection that is to close stays so.
pub outputs_close : (u : Unwritten) (os : List Output) → u.closing ≡ true → (with_outputs u os).closing ≡ true
outputs_close u [] closing = closing
outputs_close u (o ∷ os) closing = outputs_close (with_output u o) os (output_closes u o closing)

none_are : (os : List Output) → (os ≢ [] → false ≡ true) → os ≡ []
none_are [] some = refl
none_are (o ∷ os) some = absurd (true≢false (sym (some (λ e. let n = ap (λ (l : List Output). length l) e in absurd (omega arith)))))

-- Where no output was gathered, nothing has changed.
pub nothing_gathered : (old mid : Unwritten) (counted counting : Window) (before came : PortEnd)
    → HasGathered old mid counted counting before came false → mid ≡ old
nothing_gathered old mid counted counting before came so =
    so.unwritten ∙ ap (λ os. with_outputs old os) (none_are so.outputs so.some.1)

pub not_enough : {A : Type 0} (bytes : List ℕ) → bytes ≡ [] → 65536 ≤ length bytes → A
not_enough bytes e l = let n = ap (λ (bs : List ℕ). length bs) e in absurd (omega arith)

some_gathered : (n : ℕ) → nat_lt 0 (n + 1) ≡ true
some_gathered n = grind (arith, nat_tests)

pub one_more : (old mid new : Unwritten) (counted counting counts : Window) (before came after : PortEnd)
    (gathered : ℕ) (o : Output)
    → HasGathered old mid counted counting before came (nat_lt 0 gathered) → mid.closing ≡ false
    → received_through after ≡ received_through came ++ o ∷ [] → sent_through after ≡ sent_through came
    → SamePort came after → new ≡ with_output mid o → counts ≡ with_output_noted counting o
    → HasGathered old new counted counts before after (nat_lt 0 (gathered + 1))
one_more old mid new counted counting counts before came after gathered o so on is sent port are noted =
    subst (λ found. HasGathered old new counted counts before after found) (sym (some_gathered gathered)) (record {
      outputs = so.outputs ++ o ∷ [];
      port = same_port before came after so.port port;
      sent = sent ∙ so.sent;
      received = is ∙ ap (λ l. l ++ o ∷ []) so.received ∙ append_assoc (received_through before) so.outputs (o ∷ []);
      unwritten = are ∙ ap (λ u. with_output u o) so.unwritten ∙ sym (with_outputs-append old so.outputs o);
      answers = noted ∙ ap (λ w. with_output_noted w o) so.answers ∙ sym (noted-append counted so.outputs o);
      some = (λ _. is_some_output so.outputs o, λ _. refl);
      none = λ closing. absurd (true≢false (sym (outputs_close old so.outputs closing)
          ∙ ap (λ (u : Unwritten). u.closing) (sym so.unwritten) ∙ on));
    })

-- One output more was received than is gathered.
pub one_lost : (old mid new : Unwritten) (counted counting : Window) (before came after : PortEnd) (found : Bool)
    (o : Output)
    → HasGathered old mid counted counting before came found
    → received_through after ≡ received_through came ++ o ∷ [] → sent_through after ≡ sent_through came
    → SamePort came after → new ≡ mid → LosesOutput old new counted before after
one_lost old mid new counted counting before came after found o so is sent port same = record {
  came = came;
  counts = counting;
  found = found;
  gathered = rw same so;
  lost = o;
  port = port;
  sent = sent;
  received = is;
}
