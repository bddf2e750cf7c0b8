use Rattle.std.proofs.Common.{ap, sym, ◌∙◌, ◌≡◌, ◌<◌, ◌∷◌, [], reverse, arith, refl, subst}
use Rattle.std.proofs.lemmas.List.{reverse-append, reverse-reverse}
use Rattle.apply_board.specs.Seats.{IsIdle}
use Rattle.apply_board.specs.Views.{result_numbers, with_seat_joined}
use Rattle.apply_board.specs.Inner.Fields.{with_sittings}
use Rattle.apply_board.proofs.Each.{Each, each}
use Rattle.apply_board.proofs.Ends.{takes_in}
use Rattle.apply_board.proofs.Hands.{idle_hand}
use Rattle.apply_board.proofs.Seating.{joins}
use Rattle.apply_board.proofs.seat.Board.gather.Goals as goal

pub loop-other-init : goal.loop-other-init
loop-other-init g c = let e = ap (λ l. reverse l) c.reverse.ensures.items ∙ reverse-reverse c.args.others.items in
    record {
      own = refl;
      id = refl;
      hand = refl;
      made = c.requires.opener.0;
      seated = c.requires.opener.1;
      others = subst (Each (λ s. (s.board ≡ c.args.self.now) × IsIdle s)) (sym e)
          (each (λ s. (s.board ≡ c.args.self.now) × IsIdle s) c.args.others.items c.requires.others);
      same = ap (with_sittings c.args.place.now.me.0) e;
    }

pub join_seat-requires : goal.join_seat-requires
join_seat-requires g c = let inv = c.loop-other.invariant in let e = ap (λ l. reverse l) c.in-Some.ensures.items
    ∙ reverse-append c.pop.new.self.items (c.in-Some.other ∷ []) in
    let o = subst (Each (λ s. (s.board ≡ c.args.self.now) × IsIdle s)) e inv.others in let v = c.other.view_is in
    let w = c.self.invariant.words_is in
    let idle = ap (λ s. s.view.claimed) v ∙ (o.0.1 ∙ ap (λ s. result_numbers s.view.given) (sym v)) in (
      inv.own ∙ (c.requires.own ∙ sym c.self.view_is),
      ap (λ s. s.board) v ∙ (o.0.0 ∙ sym c.self.view_is),
      c.other.invariant.hand_is ∙ idle_hand c.other.inside.place.me.0 idle,
      omega arith,
      joins _ _ _ _ _ _ inv.made inv.seated c.other.invariant.seated idle,
    )

pub loop-other-preserved : goal.loop-other-preserved
loop-other-preserved g c = let inv = c.loop-other.invariant in let e = ap (λ l. reverse l) c.in-Some.ensures.items
    ∙ reverse-append c.pop.new.self.items (c.in-Some.other ∷ []) in
    let o = subst (Each (λ s. (s.board ≡ c.args.self.now) × IsIdle s)) e inv.others in let seat = c.in-Some.other in
    let is = c.other.view_is in
    let j = c.join_seat.ensures in let v = c.loop-other.place.me.0 in let rest = reverse c.pop.new.self.items in
    let taken = ap (λ s. with_seat_joined v s.view) is ∙ takes_in v seat (ap (λ s. s.view.gathered) (sym is)
    ∙ c.other.invariant.alone) (ap (λ s. s.view.gathered_marks) (sym is) ∙ c.other.invariant.unmarked) in record {
      own = j.0 ∙ inv.own;
      id = j.1 ∙ inv.id;
      hand = ap (λ m. m.1) j.2 ∙ inv.hand;
      made = subst (λ m. 0 < m.0.made) (sym j.2) inv.made;
      seated = ap (λ m. m.0.seated) j.2 ∙ inv.seated;
      others = o.1;
      same = ap (λ m. with_sittings m.0 rest) j.2 ∙ (ap (λ u. with_sittings u rest) taken
          ∙ (ap (with_sittings v) (sym e) ∙ inv.same));
    }
