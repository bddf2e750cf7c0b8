use Rattle.std.proofs.Common.{rules, ap, sym, ◌∙◌, ◌≡◌, [], ◌∷◌, All, arith, subst}
use Rattle.apply_board.specs.Views.{result_numbers, opener_view, with_seat_made, with_claim, with_result, with_spent}
use Rattle.apply_board.specs.Seats.{IsIdle, AreAllSeats}
use Rattle.apply_board_tests.proofs.boards.a_worker_claims_what_is_left.Goals as goal

pub close-groups-requires : goal.close-groups-requires
close-groups-requires g c = let board = c.in_ok-board.board in let a = c.claim-2.new.seat in
    let b = c.work-b.result in let n = c.in-Some-claim.first.number in
    let ends : a.view ≡ with_spent c.give.new.seat.view = search rules in
    let is = ends ∙ ap (λ v. with_spent v) (c.give.ensures.given ∙ ap (λ v. with_result v n c.apply.result)
    (c.in-Some-claim.ensures.claimed ∙ ap (λ v. with_claim v n) (c.in-Some.ensures.counted
    ∙ ap (λ v. with_seat_made v) c.in_ok-board.ensures.opener))) in
    let made = ap (λ v. v.made) is in let unjoined = ap (λ v. v.unjoined) is in
    let own : a.board ≡ board = c.claim-2.ensures.own ∙ (c.give.ensures.own ∙ (c.in-Some-claim.ensures.own
    ∙ (c.in-Some.ensures.own ∙ c.in_ok-board.ensures.own))) in
    let own' : b.board ≡ board = c.work-b.ensures.own ∙ (c.in-Some.ensures.newcomer.0 ∙ c.in_ok-board.ensures.own) in
    let idle : IsIdle a = ap (λ v. v.claimed) ends
    ∙ (c.give.ensures.idle ∙ ap (λ v. result_numbers v.given) (sym ends)) in
    let idle' : IsIdle b = c.work-b.ensures.idle in
    let seats : c.push-2.new.self.items ≡ a ∷ b ∷ [] = search rules in
    let each : All (λ seat. (seat.board ≡ board) × IsIdle seat) (a ∷ b ∷ []) = search (rules, own, own', idle, idle') in
    subst (AreAllSeats board) (sym seats) (omega arith, omega arith, each)
