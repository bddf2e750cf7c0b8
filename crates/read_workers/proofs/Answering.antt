-- The answers that come home are those of the works.
use Rattle.std.proofs.Common.{◌≡◌, suc, List, [], ◌∷◌, ◌++◌, length, refl, sym, ap, ap₂, ◌∙◌, subst, arith, append_assoc}
use Rattle.std.specs.Prelude.{Vec}
use Rattle.std.specs.declared.alloc.Global.{Global}
use Rattle.std.specs.List.{flat_map}
use mathlib.Core.Option.{some}
use Rattle.apply_board.specs.declared.group.Group.{Group}
use Rattle.apply_board.specs.declared.group.Group.TheVariants.{Home, Unclaimed}
use Rattle.apply_board.specs.Closing.{AreHome}
use Rattle.read_processor.specs.declared.shown.Look.{Look}
use Rattle.read_workers.specs.declared.work.LookWork.{LookWork}
use Rattle.read_workers.specs.declared.work.Looked.{Looked}
use Rattle.read_workers.specs.declared.work.Looked.TheVariants.{Answered, Refused}
use Rattle.read_workers.specs.Working.{looks_for_work, AreLooksOf, answers_of, AreAnswered}

-- The answers of one more work were taken.
pub one_more_work : (looks looks' : List Look) (answers : Vec Look Global) (group : Group LookWork Looked)
    (old rest groups : List (Group LookWork Looked)) → old ≡ group ∷ rest → group ≡ Home (Answered answers)
    → looks' ≡ looks ++ answers.items → looks ++ answers_of old ≡ answers_of groups
    → looks' ++ answers_of rest ≡ answers_of groups
one_more_work looks looks' answers group old rest groups next is more before =
    ap (λ l. l ++ answers_of rest) more
    ∙ append_assoc looks answers.items (answers_of rest)
    ∙ ap (λ g. looks ++ answers_of (g ∷ rest)) (sym is)
    ∙ ap (λ gs. looks ++ answers_of gs) (sym next)
    ∙ before

-- Where the rest is answered, all is.
pub all_are_answered : (answers : Vec Look Global) (group : Group LookWork Looked)
    (old rest groups : List (Group LookWork Looked)) → old ≡ group ∷ rest → group ≡ Home (Answered answers)
    → (AreAnswered old → AreAnswered groups) → AreAnswered rest → AreAnswered groups
all_are_answered answers group old rest groups next is before after =
    before (subst (λ gs. AreAnswered gs) (sym (next ∙ ap (λ g. g ∷ rest) is)) after)

abbrev home_with : Looked → Group LookWork Looked
home_with looked = Home looked

same_answers : (answers : Vec Look Global) (looked : Looked)
    → some (home_with (Answered answers)) ≡ some (home_with looked) → Answered answers ≡ looked
same_answers answers looked e = cc

-- All works are home and answered, so the answers are theirs.
pub answers_are_looks : (works : List LookWork) (groups : List (Group LookWork Looked))
    → length groups ≡ length works → AreHome AreLooksOf works groups → AreAnswered groups
    → answers_of groups ≡ flat_map looks_for_work works
answers_are_looks [] [] l h a = refl
answers_are_looks [] (g ∷ groups) l h a = absurd (omega arith)
answers_are_looks (w ∷ works) [] l h a = absurd (omega arith)
answers_are_looks (w ∷ works) (Home (Answered answers) ∷ groups) l h a =
    let first = h 0 w refl in
    let own : answers.items ≡ looks_for_work w =
    subst (AreLooksOf w) (sym (same_answers answers first.0 first.1)) first.2 in
    ap₂ (λ xs ys. xs ++ ys) own (answers_are_looks works groups (omega arith) (λ k v e. h (suc k) v e) a)
answers_are_looks (w ∷ works) (Home Refused ∷ groups) l h a = absurd a
answers_are_looks (w ∷ works) (Unclaimed work ∷ groups) l h a = absurd a
