use Rattle.std.proofs.Common.{◌∙◌, IfOk, OnOk, Result, Ok, Err}
use Rattle.read_workers.proofs.Answering.{answers_are_looks}
use Rattle.read_workers.proofs.readers.look_all_on.Goals as goal

if_ok : {A E : Type 0} {P Q : A → Type 0} {B : Type 0} (r : Result A E) → (B → (a : A) → P a → Q a) → OnOk r B → IfOk r P
    → IfOk r Q
if_ok (Ok a) f b h = f b a h
if_ok (Err e) f b h = tt

pub returns : goal.returns
returns g c =
    record {
      looks = if_ok c.all_answers.result
          (λ all v is. is ∙ answers_are_looks c.in_ok-works.works.items c.in_ok-groups.groups.items
          c.in_ok-groups.ensures.count c.in_ok-groups.ensures.home all ∙ c.in_ok-works.ensures.looks)
          c.all_answers.ensures.answered c.all_answers.ensures.answers;
    }
