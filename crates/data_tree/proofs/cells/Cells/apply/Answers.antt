use Rattle.std.proofs.Common.{sym, ap, subst, ◌∙◌, OnOk, OnErr, IfOk, Result, Ok, Err}
use Rattle.std.specs.FinMap as finmap
use Rattle.data_tree.specs.State.{State}
use Rattle.data_tree.specs.Meaning.{TxnEffect, answer_of}
use Rattle.data_tree.specs.Cells.{effect_in_cells}
use Rattle.data_tree.specs.Refused.{IsLeftByRefused}
use Rattle.data_tree.proofs.CellMeanings.{apart_mean, apart_left}
use Rattle.data_tree.proofs.cells.Cells.apply.Goals as goal

on_ok : {A E : Type 0} {P Q : Type 0} (r : Result A E) → (P → Q) → OnOk r P → OnOk r Q
on_ok (Ok x) f p = f p
on_ok (Err e) f p = tt

if_ok : {A E : Type 0} {P Q : A → Type 0} (r : Result A E) → ((a : A) → P a → Q a) → IfOk r P → IfOk r Q
if_ok (Ok x) f p = f x p
if_ok (Err e) f p = tt

on_err : {A E : Type 0} {P Q : Type 0} (r : Result A E) → (P → Q) → OnErr r P → OnErr r Q
on_err (Ok x) f p = tt
on_err (Err e) f p = f p

pub returns : goal.returns
returns c =
    let tree = c.self.inside.tree in
    let same = apart_mean finmap.empty c.args.txn.now tree in
    record {
      cells = on_ok c.apply.result (λ state.
          ap (λ (s : State). let t : State = record s { sessions = finmap.empty } in t) state
          ∙ ap (λ (m : TxnEffect). m.state) (sym same)
          ∙ ap (λ (s : State). (effect_in_cells s c.args.txn.now).state) c.self.view_is) c.apply.ensures.state;
      answer = if_ok c.apply.result (λ o is.
          is ∙ ap answer_of (sym same)
          ∙ ap (λ (s : State). answer_of (effect_in_cells s c.args.txn.now)) c.self.view_is) c.apply.ensures.answer;
      err = on_err c.apply.result (λ left.
          let new = c.apply.new.self in
          subst (λ (s : State). IsLeftByRefused c.args.txn.now.header c.args.txn.now.body s
          (let t : State = record new { sessions = finmap.empty } in t)) c.self.view_is
          (apart_left finmap.empty c.args.txn.now.header c.args.txn.now.body tree new left)) c.apply.ensures.err;
    }
