use Rattle.std.proofs.Common.{◌≡◌, ◌∙◌, ap, sym, refl, arith, length, Some}
use Rattle.names.specs.Names.{number_among}
use Rattle.names.proofs.Numbers.{has_number}
use Rattle.batcher.specs.declared.owners.Owners.{Owners}
use Rattle.batcher.proofs.Numbered.{numbered_before, numbered_last}
use Rattle.batcher.proofs.owners.Owners.number.Goals as goal

pub returns-then-number-len-clause-kept : goal.returns-then-number-len-clause-kept
returns-then-number-len-clause-kept c =
    let old = c.args.self.now in
    let new : Owners = record { names = c.number.new.self; groups = old.groups } in
    let long : c.len.result ≡ length old.groups.items = c.len.ensures ∙ old.groups.ok.0 in
    let number = c.in_ok-number.ensures.number in
    let below = c.if-number-len.true in
    numbered_before old new c.args.path.now c.requires c.in_ok-number.ensures.names refl (omega arith)

pub returns-clause-kept : goal.returns-clause-kept
returns-clause-kept c =
    let old = c.args.self.now in
    let new : Owners = record { names = c.number.new.self; groups = c.push.new.self } in
    let long : c.len.result ≡ length old.groups.items = c.len.ensures ∙ old.groups.ok.0 in
    let number = c.in_ok-number.ensures.number in
    let past = c.if-number-len.false in
    numbered_last old new c.args.path.now c.requires c.in_ok-number.ensures.names c.in_ok-push.ensures.items (omega arith)

pub returns-clause-number : goal.returns-clause-number
returns-clause-number c =
    ap (λ names. number_among names c.args.path.now) c.in_ok-number.ensures.names
    ∙ has_number c.args.self.now.names c.args.path.now
    ∙ ap Some (sym c.in_ok-number.ensures.number)
