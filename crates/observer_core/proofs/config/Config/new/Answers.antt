use Rattle.std.proofs.Common.{◌≡◌, true, refl, ap, ◌∙◌, to_z, of_z, w32}
use Rattle.std.proofs.Math.Facts.{to_z-of_z}
use Rattle.std.specs.Prelude.{ℤ, Option, FitsSigned}
use Rattle.settings.specs.Settings.{epoch_pair, timeout_pair, is_server_id, are_epochs, are_timeouts, is_secret, server_id_of, epochs_of, timeouts_of}
use Rattle.settings.proofs.Making.{made}
use Rattle.world.specs.declared.world.Settings.{Settings}
use Rattle.observer_core.proofs.config.Config.new.Goals as goal

-- Signed numbers are passed as their bits.
two_passed : {A : Type 0} (r : Option A) (f : ℤ → ℤ → Option A) (a b : ℤ) → FitsSigned w32 a → FitsSigned w32 b
    → r ≡ f (to_z w32 (of_z w32 a)) (to_z w32 (of_z w32 b)) → r ≡ f a b
two_passed r f a b fits fits' e = e ∙ ap (λ n. f n (to_z w32 (of_z w32 b))) (to_z-of_z fits)
    ∙ ap (f a) (to_z-of_z fits')

server : (c : goal.After-from_settings) → (is_server_id c.args.server_id ≡ true)
    × (c.in-Some.server_id ≡ c.args.server_id)
server c = made _ _ _ c.new.result (c.new.ensures ∙ ap server_id_of (to_z-of_z c.ranges.server_id)) c.in-Some.is

epochs : (c : goal.After-from_settings)
    → let asked = epoch_pair c.args.accepted_epoch c.args.current_epoch in
    (are_epochs asked ≡ true) × (c.in-Some-new.epochs ≡ asked)
epochs c =
    let e = two_passed _ epochs_of _ _ c.ranges.accepted_epoch c.ranges.current_epoch c.new-2.ensures in
    made _ _ _ c.new-2.result e c.in-Some-new.is

timeouts : (c : goal.After-from_settings)
    → let asked = timeout_pair c.args.min_timeout c.args.max_timeout in
    (are_timeouts asked ≡ true) × (c.in-Some-new-2.timeouts ≡ asked)
timeouts c =
    let e = two_passed _ timeouts_of _ _ c.ranges.min_timeout c.ranges.max_timeout c.new-3.ensures in
    made _ _ _ c.new-3.result e c.in-Some-new-2.is

secret : (c : goal.After-from_settings) → (is_secret c.args.secret ≡ true) × (c.in-Some-new-3.secret ≡ c.args.secret)
secret c = made _ _ _ c.new-4.result c.new-4.ensures c.in-Some-new-3.is

pub returns-clause-accepted : goal.returns-clause-accepted
returns-clause-accepted c = (λ _. ((server c).0, (epochs c).0, (timeouts c).0, (secret c).0), λ _. refl)

pub returns-clause-server : goal.returns-clause-server
returns-clause-server c = ap (λ (s : Settings). s.server_id) c.from_settings.ensures.settings ∙ (server c).1

pub returns-clause-epochs : goal.returns-clause-epochs
returns-clause-epochs c = ap (λ (s : Settings). s.epochs) c.from_settings.ensures.settings ∙ (epochs c).1

pub returns-clause-timeouts : goal.returns-clause-timeouts
returns-clause-timeouts c = ap (λ (s : Settings). s.timeouts) c.from_settings.ensures.settings ∙ (timeouts c).1

pub returns-clause-secret : goal.returns-clause-secret
returns-clause-secret c = ap (λ (s : Settings). s.secret) c.from_settings.ensures.settings ∙ (secret c).1
