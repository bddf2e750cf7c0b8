use Rattle.following.proofs.Refusing.{hopeless_after_five, served_begins_anew}
use Rattle.following.proofs.law.refusals.Goals as goal

pub returns : goal.returns
returns c = record { hopeless = hopeless_after_five; served = served_begins_anew }
