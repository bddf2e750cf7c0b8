use Rattle.permissions.proofs.Rows.{worked_addresses, worked_permissions, worked_digests}
use Rattle.permissions.proofs.law.worked_permissions.Goals as goal

pub returns-clause-addresses : goal.returns-clause-addresses
returns-clause-addresses c = worked_addresses

pub returns-clause-permissions : goal.returns-clause-permissions
returns-clause-permissions c = worked_permissions

pub returns-clause-digests : goal.returns-clause-digests
returns-clause-digests c = worked_digests
