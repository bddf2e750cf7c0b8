use Rattle.serve_options.proofs.command.options_in.Goals as goal

pub returns-in-Ok-clause-bounds : goal.returns-in-Ok-clause-bounds
returns-in-Ok-clause-bounds c = c.in-Ok.ensures.bounds c.in_ok-servers.servers
