use Rattle.dsec_hashed.specs.Config.{hashing_of, without_flags}
use Rattle.dsec_hashed.proofs.DataLaws.{param_readable}
use Rattle.dsec_hashed.proofs.data.nsec3param_data.Goals as goal

pub new-requires-2 : goal.new-requires-2
new-requires-2 c = rw (c.new.ensures, c.in_ok-push_hashing.ensures.octets, c.new-octets.ensures.items) (param_readable (without_flags (hashing_of c.args.config.now)) c.in_ok-push_hashing.ensures.short)
