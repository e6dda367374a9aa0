use Rattle.dsec_zonefile.proofs.DataWords.{not_taken, taken}
use Rattle.dsec_zonefile.proofs.data.read_data.Goals as goal

pub returns-then-not-is_readable-clause-value : goal.returns-then-not-is_readable-clause-value
returns-then-not-is_readable-clause-value c =
    not_taken c.args.rtype _ c.in_ok-octets.octets c.as_slice.result.now c.is_readable.result c.in_ok-octets.ensures c.as_slice.ensures c.is_readable.ensures c.if-not-is_readable.true

pub returns-clause-value : goal.returns-clause-value
returns-clause-value c =
    rw c.new.ensures (taken c.args.rtype _ c.in_ok-octets.octets c.as_slice.result.now c.is_readable.result c.in_ok-octets.ensures c.as_slice.ensures c.is_readable.ensures c.if-not-is_readable.false)
