use Rattle.std.proofs.Common.{ap}
use Rattle.std.specs.Option.{is_some}
use Rattle.dsec_spec.specs.Layouts.{layout_of}
use Rattle.dsec_spec.proofs.RecordDataLemmas.{parts_of-readable}
use Rattle.dsec_wire.specs.Canonical.{canonical_in}
use Rattle.dsec_wire.proofs.CanonicalLoops.{canonical_added}
use Rattle.dsec_wire.proofs.data.Data.compose_canonical.Goals as goal

pub push_canonical-requires-clause-readable : goal.push_canonical-requires-clause-readable
push_canonical-requires-clause-readable c = rw (c.layout.ensures, c.as_slice-octets.ensures) (ap is_some (parts_of-readable c.self.inside.rtype c.self.inside.octets c.self.invariant))

pub returns-clause-ok : goal.returns-clause-ok
returns-clause-ok c =
    rw (← c.self.view_is)
    (canonical_added c.args.out.now.items c.push_canonical.new.out.items c.self.inside.octets (canonical_in (layout_of c.self.inside.rtype) c.self.inside.octets)
    (rw (c.layout.ensures, c.as_slice-octets.ensures, c.in_ok-reserve.ensures.items) at c.push_canonical.ensures))
