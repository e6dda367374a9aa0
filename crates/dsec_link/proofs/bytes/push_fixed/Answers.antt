use Rattle.std.proofs.Common.{append_assoc}
use Rattle.dsec_link.proofs.bytes.push_fixed.Goals as goal

pub returns-clause-ok : goal.returns-clause-ok
returns-clause-ok c =
    rw (c.in_ok-extend_from_slice-6.ensures.items, c.in_ok-extend_from_slice-5.ensures.items, c.in_ok-extend_from_slice-4.ensures.items, c.in_ok-extend_from_slice-3.ensures.items, c.in_ok-extend_from_slice-2.ensures.items, c.in_ok-extend_from_slice.ensures.items, c.to_be_bytes.ensures, c.to_be_bytes-2.ensures, c.to_be_bytes-3.ensures, c.to_be_bytes-4.ensures, c.to_be_bytes-5.ensures, c.to_int.ensures, c.to_int-2.ensures, c.as_secs.ensures, c.to_int-3.ensures, c.to_int-4.ensures) (simp append_assoc)
