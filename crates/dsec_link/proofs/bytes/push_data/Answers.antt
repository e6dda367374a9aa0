use Rattle.std.proofs.Common.{◌≡◌, ◌∙◌, ap, sym, length, append_assoc}
use Rattle.dsec_link.specs.Sets.{canonical_of}
use Rattle.dsec_link.proofs.SetLemmas.{data_as_long}
use Rattle.dsec_link.proofs.bytes.push_data.Goals as goal

pub returns : goal.returns
returns c =
    let one = c.args.one.now in
    let signed = canonical_of one in
    let size : c.len.result ≡ length signed = c.len.ensures ∙ (ap length c.octets.ensures.value ∙ sym (data_as_long one.rtype one.octets)) in
    rw (c.in_ok-compose_canonical.ensures.ok, c.in_ok-push_front.ensures, size) (simp append_assoc)
