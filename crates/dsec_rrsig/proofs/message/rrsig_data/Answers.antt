use Rattle.std.proofs.Common.{◌≡◌, ◌++◌, append_assoc}
use Rattle.dsec_spec.specs.Names.{wire_octets}
use Rattle.dsec_spec.specs.Records.{fixed_octets}
use Rattle.dsec_wire.specs.Views.{rrsig_view}
use Rattle.dsec_rrsig.proofs.SetMessages.{rrsig_readable}
use Rattle.dsec_rrsig.proofs.message.rrsig_data.Goals as goal

pub new-requires-2 : goal.new-requires-2
new-requires-2 c =
    let octets : c.new.result ≡ fixed_octets (rrsig_view c.args.rrsig.now) ++ wire_octets c.args.signer.now ++ c.args.signature.now =
    rw (c.new.ensures, c.in_ok-extend_from_slice.ensures.items, c.in_ok-compose.ensures.ok, c.in_ok-push_fixed.ensures.ok, c.in_ok-octets.ensures.items) (simp append_assoc) in
    rw octets (rrsig_readable (rrsig_view c.args.rrsig.now) c.args.signer.now c.args.signature.now c.compose.ensures.name c.requires)
