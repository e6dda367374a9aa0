use Rattle.std.proofs.Common.{◌≡◌, ◌∙◌, sym, ap, drop, Some, None}
use Rattle.std.specs.Option.{option_map}
use Rattle.dsec_spec.specs.RecordData.{name_in}
use Rattle.dsec_name.specs.NameRefs.{name_view, prefix_view}
use Rattle.dsec_wire.proofs.RrsigReading.{rrsig_no_head, rrsig_no_signer, rrsig_whole}
use Rattle.dsec_wire.proofs.rrsig.read_rrsig.Goals as goal

pub returns-in_err-head : goal.returns-in_err-head
returns-in_err-head c =
    rw c.from_residual.ensures (sym (rrsig_no_head c.args.octets.now (sym c.rrsig_head_of.ensures.head ∙ c.in_err-head.was)))

pub returns-in_err-signer_name : goal.returns-in_err-signer_name
returns-in_err-signer_name c =
    let none : name_in (drop 18 c.args.octets.now) ≡ None = ap name_in (sym c.split_at.ensures.back) ∙ (sym c.from_prefix.ensures ∙ ap (option_map prefix_view) c.in_err-signer_name.was) in
    rw c.from_residual-in_err-signer_name.ensures (sym (rrsig_no_signer c.args.octets.now c.in_ok-head.head (sym c.rrsig_head_of.ensures.head ∙ c.in_ok-head.was) none))

pub returns : goal.returns
returns c =
    let signer : name_in (drop 18 c.args.octets.now) ≡ Some (name_view c.in_ok-signer_name.signer_name, c.in_ok-signer_name.signature.now) =
    ap name_in (sym c.split_at.ensures.back) ∙ (sym c.from_prefix.ensures ∙ ap (option_map prefix_view) c.in_ok-signer_name.was) in
    sym (rrsig_whole c.args.octets.now c.in_ok-head.head _ (sym c.rrsig_head_of.ensures.head ∙ c.in_ok-head.was) signer)
